-- There are rows if there are by what was found and by the events that are left.
use Rattle.std.proofs.Common.{◌≡◌, ℕ, true, false, length}
use Rattle.toml_edit_syntax.specs.LateEvents.{AreIn}
use Rattle.toml_edit_fmt.specs.RulesView.{rules_of}
use Rattle.toml_edit_fmt.specs.ValueBits.{counted}
use Rattle.toml_edit_fmt.proofs.RowLaws.{rows}
use Rattle.toml_edit_fmt.proofs.measure.is_in_rows.Given as goal

abbrev pub invariant-elements : goal.invariant-elements
invariant-elements l =
    record {
      spans : AreIn l.page.source.now l.rest;
      rows : (indent : ℕ) → l.indent ≡ counted indent
          → (used : ℕ) × (l.used ≡ counted used) × (rows l.page.source.now (rules_of l.page.rules) indent l.has_break l.has_joint l.is_first used l.rest
          ≡ rows l.page.source.now (rules_of l.page.rules) indent false false true indent l.events);
    }

abbrev pub decreases-elements : goal.decreases-elements
decreases-elements l = length l.rest
