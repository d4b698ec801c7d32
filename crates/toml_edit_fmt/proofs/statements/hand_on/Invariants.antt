use Rattle.std.proofs.Common.{◌≡◌, ℕ, ◌++◌, List, length}
use Rattle.toml_edit_model.specs.Syntax.{Statement}
use Rattle.toml_edit_model.specs.Text.{Text}
use Rattle.toml_edit_syntax.specs.Batches.{last_events}
use Rattle.toml_edit_syntax.specs.Events.{events_from}
use Rattle.toml_edit_syntax.specs.LateEvents.{AreIn}
use Rattle.toml_edit_syntax.specs.declared.lexer.BatchEnd.{BatchEnd}
use Rattle.toml_edit_fmt.proofs.WalkLaws.{Left}
use Rattle.toml_edit_fmt.proofs.statements.hand_on.Given as goal

abbrev pub invariant-statements : goal.invariant-statements
invariant-statements g l =
    record {
      source : g.S.Statements.source l.to ≡ g.S.Statements.source l.initial.to;
      spans : AreIn (g.S.Statements.source l.to) l.rest;
      progress : (ss : List Statement) (start : ℕ) (end : BatchEnd) (whole : ℕ) (final : Text)
          → l.events ≡ events_from start ss ++ last_events end whole final
          → Left g.S.Statements.takes start ss (last_events end whole final) l.initial.to l.to l.rest;
    }

abbrev pub decreases-statements : goal.decreases-statements
decreases-statements g l = length l.rest
