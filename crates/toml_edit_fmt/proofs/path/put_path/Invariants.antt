-- The events that are left write the rest of the key.
use Rattle.std.proofs.Common.{◌≡◌, ◌≤◌, List, length, string_bytes}
use Rattle.toml_edit_model.specs.Text.{Text}
use Rattle.toml_edit_syntax.specs.declared.event.Event.{Event}
use Rattle.toml_edit_syntax.specs.LateEvents.{AreIn}
use Rattle.toml_edit_fmt.specs.RulesView.{rules_of}
use Rattle.toml_edit_fmt.proofs.PathLaws.{Writes}
use Rattle.toml_edit_fmt.proofs.path.put_path.Given as goal

abbrev pub invariant-keys : goal.invariant-keys
invariant-keys l =
    record {
      spans : AreIn l.page.source.now l.rest;
      shorter : length l.rest ≤ length l.events;
      source : l.page.source ≡ l.fn.page.source;
      rules : l.page.rules ≡ l.fn.page.rules;
      run : l.page.run ≡ l.fn.page.run;
      left : (more : List Event) (all : Text)
          → Writes l.fn.page.source.now (rules_of l.fn.page.rules) more all l.events (string_bytes l.fn.page.text)
          → Writes l.fn.page.source.now (rules_of l.fn.page.rules) more all l.rest (string_bytes l.page.text);
    }

abbrev pub decreases-keys : goal.decreases-keys
decreases-keys l = length l.rest
