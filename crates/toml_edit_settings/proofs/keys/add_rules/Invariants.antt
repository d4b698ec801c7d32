-- What is said up to here, and by the slots that are left, is all.
use Rattle.std.proofs.Common.{◌≡◌, ◌++◌, drop, map}
use Rattle.toml_edit_settings.specs.SettingsText.{rule_said}
use Rattle.toml_edit_settings.specs.SaidView.{sayings}
use Rattle.toml_edit_tree.specs.Indexed.{shown_slots}
use Rattle.toml_edit_settings.proofs.keys.add_rules.Given as goal

abbrev pub invariant-slots : goal.invariant-slots
invariant-slots l =
    sayings l.said ++ map (rule_said l.pattern) (shown_slots (drop l.slot-index l.entries)) ≡ sayings l.fn.said ++ map (rule_said l.pattern) (shown_slots l.entries)
