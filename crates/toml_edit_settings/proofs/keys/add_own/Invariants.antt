-- What is said up to here, and by the slots that are left, is all.
use Rattle.std.proofs.Common.{◌≡◌, ◌++◌, drop}
use Rattle.std.specs.Prelude.{flat_map}
use Rattle.toml_edit_settings.specs.SettingsText.{own_said}
use Rattle.toml_edit_settings.specs.SaidView.{sayings}
use Rattle.toml_edit_tree.specs.Indexed.{shown_slots}
use Rattle.toml_edit_settings.proofs.keys.add_own.Given as goal

abbrev pub invariant-slots : goal.invariant-slots
invariant-slots l =
    sayings l.said ++ flat_map own_said (shown_slots (drop l.slot-index l.entries)) ≡ sayings l.fn.said ++ flat_map own_said (shown_slots l.entries)
