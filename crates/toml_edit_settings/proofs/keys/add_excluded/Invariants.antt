-- What is said up to here, and by the items that are left, is all.
use Rattle.std.proofs.Common.{◌≡◌, ◌++◌, drop, map}
use Rattle.toml_edit_settings.specs.SettingsText.{left_out}
use Rattle.toml_edit_settings.specs.SaidView.{sayings, shown_slot}
use Rattle.toml_edit_tree.specs.Elements.{listed}
use Rattle.toml_edit_settings.proofs.keys.add_excluded.Given as goal

abbrev pub invariant-items : goal.invariant-items
invariant-items l =
    sayings l.said ++ map (left_out (shown_slot l.slot)) (listed (drop l.item-index l.items))
    ≡ sayings l.fn.said ++ map (left_out (shown_slot l.slot)) (listed l.items)
