-- What is to come has the first misfit of all.
use Rattle.std.proofs.Common.{◌≡◌, drop}
use Rattle.std.specs.Prelude.{slice_get}
use Rattle.toml_edit_repr.specs.Modes.{mode_of}
use Rattle.toml_edit_tree.specs.View.{items_view, slots_view}
use Rattle.toml_edit_fits.specs.Misfits.{elements_misfits, tables_misfits}
use Rattle.toml_edit_fits.proofs.table.+tables.Given as goal

abbrev pub invariant-tables_fit-slots : goal.invariant-tables_fit-slots
invariant-tables_fit-slots g l =
    slice_get (tables_misfits (mode_of l.mode) l.route (slots_view (drop l.slot-index l.entries))) 0
    ≡ slice_get (tables_misfits (mode_of l.mode) l.route (slots_view l.entries)) 0

abbrev pub invariant-elements_fit-items : goal.invariant-elements_fit-items
invariant-elements_fit-items g l =
    slice_get (elements_misfits (mode_of l.mode) l.route l.key l.number (items_view (drop l.number l.item-items))) 0
    ≡ slice_get (elements_misfits (mode_of l.mode) l.route l.key 0 (items_view l.item-items)) 0
