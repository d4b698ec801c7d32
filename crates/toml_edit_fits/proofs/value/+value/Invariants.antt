-- What is to come has the first misfit of all.
use Rattle.std.proofs.Common.{◌≡◌, drop}
use Rattle.std.specs.Prelude.{slice_get}
use Rattle.toml_edit_repr.specs.Modes.{mode_of}
use Rattle.toml_edit_tree.specs.View.{items_view, slots_view}
use Rattle.toml_edit_fits.specs.LinePlaces.{place_misfits}
use Rattle.toml_edit_fits.specs.Misfits.{items_misfits}
use Rattle.toml_edit_fits.proofs.value.+value.Given as goal

abbrev pub invariant-items_fit-items : goal.invariant-items_fit-items
invariant-items_fit-items g l =
    slice_get (items_misfits (mode_of l.mode) l.room l.number (items_view (drop l.number l.item-items))) 0
    ≡ slice_get (items_misfits (mode_of l.mode) l.room 0 (items_view l.item-items)) 0

abbrev pub invariant-lines_fit-slots : goal.invariant-lines_fit-slots
invariant-lines_fit-slots g l =
    slice_get (place_misfits (mode_of l.mode) l.place l.route (slots_view (drop l.slot-index l.entries))) 0
    ≡ slice_get (place_misfits (mode_of l.mode) l.place l.route (slots_view l.entries)) 0
