-- What changes inside a value, so that the value still fits anywhere.
use Rattle.std.specs.Prelude.{◌≡◌, true, List, ◌∷◌, Some}
use Rattle.toml_edit_model.specs.Mode.{Mode}
use Rattle.toml_edit_model.specs.Text.{Text}
use Rattle.toml_edit_model.specs.Tree.{Key, Node, IsWellMade, SlotsAreWellMade, Tree, is_value_node}
use Rattle.toml_edit_model.specs.HeaderOrder.{Visit}
use Rattle.toml_edit_model.specs.Fits.{FitsIn, is_steady_in}
use Rattle.toml_edit_model.specs.Keys.{names}
use Rattle.toml_edit_model.specs.Slots.{keyed, lookup_slot}
use Rattle.toml_edit_model.specs.Lists.{slot_list}
use Rattle.toml_edit_laws.specs.Locality.{Turn, Leads, root_visit, is_plain_value}
use Rattle.toml_edit_edit_laws.specs.Commands.{done, item_below, set_below, remove_below}
use Rattle.toml_edit_edit_laws.specs.CommandLaws.{is_scalar}
use Rattle.toml_edit_edit_laws.specs.Fitting.{FitsAnywhere}

module _ (mode : Mode) where
  -- A scalar takes the place of a value inside a value. It keeps the decor that was there, which is
  -- printed unless the value was a dotted inline table.
  abbrev pub SetInsideFits : Type 0
  SetInsideFits =
      (v old n x : Node) (inner : List Key) → IsWellMade old → FitsAnywhere mode old
      → is_scalar v ≡ true → item_below (names inner) old ≡ Some x → is_plain_value x ≡ true
      → set_below v inner old ≡ done n → FitsAnywhere mode n

  -- Something inside a value is removed.
  abbrev pub RemoveInsideFits : Type 0
  RemoveInsideFits =
      (old n : Node) (x : Text) (inner : List Text) → IsWellMade old → FitsAnywhere mode old
      → remove_below (x ∷ inner) old ≡ done n → FitsAnywhere mode n

  -- A value in a table of a tree that fits, fits anywhere.
  abbrev pub HeldValuesFit : Type 0
  HeldValuesFit =
      (t : Tree) (way : List Turn) (v : Visit) (k : Text) (l : Key) (old : Node)
      → SlotsAreWellMade t.slots → is_steady_in mode t ≡ true → FitsIn mode t
      → Leads way (root_visit t) v → lookup_slot k (slot_list v.slots) ≡ Some (keyed l old)
      → is_value_node old ≡ true → FitsAnywhere mode old
