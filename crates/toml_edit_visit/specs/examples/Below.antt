-- The paths of the items below an item, by computation.
use Rattle.std.specs.Prelude.{◌≡◌, refl, true, List, [], ◌∷◌, None, codes, map}
use Rattle.std.specs.Fmt.{digits}
use Rattle.toml_edit_model.specs.Conversions.{new_array, new_inline, new_table}
use Rattle.toml_edit_model.specs.Keys.{new_key}
use Rattle.toml_edit_model.specs.Scalars.{boolean}
use Rattle.toml_edit_model.specs.Text.{Text}
use Rattle.toml_edit_model.specs.Tree.{Node, nothing, leaf, list, inline, table, no_items, item, no_slots, slot, unset}
use Rattle.toml_edit_visit.specs.Below.{items_below}
use Rattle.toml_edit_visit.specs.Steps.{path_text}

abbrev paths : Node → List Text
paths n = map (λ x. path_text x.0) (items_below [] n)

abbrev yes : Node
yes = leaf (boolean true) None unset

-- a table with one slot
abbrev holding : Text → Node → Node
holding k n = table new_table (slot (new_key k) n no_slots)

-- a value, a placeholder, and an inline table
abbrev values : Node
values =
    list new_array (item yes (item nothing
    (item (inline new_inline (slot (new_key (codes "b c")) yes no_slots)) no_items)))

-- each is before those below it
in_order : paths (holding (codes "a") values)
    ≡ codes "a" ∷ codes "a.0" ∷ codes "a.2" ∷ codes "a.2.\"b c\"" ∷ []
unfolding digits
in_order = refl

-- a placeholder is left out, and so is a table in a slot of an array
none : (paths (holding (codes "a") nothing) ≡ [])
    × (paths (list new_array (item (holding (codes "b") yes) no_items)) ≡ [])
none = (refl, refl)
