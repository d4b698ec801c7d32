-- Worked places of paths.
use Rattle.std.specs.Prelude.{◌≡◌, refl, [], ◌∷◌, codes, None}
use Rattle.std.specs.Fmt.{digits}
use Rattle.toml_edit_model.specs.Conversions.{new_table}
use Rattle.toml_edit_model.specs.Keys.{new_key}
use Rattle.toml_edit_model.specs.Paths.{at_element, at_key}
use Rattle.toml_edit_model.specs.Text.{Text}
use Rattle.toml_edit_model.specs.Tree.{Node, Tree, item, no_items, no_slots, owned, slot, table, tables}
use Rattle.toml_edit_model.specs.examples.Parts.{plain_int}
use Rattle.toml_edit_edit_laws.specs.Places.{place_of}

abbrev pub a : Text
a = codes "a"

abbrev pub b : Text
b = codes "b"

-- `[[a]]` twice, each with the line `b = 1`
abbrev pub element : Node
element = table new_table (slot (new_key b) (plain_int 1) no_slots)

abbrev pub two : Tree
two = record {
  root = new_table;
  slots = slot (new_key a) (tables None (item element (item element no_items))) no_slots;
  trailing = owned [];
}

line_of_an_element : place_of two (a ∷ codes "1" ∷ b ∷ []) ≡ at_key a ∷ at_element 1 ∷ at_key b ∷ []
unfolding digits
line_of_an_element = refl

-- an element has the place of its array, since a removal counts those after it anew
element_itself : place_of two (a ∷ codes "1" ∷ []) ≡ at_key a ∷ []
element_itself = refl

-- so has what no element names
no_such_element : place_of two (a ∷ codes "2" ∷ b ∷ []) ≡ at_key a ∷ []
unfolding digits
no_such_element = refl
