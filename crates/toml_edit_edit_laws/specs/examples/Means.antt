-- Worked paths of facts, and facts outside of a path.
use Rattle.std.specs.Prelude.{◌≡◌, refl, [], ◌∷◌, codes, None}
use Rattle.std.specs.Fmt.{digits}
use Rattle.toml_edit_model.specs.Conversions.{new_array, new_inline, new_table}
use Rattle.toml_edit_model.specs.Keys.{new_key}
use Rattle.toml_edit_model.specs.Meaning.{a_table, fact}
use Rattle.toml_edit_model.specs.Paths.{at_element, at_key}
use Rattle.toml_edit_model.specs.Shown.{shown_meaning}
use Rattle.toml_edit_model.specs.Tree.{Node, Tree, inline, item, list, no_items, no_slots, nothing, owned, slot, tables}
use Rattle.toml_edit_model.specs.examples.Parts.{plain_int}
use Rattle.toml_edit_edit_laws.specs.Means.{facts_outside, meant_at, shown_at}
use Rattle.toml_edit_edit_laws.specs.examples.PathPlaces.{a, b, element, two}

abbrev with_a : Node → Tree
with_a n = record { root = new_table; slots = slot (new_key a) n no_slots; trailing = owned [] }

-- `a = {b = [.., 1]}`, whose first element is a placeholder
abbrev nested : Tree
nested =
    with_a (inline new_inline (slot (new_key b) (list new_array (item nothing (item (plain_int 1) no_items))) no_slots))

-- inside a value, the only value of an array is its first
in_a_value : meant_at nested (a ∷ b ∷ codes "1" ∷ []) ≡ at_key a ∷ at_key b ∷ at_element 0 ∷ []
unfolding digits
in_a_value = refl

in_an_element : meant_at two (a ∷ codes "1" ∷ b ∷ []) ≡ at_key a ∷ at_element 1 ∷ at_key b ∷ []
unfolding digits
in_an_element = refl

-- what is missing is named by keys
missing : meant_at nested (b ∷ a ∷ []) ≡ at_key b ∷ at_key a ∷ []
missing = refl

outside_of_b : facts_outside (at_key a ∷ at_key b ∷ []) (shown_meaning nested)
    ≡ fact [] a_table ∷ fact (at_key a ∷ []) a_table ∷ []
unfolding shown_meaning
outside_of_b = refl

-- an array of tables inside a value has no facts, so a path into it leads to nothing that is meant
abbrev hiding : Tree
hiding = with_a (inline new_inline (slot (new_key b) (tables None (item element no_items)) no_slots))

hidden : shown_meaning hiding ≡ fact [] a_table ∷ fact (at_key a ∷ []) a_table ∷ []
unfolding shown_meaning
hidden = refl

not_found : shown_at (a ∷ b ∷ codes "0" ∷ []) hiding ≡ None
not_found = refl
