-- Items that a closure is called on, and what is left where they are replaced, by computation.
use Rattle.std.specs.Prelude.{◌≡◌, refl, Bool, true, false, List, [], ◌∷◌, Option, Some, None, codes}
use Rattle.std.specs.Fmt.{digits}
use Rattle.toml_edit_model.specs.Text.{Text, same_text}
use Rattle.toml_edit_model.specs.Syntax.{array, inline_table, no_elements, element, no_pairs, Document}
use Rattle.toml_edit_model.specs.Tree.{Node, nothing, no_slots, slot, Tree}
use Rattle.toml_edit_model.specs.Print.{print}
use Rattle.toml_edit_model.specs.TreeOf.{owned_form}
use Rattle.toml_edit_model.specs.examples.ComputedTree.{tree_of}
use Rattle.toml_edit_model.specs.examples.Parts.{line, head, document, pair_of, a, b, x, one_value, plain_key, plain_int, root_of, all_true}
use Rattle.toml_edit_edit_laws.specs.Commands.{Answer, done, refused, root_item, shown_item}
use Rattle.toml_edit_paths.specs.Calls.{item_inside, replaced_at}

abbrev writes : Text → Answer Tree → Bool
writes text (done u) = same_text (print u) text
writes text (refused r) = false

abbrev shows : Text → Option Node → Bool
shows text None = false
shows text (Some n) = same_text (shown_item n) text

abbrev is_absent : Option Node → Bool
is_absent None = true
is_absent (Some n) = false

abbrev tree : Document → Tree
tree d = tree_of owned_form d

abbrev found : List Text → Tree → Option Node
found path t = item_inside path (root_item t)

abbrev ka : Text
ka = codes "a"

abbrev kb : Text
kb = codes "b"

abbrev kx : Text
kx = codes "x"

abbrev one_in_array : Document
one_in_array = document (head true (a ∷ []) ∷ line (x ∷ []) one_value ∷ [])

abbrev in_values : Document
in_values =
    document (line (a ∷ []) (array (element (record { before = []; after = [] })
    (inline_table (pair_of (codes " ") (b ∷ []) one_value (codes " ") no_pairs) false [])
    no_elements) false []) ∷ [])

-- the item at the path is another, which has its own decor
replaced : all_true (
    writes (codes "[[a]]\nx = 2\n")
    (replaced_at (ka ∷ codes "0" ∷ kx ∷ []) (plain_int 2) (tree one_in_array))
    ∷ writes (codes "a = 2\n") (replaced_at (ka ∷ []) (plain_int 2) (tree in_values))
    ∷ writes (codes "a = [{ b = 2 }]\n")
    (replaced_at (ka ∷ codes "0" ∷ kb ∷ []) (plain_int 2) (tree in_values))
    ∷ []
    ) ≡ true
unfolding digits print
replaced = refl

-- tables and elements are found, and no root, no placeholder and nothing that is missing
found_or_not : all_true (
    shows (codes "1\n") (found (ka ∷ codes "0" ∷ kx ∷ []) (tree one_in_array))
    ∷ shows (codes "x = 1\n") (found (ka ∷ codes "0" ∷ []) (tree one_in_array))
    ∷ shows (codes "{ b = 1 }\n") (found (ka ∷ codes "0" ∷ []) (tree in_values))
    ∷ is_absent (found [] (tree in_values))
    ∷ is_absent (found (kb ∷ []) (tree in_values))
    ∷ is_absent (found (ka ∷ codes "1" ∷ []) (tree in_values))
    ∷ is_absent (found (ka ∷ []) (root_of (slot (plain_key ka) nothing no_slots)))
    ∷ []
    ) ≡ true
unfolding digits print
found_or_not = refl

abbrev is_refused : Answer Tree → Bool
is_refused (done u) = false
is_refused (refused r) = true

-- nothing is made for a key that is missing, or in place of a placeholder
nothing_is_made : all_true (
    is_refused (replaced_at (kb ∷ []) (plain_int 2) (tree in_values))
    ∷ is_refused (replaced_at (kb ∷ kx ∷ []) (plain_int 2) (tree in_values))
    ∷ is_refused
    (replaced_at (ka ∷ kb ∷ []) (plain_int 2) (root_of (slot (plain_key ka) nothing no_slots)))
    ∷ []
    ) ≡ true
unfolding digits print
nothing_is_made = refl
