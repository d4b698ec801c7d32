-- Worked edits of trees of texts: their prints, by computation.
use Rattle.std.specs.Prelude.{◌≡◌, refl, Bool, true, false, List, [], ◌∷◌, codes}
use Rattle.std.specs.Fmt.{digits}
use Rattle.toml_edit_model.specs.Text.{Text, newline, same_text}
use Rattle.toml_edit_model.specs.Syntax.{Segment, Value, Statement, key_line, Document}
use Rattle.toml_edit_model.specs.Print.{print}
use Rattle.toml_edit_model.specs.Fits.{is_steady}
use Rattle.toml_edit_model.specs.TreeOf.{owned_form}
use Rattle.toml_edit_model.specs.examples.ComputedTree.{tree_of}
use Rattle.toml_edit_model.specs.Tree.{Node}
use Rattle.toml_edit_model.specs.Slots.{Slot, on_item, with_item, changed, inserted, without}
use Rattle.toml_edit_model.specs.Lists.{on_items}
use Rattle.toml_edit_model.specs.ArrayCalls.{removed_at}
use Rattle.toml_edit_model.specs.examples.Parts.{line, head, document, a, b, c, d, x, y, one_value, two_value, three_value, plain_int}
use Rattle.toml_edit_laws.specs.Locality.{Turn, into_table, into_element, edited}

-- the document's tree prints the first text, the edited tree the second, and both are steady
abbrev becomes : Document → List Turn → (List (Slot Node) → List (Slot Node)) → Text → Text
    → List Bool
becomes doc way g before after =
    let t = tree_of owned_form doc in
    let u = edited way g t in
    same_text (print t) before ∷ same_text (print u) after ∷ is_steady t ∷ is_steady u ∷ []

abbrev all_four : List Bool
all_four = true ∷ true ∷ true ∷ true ∷ []

-- a line with trivia around it
abbrev pub commented : Text → Segment → Value → Text → Statement
commented before k v after =
    key_line (record {
      leading = before;
      path = k ∷ [];
      before_equals = codes " ";
      after_equals = codes " ";
      trailing = after;
    }) v newline

abbrev inserts_present : Document
inserts_present = document (commented (codes "# c\n") a one_value (codes " # d") ∷ [])

-- `insert` resets the key and its decor, and a write through a reference keeps the key
insert_present : becomes inserts_present [] (inserted (codes "a") (plain_int 2))
    (codes "# c\na = 1 # d\n") (codes "a = 2\n") ≡ all_four
unfolding digits print
insert_present = refl

write_present : becomes inserts_present [] (changed (codes "a") (with_item (plain_int 2)))
    (codes "# c\na = 1 # d\n") (codes "# c\na = 2\n") ≡ all_four
unfolding digits print
write_present = refl

abbrev pub three_lines : Document
three_lines =
    document (commented (codes "# one\n") a one_value []
    ∷ commented (codes "\n# two\n") b two_value (codes " # x") ∷ commented [] c three_value []
    ∷ [])

remove_line : becomes three_lines [] (without (codes "b"))
    (codes "# one\na = 1\n\n# two\nb = 2 # x\nc = 3\n") (codes "# one\na = 1\nc = 3\n") ≡ all_four
unfolding digits print
remove_line = refl

-- tables apart from one another
abbrev apart : Document
apart =
    document (head false (a ∷ x ∷ []) ∷ head false (b ∷ []) ∷ line (c ∷ []) one_value
    ∷ head false (a ∷ y ∷ []) ∷ [])

remove_apart : becomes apart [] (without (codes "a")) (codes "[a.x]\n[b]\nc = 1\n[a.y]\n")
    (codes "[b]\nc = 1\n") ≡ all_four
unfolding digits print
remove_apart = refl

add_apart : becomes apart (into_table (codes "a") ∷ into_table (codes "x") ∷ [])
    (inserted (codes "d") (plain_int 2))
    (codes "[a.x]\n[b]\nc = 1\n[a.y]\n") (codes "[a.x]\nd = 2\n[b]\nc = 1\n[a.y]\n") ≡ all_four
unfolding digits print
add_apart = refl

-- a dotted table
abbrev dotted : Document
dotted =
    document (line (a ∷ b ∷ []) one_value ∷ line (a ∷ d ∷ []) two_value ∷ line (c ∷ []) three_value
    ∷ [])

replace_dotted : becomes dotted (into_table (codes "a") ∷ [])
    (changed (codes "d") (with_item (plain_int 5))) (codes "a.b = 1\na.d = 2\nc = 3\n")
    (codes "a.b = 1\na.d = 5\nc = 3\n") ≡ all_four
unfolding digits print
replace_dotted = refl

remove_dotted : becomes dotted (into_table (codes "a") ∷ []) (without (codes "b"))
    (codes "a.b = 1\na.d = 2\nc = 3\n") (codes "a.d = 2\nc = 3\n") ≡ all_four
unfolding digits print
remove_dotted = refl

-- elements, with a table below each
abbrev elements : Document
elements =
    document (head true (a ∷ []) ∷ line (x ∷ []) one_value ∷ head false (a ∷ b ∷ [])
    ∷ head true (a ∷ []) ∷ line (x ∷ []) two_value ∷ head false (a ∷ b ∷ [])
    ∷ line (y ∷ []) three_value ∷ [])

remove_element : becomes elements [] (changed (codes "a") (on_item (on_items (removed_at 0))))
    (codes "[[a]]\nx = 1\n[a.b]\n[[a]]\nx = 2\n[a.b]\ny = 3\n")
    (codes "[[a]]\nx = 2\n[a.b]\ny = 3\n") ≡ all_four
unfolding digits print
remove_element = refl

add_below_element : becomes elements (into_element (codes "a") 1 ∷ into_table (codes "b") ∷ [])
    (inserted (codes "c") (plain_int 4))
    (codes "[[a]]\nx = 1\n[a.b]\n[[a]]\nx = 2\n[a.b]\ny = 3\n")
    (codes "[[a]]\nx = 1\n[a.b]\n[[a]]\nx = 2\n[a.b]\ny = 3\nc = 4\n") ≡ all_four
unfolding digits print
add_below_element = refl
