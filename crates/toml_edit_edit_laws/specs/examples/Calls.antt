-- Worked calls by paths, and the statements that they leave, by computation.
use Rattle.std.specs.Prelude.{◌≡◌, refl, Bool, true, false, List, [], ◌∷◌, ◌++◌, codes, Some}
use Rattle.std.specs.Fmt.{digits}
use Rattle.toml_edit_model.specs.Text.{Text, is_empty, one, same_text}
use Rattle.toml_edit_model.specs.Mode.{plain}
use Rattle.toml_edit_model.specs.Syntax.{Document}
use Rattle.toml_edit_model.specs.Paths.{Path, at_key}
use Rattle.toml_edit_model.specs.Print.{lines_of, print, printed}
use Rattle.toml_edit_model.specs.Fits.{is_steady}
use Rattle.toml_edit_model.specs.HeaderOrder.{visit_of}
use Rattle.toml_edit_model.specs.Keys.{new_key}
use Rattle.toml_edit_model.specs.Tree.{owned, Key, Node, no_slots, Tree}
use Rattle.toml_edit_model.specs.TreeOf.{owned_form}
use Rattle.toml_edit_model.specs.Conversions.{new_table}
use Rattle.toml_edit_model.specs.Slots.{Slot, keyed, with_item, changed, without}
use Rattle.toml_edit_model.specs.examples.ComputedTree.{tree_of}
use Rattle.toml_edit_model.specs.examples.Parts.{line, head, document, a, b, d, x, one_value, two_value, plain_int}
use Rattle.toml_edit_laws.specs.Locality.{into_table, edited, texts}
use Rattle.toml_edit_laws.specs.EditLists.{replace, add, remove, remove_element}
use Rattle.toml_edit_edit_laws.specs.CommandLaws.{made_below}
use Rattle.toml_edit_laws.specs.examples.Edits.{three_lines}
use Rattle.toml_edit_edit_laws.specs.PathEdits.{sets, removes, IsEditAt}
use Rattle.toml_edit_edit_laws.specs.Staying.{away_from}

-- ---- the edit of a call

abbrev four : Node
four = plain_int 4

abbrev name : Text
name = codes "a"

abbrev under : Text
under = codes "b"

-- a key that is spelled in quotes
abbrev quoted : Key
quoted = record (new_key name) { spelling = Some (owned (codes "'a'")) }

sets_below_a_table : IsEditAt (sets (new_key name ∷ new_key under ∷ []) four) (replace (into_table name ∷ []) under (λ k. k) four)
sets_below_a_table = ([], (name ∷ [], (refl, tt), refl), λ l. refl)

sets_inside_a_value : IsEditAt (sets (new_key name ∷ new_key under ∷ []) four) (replace [] name (λ k. k) four)
sets_inside_a_value = (under ∷ [], ([], tt, refl), λ l. refl)

sets_a_new_key : IsEditAt (sets (quoted ∷ new_key under ∷ []) four) (add [] quoted (made_below (new_key under ∷ []) four))
sets_a_new_key = ([], quoted, new_key under ∷ [], tt, refl, refl, refl)

removes_a_slot : IsEditAt (removes (name ∷ under ∷ [])) (remove (into_table name ∷ []) under)
removes_a_slot = (name ∷ [], (refl, tt), refl)

removes_an_element : IsEditAt (removes (name ∷ codes "2" ∷ [])) (remove_element [] name 2)
unfolding digits
removes_an_element = (codes "2", ([], tt, refl), refl)

-- a `set_at` removes nothing
sets_remove_nothing : IsEditAt (sets (new_key name ∷ []) four) (remove [] name) → ⊥
sets_remove_nothing h = h

-- ---- what stays

-- the texts of the statements that are away from the paths, before an edit of the root and after it
abbrev stay : List Path → Document → (List (Slot Node) → List (Slot Node)) → Text → List Bool
stay ps doc g after =
    let t = tree_of owned_form doc in
    let u = edited [] g t in
    same_text (texts (away_from ps (printed plain t))) after
    ∷ same_text (texts (away_from ps (printed plain u))) after ∷ []

abbrev set_b : List (Slot Node) → List (Slot Node)
set_b = changed (codes "b") (with_item four)

all_but_one : stay ((at_key (codes "b") ∷ []) ∷ []) three_lines set_b (codes "# one\na = 1\nc = 3\n")
    ≡ true ∷ true ∷ []
unfolding digits
all_but_one = refl

-- the line that was set is not among what stays
not_the_line_itself : stay ((at_key (codes "c") ∷ []) ∷ []) three_lines set_b
    (codes "# one\na = 1\n\n# two\nb = 2 # x\n") ≡ true ∷ false ∷ []
unfolding digits
not_the_line_itself = refl

all_but_two : stay ((at_key (codes "b") ∷ []) ∷ (at_key (codes "c") ∷ []) ∷ []) three_lines
    (without (codes "c")) (codes "# one\na = 1\n") ≡ true ∷ true ∷ []
unfolding digits
all_but_two = refl

-- ---- a new key after lines

abbrev dotted_lines : Document
dotted_lines =
    document (line (a ∷ b ∷ []) one_value ∷ line (d ∷ []) two_value ∷ head false (x ∷ []) ∷ [])

abbrev add_c : Tree
add_c = edited (into_table (codes "a") ∷ []) (λ ss. ss ++ one (keyed (new_key (codes "c")) four))
    (tree_of owned_form dotted_lines)

dotted_add : same_text (print add_c) (codes "a.b = 1\na.c = 4\nd = 2\n[x]\n") ∷ is_steady add_c ∷ []
    ≡ true ∷ true ∷ []
unfolding digits print
dotted_add = refl

-- a table that has a header alone has no lines
no_lines : is_empty (lines_of plain (visit_of (at_key (codes "x") ∷ []) (new_key (codes "x") ∷ []) false new_table no_slots))
    ≡ true
no_lines = refl
