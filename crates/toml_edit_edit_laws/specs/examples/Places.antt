-- Worked insertions at a place, and moves: their prints, by computation.
use Rattle.std.specs.Prelude.{◌≡◌, refl, ℕ, Bool, true, false, List, [], ◌∷◌, codes}
use Rattle.std.specs.Fmt.{digits}
use Rattle.toml_edit_model.specs.Text.{Text, same_text}
use Rattle.toml_edit_model.specs.Syntax.{Document}
use Rattle.toml_edit_model.specs.Print.{print}
use Rattle.toml_edit_model.specs.Fits.{is_steady}
use Rattle.toml_edit_model.specs.Keys.{new_key}
use Rattle.toml_edit_model.specs.TreeOf.{owned_form}
use Rattle.toml_edit_model.specs.Tree.{Node}
use Rattle.toml_edit_model.specs.Slots.{Slot, keyed}
use Rattle.toml_edit_model.specs.Rearranging.{inserted_slot, moved_slot}
use Rattle.toml_edit_model.specs.examples.ComputedTree.{tree_of}
use Rattle.toml_edit_model.specs.examples.Parts.{line, head, document, a, b, c, d, x, y, one_value, two_value, three_value, plain_int}
use Rattle.toml_edit_laws.specs.Locality.{Turn, into_table, edited}
use Rattle.toml_edit_laws.specs.examples.Edits.{three_lines}

-- the edited tree of the document prints the text, and it is steady
abbrev becomes : Document → List Turn → (List (Slot Node) → List (Slot Node)) → Text → List Bool
becomes doc way g after =
    let u = edited way g (tree_of owned_form doc) in
    same_text (print u) after ∷ is_steady u ∷ []

abbrev both : List Bool
both = true ∷ true ∷ []

-- four under the key d
abbrev four_at : ℕ → List (Slot Node) → List (Slot Node)
four_at i = inserted_slot i (keyed (new_key (codes "d")) (plain_int 4))

-- ---- lines

insert_first : becomes three_lines [] (four_at 0)
    (codes "d = 4\n# one\na = 1\n\n# two\nb = 2 # x\nc = 3\n") ≡ both
unfolding digits print
insert_first = refl

insert_between : becomes three_lines [] (four_at 1)
    (codes "# one\na = 1\nd = 4\n\n# two\nb = 2 # x\nc = 3\n") ≡ both
unfolding digits print
insert_between = refl

insert_last : becomes three_lines [] (four_at 3)
    (codes "# one\na = 1\n\n# two\nb = 2 # x\nc = 3\nd = 4\n") ≡ both
unfolding digits print
insert_last = refl

-- a line moves with its comments
move_up : becomes three_lines [] (moved_slot (codes "b") 0)
    (codes "\n# two\nb = 2 # x\n# one\na = 1\nc = 3\n") ≡ both
unfolding digits print
move_up = refl

move_down : becomes three_lines [] (moved_slot (codes "a") 2)
    (codes "\n# two\nb = 2 # x\nc = 3\n# one\na = 1\n") ≡ both
unfolding digits print
move_down = refl

move_nowhere : becomes three_lines [] (moved_slot (codes "b") 1)
    (codes "# one\na = 1\n\n# two\nb = 2 # x\nc = 3\n") ≡ both
unfolding digits print
move_nowhere = refl

-- ---- tables

abbrev headers : Document
headers =
    document (line (d ∷ []) one_value ∷ head false (a ∷ []) ∷ line (x ∷ []) one_value
    ∷ line (y ∷ []) two_value ∷ head false (b ∷ []) ∷ line (c ∷ []) three_value ∷ [])

-- a place in the block of a table
insert_in_table : becomes headers (into_table (codes "a") ∷ []) (four_at 1)
    (codes "d = 1\n[a]\nx = 1\nd = 4\ny = 2\n[b]\nc = 3\n") ≡ both
unfolding digits print
insert_in_table = refl

-- headers keep the order of their positions, and so a table that moves prints as before
move_table : becomes headers [] (moved_slot (codes "b") 0)
    (codes "d = 1\n[a]\nx = 1\ny = 2\n[b]\nc = 3\n") ≡ both
unfolding digits print
move_table = refl

-- the lines of a dotted table move together
abbrev dotted : Document
dotted =
    document (line (a ∷ b ∷ []) one_value ∷ line (a ∷ d ∷ []) two_value ∷ line (c ∷ []) three_value
    ∷ [])

move_dotted : becomes dotted [] (moved_slot (codes "a") 1) (codes "c = 3\na.b = 1\na.d = 2\n") ≡ both
unfolding digits print
move_dotted = refl
