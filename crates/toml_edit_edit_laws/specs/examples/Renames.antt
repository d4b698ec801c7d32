-- Worked renamings in trees of texts: their prints, and the paths of what they mean, by computation.
use Rattle.std.specs.Prelude.{◌≡◌, refl, Bool, false, true, List, [], ◌∷◌, codes}
use Rattle.std.specs.Fmt.{digits}
use Rattle.toml_edit_model.specs.Text.{Text, same_text}
use Rattle.toml_edit_model.specs.Syntax.{Document}
use Rattle.toml_edit_model.specs.Paths.{at_key, at_element, Path}
use Rattle.toml_edit_model.specs.Print.{print}
use Rattle.toml_edit_model.specs.Fits.{is_steady}
use Rattle.toml_edit_model.specs.TreeOf.{owned_form}
use Rattle.toml_edit_model.specs.Rearranging.{renamed_slot}
use Rattle.toml_edit_model.specs.examples.ComputedTree.{tree_of}
use Rattle.toml_edit_model.specs.examples.Parts.{line, head, document, a, b, c, d, x, y, one_value, two_value, three_value}
use Rattle.toml_edit_laws.specs.Locality.{Turn, into_table, into_element, edited}
use Rattle.toml_edit_laws.specs.examples.Edits.{three_lines}
use Rattle.toml_edit_edit_laws.specs.Renaming.{renamed_path}

-- ---- paths

abbrev a_b : Path
a_b = at_key (codes "a") ∷ at_key (codes "b") ∷ []

path_itself : renamed_path a_b (codes "c") a_b ≡ at_key (codes "a") ∷ at_key (codes "c") ∷ []
path_itself = refl

path_below : renamed_path a_b (codes "c")
    (at_key (codes "a") ∷ at_key (codes "b") ∷ at_element 0 ∷ at_key (codes "b") ∷ [])
    ≡ at_key (codes "a") ∷ at_key (codes "c") ∷ at_element 0 ∷ at_key (codes "b") ∷ []
path_below = refl

path_above : renamed_path a_b (codes "c") (at_key (codes "a") ∷ []) ≡ at_key (codes "a") ∷ []
path_above = refl

path_beside : renamed_path a_b (codes "c")
    (at_key (codes "a") ∷ at_key (codes "d") ∷ at_key (codes "b") ∷ [])
    ≡ at_key (codes "a") ∷ at_key (codes "d") ∷ at_key (codes "b") ∷ []
path_beside = refl

path_elsewhere : renamed_path a_b (codes "c") (at_key (codes "b") ∷ []) ≡ at_key (codes "b") ∷ []
path_elsewhere = refl

-- ---- prints

-- the document's tree prints the first text, the one with the name the second, and both are steady
abbrev becomes : Document → List Turn → Text → Text → Text → Text → List Bool
becomes doc way t u before after =
    let first = tree_of owned_form doc in
    let second = edited way (renamed_slot t u) first in
    same_text (print first) before ∷ same_text (print second) after ∷ is_steady first
    ∷ is_steady second ∷ []

abbrev all_four : List Bool
all_four = true ∷ true ∷ true ∷ true ∷ []

-- the line keeps its place and its comments
rename_line : becomes three_lines [] (codes "b") (codes "d")
    (codes "# one\na = 1\n\n# two\nb = 2 # x\nc = 3\n")
    (codes "# one\na = 1\n\n# two\nd = 2 # x\nc = 3\n") ≡ all_four
unfolding digits print
rename_line = refl

-- a name that isn't bare is quoted
rename_quoted : becomes three_lines [] (codes "a") (codes "a b")
    (codes "# one\na = 1\n\n# two\nb = 2 # x\nc = 3\n")
    (codes "# one\n\"a b\" = 1\n\n# two\nb = 2 # x\nc = 3\n") ≡ all_four
unfolding digits print
rename_quoted = refl

rename_to_itself : becomes three_lines [] (codes "a") (codes "a")
    (codes "# one\na = 1\n\n# two\nb = 2 # x\nc = 3\n")
    (codes "# one\na = 1\n\n# two\nb = 2 # x\nc = 3\n") ≡ all_four
unfolding digits print
rename_to_itself = refl

-- where another key has the name, nothing changes
rename_to_another : becomes three_lines [] (codes "a") (codes "c")
    (codes "# one\na = 1\n\n# two\nb = 2 # x\nc = 3\n")
    (codes "# one\na = 1\n\n# two\nb = 2 # x\nc = 3\n") ≡ all_four
unfolding digits print
rename_to_another = refl

-- a table apart from its other headers: each has the name
rename_table : becomes (document (head false (a ∷ x ∷ []) ∷ line (a ∷ []) one_value
    ∷ head false (b ∷ []) ∷ line (c ∷ []) two_value ∷ head false (a ∷ y ∷ []) ∷ [])) []
    (codes "a") (codes "d")
    (codes "[a.x]\na = 1\n[b]\nc = 2\n[a.y]\n") (codes "[d.x]\na = 1\n[b]\nc = 2\n[d.y]\n")
    ≡ all_four
unfolding digits print
rename_table = refl

-- a key that is dotted
rename_dotted : becomes (document (line (a ∷ b ∷ []) one_value ∷ line (a ∷ d ∷ []) two_value
    ∷ line (c ∷ []) three_value ∷ [])) (into_table (codes "a") ∷ []) (codes "d") (codes "c")
    (codes "a.b = 1\na.d = 2\nc = 3\n") (codes "a.b = 1\na.c = 2\nc = 3\n") ≡ all_four
unfolding digits print
rename_dotted = refl

rename_dots : becomes (document (line (a ∷ b ∷ []) one_value ∷ line (a ∷ d ∷ []) two_value
    ∷ line (c ∷ []) three_value ∷ [])) [] (codes "a") (codes "x")
    (codes "a.b = 1\na.d = 2\nc = 3\n") (codes "x.b = 1\nx.d = 2\nc = 3\n") ≡ all_four
unfolding digits print
rename_dots = refl

-- of the elements of an array only one has the other name
rename_in_element : becomes (document (head true (a ∷ []) ∷ line (x ∷ []) one_value
    ∷ head true (a ∷ []) ∷ line (x ∷ []) two_value ∷ [])) (into_element (codes "a") 1 ∷ [])
    (codes "x") (codes "y") (codes "[[a]]\nx = 1\n[[a]]\nx = 2\n")
    (codes "[[a]]\nx = 1\n[[a]]\ny = 2\n") ≡ all_four
unfolding digits print
rename_in_element = refl
