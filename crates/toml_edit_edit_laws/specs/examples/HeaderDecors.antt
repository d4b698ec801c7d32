-- Worked changes of the comments beside headers: the prints, by computation.
use Rattle.std.specs.Prelude.{◌≡◌, refl, Bool, false, true, List, [], ◌∷◌, codes, Some}
use Rattle.std.specs.Fmt.{digits}
use Rattle.toml_edit_model.specs.Text.{Text, same_text}
use Rattle.toml_edit_model.specs.Syntax.{Document}
use Rattle.toml_edit_model.specs.Print.{print}
use Rattle.toml_edit_model.specs.Fits.{is_steady}
use Rattle.toml_edit_model.specs.Tree.{owned, Decor}
use Rattle.toml_edit_model.specs.TreeOf.{owned_form}
use Rattle.toml_edit_model.specs.examples.ComputedTree.{tree_of}
use Rattle.toml_edit_model.specs.examples.Parts.{line, head, document, a, b, x, one_value, two_value}
use Rattle.toml_edit_laws.specs.Locality.{Turn, into_table, into_element, edited}
use Rattle.toml_edit_edit_laws.specs.Comments.{header_edited}

-- the document's tree prints the first text, the one with the decor the second, and both are steady
abbrev becomes : Document → List Turn → Turn → Decor → Text → Text → List Bool
becomes doc way turn decor before after =
    let first = tree_of owned_form doc in
    let second = edited way (header_edited turn decor) first in
    same_text (print first) before ∷ same_text (print second) after ∷ is_steady first
    ∷ is_steady second ∷ []

abbrev all_four : List Bool
all_four = true ∷ true ∷ true ∷ true ∷ []

-- a comment on the line before, and one on the line itself
abbrev two_comments : Decor
two_comments = record {
  prefix = Some (owned (codes "# one\n"));
  suffix = Some (owned (codes " # two"));
}

abbrev tables_in_tables : Document
tables_in_tables =
    document (line (x ∷ []) one_value ∷ head false (a ∷ []) ∷ line (x ∷ []) two_value
    ∷ head false (a ∷ b ∷ []) ∷ [])

table_commented : becomes tables_in_tables [] (into_table (codes "a")) two_comments
    (codes "x = 1\n[a]\nx = 2\n[a.b]\n") (codes "x = 1\n# one\n[a] # two\nx = 2\n[a.b]\n")
    ≡ all_four
unfolding digits print
table_commented = refl

inner_commented : becomes tables_in_tables (into_table (codes "a") ∷ []) (into_table (codes "b"))
    two_comments (codes "x = 1\n[a]\nx = 2\n[a.b]\n")
    (codes "x = 1\n[a]\nx = 2\n# one\n[a.b] # two\n") ≡ all_four
unfolding digits print
inner_commented = refl

-- the second of two elements
element_commented : becomes (document (head true (a ∷ []) ∷ line (x ∷ []) one_value
    ∷ head true (a ∷ []) ∷ line (x ∷ []) two_value ∷ [])) [] (into_element (codes "a") 1)
    two_comments (codes "[[a]]\nx = 1\n[[a]]\nx = 2\n")
    (codes "[[a]]\nx = 1\n# one\n[[a]] # two\nx = 2\n") ≡ all_four
unfolding digits print
element_commented = refl

-- a dotted table has no header, and no place for comments
dotted_commented : becomes (document (line (a ∷ b ∷ []) one_value ∷ [])) []
    (into_table (codes "a")) two_comments (codes "a.b = 1\n") (codes "a.b = 1\n") ≡ all_four
unfolding digits print
dotted_commented = refl
