-- Items that are removed at a path, an element with its line, by computation.
use Rattle.std.specs.Prelude.{◌≡◌, refl, ℕ, Bool, true, false, [], ◌∷◌, codes}
use Rattle.std.specs.Fmt.{digits}
use Rattle.toml_edit_model.specs.Conversions.{new_array, with_decor}
use Rattle.toml_edit_model.specs.Lists.{items_from}
use Rattle.toml_edit_model.specs.Print.{print}
use Rattle.toml_edit_model.specs.Text.{Text, same_text}
use Rattle.toml_edit_model.specs.Tree.{ArrayFields, Node, nothing, list, no_slots, owned, slot, Tree}
use Rattle.toml_edit_model.specs.examples.Parts.{all_true, owned_decor, plain_int, plain_key, root_of}
use Rattle.toml_edit_edit_laws.specs.Commands.{Answer, done, refused}
use Rattle.toml_edit_paths.specs.Lines.{remove_line_at}

abbrev writes : Text → Answer Tree → Bool
writes text (done u) = same_text (print u) text
writes text (refused r) = false

abbrev is_refused : Answer Tree → Bool
is_refused (done u) = false
is_refused (refused r) = true

abbrev ka : Text
ka = codes "a"

abbrev first : Text
first = codes "0"

abbrev second : Text
second = codes "1"

-- an integer between these texts
abbrev between : Text → Text → ℕ → Node
between before after n = with_decor (owned_decor before after) (plain_int n)

-- under `a`, this item
abbrev holds : Node → Tree
holds n = root_of (slot (plain_key ka) n no_slots)

abbrev two_lines : Node
two_lines =
    list new_array (items_from (between (codes "\n  ") [] 1
    ∷ between (codes " # one\n  ") (codes " # two\n") 2 ∷ []))

-- a line goes with its comment, and the comment of the one before stays
lines_removed : all_true (
    writes (codes "a = [\n  2 # two\n]\n") (remove_line_at (ka ∷ first ∷ []) (holds two_lines))
    ∷ writes (codes "a = [\n  1 # one\n]\n") (remove_line_at (ka ∷ second ∷ []) (holds two_lines))
    ∷ writes (codes "a = [[\n  2 # two\n]]\n")
    (remove_line_at (ka ∷ first ∷ first ∷ [])
    (holds (list new_array (items_from (two_lines ∷ [])))))
    ∷ []
    ) ≡ true
unfolding digits print
lines_removed = refl

abbrev after_comma : ArrayFields
after_comma = record new_array { comma = true; trailing = owned (codes " # one\n") }

-- so it is after the last comma
last_line_removed : writes (codes "a = [\n]\n")
    (remove_line_at (ka ∷ first ∷ [])
    (holds (list after_comma (items_from (between (codes "\n  ") [] 1 ∷ [])))))
    ≡ true
unfolding digits print
last_line_removed = refl

-- the key of a table goes, and nothing where there is no such item
others_removed : all_true (
    writes [] (remove_line_at (ka ∷ []) (holds two_lines))
    ∷ is_refused (remove_line_at [] (holds two_lines))
    ∷ is_refused (remove_line_at (second ∷ []) (holds two_lines))
    ∷ is_refused (remove_line_at (ka ∷ codes "2" ∷ []) (holds two_lines))
    ∷ is_refused (remove_line_at (ka ∷ first ∷ first ∷ []) (holds two_lines))
    ∷ is_refused (remove_line_at (ka ∷ []) (holds nothing))
    ∷ is_refused (remove_line_at (ka ∷ first ∷ []) (holds (list new_array (items_from (nothing ∷ [])))))
    ∷ []
    ) ≡ true
unfolding digits print
others_removed = refl
