-- Worked arrays: which are what parsing their print gives.
use Rattle.std.specs.Prelude.{◌≡◌, refl, ℕ, pos, true, false, List, [], ◌∷◌, codes, Some}
use Rattle.toml_edit_model.specs.Conversions.{new_array, with_decor}
use Rattle.toml_edit_model.specs.Lists.{items_from}
use Rattle.toml_edit_model.specs.Mode.{exact, plain}
use Rattle.toml_edit_model.specs.Scalars.{integer}
use Rattle.toml_edit_model.specs.Text.{Text, newline, one}
use Rattle.toml_edit_model.specs.Tree.{ArrayFields, Node, leaf, list, owned, unset}
use Rattle.toml_edit_model.specs.examples.Parts.{owned_decor, plain_int, plain_list}
use Rattle.toml_edit_tree.specs.ArrayLines.{fields_inserted, fields_removed, line_inserted, line_removed}
use Rattle.toml_edit.specs.LinesReparse.{IsParsedAs, array_as_printed, ends_as_parsed}

-- an integer that is read has a spelling
abbrev spelled_int : Text → ℕ → Node
spelled_int t n = leaf (integer (pos n)) (Some (owned t)) unset

abbrev between : Text → Text → Node → Node
between before after = with_decor (owned_decor before after)

-- its own decor does not matter
one-read : IsParsedAs plain (between (codes "\n") [] (spelled_int (codes "0x1") 1)) (spelled_int (codes "0x1") 1)
one-read = (refl, (refl, refl, refl))

list-read : IsParsedAs plain (plain_list (items_from (one (spelled_int (codes "0x1") 1))))
    (plain_list (items_from (one (between [] [] (spelled_int (codes "0x1") 1)))))
list-read = (refl, (refl, ((refl, refl, refl), tt)))

-- `1` and a line break, where no comma ends the array
abbrev one_line : List Node
one_line = one (between (codes "\n  ") newline (plain_int 1))

-- the line break is after the new value, and the sides that were unset are the defaults
one-more : array_as_printed plain (fields_inserted 1 (plain_int 2) new_array one_line)
    (line_inserted 1 (plain_int 2) new_array one_line)
    (spelled_int (codes "1") 1 ∷ spelled_int (codes "2") 2 ∷ [])
    ≡ list new_array (items_from (between (codes "\n  ") [] (spelled_int (codes "1") 1)
    ∷ between (codes "\n  ") newline (spelled_int (codes "2") 2) ∷ []))
one-more = refl

ends-more : ends_as_parsed plain (fields_inserted 1 (plain_int 2) new_array one_line)
    (line_inserted 1 (plain_int 2) new_array one_line)
    ≡ true
ends-more = refl

-- a text before the bracket that is no suffix, and one of a CR, which is shown in exact mode alone
abbrev with_trailing : Text → ArrayFields
with_trailing t = record new_array { trailing = owned t }

loose-ends : ends_as_parsed plain (with_trailing newline) one_line
    ∷ ends_as_parsed plain (with_trailing newline) []
    ∷ ends_as_parsed exact (with_trailing (codes "\r")) one_line
    ∷ ends_as_parsed plain (with_trailing (codes "\r")) one_line ∷ []
    ≡ false ∷ true ∷ false ∷ true ∷ []
loose-ends = refl

-- A comma needs a value: an array that had only one loses both.
abbrev with_comma : ArrayFields
with_comma = record new_array { comma = true }

lone-comma : ends_as_parsed plain with_comma []
    ∷ ends_as_parsed plain (fields_removed 0 with_comma one_line)
    (line_removed 0 with_comma one_line)
    ∷ ends_as_parsed plain (fields_removed 0 new_array one_line)
    (line_removed 0 new_array one_line) ∷ []
    ≡ false ∷ true ∷ true ∷ []
lone-comma = refl
