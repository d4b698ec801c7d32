-- What `retain_lines` leaves of an array.
use Rattle.std.specs.Prelude.{◌≡◌, ℕ, zero, suc, Bool, true, MatchBool, if◌then◌else◌, List, [], ◌∷◌}
use Rattle.toml_edit_model.specs.Tree.{ArrayFields, Node, is_value_node}
use Rattle.toml_edit_tree.specs.ArrayLines.{fields_removed, line_removed}

-- The answers about these slots, of which true keeps one. `says` tells what may be answered about a
-- value, and a slot without one stays.
abbrev pub AreAnswers : (Node → Bool → Type 0) → List Node → List Bool → Type 0
AreAnswers says [] answers = answers ≡ []
AreAnswers says (x ∷ xs) answers =
    (keeps : Bool) × (rest : List Bool) × MatchBool (is_value_node x) (says x keeps) (keeps ≡ true)
    × AreAnswers says xs rest × (answers ≡ keeps ∷ rest)

-- the fields and the slots of an array, without the value at the place and its line unless it stays
abbrev pub line_kept : ℕ → Bool → ArrayFields × List Node → ArrayFields × List Node
line_kept i keeps a =
    if keeps then a else (fields_removed i a.0 a.1, line_removed i a.0 a.1)

-- The answers are about the slots from this place on. What doesn't stay is removed with its line as
-- by `remove_line`, the last one first.
abbrev pub lines_kept : ℕ → List Bool → ArrayFields × List Node → ArrayFields × List Node
lines_kept i [] a = a
lines_kept i (keeps ∷ rest) a = line_kept i keeps (lines_kept (suc i) rest a)

abbrev pub RetainsLines : (Node → Bool → Type 0) → ArrayFields × List Node
    → ArrayFields × List Node → Type 0
RetainsLines says before after =
    (answers : List Bool) × AreAnswers says before.1 answers × (after ≡ lines_kept zero answers before)
