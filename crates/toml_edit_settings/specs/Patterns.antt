-- Patterns of paths.
use Rattle.std.specs.Prelude.{◌≡◌, ◌≤◌, ℕ, Bool, false, not, ◌==◌, ◌&&◌, ◌||◌, if◌then◌else◌, List, [], ◌∷◌, length, drop, slice_index_or}
use Rattle.toml_edit_model.specs.Excerpt.{is_continuation}
use Rattle.toml_edit_model.specs.Text.{Text, is_empty}

abbrev pub Test : Type 0
Test = Text → Bool

abbrev pub slash : ℕ
slash = 47

abbrev pub question : ℕ
question = 63

abbrev pub star : ℕ
star = 42

abbrev pub begins_with_star : Text → Bool
begins_with_star [] = false
begins_with_star (c ∷ p) = c == star

-- Some text, and then such a one. Without `/`, unless it crosses that.
abbrev pub any_rest : Bool → Test → Test
any_rest crosses is_such [] = is_such []
any_rest crosses is_such (c ∷ t) =
    is_such (c ∷ t) || ((crosses || not (c == slash)) && any_rest crosses is_such t)

-- the text after the character that is begun
abbrev pub after_character : Text → Text
after_character [] = []
after_character (c ∷ t) = if is_continuation c then after_character t else c ∷ t

-- one character but `/`, and then such a text
abbrev pub one_character : Test → Test
one_character is_such [] = false
one_character is_such (c ∷ t) = not (c == slash) && is_such (after_character t)

-- this byte, and then such a text
abbrev pub itself : ℕ → Test → Test
itself b is_such [] = false
itself b is_such (c ∷ t) = (c == b) && is_such t

-- The path matches the pattern: `*` is any text without `/`, and any text before another `*`; `?` is one
-- character but `/`; all else is itself.
abbrev pub matches : Text → Test
matches [] path = is_empty path
matches (c ∷ p) path =
    if c == star then any_rest (begins_with_star p) (matches p) path
    else (if c == question then one_character (matches p) path else itself c (matches p) path)

-- for each byte of the text and for its end, whether what is left there is such a text
abbrev pub AreRests : Test → Text → List Bool → Type 0
AreRests is_such t row = (k : ℕ) → k ≤ length t → slice_index_or row k false ≡ is_such (drop k t)
