-- Where the line of a place is found, and what is written of it.
use Rattle.std.specs.Prelude.{ℕ, ◌+◌, nat_lt, [], ◌∷◌, ◌++◌, length, replicate, codes, decimal, if◌then◌else◌}
use Rattle.toml_edit_model.specs.Text.{Text, newline}
use Rattle.toml_edit_model.specs.Excerpt.{last_character, spaces}

-- the place itself, or the last character where the place is the end of a text
abbrev pub cut_of : Text → ℕ → ℕ
cut_of [] s = 0
cut_of (c ∷ t) s = if nat_lt s (length (c ∷ t)) then s else last_character (c ∷ t)

-- a line with its number, and the marks below it from a column on, both counted from 1
abbrev pub place_text : Text → ℕ → ℕ → Text → ℕ → Text
place_text title line column content marks =
    title
    ++ (codes " at line " ++ (decimal line ++ (codes ", column " ++ (decimal column ++ (newline
    ++ (spaces (length (decimal line) + 1) ++ (codes "|" ++ (newline
    ++ (decimal line ++ (codes " | " ++ (content ++ (newline
    ++ (spaces (length (decimal line) + 1)
    ++ (codes "|" ++ (spaces column ++ (replicate marks 0x5E ++ newline))))))))))))))))
