-- Runs of bytes at the front of a text, and what a reading gives.
use Rattle.std.specs.Prelude.{ℕ, Bool, ◌||◌, ◌==◌, take, drop, slice_index, Option}
use Rattle.std.specs.List.{prefix_len}
use Rattle.toml_edit_model.specs.Text.{Text}
use Rattle.toml_edit_model.specs.Spelling.{is_bare_byte}

-- a value and the text after it
abbrev pub Read : Type 0 → Type 0
Read A = Option (A × Text)

-- the first byte, or 0
abbrev pub first : Text → ℕ
first t = slice_index t 0

-- a byte of a number, a boolean, a date or a time
abbrev pub is_word_byte : ℕ → Bool
is_word_byte c = is_bare_byte c || ((c == 0x2B || c == 0x2E) || c == 0x3A)

-- the longest front whose bytes pass, and the rest
abbrev pub split_while : (ℕ → Bool) → Text → Text × Text
split_while p t = (take (prefix_len p t) t, drop (prefix_len p t) t)
