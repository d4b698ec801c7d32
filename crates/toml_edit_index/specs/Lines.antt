-- Positions of bytes, from line 1 and column 1, counted from the beginning of the text. Only private clauses cite them.
use Rattle.std.specs.Prelude.{◌≡◌, ℕ, ◌+◌, ◌*◌, ◌<◌, ◌==◌, if◌then◌else◌, List, [], ◌∷◌, length, fold, get_or, take}
use Rattle.toml_edit_model.specs.Excerpt.{characters}
use Rattle.toml_edit_model.specs.Text.{Text, line_feed}
use Rattle.toml_edit_index.specs.declared.lines.Lines.{Lines}
use Rattle.toml_edit_index.specs.declared.lines.Position.{Position}

abbrev pub first : Position
first = record { line = 1; column = 1 }

-- the position behind a byte, and behind bytes
abbrev pub after_byte : Position → ℕ → Position
after_byte p c =
    if c == line_feed then record { line = p.line + 1; column = 1 }
    else record { line = p.line; column = p.column + characters (c ∷ []) }

abbrev pub after_bytes : Position → Text → Position
after_bytes p t = fold after_byte p t

-- where a byte of the text is
abbrev pub position_at : Text → ℕ → Position
position_at text byte = after_bytes first (take byte text)

-- the positions of the bytes 0, 64, 128 and so on
abbrev pub AreMarks : Text → List Position → Type 0
AreMarks text ms = (i : ℕ) → i < length ms → get_or ms i first ≡ position_at text (64 * i)

-- a mark for every 64th byte of the text, and one behind them
pub record AreLines (text : Text) (l : Lines) : Type 0 where
  pub same : l.bytes.now ≡ text
  pub all : length text < 64 * length l.marks.items
  pub marks : AreMarks text l.marks.items
