-- The two ways to treat line endings: `plain` drops each CR outside strings and ends each statement
-- by LF; `exact` keeps the line endings of a text, and whether its last statement has one (TOML
-- 1.1.0, "Newline").
use Rattle.std.specs.Prelude.{Bool, true, false, ◌==◌, if◌then◌else◌, [], ◌∷◌, ◌++◌}
use Rattle.toml_edit_model.specs.Text.{Text, newline, carriage_return, without_returns}

pub data Mode : Type 0 where
  plain : Mode
  exact : Mode

abbrev pub is_exact : Mode → Bool
is_exact plain = false
is_exact exact = true

-- what is shown of a text of trivia
abbrev pub shown_text : Mode → Text → Text
shown_text plain t = without_returns t
shown_text exact t = t

-- ---- where a statement ends

abbrev pub ends_in_return : Text → Bool
ends_in_return [] = false
ends_in_return (c ∷ []) = c == carriage_return
ends_in_return (c ∷ d ∷ t) = ends_in_return (d ∷ t)

abbrev pub but_last : Text → Text
but_last [] = []
but_last (c ∷ []) = []
but_last (c ∷ d ∷ t) = c ∷ but_last (d ∷ t)

-- In exact mode the suffix of a statement holds the CR of its newline, as its last byte.
abbrev pub holds_return : Mode → Text → Bool
holds_return plain t = false
holds_return exact t = ends_in_return t

-- a shown suffix without that CR, and the newline after it
abbrev pub line_end : Mode → Text → Text
line_end mode t = if holds_return mode t then but_last t else t

abbrev pub line_newline : Mode → Text → Text
line_newline mode t = if holds_return mode t then carriage_return ∷ newline else newline

-- The suffix that is read of a statement, from the text before its newline and the newline: in
-- exact mode all of the newline but its LF is the suffix's.
abbrev pub with_return : Mode → Text → Text → Text
with_return plain t end = t
with_return exact t end = t ++ but_last end
