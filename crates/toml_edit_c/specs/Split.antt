-- The words of a call.
use Rattle.std.specs.Prelude.{ℕ, ◌==◌, if◌then◌else◌, List, [], ◌∷◌}
use Rattle.toml_edit_model.specs.Text.{Text, one}

-- a byte more in front of the first word
abbrev pub with_byte : ℕ → List Text → List Text
with_byte b [] = one b ∷ []
with_byte b (w ∷ ws) = (b ∷ w) ∷ ws

-- the words of a text, each of which ends at a zero byte or at the end of the text
abbrev pub words_in : Text → List Text
words_in [] = []
words_in (b ∷ t) = if b == 0 then [] ∷ words_in t else with_byte b (words_in t)
