-- The words of a line of a script.
use Rattle.std.specs.Prelude.{◌≡◌, ◌≢◌, ◌==◌, ◌⊎◌, ℕ, Bool, true, false, ◌&&◌, ◌||◌, not, if◌then◌else◌, List, [], ◌∷◌, drop, length, Option, Some, None, is_none}
use Rattle.std.specs.Str.{trim_start}
use Rattle.toml_edit_model.specs.Text.{Text, apostrophe, backslash, is_empty, quote}
use Rattle.toml_edit_model.specs.Trivia.{is_blank}
use Rattle.toml_edit_edits.specs.Said.{name_of}
use Rattle.toml_edit_edits.specs.declared.edit.PathVerb.TheVariants.{Sort}
use Rattle.toml_edit_edits.specs.declared.edit.Verb.{Verb}
use Rattle.toml_edit_edits.specs.declared.edit.Verb.TheVariants.{Path, Text as OfText}

-- the quote that is open behind a byte, and whether the next byte is escaped
abbrev pub quoting : Option ℕ → Bool → ℕ → Option ℕ × Bool
quoting None escaped b = (if b == quote || b == apostrophe then Some b else None, false)
quoting (Some q) true b = (Some q, false)
quoting (Some q) false b = (if b == q then None else Some q, (b == backslash) && (q == quote))

-- the bytes up to the first blank that is not between quotes
abbrev pub word_from : Option ℕ → Bool → Text → Text
word_from mark escaped [] = []
word_from mark escaped (b ∷ t) =
    if is_none mark && is_blank b then []
    else b ∷ word_from (quoting mark escaped b).0 (quoting mark escaped b).1 t

abbrev pub first_word : Text → Text
first_word = word_from None false

-- what is left of a line behind its first word and white space
abbrev pub rest_of : Text → Text
rest_of line = trim_start (drop (length (first_word line)) line)

-- ---- words

-- the last word of an edit may be empty if it is the path of a sort, or a text
abbrev pub may_be_empty : Verb → Bool
may_be_empty (Path Sort) = true
may_be_empty (OfText v) = true
may_be_empty _ = false

abbrev pub last_word : Verb → Text → List Text
last_word v t = if is_empty t && not (may_be_empty v) then [] else t ∷ []

-- the words after the name of an edit: the last is the rest of the line
abbrev pub operands_in : Verb → Text → List Text
operands_in (Path v) t = last_word (Path v) t
operands_in v t = if is_empty (first_word t) then [] else first_word t ∷ last_word v (rest_of t)

-- a line has the name of an edit and the words that it takes, or its first word alone, which is no name
abbrev pub AreWords : Text → List Text → Type 0
AreWords line ws =
    ((v : Verb) × (first_word line ≡ name_of v) × (ws ≡ first_word line ∷ operands_in v (rest_of line)))
    ⊎ (((v : Verb) → first_word line ≢ name_of v) × (ws ≡ first_word line ∷ []))
