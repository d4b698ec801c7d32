-- How a result relates to what reading gives.
use Rattle.std.specs.Prelude.{◌≡◌, ℕ, List, Result, MatchResult}
use Rattle.std.specs.Borrow.{Bor}
use Rattle.toml_edit_syntax.specs.declared.event.Event.{Event}
use Rattle.toml_edit_syntax.specs.declared.lexer.Stop.{Stop}
use Rattle.toml_edit_syntax.specs.declared.lexer.Stop.TheVariants.{Memory, Before, TooDeep}
use Rattle.toml_edit_syntax.specs.declared.mistake.Mistake.{Mistake}
use Rattle.toml_edit_model.specs.Text.{Text}
use Rattle.toml_edit_syntax.specs.ValueReading.{Reading, got, deep, wrong}
use Rattle.toml_edit_syntax.specs.EventReading.{preceded}

-- reading stops so, where these are the events up to there
abbrev pub StopsAs : List Event → Reading (List Event) → Stop → Type 0
StopsAs es expected Memory = Unit {0}
StopsAs es expected (Before mistake left) = expected ≡ wrong
StopsAs es expected TooDeep = expected ≡ deep es

-- the text is not one that is read
abbrev pub IsBefore : Stop → Type 0
IsBefore stop = (mistake : Mistake) × (left : ℕ) × (stop ≡ Before mistake left)

-- The result is the text after what was read, and these are its events; at a bracket that is one
-- too many, those up to there.
abbrev pub Leaves : List Event → Result (Bor Text) Stop → Reading (List Event) → Type 0
Leaves es result expected =
    MatchResult result (λ rest. expected ≡ got es rest.now) (λ stop. StopsAs es expected stop)

-- the events that reading gives were added
abbrev pub Adds : List Event → List Event → Result (Bor Text) Stop → Reading (List Event) → Type 0
Adds old new result expected = Leaves new result (preceded old expected)
