-- Reading the statements of a text in batches: how far it is read, and what a batch is.
use Rattle.std.specs.Prelude.{◌≡◌, ◌<◌, ℕ, ◌-◌, true, List, [], ◌∷◌, ◌++◌, length, map, Result, MatchResult}
use Rattle.std.specs.List.{list_any, AllByRecursion}
use Rattle.toml_edit_model.specs.Text.{Text, joined}
use Rattle.toml_edit_model.specs.Syntax.{Statement, Document, IsCut, statement_text}
use Rattle.toml_edit_syntax.specs.declared.event.EventKind.TheVariants.{Final}
use Rattle.toml_edit_syntax.specs.declared.event.Event.{Event}
use Rattle.toml_edit_syntax.specs.declared.lexer.Batch.{Batch}
use Rattle.toml_edit_syntax.specs.declared.lexer.BatchEnd.{BatchEnd}
use Rattle.toml_edit_syntax.specs.declared.lexer.BatchEnd.TheVariants.{MoreStatements, WholeText, TooManyBrackets}
use Rattle.toml_edit_syntax.specs.declared.lexer.Stop.{Stop}
use Rattle.toml_edit_syntax.specs.declared.lexer.Stop.TheVariants.{TooDeep}
use Rattle.toml_edit_syntax.specs.ValueEvents.{event, shortened}
use Rattle.toml_edit_syntax.specs.ValueReading.{got}
use Rattle.toml_edit_syntax.specs.Events.{events_from, events_of, has_deep_value, IsSpanOf, OpensTooMany}
use Rattle.toml_edit_syntax.specs.Reading.{cut_of}
use Rattle.toml_edit_syntax.specs.EventReading.{seen, preceded, without_rest}
use Rattle.toml_edit_syntax.specs.Gives.{StopsAs}
use Rattle.toml_edit_syntax.specs.StatementReading.{rest_read}

-- the text ends with this one
abbrev pub EndsWith : Text → Text → Type 0
EndsWith t rest = (before : Text) × (t ≡ before ++ rest)

-- This is left of the text after some events: reading it, after them, gives what reading the text
-- gives.
pub record IsReached (t rest : Text) : Type 0 where
  pub ends : EndsWith t rest
  pub done : List Event
  pub turns : ℕ
  pub room : length rest < turns
  pub same : seen (λ (d : Document) (_ : Text). events_of d) (cut_of 0 t)
      ≡ without_rest (preceded done (rest_read turns (length t) rest))

-- the events at the end of a batch: those of the trivia that ends a text of so many bytes, where the
-- batch is the last
abbrev pub last_events : BatchEnd → ℕ → Text → List Event
last_events WholeText whole final = event Final (whole - length final) final ∷ []
last_events MoreStatements whole final = []
last_events TooManyBrackets whole final = []

-- The batch of these statements, of which the first begins at this byte, and of the final trivia, in
-- a text of so many bytes: the events of the first of them, and the text of the others.
pub record IsBatch (whole start : ℕ) (ss : List Statement) (final : Text) (es : List Event)
    (end : BatchEnd) (rest : Text) : Type 0 where
  pub here : List Statement
  pub ahead : List Statement
  pub parts : ss ≡ here ++ ahead
  pub events : es ≡ shortened 0 (events_from start here ++ last_events end whole final)
  pub left : end ≡ MoreStatements → rest ≡ joined (map statement_text ahead) ++ final
  -- a batch that is not the last has others behind it
  pub some : end ≡ MoreStatements → (s : Statement) × (more : List Statement) × (ahead ≡ s ∷ more)
  pub none : end ≡ WholeText → ahead ≡ []
  pub deep : end ≡ TooManyBrackets → list_any has_deep_value here ≡ true

-- what comes after a batch, by its end, where this was left of the text before it and this is left now
pub record IsAfter (t before rest : Text) (end : BatchEnd) : Type 0 where
  pub reached : end ≡ MoreStatements → IsReached t rest
  pub shorter : end ≡ MoreStatements → length rest < length before
  pub cut : end ≡ WholeText → (d : Document) × IsCut d t
  pub brackets : end ≡ TooManyBrackets → OpensTooMany t

-- ---- inside this crate

-- What reading gives of these statements, of fewer than n, after the old events: the new ones, and what
-- reading the rest gives, or all of it.
abbrev pub ReadsBatch : ℕ → ℕ → Text → List Event → List Event → BatchEnd → Text → Type 0
ReadsBatch n whole t old new MoreStatements rest =
    (k : ℕ) × (length rest < k)
    × (preceded old (rest_read n whole t) ≡ preceded new (rest_read k whole rest))
ReadsBatch n whole t old new WholeText rest = preceded old (rest_read n whole t) ≡ got new rest
ReadsBatch n whole t old new TooManyBrackets rest = ⊥

-- the same of what reading returns
abbrev pub ReadsParts : ℕ → ℕ → Text → List Event → List Event → Result Batch Stop → Type 0
ReadsParts n whole t old new result =
    MatchResult result (λ b. ReadsBatch n whole t old new b.end b.rest.now)
    (λ why. StopsAs new (preceded old (rest_read n whole t)) why)

-- what is read of these statements is a batch of them, also at a bracket that is one too many
abbrev pub IsBatchRead : ℕ → ℕ → List Statement → Text → List Event → Result Batch Stop → Type 0
IsBatchRead whole start ss final es result =
    MatchResult result (λ b. IsBatch whole start ss final es b.end b.rest.now)
    (λ why. why ≡ TooDeep → (rest : Text) → IsBatch whole start ss final es TooManyBrackets rest)

-- the spans of the events lie in the text, but where memory or the grammar ends the reading
abbrev pub HasSpans : Text → List Event → Result Batch Stop → Type 0
HasSpans t es result =
    MatchResult result (λ b. AllByRecursion (λ e. IsSpanOf t e.span) es)
    (λ why. why ≡ TooDeep → AllByRecursion (λ e. IsSpanOf t e.span) es)
