-- The events of a statement that stands in a text.
use Rattle.std.specs.Prelude.{◌≡◌, ◌⊎◌, ℕ, List, []}
use Rattle.toml_edit_model.specs.Syntax.{Statement, IsStatement, statement_text}
use Rattle.toml_edit_model.specs.Text.{Text}
use Rattle.toml_edit_model.specs.Trivia.{IsNewline}
use Rattle.toml_edit_laws.specs.Standing.{Stands}
use Rattle.toml_edit_syntax.specs.declared.event.Event.{Event}
use Rattle.toml_edit_syntax.specs.Events.{statement_events}

-- a statement, whether or not others follow
abbrev pub IsOneStatement : Statement → Type 0
IsOneStatement s = IsStatement (λ end. IsNewline end ⊎ (end ≡ [])) s

-- A fact for where these are the events of this statement, which is in the source from this byte on.
abbrev pub IfStatementNext : Text → List Event → Statement → ℕ → Type 0 → Type 0
IfStatementNext source es s start P =
    IsOneStatement s → Stands source start (statement_text s) → es ≡ statement_events start s → P
