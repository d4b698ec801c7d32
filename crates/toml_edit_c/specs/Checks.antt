-- What a check of a text says.
use Rattle.std.specs.Prelude.{◌≡◌, ◌⊎◌, ℕ, suc, List, length, Some}
use Rattle.std.specs.Option.{option_map_or}
use Rattle.toml_edit_model.specs.Text.{Text}
use Rattle.toml_edit_model.specs.Mode.{Mode}
use Rattle.toml_edit_model.specs.Version.{Version}
use Rattle.toml_edit_model.specs.Syntax.{Document}
use Rattle.toml_edit_model.specs.Accepted.{AcceptedIn}
use Rattle.toml_edit_model.specs.Excerpt.{position_in}
use Rattle.toml_edit_error.specs.Report.{Report}
use Rattle.toml_edit.specs.Documents.{IsRefusalIn}
use Rattle.toml_edit_command.specs.Run.{IsRefused}
use Rattle.toml_edit_c.specs.Answers.{IsAtFront, IsTooLong}
use Rattle.toml_edit_c.specs.Asks.{options_by}
use Rattle.toml_edit_c.specs.declared.answer.Answer.{Answer}
use Rattle.toml_edit_c.specs.declared.check.Place.{Place}

-- no place
abbrev pub nowhere : Place
nowhere = record { start = 0; end = 0; line = 0; column = 0 }

-- where the span of the report is, lines and columns from 1
abbrev pub place_of : Report → Place
place_of r =
    option_map_or (λ s. record {
      start = s.0;
      end = s.1;
      line = suc (position_in r.input s.0).line;
      column = suc (position_in r.input s.0).column;
    }) r.span nowhere

-- The version refuses the text, for the reason that is given: its place, and its message in the
-- room, if that fits there. The answer says how many bytes the message has.
pub record TellsRefusalIn (version : Version) (text : Text) (place : Place) (answer : Answer)
    (old new : List ℕ) : Type 0 where
  pub report : Report
  pub refused : IsRefused version text
  pub reason : IsRefusalIn version text report
  pub at : place ≡ place_of report
  pub needed : answer.needed ≡ length report.message
  pub message : IsAtFront report.message old new ⊎ IsTooLong report.message old new

-- ---- by the flags

-- this holds of the version that the flags stand for
abbrev pub InVersion : ℕ → (Version → Type 0) → Type 0
InVersion flags Is = (how : Mode × Version) × (options_by flags ≡ Some how) × Is how.1

abbrev pub IsAccepted : ℕ → Text → Type 0
IsAccepted flags text = InVersion flags (λ version. (d : Document) × AcceptedIn version text d)

abbrev pub TellsRefusal : ℕ → Text → Place → Answer → List ℕ → List ℕ → Type 0
TellsRefusal flags text place answer old new =
    InVersion flags (λ version. TellsRefusalIn version text place answer old new)
