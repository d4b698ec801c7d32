-- What a run of a command gives.
use Rattle.std.specs.Prelude.{◌≡◌, ◌⊎◌, ◌<◌, ℕ, List, [], length, Some, false, IsUtf8}
use Rattle.toml_edit_model.specs.Text.{Text}
use Rattle.toml_edit_command.specs.Words.{Request, SaysAction, asked}
use Rattle.toml_edit_command.specs.Run.{OutputChange, Does, TellsMistake, TellsRefusal}
use Rattle.toml_edit_c.specs.Answers.{IsAtFront}
use Rattle.toml_edit_c.specs.Split.{words_in}
use Rattle.toml_edit_c.specs.declared.run.Sizes.{Sizes}

-- the words of a call, which has none if they are not UTF-8
abbrev pub AreWords : Text → List Text → Type 0
AreWords bytes ws = (IsUtf8 bytes × (ws ≡ words_in bytes)) ⊎ ((¬ (IsUtf8 bytes)) × (ws ≡ []))

-- an output that was empty, and holds this text
abbrev pub filled : Text → OutputChange
filled x = record { old = Some []; new = Some x; failed = false }

-- The command ends with this status on this input, and these are its output and its errors. Words
-- that are none are mistaken, whatever the input is.
abbrev pub Ends : Request → Text → ℕ → Text → Text → Type 0
Ends q input status out err =
    ((status ≡ 0) × Does q (Some input) (filled out) × (err ≡ []))
    ⊎ ((status ≡ 1) × SaysAction q × TellsRefusal q (Some input) (filled err) × (out ≡ []))
    ⊎ ((status ≡ 2) × TellsMistake q (Some input) (filled err) × (out ≡ []))

-- so it is for the command that the words say
abbrev pub EndsOn : Text → Text → ℕ → Text → Text → Type 0
EndsOn words input status out err =
    (ws : List Text) × AreWords words ws × Ends (asked ws) input status out err

abbrev pub sizes_of : Text → Text → Sizes
sizes_of out err = record { output = length out; errors = length err }

-- the rooms of a call before and after it
pub record Rooms : Type 0 where
  pub output_old : List ℕ
  pub output_new : List ℕ
  pub errors_old : List ℕ
  pub errors_new : List ℕ

abbrev pub rooms : List ℕ → List ℕ → List ℕ → List ℕ → Rooms
rooms out out' err err' =
    record { output_old = out; output_new = out'; errors_old = err; errors_new = err' }

-- both texts are in their rooms
abbrev pub AreGiven : Text → Text → Rooms → Type 0
AreGiven out err r =
    IsAtFront out r.output_old r.output_new × IsAtFront err r.errors_old r.errors_new

-- the rooms are as they were
abbrev pub AreUntouched : Rooms → Type 0
AreUntouched r = (r.output_new ≡ r.output_old) × (r.errors_new ≡ r.errors_old)

-- so they are, as one of the texts does not fit
abbrev pub AreTooLong : Text → Text → Rooms → Type 0
AreTooLong out err r =
    ((length r.output_old < length out) ⊎ (length r.errors_old < length err)) × AreUntouched r
