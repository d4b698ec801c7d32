-- What the caller's room holds after a call.
use Rattle.std.specs.Prelude.{◌≡◌, ◌⊎◌, ℕ, ◌≤◌, ◌<◌, List, ◌++◌, length, drop}
use Rattle.toml_edit_model.specs.Text.{Text}
use Rattle.toml_edit_c.specs.declared.answer.Answer.{Answer}

-- the list is at the front of the room, which is else as it was
abbrev pub IsAtFront : {A : Type 0} → List A → List A → List A → Type 0
IsAtFront xs old new = (length xs ≤ length old) × (new ≡ xs ++ drop (length xs) old)

-- the text does not fit in the room, which is as it was
abbrev pub IsTooLong : Text → List ℕ → List ℕ → Type 0
IsTooLong text old new = (length old < length text) × (new ≡ old)

-- The answer says which of these it is, and how many bytes the text has.
abbrev pub Holds : Text → Answer → List ℕ → List ℕ → Type 0
Holds text answer old new =
    (answer.needed ≡ length text)
    × (((answer.status ≡ 0) × IsAtFront text old new)
    ⊎ ((answer.status ≡ 1) × IsTooLong text old new))

-- so it is with a text of this property
abbrev pub Gives : (Text → Type 0) → Answer → List ℕ → List ℕ → Type 0
Gives Is answer old new = (text : Text) × Is text × Holds text answer old new

-- there is no text, and the room is as it was
abbrev pub IsUnanswered : Answer → List ℕ → List ℕ → Type 0
IsUnanswered answer old new = (answer.needed ≡ 0) × (new ≡ old)

-- Where the status is at most 1 it is with such a text. Else there is none, and it is a status of this
-- property.
pub record Answers (Is : Text → Type 0) (Stops : ℕ → Type 0) (answer : Answer) (old new : List ℕ) : Type 0 where
  pub given : answer.status ≤ 1 → Gives Is answer old new
  pub stopped : 1 < answer.status → Stops answer.status
  pub unanswered : 1 < answer.status → IsUnanswered answer old new
