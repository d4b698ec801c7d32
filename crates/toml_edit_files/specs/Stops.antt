-- Why a run ends before it is done.
use Rattle.std.specs.Prelude.{◌≡◌, ◌⊎◌, ℕ, [], ◌++◌, Option, Some, None, Result, Ok, Err, codes, string_bytes}
use Rattle.toml_edit_model.specs.Text.{Text}
use Rattle.toml_edit_files.specs.Notes.{note_text}
use Rattle.toml_edit_files.specs.declared.stop.Reason.{Reason}
use Rattle.toml_edit_edits.specs.declared.fault.EditFault.{EditFault}
use Rattle.toml_edit_edits.specs.declared.fault.EditFault.TheVariants as faults
use Rattle.toml_edit_files.specs.declared.stop.Reason.TheVariants.{No, Mistaken, Failed, Refused, Locked}
use Rattle.toml_edit_files.specs.declared.stop.Stop.{Stop}
use Rattle.toml_edit_files.specs.declared.stop.Stop.TheVariants.{Message, Silent, Memory}

-- the reason, unless memory ran out
abbrev pub reason_of : Stop → Option Reason
reason_of (Message reason note) = Some reason
reason_of Silent = Some No
reason_of Memory = None

-- what is written of it to standard error
abbrev pub notes_of : Stop → Text
notes_of (Message reason note) = string_bytes note.text
notes_of Silent = []
notes_of Memory = []

-- memory ran out, or it is for this reason
abbrev pub IsFor : Reason → Option Reason → Type 0
IsFor reason why = (why ≡ None) ⊎ (why ≡ Some reason)

-- memory ran out, or it is for this reason, and something like this is said
abbrev pub StopsSaying : Reason → (Text → Type 0) → Stop → Type 0
StopsSaying reason Says Memory = Unit {0}
StopsSaying reason Says Silent = ⊥
StopsSaying reason Says (Message why note) =
    (said : Text) × (why ≡ reason) × (string_bytes note.text ≡ note_text said) × Says said

-- what is said begins with the name of the file
abbrev pub IsAbout : Text → Text → Type 0
IsAbout file said = (why : Text) × (said ≡ file ++ (codes ": " ++ why))

-- memory ran out, or a call on the file failed
abbrev pub IsFailed : Text → Stop → Type 0
IsFailed file stop = StopsSaying Failed (IsAbout file) stop

-- neither is why, so what is asked for was read
abbrev pub Reads : {A : Type 0} → Result A Stop → Type 0
Reads (Ok x) = Unit {0}
Reads (Err stop) = IsFor Failed (reason_of stop) → ⊥

-- so, or what is read of it is refused, and something like this is said
abbrev pub IsUnread : Text → (Text → Type 0) → Stop → Type 0
IsUnread file Says stop = IsFailed file stop ⊎ StopsSaying Refused Says stop

-- memory ran out, or the words are mistaken for this reason
abbrev pub IsMistaken : Type 0 → Option Reason → Type 0
IsMistaken Why None = Unit {0}
IsMistaken Why (Some Mistaken) = Why
IsMistaken Why (Some _) = ⊥

-- the reason where an edit is refused: the answer is no where nothing is at the path, or no element is
-- equal
abbrev pub reason_for : EditFault → Option Reason
reason_for faults.Memory = None
reason_for faults.NoSuchPath = Some No
reason_for faults.NoSuchElement = Some No
reason_for _ = Some Mistaken

-- the exit status
abbrev pub status_of : Option Reason → ℕ
status_of None = 3
status_of (Some No) = 1
status_of (Some Mistaken) = 2
status_of (Some Failed) = 4
status_of (Some Refused) = 5
status_of (Some Locked) = 6
