-- What commands come to, on one file and on several.
use Rattle.std.specs.Prelude.{◌≡◌, ◌≢◌, ◌<◌, ◌⊎◌, ◌-◌, ◌^◌, ℕ, max, min, not, ◌==◌, if◌then◌else◌, List, [], ◌∷◌, ◌++◌, length, map, filter, flat_map, Option, Result, Ok, Err, string_bytes}
use Rattle.toml_edit_model.specs.Text.{newline}
use Rattle.file_replace.specs.Events.{Text, Event}
use Rattle.toml_edit_files.specs.Folders.{LeavesInput}
use Rattle.toml_edit_files.specs.Notes.{unnamed}
use Rattle.toml_edit_files.specs.Stops.{notes_of, reason_of, status_of}
use Rattle.toml_edit_files.specs.declared.outcome.Done.{Done}
use Rattle.toml_edit_files.specs.declared.told.Told.{Told}
use Rattle.toml_edit_files.specs.declared.stop.Reason.TheVariants.{Refused}
use Rattle.toml_edit_files.specs.declared.stop.Stop.{Stop}
use Rattle.toml_edit_files.specs.declared.stop.Stop.TheVariants.{Message, Memory}

-- the status and the output of a command
abbrev pub Tells : ℕ → Text → Told → Type 0
Tells status output told = (told.status ≡ status) × (string_bytes told.output ≡ output)

-- with no message
abbrev pub TellsAlone : ℕ → Text → Told → Type 0
TellsAlone status output told = Tells status output told × (string_bytes told.notes ≡ [])

-- that a file is refused: the output is its message
abbrev pub TellsRefused : (Text → Type 0) → Told → Type 0
TellsRefused Says told = (said : Text) × Says said × TellsAlone 1 (said ++ newline) told

-- those of one that stops, with its message
abbrev pub TellsStop : Stop → Told → Type 0
TellsStop stop told =
    Tells (status_of (reason_of stop)) [] told × (string_bytes told.notes ≡ notes_of stop)

abbrev pub TellsOf : Result Done Stop → Told → Type 0
TellsOf (Ok done) told =
    Tells (if done.yes then 0 else 1) (string_bytes done.output) told
    × (string_bytes told.notes ≡ string_bytes done.notes)
TellsOf (Err stop) told = TellsStop stop told

-- those of a file, of which a refusal is an answer that is no, with the message as its output
abbrev pub TellsOfFile : Result Done Stop → Told → Type 0
TellsOfFile (Err (Message Refused note)) told =
    TellsAlone 1 (unnamed (string_bytes note.text)) told ⊎ TellsStop Memory told
TellsOfFile outcome told = TellsOf outcome told

-- ---- several files

-- a file was read, or refused, by its status
abbrev pub WasRead : Told → Type 0
WasRead told = (told.status ≢ 3) × (told.status ≢ 4)

-- how many are not done: they have another status than 0
abbrev pub undone_of : List Told → ℕ
undone_of ts = length (filter (λ t. not (t.status == 0)) ts)

-- the worst status, which is the greatest
abbrev pub worst : List ℕ → ℕ
worst [] = 0
worst (status ∷ statuses) = max status (worst statuses)

module _ (Does : Text → Told → Option (List Event) → Option (List Event) → Option Text → Type 0) where
  -- Each file is done, one after another, and has its outcome. Where memory runs out at one, it has
  -- none, and the files after it are not touched.
  abbrev pub AreDone : List Text → List Told → Option (List Event) → Option (List Event) → Option Text
      → Type 0
  AreDone [] [] old new left = new ≡ old
  AreDone [] (told ∷ more) old new left = ⊥
  AreDone (name ∷ names) [] old new left = (told : Told) × Does name told old new left
  AreDone (name ∷ names) (told ∷ more) old new left =
      (next : Option (List Event)) × (rest : Option Text) × Does name told old next left
      × LeavesInput (WasRead told) name left rest × (told.status ≢ 3) × AreDone names more next new rest

  -- the worst status of them, what they write, one after another, and how many are not done
  pub record DoesAll (names : List Text) (old new : Option (List Event)) (left : Option Text)
      (all : Told) (undone : ℕ) : Type 0 where
    pub told : List Told
    pub done : AreDone names told old new left
    pub status : ((length told ≡ length names) × (all.status ≡ worst (map (λ t. t.status) told))
        × (string_bytes all.notes ≡ flat_map (λ t. string_bytes t.notes) told)
        × (undone ≡ min (undone_of told) (2 ^ 64 - 1)))
        ⊎ ((length told < length names) × (all.status ≡ 3))
    pub output : string_bytes all.output ≡ flat_map (λ t. string_bytes t.output) told
