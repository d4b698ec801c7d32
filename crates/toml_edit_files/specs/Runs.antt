-- What a run has done.
use Rattle.std.specs.Prelude.{◌≡◌, ◌⊎◌, ℕ, Bool, true, false, ◌==◌, if◌then◌else◌, List, [], ◌++◌, map, Option, codes, string_bytes}
use Rattle.std.specs.Io.KnownBytes.{Appends}
use Rattle.toml_edit_io.specs.Streams.{AppendsBeginning}
use Rattle.toml_edit_model.specs.Text.{newline}
use Rattle.toml_edit_model.specs.Tree.{Tree}
use Rattle.file_replace.specs.Events.{Text, Event}
use Rattle.toml_edit_files.specs.Answers.{HasNoAnswer, IsAnswer, file_of}
use Rattle.toml_edit_files.specs.Checks.{ChecksFile, IsReadAsRefused}
use Rattle.toml_edit_files.specs.EditFiles.{EditsFile, HasNoEdits, target_of}
use Rattle.toml_edit_files.specs.Edited.{IsReadFrom, version_by}
use Rattle.toml_edit_files.specs.Folders.{OnlyLooks, Stops}
use Rattle.toml_edit_files.specs.FormatFiles.{FormatsFile}
use Rattle.toml_edit_files.specs.Found.{DoesFound}
use Rattle.toml_edit_files.specs.Outcomes.{Tells, TellsAlone, TellsStop}
use Rattle.toml_edit_files.specs.Requests.{IsNoRequest, SaysRequest}
use Rattle.toml_edit_files.specs.Stops.{IsMistaken, IsUnread, reason_of}
use Rattle.toml_edit_files.specs.declared.check.TheConstants.{UNCHECKED}
use Rattle.toml_edit_files.specs.declared.fmt.TheConstants.{UNFORMATTED}
use Rattle.toml_edit_files.specs.declared.told.Told.{Told}
use Rattle.toml_edit_files.specs.declared.stop.Stop.{Stop}
use Rattle.toml_edit_files.specs.declared.words.Command.{Command}
use Rattle.toml_edit_files.specs.declared.words.Command.TheVariants.{Show, Ask, Edit, Check, Fmt}
use Rattle.toml_edit_files.specs.declared.words.Question.{Question}
use Rattle.toml_edit_files.specs.declared.words.Reading.{Reading}
use Rattle.toml_edit_files.specs.declared.words.Request.{Request}

module _ (old new : Option (List Event)) (left : Option Text) where
  -- the output is the answer to the question about its file
  abbrev pub AnswersQuestion : Reading → Question → Bool → Text → Type 0
  AnswersQuestion reading q is_yes output =
      (x : Tree) × IsReadFrom reading (file_of q) old new left x × IsAnswer q x is_yes output

  -- Why it has none: memory ran out or a call failed, its file is refused, or what that holds is read
  -- and has no answer.
  abbrev pub HasNone : Reading → Question → Stop → Type 0
  HasNone reading q stop =
      IsUnread (file_of q) (IsReadAsRefused (version_by reading) (file_of q) old new left) stop
      ⊎ ((x : Tree) × IsReadFrom reading (file_of q) old new left x × HasNoAnswer q x (reason_of stop))

  -- The command is done; or it stops, and has no output. One on several files is done with each.
  abbrev pub EndsCommand : Reading → Command → Told → Type 0
  EndsCommand reading (Show text) told = (new ≡ old) × TellsAlone 0 (string_bytes text) told
  EndsCommand reading (Ask q) told =
      ((is_yes : Bool) × (output : Text) × AnswersQuestion reading q is_yes output
      × TellsAlone (if is_yes then 0 else 1) output told)
      ⊎ ((stop : Stop) × OnlyLooks old new × HasNone reading q stop × TellsStop stop told)
  EndsCommand reading (Edit c edits) told =
      ((output : Text) × EditsFile reading c edits.items old new left output × Tells 0 output told)
      ⊎ ((stop : Stop) × Stops (target_of c) old new (reason_of stop)
      × HasNoEdits reading c edits.items old new left stop × TellsStop stop told)
  EndsCommand reading (Check files) told =
      DoesFound (ChecksFile (version_by reading)) UNCHECKED.now (map (λ f. f.now) files.items) old new left
      told
  EndsCommand reading (Fmt c) told =
      DoesFound (FormatsFile reading c) UNFORMATTED.now (map (λ f. f.now) c.files.items) old new left told

  -- The words ask for a command, and so it ends; they ask for none, which has status 2; or memory runs
  -- out. Of the last two no file is read.
  abbrev pub Ends : List Text → Told → Type 0
  Ends words told =
      ((q : Request) × SaysRequest words q × EndsCommand q.reading q.command told)
      ⊎ ((stop : Stop) × (new ≡ old) × IsMistaken (IsNoRequest words) (reason_of stop)
      × TellsStop stop told)

-- ---- what is written

abbrev pub memory_line : Text
memory_line = codes "tomlfile: out of memory" ++ newline

abbrev pub write_line : Text
write_line = codes "tomlfile: write failed" ++ newline

-- The output is written and the status is this one. If the output fails, it is 4. Where there is none,
-- nothing is written. The line is the last one of the errors.
abbrev pub Writes : {O : Type 0} → (O → Option Text) → O → O → ℕ → Text → ℕ → Text → Type 0
Writes contents old new status output result line =
    (output ≡ [] → (new ≡ old) × (result ≡ status))
    × (((result ≡ status) × Appends (contents old) (contents new) output
    × (line ≡ (if status == 3 then memory_line else [])))
    ⊎ ((result ≡ 4) × AppendsBeginning (contents old) (contents new) output × (line ≡ write_line)))

-- The text is added to what is held. If the output fails, a beginning of it may be.
abbrev pub Adds : Option Text → Option Text → Bool → Text → Type 0
Adds old new failed text =
    AppendsBeginning old new text × (failed ≡ false → Appends old new text)
