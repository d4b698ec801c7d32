-- What a run reads and writes, and its messages.
use Rattle.std.specs.Prelude.{◌≡◌, Bool, false, Option, IfSome, IsUtf8}
use Rattle.std.specs.Io.KnownBytes.{Appends}
use Rattle.toml_edit_model.specs.Text.{Text}
use Rattle.toml_edit_model.specs.Mode.{Mode}
use Rattle.toml_edit_model.specs.Version.{Version}
use Rattle.toml_edit_model.specs.Syntax.{Document}
use Rattle.toml_edit_model.specs.Accepted.{AcceptedIn}
use Rattle.toml_edit_model.specs.Excerpt.{excerpt}
use Rattle.toml_edit_model.specs.Tree.{Tree}
use Rattle.toml_edit_error.specs.Report.{Report}
use Rattle.toml_edit.specs.Documents.{IsRefusalIn}
use Rattle.toml_edit_io.specs.Streams.{AppendsBeginning}
use Rattle.toml_edit_command.specs.Words.{Action, Request, Says}
use Rattle.toml_edit_command.specs.Written.{IsReadAs, Writes}
use Rattle.toml_edit_command.specs.Mistakes.{IsMistaken, encoding_line, mistake_line}
use Rattle.toml_edit_command.specs.declared.error.CommandError.{CommandError}

-- ---- outputs

-- what becomes of an output: what it held before and after, and whether it has failed then
pub record OutputChange : Type 0 where
  pub old : Option Text
  pub new : Option Text
  pub failed : Bool

-- so it is for an output of which these are the states before and after
abbrev pub written : {A : Type 0} → (A → Option Text) → (A → Bool) → A → A → OutputChange
written contents has_failed old new =
    record { old = contents old; new = contents new; failed = has_failed new }

-- nothing was written
abbrev pub IsUnwritten : OutputChange → Type 0
IsUnwritten s = (s.new ≡ s.old) × (s.failed ≡ false)

-- What is held grew by this line, unless the writer has failed; then it may have grown by a
-- beginning alone.
abbrev pub Tells : Text → OutputChange → Type 0
Tells line s =
    AppendsBeginning s.old s.new line × (s.failed ≡ false → Appends s.old s.new line)

-- ---- 0: done

module _ (mode : Mode) (version : Version) where
  -- What the output holds grew by what the action writes of what was left to read.
  abbrev pub DoesAction : Action → Option Text → OutputChange → Type 0
  DoesAction a known s =
      IfSome known (λ bytes. (d : Document) × (t : Tree) × IsReadAs mode version bytes d t
      × ((x : Text) × Writes mode a d t x × Appends s.old s.new x))

  -- It grew by a beginning of that.
  abbrev pub BeginsAction : Action → Option Text → OutputChange → Type 0
  BeginsAction a known s =
      IfSome known (λ bytes. (d : Document) × (t : Tree) × IsReadAs mode version bytes d t
      × ((x : Text) × Writes mode a d t x × AppendsBeginning s.old s.new x))

-- so it is for what the words say
abbrev pub Does : Request → Option Text → OutputChange → Type 0
Does q known s = (a : Action) × Says q a × DoesAction q.mode q.version a known s

abbrev pub Begins : Request → Option Text → OutputChange → Type 0
Begins q known s = (a : Action) × Says q a × BeginsAction q.mode q.version a known s

-- ---- 1: refused

module _ (version : Version) where
  -- the version accepts no cut of the text
  abbrev pub IsRefused : Text → Type 0
  IsRefused t = (d : Document) → AcceptedIn version t d → ⊥

  -- the second text is the excerpt of a fault for which the version refuses the first
  abbrev pub IsExcerptOf : Text → Text → Type 0
  IsExcerptOf t shown =
      (r : Report) × IsRefusalIn version t r × (shown ≡ excerpt r.input r.span r.message)

  -- the bytes are no text that the version accepts
  abbrev pub IsNotAccepted : Text → Type 0
  IsNotAccepted bytes = (d : Document) → IsUtf8 bytes → AcceptedIn version bytes d → ⊥

  -- What is held grew so by the line for bytes that are not UTF-8, or by the excerpt of a fault for
  -- which the version refuses the text.
  abbrev pub TellsFault : Text → OutputChange → Type 0
  TellsFault bytes s =
      (¬ (IsUtf8 bytes) → Tells encoding_line s)
      × (IsUtf8 bytes → (shown : Text) × IsExcerptOf bytes shown × Tells shown s)

-- What was left to read is not accepted, and the reason is added to the output held.
abbrev pub TellsRefusal : Request → Option Text → OutputChange → Type 0
TellsRefusal q known s =
    IfSome known (λ bytes. IsNotAccepted q.version bytes × TellsFault q.version bytes s)

-- ---- 2: mistaken

-- The line of the mistake that is made is added to it.
abbrev pub TellsMistake : Request → Option Text → OutputChange → Type 0
TellsMistake q known s = (m : CommandError) × IsMistaken q known m × Tells (mistake_line m) s
