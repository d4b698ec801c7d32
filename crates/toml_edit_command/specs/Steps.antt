-- Why a run stops, and what it leaves then.
use Rattle.std.specs.Prelude.{◌≡◌, ℕ, Bool, true, false, Option, IfSome, IsUtf8, string_bytes}
use Rattle.std.specs.Io.KnownBytes.{Appends, IsAtEnd}
use Rattle.toml_edit_model.specs.Text.{Text}
use Rattle.toml_edit_model.specs.Mode.{Mode}
use Rattle.toml_edit_model.specs.Version.{Version}
use Rattle.toml_edit_model.specs.Syntax.{Document}
use Rattle.toml_edit_model.specs.Fits.{FitsIn}
use Rattle.toml_edit_model.specs.Keys.{names}
use Rattle.toml_edit_io.specs.Streams.{AppendsBeginning}
use Rattle.toml_edit_tree.specs.View.{value_view}
use Rattle.toml_edit_command.specs.Words.{Action, printing, getting, setting, removing, Request, IsCommand}
use Rattle.toml_edit_command.specs.Written.{Held, IsHeldAs, IsPrintFor, Makes}
use Rattle.toml_edit_command.specs.Mistakes.{InWords, InTree, InRead, mistake_line, encoding_line, memory_line, read_line, write_line}
use Rattle.toml_edit_command.specs.Run.{OutputChange, IsExcerptOf, IsRefused, IsUnwritten, Tells}
use Rattle.toml_edit_command.specs.declared.words.Command.{Command}
use Rattle.toml_edit_command.specs.declared.words.Command.TheVariants.{Print, Get, Set, Remove}
use Rattle.toml_edit_paths.specs.declared.fault.ChangeFault.{ChangeFault}
use Rattle.toml_edit_paths.specs.declared.fault.ChangeFault.TheVariants.{NoSuchPath, WrongKind}
use Rattle.toml_edit_paths.specs.declared.fault.ChangeFault.TheVariants as faults
use Rattle.toml_edit_command.specs.declared.error.CommandError.TheVariants as mistakes
use Rattle.toml_edit_command.specs.declared.error.RunError.{RunError}
use Rattle.toml_edit_command.specs.declared.error.RunError.TheVariants.{Mistaken, NotUtf8, Refused, Memory, ReadFailed, WriteFailed}

-- what a command does
abbrev pub action_of : Command → Action
action_of Print = printing
action_of (Get path) = getting (names path.items)
action_of (Set path value) = setting (names path.items) (value_view value)
action_of (Remove path) = removing (names path.items)

-- the status that a run ends with
abbrev pub status_of : RunError → ℕ
status_of (Mistaken m) = 2
status_of NotUtf8 = 1
status_of (Refused e) = 1
status_of Memory = 3
status_of ReadFailed = 4
status_of WriteFailed = 4

-- the message for it
abbrev pub TellsError : RunError → OutputChange → Type 0
TellsError (Mistaken m) s = Tells (mistake_line m) s
TellsError NotUtf8 s = Tells encoding_line s
TellsError (Refused e) s = Tells (string_bytes e) s
TellsError Memory s = Tells memory_line s
TellsError ReadFailed s = Tells read_line s
TellsError WriteFailed s = Tells write_line s

-- the words stop it so
abbrev pub StopsInWords : Request → RunError → Type 0
StopsInWords q (Mistaken m) = InWords q m
StopsInWords q NotUtf8 = ⊥
StopsInWords q (Refused e) = ⊥
StopsInWords q Memory = IsCommand q.command
StopsInWords q ReadFailed = ⊥
StopsInWords q WriteFailed = ⊥

-- a step that reads in this version stops so: what was left to read, and whether the input has
-- failed then
abbrev pub StopsReading : Version → Option Text → Bool → RunError → Type 0
StopsReading version known failed (Mistaken m) = ⊥
StopsReading version known failed NotUtf8 =
    IfSome known (λ bytes. ¬ (IsUtf8 bytes)) × (failed ≡ false)
StopsReading version known failed (Refused e) =
    IfSome known (λ bytes. IsUtf8 bytes × IsRefused version bytes
    × IsExcerptOf version bytes (string_bytes e)) × (failed ≡ false)
StopsReading version known failed Memory = failed ≡ false
StopsReading version known failed ReadFailed = failed ≡ true
StopsReading version known failed WriteFailed = ⊥

-- a step that stops so has read the input to its end, unless memory ran out or the input failed:
-- what is left to read then
abbrev pub HasReadAll : Option Text → RunError → Type 0
HasReadAll left (Mistaken m) = IsAtEnd left
HasReadAll left NotUtf8 = IsAtEnd left
HasReadAll left (Refused e) = IsAtEnd left
HasReadAll left Memory = Unit {0}
HasReadAll left ReadFailed = Unit {0}
HasReadAll left WriteFailed = IsAtEnd left

-- what the action makes of what is held was written, or a beginning of it
abbrev pub Wrote : Action → Held → OutputChange → Type 0
Wrote a h s = (x : Text) × Makes a h x × Appends s.old s.new x

abbrev pub BeganToWrite : Action → Held → OutputChange → Type 0
BeganToWrite a h s = (x : Text) × Makes a h x × AppendsBeginning s.old s.new x

-- writing this text stops so
abbrev pub StopsWriting : Text → OutputChange → RunError → Type 0
StopsWriting x s (Mistaken m) = ⊥
StopsWriting x s NotUtf8 = ⊥
StopsWriting x s (Refused e) = ⊥
StopsWriting x s Memory = IsUnwritten s
StopsWriting x s ReadFailed = ⊥
StopsWriting x s WriteFailed = AppendsBeginning s.old s.new x × (s.failed ≡ true)

-- the action on what is held stops so
abbrev pub StopsActing : Action → Held → OutputChange → RunError → Type 0
StopsActing a h s (Mistaken m) = InTree h.mode a h.tree m × IsUnwritten s
StopsActing a h s NotUtf8 = ⊥
StopsActing a h s (Refused e) = ⊥
StopsActing a h s Memory = IsUnwritten s
StopsActing a h s ReadFailed = ⊥
StopsActing a h s WriteFailed = BeganToWrite a h s × (s.failed ≡ true)

module _ (mode : Mode) (version : Version) where
  -- the action on what was left to read, in this mode and version, stops so, and whether the input
  -- has failed then
  abbrev pub StopsDoing : Action → Option Text → Bool → OutputChange → RunError → Type 0
  StopsDoing a known failed s (Mistaken m) =
      InRead mode version a known m × (failed ≡ false) × IsUnwritten s
  StopsDoing a known failed s NotUtf8 = StopsReading version known failed NotUtf8 × IsUnwritten s
  StopsDoing a known failed s (Refused e) =
      StopsReading version known failed (Refused e) × IsUnwritten s
  StopsDoing a known failed s Memory = StopsReading version known failed Memory × IsUnwritten s
  StopsDoing a known failed s ReadFailed =
      StopsReading version known failed ReadFailed × IsUnwritten s
  StopsDoing a known failed s WriteFailed =
      (failed ≡ false)
      × IfSome known (λ bytes. (d : Document) × (h : Held) × IsHeldAs mode version bytes d h
      × BeganToWrite a h s) × (s.failed ≡ true)

  -- ---- on the way

  -- what the action makes of what is held of what was left to read was written
  abbrev pub WroteRead : Action → Option Text → OutputChange → Type 0
  WroteRead a known s =
      IfSome known (λ bytes. (d : Document) × (h : Held) × IsHeldAs mode version bytes d h
      × Wrote a h s)

-- a fault of a change stops the run so
abbrev pub error_for : ChangeFault → RunError
error_for NoSuchPath = Mistaken mistakes.NoSuchPath
error_for WrongKind = Mistaken mistakes.WrongKind
error_for faults.Memory = Memory

-- what is held fits, and was printed
abbrev pub HasPrinted : Held → OutputChange → Type 0
HasPrinted h s = (x : Text) × IsPrintFor h h.tree x × Appends s.old s.new x

-- its print, if it fits, stops so
abbrev pub StopsPrinting : Held → OutputChange → RunError → Type 0
StopsPrinting h s (Mistaken m) = (m ≡ mistakes.Unfit) × (¬ (FitsIn h.mode h.tree)) × IsUnwritten s
StopsPrinting h s NotUtf8 = ⊥
StopsPrinting h s (Refused e) = ⊥
StopsPrinting h s Memory = IsUnwritten s
StopsPrinting h s ReadFailed = ⊥
StopsPrinting h s WriteFailed =
    ((x : Text) × IsPrintFor h h.tree x × AppendsBeginning s.old s.new x) × (s.failed ≡ true)
