-- What `edit` does with files.
use Rattle.std.specs.Prelude.{◌≡◌, ◌⊎◌, Bool, not, ◌&&◌, ◌||◌, IsTrue, MatchBool, List, [], ◌++◌, Option, Some, None, is_none, unwrap_or}
use Rattle.std.specs.Option.{option_copied}
use Rattle.line_diff.specs.Diff.{IsDiff}
use Rattle.file_replace.specs.Events.{Text, Event}
use Rattle.toml_edit_edits.specs.declared.edit.Edit.{Edit}
use Rattle.toml_edit_files.specs.Checks.{IsReadAsRefused}
use Rattle.toml_edit_files.specs.Edited.{IsEdited, IsInForm, IsNotEdited, version_by}
use Rattle.toml_edit_files.specs.Folders.{IsHeld, IsNoTextOf, IsPut, IsPutAt, IsReadOf, IsTextOf, LeavesInput, OnlyLooks, is_stream}
use Rattle.toml_edit_files.specs.Lines.{SaysScript}
use Rattle.toml_edit_files.specs.Stops.{IsFailed, IsMistaken, IsUnread, reason_of}
use Rattle.toml_edit_files.specs.declared.stop.Stop.{Stop}
use Rattle.toml_edit_files.specs.declared.words.EditCommand.{EditCommand}
use Rattle.toml_edit_files.specs.declared.words.Reading.{Reading}

-- The edits that a script says, if there is one, are before those of the words.
abbrev pub ScriptedFirst : Reading → Option Text → Option (List Event) → Option (List Event)
    → Option Text → Option Text → List Edit → List Edit → Type 0
ScriptedFirst reading None old new left rest edits all = (new ≡ old) × (rest ≡ left) × (all ≡ edits)
ScriptedFirst reading (Some script) old new left rest edits all =
    (t : Text) × (scripted : List Edit) × IsTextOf script old new left t
    × LeavesInput (Unit {0}) script left rest × SaysScript (version_by reading) t scripted × (all ≡ scripted ++ edits)

-- ---- where the text goes

abbrev pub target_of : EditCommand → Text
target_of c = unwrap_or (option_copied c.output) c.file.now

abbrev pub is_shown : EditCommand → Bool
is_shown c = c.dry_run || is_stream (target_of c)

abbrev pub is_in_place : EditCommand → Bool
is_in_place c = not (is_shown c) && is_none c.output

-- what is written of a text: how it differs from the one before, or the text
abbrev pub IsShownAs : EditCommand → Text → Text → Text → Type 0
IsShownAs c before text output =
    MatchBool c.diff (IsDiff c.file.now before text output) (output ≡ text)

module _ (reading : Reading) (c : EditCommand) (all : List Edit) (old new : Option (List Event)) where
  -- What the edits leave of the text of the file replaces it, unless it is the same, or the file holds
  -- another text by then. One that is locked is in its normal form.
  pub record EditsInPlace (output : Text) : Type 0 where
    pub name : Text
    pub before : Text
    pub text : Text
    pub read : Option (List Event)
    pub held : IsHeld c.file.now name old read before
    pub locked : IsTrue c.locked → IsInForm reading before
    pub edited : IsEdited reading all before text
    pub puts : IsPut c.force name before text read new
    pub silent : output ≡ []

  -- It goes to standard output, or replaces another file.
  pub record EditsElsewhere (left : Option Text) (output : Text) : Type 0 where
    pub before : Text
    pub text : Text
    pub read : Option (List Event)
    pub file : IsTextOf c.file.now old read left before
    pub locked : IsTrue c.locked → IsInForm reading before
    pub edited : IsEdited reading all before text
    pub puts : MatchBool (is_shown c) (IsShownAs c before text output × (new ≡ read))
        ((output ≡ []) × IsPutAt c.force (target_of c) text read new)

-- the file is edited once the script is read
abbrev pub EditsFile : Reading → EditCommand → List Edit → Option (List Event) → Option (List Event)
    → Option Text → Text → Type 0
EditsFile reading c edits old new left output =
    (all : List Edit) × (scripted : Option (List Event)) × (rest : Option Text)
    × OnlyLooks old scripted
    × ScriptedFirst reading (option_copied c.script) old scripted left rest edits all
    × MatchBool (is_in_place c) (EditsInPlace reading c all scripted new output)
    (EditsElsewhere reading c all scripted new rest output)

-- ---- why it is not

-- Where memory has not run out and no call has failed, the file is refused, or the edits leave nothing
-- of it that is written.
abbrev pub IsUnmade : Reading → EditCommand → List Edit → Option (List Event) → Option (List Event)
    → Option Text → Stop → Type 0
IsUnmade reading c all old new left stop =
    IsUnread c.file.now (IsReadAsRefused (version_by reading) c.file.now old new left) stop
    ⊎ IsFailed (target_of c) stop
    ⊎ ((t : Text) × IsReadOf c.file.now old new left t
    × IsNotEdited reading c.locked all t (reason_of stop))

-- so the script is not UTF-8, or says no edits
abbrev pub HasNoScript : Reading → Option Text → Option (List Event) → Option (List Event)
    → Option Text → Stop → Type 0
HasNoScript reading None old new left stop = ⊥
HasNoScript reading (Some script) old new left stop =
    IsUnread script (IsNoTextOf script old new left) stop
    ⊎ ((t : Text) × IsTextOf script old new left t
    × IsMistaken ((es : List Edit) → SaysScript (version_by reading) t es → ⊥) (reason_of stop))

abbrev pub HasNoEdits : Reading → EditCommand → List Edit → Option (List Event) → Option (List Event)
    → Option Text → Stop → Type 0
HasNoEdits reading c edits old new left stop =
    HasNoScript reading (option_copied c.script) old new left stop
    ⊎ ((all : List Edit) × (scripted : Option (List Event)) × (rest : Option Text)
    × OnlyLooks old scripted
    × ScriptedFirst reading (option_copied c.script) old scripted left rest edits all
    × IsUnmade reading c all scripted new rest stop)
