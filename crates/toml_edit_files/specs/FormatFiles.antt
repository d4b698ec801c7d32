-- What `fmt` does with files.
use Rattle.std.specs.Prelude.{◌≡◌, ◌≢◌, ◌⊎◌, Bool, true, false, not, ◌==◌, ◌&&◌, ◌||◌, if◌then◌else◌, IsTrue, MatchBool, List, [], ◌∷◌, ◌++◌, map, Option, Some, None, Result, Ok, Err, bytes_eq, codes, vec_len}
use Rattle.toml_edit_model.specs.Tree.{Tree}
use Rattle.toml_edit_model.specs.Version.{v1_0}
use Rattle.toml_edit_fmt.specs.Newlines.{rules_for}
use Rattle.toml_edit_fmt.specs.TextView as fmt
use Rattle.toml_edit_fmt_laws.specs.Rules.{Rules}
use Rattle.toml_edit_settings.specs.RuleWords as words
use Rattle.line_diff.specs.Diff.{IsDiff}
use Rattle.file_replace.specs.Events.{Text, Event}
use Rattle.toml_edit_edits.specs.Lists.{effect}
use Rattle.toml_edit_edits.specs.Outcomes.{and_then}
use Rattle.toml_edit_edits.specs.declared.edit.Edit.{Edit}
use Rattle.toml_edit_edits.specs.declared.fault.EditFault.{EditFault}
use Rattle.toml_edit_edits.specs.declared.fault.EditFault.TheVariants.{NoSuchPath}
use Rattle.toml_edit_files.specs.Checks.{IsReadAsRefused}
use Rattle.toml_edit_files.specs.Edited.{IsAccepted, IsLeft, IsRead, version_by}
use Rattle.toml_edit_files.specs.Folders.{IsHeld, IsPut, IsReadOf, IsTextOf, Stops, is_stream}
use Rattle.toml_edit_files.specs.Outcomes.{TellsAlone, TellsRefused, TellsStop}
use Rattle.toml_edit_files.specs.Stops.{IsUnread, reason_of}
use Rattle.toml_edit_files.specs.declared.told.Told.{Told}
use Rattle.toml_edit_files.specs.declared.stop.Reason.{Reason}
use Rattle.toml_edit_files.specs.declared.stop.Reason.TheVariants.{No, Mistaken, Failed, Refused, Locked}
use Rattle.toml_edit_files.specs.declared.stop.Stop.{Stop}
use Rattle.toml_edit_files.specs.declared.words.Fmt.{Fmt}
use Rattle.toml_edit_files.specs.declared.words.Reading.{Reading}
use Rattle.toml_edit_files.specs.declared.words.Style.{Style}

-- ---- the text of a file

-- lines that are made end in CR LF where line endings are kept and the first line does; the rules that
-- the words set are set last
abbrev pub rules_by : Reading → Style → Text → Rules
rules_by reading style t =
    words.rules_by (map (λ r. (r.0.now, r.1.now)) style.rules.items)
    (record (rules_for (not reading.normal) t) { keys = style.keys })

-- a path where nothing is is passed over
abbrev pub passing_over : Tree → Result Tree EditFault → Result Tree EditFault
passing_over x (Err NoSuchPath) = Ok x
passing_over x made = made

-- what sorts leave, one after another
abbrev pub sorted_by : List Edit → Tree → Result Tree EditFault
sorted_by [] x = Ok x
sorted_by (e ∷ es) x = and_then (sorted_by es) (passing_over x (effect e x))

-- a text that is laid out as it stands
abbrev pub is_laid_as_it_is : Reading → Style → Bool
is_laid_as_it_is reading style = (vec_len style.sorts == 0) && not reading.normal

-- What is laid out is the text before, or what is written of it after the sorts; and this is its
-- formatted text, which TOML 1.0 accepts where that is asked for.
pub record IsLaidOut (reading : Reading) (style : Style) (tree : Tree) (is_open : Bool)
    (before s : Text) : Type 0 where
  pub text : Text
  pub sorted : MatchBool (is_laid_as_it_is reading style) (text ≡ before)
      ((left : Tree) × (sorted_by style.sorts.items tree ≡ Ok left)
      × IsLeft reading [] left is_open before text)
  pub laid : fmt.IsFormatted (rules_by reading style before) text s
  pub version : IsTrue reading.strict → IsAccepted v1_0 s

-- the text before is read, and so is it laid out
abbrev pub IsFormatted : Reading → Style → Text → Text → Type 0
IsFormatted reading style before s =
    (tree : Tree) × (is_open : Bool) × IsRead reading before tree is_open
    × IsLaidOut reading style tree is_open before s

-- ---- refusals

-- why sorts are not made, where memory has not run out
abbrev pub IsNotSorted : Result Tree EditFault → Option Reason → Type 0
IsNotSorted made None = Unit {0}
IsNotSorted made (Some No) = (x : Tree) → made ≢ Ok x
IsNotSorted made (Some Mistaken) = (x : Tree) → made ≢ Ok x
IsNotSorted made (Some _) = ⊥

-- why a text is not laid out: TOML 1.0 is asked for, and refuses what it is formatted
abbrev pub IsNotLaid : Reading → Rules → Text → Option Reason → Type 0
IsNotLaid reading r t None = Unit {0}
IsNotLaid reading r t (Some Mistaken) =
    IsTrue reading.strict × ((s : Text) → fmt.IsFormatted r t s → ¬ (IsAccepted v1_0 s))
IsNotLaid reading r t (Some _) = ⊥

-- why a text that is read is not formatted: no text is its formatted one
abbrev pub IsNotFormatted : Reading → Style → Text → Option Reason → Type 0
IsNotFormatted reading style t None = Unit {0}
IsNotFormatted reading style t (Some Failed) = ⊥
IsNotFormatted reading style t (Some Refused) = ⊥
IsNotFormatted reading style t (Some Locked) = ⊥
IsNotFormatted reading style t (Some _) =
    (x : Tree) × (is_open : Bool) × IsRead reading t x is_open
    × ((s : Text) → ¬ (IsLaidOut reading style x is_open t s))

-- Where memory has not run out and no call has failed, the file is refused, or has no formatted text.
abbrev pub IsUnformatted : Reading → Style → Text → Option (List Event) → Option (List Event)
    → Option Text → Stop → Type 0
IsUnformatted reading style file old new left stop =
    IsUnread file (IsReadAsRefused (version_by reading) file old new left) stop
    ⊎ ((t : Text) × IsReadOf file old new left t × IsNotFormatted reading style t (reason_of stop))

-- ---- what becomes of a file

-- what is written of a file whose text is compared with the formatted one: how they differ, or a line
abbrev pub IsCompared : Bool → Text → Text → Text → Text → Type 0
IsCompared is_diff file before text output =
    MatchBool is_diff (IsDiff file before text output)
    (output ≡ (if bytes_eq text before then [] else file ++ codes ": not formatted\n"))

module _ (reading : Reading) (c : Fmt) (file : Text) (is_yes : Bool) (output : Text)
    (old new : Option (List Event)) where
  -- The formatted text replaces the one before, unless it is the same, or the file holds another text
  -- by then.
  pub record FormatsInPlace : Type 0 where
    pub name : Text
    pub before : Text
    pub text : Text
    pub read : Option (List Event)
    pub held : IsHeld file name old read before
    pub formatted : IsFormatted reading c.style before text
    pub puts : IsPut c.force name before text read new
    pub answer : (is_yes ≡ true) × (output ≡ [])

  -- Under `--check` and `--diff` it is asked whether they are the same, and else the text is written.
  pub record FormatsElsewhere (left : Option Text) : Type 0 where
    pub before : Text
    pub text : Text
    pub read : IsTextOf file old new left before
    pub formatted : IsFormatted reading c.style before text
    pub answer : MatchBool c.check ((is_yes ≡ bytes_eq text before)
        × IsCompared c.diff file before text output)
        ((is_yes ≡ true) × (output ≡ text))

  abbrev pub FormatsDone : Option Text → Type 0
  FormatsDone left = MatchBool (c.check || is_stream file) (FormatsElsewhere left) FormatsInPlace

-- It is formatted; it is refused, which is written, but of standard input never, whose text is to be
-- there; or it is not done, for another reason, that is so.
abbrev pub FormatsFile : Reading → Fmt → Text → Told → Option (List Event) → Option (List Event)
    → Option Text → Type 0
FormatsFile reading c file told old new left =
    ((is_yes : Bool) × (output : Text) × FormatsDone reading c file is_yes output old new left
    × TellsAlone (if is_yes then 0 else 1) output told)
    ⊎ ((is_stream file ≡ false)
    × TellsRefused (IsReadAsRefused (version_by reading) file old new left) told)
    ⊎ ((stop : Stop) × Stops file old new (reason_of stop)
    × (is_stream file ≡ false → reason_of stop ≢ Some Refused)
    × IsUnformatted reading c.style file old new left stop × TellsStop stop told)
