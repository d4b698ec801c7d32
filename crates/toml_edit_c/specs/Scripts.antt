-- What a script says, and what is made by it.
use Rattle.std.specs.Prelude.{◌≡◌, ◌⊎◌, ℕ, suc, List, None, Some, Ok, Err, IsUtf8}
use Rattle.toml_edit_model.specs.Fits.{FitsIn}
use Rattle.toml_edit_model.specs.Mode.{Mode}
use Rattle.toml_edit_model.specs.Text.{Text}
use Rattle.toml_edit_model.specs.Tree.{Tree}
use Rattle.toml_edit_model.specs.Version.{Version}
use Rattle.toml_edit_edits.specs.Lists.{Applies, applied}
use Rattle.toml_edit_edits.specs.Said.{SaysEdits, StopsEdits}
use Rattle.toml_edit_edits.specs.declared.edit.Edit.{Edit}
use Rattle.toml_edit_edits.specs.declared.fault.EditFault.{EditFault}
use Rattle.toml_edit_edits.specs.declared.fault.EditFault.TheVariants as faults
use Rattle.toml_edit_edits.specs.declared.fault.ScriptFault.{ScriptFault}
use Rattle.toml_edit_edits.specs.declared.fault.WordFault.{WordFault}
use Rattle.toml_edit_edits.specs.declared.fault.WordFault.TheVariants as words
use Rattle.toml_edit_edits.specs.declared.fault.WordsFault.{WordsFault}
use Rattle.toml_edit_command.specs.Written.{Held, IsHeldOf, IsPrintFor}
use Rattle.toml_edit_c.specs.Asks.{options_by}
use Rattle.toml_edit_c.specs.Made.{MayStopReading}
use Rattle.toml_edit_c.specs.Split.{words_in}
use Rattle.toml_edit_c.specs.Statuses.{of_edit, of_none, status_of}
use Rattle.toml_edit_c.specs.declared.answer.EditStop.{EditStop}
use Rattle.toml_edit_c.specs.declared.answer.Stop.{Stop}
use Rattle.toml_edit_c.specs.declared.answer.Stop.TheVariants as stops

-- ---- why a script has no edits

-- words that are no edit stop a call so
abbrev pub stop_of_word : WordFault → Stop
stop_of_word words.Name = stops.Script
stop_of_word (words.Operands v) = stops.Script
stop_of_word (words.Path e) = stops.Path
stop_of_word (words.To e) = stops.Path
stop_of_word (words.Key e) = stops.Path
stop_of_word (words.Value e) = stops.Value
stop_of_word words.Memory = stops.Memory

-- Words are no edits, of which the first that is none is counted, or memory ran out.
abbrev pub StopsWords : Version → List Text → EditStop → Type 0
StopsWords version ws r =
    (r ≡ of_none stops.Memory)
    ⊎ ((f : WordsFault) × StopsEdits version ws f × (r ≡ of_edit (stop_of_word f.fault) f.number))

-- so it is for the words of the script, which has none if it is not UTF-8
abbrev pub StopsScript : Version → Text → EditStop → Type 0
StopsScript version script r =
    ((r ≡ of_none stops.Script) × (¬ (IsUtf8 script))) ⊎ StopsWords version (words_in script) r

-- ---- what is made

-- an edit that cannot be made stops a call so
abbrev pub stop_of_edit : EditFault → Stop
stop_of_edit faults.NoSuchPath = stops.NoSuchPath
stop_of_edit faults.WrongKind = stops.WrongKind
stop_of_edit faults.NoSuchElement = stops.NoSuchElement
stop_of_edit faults.Taken = stops.Taken
stop_of_edit faults.BadComment = stops.Comment
stop_of_edit faults.Memory = stops.Memory

-- what the edits, made one after another, leave of what is held, as it is printed
abbrev pub IsEdited : List Edit → Held → Text → Type 0
IsEdited es h x = (u : Tree) × (applied es h.tree ≡ Ok u) × IsPrintFor h u x

-- One cannot be made, and is counted, what they leave does not fit, or memory ran out.
abbrev pub StopsEditing : List Edit → Held → EditStop → Type 0
StopsEditing es h r =
    (r ≡ of_none stops.Memory)
    ⊎ ((u : Tree) × (f : ScriptFault) × Applies es h.tree u (Err f)
    × (r ≡ of_edit (stop_of_edit f.fault) (suc f.at)))
    ⊎ ((r ≡ of_none stops.Unfit)
    × ((u : Tree) × (applied es h.tree ≡ Ok u) × (¬ (FitsIn h.mode u))))

-- the text cannot be read
abbrev pub StopsReading : Version → Text → EditStop → Type 0
StopsReading version text r = (stop : Stop) × (r ≡ of_none stop) × MayStopReading version text stop

module _ (how : Mode × Version) where
  -- the script says edits, and they make this of what is held of the text
  abbrev pub IsEditedOf : Text → Text → Text → Type 0
  IsEditedOf text script x =
      (es : List Edit) × SaysEdits how.1 (words_in script) es
      × ((h : Held) × IsHeldOf how.0 how.1 text h × IsEdited es h x)

  -- the script says none, the text cannot be read, or the edits stop on what is held of it
  abbrev pub StopsEditOf : Text → Text → EditStop → Type 0
  StopsEditOf text script r =
      StopsScript how.1 script r ⊎ StopsReading how.1 text r
      ⊎ ((es : List Edit) × SaysEdits how.1 (words_in script) es
      × ((h : Held) × IsHeldOf how.0 how.1 text h × StopsEditing es h r))

-- ---- by the flags

abbrev pub IsEditedBy : ℕ → Text → Text → Text → Type 0
IsEditedBy flags text script x =
    (how : Mode × Version) × (options_by flags ≡ Some how) × IsEditedOf how text script x

abbrev pub StopsEditBy : ℕ → Text → Text → EditStop → Type 0
StopsEditBy flags text script r =
    ((r ≡ of_none stops.Flags) × (options_by flags ≡ None))
    ⊎ ((how : Mode × Version) × (options_by flags ≡ Some how) × StopsEditOf how text script r)

-- so it is with this status, and this number of the edit that is refused
abbrev pub StopsEditWith : ℕ → Text → Text → ℕ → ℕ → Type 0
StopsEditWith flags text script status number =
    (r : EditStop) × (status ≡ status_of r.stop) × (number ≡ r.number)
    × StopsEditBy flags text script r
