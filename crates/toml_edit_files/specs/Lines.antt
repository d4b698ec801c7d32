-- The edits that the lines of a script say.
use Rattle.std.specs.Prelude.{◌≡◌, ◌==◌, Bool, true, false, MatchBool, List, [], ◌∷◌, ◌++◌}
use Rattle.std.specs.Str.{trim_start}
use Rattle.std.specs.Str.Lines.{lines}
use Rattle.toml_edit_model.specs.Text.{Text, hash}
use Rattle.toml_edit_model.specs.Version.{Version}
use Rattle.toml_edit_edits.specs.LineWords.{AreWords}
use Rattle.toml_edit_edits.specs.Said.{SaysEdit, StopsEdit}
use Rattle.toml_edit_edits.specs.declared.edit.Edit.{Edit}
use Rattle.toml_edit_edits.specs.declared.fault.WordFault.{WordFault}
use Rattle.toml_edit_edits.specs.declared.fault.WordFault.TheVariants.{Memory}

-- a line is empty, or a comment
abbrev pub is_passed : Text → Bool
is_passed [] = true
is_passed (b ∷ t) = b == hash

abbrev pub is_memory : WordFault → Bool
is_memory Memory = true
is_memory _ = false

module _ (version : Version) where
  -- the edit that the words begin with is put behind others, and these are the words after it
  abbrev pub AddsEdit : List Text → List Text → List Edit → List Edit → Type 0
  AddsEdit ws rest old new =
      (first : List Text) × (e : Edit) × (ws ≡ first ++ rest) × SaysEdit version first e
      × (new ≡ old ++ (e ∷ []))

  -- they begin with none
  abbrev pub BeginsNoEdit : List Text → Type 0
  BeginsNoEdit ws = (fault : WordFault) × (is_memory fault ≡ false) × StopsEdit version ws fault

  -- so is the edit of a line, unless that is passed over
  abbrev pub AddsLine : Text → List Edit → List Edit → Type 0
  AddsLine l old new =
      MatchBool (is_passed l) (new ≡ old)
      ((ws : List Text) × (rest : List Text) × AreWords l ws × AddsEdit ws rest old new)

  -- the lines say these edits, one after another
  abbrev pub SaysLines : List Text → List Edit → List Edit → Type 0
  SaysLines [] old new = new ≡ old
  SaysLines (l ∷ ls) old new = (next : List Edit) × AddsLine (trim_start l) old next × SaysLines ls next new

  abbrev pub SaysScript : Text → List Edit → Type 0
  SaysScript t es = SaysLines (lines t) [] es
