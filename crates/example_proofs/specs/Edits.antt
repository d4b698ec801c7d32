-- Lists of edits that are made in a text.
use Rattle.std.specs.Prelude.{◌≡◌, List, [], ◌∷◌, Vec, string_bytes}
use Rattle.std.specs.declared.alloc.Global.{Global}
use Rattle.std.specs.declared.string.String.{String}
use Rattle.toml_edit.specs.Documents.{IsRefusal}
use Rattle.toml_edit.specs.error.Fault.{IfToml}
use Rattle.toml_edit.specs.model.Text.{Text}
use Rattle.toml_edit.specs.model.Tree.{Key, Node}
use Rattle.toml_edit.specs.tree.View.{value_view}
use Rattle.toml_edit_tree.specs.declared.value.Value.{Value}
use Rattle.toml_edit_edits.specs.Edited.{IsEditedBy, RefusesText}
use Rattle.toml_edit_edits.specs.declared.edit.Edit.{Edit}
use Rattle.toml_edit_edits.specs.declared.edit.Edit.TheVariants.{Append, Remove, Rename, Set, Sort}
use Rattle.example_proofs.specs.declared.error.Fault.{Fault}
use Rattle.example_proofs.specs.declared.error.Fault.TheVariants.{Read, Edited, Memory}

-- One edit, by a value at a path.
abbrev pub IsOf : (Vec Key Global → Value → Edit) → List Key → Node → List Edit → Type 0
IsOf edit keys n es =
    (path : Vec Key Global) × (value : Value) × (path.items ≡ keys) × (value_view value ≡ n)
    × (es ≡ edit path value ∷ [])

-- One edit, at a path.
abbrev pub IsAt : (Vec Key Global → Edit) → List Key → List Edit → Type 0
IsAt edit keys es = (path : Vec Key Global) × (path.items ≡ keys) × (es ≡ edit path ∷ [])

abbrev pub Sets : List Key → Node → List Edit → Type 0
Sets keys n es = IsOf Set keys n es

abbrev pub Appends : List Key → Node → List Edit → Type 0
Appends keys n es = IsOf Append keys n es

abbrev pub Removes : List Key → List Edit → Type 0
Removes keys es = IsAt Remove keys es

abbrev pub Renames : List Key → Text → List Edit → Type 0
Renames keys name es =
    (path : Vec Key Global) × (to : String Global) × (path.items ≡ keys) × (string_bytes to ≡ name)
    × (es ≡ Rename path to ∷ [])

abbrev pub Sorts : List Key → List Edit → Type 0
Sorts keys es = IsAt Sort keys es

-- such edits are made in the text, and leave the other
abbrev pub EditsText : Text → (List Edit → Type 0) → Text → Type 0
EditsText text edits out = (es : List Edit) × edits es × ∥ IsEditedBy text es out ∥₁

-- the text is refused, or such edits of it
abbrev pub RefusesEdits : Text → (List Edit → Type 0) → Fault → Type 0
RefusesEdits text edits (Read p) = IfToml p (IsRefusal text)
RefusesEdits text edits (Edited f) = (es : List Edit) × edits es × RefusesText text es f
RefusesEdits text edits Memory = Unit {0}
RefusesEdits text edits _ = ⊥
