-- What a list of edits does to a tree.
use Rattle.std.specs.Prelude.{◌≡◌, ◌⊎◌, List, [], ◌∷◌, take, slice_get, Some, None, Result, Ok, Err, string_bytes}
use Rattle.toml_edit_model.specs.Keys.{names}
use Rattle.toml_edit_model.specs.Tree.{Tree}
use Rattle.toml_edit_tree.specs.View.{value_view}
use Rattle.toml_edit_edits.specs.Effects as effects
use Rattle.toml_edit_edits.specs.Effects.{at_end, renamed}
use Rattle.toml_edit_edits.specs.Elements as elements
use Rattle.toml_edit_edits.specs.Elements.{on_kind}
use Rattle.toml_edit_edits.specs.FirstTable.{tabled}
use Rattle.toml_edit_edits.specs.Moves.{moved}
use Rattle.toml_edit_edits.specs.Outcomes.{and_then}
use Rattle.toml_edit_edits.specs.Sections.{sectioned}
use Rattle.toml_edit_edits.specs.declared.edit.Edit.{Edit}
use Rattle.toml_edit_edits.specs.declared.edit.Edit.TheVariants as edits
use Rattle.toml_edit_edits.specs.declared.fault.EditFault.{EditFault}
use Rattle.toml_edit_edits.specs.declared.fault.EditFault.TheVariants.{Memory}
use Rattle.toml_edit_edits.specs.declared.fault.ScriptFault.{ScriptFault}

-- what an edit does
abbrev pub effect : Edit → Tree → Result Tree EditFault
effect (edits.Set path v) t = effects.set path.items (value_view v) t
effect (edits.Header path v) t = effects.headed path.items (value_view v) t
effect (edits.Remove path) t = effects.removed (names path.items) t
effect (edits.Append path v) t =
    on_kind (elements.inserted None (value_view v)) (effects.appended path.items (value_view v) t) (names path.items) t
effect (edits.Insert path v) t =
    at_end
    (λ above k.
    on_kind (elements.inserted (Some k.name) (value_view v))
    (effects.inserted_before above k.name (value_view v) t) (names above) t)
    path.items
effect (edits.Take path v) t =
    on_kind (elements.taken (value_view v)) (effects.taken path.items (value_view v) t) (names path.items) t
effect (edits.Table path v) t = tabled path.items (value_view v) t
effect (edits.Section path) t = sectioned path.items t
effect (edits.Rename path u) t =
    at_end (λ above k. renamed above k (string_bytes u) t) (names path.items)
effect (edits.Move path to) t = moved (names path.items) (names to.items) t
effect (edits.Sort path) t = effects.sorted (names path.items) t
effect (edits.Comment path text) t = effects.commented (names path.items) (string_bytes text) t

-- what edits do, one after another
abbrev pub applied : List Edit → Tree → Result Tree EditFault
applied [] t = Ok t
applied (e ∷ es) t = and_then (applied es) (effect e t)

-- The edits were made, all of them; or those before one that is refused for this reason, and no
-- other.
abbrev pub Applies : List Edit → Tree → Tree → Result (Unit {0}) ScriptFault → Type 0
Applies es old new (Ok u) = applied es old ≡ Ok new
Applies es old new (Err f) =
    (e : Edit) × (slice_get es f.at ≡ Some e) × (applied (take f.at es) old ≡ Ok new)
    × ((f.fault ≡ Memory) ⊎ (effect e new ≡ Err f.fault))

-- the first edit is refused for this reason, and nothing changes
abbrev pub RefusesFirst : List Edit → Tree → Tree → EditFault → Type 0
RefusesFirst es old new f =
    (e : Edit) × (slice_get es 0 ≡ Some e) × (new ≡ old) × ((f ≡ Memory) ⊎ (effect e old ≡ Err f))

-- the edits that were made: all, or those before the one that is refused
abbrev pub made_of : List Edit → Result (Unit {0}) ScriptFault → List Edit
made_of es (Ok u) = es
made_of es (Err f) = take f.at es
