-- Removing keys of one table, one after another.
use Rattle.std.specs.Prelude.{◌≡◌, ◌++◌, Bool, false, not, filter, List, [], ◌∷◌, Some, String, string_bytes, map, Result, Ok}
use Rattle.std.specs.List.{list_any}
use Rattle.std.specs.declared.alloc.Global.{Global}
use Rattle.indexmap.specs.IndexSet.{IndexSet, keys}
use Rattle.toml_edit_model.specs.Lists.{on_slots, slots_in}
use Rattle.toml_edit_model.specs.Slots.{Slot}
use Rattle.toml_edit_model.specs.Text.{Text, same_text}
use Rattle.toml_edit_model.specs.Tree.{Node, Tree}
use Rattle.toml_edit_edit_laws.specs.Commands.{item_at}
use Rattle.toml_edit_paths.specs.Calls.{replaced_at}
use Rattle.toml_edit_edits.specs.Effects.{changed_at, on_table, removed}
use Rattle.toml_edit_edits.specs.Lists.{applied, effect}
use Rattle.toml_edit_edits.specs.Outcomes.{of_answer}
use Rattle.toml_edit_edits.specs.declared.edit.Edit.{Edit}
use Rattle.toml_edit_edits.specs.declared.fault.EditFault.{EditFault}

-- the text is one of these
abbrev pub is_among : Text → List Text → Bool
is_among t ks = list_any (same_text t) ks

-- the slots that have none of the names
abbrev pub without_all : List Text → List (Slot Node) → List (Slot Node)
without_all ks es = filter (λ s. not (is_among s.key.name ks)) es

abbrev pub slots_without : List Text → List (Slot Node) → Result (List (Slot Node)) EditFault
slots_without ks es = Ok (without_all ks es)

-- so it is in the table at a path
abbrev pub all_removed : List Text → List Text → Tree → Result Tree EditFault
all_removed ks above = changed_at (on_table (slots_without ks)) above

-- the edits remove keys of these names, if the item at the path is a table
abbrev pub RemoveAll : List Edit → List Text → List Text → Tree → Type 0
RemoveAll es above ks t =
    (m : Node) (ss : List (Slot Node)) → item_at above t ≡ Some m → slots_in m ≡ Some ss
    → applied es t ≡ of_answer (replaced_at above (on_slots (λ _. without_all ks ss) m) t)

-- the names in a set
abbrev pub texts : {S : Type 0} → IndexSet (String Global) S → List Text
texts names = map string_bytes (keys names)

-- the name is one more
abbrev pub AddsText : Text → List Text → List Text → Type 0
AddsText k old new = (new ≡ old ++ k ∷ []) × (is_among k old ≡ false)

-- the edit removes a key below the path, which is there and is one more name
pub record AddsName (e : Edit) (above : List Text) (t : Tree) (old new : List Text) : Type 0 where
  pub name : Text
  pub item : Node
  pub adds : AddsText name old new
  pub there : item_at (above ++ name ∷ []) t ≡ Some item
  pub removes : (u : Tree) → effect e u ≡ removed (above ++ name ∷ []) u
