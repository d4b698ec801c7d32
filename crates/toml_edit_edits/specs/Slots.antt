-- A slot that is moved.
use Rattle.std.specs.Prelude.{◌≡◌, ◌⊎◌, Result, Ok, Err}
use Rattle.toml_edit_model.specs.Slots as model
use Rattle.toml_edit_model.specs.Text.{Text}
use Rattle.toml_edit_model.specs.Tree.{Node}
use Rattle.toml_edit_slots.specs.Seen.{slot_seen}
use Rattle.toml_edit_slots.specs.declared.slots.Slot.{Slot}
use Rattle.toml_edit_tree.specs.View.{item_view}
use Rattle.toml_edit_tree.specs.declared.item.Item.{Item}
use Rattle.toml_edit_edits.specs.Moves.{carried}
use Rattle.toml_edit_edits.specs.declared.fault.EditFault.{EditFault}
use Rattle.toml_edit_edits.specs.declared.fault.EditFault.TheVariants.{Memory}

-- the code's slot as the definitions have it
abbrev pub shown_slot : Slot Item → model.Slot Node
shown_slot = slot_seen item_view

-- the slot that is found, as it is moved to the name, or why there is none
abbrev pub FindsSlot : Text → Result (model.Slot Node) EditFault → Result (Slot Item) EditFault
    → Type 0
FindsSlot u meant (Ok s) = (found : model.Slot Node) × (meant ≡ Ok found) × (shown_slot s ≡ carried u found)
FindsSlot u meant (Err f) = (f ≡ Memory) ⊎ (meant ≡ Err f)
