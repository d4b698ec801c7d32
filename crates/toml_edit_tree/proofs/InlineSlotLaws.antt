-- What a write leaves of a slot of an inline table, whatever shows that it is within.
use native.Mathlib.Bridge.{le_prop}
use Rattle.std.proofs.Common.{◌≡◌, ◌<◌, List, ap, length}
use Rattle.toml_edit_model.specs.Tree.{Key}
use Rattle.toml_edit_slots.specs.declared.slots.Slot.{Slot}
use Rattle.toml_edit_slots.specs.Slots.{on_key, with_item}
use Rattle.toml_edit_tree.specs.InlineLending.{with_inline_key}
use Rattle.toml_edit_tree.specs.InlineSlotParts.{with_inline_item, with_slot_item, with_slot_key}
use Rattle.toml_edit_tree.specs.declared.inline_table.InlineTable.{out-InlineTable}
use Rattle.toml_edit_tree.specs.declared.inline_table.slot.InlineSlotMut.{InlineSlotMut}
use Rattle.toml_edit_tree.specs.declared.item.Item.{Item}

module _ (o : InlineSlotMut) where
  abbrev slots : List (Slot Item)
  slots = (out-InlineTable o.table.now).items

  pub slot_written : (x : Item) (p : o.at < length (with_item o.at x slots))
      → record { table = record o.table { now = with_inline_item o.at x o.table.now }; at = o.at; within = p } ≡ with_slot_item o x
  slot_written x p = ap (λ q. record (with_slot_item o x) { within = q }) (le_prop p (with_slot_item o x).within)

  pub slot_key_written : (h : Key → Key) (p : o.at < length (on_key o.at h slots))
      → record { table = record o.table { now = with_inline_key o.at h o.table.now }; at = o.at; within = p } ≡ with_slot_key o h
  slot_key_written h p = ap (λ q. record (with_slot_key o h) { within = q }) (le_prop p (with_slot_key o h).within)
