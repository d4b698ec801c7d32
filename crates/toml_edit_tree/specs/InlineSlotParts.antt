-- What the contracts of an inline table's slots cite.
use Rattle.std.specs.Prelude.{◌≡◌, ℕ, ◌<◌, [], Option, slice_get, option_map}
use Rattle.std.proofs.Common.{sym, subst}
use mir.Syntax.{named}
use Rattle.std.specs.Borrow.{MutBor, Fml, Lends, follows, RestsIfNone}
use Rattle.toml_edit_model.specs.Tree.{Decor, Key}
use Rattle.toml_edit_key.specs.KeyMutView.{lent_parts, with_parts}
use Rattle.toml_edit_key.specs.contracts.key.KeyParts.{the_row as parts_row}
use Rattle.toml_edit_key.specs.declared.key.KeyMut.{KeyMut}
use Rattle.toml_edit_repr.specs.contracts.repr.Decor.{the_row as decor_row}
use Rattle.toml_edit_slots.specs.Lengths.{length-on_key, length-with_item}
use Rattle.toml_edit_slots.specs.Slots.{items_of, with_item}
use Rattle.toml_edit_tree.specs.InlineLending.{with_inline_key}
use Rattle.toml_edit_tree.specs.contracts.inline_table.InlineTable.{the_row as inline_row}
use Rattle.toml_edit_tree.specs.contracts.inline_table.slot.InlineSlotMut as lent
use Rattle.toml_edit_tree.specs.contracts.item.Item.{the_row as item_row}
use Rattle.toml_edit_tree.specs.declared.inline_table.InlineTable.{InlineTable, out-InlineTable}
use Rattle.toml_edit_tree.specs.declared.inline_table.slot.InlineSlotMut.{InlineSlotMut}
use Rattle.toml_edit_tree.specs.declared.item.Item.{Item}

-- the reference to the inline table that it is a slot of, and its place there
abbrev pub slot_ref : InlineSlotMut → MutBor InlineTable
slot_ref o = o.table

abbrev pub slot_place : InlineSlotMut → ℕ
slot_place o = o.at

-- the item and the key that are there
abbrev pub slot_item : InlineSlotMut → Option Item
slot_item o = slice_get (items_of (out-InlineTable o.table.now).items) o.at

abbrev pub slot_key : InlineSlotMut → Option Key
slot_key o = option_map (λ s. s.key) (slice_get (out-InlineTable o.table.now).items o.at)

-- the inline table with another item in the slot at a place
abbrev pub with_inline_item : ℕ → Item → InlineTable → InlineTable
with_inline_item at x t = record t { items = with_item at x (out-InlineTable t).items }

-- the slot with another item, or with its key changed
abbrev pub with_slot_item : InlineSlotMut → Item → InlineSlotMut
with_slot_item o x = record {
  table = record o.table { now = with_inline_item o.at x o.table.now };
  at = o.at;
  within =
      subst (λ n. o.at < n)
      (sym (length-with_item (out-InlineTable o.table.now).items o.at x)) o.within;
}

abbrev pub with_slot_key : InlineSlotMut → (Key → Key) → InlineSlotMut
with_slot_key o h = record {
  table = record o.table { now = with_inline_key o.at h o.table.now };
  at = o.at;
  within =
      subst (λ n. o.at < n)
      (sym (length-on_key h (out-InlineTable o.table.now).items o.at)) o.within;
}

-- the inline table ends with the final item of r in the slot at the place
abbrev pub LendsInlineItemAt : MutBor InlineTable → ℕ → MutBor Item → Fml
LendsInlineItemAt s at r = Lends inline_row item_row s r (λ w. with_inline_item at w s.now)

-- it stays where there is no slot
abbrev pub SlotRestsIfAbsent : MutBor InlineTable → Option InlineSlotMut → Fml
SlotRestsIfAbsent s r = RestsIfNone inline_row s (λ o. (slot_ref o).ghost_name) r (λ n. n ≡ s.now)

-- the slot ends with the final item of the reference, with the final parts of its key, or with the
-- final decor as one of its key's
abbrev pub SlotLends : MutBor InlineSlotMut → MutBor Item → Fml
SlotLends o r =
    follows (lent.the_row (record { mir = named 1; lft = [] })) item_row o.ghost_name r.ghost_name
    (with_slot_item o.now)

abbrev pub SlotLendsKey : MutBor InlineSlotMut → KeyMut → Fml
SlotLendsKey o r =
    follows (lent.the_row (record { mir = named 1; lft = [] })) parts_row o.ghost_name
    (lent_parts r).ghost_name (λ w. with_slot_key o.now (with_parts w))

abbrev pub SlotLendsLeaf : MutBor InlineSlotMut → MutBor Decor → Fml
SlotLendsLeaf o r =
    follows (lent.the_row (record { mir = named 1; lft = [] })) decor_row o.ghost_name r.ghost_name
    (λ w. with_slot_key o.now (λ k. record k { leaf = w }))

abbrev pub SlotLendsDotted : MutBor InlineSlotMut → MutBor Decor → Fml
SlotLendsDotted o r =
    follows (lent.the_row (record { mir = named 1; lft = [] })) decor_row o.ghost_name r.ghost_name
    (λ w. with_slot_key o.now (λ k. record k { dotted = w }))
