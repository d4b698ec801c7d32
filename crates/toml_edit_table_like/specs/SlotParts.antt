-- What the contracts of a slot of a table of either kind cite.
use Rattle.std.specs.Prelude.{◌≡◌, ◌<◌, ℕ, [], Option, length, option_map, slice_get}
use Rattle.std.proofs.Common.{sym, ap, subst, ◌∙◌}
use mir.Syntax.{named}
use denote.RattleType.{RattleType}
use Rattle.std.specs.Borrow.{Fml, MutBor, RestsIfNone, follows}
use Rattle.toml_edit_model.specs.Tree.{Decor, Key}
use Rattle.toml_edit_model.specs.Slots as model
use Rattle.toml_edit_key.specs.KeyMutView.{lent_parts, with_parts}
use Rattle.toml_edit_key.specs.contracts.key.KeyParts.{the_row as parts_row}
use Rattle.toml_edit_key.specs.declared.key.KeyMut.{KeyMut}
use Rattle.toml_edit_repr.specs.contracts.repr.Decor.{the_row as decor_row}
use Rattle.toml_edit_slots.specs.Lengths.{length-on_key, length-with_item}
use Rattle.toml_edit_slots.specs.Slots.{items_of, on_key, with_item}
use Rattle.toml_edit_table_like.specs.Lending.{with_item_at, with_key_at}
use Rattle.toml_edit_table_like.specs.contracts.slot.TableLikeSlot as lent
use Rattle.toml_edit_table_like.specs.declared.has_slots.HasSlots.{Ghosts}
use Rattle.toml_edit_table_like.specs.declared.slot.TableLikeSlot.{TableLikeSlot}
use Rattle.toml_edit_tree.specs.View.{item_view}
use Rattle.toml_edit_tree.specs.contracts.item.Item.{the_row as item_row}
use Rattle.toml_edit_tree.specs.declared.item.Item.{Item}

module _ {X : Type 0} {g : Ghosts X} where
  -- the reference to the table that it is a slot of, and its place there
  abbrev pub slot_ref : TableLikeSlot X g → MutBor X
  slot_ref p = p.table

  abbrev pub slot_place : TableLikeSlot X g → ℕ
  slot_place p = p.at

  -- the item and the key that are there
  abbrev pub slot_item : TableLikeSlot X g → Option Item
  slot_item p = slice_get (items_of (g.entries p.table.now)) p.at

  abbrev pub slot_key : TableLikeSlot X g → Option Key
  slot_key p = option_map (λ s. s.key) (slice_get (g.entries p.table.now) p.at)

  -- the slot with another item, or with its key changed
  abbrev pub with_slot_item : TableLikeSlot X g → Item → TableLikeSlot X g
  with_slot_item p x = record {
    table = record p.table { now = with_item_at g.entries g.with_entries p.at x p.table.now };
    at = p.at;
    within =
        subst (λ n. p.at < n)
        (sym (ap length (g.takes (with_item p.at x (g.entries p.table.now)) p.table.now)
        ∙ length-with_item (g.entries p.table.now) p.at x)) p.within;
  }

  abbrev pub with_slot_key : TableLikeSlot X g → (Key → Key) → TableLikeSlot X g
  with_slot_key p h = record {
    table = record p.table { now = with_key_at g.entries g.with_entries p.at h p.table.now };
    at = p.at;
    within =
        subst (λ n. p.at < n)
        (sym (ap length (g.takes (on_key p.at h (g.entries p.table.now)) p.table.now)
        ∙ length-on_key h (g.entries p.table.now) p.at)) p.within;
  }

  -- A slot of this table: what is there, and what an item that is written, and another key, leave.
  pub record IsSlotOf (t : X) (p : TableLikeSlot X g) : Type 0 where
    pub table : p.table.now ≡ t
    pub item : option_map item_view (slot_item p)
        ≡ option_map (λ (s : model.Slot _). s.item) (slice_get (g.slots_of t) p.at)
    pub key : slot_key p ≡ option_map (λ (s : model.Slot _). s.key) (slice_get (g.slots_of t) p.at)
    pub leaves : (x : Item)
        → g.slots_of (with_item_at g.entries g.with_entries p.at x t)
        ≡ model.changed_at p.at (model.with_item (item_view x)) (g.slots_of t)
    pub rekeys : (h : Key → Key)
        → g.slots_of (with_key_at g.entries g.with_entries p.at h t)
        ≡ model.changed_at p.at (model.on_key h) (g.slots_of t)
    pub keeps_item : (x : Item)
        → g.beside (with_item_at g.entries g.with_entries p.at x t) ≡ g.beside t
    pub keeps_key : (h : Key → Key)
        → g.beside (with_key_at g.entries g.with_entries p.at h t) ≡ g.beside t

-- the table stays where there is no slot
abbrev pub RestsIfAbsent : (R : RattleType) {g : Ghosts R.Denot} → MutBor R.Denot
    → Option (TableLikeSlot R.Denot g) → Fml
RestsIfAbsent R s r = RestsIfNone R s (λ p. p.table.ghost_name) r (λ n. n ≡ s.now)

-- the slot ends with the final item of the reference, with the final parts of its key, or with the
-- final decor as one of its key's
abbrev pub SlotLends : (R : RattleType) {g : Ghosts R.Denot} → MutBor (TableLikeSlot R.Denot g)
    → MutBor Item → Fml
SlotLends R {g} o r =
    follows (lent.the_row (record {
      mir = named 1;
      lft = [];
    }) R g) item_row o.ghost_name r.ghost_name (with_slot_item o.now)

abbrev pub SlotLendsKey : (R : RattleType) {g : Ghosts R.Denot} → MutBor (TableLikeSlot R.Denot g)
    → KeyMut → Fml
SlotLendsKey R {g} o r =
    follows (lent.the_row (record { mir = named 1; lft = [] }) R g) parts_row o.ghost_name
    (lent_parts r).ghost_name (λ w. with_slot_key o.now (with_parts w))

abbrev pub SlotLendsLeaf : (R : RattleType) {g : Ghosts R.Denot} → MutBor (TableLikeSlot R.Denot g)
    → MutBor Decor → Fml
SlotLendsLeaf R {g} o r =
    follows (lent.the_row (record {
      mir = named 1;
      lft = [];
    }) R g) decor_row o.ghost_name r.ghost_name
    (λ w. with_slot_key o.now (λ k. record k { leaf = w }))

abbrev pub SlotLendsDotted : (R : RattleType) {g : Ghosts R.Denot}
    → MutBor (TableLikeSlot R.Denot g) → MutBor Decor → Fml
SlotLendsDotted R {g} o r =
    follows (lent.the_row (record {
      mir = named 1;
      lft = [];
    }) R g) decor_row o.ghost_name r.ghost_name
    (λ w. with_slot_key o.now (λ k. record k { dotted = w }))
