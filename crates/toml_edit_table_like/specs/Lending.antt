-- What a table of either kind lends of its slots.
use Rattle.std.specs.Prelude.{ℕ, List, Option}
use Rattle.std.specs.Borrow.{Fml, Lends, LendsIf, MutBor, follows}
use Rattle.std.specs.Option.{option_map_or}
use denote.RattleType.{RattleType}
use Rattle.toml_edit_model.specs.Text.{Text}
use Rattle.toml_edit_model.specs.Tree.{Decor, Key}
use Rattle.toml_edit_key.specs.KeyMutView.{lent_parts, with_parts}
use Rattle.toml_edit_key.specs.contracts.key.KeyParts.{the_row as parts_row}
use Rattle.toml_edit_key.specs.declared.key.KeyMut.{KeyMut}
use Rattle.toml_edit_repr.specs.contracts.repr.Decor.{the_row as decor_row}
use Rattle.toml_edit_slots.specs.Slots.{on_key, place, with_item}
use Rattle.toml_edit_slots.specs.contracts.slots.Slots.{the_row as slots_row}
use Rattle.toml_edit_slots.specs.declared.slots.Slot.{Slot}
use Rattle.toml_edit_tree.specs.contracts.item.Item.{the_row as item_row}
use Rattle.toml_edit_tree.specs.declared.item.Item.{Item}

-- the table ends with the final slots of r
abbrev pub LendsSlots : (R : RattleType) → (List (Slot Item) → R.Denot → R.Denot) → MutBor R.Denot
    → MutBor (List (Slot Item)) → Fml
LendsSlots R with_entries s r = Lends R (slots_row item_row) s r (λ es. with_entries es s.now)

-- The table with another item in the slot at a place, or in that of a key, or with the key at a
-- place changed: by its slots, and by what it is with others.
module _ {X : Type 0} (entries : X → List (Slot Item))
    (with_entries : List (Slot Item) → X → X) where
  abbrev pub with_item_at : ℕ → Item → X → X
  with_item_at at x t = with_entries (with_item at x (entries t)) t

  abbrev pub with_item_under : Text → Item → X → X
  with_item_under k x t =
      with_entries (option_map_or (λ at. with_item at x (entries t)) (place k (entries t))
      (entries t)) t

  abbrev pub with_key_at : ℕ → (Key → Key) → X → X
  with_key_at at h t = with_entries (on_key at h (entries t)) t

module _ (R : RattleType) (entries : R.Denot → List (Slot Item))
    (with_entries : List (Slot Item) → R.Denot → R.Denot) where
  -- it ends with the final item of r in the slot at the place
  abbrev pub LendsItemAt : MutBor R.Denot → ℕ → MutBor Item → Fml
  LendsItemAt s at r = Lends R item_row s r (λ w. with_item_at entries with_entries at w s.now)

  -- it ends so in the slot of the key, where an item is lent; it stays where none is
  abbrev pub LendsUnder : MutBor R.Denot → Text → Option (MutBor Item) → Fml
  LendsUnder s k r =
      LendsIf R item_row s r (λ w. with_item_under entries with_entries k w s.now) s.now

  -- it ends with the final parts of r in the key at the place
  abbrev pub LendsKeyAt : MutBor R.Denot → ℕ → KeyMut → Fml
  LendsKeyAt s at r =
      follows R parts_row s.ghost_name (lent_parts r).ghost_name
      (λ w. with_key_at entries with_entries at (with_parts w) s.now)

  -- it ends with the final decor of r as one of the key's at the place
  abbrev pub LendsLeafAt : MutBor R.Denot → ℕ → MutBor Decor → Fml
  LendsLeafAt s at r =
      Lends R decor_row s r
      (λ w. with_key_at entries with_entries at (λ k. record k { leaf = w }) s.now)

  abbrev pub LendsDottedAt : MutBor R.Denot → ℕ → MutBor Decor → Fml
  LendsDottedAt s at r =
      Lends R decor_row s r
      (λ w. with_key_at entries with_entries at (λ k. record k { dotted = w }) s.now)
