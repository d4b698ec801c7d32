-- An item that is put under a key, where there is none.
use Rattle.std.specs.Prelude.{◌≡◌, List, [], ◌∷◌, ◌++◌, Result}
use Rattle.std.specs.Borrow.{Fml, LendsIfOk, MutBor}
use Rattle.std.specs.Option.{option_map_or}
use denote.RattleType.{RattleType}
use Rattle.toml_edit_model.specs.Slots as model
use Rattle.toml_edit_model.specs.Tree.{Key, Node}
use Rattle.toml_edit_slots.specs.Slots.{place, with_item}
use Rattle.toml_edit_slots.specs.declared.slots.Slot.{Slot}
use Rattle.toml_edit_tree.specs.View.{item_view}
use Rattle.toml_edit_tree.specs.contracts.item.Item.{the_row as item_row}
use Rattle.toml_edit_tree.specs.declared.item.Item.{Item}

-- the slots with the item in the slot of the key, or in a new one
abbrev pub item_put : Key → Item → List (Slot Item) → List (Slot Item)
item_put k x es =
    option_map_or (λ at. with_item at x es) (place k.name es)
    (es ++ record { key = k; item = x } ∷ [])

-- the table with those, by its slots and by what it is with others
abbrev pub with_item_put : {X : Type 0} → (X → List (Slot Item)) → (List (Slot Item) → X → X) → Key
    → Item → X → X
with_item_put entries with_entries k x t = with_entries (item_put k x (entries t)) t

-- so it is seen in the slots, whichever item it is, and what there is beside them stays
abbrev pub ShowsItemPut : {X : Type 0} → (X → List (model.Slot Node)) → (X → List (Slot Item))
    → (List (Slot Item) → X → X) → Key → X → Type 0
ShowsItemPut slots_of entries with_entries k t =
    (w : Item) → slots_of (with_item_put entries with_entries k w t)
    ≡ model.put (model.with_item (item_view w)) (record { key = k; item = item_view w })
    (slots_of t)

abbrev pub KeepsBeside : {X : Type 0} → (X → Node) → (X → List (Slot Item))
    → (List (Slot Item) → X → X) → Key → X → Type 0
KeepsBeside beside entries with_entries k t =
    (w : Item) → beside (with_item_put entries with_entries k w t) ≡ beside t

-- it ends with the final item of r in the slot of the key, which may be new; it stays where none is
-- lent
abbrev pub LendsPut : (R : RattleType) → (R.Denot → List (Slot Item))
    → (List (Slot Item) → R.Denot → R.Denot) → {E : Type 0} → MutBor R.Denot → Key
    → Result (MutBor Item) E → Fml
LendsPut R entries with_entries s k r =
    LendsIfOk R item_row s r (λ w. with_item_put entries with_entries k w s.now) s.now
