-- What an inline table lends of its values and keys.
use Rattle.std.specs.Prelude.{ℕ, [], ◌∷◌, ◌++◌, Option, Result}
use Rattle.std.specs.Borrow.{Lends, LendsIf, LendsIfOk, MutBor, Fml, follows}
use Rattle.std.specs.Option.{option_map_or}
use Rattle.toml_edit_model.specs.Keys.{new_key}
use Rattle.toml_edit_model.specs.Text.{Text}
use Rattle.toml_edit_model.specs.Tree.{Decor, Key}
use Rattle.toml_edit_key.specs.KeyMutView.{lent_parts, with_parts}
use Rattle.toml_edit_key.specs.contracts.key.KeyParts.{the_row as parts_row}
use Rattle.toml_edit_key.specs.declared.key.KeyMut.{KeyMut}
use Rattle.toml_edit_repr.specs.contracts.repr.Decor.{the_row as decor_row}
use Rattle.toml_edit_slots.specs.Slots.{on_key, place, with_item}
use Rattle.toml_edit_tree.specs.contracts.inline_table.InlineTable.{the_row as inline_row}
use Rattle.toml_edit_tree.specs.contracts.item.Item.{the_row as item_row}
use Rattle.toml_edit_tree.specs.contracts.value.Value.{the_row as value_row}
use Rattle.toml_edit_tree.specs.declared.inline_table.InlineTable.{InlineTable, out-InlineTable}
use Rattle.toml_edit_tree.specs.declared.item.Item.{Item}
use Rattle.toml_edit_tree.specs.declared.item.Item.TheVariants as items
use Rattle.toml_edit_tree.specs.declared.value.Value.{Value}

-- the inline table with another value in the slot at a place, or in that of a key, or with the key
-- at a place changed
abbrev pub with_value_at : ℕ → Value → InlineTable → InlineTable
with_value_at at v t = record t { items = with_item at (items.Value v) (out-InlineTable t).items }

abbrev pub with_value_under : Text → Value → InlineTable → InlineTable
with_value_under k v t =
    record t {
      items = option_map_or (λ at. with_item at (items.Value v) (out-InlineTable t).items)
          (place k (out-InlineTable t).items) (out-InlineTable t).items;
    }

abbrev pub with_inline_key : ℕ → (Key → Key) → InlineTable → InlineTable
with_inline_key at h t = record t { items = on_key at h (out-InlineTable t).items }

-- the inline table with the value in the slot of a key, or in a new one
abbrev pub value_put : Text → Value → InlineTable → InlineTable
value_put k v t =
    record t {
      items =
          option_map_or (λ at. with_item at (items.Value v) (out-InlineTable t).items)
          (place k (out-InlineTable t).items)
          ((out-InlineTable t).items ++ record { key = new_key k; item = items.Value v } ∷ []);
    }

-- the inline table ends with the final value of r in the slot at the place, or in that of the key,
-- where a value is lent
abbrev pub LendsValueAt : MutBor InlineTable → ℕ → MutBor Value → Fml
LendsValueAt s at r = Lends inline_row value_row s r (λ w. with_value_at at w s.now)

abbrev pub LendsValueUnder : MutBor InlineTable → Text → Option (MutBor Value) → Fml
LendsValueUnder s k r = LendsIf inline_row value_row s r (λ w. with_value_under k w s.now) s.now

-- it ends with the final value of r in the slot of the key, which may be new; it stays where none
-- is lent
abbrev pub LendsPut : {E : Type 0} → MutBor InlineTable → Text → Result (MutBor Value) E → Fml
LendsPut s k r = LendsIfOk inline_row value_row s r (λ w. value_put k w s.now) s.now

-- the inline table ends with the final parts of r in the key at the place
abbrev pub LendsInlineKeyAt : MutBor InlineTable → ℕ → KeyMut → Fml
LendsInlineKeyAt s at r =
    follows inline_row parts_row s.ghost_name (lent_parts r).ghost_name
    (λ w. with_inline_key at (with_parts w) s.now)

-- it ends with the final decor of r as one of the key's at the place
abbrev pub LendsInlineLeafAt : MutBor InlineTable → ℕ → MutBor Decor → Fml
LendsInlineLeafAt s at r =
    Lends inline_row decor_row s r (λ w. with_inline_key at (λ k. record k { leaf = w }) s.now)

abbrev pub LendsInlineDottedAt : MutBor InlineTable → ℕ → MutBor Decor → Fml
LendsInlineDottedAt s at r =
    Lends inline_row decor_row s r (λ w. with_inline_key at (λ k. record k { dotted = w }) s.now)

-- the item ends as the final value of r
abbrev pub LendsOwnValue : MutBor Item → MutBor Value → Fml
LendsOwnValue s r = Lends item_row value_row s r (λ w. items.Value w)
