-- What is lent out of slots.
use Rattle.std.specs.Prelude.{ℕ, List, Option}
use Rattle.std.specs.Option.{option_map_or}
use Rattle.std.specs.Borrow.{Lends, LendsIf, MutBor, Fml, follows}
use denote.RattleType.{RattleType}
use Rattle.toml_edit_model.specs.Text.{Text}
use Rattle.toml_edit_model.specs.Tree.{Decor}
use Rattle.toml_edit_slots.specs.Slots.{on_key, with_item, place}
use Rattle.toml_edit_slots.specs.declared.slots.Slot.{Slot}
use Rattle.toml_edit_slots.specs.contracts.slots.Slots.{the_row}
use Rattle.toml_edit_key.specs.KeyMutView.{lent_parts, with_parts}
use Rattle.toml_edit_key.specs.contracts.key.KeyParts as key_parts
use Rattle.toml_edit_key.specs.declared.key.KeyMut.{KeyMut}
use Rattle.toml_edit_repr.specs.contracts.repr.Decor as decor

-- the slots end with the final value of r as the item at the place
abbrev pub LendsItem : (T : RattleType) → MutBor (List (Slot T.Denot)) → ℕ → MutBor T.Denot → Fml
LendsItem T s at r = Lends (the_row T) T s r (λ w. with_item at w s.now)

-- or as the item of the slot of the text, where there is one
abbrev pub LendsFound : (T : RattleType) → MutBor (List (Slot T.Denot)) → Text
    → Option (MutBor T.Denot) → Fml
LendsFound T s t r =
    LendsIf (the_row T) T s r
    (λ w. option_map_or (λ i. with_item i w s.now) (place t s.now) s.now) s.now

-- the slots end with the final parts of r in the key at the place
abbrev pub LendsKeyAt : (T : RattleType) → MutBor (List (Slot T.Denot)) → ℕ → KeyMut → Fml
LendsKeyAt T s at r =
    follows (the_row T) key_parts.the_row s.ghost_name (lent_parts r).ghost_name
    (λ w. on_key at (with_parts w) s.now)

-- the slots end with the final decor of r as that of the key at the place, where it ends a path, or
-- between dots
abbrev pub LendsLeafAt : (T : RattleType) → MutBor (List (Slot T.Denot)) → ℕ → MutBor Decor → Fml
LendsLeafAt T s at r =
    Lends (the_row T) decor.the_row s r (λ w. on_key at (λ k. record k { leaf = w }) s.now)

abbrev pub LendsDottedAt : (T : RattleType) → MutBor (List (Slot T.Denot)) → ℕ → MutBor Decor → Fml
LendsDottedAt T s at r =
    Lends (the_row T) decor.the_row s r (λ w. on_key at (λ k. record k { dotted = w }) s.now)
