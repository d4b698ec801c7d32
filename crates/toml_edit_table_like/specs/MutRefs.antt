-- A table of either kind that an item holds, lent by the item: what it is made of, and the item
-- that is left.
use mathlib.Core.Bool.{Bool-set}
use mathlib.Core.HLevel.{Σ_prop_path}
use Rattle.std.specs.Prelude.{◌≡◌, true, List, [], Option, None, Some, is_some, option_map}
use Rattle.std.proofs.Common.{refl, ap, ◌∙◌}
use Rattle.std.specs.Borrow.{Fml, GName, Lends, MutBor, RestsIfNone}
use Rattle.std.specs.Option.{unwrap_or}
use denote.RattleType.{RattleType}
use Rattle.toml_edit_model.specs.Slots.{Slot as Seen}
use Rattle.toml_edit_model.specs.Tree.{Node}
use Rattle.toml_edit_slots.specs.contracts.slots.Slots.{the_row as slots_row}
use Rattle.toml_edit_slots.specs.declared.slots.Slot.{Slot}
use Rattle.toml_edit_tree.specs.View.{item_view}
use Rattle.toml_edit_tree.specs.contracts.item.Item.{the_row as item_row}
use Rattle.toml_edit_tree.specs.contracts.value.Value.{the_row as value_row}
use Rattle.toml_edit_tree.specs.declared.item.Item.{Item}
use Rattle.toml_edit_tree.specs.declared.value.Value.{Value, out-Value}
use Rattle.toml_edit_table_like.specs.InItems.{again-in, beside_in, entries_in, keeps-in, seen-in, slots_seen, stays-in, took-in}
use Rattle.toml_edit_table_like.specs.InItems.{value_with, with_entries_in}
use Rattle.toml_edit_table_like.specs.Shown.{shown}
use Rattle.toml_edit_table_like.specs.declared.table_ref_mut.TableRefMut.{TableRefMut}

-- the reference to the item, and that item
abbrev pub mut_item : TableRefMut → MutBor Item
mut_item r = r.item

abbrev pub mut_node : TableRefMut → Node
mut_node r = item_view r.item.now

-- the reference that it came by
abbrev pub mut_origin : TableRefMut → Option GName
mut_origin r = Some r.item.ghost_name

-- its slots, and what there is beside them
abbrev pub mut_slots : TableRefMut → List (Seen Node)
mut_slots r = slots_seen r.item.now

abbrev pub mut_beside : TableRefMut → Node
mut_beside r = beside_in r.item.now

-- the slots with their items, and it with others
abbrev pub mut_entries : TableRefMut → List (Slot Item)
mut_entries r = unwrap_or (entries_in r.item.now) []

pub still : (es : List (Slot Item)) (o : Option (List (Slot Item)))
    → is_some (option_map (λ _. es) o) ≡ is_some o
still es (Some fs) = refl
still es None = refl

abbrev pub mut_with : List (Slot Item) → TableRefMut → TableRefMut
mut_with es r =
    record {
      item = record r.item { now = with_entries_in es r.item.now };
      is_table = ap is_some (took-in es r.item.now) ∙ still es (entries_in r.item.now) ∙ r.is_table;
    }

-- ---- laws

abbrev Holds : MutBor Item → Type 0
Holds b = is_some (entries_in b.now) ≡ true

abbrev of_pair : (b : MutBor Item) × Holds b → TableRefMut
of_pair p = record { item = p.0; is_table = p.1 }

-- whatever shows that it is one
pub same-ref : (r q : TableRefMut) → r.item ≡ q.item → r ≡ q
same-ref r q e =
    let u : (b : MutBor Item) × Holds b = (r.item, r.is_table) in
    let v : (b : MutBor Item) × Holds b = (q.item, q.is_table) in
    let p : u ≡ v = Σ_prop_path (λ b. Bool-set (is_some (entries_in b.now)) true) e in
    ap of_pair p

shown-or : (o : Option (List (Slot Item)))
    → unwrap_or (option_map shown o) [] ≡ shown (unwrap_or o [])
shown-or (Some es) = refl
shown-or None = refl

took-or : (es : List (Slot Item)) (o : Option (List (Slot Item))) → is_some o ≡ true
    → unwrap_or (option_map (λ _. es) o) [] ≡ es
took-or es (Some fs) e = refl
took-or es None e = absurd cc

pub mut_shows : (r : TableRefMut) → mut_slots r ≡ shown (mut_entries r)
mut_shows r = ap (λ o. unwrap_or o []) (seen-in r.item.now) ∙ shown-or (entries_in r.item.now)

pub mut_takes : (es : List (Slot Item)) (r : TableRefMut) → mut_entries (mut_with es r) ≡ es
mut_takes es r =
    ap (λ o. unwrap_or o []) (took-in es r.item.now) ∙ took-or es (entries_in r.item.now) r.is_table

pub mut_keeps : (es : List (Slot Item)) (r : TableRefMut)
    → mut_beside (mut_with es r) ≡ mut_beside r
mut_keeps es r = keeps-in es r.item.now

pub mut_again : (es fs : List (Slot Item)) (r : TableRefMut)
    → mut_with es (mut_with fs r) ≡ mut_with es r
mut_again es fs r = same-ref _ _ (ap (λ x. record r.item { now = x }) (again-in es fs r.item.now))

pub mut_stays : (r : TableRefMut) → mut_with (mut_entries r) r ≡ r
mut_stays r = same-ref _ _ (ap (λ x. record r.item { now = x }) (stays-in r.item.now))

pub mut_roots : (es : List (Slot Item)) (r : TableRefMut)
    → mut_origin (mut_with es r) ≡ mut_origin r
mut_roots es r = refl

-- ---- loans

-- the item ends with the final slots of r as those of its table
abbrev pub LendsOwnSlots : MutBor Item → MutBor (List (Slot Item)) → Fml
LendsOwnSlots s r = Lends item_row (slots_row item_row) s r (λ es. with_entries_in es s.now)

abbrev pub LendsValueSlots : MutBor Value → MutBor (List (Slot Item)) → Fml
LendsValueSlots s r =
    Lends value_row (slots_row item_row) s r (λ es. value_with es s.now (out-Value s.now))

-- it stays where it is no table
abbrev pub RestsIfOther : (R : RattleType) → MutBor R.Denot → Option TableRefMut → Fml
RestsIfOther R s r = RestsIfNone R s (λ t. t.item.ghost_name) r (λ n. n ≡ s.now)
