-- Slots and elements put in the order of their places.
use Rattle.std.proofs.Common.{◌≡◌, ℕ, zero, suc, ◌<◌, true, false, List, [], ◌∷◌, length, map, get_or, set, refl, sym, ap, ◌∙◌, inl, inr}
use Rattle.std.proofs.Common.{arith, nat_le, nat_lt, Some, slice_get}
use Rattle.std.proofs.lemmas.Bool.{cases_Bool}
use Rattle.std.proofs.lemmas.Bool.Decides.{nat_tests}
use Rattle.std.proofs.lemmas.Option.{same_Some}
use Rattle.toml_edit_model.specs.Order.{insert_by, sorted_by}
use Rattle.toml_edit_model.specs.Tree.{Node, item, Slots, no_slots, slot}
use Rattle.toml_edit_laws.specs.PlaceOrder.{key_place, node_by_place, items_by_place, slot_by_place, slots_by_place}
use Rattle.toml_edit_laws.proofs.building.PlacePaths.{value-order}
use Rattle.toml_edit_slots.specs.declared.slots.Slot.{Slot}
use Rattle.toml_edit_slots.specs.InPlace.{by_place}
use Rattle.toml_edit_slots.specs.Slots.{items_of, on_item, with_item}
use Rattle.toml_edit_tree.specs.Containers.{tree_slots}
use Rattle.toml_edit_model.specs.Lists.{items_from}
use Rattle.toml_edit_tree.specs.declared.item.Item.{Item}
use Rattle.toml_edit_tree.specs.declared.item.Item.TheVariants as items
use Rattle.toml_edit_tree.specs.declared.value.Value.{Value}
use Rattle.toml_edit_tree.specs.View.{item_view, slots_view}
use Rattle.toml_edit_tree.proofs.TurnLaws.{value-node}

-- ---- values

-- a value stays
pub value-in-order : (x : Item) (v : Value) → x ≡ items.Value v → item_view x ≡ node_by_place (item_view x)
value-in-order x v is = sym (value-order (item_view x) (value-node x v is))

-- ---- elements

pub ordered-items : (ns : List Node) → items_from (map node_by_place ns) ≡ items_by_place (items_from ns)
ordered-items [] = refl
ordered-items (n ∷ ns) = ap (item (node_by_place n)) (ordered-items ns)

-- ---- slots

-- a slot with its item in order
abbrev pub ordered_slot : Slot Node → Slot Node
ordered_slot s = record { key = s.key; item = node_by_place s.item }

-- each slot so
abbrev each_ordered : Slots → Slots
each_ordered no_slots = no_slots
each_ordered (slot k n ss) = slot k (node_by_place n) (each_ordered ss)

-- the slots of one table in order
abbrev sorted_slots : Slots → Slots
sorted_slots no_slots = no_slots
sorted_slots (slot k n ss) = slot_by_place k n (sorted_slots ss)

each-view : (es : List (Slot Node)) → tree_slots (map ordered_slot es) ≡ each_ordered (tree_slots es)
each-view [] = refl
each-view (s ∷ es) = ap (slot s.key (node_by_place s.item)) (each-view es)

sorted-each : (ss : Slots) → sorted_slots (each_ordered ss) ≡ slots_by_place ss
sorted-each no_slots = refl
sorted-each (slot k n ss) = ap (slot_by_place k (node_by_place n)) (sorted-each ss)

not-before : (i j : ℕ) → nat_le i j ≡ true → nat_lt j i ≡ false
not-before i j h = grind (arith, nat_tests)

is-before : (i j : ℕ) → nat_le i j ≡ false → nat_lt j i ≡ true
is-before i j h = grind (arith, nat_tests)

insert-view : (s : Slot Item) (es : List (Slot Item)) → slots_view (insert_by by_place s es)
    ≡ slot_by_place s.key (item_view s.item) (slots_view es)
insert-view s [] = refl
insert-view s (e ∷ es) =
    elim (cases_Bool (nat_le (key_place s.key) (key_place e.key))) [
      | inl first ↦ rw (first, not-before (key_place s.key) (key_place e.key) first) refl
      | inr behind ↦ rw (behind, is-before (key_place s.key) (key_place e.key) behind)
          (ap (slot e.key (item_view e.item)) (insert-view s es))
    ]

sorted-view : (es : List (Slot Item)) → slots_view (sorted_by by_place es) ≡ sorted_slots (slots_view es)
sorted-view [] = refl
sorted-view (s ∷ es) =
    insert-view s (sorted_by by_place es) ∙ ap (slot_by_place s.key (item_view s.item)) (sorted-view es)

-- slots whose items were put in order, in order
pub slots-in-order : (es : List (Slot Item)) (first : List (Slot Node)) → map (on_item item_view) es ≡ map ordered_slot first
    → slots_view (sorted_by by_place es) ≡ slots_by_place (tree_slots first)
slots-in-order es first h = sorted-view es ∙ ap sorted_slots (ap tree_slots h ∙ each-view first) ∙ sorted-each (tree_slots first)

-- the item at a place, and another there
pub item-at : (es : List (Slot Item)) (i : ℕ) (d : Slot Item) (x : Item) → i < length es → Some x ≡ slice_get (items_of es) i → x
    ≡ (get_or es i d).item
item-at [] i d x l e = absurd (omega (arith, l))
item-at (s ∷ es) zero d x l e = same_Some x s.item e
item-at (s ∷ es) (suc i) d x l e = item-at es i d x (omega (arith, l)) e

pub item-changed : (es : List (Slot Item)) (i : ℕ) (d : Slot Item) (y : Item) → with_item i y es
    ≡ set es i (record { key = (get_or es i d).key; item = y })
item-changed [] i d y = refl
item-changed (s ∷ es) zero d y = refl
item-changed (s ∷ es) (suc i) d y = ap (λ l. s ∷ l) (item-changed es i d y)
