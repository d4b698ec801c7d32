-- Items and slots that are put in owned form place by place.
use mathlib.Core.Logic.{∥∥₁_map}
use denote.Param.Weighed.{most, at_most}
use Rattle.std.proofs.Common.{◌≡◌, ℕ, zero, suc, ◌<◌, ◌≤◌, max, List, [], ◌∷◌, length, map, Some, get_or, set, slice_get, option_map, refl}
use Rattle.std.proofs.Common.{sym, ap, arith}
use Rattle.std.specs.Prelude.{Result, Ok, Err, OnOk}
use Rattle.std.proofs.lemmas.Option.{same_Some}
use Rattle.toml_edit_model.specs.Keys.{new_key}
use Rattle.toml_edit_model.specs.Spelling.{SpellsKey}
use Rattle.toml_edit_model.specs.Text.{Text}
use Rattle.toml_edit_model.specs.Tree.{Key, Node, Slots, TableFields, HasTrueSpelling, IsWellMade, ItemsAreWellMade, SlotsAreWellMade, item}
use Rattle.toml_edit_model.specs.Tree.{slot, table}
use Rattle.toml_edit_slots.specs.declared.slots.Slot.{Slot}
use Rattle.toml_edit_slots.specs.Slots.{items_of, on_key, with_item}
use Rattle.toml_edit_tree.specs.Containers.{tree_slots}
use Rattle.toml_edit_model.specs.Lists.{items_from}
use Rattle.toml_edit_tree.specs.declared.item.Item.{Item, size-Item, None as placeholder}
use Rattle.toml_edit_tree.specs.View.{item_view, items_view, slots_view}
use Rattle.toml_edit_model.specs.OwnedForm.{ItemsFit, KeyFits, NodeFits, SlotsFit, owned_items, owned_key, owned_node, owned_raw}
use Rattle.toml_edit_model.specs.OwnedForm.{owned_slots}

-- ---- items

-- the items in owned form, one by one
pub owned-items : (t : Text) (ns : List Node) → items_from (map (owned_node t) ns) ≡ owned_items t (items_from ns)
owned-items t [] = refl
owned-items t (n ∷ ns) = ap (item (owned_node t n)) (owned-items t ns)

-- each fits, and each is well made in owned form
pub item-fits : (t : Text) (xs : List Item) (i : ℕ) (d : Item) → i < length xs → ItemsFit t (items_view xs)
    → NodeFits t (item_view (get_or xs i d))
item-fits t [] i d h f = absurd (omega (arith, h))
item-fits t (x ∷ xs) zero d h f = f.0
item-fits t (x ∷ xs) (suc i) d h f = item-fits t xs i d (omega (arith, h)) f.1

item-true : (t : Text) (xs : List Item) (i : ℕ) (d : Item) → i < length xs → ItemsAreWellMade (owned_items t (items_view xs))
    → IsWellMade (owned_node t (item_view (get_or xs i d)))
item-true t [] i d h f = absurd (omega (arith, h))
item-true t (x ∷ xs) zero d h f = f.0
item-true t (x ∷ xs) (suc i) d h f = item-true t xs i d (omega (arith, h)) f.1

pub item-spelled : (t : Text) (xs : List Item) (i : ℕ) (d : Item) → i < length xs → ∥ ItemsAreWellMade (owned_items t (items_view xs)) ∥₁
    → ∥ IsWellMade (owned_node t (item_view (get_or xs i d))) ∥₁
item-spelled t xs i d h f = ∥∥₁_map f (item-true t xs i d h)

-- ---- slots

-- a slot in owned form
abbrev pub owned_slot : Text → Slot Node → Slot Node
owned_slot t s = record { key = owned_key t s.key; item = owned_node t s.item }

pub owned-slots : (t : Text) (es : List (Slot Node)) → tree_slots (map (owned_slot t) es) ≡ owned_slots t (tree_slots es)
owned-slots t [] = refl
owned-slots t (s ∷ es) = ap (slot (owned_key t s.key) (owned_node t s.item)) (owned-slots t es)

-- any slot, for places past the last
abbrev pub no_slot : Slot Item
no_slot = record { key = new_key []; item = placeholder }

pub slot-fits : (t : Text) (es : List (Slot Item)) (i : ℕ) (d : Slot Item) → i < length es → SlotsFit t (slots_view es)
    → KeyFits t (get_or es i d).key × NodeFits t (item_view (get_or es i d).item)
slot-fits t [] i d h f = absurd (omega (arith, h))
slot-fits t (s ∷ es) zero d h f = (f.0, f.1)
slot-fits t (s ∷ es) (suc i) d h f = slot-fits t es i d (omega (arith, h)) f.2

-- the key's spelling is true in owned form, and the item well made
abbrev IsTrue : Text → Slot Item → Type 0
IsTrue t s = HasTrueSpelling (SpellsKey s.key.name) (option_map (owned_raw t) s.key.spelling) × IsWellMade (owned_node t (item_view s.item))

slot-true : (t : Text) (es : List (Slot Item)) (i : ℕ) (d : Slot Item) → i < length es → SlotsAreWellMade (owned_slots t (slots_view es))
    → IsTrue t (get_or es i d)
slot-true t [] i d h f = absurd (omega (arith, h))
slot-true t (s ∷ es) zero d h f = (f.1, f.2)
slot-true t (s ∷ es) (suc i) d h f = slot-true t es i d (omega (arith, h)) f.3

module _ (t : Text) (es : List (Slot Item)) (i : ℕ) (d : Slot Item) (h : i < length es)
    (f : ∥ SlotsAreWellMade (owned_slots t (slots_view es)) ∥₁) where
  pub key-spelled : ∥ HasTrueSpelling (SpellsKey (get_or es i d).key.name) (option_map (owned_raw t) (get_or es i d).key.spelling) ∥₁
  key-spelled = ∥∥₁_map f (λ made. (slot-true t es i d h made).0)

  pub slot-spelled : ∥ IsWellMade (owned_node t (item_view (get_or es i d).item)) ∥₁
  slot-spelled = ∥∥₁_map f (λ made. (slot-true t es i d h made).1)

-- the slot that is at a place
pub slot-there : (es : List (Slot Item)) (i : ℕ) (d s : Slot Item) → slice_get es i ≡ Some s → s ≡ get_or es i d
slot-there [] i d s e = absurd cc
slot-there (x ∷ es) zero d s e = sym (same_Some x s e)
slot-there (x ∷ es) (suc i) d s e = slot-there es i d s e

-- the item there, once the key was changed
pub item-there : (es : List (Slot Item)) (i : ℕ) (d : Slot Item) (h : Key → Key) (x : Item) → i < length es
    → Some x ≡ slice_get (items_of (on_key i h es)) i → x ≡ (get_or es i d).item
item-there [] i d h x l e = absurd (omega (arith, l))
item-there (s ∷ es) zero d h x l e = same_Some x s.item e
item-there (s ∷ es) (suc i) d h x l e = item-there es i d h x (omega (arith, l)) e

-- another key and another item at a place
pub both-changed : (es : List (Slot Item)) (i : ℕ) (d : Slot Item) (h : Key → Key) (y : Item)
    → with_item i y (on_key i h es) ≡ set es i (record { key = h (get_or es i d).key; item = y })
both-changed [] i d h y = refl
both-changed (s ∷ es) zero d h y = refl
both-changed (s ∷ es) (suc i) d h y = ap (λ l. s ∷ l) (both-changed es i d h y)

-- ---- the measure

-- how deep a slot is
abbrev pub slot_depth : Slot Item → ℕ
slot_depth s = max 0 (size-Item s.item)

-- an item is no deeper than its slots
pub deepest : (es : List (Slot Item)) (i : ℕ) (d : Slot Item) → i < length es → size-Item (get_or es i d).item ≤ most slot_depth es
deepest es i d h = omega (arith, at_most slot_depth es i d h)

-- the depth of items, likewise
abbrev pub item_depth : Item → ℕ
item_depth x = size-Item x

pub deepest_item : (xs : List Item) (i : ℕ) (d : Item) → i < length xs → size-Item (get_or xs i d) ≤ most item_depth xs
deepest_item xs i d h = omega (arith, at_most item_depth xs i d h)

-- a list in which one is no deeper than a bound on all
pub most-set : {X : Type 0} (μ : X → ℕ) (xs : List X) (i : ℕ) (y : X) (m : ℕ) → most μ xs ≤ m → μ y ≤ m → most μ (set xs i y) ≤ m
most-set μ [] i y m h l = h
most-set μ (x ∷ xs) zero y m h l = omega (arith, h, l)
most-set μ (x ∷ xs) (suc i) y m h l =
    let more : most μ (set xs i y) ≤ m = most-set μ xs i y m (omega (arith, h)) l in omega (arith, h, more)

-- ---- tables

-- tables that are one have one set of fields and slots
pub same_table : (f g : TableFields) (ss us : Slots) → table f ss ≡ table g us → (f ≡ g) × (ss ≡ us)
same_table f g ss us e = (cc, cc)

-- what follows from what a call ensures, where it is done
pub if_done : {A E : Type 0} {P Q : Type 0} → (r : Result A E) → OnOk r P → (P → Q) → OnOk r Q
if_done (Ok a) p h = h p
if_done (Err e) p h = tt
