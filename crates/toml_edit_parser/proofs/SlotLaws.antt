-- The slots of a table as the definitions see them, at the place of a key.
use Rattle.std.proofs.Common.{◌≡◌, ℕ, zero, suc, true, false, List, [], ◌∷◌, cond, Bool, refl, sym, ap, inl, inr, arith, Option, Some, None}
use Rattle.std.proofs.Common.{option_map, slice_get, take, length, ◌∙◌, ◌++◌}
use Rattle.std.proofs.lemmas.Bool.{cases_Bool}
use Rattle.std.proofs.lemmas.Cmp.{nat_list_eq_equiv}
use Rattle.std.proofs.lemmas.Option.{same_Some}
use Rattle.toml_edit_model.specs.Text.{Text, same_text}
use Rattle.toml_edit_model.specs.Tree.{Key, Node, Slots, no_slots, slot}
use Rattle.toml_edit_laws.specs.FlatTree.{with_slot}
use Rattle.toml_edit_laws.specs.InlineTree.{node_at, with_node}
use Rattle.toml_edit_laws.specs.InPlace.{replace_slot}
use Rattle.toml_edit_slots.specs.declared.slots.Slot as repr
use Rattle.toml_edit_slots.specs.Slots.{is_at, items_of, place, with_item}
use Rattle.toml_edit_slots.specs.InPlace.{replaced}
use Rattle.toml_edit_tree.specs.declared.item.Item.{Item}
use Rattle.toml_edit_tree.specs.View.{item_view, slots_view}
use Rattle.toml_edit_model.specs.OwnedForm.{KeyFits, NodeFits, SlotsFit}

node_none : (b : Bool) (n : Node) (o : Option Node) (i : Option ℕ) → cond b (Some 0) (option_map suc i) ≡ None → (i ≡ None → o ≡ None)
    → cond b (Some n) o ≡ None
node_none true n o i h f = absurd cc
node_none false n o None h f = f refl
node_none false n o (Some j) h f = absurd cc

-- no item stands at a key that has no place
pub node-none : (k : Text) (es : List (repr.Slot Item)) → place k es ≡ None → node_at k (slots_view es) ≡ None
node-none k [] h = refl
node-none k (e ∷ es) h = node_none (is_at k e) (item_view e.item) (node_at k (slots_view es)) (place k es) h (node-none k es)

same_place : (i j : ℕ) → ◌≡◌ {A = Option ℕ} (Some (suc i)) (Some (suc j)) → i ≡ j
same_place i j h = let e = same_Some (suc i) (suc j) h in omega (arith, e)

node_some : (b : Bool) (e : repr.Slot Item) (es : List (repr.Slot Item)) (o : Option Node) (i : Option ℕ) (at : ℕ) (x : Item)
    → cond b (Some 0) (option_map suc i) ≡ Some at → Some x ≡ slice_get (items_of (e ∷ es)) at
    → ((j : ℕ) → i ≡ Some j → Some x ≡ slice_get (items_of es) j → o ≡ Some (item_view x))
    → cond b (Some (item_view e.item)) o ≡ Some (item_view x)
node_some true e es o i zero x h g f = ap (option_map item_view) (sym g)
node_some true e es o i (suc at) x h g f = absurd cc
node_some false e es o None at x h g f = absurd cc
node_some false e es o (Some j) zero x h g f = absurd cc
node_some false e es o (Some j) (suc at) x h g f = f at (ap Some (same_place j at h)) g

-- the item at the place of a key
pub node-some : (k : Text) (es : List (repr.Slot Item)) (at : ℕ) (x : Item) → place k es ≡ Some at → Some x ≡ slice_get (items_of es) at
    → node_at k (slots_view es) ≡ Some (item_view x)
node-some k [] at x h g = absurd cc
node-some k (e ∷ es) at x h g =
    node_some (is_at k e) e es (node_at k (slots_view es)) (place k es) at x h g (λ j same there. node-some k es j x same there)

with_some : (b : Bool) (e : repr.Slot Item) (es : List (repr.Slot Item)) (i : Option ℕ) (at : ℕ) (y : Item) (ss : Slots)
    → cond b (Some 0) (option_map suc i) ≡ Some at → ((j : ℕ) → i ≡ Some j → slots_view (with_item j y es) ≡ ss)
    → slots_view (with_item at y (e ∷ es)) ≡ cond b (slot e.key (item_view y) (slots_view es)) (slot e.key (item_view e.item) ss)
with_some true e es i zero y ss h f = refl
with_some true e es i (suc at) y ss h f = absurd cc
with_some false e es None at y ss h f = absurd cc
with_some false e es (Some j) zero y ss h f = absurd cc
with_some false e es (Some j) (suc at) y ss h f = ap (slot e.key (item_view e.item)) (f at (ap Some (same_place j at h)))

-- the slots with another item at the place of a key
pub with-place : (k : Text) (es : List (repr.Slot Item)) (at : ℕ) (y : Item) → place k es ≡ Some at
    → slots_view (with_item at y es) ≡ with_node k (item_view y) (slots_view es)
with-place k [] at y h = absurd cc
with-place k (e ∷ es) at y h =
    with_some (is_at k e) e es (place k es) at y (with_node k (item_view y) (slots_view es)) h (λ j same. with-place k es j y same)

-- the places of keys stay, where an item changes
pub place-with : (k : Text) (es : List (repr.Slot Item)) (at : ℕ) (y : Item) → place k (with_item at y es) ≡ place k es
place-with k [] at y = refl
place-with k (e ∷ es) zero y = refl
place-with k (e ∷ es) (suc at) y = ap (λ (i : Option ℕ). cond (is_at k e) (Some 0) (option_map suc i)) (place-with k es at y)

-- a slot in the place of that of its name
pub replaced-view : (s : repr.Slot Item) (es : List (repr.Slot Item)) → slots_view (replaced s es)
    ≡ replace_slot s.key.name s.key (item_view s.item) (slots_view es)
replaced-view s [] = refl
replaced-view s (e ∷ es) =
    elim (cases_Bool (is_at s.key.name e)) [
      | inl same ↦ rw same refl
      | inr other ↦ rw other (ap (slot e.key (item_view e.item)) (replaced-view s es))
    ]

-- whatever item stood there
pub replaced-put : (k : Text) (l : Key) (x y : Node) (ss : Slots) → replace_slot k l x (with_node k y ss) ≡ replace_slot k l x ss
replaced-put k l x y no_slots = refl
replaced-put k l x y (slot j m ss) =
    elim (cases_Bool (same_text k j.name)) [
      | inl same ↦ rw (same, same) refl
      | inr other ↦ rw (other, other) (ap (slot j m) (replaced-put k l x y ss))
    ]

-- the item at a key, put there, changes nothing
pub node-same : (k : Text) (n : Node) (ss : Slots) → node_at k ss ≡ Some n → with_node k n ss ≡ ss
node-same k n no_slots h = absurd cc
node-same k n (slot l m ss) h =
    elim (cases_Bool (same_text k l.name)) [
      | inl same ↦ rw same (ap (λ (x : Node). slot l x ss) (sym (same_Some m n (rw same at h))))
      | inr other ↦ rw other (ap (slot l m) (node-same k n ss (rw other at h)))
    ]

place_last : (b : Bool) (i j : Option ℕ) (at : ℕ) → cond b (Some 0) (option_map suc i) ≡ None → (i ≡ None → j ≡ Some at)
    → cond b (Some 0) (option_map suc j) ≡ Some (suc at)
place_last true i j at h f = absurd cc
place_last false None j at h f = ap (option_map suc) (f refl)
place_last false (Some i) j at h f = absurd cc

-- the place of a key, where no slot before it has its name
pub place-last : (es : List (repr.Slot Item)) (at : ℕ) (s : repr.Slot Item) → slice_get es at ≡ Some s → place s.key.name (take at es)
    ≡ None
    → place s.key.name es ≡ Some at
place-last [] at s here h = absurd cc
place-last (e ∷ es) zero s here h = rw (same_Some e s here, nat_list_eq_equiv.refl s.key.name) refl
place-last (e ∷ es) (suc at) s here h =
    place_last (is_at s.key.name e) (place s.key.name (take at es)) (place s.key.name es) at h (λ before. place-last es at s here before)

-- ---- a slot that was pushed

-- the slots are one more
pub pushed-length : (es fs : List (repr.Slot Item)) (k : Key) (n : Node) → slots_view fs ≡ with_slot (slots_view es) k n → length fs
    ≡ suc (length es)
pushed-length [] [] k n h = absurd cc
pushed-length [] (f ∷ []) k n h = refl
pushed-length [] (f ∷ g ∷ fs) k n h = absurd cc
pushed-length (e ∷ es) [] k n h = absurd cc
pushed-length (e ∷ es) (f ∷ fs) k n h = ap suc (pushed-length es fs k n (cc))

-- its item
pub pushed-item : (es fs : List (repr.Slot Item)) (k : Key) (n : Node) (x : Item) → slots_view fs ≡ with_slot (slots_view es) k n → Some x
    ≡ slice_get (items_of fs) (length es)
    → item_view x ≡ n
pushed-item [] [] k n x h g = absurd cc
pushed-item [] (f ∷ fs) k n x h g = let e = same_Some x f.item g in let d : item_view f.item ≡ n = cc in ap item_view e ∙ d
pushed-item (e ∷ es) [] k n x h g = absurd cc
pushed-item (e ∷ es) (f ∷ fs) k n x h g = pushed-item es fs k n x (cc) g

-- the slots with another item in it
pub pushed-with : (es fs : List (repr.Slot Item)) (k : Key) (n : Node) (y : Item) → slots_view fs ≡ with_slot (slots_view es) k n
    → slots_view (with_item (length es) y fs) ≡ with_slot (slots_view es) k (item_view y)
pushed-with [] [] k n y h = absurd cc
pushed-with [] (f ∷ fs) k n y h =
    let d : f.key ≡ k = cc in
    let r : slots_view fs ≡ no_slots = cc in
    ap (λ (x : Key). slot x (item_view y) (slots_view fs)) d ∙ ap (slot k (item_view y)) r
pushed-with (e ∷ es) [] k n y h = absurd cc
pushed-with (e ∷ es) (f ∷ fs) k n y h =
    let d : f.key ≡ e.key = cc in
    let i : item_view f.item ≡ item_view e.item = cc in
    ap (λ (x : Key). slot x (item_view f.item) (slots_view (with_item (length es) y fs))) d
    ∙ ap (λ (x : Node). slot e.key x (slots_view (with_item (length es) y fs))) i
    ∙ ap (slot e.key (item_view e.item)) (pushed-with es fs k n y (cc))

-- ---- a slot at the end

pub slots_view-append : (es : List (repr.Slot Item)) (s : repr.Slot Item) → slots_view (es ++ s ∷ [])
    ≡ with_slot (slots_view es) s.key (item_view s.item)
slots_view-append [] s = refl
slots_view-append (e ∷ es) s = ap (slot e.key (item_view e.item)) (slots_view-append es s)

pub fits-with_slot : (t : Text) (ss : Slots) (k : Key) (n : Node) → SlotsFit t ss → KeyFits t k → NodeFits t n
    → SlotsFit t (with_slot ss k n)
fits-with_slot t no_slots k n h key node = (key, node, tt)
fits-with_slot t (slot l m ss) k n h key node = (h.0, h.1, fits-with_slot t ss k n h.2 key node)
