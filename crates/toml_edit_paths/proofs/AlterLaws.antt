-- What a closure does to a part of an item, as what it does to the item.
use Rattle.std.proofs.Common.{◌≡◌, ◌∙◌, refl, sym, ap, subst, ℕ, ◌<◌, Bool, false, List, [], ◌∷◌, length, get_or, set, slice_get, Option}
use Rattle.std.proofs.Common.{Some, None, arith}
use Rattle.toml_edit_model.specs.Text.{Text}
use Rattle.toml_edit_model.specs.Tree.{Key, Node, nothing, leaf, list, inline, table, tables, is_value_node}
use Rattle.toml_edit_model.specs.ArrayCalls.{written_at}
use Rattle.toml_edit_model.specs.Slots.{Slot, changed, lookup_slot, with_item}
use Rattle.toml_edit_model.specs.Lists.{is_item, items_in, on_items, on_slots, only, slots_in}
use Rattle.toml_edit_model.specs.Keys.{names, new_key}
use Rattle.toml_edit_edit_laws.specs.Commands.{Answer, done, mapped, present, second, and_then, item_below, element_of, change_slot}
use Rattle.toml_edit_edit_laws.specs.Commands.{change_element}
use Rattle.toml_edit_slots.specs.Slots as held
use Rattle.toml_edit_slots.specs.declared.slots.Slot as held_slot
use Rattle.toml_edit_tree.specs.Indexed.{shown_slots}
use Rattle.toml_edit_tree.specs.View.{item_view}
use Rattle.toml_edit_tree.specs.declared.item.Item.{Item}
use Rattle.toml_edit_tree.specs.Elements.{listed}
use Rattle.toml_edit_paths.specs.Calls.{Change, ChangesBelow, ChangesElement, ChangesFound, ChangesSlot, TakesFound, replaced_below}
use Rattle.toml_edit_paths.specs.Elements.{place_named}
use Rattle.toml_edit_paths.specs.Items.{kind_of}
use Rattle.toml_edit_paths.proofs.ElementLaws.{element-is, nodes-same, nodes-set}
use Rattle.toml_edit_paths.proofs.SlotLaws.{IsFirstOfName, pairs-with, slot-some, with-same}
use Rattle.toml_edit_paths.proofs.StepLaws.{items-child, items-go, items-kept, slots-child, slots-go, slots-kept}

-- ---- the end of a path

pub found-at-end : (path : List Key) (n : Node) → length path ≡ 0 → item_below (names path) n ≡ Some n
found-at-end [] n h = refl
found-at-end (k ∷ path) n h = absurd (omega arith)

pub replaced-at-end : (path : List Key) (m n : Node) → length path ≡ 0 → replaced_below (names path) m n ≡ done m
replaced-at-end [] m n h = refl
replaced-at-end (k ∷ path) m n h = absurd (omega arith)

-- ---- what is found

pub filled-only : (n : Node) → (n ≡ nothing → ⊥) → only is_item n ≡ Some n
filled-only nothing full = absurd (full refl)
filled-only (leaf s r d) full = refl
filled-only (list f xs) full = refl
filled-only (inline f ss) full = refl
filled-only (table f ss) full = refl
filled-only (tables e xs) full = refl

-- at the rest of a path below the slot of a key, and below an element
pub found-in-slots : (k : Text) (path : List Text) (n : Node) (ss : List (Slot Node)) → slots_in n ≡ Some ss → item_below (k ∷ path) n
    ≡ and_then (item_below path) (present (lookup_slot k ss))
found-in-slots k path n ss h = ap (and_then (item_below path)) (slots-child k n ss h)

pub found-in-items : (k : Text) (path : List Text) (n : Node) (ns : List Node) → items_in n ≡ Some ns
    → item_below (k ∷ path) n ≡ and_then (item_below path) (second (element_of (kind_of (is_value_node n)) k ns))
found-in-items k path n ns h = ap (and_then (item_below path)) (items-child k n ns h)

module _ {F R : Type 0} (g : Change F R) (f : F) where
  -- ---- what a part is a part of

  pub carried : {A B : Type 0} (h : A → B) (found found' : Option Node) (put : Node → Answer A) (put' : Node
      → Answer B) (old new : A) (r : Option R)
      → found' ≡ found → ((n : Node) → put' n ≡ mapped h (put n)) → ChangesFound g f found put old new r
      → ChangesFound g f found' put' (h old) (h new) r
  carried h found found' put put' old new None e p c = (e ∙ c.0, ap h c.1)
  carried h found found' put put' old new (Some r) e p c =
      record {
        item = c.item;
        left = c.left;
        found_it = e ∙ c.found_it;
        returned = c.returned;
        put_back = p (item_view c.left)
            ∙ ap (mapped h) c.put_back;
        unchanged = λ same. ap h (c.unchanged same);
      }

  pub renamed : {A : Type 0} (found : Option Node) (put : Node → Answer A) (a b c d : A) (r : Option R) → a ≡ c → b ≡ d
      → ChangesFound g f found put a b r → ChangesFound g f found put c d r
  renamed found put a b c d r e h change =
      subst (λ x. ChangesFound g f found put c x r) h (subst (λ x. ChangesFound g f found put x b r) e change)

  -- the closure may be called on the item of the part that is found
  pub takes : (found found' : Option Node) → found' ≡ found → TakesFound g f found' → TakesFound g f found
  takes found found' e h = λ item is. h item (e ∙ is)

  -- ---- the slots of an item, and its items

  pub in-slots : (k : Text) (path : List Text) (n : Node) (ss new : List (Slot Node)) (r : Option R) → slots_in n ≡ Some ss
      → ChangesSlot g f k path ss new r
      → ChangesBelow g f (k ∷ path) n (on_slots (λ _. new) n) r
  in-slots k path n ss new r h change =
      renamed _ _ _ _ _ _ r (slots-kept n ss h) refl
      (carried (λ xs. on_slots (λ _. xs) n) _ _ _ _ ss new r (found-in-slots k path n ss h)
      (λ m. sym (slots-go false (new_key k) (replaced_below path m) n ss h)) change)

  pub in-items : (k : Text) (path : List Text) (n : Node) (ns new : List Node) (r : Option R) → items_in n ≡ Some ns
      → ChangesElement g f (kind_of (is_value_node n)) k path ns new r
      → ChangesBelow g f (k ∷ path) n (on_items (λ _. new) n) r
  in-items k path n ns new r h change =
      renamed _ _ _ _ _ _ r (items-kept n ns h) refl
      (carried (λ l. on_items (λ _. l) n) _ _ _ _ ns new r (found-in-items k path n ns h)
      (λ m. sym (items-go false (new_key k) (replaced_below path m) n ns h)) change)

  -- ---- the item of a slot, and an element

  pub in-slot : (k : Text) (path : List Text) (es : List (held_slot.Slot Item)) (at : ℕ) (x y : Item) (r : Option R)
      → IsFirstOfName es → held.place k es ≡ Some at → Some x ≡ slice_get (held.items_of es) at
      → ChangesFound g f (and_then (item_below path) (only is_item (item_view x))) (λ left. replaced_below path left (item_view x))
      (item_view x) (item_view y) r
      → ChangesSlot g f k path (shown_slots es) (shown_slots (held.with_item at y es)) r
  in-slot k path es at x y r first h there change =
      let s = slot-some k es at x h there in
      let ss = shown_slots es in
      let make = λ (m : Node). changed k (with_item m) ss in
      renamed _ _ (make (item_view x)) (make (item_view y)) _ _ r (sym (pairs-with k es at x first h)
      ∙ ap shown_slots (with-same es at x there)) (sym (pairs-with k es at y first h))
      (carried make _ _ _ _ (item_view x) (item_view y) r (ap (λ o. and_then (item_below path) (present o)) s.1)
      (λ n. ap (change_slot false (new_key k) (replaced_below path n) ss) s.1) change)

  pub in-element : (is : Node → Bool) (k : Text) (path : List Text) (xs : List Item) (i : ℕ) (d y : Item) (r : Option R) → Some i
      ≡ place_named is k (listed xs) → i < length xs
      → ChangesBelow g f path (item_view (get_or xs i d)) (item_view y) r → ChangesElement g f is k path (listed xs) (listed (set xs i y)) r
  in-element is k path xs i d y r h inside change =
      let e = element-is is k xs i d h inside in
      let ns = listed xs in
      let make = λ (m : Node). written_at i m ns in
      renamed _ _ (make (item_view (get_or xs i d))) (make (item_view y)) _ _ r (nodes-same xs i d inside) (sym (nodes-set xs i y))
      (carried make _ _ _ _ (item_view (get_or xs i d)) (item_view y) r (ap (λ o. and_then (item_below path) (second o)) e)
      (λ n. ap (change_element (replaced_below path n) ns) e) change)

  -- ---- none

  pub no-slot : (k : Text) (path : List Text) (ss : List (Slot Node)) → lookup_slot k ss ≡ None → ChangesSlot g f k path ss ss None
  no-slot k path ss none = (ap (λ o. and_then (item_below path) (present o)) none, refl)
