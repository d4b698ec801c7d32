-- Slots as a list: the slot of a key, the slots before and after it, and what an edit of it leaves.
use Rattle.std.proofs.Common.{◌≡◌, refl, sym, ◌∙◌, ap, subst, ℕ, Bool, true, false, List, [], ◌∷◌, ◌++◌, append_assoc, length, Some, None}
use Rattle.std.specs.Prelude.{if◌then◌else◌}
use Rattle.std.specs.List.{AllByRecursion}
use Rattle.toml_edit_model.specs.Mode.{Mode}
use Rattle.toml_edit_model.specs.Text.{Text, same_text}
use Rattle.toml_edit_model.specs.Paths.{Path, to_key}
use Rattle.toml_edit_model.specs.Tree.{Key, Node, Items, no_items, item, Slots, no_slots, slot, has_key, IsWellMade, SlotsAreWellMade}
use Rattle.toml_edit_model.specs.HeaderOrder.{node_walk, slots_walk}
use Rattle.toml_edit_model.specs.Print.{table_lines}
use Rattle.toml_edit_model.specs.Slots.{Slot, keyed, changed_at, lookup_slot, changed, without}
use Rattle.toml_edit_model.specs.Lists.{slot_list, slots_from, item_list, items_from}
use Rattle.toml_edit_model.specs.ArrayCalls.{removed_at}
use Rattle.toml_edit_laws.proofs.common.Tests.{or-left, or-right, same_text-is}
use Rattle.toml_edit_laws.proofs.locality.Under.{slot_lines}
use Rattle.toml_edit_laws.proofs.common.OptionSteps.{some-is}

-- the slots of a tree with a function applied to their list, and items likewise
abbrev pub slots_under : (List (Slot Node) → List (Slot Node)) → Slots → Slots
slots_under g ss = slots_from (g (slot_list ss))

abbrev pub items_under : (List Node → List Node) → Items → Items
items_under g xs = items_from (g (item_list xs))

pub slots_from-list : (ss : Slots) → slots_from (slot_list ss) ≡ ss
slots_from-list no_slots = refl
slots_from-list (slot k n ss) = ap (λ r. slot k n r) (slots_from-list ss)

pub slot_list-from : (xs : List (Slot Node)) → slot_list (slots_from xs) ≡ xs
slot_list-from [] = refl
slot_list-from (x ∷ xs) = ap (λ r. x ∷ r) (slot_list-from xs)

pub items_from-list : (xs : Items) → items_from (item_list xs) ≡ xs
items_from-list no_items = refl
items_from-list (item n xs) = ap (λ r. item n r) (items_from-list xs)

pub item_list-from : (xs : List Node) → item_list (items_from xs) ≡ xs
item_list-from [] = refl
item_list-from (x ∷ xs) = ap (λ r. x ∷ r) (item_list-from xs)

module _ (mode : Mode) where
  -- ---- lists joined

  pub lines-append : (xs ys : List (Slot Node)) (ks : List Key) → table_lines mode (slots_from (xs ++ ys)) ks
      ≡ table_lines mode (slots_from xs) ks ++ table_lines mode (slots_from ys) ks
  lines-append [] ys ks = refl
  lines-append (x ∷ xs) ys ks =
      ap (λ ls. slot_lines mode x.key x.item ks ++ ls) (lines-append xs ys ks)
      ∙ sym (append_assoc (slot_lines mode x.key x.item ks) (table_lines mode (slots_from xs) ks) (table_lines mode (slots_from ys) ks))

pub walk-append : (xs ys : List (Slot Node)) (p : Path) (ks : List Key) → slots_walk (slots_from (xs ++ ys)) p ks
    ≡ slots_walk (slots_from xs) p ks ++ slots_walk (slots_from ys) p ks
walk-append [] ys p ks = refl
walk-append (x ∷ xs) ys p ks =
    let own = node_walk x.item (to_key p x.key.name) (ks ++ (x.key ∷ [])) false in
    ap (λ vs. own ++ vs) (walk-append xs ys p ks)
    ∙ sym (append_assoc own (slots_walk (slots_from xs) p ks) (slots_walk (slots_from ys) p ks))

-- ---- the slot of a key

abbrev pub HaveOtherKeys : Text → List (Slot Node) → Type 0
HaveOtherKeys k xs = AllByRecursion (λ s. same_text k s.key.name ≡ false) xs

pub other-keys : (k : Text) (ss : Slots) → has_key k ss ≡ false → HaveOtherKeys k (slot_list ss)
other-keys k no_slots h = tt
other-keys k (slot l n ss) h =
    (or-left (same_text k l.name) (has_key k ss) h, other-keys k ss (or-right (same_text k l.name) (has_key k ss) h))

pub record Found (k : Text) (s : Slot Node) (ss : List (Slot Node)) : Type 0 where
  pub front : List (Slot Node)
  pub back : List (Slot Node)
  pub is : ss ≡ front ++ (s ∷ back)
  pub named : k ≡ s.key.name
  pub others_front : HaveOtherKeys s.key.name front
  pub others_back : HaveOtherKeys s.key.name back
  pub made : IsWellMade s.item
  pub change : (f : Slot Node → Slot Node) → changed k f ss ≡ front ++ (f s ∷ back)
  pub remove : without k ss ≡ front ++ back

without-others : (k : Text) (xs : List (Slot Node)) → HaveOtherKeys k xs → without k xs ≡ xs
without-others k [] h = refl
without-others k (x ∷ xs) h = rw h.0 (ap (λ ys. x ∷ ys) (without-others k xs h.1))

changed-others : (k : Text) (f : Slot Node → Slot Node) (xs : List (Slot Node)) → HaveOtherKeys k xs → changed k f xs ≡ xs
changed-others k f [] h = refl
changed-others k f (x ∷ xs) h = rw h.0 (ap (λ ys. x ∷ ys) (changed-others k f xs h.1))

pub found : (k : Text) (ss : Slots) (s : Slot Node) → SlotsAreWellMade ss → lookup_slot k (slot_list ss) ≡ Some s → Found k s (slot_list ss)
found k no_slots s w h = absurd cc
found k (slot l n ss) s w h = by_test (same_text k l.name) refl h (found k ss s w.3)
  where
    by_test : (b : Bool) → same_text k l.name ≡ b → (if b then Some (keyed l n) else lookup_slot k (slot_list ss)) ≡ Some s
        → (lookup_slot k (slot_list ss) ≡ Some s → Found k s (slot_list ss)) → Found k s (keyed l n ∷ slot_list ss)
    by_test true e g ih =
        let here : (keyed l n) ≡ s = some-is (keyed l n) s g in
        let name : k ≡ l.name = same_text-is k l.name e in
        let others : HaveOtherKeys l.name (slot_list ss) = other-keys l.name ss w.0 in
        subst (λ (x : Slot Node). Found k x (keyed l n ∷ slot_list ss)) here
        (record {
          front = [];
          back = slot_list ss;
          is = refl;
          named = name;
          others_front = tt;
          others_back = others;
          made = w.2;
          change = λ f. rw e (ap (λ ys. f (keyed l n) ∷ ys) (changed-others k f (slot_list ss)
              (subst (λ x. HaveOtherKeys x (slot_list ss)) (sym name) others)));
          remove = rw e (without-others k (slot_list ss) (subst (λ x. HaveOtherKeys x (slot_list ss)) (sym name) others));
        })
    by_test false e g ih =
        let r = ih g in
        let away : same_text s.key.name l.name ≡ false = subst (λ x. same_text x l.name ≡ false) r.named e in
        record {
          front = (keyed l n) ∷ r.front;
          back = r.back;
          is = ap (λ xs. (keyed l n) ∷ xs) r.is;
          named = r.named;
          others_front = (away, r.others_front);
          others_back = r.others_back;
          made = r.made;
          change = λ f. rw e (ap (λ xs. (keyed l n) ∷ xs) (r.change f));
          remove = rw e (ap (λ xs. (keyed l n) ∷ xs) r.remove);
        }

pub none-there : (k : Text) (xs : List (Slot Node)) → lookup_slot k xs ≡ None → HaveOtherKeys k xs
none-there k [] h = tt
none-there k (x ∷ xs) h = by_test (same_text k x.key.name) refl h (none-there k xs)
  where
    by_test : (b : Bool) → same_text k x.key.name ≡ b → (if b then Some x else lookup_slot k xs) ≡ None
        → (lookup_slot k xs ≡ None → HaveOtherKeys k xs)
        → HaveOtherKeys k (x ∷ xs)
    by_test true e g ih = absurd cc
    by_test false e g ih = (e, ih g)

-- ---- the item at a place

pub change-item : (before : List Node) (n : Node) (after : List Node) (i : ℕ) (g : Node → Node) → length before ≡ i
    → changed_at i g (before ++ (n ∷ after)) ≡ before ++ (g n ∷ after)
change-item [] n after i g h = rw (← h) refl
change-item (m ∷ before) n after i g h = rw (← h) (ap (λ xs. m ∷ xs) (change-item before n after (length before) g refl))

pub remove-item : (before : List Node) (n : Node) (after : List Node) (i : ℕ) → length before ≡ i
    → removed_at i (before ++ (n ∷ after)) ≡ before ++ after
remove-item [] n after i h = rw (← h) refl
remove-item (m ∷ before) n after i h = rw (← h) (ap (λ xs. m ∷ xs) (remove-item before n after (length before) refl))
