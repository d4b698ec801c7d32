-- Where a path leads to nothing there are no facts.
use Rattle.std.proofs.Common.{◌≡◌, refl, sym, ◌∙◌, ap, subst, ℕ, suc, arith, Bool, true, false, List, [], ◌∷◌, ◌++◌, Option, Some, None}
use Rattle.std.specs.Prelude.{if◌then◌else◌, length, filter, take}
use Rattle.toml_edit_model.specs.Text.{Text}
use Rattle.toml_edit_model.specs.Paths.{at_key, at_element, Path, same_step, to_key, to_element}
use Rattle.toml_edit_model.specs.Meaning.{Fact, fact, a_table, an_array, a_scalar}
use Rattle.toml_edit_model.specs.Tree.{Node, nothing, leaf, list, inline, table, tables, Items, Slots, IsWellMade, ItemsAreWellMade, SlotsAreWellMade, is_value_node}
use Rattle.toml_edit_model.specs.Shown.{is_table_node, shown_meaning}
use Rattle.toml_edit_model.specs.Slots.{Slot, lookup_slot}
use Rattle.toml_edit_model.specs.Lists.{slot_list, slots_from, item_list, items_from, is_item, only}
use Rattle.toml_edit_edit_laws.specs.Commands.{element_of, present, second, child, and_then, item_below, root_item}
use Rattle.toml_edit_edit_laws.specs.Means.{element_step, or_nothing, meant_from, AbsentMeans}
use Rattle.toml_edit_laws.proofs.common.PathLaws.{same_step-is, is_front, front-through}
use Rattle.toml_edit_laws.proofs.common.Tests.{and_left, and_right, false-by}
use Rattle.toml_edit_laws.proofs.locality.Elements.{item-made}
use Rattle.toml_edit_laws.proofs.locality.Slots.{Found, found, none-there, slots_from-list, items_from-list}
use Rattle.toml_edit_laws.proofs.locality.Under.{IsApart, apart-above}
use Rattle.toml_edit_edit_laws.proofs.commands.Apart.{named}
use Rattle.toml_edit_edit_laws.proofs.commands.Keeping.{item-parts}
use Rattle.toml_edit_edit_laws.proofs.path_calls.Places.{take-front}
use Rattle.toml_edit_edit_laws.proofs.means.Changes.{OutOf, out-stays}
use Rattle.toml_edit_edit_laws.proofs.means.Facts.{facts_in, slots_in, items_in, kind, count, slot_in, slots-around, items-around, others-out}
use Rattle.toml_edit_edit_laws.proofs.means.Facts.{earlier-out, later-out, apart-out, if-out, both-out, items-cons, items-none}
use Rattle.toml_edit_edit_laws.proofs.means.Parts.{seen, shown_in}
use Rattle.toml_edit_edit_laws.proofs.means.Along.{meant-front, table-facts, inline-facts, list-facts}
use Rattle.toml_edit_edit_laws.proofs.means.Outside.{outside_with}

-- a key is no element
key-element : (p q : Path) (k : Text) (n : ℕ) → is_front (to_key p k) q ≡ true → is_front (to_element p n) q ≡ true → ⊥
key-element [] [] k n h g = cc
key-element [] (t ∷ q) k n h g =
    let first : at_key k ≡ t = same_step-is (at_key k) t (and_left (same_step (at_key k) t) true h) in
    let second : at_element n ≡ t = same_step-is (at_element n) t (and_left (same_step (at_element n) t) true g) in
    cc
key-element (s ∷ p) [] k n h g = cc
key-element (s ∷ p) (t ∷ q) k n h g =
    key-element p q k n (and_right (same_step s t) (is_front (to_key p k) q) h) (and_right (same_step s t) (is_front (to_element p n) q) g)

-- the elements of an array are not below a key
elements-out : (v : Bool) (p q : Path) (k : Text) (xs : List Node) (n : ℕ) → is_front (to_key p k) q ≡ true
    → OutOf q (items_in v (items_from xs) p n)
elements-out v p q k [] n h = subst (OutOf q) (sym (items-none v p n)) tt
elements-out v p q k (x ∷ xs) n h =
    let r : Path = to_element p n in
    let apart : IsApart q r =
    λ s e. false-by (is_front q s) (λ g. key-element p s k n (front-through (to_key p k) q s h g) e) in
    subst (OutOf q) (sym (items-cons v x (items_from xs) p n))
    (if-out q (kind v x) (facts_in v x r ++ items_in v (items_from xs) p (suc n)) (items_in v (items_from xs) p n)
    (both-out q (facts_in v x r) (items_in v (items_from xs) p (suc n)) (apart-out v x q r apart) (elements-out v p q k xs (suc n) h))
    (elements-out v p q k xs n h))

-- ---- one item

module _ (q p : Path) where
  slots-out : (v : Bool) (k : Text) (ss : Slots) → SlotsAreWellMade ss → is_front (to_key p k) q ≡ true
      → (o : Option (Slot Node)) → lookup_slot k (slot_list ss) ≡ o
      → ((s : Slot Node) → o ≡ Some s → OutOf q (seen false v s.item (to_key p k))) → OutOf q (slots_in v ss p)
  slots-out v k ss w h None e each =
      subst (λ z. OutOf q (slots_in v z p)) (slots_from-list ss) (others-out v p q k (slot_list ss) h (none-there k (slot_list ss) e))
  slots-out v k ss w h (Some s) e each =
      let fd : Found k s (slot_list ss) = found k ss s w e in
      let here : is_front (to_key p s.key.name) q ≡ true = subst (λ z. is_front (to_key p z) q ≡ true) fd.named h in
      let part : OutOf q (slot_in v s p) = subst (λ z. OutOf q (seen false v s.item (to_key p z))) fd.named (each s refl) in
      subst (OutOf q) (sym (ap (λ z. slots_in v z p) (sym (slots_from-list ss) ∙ ap slots_from fd.is) ∙ slots-around v fd.front s fd.back p))
      (both-out q (slots_in v (slots_from fd.front) p) (slot_in v s p ++ slots_in v (slots_from fd.back) p)
      (others-out v p q s.key.name fd.front here fd.others_front)
      (both-out q (slot_in v s p) (slots_in v (slots_from fd.back) p) part (others-out v p q s.key.name fd.back here fd.others_back)))

  -- the facts of an item that is shown or not
  shown-out : (b : Bool) (fs gs : List Fact) → fs ≡ gs → OutOf q gs → OutOf q (if b then fs else [])
  shown-out true fs gs e h = subst (OutOf q) (sym e) h
  shown-out false fs gs e h = tt

-- ---- below a segment

module _ (path : List Text)
    (ih : (s v : Bool) (n : Node) (p : Path) → IsWellMade n → item_below path n ≡ None → OutOf (meant_from p path n) (seen s v n p)) where
  item-out : (v : Bool) (m : Node) (r : Path) → IsWellMade m → and_then (item_below path) (only is_item m) ≡ None
      → OutOf (meant_from r path (or_nothing (only is_item m))) (seen false v m r)
  item-out true nothing r w h = tt
  item-out false nothing r w h = tt
  item-out v (leaf s a d) r w h = ih false v (leaf s a d) r w h
  item-out v (list f xs) r w h = ih false v (list f xs) r w h
  item-out v (inline f ss) r w h = ih false v (inline f ss) r w h
  item-out v (table f ss) r w h = ih false v (table f ss) r w h
  item-out v (tables e xs) r w h = ih false v (tables e xs) r w h

  -- a table's, where its slot has none
  holder-out : (v : Bool) (k : Text) (ss : Slots) (p : Path) → SlotsAreWellMade ss
      → and_then (item_below path) (present (lookup_slot k (slot_list ss))) ≡ None
      → OutOf (meant_from (to_key p k) path (or_nothing (present (lookup_slot k (slot_list ss))))) (fact p a_table ∷ slots_in v ss p)
  holder-out v k ss p w h =
      let q : Path = meant_from (to_key p k) path (or_nothing (present (lookup_slot k (slot_list ss)))) in
      let above : is_front (to_key p k) q ≡ true = meant-front (to_key p k) path (or_nothing (present (lookup_slot k (slot_list ss)))) in (
        apart-above p q (at_key k) above,
        slots-out q p v k ss w above (lookup_slot k (slot_list ss)) refl
            (λ s e.
            subst (λ o. OutOf (meant_from (to_key p k) path (or_nothing (present o))) (seen false v s.item (to_key p k))) (sym e)
            (item-out v s.item (to_key p k) (found k ss s w e).made (sym (ap (λ o. and_then (item_below path) (present o)) e) ∙ h))),
      )

  -- an array's, where its element has none
  items-out : (v : Bool) (k : Text) (xs : Items) (p : Path) → ItemsAreWellMade xs → (o : Option (ℕ × Node))
      → element_of (kind v) k (item_list xs) ≡ o → and_then (item_below path) (second o) ≡ None
      → OutOf (meant_from (p ++ (element_step (kind v) k (item_list xs) o ∷ [])) path (or_nothing (second o))) (fact p an_array ∷ items_in v xs p 0)
  items-out v k xs p w None e h =
      let q : Path = meant_from (to_key p k) path nothing in
      let above : is_front (to_key p k) q ≡ true = meant-front (to_key p k) path nothing in (
        apart-above p q (at_key k) above,
        subst (λ z. OutOf q (items_in v z p 0)) (items_from-list xs) (elements-out v p q k (item_list xs) 0 above),
      )
  items-out v k xs p w (Some a) e h =
      let m = named (kind v) k (item_list xs) a e in
      let i = item-parts a.0 (item_list xs) a.1 m.item in
      let n : ℕ = count v i.before in
      let is : xs ≡ items_from (i.before ++ (a.1 ∷ i.after)) = sym (items_from-list xs) ∙ ap items_from i.is in
      let number : length (filter (kind v) (take a.0 (item_list xs))) ≡ n =
      ap (λ ns. length (filter (kind v) ns))
      (ap (take a.0) i.is ∙ ap (λ j. take j (i.before ++ (a.1 ∷ i.after))) (sym i.place) ∙ take-front i.before (a.1 ∷ i.after)) in
      let r : Path = to_element p n in
      let q : Path = meant_from r path a.1 in
      let above : is_front r q ≡ true = meant-front r path a.1 in
      let wa : IsWellMade a.1 = item-made i.before a.1 i.after (subst ItemsAreWellMade is w) in
      subst (λ z. OutOf (meant_from (to_element p z) path a.1) (fact p an_array ∷ items_in v xs p 0)) (sym number) (
        apart-above p q (at_element n) above,
        subst (OutOf q) (sym (ap (λ z. items_in v z p 0) is ∙ items-around v i.before a.1 i.after p m.kind))
            (both-out q (items_in v (items_from i.before) p 0) (facts_in v a.1 r ++ items_in v (items_from i.after) p (suc n))
            (earlier-out v p q n above i.before 0 (omega arith))
            (both-out q (facts_in v a.1 r) (items_in v (items_from i.after) p (suc n)) (ih true v a.1 r wa h)
            (later-out v p q n above i.after (suc n) (omega arith)))),
      )

  node-out : (k : Text) (s v : Bool) (n : Node) (p : Path) → IsWellMade n → and_then (item_below path) (child k n) ≡ None
      → OutOf (meant_from p (k ∷ path) n) (seen s v n p)
  node-out k s v (table f ss) p w h =
      shown-out (meant_from p (k ∷ path) (table f ss)) p (shown_in s v (table f ss)) (facts_in v (table f ss) p) (fact p a_table ∷ slots_in v ss p)
      (table-facts v f ss p) (holder-out v k ss p w h)
  node-out k s v (inline f ss) p w h =
      shown-out (meant_from p (k ∷ path) (inline f ss)) p (shown_in s v (inline f ss)) (facts_in v (inline f ss) p)
      (fact p a_table ∷ slots_in true ss p) (inline-facts v f ss p) (holder-out true k ss p w h)
  node-out k s v (list f xs) p w h =
      shown-out (meant_from p (k ∷ path) (list f xs)) p (shown_in s v (list f xs)) (facts_in v (list f xs) p)
      (fact p an_array ∷ items_in true xs p 0) (list-facts v f xs p)
      (items-out true k xs p w (element_of is_value_node k (item_list xs)) refl h)
  node-out k s true (tables e xs) p w h =
      shown-out (meant_from p (k ∷ path) (tables e xs)) p (shown_in s true (tables e xs)) [] [] refl tt
  node-out k s false (tables e xs) p w h =
      shown-out (meant_from p (k ∷ path) (tables e xs)) p (shown_in s false (tables e xs)) (facts_in false (tables e xs) p)
      (fact p an_array ∷ items_in false xs p 0) refl
      (items-out false k xs p w (element_of is_table_node k (item_list xs)) refl h)
  node-out k s v (leaf x r d) p w h =
      let q : Path = meant_from (to_key p k) path nothing in
      shown-out q p (shown_in s v (leaf x r d)) (facts_in v (leaf x r d) p) (fact p (a_scalar x) ∷ []) (leaf-facts v)
      (apart-above p q (at_key k) (meant-front (to_key p k) path nothing), tt)
    where
      leaf-facts : (v : Bool) → facts_in v (leaf x r d) p ≡ fact p (a_scalar x) ∷ []
      leaf-facts true = refl
      leaf-facts false = refl
  node-out k s v nothing p w h =
      shown-out (meant_from (to_key p k) path nothing) p (shown_in s v nothing) (facts_in v nothing p) [] (no-facts v) tt
    where
      no-facts : (v : Bool) → facts_in v nothing p ≡ []
      no-facts true = refl
      no-facts false = refl

-- ---- a path

path-out : (path : List Text) (s v : Bool) (n : Node) (p : Path) → IsWellMade n → item_below path n ≡ None
    → OutOf (meant_from p path n) (seen s v n p)
path-out [] s v n p w h = absurd cc
path-out (k ∷ path) s v n p w h = node-out path (λ s v n p w h. path-out path s v n p w h) k s v n p w h

pub absent_means : AbsentMeans
unfolding shown_meaning
absent_means t path w h =
    let p : Path = meant_from [] path (root_item t) in
    out-stays (outside_with p []) (shown_meaning t) (path-out path true false (root_item t) [] w h)
