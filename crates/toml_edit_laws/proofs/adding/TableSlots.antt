-- The slots of a table, by the mentions that their keys are kept from, and the elements of an array of tables.
use Rattle.std.proofs.Common.{◌≡◌, ◌≤◌, refl, sym, subst, arith, ℕ, zero, suc, ◌+◌, Bool, true, false, List, [], ◌∷◌, ◌++◌, Option}
use Rattle.std.proofs.Common.{Some, None}
use Rattle.std.specs.Prelude.{if◌then◌else◌}
use Rattle.std.proofs.lemmas.Bool.{eqb-true}
use Rattle.toml_edit_model.specs.Text.{Text, same_text}
use Rattle.toml_edit_model.specs.Paths.{at_key, at_element, same_step, Mention, Source}
use Rattle.toml_edit_model.specs.Tree.{Key, TableFields, Node, table, Items, no_items, item, Slots, no_slots, slot}
use Rattle.toml_edit_model.specs.TreeOf.{Form, key_at, IsNodeOf, AreElementsOf, AreSlotsOf}
use Rattle.toml_edit_laws.specs.FlatTree.{with_slot}
use Rattle.toml_edit_laws.specs.InlineTree.{node_at, with_node}
use Rattle.toml_edit_laws.specs.TableTree.{without_slot, change_item}
use Rattle.toml_edit_laws.proofs.common.Tests.{false-by, same_text-is}
use Rattle.toml_edit_laws.proofs.mentions.GatherLaws.{first_of_key, AreDistinct, first-none}
use Rattle.toml_edit_laws.proofs.common.OptionSteps.{map_some}
use Rattle.toml_edit_model.specs.TableMentions.{under, kept}

-- ---- mentions by their keys

-- the mentions without the first of a key
abbrev pub without_key : {S : Type 0} → Text → List (Mention S) → List (Mention S)
without_key k [] = []
without_key k (m ∷ ms) = if same_text k m.segment.key then ms else m ∷ without_key k ms

pub without-none : {S : Type 0} (k : Text) (ms : List (Mention S)) → AreDistinct ms → first_of_key k (without_key k ms) ≡ None
without-none k [] d = refl
without-none {S} k (m ∷ ms) d = by_test (same_text k m.segment.key) refl (without-none k ms d.1)
  where
    by_test : (b : Bool) → same_text k m.segment.key ≡ b → first_of_key k (without_key k ms) ≡ None
        → first_of_key k (if b then ms else m ∷ without_key k ms) ≡ None
    by_test true e ih = subst (λ x. first_of_key x ms ≡ None) (sym (same_text-is k m.segment.key e)) d.0
    by_test false e ih = rw e ih

module _ (form : Form) where
  -- the item of a kept mention, among these mentions
  abbrev pub IsSlotNode : List (Mention Source) → Mention Source → Node → Type 0
  IsSlotNode ms m n = IsNodeOf form (under (at_key m.segment.key) ms) m n

  -- ---- slot by slot

  -- what is mentioned under one key changes no slot of another
  pub slots-same : (ms others ks : List (Mention Source)) (k : Text) (ss : Slots)
      → ((l : Text) → same_text k l ≡ false → under (at_key l) ms ≡ under (at_key l) others)
      → first_of_key k ks ≡ None → AreSlotsOf form ms ks ss → AreSlotsOf form others ks ss
  slots-same ms others [] k no_slots e f h = tt
  slots-same ms others [] k (slot l n ss) e f h = absurd h
  slots-same ms others (m ∷ ks) k no_slots e f h = absurd h
  slots-same ms others (m ∷ ks) k (slot l n ss) e f h =
      let away = first-none k m ks f in
      (h.0, subst (λ us. IsNodeOf form us m n) (e m.segment.key away.0) h.1, slots-same ms others ks k ss e away.1 h.2)

  pub slots-kept : (ms others ks : List (Mention Source)) (ss : Slots) → ((l : Text) → under (at_key l) ms ≡ under (at_key l) others)
      → AreSlotsOf form ms ks ss → AreSlotsOf form others ks ss
  slots-kept ms others [] no_slots e h = tt
  slots-kept ms others [] (slot l n ss) e h = absurd h
  slots-kept ms others (m ∷ ks) no_slots e h = absurd h
  slots-kept ms others (m ∷ ks) (slot l n ss) e h =
      (h.0, subst (λ us. IsNodeOf form us m n) (e m.segment.key) h.1, slots-kept ms others ks ss e h.2)

  -- one slot more at the end
  pub slots-add : (ms ks : List (Mention Source)) (m : Mention Source) (n : Node) (ss : Slots) → AreSlotsOf form ms ks ss
      → IsSlotNode ms m n
      → AreSlotsOf form ms (ks ++ (m ∷ [])) (with_slot ss (key_at form m) n)
  slots-add ms [] m n no_slots h i = (refl, i, tt)
  slots-add ms [] m n (slot l o ss) h i = absurd h
  slots-add ms (j ∷ ks) m n no_slots h i = absurd h
  slots-add ms (j ∷ ks) m n (slot l o ss) h i = (h.0, h.1, slots-add ms ks m n ss h.2 i)

  -- the item of a key is that of its kept mention
  abbrev pub IsFound : List (Mention Source) → Option (Mention Source) → Option Node → Type 0
  IsFound ms None None = Unit {0}
  IsFound ms (Some m) (Some n) = IsSlotNode ms m n
  IsFound ms _ _ = ⊥

  pub slots-find : (ms ks : List (Mention Source)) (k : Text) (ss : Slots) → AreSlotsOf form ms ks ss
      → IsFound ms (first_of_key k ks) (node_at k ss)
  slots-find ms [] k no_slots h = tt
  slots-find ms [] k (slot l n ss) h = absurd h
  slots-find ms (m ∷ ks) k no_slots h = absurd h
  slots-find ms (m ∷ ks) k (slot l n ss) h =
      subst (λ (j : Key). IsFound ms (first_of_key k (m ∷ ks)) (if same_text k j.name then Some n else node_at k ss)) (sym h.0)
      (by_test (same_text k m.segment.key) (slots-find ms ks k ss h.2))
    where
      by_test : (b : Bool) → IsFound ms (first_of_key k ks) (node_at k ss)
          → IsFound ms (if b then Some m else first_of_key k ks) (if b then Some n else node_at k ss)
      by_test true g = h.1
      by_test false g = g

  -- another item at a key that is there
  pub slots-change : (ms others ks : List (Mention Source)) (k : Text) (m : Mention Source) (n : Node) (ss : Slots)
      → ((l : Text) → same_text k l ≡ false → under (at_key l) ms ≡ under (at_key l) others)
      → AreDistinct ks → first_of_key k ks ≡ Some m → IsSlotNode others m n → AreSlotsOf form ms ks ss
      → AreSlotsOf form others ks (with_node k n ss)
  slots-change ms others [] k m n no_slots e d f i h = absurd cc
  slots-change ms others [] k m n (slot l o ss) e d f i h = absurd h
  slots-change ms others (j ∷ ks) k m n no_slots e d f i h = absurd h
  slots-change ms others (j ∷ ks) k m n (slot l o ss) e d f i h =
      subst (λ (x : Key). AreSlotsOf form others (j ∷ ks) (if same_text k x.name then slot l n ss else slot l o (with_node k n ss)))
      (sym h.0)
      (by_test (same_text k j.segment.key) refl f (λ g. slots-change ms others ks k m n ss e d.1 g i h.2))
    where
      by_test : (b : Bool) → same_text k j.segment.key ≡ b → (if b then Some j else first_of_key k ks) ≡ Some m
          → (first_of_key k ks ≡ Some m → AreSlotsOf form others ks (with_node k n ss))
          → AreSlotsOf form others (j ∷ ks) (if b then slot l n ss else slot l o (with_node k n ss))
      by_test true g f next =
          let here : m ≡ j = cc in (
            h.0,
            subst (λ (x : Mention Source). IsSlotNode others x n) here i,
            slots-same ms others ks k ss e (subst (λ x. first_of_key x ks ≡ None) (sym (same_text-is k j.segment.key g)) d.0) h.2,
          )
      by_test false g f next = (h.0, subst (λ us. IsNodeOf form us j o) (e j.segment.key g) h.1, next f)

  -- the slot of a key taken out
  pub slots-remove : (ms ks : List (Mention Source)) (k : Text) (ss : Slots) → AreSlotsOf form ms ks ss
      → AreSlotsOf form ms (without_key k ks) (without_slot k ss)
  slots-remove ms [] k no_slots h = tt
  slots-remove ms [] k (slot l n ss) h = absurd h
  slots-remove ms (m ∷ ks) k no_slots h = absurd h
  slots-remove ms (m ∷ ks) k (slot l n ss) h =
      subst (λ (x : Key). AreSlotsOf form ms (without_key k (m ∷ ks)) (if same_text k x.name then ss else slot l n (without_slot k ss)))
      (sym h.0)
      (by_test (same_text k m.segment.key) (slots-remove ms ks k ss h.2))
    where
      by_test : (b : Bool) → AreSlotsOf form ms (without_key k ks) (without_slot k ss)
          → AreSlotsOf form ms (if b then ks else m ∷ without_key k ks) (if b then ss else slot l n (without_slot k ss))
      by_test true g = h.2
      by_test false g = (h.0, h.1, g)

  -- the other slots stay those of mentions that differ under that key alone
  pub slots-without : (ms others ks : List (Mention Source)) (k : Text) (ss : Slots)
      → ((l : Text) → same_text k l ≡ false → under (at_key l) ms ≡ under (at_key l) others)
      → AreDistinct ks → AreSlotsOf form ms ks ss → AreSlotsOf form others (without_key k ks) (without_slot k ss)
  slots-without ms others ks k ss e d h =
      slots-same ms others (without_key k ks) k (without_slot k ss) e (without-none k ks d) (slots-remove ms ks k ss h)

  -- ---- element by element

  -- the slots of all mentions of one table
  abbrev pub AreAllSlots : List (Mention Source) → Slots → Type 0
  AreAllSlots ms ss = AreSlotsOf form ms (kept ms) ss

  -- elements from one on, where what is under each of them is the same
  pub elements-same : (ns others : List (Mention Source)) (i : ℕ) (more : List (Mention Source)) (xs : Items)
      → ((l : ℕ) → i ≤ l → under (at_element l) ns ≡ under (at_element l) others)
      → AreElementsOf form ns i more xs → AreElementsOf form others i more xs
  elements-same ns others i [] no_items e h = tt
  elements-same ns others i [] (item n xs) e h = absurd h
  elements-same ns others i (a ∷ more) no_items e h = absurd h
  elements-same ns others i (a ∷ more) (item (table f ss) xs) e h =
      let here : i ≤ i = omega arith in
      let next : (l : ℕ) → suc i ≤ l → under (at_element l) ns ≡ under (at_element l) others = λ l g. e l (omega arith) in
      (h.0, subst (λ us. AreAllSlots us ss) (e i here) h.1, elements-same ns others (suc i) more xs next h.2)
  elements-same ns others i (a ∷ more) (item n xs) e h = absurd h

  -- what is under one element changes no other
  abbrev pub AreSameBut : ℕ → List (Mention Source) → List (Mention Source) → Type 0
  AreSameBut t ns others = (l : ℕ) → same_step (at_element t) (at_element l) ≡ false → under (at_element l) ns ≡ under (at_element l) others

  pub apart-elements : (t l : ℕ) → (t ≡ l → ⊥) → same_step (at_element t) (at_element l) ≡ false
  apart-elements t l h = false-by (same_step (at_element t) (at_element l)) (λ e. h (eqb-true t l e))

  same-after : (t : ℕ) (ns others : List (Mention Source)) → AreSameBut t ns others
      → (l : ℕ) → suc t ≤ l → under (at_element l) ns ≡ under (at_element l) others
  same-after t ns others e l h = e l (apart-elements t l (λ g. absurd (omega arith)))

  same-before : (t i : ℕ) (ns others : List (Mention Source)) → AreSameBut t ns others → suc i ≤ t → under (at_element i) ns
      ≡ under (at_element i) others
  same-before t i ns others e h = e i (apart-elements t i (λ g. absurd (omega arith)))

  -- a change takes each table with the slots of these mentions to one with its fields and the slots of those
  abbrev pub ChangesTable : (Node → Option Node) → List (Mention Source) → List (Mention Source) → Type 0
  ChangesTable change ms others =
      (ss : Slots) → AreAllSlots ms ss → (f : TableFields) (n : Node) → change (table f ss) ≡ Some n
      → (us : Slots) × (n ≡ table f us) × AreAllSlots others us

  -- one element changed
  pub elements-change : (ns others : List (Mention Source)) (i j t : ℕ) (change : Node
      → Option Node) (more : List (Mention Source)) (xs ys : Items)
      → t ≡ i + j → AreSameBut t ns others → ChangesTable change (under (at_element t) ns) (under (at_element t) others)
      → AreElementsOf form ns i more xs → change_item j change xs ≡ Some ys → AreElementsOf form others i more ys
  elements-change ns others i j t change more no_items ys is same goes h e = absurd cc
  elements-change ns others i j t change [] (item n xs) ys is same goes h e = absurd h
  elements-change ns others i zero t change (a ∷ more) (item (table f ss) xs) ys is same goes h e =
      let here : t ≡ i = omega arith in
      let (n, changed, made) = map_some (change (table f ss)) (λ (n : Node). item n xs) ys e in
      let first : AreAllSlots (under (at_element t) ns) ss = subst (λ l. AreAllSlots (under (at_element l) ns) ss) (sym here) h.1 in
      let (us, table_is, slots) = goes ss first f n changed in
      let next : AreElementsOf form others (suc i) more xs =
      elements-same ns others (suc i) more xs (λ l g. same-after t ns others same l (omega arith)) h.2 in
      subst (λ zs. AreElementsOf form others i (a ∷ more) zs) made
      (subst (λ o. AreElementsOf form others i (a ∷ more) (item o xs)) (sym table_is)
      (h.0, subst (λ l. AreAllSlots (under (at_element l) others) us) here slots, next))
  elements-change ns others i zero t change (a ∷ more) (item n xs) ys is same goes h e = absurd h
  elements-change ns others i (suc j) t change (a ∷ more) (item (table f ss) xs) ys is same goes h e =
      let (zs, changed, made) = map_some (change_item j change xs) (item (table f ss)) ys e in
      let before : suc i ≤ t = omega arith in
      let on : t ≡ suc i + j = omega arith in
      subst (λ us. AreElementsOf form others i (a ∷ more) us) made (
        h.0,
        subst (λ us. AreAllSlots us ss) (same-before t i ns others same before) h.1,
        elements-change ns others (suc i) j t change more xs zs on same goes h.2 changed,
      )
  elements-change ns others i (suc j) t change (a ∷ more) (item n xs) ys is same goes h e = absurd h
