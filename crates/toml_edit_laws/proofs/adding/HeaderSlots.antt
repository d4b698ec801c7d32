-- The slots of a table and the elements of an array of tables, as headers change them.
use Rattle.std.proofs.Common.{◌≡◌, ◌<◌, refl, sym, ap, subst, ℕ, suc, ◌+◌, arith, Bool, true, false, List, [], ◌∷◌, ◌++◌, length, Option}
use Rattle.std.proofs.Common.{Some, None}
use Rattle.std.specs.Prelude.{not, if◌then◌else◌, fold}
use Rattle.toml_edit_model.specs.Mode.{Mode}
use Rattle.toml_edit_model.specs.Text.{Text, same_text}
use Rattle.toml_edit_model.specs.Paths.{at_key, at_element, Mention, Source}
use Rattle.toml_edit_model.specs.Tree.{Extent, Node, nothing, leaf, list, inline, table, tables, Items, no_items, item, Slots, no_slots}
use Rattle.toml_edit_model.specs.TreeOf.{spanned_in, brackets_from, brackets_to, tables_extent, IsNodeOf, AreElementsOf, AreSlotsOf}
use Rattle.toml_edit_laws.specs.InlineTree.{node_at, with_node}
use Rattle.toml_edit_laws.specs.TableTree.{without_slot, with_item, change_last, reaching, headed_table}
use Rattle.toml_edit_laws.proofs.common.Tests.{same_text-is}
use Rattle.toml_edit_laws.proofs.mentions.GatherLaws.{first_of_key, first_of_key-is, AreDistinct}
use Rattle.toml_edit_laws.proofs.adding.TableSlots.{without_key, IsFound as IsFoundBySlot, slots-find as key-find}
use Rattle.toml_edit_laws.proofs.adding.TableSlots.{slots-change as key-change, slots-without as key-without}
use Rattle.toml_edit_laws.proofs.common.OptionSteps.{map_some}
use Rattle.toml_edit_laws.proofs.adding.HeaderKept.{others, others-none}
use Rattle.toml_edit_model.specs.TableMentions.{under, kept}

-- the slot of a key taken out
others-without : (k : Text) (ks : List (Mention Source)) → AreDistinct ks → without_key k ks ≡ others k ks
others-without k [] d = refl
others-without k (j ∷ ks) d = by_test (same_text k j.segment.key) refl (others-without k ks d.1)
  where
    by_test : (b : Bool) → same_text k j.segment.key ≡ b → without_key k ks ≡ others k ks → (if b then ks else j ∷ without_key k ks)
        ≡ (if not b then j ∷ others k ks else others k ks)
    by_test true g ih = sym (others-none k ks (subst (λ x. first_of_key x ks ≡ None) (sym (same_text-is k j.segment.key g)) d.0))
    by_test false g ih = ap (λ us. j ∷ us) ih

module _ (mode : Mode) where
  -- ---- slot by slot

  -- these slots, and these elements, with spans
  abbrev pub AreSlots : List (Mention Source) → List (Mention Source) → Slots → Type 0
  AreSlots ms ks ss = AreSlotsOf (spanned_in mode) ms ks ss

  -- the slots of all that the table sees
  abbrev pub AreAllSlots : List (Mention Source) → Slots → Type 0
  AreAllSlots ms ss = AreSlotsOf (spanned_in mode) ms (kept ms) ss

  abbrev pub IsNode : List (Mention Source) → Mention Source → Node → Type 0
  IsNode ns m n = IsNodeOf (spanned_in mode) ns m n

  -- the item of a key is that of its kept mention
  abbrev pub IsFound : List (Mention Source) → Text → Option (Mention Source) → Option Node → Type 0
  IsFound ms k None None = Unit {0}
  IsFound ms k (Some m) (Some n) = IsNode (under (at_key k) ms) m n
  IsFound ms k _ _ = ⊥

  pub slots-find : (ms ks : List (Mention Source)) (k : Text) (ss : Slots) → AreSlots ms ks ss
      → IsFound ms k (first_of_key k ks) (node_at k ss)
  slots-find ms ks k ss h = by_first (first_of_key k ks) refl (node_at k ss) (key-find (spanned_in mode) ms ks k ss h)
    where
      by_first : (o : Option (Mention Source)) → first_of_key k ks ≡ o → (n : Option Node) → IsFoundBySlot (spanned_in mode) ms o n
          → IsFound ms k o n
      by_first None e None g = tt
      by_first None e (Some n) g = absurd g
      by_first (Some m) e None g = absurd g
      by_first (Some m) e (Some n) g = subst (λ l. IsNode (under (at_key l) ms) m n) (sym (first_of_key-is k ks m e)) g

  -- another item at a key that is there
  pub slots-change : (ms all ks : List (Mention Source)) (k : Text) (m : Mention Source) (n : Node) (ss : Slots)
      → ((l : Text) → same_text k l ≡ false → under (at_key l) ms ≡ under (at_key l) all)
      → AreDistinct ks → first_of_key k ks ≡ Some m → IsNode (under (at_key k) all) m n → AreSlots ms ks ss
      → AreSlots all ks (with_node k n ss)
  slots-change ms all ks k m n ss e d f i h =
      key-change (spanned_in mode) ms all ks k m n ss e d f (subst (λ l. IsNode (under (at_key l) all) m n) (first_of_key-is k ks m f) i) h

  pub slots-without : (ms all ks : List (Mention Source)) (k : Text) (ss : Slots)
      → ((l : Text) → same_text k l ≡ false → under (at_key l) ms ≡ under (at_key l) all)
      → AreDistinct ks → AreSlots ms ks ss → AreSlots all (others k ks) (without_slot k ss)
  slots-without ms all ks k ss e d h =
      subst (λ us. AreSlots all us (without_slot k ss)) (others-without k ks d) (key-without (spanned_in mode) ms all ks k ss e d h)

  -- ---- element by element

  abbrev pub AreElements : List (Mention Source) → ℕ → List (Mention Source) → Items → Type 0
  AreElements ns i hs xs = AreElementsOf (spanned_in mode) ns i hs xs

  -- A change of the last element's slots.
  pub elements-last : (us all : List (Mention Source)) (n : ℕ) (change : Slots
      → Option Slots) (i : ℕ) (hs : List (Mention Source)) (xs changed : Items)
      → ((j : ℕ) → j < n → under (at_element j) us ≡ under (at_element j) all)
      → ((inner next : Slots) → AreAllSlots (under (at_element n) us) inner → change inner ≡ Some next
      → AreAllSlots (under (at_element n) all) next)
      → i + length hs ≡ suc n → AreElements us i hs xs → change_last change xs ≡ Some changed → AreElements all i hs changed
  elements-last us all n change i [] no_items changed same on count h e = absurd cc
  elements-last us all n change i [] (item x xs) changed same on count h e = absurd h
  elements-last us all n change i (a ∷ more) no_items changed same on count h e = absurd h
  elements-last us all n change i (a ∷ more) (item nothing xs) changed same on count h e = absurd h
  elements-last us all n change i (a ∷ more) (item (leaf s r d) xs) changed same on count h e = absurd h
  elements-last us all n change i (a ∷ more) (item (list f ys) xs) changed same on count h e = absurd h
  elements-last us all n change i (a ∷ more) (item (inline f ss) xs) changed same on count h e = absurd h
  elements-last us all n change i (a ∷ more) (item (tables x ys) xs) changed same on count h e = absurd h
  elements-last us all n change i (a ∷ []) (item (table f inner) no_items) changed same on count h e =
      let here : n ≡ i = omega arith in
      let (next, added, made) = map_some (change inner) (λ (ss : Slots). item (table f ss) no_items) changed e in
      subst (AreElements all i (a ∷ [])) made (
        h.0,
        subst (λ j. AreAllSlots (under (at_element j) all) next) here
            (on inner next (subst (λ j. AreAllSlots (under (at_element j) us) inner) (sym here) h.1) added),
        tt,
      )
  elements-last us all n change i (a ∷ []) (item (table f inner) (item y ys)) changed same on count h e = absurd h.2
  elements-last us all n change i (a ∷ b ∷ more) (item (table f inner) no_items) changed same on count h e = absurd h.2
  elements-last us all n change i (a ∷ b ∷ more) (item (table f inner) (item y ys)) changed same on count h e =
      let below : i < n = omega arith in
      let rest : suc i + length (b ∷ more) ≡ suc n = omega arith in
      let (next, added, made) = map_some (change_last change (item y ys)) (item (table f inner)) changed e in
      subst (AreElements all i (a ∷ b ∷ more)) made (
        h.0,
        subst (λ xs. AreAllSlots xs inner) (same i below) h.1,
        elements-last us all n change (suc i) (b ∷ more) (item y ys) next same on rest h.2 added,
      )

  -- One element more, below which nothing is mentioned.
  pub elements-add : (us all : List (Mention Source)) (n i : ℕ) (hs : List (Mention Source)) (a : Mention Source) (xs : Items)
      → ((j : ℕ) → under (at_element j) us ≡ under (at_element j) all) → under (at_element n) all ≡ [] → i + length hs ≡ n
      → AreElements us i hs xs
      → AreElements all i (hs ++ (a ∷ [])) (with_item xs (headed_table mode a no_slots))
  elements-add us all n i [] a no_items same none count h =
      let here : n ≡ i = omega arith in
      (refl, subst (λ j. AreAllSlots (under (at_element j) all) no_slots) here (subst (λ xs. AreAllSlots xs no_slots) (sym none) tt), tt)
  elements-add us all n i [] a (item x xs) same none count h = absurd h
  elements-add us all n i (b ∷ more) a no_items same none count h = absurd h
  elements-add us all n i (b ∷ more) a (item nothing xs) same none count h = absurd h
  elements-add us all n i (b ∷ more) a (item (leaf s r d) xs) same none count h = absurd h
  elements-add us all n i (b ∷ more) a (item (list f ys) xs) same none count h = absurd h
  elements-add us all n i (b ∷ more) a (item (inline f ss) xs) same none count h = absurd h
  elements-add us all n i (b ∷ more) a (item (tables x ys) xs) same none count h = absurd h
  elements-add us all n i (b ∷ more) a (item (table f ss) xs) same none count h =
      let rest : suc i + length more ≡ n = omega arith in
      (h.0, subst (λ ys. AreAllSlots ys ss) (same i) h.1, elements-add us all n (suc i) more a xs same none rest h.2)

  -- the extent of an array of tables reaches to its last header
  reaches : (to : ℕ) (hs : List (Mention Source)) (b : Mention Source)
      → fold (λ last (k : Mention Source). brackets_to (spanned_in mode) k.source k.source.statement) to (hs ++ (b ∷ []))
      ≡ brackets_to (spanned_in mode) b.source b.source.statement
  reaches to [] b = refl
  reaches to (a ∷ hs) b = reaches (brackets_to (spanned_in mode) a.source a.source.statement) hs b

  pub extent-more : (a : Mention Source) (hs : List (Mention Source)) (b : Mention Source)
      → reaching (tables_extent (spanned_in mode) (a ∷ hs)) (brackets_to (spanned_in mode) b.source b.source.statement)
      ≡ tables_extent (spanned_in mode) ((a ∷ hs) ++ (b ∷ []))
  extent-more a hs b = ap extent_to (sym (reaches (brackets_to (spanned_in mode) a.source a.source.statement) hs b))
    where
      extent_to : ℕ → Extent
      extent_to to = Some (brackets_from (spanned_in mode) a.source a.source.statement, to)
