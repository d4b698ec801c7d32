-- By a lawful order there is one sort: a list that is stable and in order is the only one.
use Rattle.std.proofs.Common.{◌≡◌, suc, ◌+◌, Bool, true, false, cond, List, [], ◌∷◌, filter, map, IsSortedBy, refl, sym, ap, ◌∙◌, inl, inr}
use Rattle.std.proofs.Common.{arith}
use Rattle.std.proofs.lemmas.Bool.{cases_Bool, false≢true}
use Rattle.std.specs.Cmp.{IsStrictWeakOrder}
use Rattle.std.specs.List.{AllByRecursion}
use Rattle.std.specs.List.Sorted.{ties}
use Rattle.toml_edit_model.specs.Tree.{InlineFields, TableFields, Node, nothing, leaf, list, inline, table, tables, Slots, no_slots, slot}
use Rattle.toml_edit_model.specs.Slots.{Slot}
use Rattle.toml_edit_model.specs.Lists.{slot_list, slots_from}
use Rattle.toml_edit_model.specs.Sorting.{IsSortOf, name_lt, ReordersItem, ReordersItems, IsDeepSort, sorted_item, sorted_slots}
use Rattle.toml_edit_laws.proofs.slots.Lists.{slot_list-from, slots_from-list}
use Rattle.toml_edit_laws.proofs.slots.Sorts.{name_lt-lawful, Rises, tail_rises, both_false, sorted-sorts, settled, in_order}
use Rattle.toml_edit_laws.proofs.slots.Sorts.{sorted_slots-map}

module _ {X : Type 0} (lt : X → X → Bool) (o : IsStrictWeakOrder lt) where
  sorted-rises' : (xs : List X) → IsSortedBy lt xs → Rises lt xs
  sorted-rises' [] s = tt
  sorted-rises' (x ∷ []) s = tt
  sorted-rises' (x ∷ y ∷ ys) s = (
    s 0 x (omega arith) (omega arith),
    sorted-rises' (y ∷ ys) (λ k d low high. let e : suc k + 1 ≡ suc (k + 1) = omega arith in
        rw e at (s (suc k) d (omega arith) (omega arith))),
  )

  -- nothing is less than itself, nor than the first of a list in order
  itself : (x : X) → lt x x ≡ false
  itself x = go (lt x x) refl
    where
      go : (b : Bool) → b ≡ lt x x → lt x x ≡ false
      go true e = o.one_way x x (sym e)
      go false e = sym e

  tie_itself : (x : X) → ties lt x x ≡ true
  tie_itself x = rw (itself x) refl

  no_less : (x : X) (ys : List X) → Rises lt (x ∷ ys) → AllByRecursion (λ y. lt y x ≡ false) ys
  no_less x [] r = tt
  no_less x (y ∷ ys) r = (r.0, from (y ∷ ys) r.0 ys (no_less y ys r.1))
    where
      from : List X → lt y x ≡ false → (zs : List X) → AllByRecursion (λ z. lt z y ≡ false) zs → AllByRecursion (λ z. lt z x ≡ false) zs
      from l e [] a = tt
      from l e (z ∷ zs) a = (o.chain z y x a.0 e, from l e zs a.1)

  abbrev is_some_list : List X → Bool
  is_some_list [] = false
  is_some_list (z ∷ zs) = true

  -- where a filter keeps something, an element passes, and has what all have
  found : (p : X → Bool) (P : X → Type 0) (xs : List X) → is_some_list (filter p xs) ≡ true → AllByRecursion P xs → (x : X) × (p x ≡ true)
      × P x
  found p P [] e a = absurd (false≢true e)
  found p P (x ∷ xs) e a =
      elim (cases_Bool (p x)) [
        | inl holds ↦ (x, holds, a.0)
        | inr fails ↦ found p P xs (rw fails at e) a.1
      ]

  -- the first of one list is no greater than that of another with the same ties
  first_fits : (y : X) (ys : List X) (z : X) (zs : List X) → Rises lt (z ∷ zs) → filter (ties lt y) (y ∷ ys) ≡ filter (ties lt y) (z ∷ zs)
      → lt y z ≡ false
  first_fits y ys z zs s e =
      let kept : is_some_list (filter (ties lt y) (y ∷ ys)) ≡ true = rw (tie_itself y) refl in
      let (w, tied_w, below_w) =
      found (ties lt y) (λ w. lt w z ≡ false) (z ∷ zs) (sym (ap is_some_list e) ∙ kept) (itself z, no_less z zs s) in
      o.chain y w z (both_false lt o (lt y w) (lt w y) tied_w).0 below_w

  abbrev first_or : X → List X → X
  first_or d [] = d
  first_or d (x ∷ xs) = x

  abbrev rest_of : List X → List X
  rest_of [] = []
  rest_of (x ∷ xs) = xs

  tails : (b : Bool) (y z : X) (l m : List X) → cond b (y ∷ l) l ≡ cond b (z ∷ m) m → l ≡ m
  tails true y z l m e = ap rest_of e
  tails false y z l m e = e

  same_sorted : (ys zs : List X) → Rises lt ys → Rises lt zs → ((w : X) → filter (ties lt w) ys ≡ filter (ties lt w) zs) → ys ≡ zs
  same_sorted [] [] r s f = refl
  same_sorted [] (z ∷ zs) r s f = absurd (false≢true (ap is_some_list (rw (tie_itself z) at (f z))))
  same_sorted (y ∷ ys) [] r s f = absurd (false≢true (sym (ap is_some_list (rw (tie_itself y) at (f y)))))
  same_sorted (y ∷ ys) (z ∷ zs) r s f =
      let yz = first_fits y ys z zs s (f y) in
      let zy = first_fits z zs y ys r (sym (f z)) in
      let tied : ties lt y z ≡ true = rw (yz, zy) refl in
      let same : y ≡ z = ap (first_or y) (rw (tie_itself y, tied) at (f y)) in
      let rest = same_sorted ys zs (tail_rises lt o y ys r) (tail_rises lt o z zs s)
      (λ w. tails (ties lt w y) y z (filter (ties lt w) ys) (filter (ties lt w) zs)
      (f w ∙ ap (λ x. cond (ties lt w x) (z ∷ filter (ties lt w) zs) (filter (ties lt w) zs)) (sym same))) in
      λ i. same i ∷ rest i

  pub one_sort : (xs ys zs : List X) → IsSortOf lt xs ys → IsSortOf lt xs zs → ys ≡ zs
  one_sort xs ys zs s t =
      same_sorted ys zs (sorted-rises' ys (s.sorted o)) (sorted-rises' zs (t.sorted o)) (λ w. s.stable o w ∙ sym (t.stable o w))

-- ---- the sort by key text is the function

module _ (enters : Node → Bool) where
  -- the two branches of a sorted table and inline table
  entered_table : (f : TableFields) (old : Slots) → enters (table f old) ≡ true → sorted_item enters (table f old)
      ≡ table f (slots_from (sorted_slots enters old))
  entered_table f old e = rw e refl

  passed_table : (f : TableFields) (old : Slots) → enters (table f old) ≡ false → sorted_item enters (table f old) ≡ table f old
  passed_table f old e = rw e refl

  entered_inline : (f : InlineFields) (old : Slots) → enters (inline f old) ≡ true → sorted_item enters (inline f old)
      ≡ inline f (slots_from (sorted_slots enters old))
  entered_inline f old e = rw e refl

  passed_inline : (f : InlineFields) (old : Slots) → enters (inline f old) ≡ false → sorted_item enters (inline f old) ≡ inline f old
  passed_inline f old e = rw e refl

  -- slots whose list is that of the settled ones
  slots_are : (old ss : Slots) (mid : List (Slot Node)) → IsSortOf name_lt (slot_list old) mid → slot_list ss ≡ map (settled enters) mid
      → ss ≡ slots_from (sorted_slots enters old)
  slots_are old ss mid s e =
      sym (slots_from-list ss)
      ∙ ap slots_from (e ∙ ap (map (settled enters)) (one_sort name_lt name_lt-lawful (slot_list old) mid (in_order enters (slot_list old))
      s (sorted-sorts name_lt (slot_list old)))
      ∙ sym (sorted_slots-map enters old))

  mutual
    item_is : (before n : Node) → ReordersItem enters (IsSortOf name_lt) before n → n ≡ sorted_item enters before
    item_is before (table f ss) r =
        elim (cases_Bool (enters before)) [
          | inl yes_in ↦
              let (old, mid, is, s, items) = rw yes_in at r in
              ap (table f) (slots_are old ss mid s (items_are mid ss items)) ∙ sym (entered_table f old (ap enters (sym is) ∙ yes_in))
              ∙ ap (sorted_item enters) (sym is)
          | inr not_in ↦
              let is = rw not_in at r in sym (passed_table f ss (ap enters (sym is) ∙ not_in)) ∙ ap (sorted_item enters) (sym is)
        ]
    item_is before (inline f ss) r =
        elim (cases_Bool (enters before)) [
          | inl yes_in ↦
              let (old, mid, is, s, items) = rw yes_in at r in
              ap (inline f) (slots_are old ss mid s (items_are mid ss items)) ∙ sym (entered_inline f old (ap enters (sym is) ∙ yes_in))
              ∙ ap (sorted_item enters) (sym is)
          | inr not_in ↦
              let is = rw not_in at r in sym (passed_inline f ss (ap enters (sym is) ∙ not_in)) ∙ ap (sorted_item enters) (sym is)
        ]
    item_is before (leaf s spelling d) r = ap (sorted_item enters) (sym r)
    item_is before (list f xs) r = ap (sorted_item enters) (sym r)
    item_is before (tables e xs) r = ap (sorted_item enters) (sym r)
    item_is before nothing r = ap (sorted_item enters) (sym r)

    items_are : (mid : List (Slot Node)) (ss : Slots) → ReordersItems enters (IsSortOf name_lt) mid ss → slot_list ss
        ≡ map (settled enters) mid
    items_are mid no_slots r = ap (map (settled enters)) (sym r)
    items_are mid (slot k n ss) r =
        (λ i. record { key = sym r.3 i; item = item_is r.0.item n r.4 i } ∷ items_are r.1 ss r.5 i) ∙ ap (map (settled enters)) (sym r.2)

  -- what a sort by key text leaves is what the function gives
  pub sorted_slots-only : (before after : List (Slot Node)) → IsDeepSort enters name_lt before after → after
      ≡ sorted_slots enters (slots_from before)
  sorted_slots-only before after r =
      sym (slot_list-from after)
      ∙ items_are r.0 (slots_from after) r.2
      ∙ ap (map (settled enters)) (one_sort name_lt name_lt-lawful before r.0 (in_order enters before) r.1 (sorted-sorts name_lt before))
      ∙ ap (λ l. map (settled enters) (in_order enters l)) (sym (slot_list-from before))
      ∙ sym (sorted_slots-map enters (slots_from before))
