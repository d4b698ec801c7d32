-- A tree fits just where its parts fit and one walk finds its headers in order.
use Rattle.std.proofs.Common.{◌≡◌, refl, sym, ◌∙◌, ap, ℤ, pos, Bool, true, false, List, [], ◌∷◌, None, inl, inr}
use Rattle.std.specs.Prelude.{◌&&◌, ◌↔◌, not, int_le, filter, map, is_some, if◌then◌else◌, unwrap_or}
use Rattle.std.specs.List.{AllByRecursion, list_all}
use Rattle.std.proofs.lemmas.Bool.{cases_Bool}
use Rattle.toml_edit_model.specs.Mode.{Mode}
use Rattle.toml_edit_model.specs.Tree.{Tree}
use Rattle.toml_edit_model.specs.Order.{insert_by, sorted_by}
use Rattle.toml_edit_model.specs.HeaderOrder.{Visit, PlacedVisit, visit_of, slots_walk, walk, places_from, comes_before}
use Rattle.toml_edit_model.specs.HeaderOrder.{in_header_order}
use Rattle.toml_edit_model.specs.Print.{has_header}
use Rattle.toml_edit_model.specs.Fits.{FitsIn, is_too_late, none_too_late, headed, elements_are_ordered}
use Rattle.toml_edit_laws.specs.PrintByVisits.{root_place}
use Rattle.toml_edit_laws.proofs.common.Each.{all-map, all-insert}
use Rattle.toml_edit_laws.proofs.common.Tests.{and_both, true-false, false-by}
use Rattle.toml_edit_laws.proofs.common.Pairs.{AllPairs, pairs-filter, pairs-image, pairs-of}
use Rattle.toml_edit_laws.proofs.common.OrderLaws.{all-sorted}
use Rattle.toml_edit_laws.proofs.common.Sorting.{filter-sorted, all-inserted}
use Rattle.toml_edit_laws.proofs.common.Lists.{filter-image}
use Rattle.toml_edit_laws.proofs.common.Visits.{IsBelowRoot, slots-below, places-all, before-total, before-trans}
use Rattle.toml_edit_laws.proofs.accepted_prints.HeaderNumbers.{not-late, pairs-unimage, pairs-places}
use Rattle.toml_edit_laws.proofs.print_by_visits.PrintParts.{has-header}
use Rattle.toml_edit_laws.proofs.print_by_visits.WalkOnce.{shows_header}
use Rattle.toml_edit_fits.specs.FitTests.{parts_fit}
use Rattle.toml_edit_fits.specs.OrderTests.{SlotsAreApart, reaches, order_slots, root_marks}
use Rattle.toml_edit_fits.proofs.TableLaws.{all-unsorted, parts-decide}
use Rattle.toml_edit_fits.proofs.LatePaths.{Calm, slots-are-calm}
use Rattle.toml_edit_fits.proofs.OrderLaws.{Fine, heads, heads-all, slots-ordered}

-- ---- pairs of a sorted list

-- what holds of two elements in the order in which they come
abbrev pub Turned : {A : Type 0} → (A → A → Bool) → (A → A → Type 0) → A → A → Type 0
Turned le Q x y = (le x y ≡ true → Q x y) × (le x y ≡ false → Q y x)

module _ {A : Type 0} (le : A → A → Bool)
    (le-trans : (a b c : A) → le a b ≡ true → le b c ≡ true → le a c ≡ true)
    (le-total : (a b : A) → le a b ≡ false → le b a ≡ true) (Q : A → A → Type 0) where
  insert-up : (a : A) (xs : List A) → AllPairs (λ a b. le a b ≡ true) xs → AllPairs (λ a b. le a b ≡ true) (insert_by le a xs)
  insert-up a [] h = (tt, tt)
  insert-up a (b ∷ xs) h =
      elim (cases_Bool (le a b)) [
        | inl e ↦ rw e ((e, all-map (λ x. le b x ≡ true) (λ x. le a x ≡ true) xs (λ x g. le-trans a b x e g) h.0), h)
        | inr e ↦ rw e (all-insert (λ x. le b x ≡ true) le a xs (le-total a b e) h.0, insert-up a xs h.1)
      ]

  sorted-up : (xs : List A) → AllPairs (λ a b. le a b ≡ true) (sorted_by le xs)
  sorted-up [] = tt
  sorted-up (a ∷ xs) = insert-up a (sorted_by le xs) (sorted-up xs)

  turned-first : (a : A) (xs : List A) → AllByRecursion (λ x. le a x ≡ true) xs → AllByRecursion (Q a) xs
      → AllByRecursion (Turned le Q a) xs
  turned-first a [] h g = tt
  turned-first a (x ∷ xs) h g = (((λ e. g.0), (λ e. true-false (le a x) h.0 e)), turned-first a xs h.1 g.1)

  first-turned : (a : A) (xs : List A) → AllByRecursion (λ x. le a x ≡ true) xs → AllByRecursion (Turned le Q a) xs
      → AllByRecursion (Q a) xs
  first-turned a [] h g = tt
  first-turned a (x ∷ xs) h g = (g.0.0 h.0, first-turned a xs h.1 g.1)

  insert-pairs : (a : A) (xs : List A) → AllPairs (λ a b. le a b ≡ true) xs → AllPairs Q (insert_by le a xs)
      ↔ (AllByRecursion (Turned le Q a) xs × AllPairs Q xs)
  insert-pairs a [] h = (λ g. (tt, tt), λ g. (tt, tt))
  insert-pairs a (b ∷ xs) h = by_test (le a b) refl (insert-pairs a xs h.1)
    where
      by_test : (c : Bool) → le a b ≡ c → AllPairs Q (insert_by le a xs) ↔ (AllByRecursion (Turned le Q a) xs × AllPairs Q xs)
          → AllPairs Q (if c then a ∷ b ∷ xs else b ∷ insert_by le a xs) ↔ (AllByRecursion (Turned le Q a) (b ∷ xs) × AllPairs Q (b ∷ xs))
      by_test true e more =
          let all : AllByRecursion (λ x. le a x ≡ true) (b ∷ xs) =
          (e, all-map (λ x. le b x ≡ true) (λ x. le a x ≡ true) xs (λ x g. le-trans a b x e g) h.0) in
          (λ g. (turned-first a (b ∷ xs) all g.0, g.1), λ g. (first-turned a (b ∷ xs) all g.0, g.1))
      by_test false e more = (
        λ g. let parts = all-inserted (Q b) le a xs g.0 in
            let rest = more.0 g.1 in
            ((((λ f. true-false (le a b) f e), (λ f. parts.0)), rest.0), (parts.1, rest.1)),
        λ g. (all-insert (Q b) le a xs (g.0.0.1 e) g.1.0, more.1 (g.0.1, g.1.1)),
      )

  pub sorted-pairs : (xs : List A) → AllPairs Q (sorted_by le xs) ↔ AllPairs (Turned le Q) xs
  sorted-pairs [] = (λ g. tt, λ g. tt)
  sorted-pairs (a ∷ xs) =
      let here = insert-pairs a (sorted_by le xs) (sorted-up xs) in
      let more = sorted-pairs xs in (
        λ g. let parts = here.0 g in (all-unsorted (Turned le Q a) le xs parts.0, more.0 parts.1),
        λ g. here.1 (all-sorted (Turned le Q a) le xs g.0, more.1 g.1),
      )

-- ---- the headers in order

list-of : {A : Type 0} (test : A → Bool) (xs : List A) → AllByRecursion (λ x. test x ≡ true) xs → list_all test xs ≡ true
list-of test [] h = refl
list-of test (x ∷ xs) h = and_both (test x) (list_all test xs) h.0 (list-of test xs h.1)

all-calm : (vs : List Visit) → AllPairs Calm vs → none_too_late vs ≡ true
all-calm [] h = refl
all-calm (g ∷ rest) h =
    and_both (list_all (λ x. not (is_too_late g x)) rest) (none_too_late rest)
    (list-of (λ x. not (is_too_late g x)) rest (all-map (Calm g) (λ x. not (is_too_late g x) ≡ true) rest (λ x e. ap not e) h.0))
    (all-calm rest h.1)

abbrev CalmAt : PlacedVisit → PlacedVisit → Type 0
CalmAt x y = Calm x.1 y.1

filter-alike : {A : Type 0} (P : A → Type 0) (first second : A → Bool) → ((x : A) → P x → first x ≡ second x) → (xs : List A)
    → AllByRecursion P xs → filter first xs ≡ filter second xs
filter-alike P first second same [] h = refl
filter-alike P first second same (x ∷ xs) h =
    rw (same x h.0) (ap (λ ys. if second x then x ∷ ys else ys) (filter-alike P first second same xs h.1))

module _ (mode : Mode) (t : Tree) where
  abbrev has_own : PlacedVisit → Bool
  has_own v = has_header mode v.1

  -- those below the root, where these places are seen
  own-heads : (seen : ℤ) → filter has_own (places_from seen (slots_walk t.slots [] [])) ≡ heads seen (slots_walk t.slots [] [])
  own-heads seen =
      filter-alike (λ (v : PlacedVisit). IsBelowRoot v.1) has_own shows_header (λ v h. has-header mode v h)
      (places_from seen (slots_walk t.slots [] []))
      (places-all IsBelowRoot seen (slots_walk t.slots [] []) (slots-below t.slots [] []))

  with-headers : filter has_own (places_from (pos 0) (walk t)) ≡ heads (root_place t.root) (slots_walk t.slots [] [])
  with-headers = by_dot t.root.is_dotted
    where
      by_dot : (b : Bool) → filter has_own (if b then places_from (pos 0) (slots_walk t.slots [] [])
          else (unwrap_or t.root.position (pos 0), visit_of [] [] false t.root t.slots)
          ∷ places_from (unwrap_or t.root.position (pos 0)) (slots_walk t.slots [] []))
          ≡ heads (if b then pos 0 else unwrap_or t.root.position (pos 0)) (slots_walk t.slots [] [])
      by_dot true = own-heads (pos 0)
      by_dot false = own-heads (unwrap_or t.root.position (pos 0))

  pub headed-is : headed mode t ≡ map (λ (v : PlacedVisit). v.1)
      (sorted_by comes_before (heads (root_place t.root) (slots_walk t.slots [] [])))
  headed-is =
      filter-image (λ (v : PlacedVisit). v.1) (has_header mode) (in_header_order t)
      ∙ ap (map (λ (v : PlacedVisit). v.1)) (filter-sorted comes_before before-trans before-total has_own (places_from (pos 0) (walk t))
      ∙ ap (sorted_by comes_before) with-headers)

  pub heads-below : AllByRecursion (λ (v : PlacedVisit). IsBelowRoot v.1) (heads (root_place t.root) (slots_walk t.slots [] []))
  heads-below = heads-all IsBelowRoot (root_place t.root) (slots_walk t.slots [] []) (slots-below t.slots [] [])

  pub before-is : (x y : PlacedVisit) → IsBelowRoot x.1 → IsBelowRoot y.1 → comes_before x y ≡ int_le x.0 y.0
  before-is x y h g = rw (h, g) refl

  to-fine : (x y : PlacedVisit) → IsBelowRoot x.1 → IsBelowRoot y.1 → Turned comes_before CalmAt x y → Fine x y
  to-fine x y h g turned late =
      elim (cases_Bool (int_le x.0 y.0)) [
        | inl e ↦ e
        | inr e ↦ true-false (is_too_late y.1 x.1) late (turned.1 (before-is x y h g ∙ e))
      ]

  from-fine : (x y : PlacedVisit) → IsBelowRoot x.1 → IsBelowRoot y.1 → Fine x y → CalmAt x y → Turned comes_before CalmAt x y
  from-fine x y h g fine calm = (
    λ e. calm,
    λ e. false-by (is_too_late y.1 x.1) (λ late. true-false (int_le x.0 y.0) (fine late) (sym (before-is x y h g) ∙ e)),
  )

  -- none is too late just where the walk finds them in order
  ordered-walk : elements_are_ordered mode t ≡ true → AllPairs Fine (heads (root_place t.root) (slots_walk t.slots [] []))
  ordered-walk h =
      let hs = heads (root_place t.root) (slots_walk t.slots [] []) in
      let calm = not-late (map (λ (v : PlacedVisit). v.1) (sorted_by comes_before hs)) (ap none_too_late (sym headed-is) ∙ h) in
      let turned = (sorted-pairs comes_before before-trans before-total CalmAt hs).0
      (pairs-unimage (λ (v : PlacedVisit). v.1) Calm (sorted_by comes_before hs) calm) in
      pairs-of (λ (v : PlacedVisit). IsBelowRoot v.1) (Turned comes_before CalmAt) Fine hs to-fine heads-below turned

  walk-ordered : SlotsAreApart t.slots → AllPairs Fine (heads (root_place t.root) (slots_walk t.slots [] [])) → elements_are_ordered mode t
      ≡ true
  walk-ordered apart h =
      let hs = heads (root_place t.root) (slots_walk t.slots [] []) in
      let calm : AllPairs CalmAt hs = pairs-filter CalmAt shows_header (places_from (root_place t.root) (slots_walk t.slots [] []))
      (pairs-places Calm (root_place t.root) (slots_walk t.slots [] []) (slots-are-calm t.slots [] [] apart)) in
      let turned : AllPairs (Turned comes_before CalmAt) hs =
      pairs-of (λ (v : PlacedVisit). IsBelowRoot v.1) (λ x y. Fine x y
      × CalmAt x y) (Turned comes_before CalmAt) hs (λ x y f g k. from-fine x y f g k.0 k.1) heads-below
      (both-pairs hs h calm) in
      ap none_too_late headed-is
      ∙ all-calm (map (λ (v : PlacedVisit). v.1) (sorted_by comes_before hs))
      (pairs-image (λ (v : PlacedVisit). v.1) Calm (sorted_by comes_before hs)
      ((sorted-pairs comes_before before-trans before-total CalmAt hs).1 turned))
    where
      both-all : (x : PlacedVisit) (ys : List PlacedVisit) → AllByRecursion (Fine x) ys → AllByRecursion (CalmAt x) ys
          → AllByRecursion (λ y. Fine x y × CalmAt x y) ys
      both-all x [] f g = tt
      both-all x (y ∷ ys) f g = ((f.0, g.0), both-all x ys f.1 g.1)

      both-pairs : (xs : List PlacedVisit) → AllPairs Fine xs → AllPairs CalmAt xs → AllPairs (λ x y. Fine x y × CalmAt x y) xs
      both-pairs [] f g = tt
      both-pairs (x ∷ xs) f g = (both-all x xs f.0 g.0, both-pairs xs f.1 g.1)

  any-place : (xs : List PlacedVisit) → AllByRecursion (λ (x : PlacedVisit). reaches None x.0 ≡ true) xs
  any-place [] = tt
  any-place (x ∷ xs) = (refl, any-place xs)

  -- a tree that fits passes both tests
  pub passes : FitsIn mode t → (parts_fit mode t && is_some (order_slots None (root_marks t.root) t.slots)) ≡ true
  passes fits =
      let hs = heads (root_place t.root) (slots_walk t.slots [] []) in
      and_both (parts_fit mode t) (is_some (order_slots None (root_marks t.root) t.slots))
      ((parts-decide mode t).1 (fits.decors, fits.undotted, fits.limits))
      (ap is_some ((slots-ordered t.slots [] [] None (root_marks t.root)).0 (ordered-walk fits.ordered, any-place hs)))

  -- and one that passes them fits
  pub passing : SlotsAreApart t.slots → parts_fit mode t ≡ true → is_some (order_slots None (root_marks t.root) t.slots) ≡ true
      → FitsIn mode t
  passing apart parts order =
      let all = (parts-decide mode t).0 parts in
      let walked = (slots-ordered t.slots [] [] None (root_marks t.root)).1 apart order in
      record { decors = all.0; undotted = all.1; ordered = walk-ordered apart walked.0; limits = all.2 }
