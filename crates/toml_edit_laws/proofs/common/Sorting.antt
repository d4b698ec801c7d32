-- Lists put in an order by insertion: what holds of each two elements, what is left out before or after, and one element changed.
use Rattle.std.proofs.Common.{Bool, false, List, true, ◌∷◌, inr, inl, refl, ◌≡◌, sym, ap, ◌∙◌, subst, ◌++◌, []}
use Rattle.std.specs.List.{AllByRecursion}
use Rattle.std.specs.Prelude.{if◌then◌else◌, filter}
use Rattle.std.proofs.lemmas.Bool.{cases_Bool}
use Rattle.toml_edit_laws.proofs.common.Pairs.{AllPairs}
use Rattle.toml_edit_laws.proofs.common.Each.{all-insert, all-filter, all-map}
use Rattle.toml_edit_laws.proofs.common.OrderLaws.{all-sorted}
use Rattle.toml_edit_laws.proofs.common.Tests.{if-true, if-false}
use Rattle.toml_edit_model.specs.Order.{insert_by, sorted_by}

-- what holds of an inserted element and the others
pub all-inserted : {A : Type 0} (P : A → Type 0) (before : A → A → Bool) (a : A) (xs : List A) → AllByRecursion P (insert_by before a xs)
    → P a
    × AllByRecursion P xs
all-inserted P before a [] h = (h.0, tt)
all-inserted {A} P before a (x ∷ xs) h = by_test (before a x) h (all-inserted P before a xs)
  where
    by_test : (b : Bool) → AllByRecursion P (if b then a ∷ x ∷ xs else x ∷ insert_by before a xs)
        → (AllByRecursion P (insert_by before a xs) → P a × AllByRecursion P xs) → P a × AllByRecursion P (x ∷ xs)
    by_test true g ih = (g.0, g.1)
    by_test false g ih = (let more = ih g.1 in (more.0, (g.0, more.1)))

pairs-insert : {A : Type 0} (R : A → A → Type 0) (before : A → A → Bool) → ((a b : A) → R a b → R b a)
    → (a : A) (xs : List A) → AllByRecursion (R a) xs → AllPairs R xs → AllPairs R (insert_by before a xs)
pairs-insert R before swap a [] h g = (tt, tt)
pairs-insert R before swap a (x ∷ xs) h g =
    elim (cases_Bool (before a x)) [
      | inl e ↦ rw e (h, g)
      | inr e ↦ rw e (all-insert (R x) before a xs (swap a x h.0) g.0, pairs-insert R before swap a xs h.1 g.1)
    ]

pub pairs-sorted : {A : Type 0} (R : A → A → Type 0) (before : A → A → Bool) → ((a b : A) → R a b → R b a)
    → (xs : List A) → AllPairs R xs → AllPairs R (sorted_by before xs)
pairs-sorted R before swap [] h = tt
pairs-sorted R before swap (x ∷ xs) h =
    pairs-insert R before swap x (sorted_by before xs) (all-sorted (R x) before xs h.0) (pairs-sorted R before swap xs h.1)

-- what comes before all goes first
pub insert-first : {A : Type 0} (before : A → A → Bool) (a : A) (xs : List A) → AllByRecursion (λ b. before a b ≡ true) xs
    → insert_by before a xs ≡ a ∷ xs
insert-first before a [] h = refl
insert-first before a (b ∷ xs) h = if-true (before a b) (a ∷ b ∷ xs) (b ∷ insert_by before a xs) h.0

module _ {A : Type 0} (le : A → A → Bool)
    (le-trans : (a b c : A) → le a b ≡ true → le b c ≡ true → le a c ≡ true)
    (le-total : (a b : A) → le a b ≡ false → le b a ≡ true) where
  abbrev Ordered : List A → Type 0
  Ordered xs = AllPairs (λ a b. le a b ≡ true) xs

  insert-ordered : (a : A) (xs : List A) → Ordered xs → Ordered (insert_by le a xs)
  insert-ordered a [] h = (tt, tt)
  insert-ordered a (b ∷ xs) h =
      elim (cases_Bool (le a b)) [
        | inl e ↦ rw e ((e, all-map (λ x. le b x ≡ true) (λ x. le a x ≡ true) xs (λ x g. le-trans a b x e g) h.0), h)
        | inr e ↦ rw e (all-insert (λ x. le b x ≡ true) le a xs (le-total a b e) h.0, insert-ordered a xs h.1)
      ]

  sorted-ordered : (xs : List A) → Ordered (sorted_by le xs)
  sorted-ordered [] = tt
  sorted-ordered (a ∷ xs) = insert-ordered a (sorted_by le xs) (sorted-ordered xs)

  filter-insert : (test : A → Bool) (a : A) (xs : List A) → Ordered xs
      → filter test (insert_by le a xs) ≡ (if test a then insert_by le a (filter test xs) else filter test xs)
  filter-insert test a [] h = refl
  filter-insert test a (b ∷ xs) h = by_order (le a b) refl (filter-insert test a xs h.1)
    where
      goes_first : (c : Bool) (ys : List A) → insert_by le a ys ≡ a ∷ ys → (if c then a ∷ ys else ys)
          ≡ (if c then insert_by le a ys else ys)
      goes_first true ys e = sym e
      goes_first false ys e = refl

      goes_later : (c d : Bool) (all rest : List A) → le a b ≡ false → all ≡ (if c then insert_by le a rest else rest)
          → (if d then b ∷ all else all) ≡ (if c then insert_by le a (if d then b ∷ rest else rest) else (if d then b ∷ rest else rest))
      goes_later true true all rest e ih = ap (λ ys. b ∷ ys) ih ∙ sym (if-false (le a b) (a ∷ b ∷ rest) (b ∷ insert_by le a rest) e)
      goes_later true false all rest e ih = ih
      goes_later false true all rest e ih = ap (λ ys. b ∷ ys) ih
      goes_later false false all rest e ih = ih

      by_order : (c : Bool) → le a b ≡ c → filter test (insert_by le a xs)
          ≡ (if test a then insert_by le a (filter test xs) else filter test xs)
          → filter test (if c then a ∷ b ∷ xs else b ∷ insert_by le a xs)
          ≡ (if test a then insert_by le a (filter test (b ∷ xs)) else filter test (b ∷ xs))
      by_order true e ih =
          goes_first (test a) (filter test (b ∷ xs))
          (insert-first le a (filter test (b ∷ xs))
          (all-filter (λ x. le a x ≡ true) test (b ∷ xs) (
            e,
            all-map (λ x. le b x ≡ true) (λ x. le a x ≡ true) xs (λ x g. le-trans a b x e g) h.0,
          )))
      by_order false e ih = goes_later (test a) (test b) (filter test (insert_by le a xs)) (filter test xs) e ih

  pub filter-sorted : (test : A → Bool) (xs : List A) → filter test (sorted_by le xs) ≡ sorted_by le (filter test xs)
  filter-sorted test [] = refl
  filter-sorted test (a ∷ xs) =
      filter-insert test a (sorted_by le xs) (sorted-ordered xs)
      ∙ ap (λ ys. if test a then insert_by le a ys else ys) (filter-sorted test xs)
      ∙ by_test (test a)
    where
      by_test : (c : Bool) → (if c then insert_by le a (sorted_by le (filter test xs)) else sorted_by le (filter test xs))
          ≡ sorted_by le (if c then a ∷ filter test xs else filter test xs)
      by_test true = refl
      by_test false = refl

-- the others of a list with an inserted element
pairs-inserted : {A : Type 0} (R : A → A → Type 0) (before : A → A → Bool) (a : A) (xs : List A) → AllPairs R (insert_by before a xs)
    → AllPairs R xs
pairs-inserted R before a [] h = tt
pairs-inserted {A} R before a (x ∷ xs) h = by_test (before a x) h (pairs-inserted R before a xs)
  where
    by_test : (b : Bool) → AllPairs R (if b then a ∷ x ∷ xs else x ∷ insert_by before a xs)
        → (AllPairs R (insert_by before a xs) → AllPairs R xs) → AllPairs R (x ∷ xs)
    by_test true g ih = g.1
    by_test false g ih = ((all-inserted (R x) before a xs g.0).1, ih g.1)

-- it goes first where it is late after none
first-inserted : {A : Type 0} (before : A → A → Bool) (Late : A → A → Type 0) (a : A) (xs : List A) → AllByRecursion (λ b. Late b a) xs
    → AllPairs (λ b c. Late b c → ⊥) (insert_by before a xs) → insert_by before a xs ≡ a ∷ xs
first-inserted before Late a [] h g = refl
first-inserted {A} before Late a (x ∷ xs) h g = by_test (before a x) g
  where
    by_test : (c : Bool) → AllPairs (λ b c. Late b c → ⊥) (if c then a ∷ x ∷ xs else x ∷ insert_by before a xs)
        → (if c then a ∷ x ∷ xs else x ∷ insert_by before a xs) ≡ a ∷ x ∷ xs
    by_test true f = refl
    by_test false f = absurd ((all-inserted (λ c. Late x c → ⊥) before a xs f.0).0 h.0)

-- A list of which each element would be late after the later ones stays as it is where its sorted list has none late.
pub sorted-stays : {A : Type 0} (before : A → A → Bool) (Late : A → A → Type 0)
    → (xs : List A) → AllPairs (λ a b. Late b a) xs → AllPairs (λ a b. Late a b → ⊥) (sorted_by before xs) → sorted_by before xs ≡ xs
sorted-stays before Late [] h g = refl
sorted-stays {A} before Late (a ∷ xs) h g =
    let rest = sorted-stays before Late xs h.1 (pairs-inserted (λ a b. Late a b → ⊥) before a (sorted_by before xs) g) in
    ap (insert_by before a) rest
    ∙ first-inserted before Late a xs h.0 (subst (λ ys. AllPairs (λ a b. Late a b → ⊥) (insert_by before a ys)) rest g)

-- two lists are the same but for one element
pub record OneApart {A : Type 0} (Q : A → Type 0) (a b : A) (xs ys : List A) : Type 0 where
  pub front : List A
  pub back : List A
  pub first : xs ≡ front ++ (a ∷ back)
  pub second : ys ≡ front ++ (b ∷ back)
  pub all_front : AllByRecursion Q front
  pub all_back : AllByRecursion Q back

module _ {A : Type 0} (le : A → A → Bool) (Q : A → Type 0) (a b : A)
    (before_same : (x : A) → le x a ≡ le x b) (after_same : (x : A) → le a x ≡ le b x) where
  insert-apart : (xs : List A) → AllByRecursion Q xs → OneApart Q a b (insert_by le a xs) (insert_by le b xs)
  insert-apart [] h = record { front = []; back = []; first = refl; second = refl; all_front = tt; all_back = tt }
  insert-apart (x ∷ xs) h = by_test (le a x) (le b x) (after_same x) (insert-apart xs h.1)
    where
      by_test : (c d : Bool) → c ≡ d → OneApart Q a b (insert_by le a xs) (insert_by le b xs)
          → OneApart Q a b (if c then a ∷ x ∷ xs else x ∷ insert_by le a xs) (if d then b ∷ x ∷ xs else x ∷ insert_by le b xs)
      by_test true true e ih = record { front = []; back = x ∷ xs; first = refl; second = refl; all_front = tt; all_back = h }
      by_test false false e ih =
          record {
            front = x ∷ ih.front;
            back = ih.back;
            first = ap (λ ys. x ∷ ys) ih.first;
            second = ap (λ ys. x ∷ ys) ih.second;
            all_front = (h.0, ih.all_front);
            all_back = ih.all_back;
          }
      by_test true false e ih = absurd cc
      by_test false true e ih = absurd cc

  -- another element goes in
  other-apart : (x : A) (front back : List A) → Q x → AllByRecursion Q front → AllByRecursion Q back
      → OneApart Q a b (insert_by le x (front ++ (a ∷ back))) (insert_by le x (front ++ (b ∷ back)))
  other-apart x [] back q f g = by_test (le x a) (le x b) (before_same x)
    where
      by_test : (c d : Bool) → c ≡ d
          → OneApart Q a b (if c then x ∷ a ∷ back else a ∷ insert_by le x back) (if d then x ∷ b ∷ back else b ∷ insert_by le x back)
      by_test true true e = record { front = x ∷ []; back = back; first = refl; second = refl; all_front = (q, tt); all_back = g }
      by_test false false e =
          record {
            front = [];
            back = insert_by le x back;
            first = refl;
            second = refl;
            all_front = tt;
            all_back =
                all-insert Q le x back q g;
          }
      by_test true false e = absurd cc
      by_test false true e = absurd cc
  other-apart x (y ∷ front) back q f g = by_test (le x y) (other-apart x front back q f.1 g)
    where
      by_test : (c : Bool) → OneApart Q a b (insert_by le x (front ++ (a ∷ back))) (insert_by le x (front ++ (b ∷ back)))
          → OneApart Q a b (if c then x ∷ y ∷ (front ++ (a ∷ back)) else y ∷ insert_by le x (front ++ (a ∷ back)))
          (if c then x ∷ y ∷ (front ++ (b ∷ back)) else y ∷ insert_by le x (front ++ (b ∷ back)))
      by_test true ih = record { front = x ∷ y ∷ front; back = back; first = refl; second = refl; all_front = (q, f); all_back = g }
      by_test false ih =
          record {
            front = y ∷ ih.front;
            back = ih.back;
            first = ap (λ ys. y ∷ ys) ih.first;
            second = ap (λ ys. y ∷ ys) ih.second;
            all_front = (f.0, ih.all_front);
            all_back = ih.all_back;
          }

  pub sorted-apart : (front back : List A) → AllByRecursion Q front → AllByRecursion Q back
      → OneApart Q a b (sorted_by le (front ++ (a ∷ back))) (sorted_by le (front ++ (b ∷ back)))
  sorted-apart [] back f g = insert-apart (sorted_by le back) (all-sorted back g)
    where
      all-sorted : (xs : List A) → AllByRecursion Q xs → AllByRecursion Q (sorted_by le xs)
      all-sorted [] h = tt
      all-sorted (x ∷ xs) h = all-insert Q le x (sorted_by le xs) h.0 (all-sorted xs h.1)
  sorted-apart (x ∷ front) back f g =
      let ih = sorted-apart front back f.1 g in
      rw (ih.first, ih.second) (other-apart x ih.front ih.back f.0 ih.all_front ih.all_back)
