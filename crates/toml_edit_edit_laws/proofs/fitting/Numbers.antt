-- Paths in which the elements behind one of an array are counted anew.
use Rattle.std.proofs.Common.{◌≡◌, refl, sym, ◌∙◌, ap, ℕ, suc, zero, pred, ◌<◌, ◌≤◌, arith, Bool, true, false, [], ◌∷◌, ◌++◌, inl, inr}
use Rattle.std.specs.Prelude.{◌&&◌, ◌==◌, nat_lt, if◌then◌else◌}
use Rattle.std.proofs.lemmas.Bool.{eqb-true, eq-eqb, lt-ltb, le-ltb, cases_lt}
use Rattle.toml_edit_model.specs.Text.{is_empty}
use Rattle.toml_edit_model.specs.Paths.{Step, at_key, at_element, Path, same_step, to_element}
use Rattle.toml_edit_model.specs.Fits.{is_below, is_after_element}
use Rattle.toml_edit_laws.proofs.common.Tests.{true-false, and-true}
use Rattle.toml_edit_laws.proofs.common.PathLaws.{is_front, same_step-refl, same_step-is}

-- ---- numbers

-- the number of an element behind the one of that number, which is gone
abbrev pub recounted : ℕ → ℕ → ℕ
recounted n m = if nat_lt n m then pred m else m

same-tests : (a b : Bool) → (a ≡ true → b ≡ true) → (b ≡ true → a ≡ true) → a ≡ b
same-tests true b f g = sym (f refl)
same-tests false true f g = g refl
same-tests false false f g = refl

pub count-later : (n m : ℕ) → n ≤ m → recounted n (suc m) ≡ m
count-later n m h = ap (λ b. if b then m else suc m) (lt-ltb n (suc m) (omega arith))

pub count-earlier : (n m : ℕ) → m < n → recounted n m ≡ m
count-earlier n m h = ap (λ b. if b then pred m else m) (le-ltb n m (omega arith))

-- the numbers but the one that is gone keep their order
record Counted (n m c : ℕ) : Type 0 where
  pub low : m < n → c ≡ m
  pub high : n < m → suc c ≡ m

counted : (n m : ℕ) → Counted n m (recounted n m)
counted n zero = record { low = λ h. count-earlier n zero h; high = λ h. absurd (none h) }
  where
    none : n < zero → ⊥
    none h = omega arith
counted n (suc m) = record { low = λ h. count-earlier n (suc m) h; high = λ h. ap suc (count-later n m (omega arith)) }

module _ (n : ℕ) where
  above : (m : ℕ) → n ≤ m → (n == m) ≡ false → n < m
  above m h g =
      elim (cases_lt n m) [
        | inl p ↦ p
        | inr p ↦ (let e : n ≡ m = omega arith in true-false (n == m) (eq-eqb n m e) g)
      ]

  keeps-order : (a b : ℕ) → (n == a) ≡ false → (n == b) ≡ false → a < b → recounted n a < recounted n b
  keeps-order a b h g less =
      elim (cases_lt a n) [
        | inl p ↦
            let x = (counted n a).low p in
            elim (cases_lt b n) [
              | inl s ↦ (let y = (counted n b).low s in omega (arith, x, y))
              | inr s ↦
                  let more : n < b = above b s g in
                  let y = (counted n b).high more in
                  omega (arith, x, y)
            ]
        | inr p ↦
            let first : n < a = above a p h in
            let second : n < b = omega arith in
            let x = (counted n a).high first in
            let y = (counted n b).high second in
            omega (arith, x, y)
      ]

  count-less : (a b : ℕ) → (n == a) ≡ false → (n == b) ≡ false → nat_lt (recounted n a) (recounted n b) ≡ nat_lt a b
  count-less a b h g =
      elim (cases_lt a b) [
        | inl p ↦ lt-ltb (recounted n a) (recounted n b) (keeps-order a b h g p) ∙ sym (lt-ltb a b p)
        | inr p ↦ le-ltb (recounted n a) (recounted n b) (least p) ∙ sym (le-ltb a b p)
      ]
    where
      least : b ≤ a → recounted n b ≤ recounted n a
      least p =
          elim (cases_lt b a) [
            | inl s ↦ (let less = keeps-order b a g h s in omega (arith, less))
            | inr s ↦
                let e : a ≡ b = omega arith in
                let same : recounted n a ≡ recounted n b = ap (recounted n) e in
                omega (arith, same)
          ]

  count-same : (a b : ℕ) → (n == a) ≡ false → (n == b) ≡ false → (recounted n a == recounted n b) ≡ (a == b)
  count-same a b h g =
      same-tests (recounted n a == recounted n b) (a == b) (λ e. eq-eqb a b (back (eqb-true (recounted n a) (recounted n b) e)))
      (λ e. eq-eqb (recounted n a) (recounted n b) (ap (recounted n) (eqb-true a b e)))
    where
      back : recounted n a ≡ recounted n b → a ≡ b
      back e =
          elim (cases_lt a b) [
            | inl p ↦ absurd (no (keeps-order a b h g p) e)
            | inr p ↦
                elim (cases_lt b a) [
                  | inl s ↦ absurd (no (keeps-order b a g h s) (sym e))
                  | inr s ↦ omega arith
                ]
          ]
        where
          no : {x y : ℕ} → x < y → x ≡ y → ⊥
          no less e = omega (arith, less, e)

-- ---- paths

-- the numbers of that array's elements, in a path
abbrev pub recount : Path → ℕ → Path → Path
recount [] n [] = []
recount [] n (at_key k ∷ p) = at_key k ∷ p
recount [] n (at_element m ∷ p) = at_element (recounted n m) ∷ p
recount (s ∷ r) n [] = []
recount (s ∷ r) n (t ∷ p) = t ∷ (if same_step s t then recount r n p else p)

-- other paths stay
pub recount-out : (r : Path) (n : ℕ) (p : Path) → is_front r p ≡ false → recount r n p ≡ p
recount-out [] n p h = absurd cc
recount-out (s ∷ r) n [] h = refl
recount-out (s ∷ r) n (t ∷ p) h = by_test (same_step s t) h (recount-out r n p)
  where
    by_test : (b : Bool) → (b && is_front r p) ≡ false → (is_front r p ≡ false → recount r n p ≡ p)
        → t ∷ (if b then recount r n p else p) ≡ t ∷ p
    by_test true h f = ap (λ z. t ∷ z) (f h)
    by_test false h f = refl

pub recount-element : (r : Path) (n m : ℕ) (p : Path) → recount r n (to_element r m ++ p) ≡ to_element r (recounted n m) ++ p
recount-element [] n m p = refl
recount-element (s ∷ r) n m p = rw (same_step-refl s) (ap (λ z. s ∷ z) (recount-element r n m p))

recount-empty : (r : Path) (n : ℕ) (p : Path) → is_empty (recount r n p) ≡ is_empty p
recount-empty [] n [] = refl
recount-empty [] n (at_key k ∷ p) = refl
recount-empty [] n (at_element m ∷ p) = refl
recount-empty (s ∷ r) n [] = refl
recount-empty (s ∷ r) n (t ∷ p) = refl

-- the last step of the first path is compared by number, and no other
after-more : (s t : Step) (p q : Path) → is_empty p ≡ false → is_after_element (s ∷ p) (t ∷ q) ≡ (same_step s t && is_after_element p q)
after-more s t [] q h = absurd cc
after-more (at_key k) t (x ∷ p) q h = refl
after-more (at_element n) (at_key k) (x ∷ p) q h = refl
after-more (at_element n) (at_element m) (x ∷ p) q h = refl

-- ---- the order of elements

-- of two paths, neither of them below the element that is gone, it stays who is below, and who after an element
pub record KeepsOrder (p q x y : Path) : Type 0 where
  pub below : is_below x y ≡ is_below p q
  pub after : is_after_element x y ≡ is_after_element p q

pub keeps-same : (p q : Path) → KeepsOrder p q p q
keeps-same p q = record { below = refl; after = refl }

after-none : (p : Path) → is_after_element p [] ≡ false
after-none [] = refl
after-none (at_key k ∷ p) = refl
after-none (at_element n ∷ []) = refl
after-none (at_element n ∷ x ∷ p) = refl

after-last : (s t : Step) (p q : Path) → is_after_element (s ∷ []) (t ∷ p) ≡ is_after_element (s ∷ []) (t ∷ q)
after-last (at_key k) t p q = by_test (same_step (at_key k) t)
  where
    by_test : (b : Bool) → (b && false) ≡ (b && false)
    by_test b = refl
after-last (at_element n) (at_key k) p q = refl
after-last (at_element n) (at_element m) p q = refl

recount-none : (r : Path) (n : ℕ) → recount r n [] ≡ []
recount-none [] n = refl
recount-none (s ∷ r) n = refl

-- two paths whose first steps stay
longer : (s t : Step) (p q x y : Path) → is_empty x ≡ is_empty p → (same_step s t ≡ true → KeepsOrder p q x y)
    → KeepsOrder (s ∷ p) (t ∷ q) (s ∷ x) (t ∷ y)
longer s t p q x y e f =
    record {
      below = by_test (same_step s t) refl (λ g. (f g).below);
      after = by_length p x e (by_test (same_step s t) refl (λ g. (f g).after));
    }
  where
    by_test : (b : Bool) → same_step s t ≡ b → {c d : Bool} → (same_step s t ≡ true → c ≡ d) → (b && c) ≡ (b && d)
    by_test true g f = f g
    by_test false g f = refl

    by_length : (p x : Path) → is_empty x ≡ is_empty p → (same_step s t && is_after_element x y) ≡ (same_step s t && is_after_element p q)
        → is_after_element (s ∷ x) (t ∷ y) ≡ is_after_element (s ∷ p) (t ∷ q)
    by_length [] [] e h = after-last s t y q
    by_length [] (z ∷ x) e h = absurd cc
    by_length (z ∷ p) [] e h = absurd cc
    by_length (z ∷ p) (w ∷ x) e h = after-more s t (w ∷ x) y refl ∙ h ∙ sym (after-more s t (z ∷ p) q refl)

pub recount-order : (r : Path) (n : ℕ) (p q : Path) → is_front (to_element r n) p ≡ false → is_front (to_element r n) q ≡ false
    → KeepsOrder p q (recount r n p) (recount r n q)
recount-order [] n [] [] h g = keeps-same [] []
recount-order [] n [] (at_key k ∷ q) h g = keeps-same [] (at_key k ∷ q)
recount-order [] n [] (at_element m ∷ q) h g = record { below = refl; after = refl }
recount-order [] n (at_key k ∷ p) [] h g = keeps-same (at_key k ∷ p) []
recount-order [] n (at_key k ∷ p) (at_key l ∷ q) h g = keeps-same (at_key k ∷ p) (at_key l ∷ q)
recount-order [] n (at_key k ∷ p) (at_element m ∷ q) h g = record { below = refl; after = refl }
recount-order [] n (at_element m ∷ p) [] h g =
    record { below = refl; after = after-none (at_element (recounted n m) ∷ p) ∙ sym (after-none (at_element m ∷ p)) }
recount-order [] n (at_element m ∷ []) (at_key k ∷ q) h g = record { below = refl; after = refl }
recount-order [] n (at_element m ∷ x ∷ p) (at_key k ∷ q) h g = record { below = refl; after = refl }
recount-order [] n (at_element m ∷ []) (at_element l ∷ q) h g =
    let first = sym (and-true (n == m)) ∙ h in
    let second = sym (and-true (n == l)) ∙ g in
    record { below = ap (λ b. b && is_below [] q) (count-same n m l first second); after = count-less n l m second first }
recount-order [] n (at_element m ∷ x ∷ p) (at_element l ∷ q) h g =
    let same = count-same n m l (sym (and-true (n == m)) ∙ h) (sym (and-true (n == l)) ∙ g) in
    record { below = ap (λ b. b && is_below (x ∷ p) q) same; after = ap (λ b. b && is_after_element (x ∷ p) q) same }
recount-order (s ∷ r) n [] [] h g = keeps-same [] []
recount-order (s ∷ r) n [] (u ∷ q) h g = record { below = refl; after = refl }
recount-order (s ∷ r) n (t ∷ p) [] h g =
    record { below = refl; after = after-none (t ∷ (if same_step s t then recount r n p else p)) ∙ sym (after-none (t ∷ p)) }
recount-order (s ∷ r) n (t ∷ p) (u ∷ q) h g =
    longer t u p q (if same_step s t then recount r n p else p) (if same_step s u then recount r n q else q) (same_length (same_step s t))
    (λ e.
    by_tests (same_step s t) (same_step s u) (ap (same_step s) (same_step-is t u e)) h g (recount-order r n p q))
  where
    same_length : (b : Bool) → is_empty (if b then recount r n p else p) ≡ is_empty p
    same_length true = recount-empty r n p
    same_length false = refl

    by_tests : (b c : Bool) → b ≡ c → (b && is_front (to_element r n) p) ≡ false → (c && is_front (to_element r n) q) ≡ false
        → (is_front (to_element r n) p ≡ false → is_front (to_element r n) q ≡ false → KeepsOrder p q (recount r n p) (recount r n q))
        → KeepsOrder p q (if b then recount r n p else p) (if c then recount r n q else q)
    by_tests true true e h g f = f h g
    by_tests false false e h g f = keeps-same p q
    by_tests true false e h g f = absurd cc
    by_tests false true e h g f = absurd cc
