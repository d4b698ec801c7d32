-- Elements in blocks, of which the lines are put in order: the order stays one when ranks are counted anew.
use Rattle.std.proofs.Common.{◌≡◌, ◌⊎◌, refl, sym, ◌∙◌, ap, subst, ℕ, ◌<◌, arith, Bool, true, false, List, [], ◌∷◌, inl, inr}
use Rattle.std.specs.Prelude.{◌&&◌, ◌||◌, not, nat_lt, map, if◌then◌else◌}
use Rattle.std.specs.List.{AllByRecursion, position_or_len}
use Rattle.std.proofs.lemmas.Bool.{cases_Bool}
use Rattle.toml_edit_model.specs.Text.{Text, same_text}
use Rattle.toml_edit_model.specs.Paths.{Path, same_path, to_key}
use Rattle.toml_edit_laws.proofs.common.Tests.{and_both, true-false}
use Rattle.toml_edit_laws.proofs.common.PathLaws.{same_path-is, is_front, front-keys}
use Rattle.toml_edit_laws.proofs.common.OrderLaws.{passes_first, place-first, first-map, passes-back, first-of, goes-first}
use Rattle.toml_edit_laws.proofs.common.Members.{Among, all-among, among-each}
use Rattle.toml_edit_laws.proofs.normal_texts.Agreeing.{pairs-insert}
use Rattle.toml_edit_laws.proofs.normal_texts.LinePaths.{line_paths, names, part_keys, strict, stands, strict-not-back, strict-through}
use Rattle.toml_edit_laws.proofs.normal_texts.LinePaths.{strict-stands, stands-back, stands-kept, parts-there}
use Rattle.toml_edit_laws.proofs.common.Each.{all-insert, all-both, all-map}
use Rattle.toml_edit_laws.proofs.common.Pairs.{AllPairs, pairs-of}
use Rattle.toml_edit_model.specs.Order.{insert_by, is_sorted_by}

-- ---- elements in blocks

-- lines are put in order
abbrev pub lines_ordered : {X : Type 0} → (X → Bool) → (X → X → Bool) → List X → List X
lines_ordered line test [] = []
lines_ordered line test (x ∷ xs) = if line x then insert_by test x (lines_ordered line test xs) else x ∷ lines_ordered line test xs

module _ {X : Type 0} (line : X → Bool) (block : X → ℕ) (told : X → List Path) (base : X → Path) (keys_at : X → List Text) where
  abbrev pub ranked : List X → Path → ℕ
  ranked xs p = position_or_len (names p) (map told xs)

  -- in the text: in later blocks, or lines of the same
  abbrev pub Follows : X → X → Type 0
  Follows x y = (block x < block y) ⊎ ((block x ≡ block y) × (line y ≡ true))

  -- in order
  abbrev pub Before : (Path → ℕ) → X → X → Type 0
  Before r x y = (block x < block y) ⊎ ((block x ≡ block y) × (line y ≡ true) × (line x ≡ true → strict r (told x) (told y) ≡ true))

  abbrev pub IsLined : X → Type 0
  IsLined x = line x ≡ true → told x ≡ line_paths (base x) (keys_at x)

  abbrev pub IsAlong : X → Type 0
  IsAlong x = (p : Path) × AllByRecursion (λ q. is_front q p ≡ true) (told x)

  -- lines of one block stand below one path, and neither is at the front of the other
  abbrev pub Shares : X → X → Type 0
  Shares x y = line x ≡ true → line y ≡ true → block x ≡ block y → (base x ≡ base y) × (part_keys (keys_at x) (keys_at y) ≡ true)

  abbrev pub SharesBase : X → X → Type 0
  SharesBase x y = line x ≡ true → line y ≡ true → block x ≡ block y → base x ≡ base y

  abbrev Parted : (Path → ℕ) → X → X → Type 0
  Parted r x y =
      line x ≡ true → line y ≡ true → block x ≡ block y
      → (stands r (told x) (told y) ≡ true → strict r (told x) (told y) ≡ true)
      × (stands r (told x) (told y) ≡ false → strict r (told y) (told x) ≡ true)

  -- the first is a line of this block, if a line
  abbrev pub BeginsIn : ℕ → List X → Type 0
  BeginsIn n [] = Unit {0}
  BeginsIn n (y ∷ ys) = line y ≡ true → block y ≡ n

  -- a line is of the block of the element before it
  abbrev pub AreStepped : List X → Type 0
  AreStepped [] = Unit {0}
  AreStepped (x ∷ xs) = BeginsIn (block x) xs × AreStepped xs

  -- ---- ranks

  less-is : (xs : List X) (p q : Path) → nat_lt (ranked xs p) (ranked xs q)
      ≡ passes_first (λ x. names p (told x)) (λ x. names q (told x)) xs
  less-is xs p q = place-first (names p) (names q) (map told xs) ∙ first-map told (names p) (names q) xs

  along-named : (q p : Path) (ps : List Path) → AllByRecursion (λ r. is_front r p ≡ true) ps → names q ps ≡ true → is_front q p ≡ true
  along-named q p [] h g = absurd cc
  along-named q p (r ∷ ps) h g =
      elim (cases_Bool (same_path q r)) [
        | inl e ↦ subst (λ x. is_front x p ≡ true) (sym (same_path-is q r e)) h.0
        | inr e ↦ along-named q p ps h.1 (let f : names q ps ≡ true = rw e at g in f)
      ]

  not-both : (q : Path) (k l : Text) → same_text k l ≡ false → (x : X) → IsAlong x
      → (names (to_key q k) (told x) && names (to_key q l) (told x)) ≡ false
  not-both q k l apart x h =
      by_tests (names (to_key q k) (told x)) (names (to_key q l) (told x))
      (λ a b. true-false (same_text k l) (front-keys q h.0 k l (along-named (to_key q k) h.0 (told x) h.1 a)
      (along-named (to_key q l) h.0 (told x) h.1 b)) apart)
    where
      by_tests : (a b : Bool) → (a ≡ true → b ≡ true → ⊥) → (a && b) ≡ false
      by_tests true true f = absurd (f refl refl)
      by_tests true false f = refl
      by_tests false b f = refl

  parted : (xs : List X) → AllByRecursion IsLined xs → AllByRecursion IsAlong xs → AllPairs Shares xs → AllPairs (Parted (ranked xs)) xs
  parted xs h g k = pairs-of (λ x. Among x xs) Shares (Parted (ranked xs)) xs each (among-each xs) k
    where
      each : (x y : X) → Among x xs → Among y xs → Shares x y → Parted (ranked xs) x y
      each x y a b s p q e =
          let both = s p q e in
          let tx : told x ≡ line_paths (base x) (keys_at x) = all-among IsLined x xs h a p in
          let ty : told y ≡ line_paths (base x) (keys_at y) = all-among IsLined y xs h b q
          ∙ ap (λ c. line_paths c (keys_at y)) (sym both.0) in (
            λ is.
                ap (λ t. strict (ranked xs) t (told y)) tx ∙ ap (strict (ranked xs) (line_paths (base x) (keys_at x))) ty
                ∙ strict-stands (ranked xs) (base x) (keys_at x) (keys_at y) both.1
                ∙ ap (stands (ranked xs) (line_paths (base x) (keys_at x))) (sym ty) ∙ ap (λ t. stands (ranked xs) t (told y)) (sym tx)
                ∙ is,
            λ is.
                ap (λ t. strict (ranked xs) t (told x)) ty ∙ ap (strict (ranked xs) (line_paths (base x) (keys_at y))) tx
                ∙ stands-back (ranked xs) (base x) (keys_at x) (keys_at y)
                (λ t i j apart c d less.
                less-is xs (to_key t j) (to_key t i)
                ∙ passes-back (λ z. names (to_key t i) (told z)) (λ z. names (to_key t j) (told z)) xs y
                (all-map IsAlong (λ z. (names (to_key t i) (told z) && names (to_key t j) (told z)) ≡ false) xs (not-both t i j apart) g) b
                (ap (names (to_key t j)) ty ∙ d) (sym (less-is xs (to_key t i) (to_key t j)) ∙ less))
                (ap (stands (ranked xs) (line_paths (base x) (keys_at x))) (sym ty) ∙ ap (λ t. stands (ranked xs) t (told y)) (sym tx)
                ∙ is),
          )

  -- ---- in order

  before-not-back : (r : Path → ℕ) (x y : X) → Before r x y → Before r y x → ⊥
  before-not-back r x y (inl a) (inl b) = omega arith
  before-not-back r x y (inl a) (inr b) = (let e : block y ≡ block x = b.0 in omega arith)
  before-not-back r x y (inr a) (inl b) = (let e : block x ≡ block y = a.0 in omega arith)
  before-not-back r x y (inr a) (inr b) = strict-not-back r (told x) (told y) (a.2 b.1) (b.2 a.1)

  before-through : (r : Path → ℕ) (x y z : X) → Before r x y → Before r y z → Before r x z
  before-through r x y z (inl a) (inl b) = inl (omega arith)
  before-through r x y z (inl a) (inr b) = (let e : block y ≡ block z = b.0 in inl (omega arith))
  before-through r x y z (inr a) (inl b) = (let e : block x ≡ block y = a.0 in inl (omega arith))
  before-through r x y z (inr a) (inr b) = inr (a.0 ∙ b.0, b.1, λ e. strict-through r (told x) (told y) (told z) (a.2 e) (b.2 a.1))

  -- the test of lines in order
  abbrev pub IsTest : (X → X → Bool) → (Path → ℕ) → Type 0
  IsTest test r = (x y : X) → test x y ≡ (not (line y) || stands r (told x) (told y))

  begins-insert : (n : ℕ) (test : X → X → Bool) (x : X) (ys : List X) → (line x ≡ true → block x ≡ n) → BeginsIn n ys
      → BeginsIn n (insert_by test x ys)
  begins-insert n test x [] h g = h
  begins-insert n test x (y ∷ ys) h g = elim (cases_Bool (test x y)) [ inl e ↦ rw e h | inr e ↦ rw e g ]

  line-by-test : (test : X → X → Bool) (r : Path → ℕ) → IsTest test r → (x y : X) → test x y ≡ false → (line y ≡ true)
      × (stands r (told x) (told y) ≡ false)
  line-by-test test r t x y h = by_tests (line y) (stands r (told x) (told y)) refl refl (sym (t x y) ∙ h)
    where
      by_tests : (a b : Bool) → line y ≡ a → stands r (told x) (told y) ≡ b → (not a || b) ≡ false → (line y ≡ true)
          × (stands r (told x) (told y) ≡ false)
      by_tests true true p q e = absurd cc
      by_tests true false p q e = (p, q)
      by_tests false b p q e = absurd cc

  test-stands : (test : X → X → Bool) (r : Path → ℕ) → IsTest test r → (x y : X) → test x y ≡ true → line y ≡ true
      → stands r (told x) (told y) ≡ true
  test-stands test r t x y h e =
      (let g : (not true || stands r (told x) (told y)) ≡ true = ap (λ b. not b || stands r (told x) (told y)) (sym e) ∙ sym (t x y) ∙ h in
      g)

  insert-stepped : (test : X → X → Bool) (r : Path → ℕ) → IsTest test r → (x : X) (ys : List X) → line x ≡ true → BeginsIn (block x) ys
      → AreStepped ys → AreStepped (insert_by test x ys)
  insert-stepped test r t x [] l b h = (tt, tt)
  insert-stepped test r t x (y ∷ ys) l b h =
      elim (cases_Bool (test x y)) [
        | inl e ↦ rw e (b, h)
        | inr e ↦
            let is = line-by-test test r t x y e in
            let same : block y ≡ block x = b is.0 in
            rw e (
              begins-insert (block y) test x ys (λ g. sym same) h.0,
              insert-stepped test r t x ys l (subst (λ n. BeginsIn n ys) same h.0) h.1,
            )
      ]

  insert-before : (test : X → X → Bool) (r : Path → ℕ) → IsTest test r → (x : X) (ys : List X) → line x ≡ true → BeginsIn (block x) ys
      → AreStepped ys
      → AllByRecursion (Follows x) ys → AllByRecursion (Parted r x) ys → AllPairs (Before r) ys → AllPairs (Before r) (insert_by test x ys)
  insert-before test r t x [] l b s f p h = (tt, tt)
  insert-before test r t x (y ∷ ys) l b s f p h =
      elim (cases_Bool (test x y)) [
        | inl e ↦
            let first : Before r x y =
            elim f.0 [
              | inl a ↦ inl a
              | inr a ↦ inr (a.0, a.1, λ g. (p.0 l a.1 a.0).0 (test-stands test r t x y e a.1))
            ] in
            rw e ((first, all-map (Before r y) (Before r x) ys (λ z g. before-through r x y z first g) h.0), h)
        | inr e ↦
            let is = line-by-test test r t x y e in
            let same : block y ≡ block x = b is.0 in
            rw e (
              all-insert (Before r y) test x ys (inr (same, l, λ g. (p.0 l is.0 (sym same)).1 is.1)) h.0,
              insert-before test r t x ys l (subst (λ n. BeginsIn n ys) same s.0) s.1 f.1 p.1 h.1,
            )
      ]

  pub all-lines : (P : X → Type 0) (test : X → X → Bool) (xs : List X) → AllByRecursion P xs → AllByRecursion P (lines_ordered line test xs)
  all-lines P test [] h = tt
  all-lines P test (x ∷ xs) h =
      elim (cases_Bool (line x)) [
        | inl e ↦ rw e (all-insert P test x (lines_ordered line test xs) h.0 (all-lines P test xs h.1))
        | inr e ↦ rw e (h.0, all-lines P test xs h.1)
      ]

  begins-lines : (n : ℕ) (test : X → X → Bool) (xs : List X) → BeginsIn n xs → AreStepped xs → BeginsIn n (lines_ordered line test xs)
  begins-lines n test [] b s = tt
  begins-lines n test (x ∷ xs) b s =
      elim (cases_Bool (line x)) [
        | inl e ↦ rw e (begins-insert n test x (lines_ordered line test xs) b
            (begins-lines n test xs (subst (λ m. BeginsIn m xs) (b e) s.0) s.1))
        | inr e ↦ rw e b
      ]

  pub lines-stepped : (test : X → X → Bool) (r : Path → ℕ) → IsTest test r → (xs : List X) → AreStepped xs
      → AreStepped (lines_ordered line test xs)
  lines-stepped test r t [] s = tt
  lines-stepped test r t (x ∷ xs) s =
      elim (cases_Bool (line x)) [
        | inl e ↦ rw e (insert-stepped test r t x (lines_ordered line test xs) e (begins-lines (block x) test xs s.0 s.1)
            (lines-stepped test r t xs s.1))
        | inr e ↦ rw e (begins-lines (block x) test xs s.0 s.1, lines-stepped test r t xs s.1)
      ]

  lines-before : (test : X → X → Bool) (r : Path → ℕ) → IsTest test r → (xs : List X) → AreStepped xs → AllPairs Follows xs
      → AllPairs (Parted r) xs
      → AllPairs (Before r) (lines_ordered line test xs)
  lines-before test r t [] s f p = tt
  lines-before test r t (x ∷ xs) s f p =
      let rest : List X = lines_ordered line test xs in
      elim (cases_Bool (line x)) [
        | inl e ↦
            rw e
            (insert-before test r t x rest e (begins-lines (block x) test xs s.0 s.1) (lines-stepped test r t xs s.1)
            (all-lines (Follows x) test xs f.0) (all-lines (Parted r x) test xs p.0) (lines-before test r t xs s.1 f.1 p.1))
        | inr e ↦
            rw e (
              all-map (Follows x) (Before r x) rest
                  (λ y g. elim g [ inl a ↦ inl a | inr a ↦ inr (a.0, a.1, λ l. true-false (line x) l e) ])
                  (all-lines (Follows x) test xs f.0),
              lines-before test r t xs s.1 f.1 p.1,
            )
      ]

  among-insert : (test : X → X → Bool) (x u : X) (ys : List X) → Among u (x ∷ ys) → Among u (insert_by test x ys)
  among-insert test x u [] m = m
  among-insert test x u (y ∷ ys) m =
      elim (cases_Bool (test x y)) [
        | inl e ↦ rw e m
        | inr e ↦
            rw e
            (elim m [
              | inl a ↦ inr (among-insert test x u ys (inl a))
              | inr a ↦ elim a [ inl b ↦ inl b | inr b ↦ inr (among-insert test x u ys (inr b)) ]
            ])
      ]

  pub among-lines : (test : X → X → Bool) (u : X) (xs : List X) → Among u xs → Among u (lines_ordered line test xs)
  among-lines test u [] m = m
  among-lines test u (x ∷ xs) m =
      elim (cases_Bool (line x)) [
        | inl e ↦ rw e (among-insert test x u (lines_ordered line test xs) (elim m [
          | inl a ↦ inl a
          | inr a ↦
              inr (among-lines test u xs a)
        ]))
        | inr e ↦ rw e (elim m [ inl a ↦ inl a | inr a ↦ inr (among-lines test u xs a) ])
      ]

  -- ---- what is known of a text's elements

  pub record IsText (xs : List X) : Type 0 where
    pub stepped : AreStepped xs
    pub follow : AllPairs Follows xs
    pub lined : AllByRecursion IsLined xs
    pub along : AllByRecursion IsAlong xs
    pub shares : AllPairs Shares xs

  pub in-order : (test : X → X → Bool) (xs : List X) → IsTest test (ranked xs) → IsText xs
      → AllPairs (Before (ranked xs)) (lines_ordered line test xs)
  in-order test xs t h = lines-before test (ranked xs) t xs h.stepped h.follow (parted xs h.lined h.along h.shares)

  -- Of two keys below one path, that with the lesser rank has the lesser one among the elements in order.
  pub rank-kept : (test : X → X → Bool) (xs : List X) → IsTest test (ranked xs) → IsText xs → (q : Path) (k l : Text) → same_text k l
      ≡ false
      → nat_lt (ranked xs (to_key q k)) (ranked xs (to_key q l)) ≡ true
      → nat_lt (ranked (lines_ordered line test xs) (to_key q k)) (ranked (lines_ordered line test xs) (to_key q l)) ≡ true
  rank-kept test xs t h q k l apart less =
      let r : Path → ℕ = ranked xs in
      let zs : List X = lines_ordered line test xs in
      let one : X → Bool = λ x. names (to_key q k) (told x) in
      let other : X → Bool = λ x. names (to_key q l) (told x) in
      let first = first-of one other (λ x y. Follows x y × Shares x y) xs (sym (less-is xs (to_key q k) (to_key q l))
      ∙ less) (pairs-both xs h.follow h.shares) in
      let u : X = first.0 in
      let each : (w : X) → IsLined w × (other w ≡ true → Follows u w × Shares u w) → other w ≡ true → Before r u w =
      λ w g e.
      let both = g.1 e in
      elim both.0 [
        | inl a ↦ inl a
        | inr a ↦
            inr (
              a.0,
              a.1,
              λ l_u.
                  let shared = both.1 l_u a.1 a.0 in
                  let tu : told u ≡ line_paths (base u) (keys_at u) = all-among IsLined u xs h.lined first.1 l_u in
                  let tw : told w ≡ line_paths (base u) (keys_at w) = g.0 a.1 ∙ ap (λ c. line_paths c (keys_at w)) (sym shared.0) in
                  ap (λ p. strict r p (told w)) tu ∙ ap (strict r (line_paths (base u) (keys_at u))) tw
                  ∙ parts-there r (base u) q k l (keys_at u) (keys_at w) apart (ap (names (to_key q k)) (sym tu)
                  ∙ first.2) (ap (names (to_key q l)) (sym tw) ∙ e)
                  ∙ less,
            )
      ] in
      let all : AllByRecursion (λ w. other w ≡ true → Before r u w) xs =
      all-map (λ w. IsLined w × (other w ≡ true → Follows u w × Shares u w)) (λ w. other w ≡ true → Before r u w) xs each
      (all-both IsLined (λ w. other w ≡ true → Follows u w × Shares u w) xs h.lined first.3) in
      less-is zs (to_key q k) (to_key q l)
      ∙ goes-first one other (Before r) (before-not-back r) zs u (in-order test xs t h) (among-lines test u xs first.1) first.2
      (all-lines (λ w. other w ≡ true → Before r u w) test xs all)
    where
      pairs-both : (ys : List X) → AllPairs Follows ys → AllPairs Shares ys → AllPairs (λ x y. Follows x y × Shares x y) ys
      pairs-both [] a b = tt
      pairs-both (y ∷ ys) a b = (all-both (Follows y) (Shares y) ys a.0 b.0, pairs-both ys a.1 b.1)

  -- lines share a path either way
  shares-base : (test : X → X → Bool) (xs : List X) → AllPairs SharesBase xs → AllPairs SharesBase (lines_ordered line test xs)
  shares-base test [] h = tt
  shares-base test (x ∷ xs) h =
      elim (cases_Bool (line x)) [
        | inl e ↦
            rw e
            (pairs-insert SharesBase test x (lines_ordered line test xs) (back (lines_ordered line test xs))
            (all-lines (SharesBase x) test xs h.0) (shares-base test xs h.1))
        | inr e ↦ rw e (all-lines (SharesBase x) test xs h.0, shares-base test xs h.1)
      ]
    where
      back : (ys : List X) → AllByRecursion (λ y. test x y ≡ false → SharesBase x y → SharesBase y x) ys
      back [] = tt
      back (y ∷ ys) = (λ f g p q e. sym (g q p (sym e)), back ys)

  pub base-shared : (test : X → X → Bool) (xs : List X) → IsText xs → AllPairs SharesBase (lines_ordered line test xs)
  base-shared test xs h =
      shares-base test xs (pairs-of (λ x. Unit {0}) Shares SharesBase xs (λ x y a b g p q e. (g p q e).0) (each xs) h.shares)
    where
      each : (ys : List X) → AllByRecursion (λ x. Unit {0}) ys
      each [] = tt
      each (y ∷ ys) = (tt, each ys)

  sorted-from : (r u : Path → ℕ) (test next : X → X → Bool) → IsTest next u
      → ((q : Path) (k l : Text) → same_text k l ≡ false → nat_lt (r (to_key q k)) (r (to_key q l)) ≡ true
      → nat_lt (u (to_key q k)) (u (to_key q l)) ≡ true)
      → (zs : List X) → AreStepped zs → AllByRecursion IsLined zs → AllPairs SharesBase zs → AllPairs (Before r) zs
      → is_sorted_by (λ x y. not (line x) || next x y) zs ≡ true
  sorted-from r u test next t f [] s h g k = refl
  sorted-from r u test next t f (x ∷ []) s h g k = refl
  sorted-from r u test next t f (x ∷ y ∷ zs) s h g k =
      and_both (not (line x) || next x y) (is_sorted_by (λ x y. not (line x) || next x y) (y ∷ zs))
      (by_tests (line x) refl (line y) refl) (sorted-from r u test next t f (y ∷ zs) s.1 h.1 g.1 k.1)
    where
      by_tests : (a : Bool) → line x ≡ a → (b : Bool) → line y ≡ b → (not (line x) || next x y) ≡ true
      by_tests false p b q = rw p refl
      by_tests true p false q = ap (λ c. not (line x) || c) (t x y ∙ ap (λ c. not c || stands u (told x) (told y)) q)
          ∙ or-true (not (line x))
        where
          or-true : (c : Bool) → (c || true) ≡ true
          or-true true = refl
          or-true false = refl
      by_tests true p true q =
          let same : block y ≡ block x = s.0 q in
          let shared : base x ≡ base y = g.0.0 p q (sym same) in
          let tx : told x ≡ line_paths (base x) (keys_at x) = h.0 p in
          let ty : told y ≡ line_paths (base x) (keys_at y) = h.1.0 q ∙ ap (λ c. line_paths c (keys_at y)) (sym shared) in
          let before : strict r (told x) (told y) ≡ true =
          elim k.0.0 [ inl a ↦ absurd (omega arith) | inr a ↦ a.2 p ] in
          let stand : stands u (told x) (told y) ≡ true =
          ap (λ c. stands u c (told y)) tx ∙ ap (stands u (line_paths (base x) (keys_at x))) ty
          ∙ stands-kept r u (base x) (keys_at x) (keys_at y) f
          (ap (strict r (line_paths (base x) (keys_at x))) (sym ty) ∙ ap (λ c. strict r c (told y)) (sym tx) ∙ before) in
          ap (λ c. not c || next x y) p ∙ t x y ∙ ap (λ c. not c || stands u (told x) (told y)) q ∙ stand

  -- The elements in order are in order by their own ranks.
  pub sorted-anew : (test next : X → X → Bool) (xs : List X) → IsTest test (ranked xs) → IsTest next (ranked (lines_ordered line test xs))
      → IsText xs
      → is_sorted_by (λ x y. not (line x) || next x y) (lines_ordered line test xs) ≡ true
  sorted-anew test next xs t u h =
      sorted-from (ranked xs) (ranked (lines_ordered line test xs)) test next u (rank-kept test xs t h) (lines_ordered line test xs)
      (lines-stepped test (ranked xs) t xs h.stepped) (all-lines IsLined test xs h.lined) (base-shared test xs h) (in-order test xs t h)
