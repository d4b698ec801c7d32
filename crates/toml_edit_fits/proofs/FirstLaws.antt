-- What a walk reports, part by part.
use Rattle.std.proofs.Common.{◌≡◌, refl, sym, ◌∙◌, ap, subst, ℕ, suc, ◌+◌, ◌<◌, true, false, List, [], ◌∷◌, ◌++◌, length, get_or, drop}
use Rattle.std.proofs.Common.{drop-cons, add-one, Option, Some, None}
use Rattle.std.specs.Prelude.{slice_get, is_some}
use Rattle.std.specs.Option.{MatchOption}
use Rattle.toml_edit_model.specs.Text.{Text}
use Rattle.toml_edit_fits.specs.declared.order.Marks.{Marks}
use Rattle.toml_edit_fits.specs.Misfits.{MisfitView, below, below_step}
use Rattle.toml_edit_fits.specs.MisfitViews.{Reports}

-- ---- two parts

-- without a misfit in the first part, the first one of the second is that of both
pub first-after : {A : Type 0} (xs ys : List A) → slice_get xs 0 ≡ None → slice_get (xs ++ ys) 0 ≡ slice_get ys 0
first-after [] ys h = refl
first-after (y ∷ xs) ys h = absurd cc

below-after : (k : Text) (ms rest : List MisfitView) → slice_get ms 0 ≡ None → slice_get (below k ms ++ rest) 0 ≡ slice_get rest 0
below-after k [] rest h = refl
below-after k (x ∷ ms) rest h = absurd cc

-- the marks are there just where the walk has passed
pub some-reports : {R : Type 0} (tells : R → MisfitView → Type 0) (ms : List MisfitView) (w : Marks) (end : Option Marks) (r : R)
    → Reports tells ms (Some w) None end r → Reports tells ms true false (is_some end) r
some-reports tells [] w end r h = ap is_some h
some-reports tells (m ∷ ms) w end r h = (ap is_some h.0, h.1)

module _ {R A : Type 0} (tells : R → MisfitView → Type 0) (good bad end : A) where
  -- lists with the same first misfit are reported alike
  pub reports-like : (ms ns : List MisfitView) (r : R) → slice_get ms 0 ≡ slice_get ns 0 → Reports tells ms good bad end r
      → Reports tells ns good bad end r
  reports-like ms ns r e h = subst (λ (o : Option MisfitView). MatchOption o (end ≡ good) (λ m. (end ≡ bad) × tells r m)) e h

  -- a walk that does not end badly has passed
  pub passed : (ms : List MisfitView) (r : R) → (end ≡ bad → ⊥) → Reports tells ms good bad end r → (slice_get ms 0 ≡ None) × (end ≡ good)
  passed [] r out h = (refl, h)
  passed (m ∷ ms) r out h = absurd (out h.0)

  -- else it has reported the first misfit
  pub told : (ms : List MisfitView) (r : R) → (end ≡ good → ⊥) → Reports tells ms good bad end r → (m : MisfitView)
      × (slice_get ms 0 ≡ Some m) × tells r m
  told [] r out h = absurd (out h)
  told (m ∷ ms) r out h = (m, refl, h.1)

  -- which is that of both parts
  module _ {B : Type 0} (good-2 bad-2 : B) (out : end ≡ good → ⊥) where
    pub ended : (ms rest : List MisfitView) (r : R) → Reports tells ms good bad end r → Reports tells (ms ++ rest) good-2 bad-2 bad-2 r
    ended [] rest r h = absurd (out h)
    ended (m ∷ ms) rest r h = (refl, h.1)

    pub below-ended : (k : Text) (ms rest : List MisfitView) (r s : R) → Reports tells ms good bad end r
        → ((m : MisfitView) → tells r m → tells s (below_step k m))
        → Reports tells (below k ms ++ rest) good-2 bad-2 bad-2 s
    below-ended k [] rest r s h f = absurd (out h)
    below-ended k (m ∷ ms) rest r s h f = (refl, f m h.1)

-- ---- a turn of a loop

-- What each element and those after it have: its own below a step, and then theirs.
module _ {T : Type 0} (all : ℕ → List T → List MisfitView) (one : T → List MisfitView) (rest : T → ℕ → List T → List MisfitView) (step : ℕ
    → T → Text)
    (each : (i : ℕ) (x : T) (xs : List T) → all i (x ∷ xs) ≡ below (step i x) (one x) ++ rest x (suc i) xs)
    (xs : List T) (i : ℕ) (x : T) (more : i < length xs) (is : x ≡ get_or xs i x) where
  -- the elements from this one on
  pub at-drop : drop i xs ≡ x ∷ drop (suc i) xs
  at-drop = drop-cons xs i x more ∙ ap (λ y. y ∷ drop (suc i) xs) (sym is)

  turn : all i (drop i xs) ≡ below (step i x) (one x) ++ rest x (suc i) (drop (suc i) xs)
  turn = ap (all i) at-drop ∙ each i x (drop (suc i) xs)

  pub turn-passed : slice_get (one x) 0 ≡ None → slice_get (rest x (i + 1) (drop (i + 1) xs)) 0 ≡ slice_get (all i (drop i xs)) 0
  turn-passed g =
      ap (λ j. slice_get (rest x j (drop j xs)) 0) (add-one i)
      ∙ sym (ap (λ ms. slice_get ms 0) turn ∙ below-after (step i x) (one x) (rest x (suc i) (drop (suc i) xs)) g)

  pub turn-ended : {R A : Type 0} (tells : R → MisfitView → Type 0) (good bad end good-2 : A) (r s : R) (ns : List MisfitView)
      → slice_get (all i (drop i xs)) 0 ≡ slice_get ns 0
      → (end ≡ good → ⊥) → Reports tells (one x) good bad end r → ((m : MisfitView) → tells r m → tells s (below_step (step i x) m))
      → Reports tells ns good-2 bad bad s
  turn-ended tells good bad end good-2 r s ns e out h f =
      reports-like tells good-2 bad bad (below (step i x) (one x)
      ++ rest x (suc i) (drop (suc i) xs)) ns s (ap (λ ms. slice_get ms 0) (sym turn) ∙ e)
      (below-ended tells good bad end good-2 bad out (step i x) (one x) (rest x (suc i) (drop (suc i) xs)) r s h f)

-- A walk over a list, where the marks after an element are those before the next.
pub walk-passed : {T R : Type 0} (all : Marks → ℕ → List T → List MisfitView) (past : Marks → List T → Marks) (one : T
    → List MisfitView) (after : T → Marks) (step : ℕ → T → Text) (w v : Marks)
    → ((i : ℕ) (x : T) (xs : List T) → all w i (x ∷ xs) ≡ below (step i x) (one x) ++ all (after x) (suc i) xs)
    → ((x : T) (xs : List T) → past w (x ∷ xs) ≡ past (after x) xs)
    → (xs : List T) (i : ℕ) (x : T) → i < length xs → x ≡ get_or xs i x → (tells : R → MisfitView → Type 0) (r : R)
    → Reports tells (one x) (Some (after x)) None (Some v) r
    → (slice_get (all v (i + 1) (drop (i + 1) xs)) 0 ≡ slice_get (all w i (drop i xs)) 0) × (past v (drop (i + 1) xs) ≡ past w (drop i xs))
walk-passed all past one after step w v each each-past xs i x more is tells r h =
    let parts = passed tells (Some (after x)) None (Some v) (one x) r (λ e. absurd cc) h in
    let some : Some v ≡ Some (after x) = parts.1 in
    let marks : v ≡ after x = cc in
    let here = at-drop (all w) one (λ y. all (after y)) step each xs i x more is in (
      ap (λ u. slice_get (all u (i + 1) (drop (i + 1) xs)) 0) marks
          ∙ turn-passed (all w) one (λ y. all (after y)) step each xs i x more is parts.0,
      ap (λ u. past u (drop (i + 1) xs)) marks
          ∙ (ap (λ j. past (after x) (drop j xs)) (add-one i) ∙ sym (ap (past w) here ∙ each-past x (drop (suc i) xs))),
    )
