-- Lines by the paths that they mention: how they part, and a strict order of them by ranks.
use Rattle.std.proofs.Common.{◌≡◌, refl, sym, ◌∙◌, ap, subst, ℕ, suc, ◌+◌, ◌<◌, ◌≤◌, arith, Bool, true, false, List, [], ◌∷◌, ◌++◌, length}
use Rattle.std.proofs.Common.{inl, inr}
use Rattle.std.specs.Prelude.{◌||◌, nat_lt, if◌then◌else◌}
use Rattle.std.specs.List.{list_any}
use Rattle.std.proofs.lemmas.Bool.{cases_Bool, or_cases, ltb-true, lt-ltb}
use Rattle.std.proofs.lemmas.List.{length-append}
use Rattle.toml_edit_model.specs.Text.{Text, same_text, one}
use Rattle.toml_edit_model.specs.Paths.{Step, at_key, Path, same_step, same_path, to_key}
use Rattle.toml_edit_laws.proofs.common.Tests.{and_left, and_right, false-by, same_text-is}
use Rattle.toml_edit_laws.proofs.common.PathLaws.{same_path-is, same_path-refl, same_path-swap, same_path-key, is_front, front-more}
use Rattle.toml_edit_laws.proofs.common.PathLaws.{front-through, front-keys}

-- ---- paths

-- the paths of a line below a path
abbrev pub line_paths : Path → List Text → List Path
line_paths b [] = []
line_paths b (k ∷ ks) = to_key b k ∷ line_paths (to_key b k) ks

abbrev pub names : Path → List Path → Bool
names q ps = list_any (same_path q) ps

-- neither list of keys is at the front of the other
abbrev pub part_keys : List Text → List Text → Bool
part_keys [] ls = false
part_keys (k ∷ ks) [] = false
part_keys (k ∷ ks) (l ∷ ls) = if same_text k l then part_keys ks ls else true

key-length : (p : Path) (k : Text) → length (to_key p k) ≡ length p + 1
key-length p k = length-append p (one (at_key k))

pub key-front : (p q : Path) (k l : Text) → to_key p k ≡ to_key q l → p ≡ q
key-front [] [] k l h = refl
key-front [] (t ∷ []) k l h = absurd cc
key-front [] (t ∷ u ∷ q) k l h = absurd cc
key-front (s ∷ []) [] k l h = absurd cc
key-front (s ∷ u ∷ p) [] k l h = absurd cc
key-front (s ∷ p) (t ∷ q) k l h =
    let rest : to_key p k ≡ to_key q l = cc in
    let first : s ≡ t = cc in
    let more : p ≡ q = key-front p q k l rest in
    cc

-- what a line names goes on from the path above it
named-below : (b q : Path) (ks : List Text) → names q (line_paths b ks) ≡ true → (is_front b q ≡ true) × (length b < length q)
named-below b q [] h = absurd cc
named-below b q (k ∷ ks) h =
    elim (or_cases (same_path q (to_key b k)) (names q (line_paths (to_key b k) ks)) h) [
      | inl e ↦
          let is : q ≡ to_key b k = same_path-is q (to_key b k) e in
          let long : length (to_key b k) ≡ length b + 1 = key-length b k in (
            subst (λ r. is_front b r ≡ true) (sym is) (front-more b (one (at_key k))),
            subst (λ r. length b < length r) (sym is) (omega arith),
          )
      | inr e ↦
          let rest = named-below (to_key b k) q ks e in
          let deep : length (to_key b k) < length q = rest.1 in
          let long : length (to_key b k) ≡ length b + 1 = key-length b k in
          (front-through b (to_key b k) q (front-more b (one (at_key k))) rest.0, omega arith)
    ]

-- a shorter path at the front of one with a last key is at the front of the rest
front-drop : (p q : Path) (s : Step) → is_front p (q ++ (s ∷ [])) ≡ true → length p ≤ length q → is_front p q ≡ true
front-drop [] q s h g = refl
front-drop (t ∷ p) [] s h g = absurd (let bad : suc (length p) ≤ 0 = g in omega arith)
front-drop (t ∷ p) (u ∷ q) s h g =
    rw (and_left (same_step t u) (is_front p (q ++ (s ∷ []))) h)
    (front-drop p q s (and_right (same_step t u) (is_front p (q ++ (s ∷ []))) h) (let less : suc (length p) ≤ suc (length q) = g in
    omega arith))

front-below : (b q : Path) (k : Text) (ks : List Text) → names (to_key q k) (line_paths b ks) ≡ true → is_front b q ≡ true
front-below b q k ks h =
    let below = named-below b (to_key q k) ks h in
    let deep : length b < length (to_key q k) = below.1 in
    let long : length (to_key q k) ≡ length q + 1 = key-length q k in
    front-drop b q (at_key k) below.0 (omega arith)

-- ---- the strict order

abbrev pub strict : (Path → ℕ) → List Path → List Path → Bool
strict r [] qs = false
strict r (p ∷ ps) [] = false
strict r (p ∷ ps) (q ∷ qs) = if same_path p q then strict r ps qs else nat_lt (r p) (r q)

abbrev pub stands : (Path → ℕ) → List Path → List Path → Bool
stands r [] qs = true
stands r (p ∷ ps) [] = true
stands r (p ∷ ps) (q ∷ qs) = if same_path p q then stands r ps qs else nat_lt (r p) (r q)

pub strict-not-back : (r : Path → ℕ) (ps qs : List Path) → strict r ps qs ≡ true → strict r qs ps ≡ true → ⊥
strict-not-back r [] qs h g = absurd cc
strict-not-back r (p ∷ ps) [] h g = absurd cc
strict-not-back r (p ∷ ps) (q ∷ qs) h g =
    elim (cases_Bool (same_path p q)) [
      | inl e ↦ strict-not-back r ps qs (let f = rw e at h in f) (let f = rw (same_path-swap q p ∙ e) at g in f)
      | inr e ↦
          let a : r p < r q = ltb-true (r p) (r q) (let f = rw e at h in f) in
          let b : r q < r p = ltb-true (r q) (r p) (let f = rw (same_path-swap q p ∙ e) at g in f) in
          omega arith
    ]

pub strict-through : (r : Path → ℕ) (ps qs os : List Path) → strict r ps qs ≡ true → strict r qs os ≡ true → strict r ps os ≡ true
strict-through r [] qs os h g = absurd cc
strict-through r (p ∷ ps) [] os h g = absurd cc
strict-through r (p ∷ ps) (q ∷ qs) [] h g = absurd cc
strict-through r (p ∷ ps) (q ∷ qs) (o ∷ os) h g =
    elim (cases_Bool (same_path p q)) [
      | inl e ↦
          let is : p ≡ q = same_path-is p q e in
          let first = rw e at h in
          elim (cases_Bool (same_path q o)) [
            | inl f ↦
                let same : same_path p o ≡ true = subst (λ x. same_path x o ≡ true) (sym is) f in
                let second = rw f at g in
                rw same (strict-through r ps qs os first second)
            | inr f ↦
                let apart : same_path p o ≡ false = subst (λ x. same_path x o ≡ false) (sym is) f in
                let second : nat_lt (r q) (r o) ≡ true = rw f at g in
                rw apart (subst (λ x. nat_lt (r x) (r o) ≡ true) (sym is) second)
          ]
      | inr e ↦
          let first : nat_lt (r p) (r q) ≡ true = rw e at h in
          let a : r p < r q = ltb-true (r p) (r q) first in
          elim (cases_Bool (same_path q o)) [
            | inl f ↦
                let is : q ≡ o = same_path-is q o f in
                let apart : same_path p o ≡ false = subst (λ x. same_path p x ≡ false) is e in
                rw apart (subst (λ x. nat_lt (r p) (r x) ≡ true) is first)
            | inr f ↦
                let second : nat_lt (r q) (r o) ≡ true = rw f at g in
                let b : r q < r o = ltb-true (r q) (r o) second in
                let less : nat_lt (r p) (r o) ≡ true = lt-ltb (r p) (r o) (omega arith) in
                let apart : same_path p o ≡ false =
                false-by (same_path p o) (λ s. let is : p ≡ o = same_path-is p o s in let c : r p ≡ r o = ap r is in omega arith) in
                rw apart less
          ]
    ]

-- ---- lines that part

pub strict-stands : (r : Path → ℕ) (b : Path) (ks ls : List Text) → part_keys ks ls ≡ true → strict r (line_paths b ks) (line_paths b ls)
    ≡ stands r (line_paths b ks) (line_paths b ls)
strict-stands r b [] ls h = absurd cc
strict-stands r b (k ∷ ks) [] h = absurd cc
strict-stands r b (k ∷ ks) (l ∷ ls) h =
    elim (cases_Bool (same_text k l)) [
      | inl e ↦
          let rest : part_keys ks ls ≡ true = rw e at h in
          rw (same_path-key b k l ∙ e)
          (subst (λ m. strict r (line_paths (to_key b k) ks) (line_paths (to_key b m) ls)
          ≡ stands r (line_paths (to_key b k) ks) (line_paths (to_key b m) ls)) (same_text-is k l e)
          (strict-stands r (to_key b k) ks ls rest))
      | inr e ↦ rw (same_path-key b k l ∙ e) refl
    ]

-- Where the first of two lines doesn't stand before the second, the second does: by what holds where they part.
pub stands-back : (r : Path → ℕ) (b : Path) (ks ls : List Text)
    → ((q : Path) (k l : Text) → same_text k l ≡ false → names (to_key q k) (line_paths b ks) ≡ true → names (to_key q l) (line_paths b ls)
    ≡ true
    → nat_lt (r (to_key q k)) (r (to_key q l)) ≡ false → nat_lt (r (to_key q l)) (r (to_key q k)) ≡ true)
    → stands r (line_paths b ks) (line_paths b ls) ≡ false → strict r (line_paths b ls) (line_paths b ks) ≡ true
stands-back r b [] ls f h = absurd cc
stands-back r b (k ∷ ks) [] f h = absurd cc
stands-back r b (k ∷ ks) (l ∷ ls) f h =
    elim (cases_Bool (same_text k l)) [
      | inl e ↦
          let is : k ≡ l = same_text-is k l e in
          let here : same_path (to_key b k) (to_key b l) ≡ true = same_path-key b k l ∙ e in
          let rest : stands r (line_paths (to_key b k) ks) (line_paths (to_key b l) ls) ≡ false = rw here at h in
          rw (same_path-swap (to_key b l) (to_key b k) ∙ here)
          (subst (λ m. strict r (line_paths (to_key b m) ls) (line_paths (to_key b k) ks) ≡ true) is
          (stands-back r (to_key b k) ks ls
          (λ q i j apart a c.
          f q i j apart (ap (λ x. same_path (to_key q i) (to_key b k) || x) a ∙ or-right-true (same_path (to_key q i) (to_key b k)))
          (ap (λ x. same_path (to_key q j) (to_key b l) || x) (subst (λ m. names (to_key q j) (line_paths (to_key b m) ls) ≡ true) is c)
          ∙ or-right-true (same_path (to_key q j) (to_key b l))))
          (subst (λ m. stands r (line_paths (to_key b k) ks) (line_paths (to_key b m) ls) ≡ false) (sym is) rest)))
      | inr e ↦
          let here : same_path (to_key b k) (to_key b l) ≡ false = same_path-key b k l ∙ e in
          let less : nat_lt (r (to_key b k)) (r (to_key b l)) ≡ false = rw here at h in
          rw (same_path-swap (to_key b l) (to_key b k) ∙ here)
          (f b k l e (ap (λ x. x || names (to_key b k) (line_paths (to_key b k) ks)) (same_path-refl (to_key b k)))
          (ap (λ x. x || names (to_key b l) (line_paths (to_key b l) ls)) (same_path-refl (to_key b l))) less)
    ]
  where
    or-right-true : (x : Bool) → (x || true) ≡ true
    or-right-true true = refl
    or-right-true false = refl

-- The order of lines in one ranking is that in another which keeps the order of keys below one path.
pub stands-kept : (r u : Path → ℕ) (b : Path) (ks ls : List Text)
    → ((q : Path) (k l : Text) → same_text k l ≡ false → nat_lt (r (to_key q k)) (r (to_key q l)) ≡ true
    → nat_lt (u (to_key q k)) (u (to_key q l)) ≡ true)
    → strict r (line_paths b ks) (line_paths b ls) ≡ true → stands u (line_paths b ks) (line_paths b ls) ≡ true
stands-kept r u b [] ls f h = absurd cc
stands-kept r u b (k ∷ ks) [] f h = absurd cc
stands-kept r u b (k ∷ ks) (l ∷ ls) f h =
    elim (cases_Bool (same_text k l)) [
      | inl e ↦
          let is : k ≡ l = same_text-is k l e in
          let here : same_path (to_key b k) (to_key b l) ≡ true = same_path-key b k l ∙ e in
          let rest : strict r (line_paths (to_key b k) ks) (line_paths (to_key b l) ls) ≡ true = rw here at h in
          rw here
          (subst (λ m. stands u (line_paths (to_key b k) ks) (line_paths (to_key b m) ls) ≡ true) is
          (stands-kept r u (to_key b k) ks ls f (subst (λ m. strict r (line_paths (to_key b k) ks) (line_paths (to_key b m) ls)
          ≡ true) (sym is) rest)))
      | inr e ↦
          let here : same_path (to_key b k) (to_key b l) ≡ false = same_path-key b k l ∙ e in
          let less : nat_lt (r (to_key b k)) (r (to_key b l)) ≡ true = rw here at h in
          rw here (f b k l e less)
    ]

-- Two lines that name two keys below one path part there.
pub parts-there : (r : Path → ℕ) (b q : Path) (k l : Text) (ks ls : List Text) → same_text k l ≡ false
    → names (to_key q k) (line_paths b ks) ≡ true → names (to_key q l) (line_paths b ls) ≡ true
    → strict r (line_paths b ks) (line_paths b ls) ≡ nat_lt (r (to_key q k)) (r (to_key q l))
parts-there r b q k l [] ls apart h g = absurd cc
parts-there r b q k l (i ∷ ks) [] apart h g = absurd cc
parts-there r b q k l (i ∷ ks) (j ∷ ls) apart h g =
    elim (or_cases (same_path (to_key q k) (to_key b i)) (names (to_key q k) (line_paths (to_key b i) ks)) h) [
      | inl a ↦
          let first : to_key q k ≡ to_key b i = same_path-is (to_key q k) (to_key b i) a in
          let same : q ≡ b = key-front q b k i first in
          elim (or_cases (same_path (to_key q l) (to_key b j)) (names (to_key q l) (line_paths (to_key b j) ls)) g) [
            | inl c ↦
                let second : to_key q l ≡ to_key b j = same_path-is (to_key q l) (to_key b j) c in
                let two : same_path (to_key b i) (to_key b j) ≡ false =
                ap (λ x. same_path x (to_key b j)) (sym first) ∙ ap (same_path (to_key q k)) (sym second) ∙ same_path-key q k l ∙ apart in
                rw two (ap (λ x. nat_lt (r x) (r (to_key b j))) (sym first) ∙ ap (λ x. nat_lt (r (to_key q k)) (r x)) (sym second))
            | inr c ↦
                let below = named-below (to_key b j) (to_key q l) ls c in
                let deep : length (to_key b j) < length (to_key q l) = below.1 in
                let x : length (to_key b j) ≡ length b + 1 = key-length b j in
                let y : length (to_key q l) ≡ length q + 1 = key-length q l in
                let z : length q ≡ length b = ap length same in
                absurd (omega arith)
          ]
      | inr a ↦
          let front : is_front (to_key b i) q ≡ true = front-below (to_key b i) q k ks a in
          elim (or_cases (same_path (to_key q l) (to_key b j)) (names (to_key q l) (line_paths (to_key b j) ls)) g) [
            | inl c ↦
                let second : to_key q l ≡ to_key b j = same_path-is (to_key q l) (to_key b j) c in
                let same : q ≡ b = key-front q b l j second in
                let below = named-below (to_key b i) (to_key q k) ks a in
                let deep : length (to_key b i) < length (to_key q k) = below.1 in
                let x : length (to_key b i) ≡ length b + 1 = key-length b i in
                let y : length (to_key q k) ≡ length q + 1 = key-length q k in
                let z : length q ≡ length b = ap length same in
                absurd (omega arith)
            | inr c ↦
                let keys_same : same_text i j ≡ true = front-keys b q i j front (front-below (to_key b j) q l ls c) in
                let is : i ≡ j = same_text-is i j keys_same in
                rw (same_path-key b i j ∙ keys_same)
                (subst (λ m. strict r (line_paths (to_key b i) ks) (line_paths (to_key b m) ls)
                ≡ nat_lt (r (to_key q k)) (r (to_key q l))) is
                (parts-there r (to_key b i) q k l ks ls apart a (subst (λ m. names (to_key q l) (line_paths (to_key b m) ls)
                ≡ true) (sym is) c)))
          ]
    ]
