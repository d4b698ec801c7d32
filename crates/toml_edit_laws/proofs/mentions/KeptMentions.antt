-- Mentions one step down, and those that slots are kept from.
use Rattle.std.proofs.Common.{◌≡◌, refl, sym, ap, subst, ◌∙◌, inl, inr, true, false, Bool, List, [], ◌∷◌, ◌++◌}
use Rattle.std.specs.Prelude.{◌&&◌, ◌||◌, not, if◌then◌else◌}
use Rattle.std.proofs.lemmas.List.Folds.{list_any-append}
use Rattle.toml_edit_model.specs.Paths.{Step, Path, same_step, same_path, Mention}
use Rattle.toml_edit_laws.proofs.common.Tests.{and_left, and_right, or-left, not-true, true-false}
use Rattle.toml_edit_laws.proofs.common.Members.{Among, among-left, among-right, among-cases}
use Rattle.toml_edit_laws.proofs.common.PathLaws.{same_step-refl, same_step-is, same_path-refl, same_path-is}
use Rattle.toml_edit_model.specs.Roles.{is_header_role, any_role}
use Rattle.toml_edit_model.specs.TableMentions.{inside, under, some_at, is_single, is_slot, kept_from}

-- the mention with another path
abbrev pub moved : {S : Type 0} → Mention S → Path → Mention S
moved m p = record m { path = p }

-- ---- one step down

inside-has : {S : Type 0} (s : Step) (m : Mention S) (p q : Path) → p ≡ s ∷ q → Among (moved m q) (inside s m p)
inside-has s m p q e = subst (λ x. Among (moved m q) (inside s m x)) (sym e) (by_test (same_step s s) (same_step-refl s))
  where
    by_test : (b : Bool) → b ≡ true → Among (moved m q) (if b then moved m q ∷ [] else [])
    by_test true e = inl refl
    by_test false e = absurd cc

inside-is : {S : Type 0} (s : Step) (m n : Mention S) (p : Path) → Among n (inside s m p) → (p ≡ s ∷ n.path) × (n ≡ moved m n.path)
inside-is s m n [] h = elim h [ ]
inside-is {S} s m n (t ∷ p) h = by_test (same_step t s) refl h
  where
    by_test : (b : Bool) → same_step t s ≡ b → Among n (if b then moved m p ∷ [] else []) → (t ∷ p ≡ s ∷ n.path) × (n ≡ moved m n.path)
    by_test true e (inl g) =
        let step = same_step-is t s e in
        let path : n.path ≡ p = ap (λ k. k.path) g in (
          ap (λ x. x ∷ p) step ∙ ap (λ x. s ∷ x) (sym path),
          g ∙ ap (moved m) (sym path),
        )
    by_test true e (inr g) = elim g [ ]
    by_test false e g = elim g [ ]

pub under-has : {S : Type 0} (s : Step) (q : Path) (m : Mention S) (ms : List (Mention S)) → Among m ms → m.path ≡ s ∷ q
    → Among (moved m q) (under s ms)
under-has s q m [] h e = elim h [ ]
under-has s q m (n ∷ ms) (inl g) e =
    among-left (moved m q) (inside s n n.path) (under s ms)
    (subst (λ k. Among (moved m q) (inside s k k.path)) g (inside-has s m m.path q e))
under-has s q m (n ∷ ms) (inr h) e = among-right (moved m q) (inside s n n.path) (under s ms) (under-has s q m ms h e)

-- what it was one step up
pub record Lifted {S : Type 0} (s : Step) (n : Mention S) (ms : List (Mention S)) : Type 0 where
  pub mention : Mention S
  pub among : Among mention ms
  pub path : mention.path ≡ s ∷ n.path
  pub same : n ≡ moved mention n.path

pub under-is : {S : Type 0} (s : Step) (n : Mention S) (ms : List (Mention S)) → Among n (under s ms) → Lifted s n ms
under-is s n [] h = elim h [ ]
under-is s n (m ∷ ms) h =
    elim (among-cases n (inside s m m.path) (under s ms) h) [
      | inl g ↦
          let is = inside-is s m n m.path g in
          record { mention = m; among = inl refl; path = is.0; same = is.1 }
      | inr g ↦
          let up = under-is s n ms g in
          record { mention = up.mention; among = inr up.among; path = up.path; same = up.same }
    ]

-- ---- those that slots are kept from

abbrev pub HaveNoHeaders : {S : Type 0} → List (Mention S) → Type 0
HaveNoHeaders {S} ms = (m : Mention S) → Among m ms → is_header_role m.role ≡ false

no-header-at : {S : Type 0} (p : Path) (ms : List (Mention S)) → HaveNoHeaders ms → some_at is_header_role p ms ≡ false
no-header-at p [] h = refl
no-header-at p (m ∷ ms) h =
    by_test (same_path m.path p) (is_header_role m.role) (h m (inl refl)) (no-header-at p ms (λ n a. h n (inr a)))
  where
    by_test : (a b : Bool) → b ≡ false → some_at is_header_role p ms ≡ false → ((a && b) || some_at is_header_role p ms) ≡ false
    by_test true true e ih = absurd cc
    by_test true false e ih = ih
    by_test false b e ih = ih

-- a kept mention is one of all, of one key, that was not mentioned before
pub record Kept {S : Type 0} (before : List (Mention S)) (m : Mention S) (ms : List (Mention S)) : Type 0 where
  pub among : Among m ms
  pub single : is_single m.path ≡ true
  pub fresh : is_header_role m.role ≡ false → some_at any_role m.path before ≡ false

slot-is : {S : Type 0} (before : List (Mention S)) (m : Mention S) (after : List (Mention S)) → is_slot before m after ≡ true
    → (is_single m.path ≡ true) × (is_header_role m.role ≡ false → some_at any_role m.path before ≡ false)
slot-is before m after h = (
  and_left (is_single m.path) _ h,
  λ e. by_test (is_header_role m.role) (some_at any_role m.path before) e
      (and_right (is_single m.path) _ h),
)
  where
    by_test : (a b : Bool) → a ≡ false → (a || (not b && not (some_at is_header_role m.path after))) ≡ true → b ≡ false
    by_test true b e g = absurd cc
    by_test false b e g = not-true b (and_left (not b) _ g)

pub kept-is : {S : Type 0} (before : List (Mention S)) (m : Mention S) (ms : List (Mention S)) → Among m (kept_from before ms)
    → Kept before m ms
kept-is before m [] h = elim h [ ]
kept-is {S} before m (n ∷ ms) h = by_test (λ g. kept-is (before ++ (n ∷ [])) m ms g) (is_slot before n ms) refl h
  where
    later : Kept (before ++ (n ∷ [])) m ms → Kept before m (n ∷ ms)
    later k =
        record {
          among = inr k.among;
          single = k.single;
          fresh =
              λ e. or-left (some_at any_role m.path before) _
              (sym (list_any-append (λ (x : Mention S). same_path x.path m.path && any_role x.role) before (n ∷ [])) ∙ k.fresh e);
        }

    by_test : (Among m (kept_from (before ++ (n ∷ [])) ms) → Kept (before ++ (n ∷ [])) m ms) → (b : Bool) → is_slot before n ms ≡ b
        → Among m (if b then n ∷ kept_from (before ++ (n ∷ [])) ms else kept_from (before ++ (n ∷ [])) ms) → Kept before m (n ∷ ms)
    by_test ih true e (inl g) =
        let is = slot-is before n ms e in
        subst (λ x. Kept before x (n ∷ ms)) (sym g) (record { among = inl refl; single = is.0; fresh = is.1 })
    by_test ih true e (inr g) = later (ih g)
    by_test ih false e g = later (ih g)

-- where a key is mentioned, there is a slot for it
pub kept-has : {S : Type 0} (before : List (Mention S)) (m : Mention S) (ms : List (Mention S)) → HaveNoHeaders ms → Among m ms
    → is_single m.path ≡ true → some_at any_role m.path before ≡ false
    → (k : Mention S) × Among k (kept_from before ms) × (k.path ≡ m.path)
kept-has before m [] none h single new = elim h [ ]
kept-has {S} before m (n ∷ ms) none h single new =
    by_path (λ g f. kept-has (before ++ (n ∷ [])) m ms (λ x a. none x (inr a)) g single f) (same_path n.path m.path) refl
  where
    later : (b : Bool) → ((k : Mention S) × Among k (kept_from (before ++ (n ∷ [])) ms) × (k.path ≡ m.path))
        → (k : Mention S) × Among k (if b then n ∷ kept_from (before ++ (n ∷ [])) ms else kept_from (before ++ (n ∷ [])) ms)
        × (k.path ≡ m.path)
    later true k = (k.0, inr k.1, k.2)
    later false k = k

    here : (b : Bool) → b ≡ true → n.path ≡ m.path
        → (k : Mention S) × Among k (if b then n ∷ kept_from (before ++ (n ∷ [])) ms else kept_from (before ++ (n ∷ [])) ms)
        × (k.path ≡ m.path)
    here true e g = (n, inl refl, g)
    here false e g = absurd cc

    by_parts : (a b c d : Bool) → a ≡ true → c ≡ false → d ≡ false → (a && (b || (not c && not d))) ≡ true
    by_parts true true c d p q r = refl
    by_parts true false false false p q r = refl
    by_parts true false true d p q r = absurd cc
    by_parts true false false true p q r = absurd cc
    by_parts false b c d p q r = absurd cc

    by_path : (Among m ms → some_at any_role m.path (before ++ (n ∷ [])) ≡ false
        → (k : Mention S) × Among k (kept_from (before ++ (n ∷ [])) ms) × (k.path ≡ m.path))
        → (b : Bool) → same_path n.path m.path ≡ b
        → (k : Mention S) × Among k (kept_from before (n ∷ ms)) × (k.path ≡ m.path)
    by_path ih true e =
        let same = same_path-is n.path m.path e in
        here (is_slot before n ms)
        (by_parts (is_single n.path) (is_header_role n.role) (some_at any_role n.path before) (some_at is_header_role n.path ms)
        (subst (λ p. is_single p ≡ true) (sym same) single) (subst (λ p. some_at any_role p before ≡ false) (sym same) new)
        (no-header-at n.path ms (λ x a. none x (inr a))))
        same
    by_path ih false e =
        elim h [
          | inl g ↦ true-false (same_path n.path m.path) (subst (λ x. same_path n.path x.path ≡ true) (sym g) (same_path-refl n.path)) e
          | inr g ↦
              later (is_slot before n ms)
              (ih g
              (list_any-append (λ (x : Mention S). same_path x.path m.path && any_role x.role) before (n ∷ [])
              ∙ ap (λ b. b || ((same_path n.path m.path && true) || false)) new
              ∙ ap (λ b. (b && true) || false) e))
        ]
