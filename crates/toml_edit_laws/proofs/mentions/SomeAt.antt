-- Mentions below a step, and whether some mention at a path has a role.
use Rattle.std.proofs.Common.{Bool, List, ◌≡◌, ◌++◌, append_assoc, ap, sym, refl, ◌∙◌, ◌∷◌, inl, inr, false, true, ℕ, []}
use Rattle.std.proofs.lemmas.List.Folds.{list_any-append}
use Rattle.toml_edit_model.specs.Paths.{same_path, Path, Mention, Step, same_step, mention_of}
use Rattle.std.specs.Prelude.{◌&&◌, ◌||◌}
use Rattle.std.proofs.lemmas.Bool.{cases_Bool, or_from}
use Rattle.toml_edit_laws.proofs.common.Tests.{true-false, or-left, or-right, append-nil, or-true}
use Rattle.toml_edit_model.specs.Syntax.{Segment}
use Rattle.toml_edit_laws.proofs.common.Members.{Among}
use Rattle.toml_edit_laws.proofs.common.PathLaws.{same_path-refl}
use Rattle.toml_edit_laws.proofs.mentions.RoleTests.{implies}
use Rattle.toml_edit_model.specs.Roles.{Role, any_role}
use Rattle.toml_edit_model.specs.TableMentions.{some_at, inside, under}

pub some_at-append : {S : Type 0} (test : Role → Bool) (p : Path) (xs ys : List (Mention S)) → some_at test p (xs ++ ys)
    ≡ (some_at test p xs || some_at test p ys)
some_at-append test p xs ys = list_any-append (λ m. same_path m.path p && test m.role) xs ys

pub under-append : {S : Type 0} (s : Step) (xs ys : List (Mention S)) → under s (xs ++ ys) ≡ under s xs ++ under s ys
under-append s [] ys = refl
under-append s (m ∷ xs) ys = ap (λ zs. inside s m m.path ++ zs) (under-append s xs ys)
    ∙ sym (append_assoc (inside s m m.path) (under s xs) (under s ys))

pub some_at-under : {S : Type 0} (test : Role → Bool) (s : Step) (q : Path) (ms : List (Mention S)) → some_at test q (under s ms)
    ≡ some_at test (s ∷ q) ms
some_at-under test s q [] = refl
some_at-under {S = S} test s q (m ∷ ms) = by_path m.path (some_at-under test s q ms)
  where
    by_path : (p : Path) → some_at test q (under s ms) ≡ some_at test (s ∷ q) ms
        → some_at test q (inside s m p ++ under s ms) ≡ some_at test (s ∷ q) ((record m { path = p }) ∷ ms)
    by_path [] ih = ih
    by_path (t ∷ p) ih =
        elim (cases_Bool (same_step t s)) [
          | inl e ↦ rw e (ap (λ b. (same_path p q && test m.role) || b) ih)
          | inr e ↦ rw e ih
        ]

pub some_at-less : {S : Type 0} (less more : Role → Bool) (p : Path) (ms : List (Mention S))
    → ((r : Role) → implies (less r) (more r) ≡ true) → some_at more p ms ≡ false → some_at less p ms ≡ false
some_at-less less more p [] h e = refl
some_at-less less more p (m ∷ ms) h e =
    or_from (same_path m.path p && less m.role) (some_at less p ms)
    (by_test (same_path m.path p) (less m.role) (more m.role) (h m.role)
    (or-left (same_path m.path p && more m.role) (some_at more p ms) e))
    (some_at-less less more p ms h (or-right (same_path m.path p && more m.role) (some_at more p ms) e))
  where
    by_test : (a b c : Bool) → implies b c ≡ true → (a && c) ≡ false → (a && b) ≡ false
    by_test true true c h e = true-false c h e
    by_test true false c h e = refl
    by_test false b c h e = refl

-- the same mention as its own table sees it
abbrev pub own_mention : {S : Type 0} → S → ℕ → Role → Segment → Mention S
own_mention source start role g = mention_of source start [] role g

pub under-own-mention : {S : Type 0} (source : S) (start : ℕ) (role : Role) (g : Segment) (us : List (Mention S)) (s : Step)
    → under s us ≡ under s (us ++ (own_mention source start role g ∷ []))
under-own-mention source start role g us s = sym (under-append s us (own_mention source start role g ∷ []) ∙ append-nil (under s us))

pub among-test : {S : Type 0} (test : Role → Bool) (m : Mention S) (ms : List (Mention S)) → Among m ms → test m.role ≡ true
    → some_at test m.path ms ≡ true
among-test test m [] h e = elim h [ ]
among-test test m (n ∷ ms) (inl g) e =
    ap (λ (x : Mention _). (same_path x.path m.path && test x.role) || some_at test m.path ms) (sym g)
    ∙ ap (λ b. (b && test m.role) || some_at test m.path ms) (same_path-refl m.path)
    ∙ ap (λ b. b || some_at test m.path ms) e
among-test test m (n ∷ ms) (inr h) e =
    ap (λ b. (same_path n.path m.path && test n.role) || b) (among-test test m ms h e) ∙ or-true (same_path n.path m.path && test n.role)

pub any-test : {S : Type 0} (test : Role → Bool) (p : Path) (ms : List (Mention S)) → some_at any_role p ms ≡ false → some_at test p ms
    ≡ false
any-test test p [] h = refl
any-test test p (m ∷ ms) h =
    or_from (same_path m.path p && test m.role) (some_at test p ms)
    (by_path (same_path m.path p) (or-left (same_path m.path p && true) (some_at any_role p ms) h))
    (any-test test p ms (or-right (same_path m.path p && true) (some_at any_role p ms) h))
  where
    by_path : (b : Bool) → (b && true) ≡ false → (b && test m.role) ≡ false
    by_path true e = absurd cc
    by_path false e = refl
