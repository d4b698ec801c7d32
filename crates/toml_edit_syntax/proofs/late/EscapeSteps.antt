-- The first late escape behind a byte that is none, and behind a backslash and its byte.
use Rattle.std.proofs.Common.{◌≡◌, refl, sym, ap, ◌∙◌, ℕ, ◌+◌, ◌-◌, ◌≤◌, true, false, ◌==◌, [], ◌∷◌, length, take, drop, get_or, arith}
use Rattle.std.proofs.Common.{None}
use Rattle.std.proofs.lemmas.Bool.Decides.{nat_tests}
use Rattle.std.proofs.Math.Seq.{take-length}
use Rattle.toml_edit_model.specs.Text.{Text, backslash}
use Rattle.toml_edit_syntax.specs.LateSpellings.{escape_at, first_escape}

take_all : (t : Text) (n : ℕ) → n ≡ length t → take n t ≡ t
take_all t n e = ap (λ (m : ℕ). take m t) e ∙ take-length t

pub first_steps : (i c : ℕ) (t : Text) → (c == backslash) ≡ false → first_escape i (c ∷ t) ≡ first_escape (i + 1) t
first_steps i c [] other = refl
first_steps i c (d ∷ t) other = rw other refl

pub one_on : (i : ℕ) (t : Text) → 1 ≤ length t → (get_or t 0 0 ≡ 92 → ⊥) → first_escape (i + 1) (take (length t - 1) (drop 1 t))
    ≡ first_escape i t
one_on i [] some other = absurd (omega arith)
one_on i (c ∷ t) some other =
    let no : (c == backslash) ≡ false = grind (arith, nat_tests) in
    ap (first_escape (i + 1)) (take_all t (length (c ∷ t) - 1) (omega arith)) ∙ sym (first_steps i c t no)

passes : (i c : ℕ) (t : Text) → (c == backslash) ≡ true → 1 ≤ length t → escape_at i t ≡ None
    → first_escape (i + 2) (take (length t - 1) (drop 1 t)) ≡ first_escape i (c ∷ t)
passes i c [] is some none = absurd (omega arith)
passes i c (d ∷ t) is some none = ap (first_escape (i + 2)) (take_all t (length (d ∷ t) - 1) (omega arith)) ∙ sym (rw (is, none) refl)

two_of : (i : ℕ) (t : Text) → 1 ≤ length t → get_or t 0 0 ≡ 92 → (u : Text) → u ≡ take (length t - 1) (drop 1 t) → 1 ≤ length u
    → escape_at i u ≡ None
    → first_escape (i + 2) (take (length u - 1) (drop 1 u)) ≡ first_escape i t
two_of i [] some is u same more none = absurd (omega arith)
two_of i (c ∷ t) some is u same more none =
    let yes : (c == backslash) ≡ true = grind (arith, nat_tests) in
    passes i c u yes more none ∙ ap (λ (x : Text). first_escape i (c ∷ x)) (same ∙ take_all t (length (c ∷ t) - 1) (omega arith))

pub two_on : (i : ℕ) (t : Text) → 1 ≤ length t → get_or t 0 0 ≡ 92 → 1 ≤ length (take (length t - 1) (drop 1 t))
    → escape_at i (take (length t - 1) (drop 1 t)) ≡ None
    → first_escape (i + 2) (take (length (take (length t - 1) (drop 1 t)) - 1) (drop 1 (take (length t - 1) (drop 1 t)))) ≡ first_escape i t
two_on i t some is more none = two_of i t some is (take (length t - 1) (drop 1 t)) refl more none
