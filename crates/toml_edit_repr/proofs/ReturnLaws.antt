-- Texts without their carriage returns, by the first of them.
use Rattle.std.proofs.Common.{◌≡◌, refl, sym, ap, ◌∙◌, ℕ, zero, suc, ◌<◌, ◌==◌, arith, Bool, true, false, cond, not, [], ◌∷◌, ◌++◌, length}
use Rattle.std.proofs.Common.{take, drop, get_or}
use Rattle.std.proofs.lemmas.Bool.{false≢true}
use Rattle.std.proofs.lemmas.List.Folds.{list_any_at}
use Rattle.toml_edit_model.specs.Text.{Text, carriage_return, has_byte, without_returns}

-- no byte below the place is a carriage return
abbrev pub NoneBelow : ℕ → Text → Type 0
NoneBelow n t = (k : ℕ) → k < n → (get_or t k 0 == carriage_return) ≡ true → ⊥

-- a byte that is none stays
passed : (b : Bool) (x : ℕ) (s t : Text) → (b ≡ true → ⊥) → s ≡ t → cond (not b) (x ∷ s) s ≡ x ∷ t
passed true x s t no-return e = absurd (no-return refl)
passed false x s t no-return e = ap (λ u. x ∷ u) e

-- one goes
dropped : (b : Bool) (x : ℕ) (s : Text) → b ≡ true → cond (not b) (x ∷ s) s ≡ s
dropped true x s h = refl
dropped false x s h = cc

-- nor does one stand below the place in the tail
below_tail : (n x : ℕ) (t : Text) → NoneBelow (suc n) (x ∷ t) → NoneBelow n t
below_tail n x t none k h = none (suc k) (omega arith)

-- a text without any is as it was
pub without_none : (t : Text) → NoneBelow (length t) t → without_returns t ≡ t
without_none [] none = refl
without_none (x ∷ t) none =
    passed (x == carriage_return) x (without_returns t) t (none 0 (omega arith)) (without_none t (below_tail (length t) x t none))

-- what stands before the first, and the text after it without the others
pub without_first : (n : ℕ) (t : Text) → n < length t → NoneBelow n t → (get_or t n 0 == carriage_return) ≡ true
    → without_returns t ≡ take n t ++ without_returns (drop (suc n) t)
without_first n [] h none here = absurd (omega arith)
without_first zero (x ∷ t) h none here = dropped (x == carriage_return) x (without_returns t) here
without_first (suc n) (x ∷ t) h none here =
    passed (x == carriage_return) x (without_returns t) (take n t ++ without_returns (drop (suc n) t)) (none 0 (omega arith))
    (without_first n t (omega arith) (below_tail n x t none) here)

-- where no byte is a carriage return, the text is as it was
pub without_absent : (t : Text) → has_byte carriage_return t ≡ false → without_returns t ≡ t
without_absent t absent =
    without_none t (λ k below here. false≢true (sym absent ∙ list_any_at (λ b. b == carriage_return) t k 0 below here))
