-- White space has no carriage returns, and is shown as it is.
use Rattle.std.proofs.Common.{◌≡◌, refl, ap, subst, ℕ, Bool, true, false, [], ◌∷◌}
use Rattle.std.specs.Prelude.{not, ◌==◌, if◌then◌else◌}
use Rattle.std.proofs.lemmas.Bool.Decides.{Decides-eqb}
use Rattle.toml_edit_model.specs.Text.{Text, carriage_return, without_returns}
use Rattle.toml_edit_model.specs.Mode.{Mode, plain, exact, shown_text}
use Rattle.toml_edit_model.specs.Trivia.{is_blank, IsWhiteSpace}
use Rattle.toml_edit_laws.proofs.common.Tests.{and_left, and_right, false-by}

blank-return : (c : ℕ) → is_blank c ≡ true → (c == carriage_return) ≡ false
blank-return c h = false-by (c == carriage_return) (λ e. no (subst (λ x. is_blank x ≡ true) ((Decides-eqb c carriage_return).0 e) h))
  where
    no : is_blank carriage_return ≡ true → ⊥
    no h = cc

pub white-returns : (t : Text) → IsWhiteSpace t → without_returns t ≡ t
white-returns [] h = refl
white-returns (c ∷ t) h =
    by_test (c == carriage_return) (blank-return c (and_left (is_blank c) _ h)) (white-returns t (and_right (is_blank c) _ h))
  where
    by_test : (b : Bool) → b ≡ false → without_returns t ≡ t → (if not b then c ∷ without_returns t else without_returns t) ≡ c ∷ t
    by_test true e ih = cc
    by_test false e ih = ap (λ u. c ∷ u) ih

pub white-shown : (mode : Mode) (t : Text) → IsWhiteSpace t → shown_text mode t ≡ t
white-shown plain t h = white-returns t h
white-shown exact t h = refl

pub shown-none : (mode : Mode) → shown_text mode [] ≡ []
shown-none plain = refl
shown-none exact = refl
