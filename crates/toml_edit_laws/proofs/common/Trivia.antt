-- Trivia and line ends: the empty ones, and where there are no line feeds or returns; what is shown of them.
use Rattle.toml_edit_model.specs.Trivia.{IsWholeTrivia, is_visible, Each, IsOpenComment, IsLineEnd, is_blank, IsWhiteSpace}
use Rattle.std.proofs.Common.{refl, false, Bool, true, subst, ℕ, ◌≡◌, ap, ◌∷◌, inl, inr, sym, ◌∙◌, ◌++◌, []}
use Rattle.toml_edit_model.specs.Text.{Text, carriage_return, without_returns, line_feed, has_byte}
use Rattle.toml_edit_model.specs.Mode.{Mode, plain, exact, shown_text}
use Rattle.toml_edit_model.specs.Syntax.{IsClose}
use Rattle.toml_edit_laws.proofs.common.Tests.{false-by, and_right, and_left}
use Rattle.std.proofs.lemmas.Bool.Decides.{Decides-eqb}
use Rattle.std.specs.Prelude.{◌==◌, not, if◌then◌else◌}
use Rattle.std.proofs.lemmas.List.Elements.{filter-append}
use Rattle.toml_edit_laws.proofs.common.WhiteSpace.{white-returns}

pub empty-trivia : IsWholeTrivia []
empty-trivia = ([], tt, refl)

pub close-trivia : (has comma : Bool) (t : Text) → IsClose has comma t → IsWholeTrivia t
close-trivia has true t h = h.0
close-trivia has false t h = h.0

-- a byte that passes a test is no other that doesn't
pub no-byte : (test : ℕ → Bool) (b : ℕ) → (test b ≡ true → ⊥) → (c : ℕ) → test c ≡ true → (c == b) ≡ false
no-byte test b fails c h = false-by (c == b) (λ e. fails (subst (λ x. test x ≡ true) ((Decides-eqb c b).0 e) h))

pub visible-returns : (t : Text) → Each is_visible t → without_returns t ≡ t
visible-returns [] h = refl
visible-returns (c ∷ t) h =
    by_test (c == carriage_return)
    (no-byte is_visible carriage_return (λ e. let clash : is_visible carriage_return ≡ true = e in cc) c (and_left (is_visible c) _ h))
    (visible-returns t (and_right (is_visible c) _ h))
  where
    by_test : (b : Bool) → b ≡ false → without_returns t ≡ t → (if not b then c ∷ without_returns t else without_returns t) ≡ c ∷ t
    by_test true e ih = cc
    by_test false e ih = ap (λ u. c ∷ u) ih

pub open-returns : (t : Text) → IsOpenComment t → without_returns t ≡ t
open-returns t (inl e) = ap without_returns e ∙ sym e
open-returns t (inr h) = ap without_returns h.2 ∙ ap (λ u. 35 ∷ u) (visible-returns h.0 h.1) ∙ sym h.2

pub returns-append : (s t : Text) → without_returns (s ++ t) ≡ without_returns s ++ without_returns t
returns-append s t = filter-append (λ c. not (c == carriage_return)) s t

pub end-returns : (t : Text) → IsLineEnd t → without_returns t ≡ t
end-returns t (white, rest, h, g, e) =
    ap without_returns e ∙ returns-append white rest
    ∙ ap (λ u. u ++ without_returns rest) (white-returns white h) ∙ ap (λ u. white ++ u) (open-returns rest g) ∙ sym e

pub shown-append : (mode : Mode) (s t : Text) → shown_text mode (s ++ t) ≡ shown_text mode s ++ shown_text mode t
shown-append plain s t = returns-append s t
shown-append exact s t = refl

pub end-shown : (mode : Mode) (t : Text) → IsLineEnd t → shown_text mode t ≡ t
end-shown plain t h = end-returns t h
end-shown exact t h = refl

pub white-feed : (t : Text) → IsWhiteSpace t → has_byte line_feed t ≡ false
white-feed [] h = refl
white-feed (c ∷ t) h =
    rw (no-byte is_blank line_feed (λ e. let clash : is_blank line_feed ≡ true = e in cc) c (and_left (is_blank c) _ h))
    (white-feed t (and_right (is_blank c) _ h))

pub empty-end : IsLineEnd []
empty-end = ([], [], refl, inl refl, refl)
