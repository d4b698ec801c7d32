-- The line after the last newline, by the place that the code finds.
use Rattle.std.proofs.Common.{◌≡◌, refl, sym, ap, ◌∙◌, ℕ, zero, suc, ◌+◌, ◌<◌, ◌≤◌, ◌==◌, arith, Bool, true, false, [], ◌∷◌, length, drop, get_or, Some, None}
use Rattle.std.specs.Prelude.{if◌then◌else◌, ◌||◌}
use Rattle.std.specs.Str.{IsUtf8, IsCharBoundary}
use Rattle.std.proofs.lemmas.Bool.Decides.{Decides-eqb}
use Rattle.std.proofs.lemmas.Str.{IsCharBoundary-after_ascii}
use Rattle.memchr.specs.Find.{IsLastByte, is_byte}
use Rattle.toml_edit_model.specs.Text.{Text, has_byte, line_feed}
use Rattle.toml_edit_laws.proofs.common.Tests.{false-by}
use Rattle.toml_edit_fmt_laws.specs.Laying.{last_line}

-- no line feed is at a place from this one on
abbrev NoFeedFrom : ℕ → Text → Type 0
NoFeedFrom n t = (k : ℕ) → n ≤ k → k < length t → (get_or t k 0 == line_feed) ≡ true → ⊥

tail-none : (n c : ℕ) (t : Text) → NoFeedFrom (suc n) (c ∷ t) → NoFeedFrom n t
tail-none n c t none k from below = none (suc k) (omega arith) (omega arith)

has-none : (t : Text) → NoFeedFrom 0 t → has_byte line_feed t ≡ false
has-none [] none = refl
has-none (c ∷ t) none =
    ap (λ b. b || has_byte line_feed t) (false-by (c == line_feed) (none 0 (omega arith) (omega arith)))
    ∙ has-none t (λ k from below. none (suc k) (omega arith) (omega arith))

step : (c : ℕ) (t : Text) (a b : Bool) → (c == line_feed) ≡ a → has_byte line_feed t ≡ b
    → last_line (c ∷ t) ≡ (if a then last_line t else if b then last_line t else c ∷ t)
step c t a b e f =
    ap (λ x. if x then last_line t else if has_byte line_feed t then last_line t else c ∷ t) e
    ∙ ap (λ x. if a then last_line t else if x then last_line t else c ∷ t) f

whole : (t : Text) → NoFeedFrom 0 t → last_line t ≡ t
whole [] none = refl
whole (c ∷ t) none =
    step c t false false (false-by (c == line_feed) (none 0 (omega arith) (omega arith)))
    (has-none t (λ k from below. none (suc k) (omega arith) (omega arith)))

has-at : (n : ℕ) (t : Text) → n < length t → (get_or t n 0 == line_feed) ≡ true → has_byte line_feed t ≡ true
has-at n [] h here = absurd (omega arith)
has-at zero (c ∷ t) h here = ap (λ b. b || has_byte line_feed t) here
has-at (suc n) (c ∷ t) h here =
    ap (λ b. (c == line_feed) || b) (has-at n t (omega arith) here) ∙ either (c == line_feed)
  where
    either : (b : Bool) → (b || true) ≡ true
    either true = refl
    either false = refl

behind : (n : ℕ) (t : Text) → n < length t → NoFeedFrom (suc n) t → (get_or t n 0 == line_feed) ≡ true
    → last_line t ≡ drop (suc n) t
behind n [] h none here = absurd (omega arith)
behind zero (c ∷ t) h none here =
    step c t true (has_byte line_feed t) here refl ∙ whole t (tail-none 0 c t none)
behind (suc n) (c ∷ t) h none here =
    step c t (c == line_feed) true refl (has-at n t (omega arith) here) ∙ either (c == line_feed)
    ∙ behind n t (omega arith) (tail-none (suc n) c t none) here
  where
    either : (b : Bool) → (if b then last_line t else last_line t) ≡ last_line t
    either true = refl
    either false = refl

-- what the code finds: s are the bytes that it looks through, and t is their text
pub last-found : (t s : Text) (at : ℕ) → s ≡ t → IsLastByte (is_byte line_feed) s (Some at) → last_line t ≡ drop (at + 1) t
last-found t s at same found =
    let more : suc at ≡ at + 1 = omega arith in
    rw (sym same) (behind at s (omega (arith, found.0.high)) (λ k from below. found.0.after k (omega arith) below) found.1 ∙ ap (λ n. drop n s) more)

pub last-none : (t s : Text) → s ≡ t → IsLastByte (is_byte line_feed) s None → last_line t ≡ t
last-none t s same none = rw (sym same) (whole s (λ k from below. none k (omega arith) below))

pub last-boundary : (t s : Text) (n : ℕ) → s ≡ t → IsUtf8 t → IsLastByte (is_byte line_feed) s (Some n) → IsCharBoundary t (n + 1)
last-boundary t s n same utf8 found =
    let here : get_or s n 0 ≡ line_feed = (Decides-eqb _ _).0 found.1 in
    let there : get_or t n 0 ≡ line_feed = ap (λ u. get_or u n 0) (sym same) ∙ here in
    IsCharBoundary-after_ascii t n utf8 (omega (arith, found.0.high, ap length same)) (omega arith)
