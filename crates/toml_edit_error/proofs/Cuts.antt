-- Where the last character of a text begins, and what stands at a cut.
use Rattle.std.proofs.Common.{◌≡◌, refl, sym, ap, ◌∙◌, ℕ, ◌+◌, ◌-◌, ◌<◌, ◌≤◌, Bool, true, false, nat_lt, if◌then◌else◌, [], ◌∷◌, ◌++◌}
use Rattle.std.proofs.Common.{length, take, drop, get_or, reverse, Some, None, IsUtf8, arith, lt-ltb, le-ltb, inl, inr}
use Rattle.std.specs.Str.{IsCharBoundary}
use Rattle.std.proofs.lemmas.Bool.{cases_lt, cond-true, cond-false, eqb-true}
use Rattle.std.proofs.lemmas.List.{get_or-reverse, get_or-take, length-reverse, length-take-le, take-append-drop, drop-append-le}
use Rattle.std.proofs.lemmas.List.Sums.{prefix_len_is}
use Rattle.std.proofs.lemmas.Str.{IsCharBoundary-after_ascii}
use Rattle.memchr.specs.Find.{IsLastByte, is_byte}
use Rattle.toml_edit_model.specs.Text.{Text, line_feed}
use Rattle.toml_edit_model.specs.Excerpt.{is_continuation, first_line, last_character, last_line_size, position_of_byte, raised}
use Rattle.toml_edit_model.specs.Excerpt.{position_in, line_at}
use Rattle.toml_edit_error.specs.Place.{cut_of}
use Rattle.toml_edit_error.proofs.Characters.{begins, continues}
use Rattle.toml_edit_error.proofs.Lines.{newlines, last_line, line_at-cut, first_line-append, last_line-one, last_line-some, last_line-none}

-- a byte where no character begins continues one
continues_at : (t : Text) (i : ℕ) → i < length t → ¬ (IsCharBoundary t i) → is_continuation (get_or t i 0) ≡ true
continues_at t i h denied =
    let b : ℕ = get_or t i 0 in
    elim (cases_lt b 128) [
      | inl low ↦ absurd (denied (omega arith, λ _ l. absurd (omega arith)))
      | inr g ↦ elim (cases_lt b 192) [
        | inl l ↦ continues b g l
        | inr high ↦ absurd (denied (omega arith, λ _ _. high))
      ]
    ]

last_character-is : (t : Text) (r : ℕ) → r < length t → IsCharBoundary t r
    → ((i : ℕ) → r < i → i ≤ length t - 1 → ¬ (IsCharBoundary t i)) → last_character t ≡ r
last_character-is t r h at nearest =
    let size = prefix_len_is is_continuation (reverse t) (length t - 1 - r) 0 (omega (arith, length-reverse t))
    (λ k l.
    let same : get_or (reverse t) k 0 ≡ get_or t (length t - 1 - k) 0 = get_or-reverse t k 0 (omega arith) in
    ap is_continuation same ∙ continues_at t (length t - 1 - k) (omega arith) (nearest (length t - 1 - k) (omega arith) (omega arith)))
    (λ _.
    let place : length t - 1 - (length t - 1 - r) ≡ r = omega arith in
    let same : get_or (reverse t) (length t - 1 - r) 0 ≡ get_or t (length t - 1 - (length t - 1 - r)) 0 =
    get_or-reverse t (length t - 1 - r) 0 (omega arith) in
    ap is_continuation (same ∙ ap (λ j. get_or t j 0) place) ∙ begins (get_or t r 0) (at.1 h)) in
    omega (arith, size)

-- at the end of a text and beyond, the cut is its last character
cut_of-end : (t : Text) (s : ℕ) → length t ≤ s → 0 < length t → cut_of t s ≡ last_character t
cut_of-end [] s e h = absurd (omega arith)
cut_of-end (c ∷ t) s e h = cond-false _ _ _ (le-ltb s (length (c ∷ t)) e)

-- before it, it is the place itself
cut_of-before : (t : Text) (s : ℕ) → s < length t → cut_of t s ≡ s
cut_of-before [] s h = absurd (omega arith)
cut_of-before (c ∷ t) s h = cond-true _ _ _ (lt-ltb s (length (c ∷ t)) h)

-- it is the greatest place below the end where a character begins
pub cut_of-last : (t : Text) (s r : ℕ) → length t ≤ s → r ≤ length t - 1 → IsCharBoundary t r
    → ((i : ℕ) → r < i → i ≤ length t - 1 → ¬ (IsCharBoundary t i)) → r ≡ cut_of t s
cut_of-last [] s r e l at nearest = omega arith
cut_of-last (c ∷ t) s r e l at nearest =
    sym (cut_of-end (c ∷ t) s e (omega arith) ∙ last_character-is (c ∷ t) r (omega arith) at nearest)

cut_of-le : (t : Text) (s : ℕ) → cut_of t s ≤ length t
cut_of-le [] s = omega arith
cut_of-le (c ∷ t) s = elim (cases_lt s (length (c ∷ t))) [
  | inl l ↦ let same = cut_of-before (c ∷ t) s l in omega (arith, same)
  | inr g ↦
      let same = cut_of-end (c ∷ t) s g (omega arith) in
      let low : last_character (c ∷ t) < length (c ∷ t) = omega arith in
      omega (arith, same, low)
]

line_of : (b : Bool) (t : Text) (s k : ℕ)
    → (if b then position_of_byte t s else raised (position_of_byte t k)).line ≡ newlines (take (if b then s else k) t)
line_of true t s k = refl
line_of false t s k = refl

position_line : (t : Text) (s : ℕ) → (position_in t s).line ≡ newlines (take (cut_of t s) t)
position_line [] s = refl
position_line (c ∷ t) s = line_of (nat_lt s (length (c ∷ t))) (c ∷ t) s (last_character (c ∷ t))

-- the line of a place is what stands before the cut in it, and what stands after
content_at : (t : Text) (s : ℕ)
    → last_line (take (cut_of t s) t) ++ first_line (drop (cut_of t s) t) ≡ line_at (position_in t s).line t
content_at t s =
    let k : ℕ = cut_of t s in
    sym (line_at-cut (take k t) (drop k t))
    ∙ ap (λ u. line_at (newlines (take k t)) u) (take-append-drop k t)
    ∙ ap (λ n. line_at n t) (sym (position_line t s))

-- which is the first line from where it begins
pub line_from : (t : Text) (s : ℕ)
    → first_line (drop (cut_of t s - last_line_size (take (cut_of t s) t)) t) ≡ line_at (position_in t s).line t
line_from t s =
    let k : ℕ = cut_of t s in
    let h : Text = take k t in
    let y : Text = drop k t in
    let size : length h ≡ k = length-take-le k t (cut_of-le t s) in
    let b : ℕ = length h - last_line_size h in
    ap (λ n. first_line (drop (n - last_line_size h) t)) (sym size)
    ∙ ap (λ u. first_line (drop b u)) (sym (take-append-drop k t))
    ∙ ap first_line (drop-append-le b h y (omega arith))
    ∙ first_line-append (last_line h) y (last_line-one h)
    ∙ content_at t s

-- where a line begins, by what a search for the newline before it tells
pub line_start-some : (t : Text) (k n : ℕ) → k ≤ length t → IsUtf8 t → IsLastByte (is_byte line_feed) (take k t) (Some n)
    → IsCharBoundary t (n + 1) × (n + 1 ≡ k - last_line_size (take k t))
line_start-some t k n le utf8 found =
    let size : length (take k t) ≡ k = length-take-le k t le in
    let high : n < length (take k t) = found.0.high in
    let here : get_or (take k t) n 0 ≡ line_feed = eqb-true _ _ found.1 in
    let same : get_or (take k t) n 0 ≡ get_or t n 0 = get_or-take k t n 0 (omega (arith, size, high)) in
    let last : last_line_size (take k t) ≡ length (take k t) - (n + 1) = last_line-some (take k t) n found in (
      IsCharBoundary-after_ascii t n utf8 (omega (arith, size, high, le)) (omega (arith, here, same)),
      omega (arith, last, size, high),
    )

pub line_start-none : (t : Text) (k : ℕ) → k ≤ length t → IsLastByte (is_byte line_feed) (take k t) None
    → 0 ≡ k - last_line_size (take k t)
line_start-none t k le none =
    let size : length (take k t) ≡ k = length-take-le k t le in
    let last : last_line_size (take k t) ≡ length (take k t) = last_line-none (take k t) none in
    omega (arith, last, size)
