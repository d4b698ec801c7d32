-- The first line of a text, and the comment of a line, by the places that the code finds.
use Rattle.std.proofs.Common.{◌≡◌, refl, sym, ap, subst, ◌∙◌, ℕ, zero, suc, ◌+◌, ◌-◌, ◌<◌, ◌≤◌, ◌==◌, arith, Bool, true, false, [], ◌∷◌}
use Rattle.std.proofs.Common.{length, take, drop, get_or, Option, Some, None, length-take}
use Rattle.std.specs.Prelude.{if◌then◌else◌, not, unwrap_or, take_while}
use Rattle.std.specs.List.{before_first, prefix_len, suffix_len}
use Rattle.std.specs.Str.{IsUtf8, IsCharBoundary}
use Rattle.std.proofs.lemmas.Bool.Decides.{Decides-eqb, nat_tests}
use Rattle.std.proofs.lemmas.List.Sums.{position_or_len_is, prefix_len_is, suffix_len_is}
use Rattle.std.proofs.lemmas.Str.{IsCharBoundary-after_ascii, IsCharBoundary-start}
use Rattle.memchr.specs.Find.{IsFirstByte, IsLastByte, is_byte}
use Rattle.toml_edit_model.specs.Text.{Text, line_feed, carriage_return, hash, newline, one}
use Rattle.toml_edit_model.specs.Mode.{exact, ends_in_return, but_last, line_end}
use Rattle.toml_edit_model.specs.Trivia.{is_blank}
use Rattle.toml_edit_model.specs.Comments.{begun_with, lines, first_line, after_first_line, before_last_feed, last_newline, body_in}
use Rattle.toml_edit_model.specs.Comments.{end_of_words}
use Rattle.toml_edit_laws.proofs.common.Tests.{false-by, true-false}
use Rattle.toml_edit_repr.specs.CommentPlaces.{HasHashAt}

-- no line feed is below the place
abbrev NoFeedBelow : ℕ → Text → Type 0
NoFeedBelow n t = (k : ℕ) → k < n → (get_or t k 0 == line_feed) ≡ true → ⊥

below_tail : (n x : ℕ) (t : Text) → NoFeedBelow (suc n) (x ∷ t) → NoFeedBelow n t
below_tail n x t none k h = none (suc k) (omega arith)

-- ---- lines

-- another byte goes before the lines
pub lines-other : (x : ℕ) (t : Text) → (x == line_feed) ≡ false → lines (x ∷ t) ≡ begun_with x (lines t)
lines-other x t e = ap (λ b. if b then one x ∷ lines t else begun_with x (lines t)) e

pub lines-feed : (x : ℕ) (t : Text) → (x == line_feed) ≡ true → lines (x ∷ t) ≡ one x ∷ lines t
lines-feed x t e = ap (λ b. if b then one x ∷ lines t else begun_with x (lines t)) e

-- the line up to the first line feed, and the lines after it
lines-first : (n : ℕ) (t : Text) → n < length t → NoFeedBelow n t → (get_or t n 0 == line_feed) ≡ true
    → lines t ≡ take (suc n) t ∷ lines (drop (suc n) t)
lines-first n [] h none here = absurd (omega arith)
lines-first zero (x ∷ t) h none here = lines-feed x t here
lines-first (suc n) (x ∷ t) h none here =
    lines-other x t (false-by (x == line_feed) (none 0 (omega arith)))
    ∙ ap (begun_with x) (lines-first n t (omega arith) (below_tail n x t none) here)

-- a text without any is one line
lines-last : (t : Text) → 0 < length t → NoFeedBelow (length t) t → lines t ≡ one t
lines-last [] h none = absurd (omega arith)
lines-last (x ∷ []) h none = lines-other x [] (false-by (x == line_feed) (none 0 (omega arith)))
lines-last (x ∷ y ∷ t) h none =
    lines-other x (y ∷ t) (false-by (x == line_feed) (none 0 (omega arith)))
    ∙ ap (begun_with x) (lines-last (y ∷ t) (omega arith) (below_tail (length (y ∷ t)) x (y ∷ t) none))

-- ---- the end of the first line

abbrev is_feed : ℕ → Bool
is_feed c = c == line_feed

-- the place where a search ended, which found a line feed or the end of the text
pub record EndsAt (t : Text) (n : ℕ) : Type 0 where
  pub within : n ≤ length t
  pub line : before_first is_feed t ≡ take n t

feed-line : (t : Text) (n : ℕ) → n ≤ length t → NoFeedBelow n t → (n < length t → (get_or t n 0 == line_feed) ≡ true)
    → before_first is_feed t ≡ take n t
feed-line t n h none here =
    ap (λ k. take k t) (position_or_len_is is_feed t n 0 h (λ k below. false-by (get_or t k 0 == line_feed) (none k below)) here)

feed-place : (t : Text) (o : Option ℕ) → IsFirstByte (is_byte line_feed) t o → EndsAt t (unwrap_or o (length t))
feed-place t None none = record {
  within = omega arith;
  line = feed-line t (length t) (omega arith) (λ k below. none k (omega arith) below) (λ h. absurd (omega arith));
}
feed-place t (Some n) found =
    record {
      within = omega (arith, found.0.high);
      line = feed-line t n (omega (arith, found.0.high)) (λ k below. found.0.before k (omega arith) below) (λ h. found.1);
    }

ends-at : (n : ℕ) (t : Text) → n < length t → ends_in_return (take (suc n) t) ≡ (get_or t n 0 == carriage_return)
ends-at n [] h = absurd (omega arith)
ends-at zero (x ∷ t) h = refl
ends-at (suc n) (x ∷ []) h = absurd (omega arith)
ends-at (suc n) (x ∷ y ∷ t) h = ends-at n (y ∷ t) (omega arith)

but_last-at : (n : ℕ) (t : Text) → n < length t → but_last (take (suc n) t) ≡ take n t
but_last-at n [] h = absurd (omega arith)
but_last-at zero (x ∷ t) h = refl
but_last-at (suc n) (x ∷ []) h = absurd (omega arith)
but_last-at (suc n) (x ∷ y ∷ t) h = ap (λ u. x ∷ u) (but_last-at n (y ∷ t) (omega arith))

without-last : (t u : Text) (b : Bool) → ends_in_return t ≡ b → (if b then but_last t else t) ≡ u → line_end exact t ≡ u
without-last t u b e h = ap (λ b. if b then but_last t else t) e ∙ h

-- the CR before that place is no part of the line
first_line-cut : (t : Text) (e n : ℕ) → EndsAt t e → e ≡ suc n → get_or t n 0 ≡ carriage_return → first_line t ≡ take n t
first_line-cut t e n h same here =
    let below : n < length t = omega (arith, h.within) in
    ap (line_end exact) (h.line ∙ ap (λ k. take k t) same)
    ∙ without-last (take (suc n) t) (take n t) true (ends-at n t below ∙ (Decides-eqb _ _).1 here) (but_last-at n t below)

first_line-kept : (t : Text) (e n : ℕ) → EndsAt t e → e ≡ suc n → (get_or t n 0 ≡ carriage_return → ⊥) → first_line t ≡ take e t
first_line-kept t e n h same other =
    let below : n < length t = omega (arith, h.within) in
    ap (line_end exact) (h.line ∙ ap (λ k. take k t) same)
    ∙ without-last (take (suc n) t) (take (suc n) t) false (ends-at n t below ∙ false-by _ (λ x. other ((Decides-eqb _ _).0 x))) refl
    ∙ ap (λ k. take k t) (sym same)

pub first_line-empty : (t : Text) (e : ℕ) → EndsAt t e → e ≡ 0 → first_line t ≡ take e t
first_line-empty t e h none = ap (line_end exact) (h.line ∙ ap (λ k. take k t) none) ∙ ap (λ k. take k t) (sym none)

pub after_first_line-at : (t : Text) (n : ℕ) → n ≤ length t → first_line t ≡ take n t → after_first_line t ≡ drop n t
after_first_line-at t n h e =
    let long : length (take n t) ≡ n = simp length-take (omega arith) in
    ap (λ k. drop k t) (ap length e ∙ long)

-- ---- the comment of a line

abbrev pub BlankBelow : ℕ → Text → Type 0
BlankBelow n l = (k : ℕ) → k < n → is_blank (get_or l k 0) ≡ true

blank-tail : (n c : ℕ) (l : Text) → BlankBelow (suc n) (c ∷ l) → BlankBelow n l
blank-tail n c l blanks k h = blanks (suc k) (omega arith)

body_in-blank : (c : ℕ) (l : Text) → is_blank c ≡ true → body_in (c ∷ l) ≡ body_in l
body_in-blank c l e = ap (λ b. if b then body_in l else (if c == hash then Some l else None)) e

body_in-found : (n : ℕ) (l : Text) → n < length l → BlankBelow n l → get_or l n 0 ≡ hash → body_in l ≡ Some (drop (suc n) l)
body_in-found n [] h blanks here = absurd (omega arith)
body_in-found zero (c ∷ l) h blanks here = subst (λ x. body_in (x ∷ l) ≡ Some l) (sym here) refl
body_in-found (suc n) (c ∷ l) h blanks here =
    body_in-blank c l (blanks 0 (omega arith)) ∙ body_in-found n l (omega arith) (blank-tail n c l blanks) here

body_in-other : (n : ℕ) (l : Text) → n < length l → BlankBelow n l → is_blank (get_or l n 0) ≡ false → (get_or l n 0 ≡ hash → ⊥) → body_in l
    ≡ None
body_in-other n [] h blanks end other = absurd (omega arith)
body_in-other zero (c ∷ l) h blanks end other =
    ap (λ b. if b then body_in l else (if c == hash then Some l else None)) end
    ∙ ap (λ b. if b then Some l else None) (false-by (c == hash) (λ e. other ((Decides-eqb c hash).0 e)))
body_in-other (suc n) (c ∷ l) h blanks end other =
    body_in-blank c l (blanks 0 (omega arith)) ∙ body_in-other n l (omega arith) (blank-tail n c l blanks) end other

body_in-white : (l : Text) → BlankBelow (length l) l → body_in l ≡ None
body_in-white [] blanks = refl
body_in-white (c ∷ l) blanks = body_in-blank c l (blanks 0 (omega arith)) ∙ body_in-white l (blank-tail (length l) c l blanks)

white-before : (n : ℕ) (l : Text) → n < length l → BlankBelow n l → get_or l n 0 ≡ hash → take_while is_blank l ≡ take n l
white-before n l h blanks here =
    ap (λ k. take k l) (prefix_len_is is_blank l n 0 (omega arith) blanks (λ _. ap is_blank here))

-- ---- what the code finds: s are the bytes that it looks through, and t is their text

pub end-place : (t s : Text) (o : Option ℕ) (e : ℕ) → s ≡ t → IsFirstByte (is_byte line_feed) s o → e ≡ unwrap_or o (length s) → EndsAt t e
end-place t s o e same found is =
    subst (EndsAt t) (sym is)
    (subst (λ u. EndsAt u (unwrap_or o (length s))) same (feed-place s o found))

pub line-cut : (t s : Text) (e n : ℕ) → s ≡ t → EndsAt t e → e ≡ suc n → get_or s n 0 ≡ carriage_return → first_line t ≡ take n t
line-cut t s e n same h is here = first_line-cut t e n h is (ap (λ u. get_or u n 0) (sym same) ∙ here)

pub line-kept : (t s : Text) (e n : ℕ) → s ≡ t → EndsAt t e → e ≡ suc n → (get_or s n 0 ≡ carriage_return → ⊥) → first_line t ≡ take e t
line-kept t s e n same h is other = first_line-kept t e n h is (λ x. other (ap (λ u. get_or u n 0) same ∙ x))

pub feed-boundary : (t s : Text) (n : ℕ) → s ≡ t → IsUtf8 t → IsFirstByte (is_byte line_feed) s (Some n) → IsCharBoundary t (n + 1)
feed-boundary t s n same utf8 found =
    let here : get_or s n 0 ≡ line_feed = (Decides-eqb _ _).0 found.1 in
    let there : get_or t n 0 ≡ line_feed = ap (λ u. get_or u n 0) (sym same) ∙ here in
    IsCharBoundary-after_ascii t n utf8 (omega (arith, found.0.high, ap length same)) (omega arith)

pub lines-split : (t s : Text) (n : ℕ) (a b : Text) → s ≡ t → IsFirstByte (is_byte line_feed) s (Some n) → a ≡ take (n + 1) t → b
    ≡ drop (n + 1) t
    → lines t ≡ a ∷ lines b
lines-split t s n a b same found front back =
    ap lines (sym same) ∙ lines-first n s found.0.high (λ k below. found.0.before k (omega arith) below) found.1
    ∙ ap (λ u. take (suc n) u ∷ lines (drop (suc n) u)) same
    ∙ ap (λ k. take k t ∷ lines (drop k t)) (let next : suc n ≡ n + 1 = omega arith in next)
    ∙ ap (λ u. u ∷ lines (drop (n + 1) t)) (sym front) ∙ ap (λ u. a ∷ lines u) (sym back)

pub lines-whole : (t s : Text) → s ≡ t → (length t == 0) ≡ false → IsFirstByte (is_byte line_feed) s None → lines t ≡ t ∷ []
lines-whole t s same some none =
    let long : length t ≡ 0 → ⊥ = λ e. true-false (length t == 0) ((Decides-eqb (length t) 0).1 e) some in
    ap lines (sym same) ∙ lines-last s (omega (arith, ap length same, long)) (λ k below. none k (omega arith) below) ∙ ap one same

-- the `#` after white space alone
pub hash-at : (l s : Text) (n : ℕ) → s ≡ l → n < length s → BlankBelow n s → get_or s n 0 ≡ hash → HasHashAt l n
hash-at l s n same below blanks here =
    subst (λ u. HasHashAt u n) same
    (record {
      within = below;
      byte = here;
      white = white-before n s below blanks here;
      body = body_in-found n s below blanks here ∙ ap (λ k. Some (drop k s)) (let next : suc n ≡ n + 1 = omega arith in next);
    })

pub no-hash : (l s : Text) (n : ℕ) → s ≡ l → n < length s → BlankBelow n s → is_blank (get_or s n 0) ≡ false → (get_or s n 0 ≡ hash → ⊥)
    → body_in l ≡ None
no-hash l s n same below blanks end other = ap body_in (sym same) ∙ body_in-other n s below blanks end other

pub no-hash-at-all : (l s : Text) (n : ℕ) → s ≡ l → length s ≤ n → BlankBelow n s → body_in l ≡ None
no-hash-at-all l s n same long blanks = ap body_in (sym same) ∙ body_in-white s (λ k below. blanks k (omega arith))

-- the white space that a text ends in
abbrev pub BlankFrom : ℕ → Text → Type 0
BlankFrom n t = (k : ℕ) → n ≤ k → k < length t → is_blank (get_or t k 0) ≡ true

pub words-end : (t s : Text) (n : ℕ) → s ≡ t → n ≤ length s → BlankFrom n s → (0 < n → is_blank (get_or s (n - 1) 0) ≡ false) → n
    ≡ end_of_words t
words-end t s n same within blanks stop =
    let rest : suffix_len is_blank s ≡ length s - n = suffix_len_is is_blank s n 0 within blanks stop in
    let place : n ≡ end_of_words s = omega (arith, rest) in
    place ∙ ap end_of_words same

-- ---- the white space that a text begins with

blank-ascii : (c : ℕ) → is_blank c ≡ true → c < 128
blank-ascii c h = grind (arith, nat_tests)

pub white-boundary : (t s : Text) (n : ℕ) → s ≡ t → IsUtf8 t → n ≤ length s → BlankBelow n s → IsCharBoundary t n
white-boundary t s zero same utf8 within blanks = IsCharBoundary-start t utf8
white-boundary t s (suc n) same utf8 within blanks =
    let white : is_blank (get_or t n 0) ≡ true = ap (λ u. is_blank (get_or u n 0)) (sym same) ∙ blanks n (omega arith) in
    let next : n + 1 ≡ suc n = omega arith in
    subst (IsCharBoundary t) next
    (IsCharBoundary-after_ascii t n utf8 (omega (arith, within, ap length same)) (blank-ascii (get_or t n 0) white))

pub white-place : (t s : Text) (n : ℕ) → s ≡ t → n ≤ length s → BlankBelow n s → (n < length s → is_blank (get_or s n 0) ≡ false) → n
    ≡ prefix_len is_blank t
white-place t s n same within blanks stop =
    sym (prefix_len_is is_blank s n 0 within blanks stop) ∙ ap (prefix_len is_blank) same

-- ---- the last newline

-- the place of the last line feed, or 0
pub record LastFeedAt (t : Text) (n : ℕ) : Type 0 where
  pub within : n ≤ length t
  pub before : before_last_feed t ≡ take n t

last-feed-at : (t : Text) (n m : ℕ) → n ≤ length t → m ≡ n - 1 → ((k : ℕ) → n ≤ k → k < length t → (get_or t k 0 == line_feed) ≡ true → ⊥)
    → (0 < n → (get_or t m 0 == line_feed) ≡ true) → LastFeedAt t m
last-feed-at t n m within is none here =
    let rest : suffix_len (λ c. not (c == line_feed)) t ≡ length t - n =
    suffix_len_is (λ c. not (c == line_feed)) t n 0 within (λ k low high. ap not (false-by (get_or t k 0 == line_feed) (none k low high)))
    (λ some. ap (λ k. not (get_or t k 0 == line_feed)) (sym is) ∙ ap not (here some)) in
    let place : length t - suc (suffix_len (λ c. not (c == line_feed)) t) ≡ m = omega (arith, rest, is) in
    record { within = omega (arith, within, is); before = ap (λ k. take k t) place }

last-place : (t : Text) (o : Option ℕ) → IsLastByte (is_byte line_feed) t o → LastFeedAt t (unwrap_or o 0)
last-place t None none =
    last-feed-at t 0 0 (omega arith) (omega arith) (λ k low high. none k (omega arith) high) (λ some. absurd (omega arith))
last-place t (Some n) found =
    last-feed-at t (suc n) n (omega (arith, found.0.high)) (omega arith) (λ k low high. found.0.after k (omega arith) high)
    (λ some. found.1)

pub last-feed : (t s : Text) (o : Option ℕ) (e : ℕ) → s ≡ t → IsLastByte (is_byte line_feed) s o → e ≡ unwrap_or o 0 → LastFeedAt t e
last-feed t s o e same found is =
    subst (LastFeedAt t) (sym is) (subst (λ u. LastFeedAt u (unwrap_or o 0)) same (last-place s o found))

newline-by : (t : Text) (e : ℕ) (b : Bool) → LastFeedAt t e → ends_in_return (take e t) ≡ b
    → (if b then carriage_return ∷ newline else newline) ≡ last_newline t
newline-by t e b h is =
    ap (λ b. if b then carriage_return ∷ newline else newline) (sym is)
    ∙ ap (λ u. if ends_in_return u then carriage_return ∷ newline else newline) (sym h.before)

pub newline-alone : (t : Text) (e : ℕ) → LastFeedAt t e → e ≡ 0 → newline ≡ last_newline t
newline-alone t e h none = newline-by t e false h (ap (λ k. ends_in_return (take k t)) none)

pub newline-lean : (t s : Text) (e n : ℕ) → s ≡ t → LastFeedAt t e → e ≡ suc n → (get_or s n 0 ≡ carriage_return → ⊥) → newline
    ≡ last_newline t
newline-lean t s e n same h is other =
    newline-by t e false h
    (ap (λ k. ends_in_return (take k t)) is ∙ ends-at n t (omega (arith, h.within))
    ∙ false-by (get_or t n 0 == carriage_return) (λ x. other (ap (λ u. get_or u n 0) same ∙ (Decides-eqb _ _).0 x)))

pub newline-full : (t s : Text) (e n : ℕ) → s ≡ t → LastFeedAt t e → e ≡ suc n → get_or s n 0 ≡ carriage_return → carriage_return ∷ newline
    ≡ last_newline t
newline-full t s e n same h is here =
    newline-by t e true h
    (ap (λ k. ends_in_return (take k t)) is ∙ ends-at n t (omega (arith, h.within))
    ∙ (Decides-eqb _ _).1 (ap (λ u. get_or u n 0) (sym same) ∙ here))
