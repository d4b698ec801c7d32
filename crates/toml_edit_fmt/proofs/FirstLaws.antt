-- Newlines, last lines and first comments of texts that are put together.
use Rattle.std.proofs.Common.{◌≡◌, refl, sym, ap, ◌∙◌, ℕ, zero, suc, ◌+◌, ◌≤◌, ◌==◌, arith, Bool, true, false, [], ◌∷◌, ◌++◌, length, drop, Some, None, length-append}
use Rattle.std.specs.Prelude.{◌||◌, not, if◌then◌else◌, filter, cond, is_some}
use Rattle.std.specs.List.{before_first, prefix_len}
use Rattle.std.proofs.lemmas.Bool.{eqb-true}
use Rattle.std.proofs.lemmas.List.Elements.{filter-append}
use Rattle.std.proofs.lemmas.List.Sums.{take_while-cons}
use Rattle.toml_edit_model.specs.Comments.{body_in, first_comment, first_line, words}
use Rattle.toml_edit_model.specs.Mode.{exact, but_last, ends_in_return, line_end}
use Rattle.toml_edit_model.specs.Text.{Text, carriage_return, hash, has_byte, line_feed, one, space}
use Rattle.toml_edit_model.specs.Trivia.{is_blank}
use Rattle.toml_edit_laws.proofs.common.Tests.{or-true}
use Rattle.toml_edit_laws.proofs.common.Trivia.{no-byte}
use Rattle.toml_edit_fmt_laws.specs.Rules.{spaces}
use Rattle.toml_edit_fmt_laws.specs.Laying.{last_line}
use Rattle.toml_edit_fmt_laws.specs.Aligned.{newlines}

pub newlines-append : (s t : Text) → newlines (s ++ t) ≡ newlines s + newlines t
newlines-append s t =
    ap length (filter-append (λ c. c == line_feed) s t)
    ∙ length-append (filter (λ c. c == line_feed) s) (filter (λ c. c == line_feed) t)

newlines-broken : (t : Text) → 1 ≤ newlines t → has_byte line_feed t ≡ true
newlines-broken [] h = absurd (omega arith)
newlines-broken (c ∷ t) h = by_test (c == line_feed) h (newlines-broken t)
  where
    by_test : (b : Bool) → 1 ≤ length (if b then c ∷ filter (λ d. d == line_feed) t else filter (λ d. d == line_feed) t)
        → (1 ≤ newlines t → has_byte line_feed t ≡ true) → (b || has_byte line_feed t) ≡ true
    by_test true h more = refl
    by_test false h more = more h

-- ---- last lines

broken-append : (s t : Text) → has_byte line_feed t ≡ true → has_byte line_feed (s ++ t) ≡ true
broken-append [] t h = h
broken-append (c ∷ s) t h = ap (λ b. (c == line_feed) || b) (broken-append s t h) ∙ or-true (c == line_feed)

broken-front : (s t : Text) → has_byte line_feed s ≡ true → has_byte line_feed (s ++ t) ≡ true
broken-front [] t h = absurd cc
broken-front (c ∷ s) t h = by_test (c == line_feed) h (broken-front s t)
  where
    by_test : (b : Bool) → (b || has_byte line_feed s) ≡ true → (has_byte line_feed s ≡ true → has_byte line_feed (s ++ t) ≡ true)
        → (b || has_byte line_feed (s ++ t)) ≡ true
    by_test true h more = refl
    by_test false h more = more h

last-under : (c : ℕ) (t : Text) → has_byte line_feed t ≡ true → last_line (c ∷ t) ≡ last_line t
last-under c t h =
    ap (λ b. if c == line_feed then last_line t else if b then last_line t else c ∷ t) h ∙ either (c == line_feed)
  where
    either : (b : Bool) → (if b then last_line t else last_line t) ≡ last_line t
    either true = refl
    either false = refl

pub last-broken : (s t : Text) → 1 ≤ newlines t → last_line (s ++ t) ≡ last_line t
last-broken [] t h = refl
last-broken (c ∷ s) t h = last-under c (s ++ t) (broken-append s t (newlines-broken t h)) ∙ last-broken s t h

pub last-append : (s t : Text) → last_line (last_line s ++ t) ≡ last_line (s ++ t)
last-append [] t = refl
last-append (c ∷ s) t = by_tests (c == line_feed) (has_byte line_feed s) refl refl (last-append s t)
  where
    by_tests : (a b : Bool) → (c == line_feed) ≡ a → has_byte line_feed s ≡ b
        → last_line (last_line s ++ t) ≡ last_line (s ++ t)
        → last_line ((if a then last_line s else if b then last_line s else c ∷ s) ++ t) ≡ last_line (c ∷ (s ++ t))
    by_tests true b e g ih =
        ih ∙ sym (ap (λ x. if x then last_line (s ++ t) else if has_byte line_feed (s ++ t) then last_line (s ++ t) else c ∷ (s ++ t)) e)
    by_tests false true e g ih = ih ∙ sym (last-under c (s ++ t) (broken-front s t g))
    by_tests false false e g ih = refl

-- ---- first comments

line-hash : (x : Text) → is_some (body_in (line_end exact (hash ∷ x))) ≡ true
line-hash [] = refl
line-hash (d ∷ y) = by_test (ends_in_return (d ∷ y))
  where
    by_test : (b : Bool) → is_some (body_in (if b then hash ∷ but_last (d ∷ y) else hash ∷ d ∷ y)) ≡ true
    by_test true = refl
    by_test false = refl

hash-first : (u : Text) → is_some (first_comment (hash ∷ u)) ≡ true
hash-first u =
    ap (λ x. is_some (body_in (line_end exact x))) (take_while-cons (λ c. not (c == line_feed)) hash u)
    ∙ line-hash (before_first (λ c. c == line_feed) u)

line-blank : (c : ℕ) (x : Text) → is_blank c ≡ true → body_in (line_end exact (c ∷ x)) ≡ body_in (line_end exact x)
line-blank c [] h =
    ap (λ b. body_in (if b then [] else one c)) (no-byte is_blank carriage_return (λ e. let clash : is_blank carriage_return ≡ true = e in cc) c h)
    ∙ ap (λ b. if b then body_in [] else (if c == hash then Some [] else None)) h
line-blank c (d ∷ y) h = by_test (ends_in_return (d ∷ y))
  where
    by_test : (b : Bool) → body_in (if b then c ∷ but_last (d ∷ y) else c ∷ d ∷ y) ≡ body_in (if b then but_last (d ∷ y) else d ∷ y)
    by_test true = ap (λ e. if e then body_in (but_last (d ∷ y)) else (if c == hash then Some (but_last (d ∷ y)) else None)) h
    by_test false = ap (λ e. if e then body_in (d ∷ y) else (if c == hash then Some (d ∷ y) else None)) h

blank-first : (c : ℕ) (t : Text) → is_blank c ≡ true → first_comment (c ∷ t) ≡ first_comment t
blank-first c t h =
    ap (λ x. body_in (line_end exact x)) (take_while-cons (λ d. not (d == line_feed)) c t)
    ∙ ap (λ b. body_in (line_end exact (cond (not b) (c ∷ before_first (λ d. d == line_feed) t) [])))
    (no-byte is_blank line_feed (λ e. let clash : is_blank line_feed ≡ true = e in cc) c h)
    ∙ line-blank c (before_first (λ d. d == line_feed) t) h

words-blank : (c : ℕ) (t : Text) → is_blank c ≡ true → words (c ∷ t) ≡ words t
words-blank c t h =
    let next : 1 + prefix_len is_blank t ≡ suc (prefix_len is_blank t) = omega arith in
    ap (λ b. drop (cond b (1 + prefix_len is_blank t) 0) (c ∷ t)) h ∙ ap (λ n. drop n (c ∷ t)) next

words-other : (c : ℕ) (t : Text) → is_blank c ≡ false → words (c ∷ t) ≡ c ∷ t
words-other c t h = ap (λ b. drop (cond b (1 + prefix_len is_blank t) 0) (c ∷ t)) h

pub words-first : (t : Text) → first_comment (words t) ≡ first_comment t
words-first [] = refl
words-first (c ∷ t) = by_test (is_blank c) refl (words-first t)
  where
    by_test : (b : Bool) → is_blank c ≡ b → first_comment (words t) ≡ first_comment t → first_comment (words (c ∷ t)) ≡ first_comment (c ∷ t)
    by_test true e ih = ap first_comment (words-blank c t e) ∙ ih ∙ sym (blank-first c t e)
    by_test false e ih = ap first_comment (words-other c t e)

pub spaces-first : (n : ℕ) (t : Text) → first_comment (spaces n ++ t) ≡ first_comment t
spaces-first zero t = refl
spaces-first (suc n) t = blank-first space (spaces n ++ t) refl ∙ spaces-first n t

-- a line with a comment is that but for white space
body-words : (l : Text) → is_some (body_in l) ≡ true → (b : Text) × (words l ≡ hash ∷ b)
body-words [] h = absurd cc
body-words (c ∷ l) h = by_test (is_blank c) refl h (body-words l)
  where
    by_hash : (b : Bool) → (c == hash) ≡ b → is_blank c ≡ false → is_some (if b then Some l else None) ≡ true
        → (b : Text) × (words (c ∷ l) ≡ hash ∷ b)
    by_hash true e other h = (l, words-other c l other ∙ ap (λ d. d ∷ l) (eqb-true c hash e))
    by_hash false e other h = absurd cc

    by_test : (b : Bool) → is_blank c ≡ b → is_some (if b then body_in l else (if c == hash then Some l else None)) ≡ true
        → (is_some (body_in l) ≡ true → (b : Text) × (words l ≡ hash ∷ b)) → (b : Text) × (words (c ∷ l) ≡ hash ∷ b)
    by_test true e h more = let found = more h in (found.0, words-blank c l e ∙ found.1)
    by_test false e h more = by_hash (c == hash) refl e h

-- the comment is there whatever follows its line
pub comment-first : (t rest : Text) → is_some (first_comment t) ≡ true → is_some (first_comment (words (first_line t) ++ rest)) ≡ true
comment-first t rest h =
    let found = body-words (first_line t) h in
    ap (λ u. is_some (first_comment (u ++ rest))) found.1 ∙ hash-first (found.0 ++ rest)

pub comment-line : (t : Text) → is_some (first_comment t) ≡ true → is_some (first_comment (first_line t)) ≡ true
comment-line t h =
    let found = body-words (first_line t) h in
    sym (ap is_some (words-first (first_line t))) ∙ ap (λ u. is_some (first_comment u)) found.1 ∙ hash-first found.0
