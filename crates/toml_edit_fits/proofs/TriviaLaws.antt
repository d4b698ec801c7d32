-- The tests of trivia tell what they say.
use Rattle.std.proofs.Common.{◌≡◌, refl, sym, ◌∙◌, ap, subst, ℕ, Bool, true, false, List, [], ◌∷◌, ◌++◌, ◌⊎◌, append_assoc, append-nil}
use Rattle.std.proofs.Common.{Option, Some, None, inl, inr, arith, ◌≢◌}
use Rattle.std.specs.Prelude.{◌&&◌, ◌||◌, ◌==◌, not, if◌then◌else◌, flat_map, is_some, Decides}
use Rattle.std.specs.List.{list_all, AllByRecursion}
use Rattle.std.proofs.lemmas.Bool.{cases_Bool}
use Rattle.std.proofs.lemmas.Bool.Decides.{nat_tests, Decides-eqb}
use Rattle.toml_edit_model.specs.Text.{Text, line_feed, hash, carriage_return, has_byte, without_returns}
use Rattle.toml_edit_model.specs.Mode.{Mode, plain, exact, shown_text, ends_in_return, but_last, line_end}
use Rattle.toml_edit_model.specs.Trivia.{is_blank, is_visible, Each, IsWhiteSpace, Newline, lf, crlf, newline_text, comment, Piece, blank}
use Rattle.toml_edit_model.specs.Trivia.{break, remark, piece_text, IsPiece, IsWholeTrivia, IsOpenComment, IsLineEnd, IsFinalTrivia}
use Rattle.toml_edit_model.specs.Fits.{EndsLine}
use Rattle.toml_edit_laws.proofs.common.Tests.{and_left, and_right, and_both}
use Rattle.toml_edit_fits.specs.TriviaTests.{starts_with_feed, open_after, is_closed, is_whole, is_final, ends_line_from, ends_line}

-- ---- single bytes

blank-feed : (c : ℕ) → is_blank c ≡ true → (c == line_feed) ≡ false
blank-feed c h = grind (arith, nat_tests)

blank-hash : (c : ℕ) → is_blank c ≡ true → (c == hash) ≡ false
blank-hash c h = grind (arith, nat_tests)

blank-return : (c : ℕ) → is_blank c ≡ true → (c == carriage_return) ≡ false
blank-return c h = grind (arith, nat_tests)

visible-feed : (c : ℕ) → is_visible c ≡ true → (c == line_feed) ≡ false
visible-feed c h = grind (arith, nat_tests)

visible-return : (c : ℕ) → is_visible c ≡ true → (c == carriage_return) ≡ false
visible-return c h = grind (arith, nat_tests)

-- ---- ends of lines

ends-comment : (t : Text) → ends_line_from true t ≡ list_all is_visible t
ends-comment [] = refl
ends-comment (c ∷ t) = ap (λ b. is_visible c && b) (ends-comment t)

to-end : (t : Text) → ends_line_from false t ≡ true → IsLineEnd t
to-end [] h = ([], [], refl, inl refl, refl)
to-end (c ∷ t) h =
    elim (cases_Bool (c == hash)) [
      | inl e ↦
          let g : ends_line_from true t ≡ true = rw e at h in
          ([], c ∷ t, refl, inr (t, sym (ends-comment t) ∙ g, ap (λ d. d ∷ t) ((Decides-eqb c hash).0 e)), refl)
      | inr e ↦
          let g : (is_blank c && ends_line_from false t) ≡ true = rw e at h in
          let more = to-end t (and_right (is_blank c) (ends_line_from false t) g) in (
            c ∷ more.0,
            more.1,
            and_both (is_blank c) (list_all is_blank more.0) (and_left (is_blank c) (ends_line_from false t) g) more.2,
            more.3,
            ap (λ u. c ∷ u) more.4,
          )
    ]

from-open : (t : Text) → IsOpenComment t → ends_line_from false t ≡ true
from-open t (inl e) = ap (ends_line_from false) e
from-open t (inr (body, h, e)) = ap (ends_line_from false) e ∙ ends-comment body ∙ h

from-parts : (white rest : Text) → IsWhiteSpace white → IsOpenComment rest → ends_line_from false (white ++ rest) ≡ true
from-parts [] rest h g = from-open rest g
from-parts (c ∷ white) rest h g =
    let b : is_blank c ≡ true = and_left (is_blank c) (list_all is_blank white) h in
    rw (blank-hash c b, b) (from-parts white rest (and_right (is_blank c) (list_all is_blank white) h) g)

pub end-decides : (mode : Mode) (t : Text) → Decides (ends_line mode t) (EndsLine mode t)
end-decides mode t = (to-end (line_end mode t), λ h. ap (ends_line_from false) h.4 ∙ from-parts h.0 h.1 h.2 h.3)

-- ---- trivia with newlines

-- a text that goes on after a comment
abbrev Commented : (Text → Type 0) → Text → Type 0
Commented P t = (body rest : Text) × (n : Newline) × Each is_visible body × P rest × (t ≡ body ++ (newline_text n ++ rest))

blank-first : (c : ℕ) (t : Text) → is_blank c ≡ true → IsWholeTrivia t → IsWholeTrivia (c ∷ t)
blank-first c t h (ps, each, e) = (blank c ∷ ps, (h, each), ap (λ u. c ∷ u) e)

newline-first : (n : Newline) (t : Text) → IsWholeTrivia t → IsWholeTrivia (newline_text n ++ t)
newline-first n t (ps, each, e) = (break n ∷ ps, (tt, each), ap (λ u. newline_text n ++ u) e)

remark-first : (c : ℕ) (t : Text) → (c == hash) ≡ true → Commented IsWholeTrivia t → IsWholeTrivia (c ∷ t)
remark-first c t h (body, rest, n, visible, (ps, each, e), is) =
    let same : c ≡ hash = (Decides-eqb c hash).0 h in (
      remark body n ∷ ps,
      (visible, each),
      ap (λ d. d ∷ t) same
          ∙ ap (λ u. hash ∷ u) (is ∙ ap (λ u. body ++ (newline_text n ++ u)) e
          ∙ sym (append_assoc body (newline_text n) (flat_map piece_text ps))),
    )

one-visible : (P : Text → Type 0) (c : ℕ) (t : Text) → is_visible c ≡ true → Commented P t → Commented P (c ∷ t)
one-visible P c t h (body, rest, n, each, p, e) =
    (c ∷ body, rest, n, and_both (is_visible c) (list_all is_visible body) h each, p, ap (λ u. c ∷ u) e)

-- What holds of the empty text, and of a text with one more byte or newline, holds where the test has this answer.
module _ (answers : Option Bool → Bool) (P : Bool → Text → Type 0) (none : answers None ≡ true → ⊥)
    (at_end : (b : Bool) → answers (Some b) ≡ true → P b [])
    (at_newline : (b : Bool) (n : Newline) (t : Text) → P false t → P b (newline_text n ++ t))
    (at_visible : (c : ℕ) (t : Text) → is_visible c ≡ true → P true t → P true (c ∷ t))
    (at_hash : (c : ℕ) (t : Text) → (c == hash) ≡ true → P true t → P false (c ∷ t))
    (at_blank : (c : ℕ) (t : Text) → is_blank c ≡ true → P false t → P false (c ∷ t)) where
  -- after a line feed that is first
  abbrev BehindFirst : Text → Type 0
  BehindFirst [] = Unit {0}
  BehindFirst (d ∷ t) = answers (open_after false t) ≡ true → P false t

  one-step : (b : Bool) (c : ℕ) (t : Text) → ((d : Bool) → answers (open_after d t) ≡ true → P d t) → BehindFirst t
      → answers (open_after b (c ∷ t)) ≡ true → P b (c ∷ t)
  one-step b c t ih behind h = by_feed (c == line_feed) refl h
    where
      by_blank : (x : Bool) → is_blank c ≡ x → answers (if x then open_after false t else None) ≡ true → P false (c ∷ t)
      by_blank true e g = at_blank c t e (ih false g)
      by_blank false e g = absurd (none g)

      by_hash : (x : Bool) → (c == hash) ≡ x → answers (if x then open_after true t else if is_blank c then open_after false t else None)
          ≡ true → P false (c ∷ t)
      by_hash true e g = at_hash c t e (ih true g)
      by_hash false e g = by_blank (is_blank c) refl g

      by_visible : (x : Bool) → is_visible c ≡ x → answers (if x then open_after true t else None) ≡ true → P true (c ∷ t)
      by_visible true e g = at_visible c t e (ih true g)
      by_visible false e g = absurd (none g)

      by_open : (d : Bool) → answers (if d then (if is_visible c then open_after true t else None) else if c == hash then open_after true t
          else if is_blank c then open_after false t else None) ≡ true
          → P d (c ∷ t)
      by_open true g = by_visible (is_visible c) refl g
      by_open false g = by_hash (c == hash) refl g

      returned : (u : Text) → BehindFirst u → (starts_with_feed u && c == carriage_return) ≡ true → answers (open_after b u) ≡ true
          → P b (c ∷ u)
      returned [] more e g = absurd cc
      returned (d ∷ u) more e g =
          let feed : (d == line_feed) ≡ true = and_left (d == line_feed) (c == carriage_return) e in
          let first : c ≡ carriage_return = (Decides-eqb c carriage_return).0 (and_right (d == line_feed) (c == carriage_return) e) in
          let second : d ≡ line_feed = (Decides-eqb d line_feed).0 feed in
          let rest : answers (open_after false u) ≡ true = rw feed at g in
          subst (λ a. P b (a ∷ d ∷ u)) (sym first) (subst (λ a. P b (carriage_return ∷ a ∷ u)) (sym second)
          (at_newline b crlf u (more rest)))

      by_return : (x : Bool) → (starts_with_feed t && c == carriage_return) ≡ x
          → answers (if x then open_after b t else if b then (if is_visible c then open_after true t else None) else if c == hash
          then open_after true t else if is_blank c then open_after false t else None) ≡ true
          → P b (c ∷ t)
      by_return true e g = returned t behind e g
      by_return false e g = by_open b g

      by_feed : (x : Bool) → (c == line_feed) ≡ x
          → answers (if x then open_after false t else if starts_with_feed t && c == carriage_return then open_after b t
          else if b then (if is_visible c then open_after true t else None) else if c == hash then open_after true t else if is_blank c
          then open_after false t else None) ≡ true
          → P b (c ∷ t)
      by_feed true e g = subst (λ a. P b (a ∷ t)) (sym ((Decides-eqb c line_feed).0 e)) (at_newline b lf t (ih false g))
      by_feed false e g = by_return (starts_with_feed t && c == carriage_return) refl g

  along : (b : Bool) (t : Text) → answers (open_after b t) ≡ true → P b t
  along b [] h = at_end b h
  along b (c ∷ []) h = one-step b c [] (λ d g. along d [] g) tt h
  along b (c ∷ d ∷ t) h = one-step b c (d ∷ t) (λ e g. along e (d ∷ t) g) (λ g. along false t g) h

-- ---- whole trivia

abbrev Whole : Bool → Text → Type 0
Whole false t = IsWholeTrivia t
Whole true t = Commented IsWholeTrivia t

to-whole : (b : Bool) (t : Text) → is_closed (open_after b t) ≡ true → Whole b t
to-whole b t h = along is_closed Whole (λ e. cc) at_end at_newline (λ c u e w. one-visible IsWholeTrivia c u e w) remark-first blank-first b
    t h
  where
    at_end : (b : Bool) → is_closed (Some b) ≡ true → Whole b []
    at_end false e = ([], tt, refl)
    at_end true e = absurd cc

    at_newline : (b : Bool) (n : Newline) (u : Text) → Whole false u → Whole b (newline_text n ++ u)
    at_newline false n u w = newline-first n u w
    at_newline true n u w = ([], u, n, refl, w, refl)

-- ---- the same with an open comment at the end

abbrev Opened : Text → Type 0
Opened t = (whole body : Text) × IsWholeTrivia whole × Each is_visible body × (t ≡ whole ++ comment body)

abbrev Open : Bool → Text → Type 0
Open false t = Opened t
Open true t = Each is_visible t ⊎ Commented Opened t

abbrev ends_open : Option Bool → Bool
ends_open None = false
ends_open (Some b) = b

opened-hash : (c : ℕ) (t : Text) → (c == hash) ≡ true → Open true t → Opened (c ∷ t)
opened-hash c t h (inl v) = ([], t, ([], tt, refl), v, ap (λ d. d ∷ t) ((Decides-eqb c hash).0 h))
opened-hash c t h (inr (body, rest, n, visible, (whole, last, w, v, e), is)) = (
  c ∷ (body ++ (newline_text n ++ whole)),
  last,
  remark-first c (body ++ (newline_text n ++ whole)) h (body, whole, n, visible, w, refl),
  v,
  ap (λ u. c ∷ u) (is ∙ ap (λ u. body ++ (newline_text n ++ u)) e
      ∙ ap (λ u. body ++ u) (sym (append_assoc (newline_text n) whole (comment last)))
      ∙ sym (append_assoc body (newline_text n ++ whole) (comment last))),
)

to-open : (b : Bool) (t : Text) → ends_open (open_after b t) ≡ true → Open b t
to-open b t h = along ends_open Open (λ e. cc) at_end at_newline at_visible opened-hash at_blank b t h
  where
    at_end : (b : Bool) → ends_open (Some b) ≡ true → Open b []
    at_end false e = absurd cc
    at_end true e = inl refl

    opened-newline : (n : Newline) (u : Text) → Opened u → Opened (newline_text n ++ u)
    opened-newline n u (whole, body, w, v, e) = (
      newline_text n ++ whole,
      body,
      newline-first n whole w,
      v,
      ap (λ x. newline_text n ++ x) e
          ∙ sym (append_assoc (newline_text n) whole (comment body)),
    )

    at_newline : (b : Bool) (n : Newline) (u : Text) → Open false u → Open b (newline_text n ++ u)
    at_newline false n u p = opened-newline n u p
    at_newline true n u p = inr ([], u, n, refl, p, refl)

    at_visible : (c : ℕ) (u : Text) → is_visible c ≡ true → Open true u → Open true (c ∷ u)
    at_visible c u e (inl v) = inl (and_both (is_visible c) (list_all is_visible u) e v)
    at_visible c u e (inr more) = inr (one-visible Opened c u e more)

    at_blank : (c : ℕ) (u : Text) → is_blank c ≡ true → Opened u → Opened (c ∷ u)
    at_blank c u h (whole, body, w, v, e) = (c ∷ whole, body, blank-first c whole h w, v, ap (λ x. c ∷ x) e)

-- ---- from pieces

through-newline : (b : Bool) (n : Newline) (t : Text) → open_after b (newline_text n ++ t) ≡ open_after false t
through-newline b lf t = refl
through-newline b crlf t = refl

-- a byte that is no line feed and no carriage return, before any text
no-newline : (b : Bool) (c : ℕ) (t : Text) → (c == line_feed) ≡ false → (c == carriage_return) ≡ false
    → open_after b (c ∷ t) ≡ (if b then (if is_visible c then open_after true t else None) else if c == hash then open_after true t
    else if is_blank c then open_after false t else None)
no-newline b c t h g = rw (h, g) (by_feed (starts_with_feed t))
  where
    by_feed : (x : Bool) → (if x && false then open_after b t else if b then (if is_visible c then open_after true t else None)
        else if c == hash then open_after true t else if is_blank c then open_after false t else None)
        ≡ (if b then (if is_visible c then open_after true t else None) else if c == hash then open_after true t else if is_blank c
        then open_after false t else None)
    by_feed true = refl
    by_feed false = refl

through-hash : (t : Text) → open_after false (hash ∷ t) ≡ open_after true t
through-hash t = no-newline false hash t refl refl

through-comment : (body t : Text) → Each is_visible body → open_after true (body ++ t) ≡ open_after true t
through-comment [] t h = refl
through-comment (c ∷ body) t h =
    let v : is_visible c ≡ true = and_left (is_visible c) (list_all is_visible body) h in
    no-newline true c (body ++ t) (visible-feed c v) (visible-return c v) ∙ ap (λ x. if x then open_after true (body ++ t) else None) v
    ∙ through-comment body t (and_right (is_visible c) (list_all is_visible body) h)

through-piece : (p : Piece) (t : Text) → IsPiece p → open_after false (piece_text p ++ t) ≡ open_after false t
through-piece (blank c) t h =
    no-newline false c t (blank-feed c h) (blank-return c h)
    ∙ ap (λ x. if x then open_after true t else if is_blank c then open_after false t else None) (blank-hash c h)
    ∙ ap (λ x. if x then open_after false t else None) h
through-piece (break n) t h = through-newline false n t
through-piece (remark body n) t h =
    through-hash (body ++ newline_text n ++ t) ∙ ap (open_after true) (append_assoc body (newline_text n) t)
    ∙ through-comment body (newline_text n ++ t) h ∙ through-newline true n t

through-pieces : (ps : List Piece) (t : Text) → AllByRecursion IsPiece ps → open_after false (flat_map piece_text ps ++ t)
    ≡ open_after false t
through-pieces [] t h = refl
through-pieces (p ∷ ps) t h =
    ap (open_after false) (append_assoc (piece_text p) (flat_map piece_text ps) t)
    ∙ through-piece p (flat_map piece_text ps ++ t) h.0 ∙ through-pieces ps t h.1

through-whole : (s t : Text) → IsWholeTrivia s → open_after false (s ++ t) ≡ open_after false t
through-whole s t (ps, each, e) = ap (λ u. open_after false (u ++ t)) e ∙ through-pieces ps t each

-- ---- what the tests tell

pub whole-decides : (t : Text) → Decides (is_whole t) (IsWholeTrivia t)
whole-decides t = (
  to-whole false t,
  λ h. ap (λ u. is_closed (open_after false u)) (sym (append-nil t))
      ∙ ap is_closed (through-whole t [] h),
)

comment-open : (t : Text) → IsOpenComment t → is_some (open_after false t) ≡ true
comment-open t (inl e) = ap (λ u. is_some (open_after false u)) e
comment-open t (inr (body, v, e)) =
    ap (λ u. is_some (open_after false u)) e ∙ ap is_some (through-hash body)
    ∙ ap (λ u. is_some (open_after true u)) (sym (append-nil body)) ∙ ap is_some (through-comment body [] v)

to-final : (t : Text) → is_final t ≡ true → IsFinalTrivia t
to-final t h = by_end (open_after false t) refl h
  where
    by_end : (o : Option Bool) → open_after false t ≡ o → is_some o ≡ true → IsFinalTrivia t
    by_end None e h = absurd cc
    by_end (Some false) e h = (t, [], to-whole false t (ap is_closed e), inl refl, sym (append-nil t))
    by_end (Some true) e h =
        let o = to-open false t (ap ends_open e) in (o.0, comment o.1, o.2, inr (o.1, o.3, refl), o.4)

pub final-decides : (t : Text) → Decides (is_final t) (IsFinalTrivia t)
final-decides t = (to-final t, λ h. ap is_final h.4 ∙ ap is_some (through-whole h.0 h.1 h.2) ∙ comment-open h.1 h.3)

-- ---- as the program goes through them

-- to leave out carriage returns leaves out no newline
newline-kept : (t : Text) → has_byte line_feed (without_returns t) ≡ has_byte line_feed t
newline-kept [] = refl
newline-kept (c ∷ t) = by_return (c == carriage_return) refl (newline-kept t)
  where
    by_return : (b : Bool) → (c == carriage_return) ≡ b → has_byte line_feed (without_returns t) ≡ has_byte line_feed t
        → has_byte line_feed (if not b then c ∷ without_returns t else without_returns t) ≡ has_byte line_feed (c ∷ t)
    by_return true e h = h ∙ sym (ap (λ n. (n == line_feed) || has_byte line_feed t) ((Decides-eqb c carriage_return).0 e))
    by_return false e h = ap (λ b. (c == line_feed) || b) h

-- a newline stands in a text just where it is shown with one
pub newline-shown : (mode : Mode) (t : Text) → has_byte line_feed (shown_text mode t) ≡ has_byte line_feed t
newline-shown plain t = newline-kept t
newline-shown exact t = refl

visible-no_feed : (c : ℕ) → (c == line_feed) ≡ true → is_visible c ≡ false
visible-no_feed c h = grind (arith, nat_tests)

-- the end of a line is trivia without newlines
pub ends-is : (b : Bool) (t : Text) → ends_line_from b t ≡ (not (has_byte line_feed t) && is_some (open_after b t))
ends-is b [] = refl
ends-is b (c ∷ t) = by_feed b (c == line_feed) (starts_with_feed t && c == carriage_return) refl refl (λ d. ends-is d t)
  where
    none : (x : Bool) → false ≡ (x && false)
    none true = refl
    none false = refl

    -- no newline ends a line
    returned : (b : Bool) (u : Text) → (starts_with_feed u && c == carriage_return) ≡ true
        → (if b then is_visible c && ends_line_from true u else if c == hash then ends_line_from true u else is_blank c
        && ends_line_from false u)
        ≡ (not (has_byte line_feed u) && is_some (open_after b u))
    returned b [] e = absurd cc
    returned b (d ∷ u) e =
        let first : c ≡ carriage_return = (Decides-eqb c carriage_return).0 (and_right (d == line_feed) (c == carriage_return) e) in
        ap (λ a. if b then is_visible a && ends_line_from true (d ∷ u) else if a == hash then ends_line_from true (d ∷ u) else is_blank a
        && ends_line_from false (d ∷ u)) first
        ∙ by_open b ∙ ap (λ x. not (x || has_byte line_feed u)
        && is_some (open_after b (d ∷ u))) (sym (and_left (d == line_feed) (c == carriage_return) e))
      where
        by_open : (b : Bool) → (if b then is_visible carriage_return && ends_line_from true (d ∷ u)
            else if carriage_return == hash then ends_line_from true (d ∷ u) else is_blank carriage_return && ends_line_from false (d ∷ u))
            ≡ false
        by_open true = refl
        by_open false = refl

    by_feed : (b x r : Bool) → (c == line_feed) ≡ x → (starts_with_feed t && c == carriage_return) ≡ r
        → ((d : Bool) → ends_line_from d t ≡ (not (has_byte line_feed t) && is_some (open_after d t)))
        → (if b then is_visible c && ends_line_from true t else if c == hash then ends_line_from true t else is_blank c
        && ends_line_from false t)
        ≡ (not (x || has_byte line_feed t) && is_some (if x then open_after false t else if r then open_after b t
        else if b then (if is_visible c then open_after true t else None) else if c == hash then open_after true t else if is_blank c
        then open_after false t else None))
    by_feed true true r e g ih = ap (λ y. y && ends_line_from true t) (visible-no_feed c e)
    by_feed false true r e g ih =
        let same : c ≡ line_feed = (Decides-eqb c line_feed).0 e in
        ap (λ d. if d == hash then ends_line_from true t else is_blank d && ends_line_from false t) same
    by_feed b false true e g ih = returned b t g
    by_feed true false false e g ih =
        elim (cases_Bool (is_visible c)) [
          | inl v ↦ rw v (ih true)
          | inr v ↦ rw v (none (not (has_byte line_feed t)))
        ]
    by_feed false false false e g ih =
        elim (cases_Bool (c == hash)) [
          | inl h ↦ rw h (ih true)
          | inr h ↦ rw h
              (elim (cases_Bool (is_blank c)) [
                | inl v ↦ rw v (ih false)
                | inr v ↦ rw v (none (not (has_byte line_feed t)))
              ])
        ]

-- ---- a suffix without the carriage return of its newline

return-dropped : (t : Text) → ends_in_return t ≡ true → without_returns (but_last t) ≡ without_returns t
return-dropped [] h = refl
return-dropped (c ∷ []) h = ap (λ d. without_returns (d ∷ [])) (sym ((Decides-eqb c carriage_return).0 h))
return-dropped (c ∷ d ∷ t) h = ap (λ u. if not (c == carriage_return) then c ∷ u else u) (return-dropped (d ∷ t) h)

-- in the plain mode it isn't shown
pub end-shown : (mode : Mode) (t : Text) → shown_text mode (line_end exact t) ≡ line_end mode (shown_text mode t)
end-shown plain t = by_test (ends_in_return t) refl
  where
    by_test : (b : Bool) → ends_in_return t ≡ b → without_returns (if b then but_last t else t) ≡ without_returns t
    by_test true e = return-dropped t e
    by_test false e = refl
end-shown exact t = refl

end-of : (t : Text) → line_end exact (t ++ (carriage_return ∷ [])) ≡ t
end-of t = ap (λ b. if b then but_last (t ++ (carriage_return ∷ [])) else t ++ (carriage_return ∷ [])) (ends t) ∙ front t
  where
    ends : (t : Text) → ends_in_return (t ++ (carriage_return ∷ [])) ≡ true
    ends [] = refl
    ends (c ∷ []) = refl
    ends (c ∷ d ∷ t) = ends (d ∷ t)

    front : (t : Text) → but_last (t ++ (carriage_return ∷ [])) ≡ t
    front [] = refl
    front (c ∷ []) = refl
    front (c ∷ d ∷ t) = ap (λ u. c ∷ u) (front (d ∷ t))

last-kept : (t : Text) → ends_in_return t ≡ true → t ≡ but_last t ++ (carriage_return ∷ [])
last-kept [] h = absurd cc
last-kept (c ∷ []) h = ap (λ d. d ∷ []) ((Decides-eqb c carriage_return).0 h)
last-kept (c ∷ d ∷ t) h = ap (λ u. c ∷ u) (last-kept (d ∷ t) h)

pub end-with : (t u : Text) → t ≡ u ++ (carriage_return ∷ []) → u ≡ line_end exact t
end-with t u e = sym (end-of u) ∙ ap (line_end exact) (sym e)

pub end-without : (t : Text) → ((front : Text) → t ≢ front ++ (carriage_return ∷ [])) → t ≡ line_end exact t
end-without t h = by_test (ends_in_return t) refl
  where
    by_test : (b : Bool) → ends_in_return t ≡ b → t ≡ (if b then but_last t else t)
    by_test true e = absurd (h (but_last t) (last-kept t e))
    by_test false e = refl
