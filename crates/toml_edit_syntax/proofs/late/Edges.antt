-- The late part of an event stands in the text on the boundaries of characters: at its ends stand bytes of ASCII, or the event's ends.
use Rattle.std.proofs.Common.{◌≡◌, refl, sym, ◌∙◌, subst, ℕ, suc, ◌+◌, ◌-◌, ◌<◌, ◌≤◌, true, false, ◌==◌, ◌&&◌, [], ◌∷◌, length, drop}
use Rattle.std.proofs.Common.{get_or, arith, Option, Some, None, is_some, inl, inr}
use Rattle.std.proofs.lemmas.Bool.{cases_Bool, cases_lt, and_parts}
use Rattle.std.proofs.lemmas.Bool.Decides.{nat_tests}
use Rattle.std.proofs.lemmas.List.{length-take, length-drop, get_or-take, get_or-drop}
use Rattle.std.proofs.lemmas.List.Sums.{prefix_len_stops, prefix_len-le-length}
use Rattle.std.proofs.lemmas.Str.{IsCharBoundary-after_ascii, IsCharBoundary-before_ascii}
use Rattle.std.specs.Prelude.{IfSome}
use Rattle.std.specs.List.{prefix_len}
use Rattle.std.specs.Str.{IsUtf8, IsCharBoundary}
use Rattle.std.specs.Option.{option_or}
use Rattle.toml_edit_model.specs.OwnedForm.{cut_out}
use Rattle.toml_edit_model.specs.Text.{Text, line_feed, carriage_return, quote, hash, backslash}
use Rattle.toml_edit_laws.specs.reading.DatetimeReading.{datetime_of}
use Rattle.toml_edit_laws.specs.reading.Runs.{first}
use Rattle.toml_edit_syntax.specs.declared.event.Span.{Span}
use Rattle.toml_edit_syntax.specs.Events.{IsSpanOf}
use Rattle.toml_edit_syntax.specs.LateSpellings.{span_from, ends_digits, escape_at, first_escape, late_escape, lacks_seconds}
use Rattle.toml_edit_syntax.specs.LateSpellings.{late_in_scalar}
use Rattle.toml_edit_syntax.specs.LateTrivia.{is_in_line, late_in_trivia}

-- the place is the end of a text that begins at this byte, or beside a byte of ASCII in it
pub data Edge (i : ℕ) (t : Text) (n : ℕ) : Type 0 where
  at_end : n ≡ i + length t → Edge i t n
  before : (k : ℕ) → n ≡ i + k → k < length t → get_or t k 0 < 128 → Edge i t n
  behind : (k : ℕ) → n ≡ i + k + 1 → k < length t → get_or t k 0 < 128 → Edge i t n

pub record Lies (i : ℕ) (t : Text) (s : Span) : Type 0 where
  pub start : Edge i t s.start
  pub end : Edge i t s.end
  pub order : s.start ≤ s.end

edge_on : (i c : ℕ) (t : Text) (n : ℕ) → Edge (i + 1) t n → Edge i (c ∷ t) n
edge_on i c t n (at_end e) = at_end (omega arith)
edge_on i c t n (before k e l a) = before (suc k) (omega arith) (omega arith) a
edge_on i c t n (behind k e l a) = behind (suc k) (omega arith) (omega arith) a

pub lies_on : (i c : ℕ) (t : Text) (s : Span) → Lies (i + 1) t s → Lies i (c ∷ t) s
lies_on i c t s h = record { start = edge_on i c t s.start h.start; end = edge_on i c t s.end h.end; order = h.order }

-- ---- escapes

same_span : (x s : Span) → ◌≡◌ {A = Option Span} (Some x) (Some s) → x ≡ s
same_span x s e = cc

digits_lie : (i d : ℕ) (t : Text) → ends_digits t ≡ true → Lies i (backslash ∷ d ∷ t) (span_from i 4)
digits_lie i d [] h = absurd cc
digits_lie i d (a ∷ []) h = absurd cc
digits_lie i d (a ∷ b ∷ t) h =
    let low : b < 128 = grind (arith, nat_tests) in
    record {
      start = before 0 (omega arith) (omega arith) (omega arith);
      end = behind 3 (omega arith) (omega arith) low;
      order =
          omega arith;
    }

at_lies : (i d : ℕ) (t : Text) (s : Span) → escape_at i (d ∷ t) ≡ Some s → Lies i (backslash ∷ d ∷ t) s
at_lies i d t s e =
    elim (cases_Bool (d == 0x65)) [
      | inl is ↦
          let f : ◌≡◌ {A = Option Span} (Some (span_from i 2)) (Some s) = rw is at e in
          let low : d < 128 = grind (arith, nat_tests) in
          subst (λ (x : Span). Lies i (backslash ∷ d ∷ t) x) (same_span (span_from i 2) s f)
          (record {
            start = before 0 (omega arith) (omega arith) (omega arith);
            end = behind 1 (omega arith) (omega arith) low;
            order =
                omega arith;
          })
      | inr other ↦ elim (cases_Bool (d == 0x78 && ends_digits t)) [
        | inl is ↦
            let f : ◌≡◌ {A = Option Span} (Some (span_from i 4)) (Some s) = rw (other, is) at e in
            subst (λ (x : Span). Lies i (backslash ∷ d ∷ t) x) (same_span (span_from i 4) s f)
            (digits_lie i d t (and_parts (d == 0x78) (ends_digits t) is).1)
        | inr none ↦ let f : ◌≡◌ {A = Option Span} None (Some s) = rw (other, none) at e in absurd cc
      ]
    ]

pub escape_lies : (i : ℕ) (t : Text) (s : Span) → first_escape i t ≡ Some s → Lies i t s
escape_lies i [] s e = absurd cc
escape_lies i (c ∷ []) s e = absurd cc
escape_lies i (c ∷ d ∷ t) s e =
    elim (cases_Bool (c == backslash)) [
      | inl is ↦
          let f : option_or (escape_at i (d ∷ t)) (first_escape (i + 2) t) ≡ Some s = rw is at e in
          let same : backslash ≡ c = grind (arith, nat_tests) in
          subst (λ (x : ℕ). Lies i (x ∷ d ∷ t) s) same (either (escape_at i (d ∷ t)) refl f (λ g. escape_lies (i + 2) t s g))
      | inr other ↦ let f : first_escape (i + 1) (d ∷ t) ≡ Some s = rw other at e in lies_on i c (d ∷ t) s (escape_lies (i + 1) (d ∷ t) s f)
    ]
  where
    either : (o : Option Span) → escape_at i (d ∷ t) ≡ o → option_or o (first_escape (i + 2) t) ≡ Some s
        → (first_escape (i + 2) t ≡ Some s → Lies (i + 2) t s) → Lies i (backslash ∷ d ∷ t) s
    either (Some x) found f later = at_lies i d t s (found ∙ f)
    either None found f later =
        let two : i + 2 ≡ i + 1 + 1 = omega arith in
        lies_on i backslash (d ∷ t) s (lies_on (i + 1) d t s (subst (λ (j : ℕ). Lies j t s) two (later f)))

-- ---- trivia

newline_lies : (i : ℕ) (t : Text) → first t ≡ line_feed → Lies i (carriage_return ∷ t) (span_from i 2)
newline_lies i [] e = absurd (omega arith)
newline_lies i (c ∷ t) e =
    record {
      start = before 0 (omega arith) (omega arith) (omega arith);
      end = behind 1 (omega arith) (omega arith) (omega arith);
      order =
          omega arith;
    }

-- a byte that ends a line is one of ASCII
ends_low : (c : ℕ) → is_in_line c ≡ false → c < 128
ends_low c h =
    elim (cases_Bool (c == line_feed)) [
      | inl is ↦ grind (arith, nat_tests)
      | inr other ↦ elim (cases_Bool (c == carriage_return)) [
        | inl is ↦ grind (arith, nat_tests)
        | inr neither ↦ let f : true ≡ false = rw (other, neither) at h in absurd cc
      ]
    ]

comment_lies : (i : ℕ) (t : Text) → Lies i (hash ∷ t) (span_from i (1 + prefix_len is_in_line t))
comment_lies i t =
    record {
      start = before 0 (omega arith) (omega arith) (omega arith);
      end = elim (cases_lt (prefix_len is_in_line t) (length t)) [
        | inl more ↦
            before (suc (prefix_len is_in_line t)) (omega arith) (omega arith)
            (ends_low (get_or t (prefix_len is_in_line t) 0) (prefix_len_stops is_in_line t 0 more))
        | inr all ↦ at_end (let within = prefix_len-le-length is_in_line t in omega arith)
      ];
      order = omega arith;
    }

pub trivia_lies : (i : ℕ) (t : Text) (s : Span) → late_in_trivia i t ≡ Some s → Lies i t s
trivia_lies i [] s e = absurd cc
trivia_lies i (c ∷ t) s e =
    elim (cases_Bool (c == line_feed)) [
      | inl is ↦
          let f : ◌≡◌ {A = Option Span} (Some (span_from i 1)) (Some s) = rw is at e in
          let low : c < 128 = grind (arith, nat_tests) in
          subst (λ (x : Span). Lies i (c ∷ t) x) (same_span (span_from i 1) s f)
          (record { start = before 0 (omega arith) (omega arith) low; end = behind 0 (omega arith) (omega arith) low; order = omega arith })
      | inr one ↦ elim (cases_Bool (c == carriage_return && first t == line_feed)) [
        | inl is ↦
            let f : ◌≡◌ {A = Option Span} (Some (span_from i 2)) (Some s) = rw (one, is) at e in
            let both = and_parts (c == carriage_return) (first t == line_feed) is in
            let same : carriage_return ≡ c = let g = both.0 in grind (arith, nat_tests) in
            let next : first t ≡ line_feed = let g = both.1 in grind (arith, nat_tests) in
            subst (λ (x : Span). Lies i (c ∷ t) x) (same_span (span_from i 2) s f)
            (subst (λ (x : ℕ). Lies i (x ∷ t) (span_from i 2)) same (newline_lies i t next))
        | inr two ↦ elim (cases_Bool (c == hash)) [
          | inl is ↦
              let f : ◌≡◌ {A = Option Span} (Some (span_from i (1 + prefix_len is_in_line t))) (Some s) = rw (one, two, is) at e in
              let same : hash ≡ c = grind (arith, nat_tests) in
              subst (λ (x : Span). Lies i (c ∷ t) x) (same_span (span_from i (1 + prefix_len is_in_line t)) s f)
              (subst (λ (x : ℕ). Lies i (x ∷ t) (span_from i (1 + prefix_len is_in_line t))) same (comment_lies i t))
          | inr three ↦ let f : late_in_trivia (i + 1) t ≡ Some s = rw (one, two, three) at e in lies_on i c t s (trivia_lies (i + 1) t s f)
        ]
      ]
    ]

-- ---- in the source

cut_len : (source : Text) (a b : ℕ) → b ≤ length source → length (cut_out source a b) ≡ b - a
cut_len source a b within = omega (arith, length-take (b - a) (drop a source), length-drop a source)

cut_byte : (source : Text) (a b k : ℕ) → k < b - a → get_or (cut_out source a b) k 0 ≡ get_or source (a + k) 0
cut_byte source a b k l = get_or-take (b - a) (drop a source) k 0 l ∙ get_or-drop a source k 0

edge_in : (source : Text) (e : Span) (n : ℕ) → IsUtf8 source → IsSpanOf source e → Edge e.start (cut_out source e.start e.end) n
    → IsCharBoundary source n
edge_in source e n utf8 h (at_end is) =
    subst (IsCharBoundary source) (let len = cut_len source e.start e.end h.end.0 in let o = h.order in let f : e.end ≡ n = omega arith in
    f) h.end
edge_in source e n utf8 h (before k is l a) =
    let len = cut_len source e.start e.end h.end.0 in
    let low : get_or source (e.start + k) 0 < 128 = omega (arith, cut_byte source e.start e.end k (omega arith)) in
    subst (IsCharBoundary source) (sym is) (IsCharBoundary-before_ascii source (e.start + k) (let w = h.end.0 in omega arith) low)
edge_in source e n utf8 h (behind k is l a) =
    let len = cut_len source e.start e.end h.end.0 in
    let low : get_or source (e.start + k) 0 < 128 = omega (arith, cut_byte source e.start e.end k (omega arith)) in
    subst (IsCharBoundary source) (sym is) (IsCharBoundary-after_ascii source (e.start + k) utf8 (let w = h.end.0 in omega arith) low)

lies_in : (source : Text) (e s : Span) → IsUtf8 source → IsSpanOf source e → Lies e.start (cut_out source e.start e.end) s
    → IsSpanOf source s
lies_in source e s utf8 h lies =
    record { start = edge_in source e s.start utf8 h lies.start; end = edge_in source e s.end utf8 h lies.end; order = lies.order }

-- ---- the late part of each kind of text

string_lies : (i : ℕ) (t : Text) (s : Span) → late_escape i t ≡ Some s → Lies i t s
string_lies i [] s e = absurd cc
string_lies i (c ∷ t) s e =
    elim (cases_Bool (c == quote)) [
      | inl is ↦ let f : first_escape (i + 1) t ≡ Some s = rw is at e in lies_on i c t s (escape_lies (i + 1) t s f)
      | inr other ↦ let f : ◌≡◌ {A = Option Span} None (Some s) = rw other at e in absurd cc
    ]

-- what is found in an event's text lies in the source
pub escape_in : (source : Text) (e : Span) (o : Option Span) → IsUtf8 source → IsSpanOf source e → o
    ≡ late_escape e.start (cut_out source e.start e.end)
    → IfSome o (λ s. IsSpanOf source s)
escape_in source e None utf8 h is = tt
escape_in source e (Some s) utf8 h is = lies_in source e s utf8 h (string_lies e.start (cut_out source e.start e.end) s (sym is))

pub trivia_in : (source : Text) (e : Span) (o : Option Span) → IsUtf8 source → IsSpanOf source e → o
    ≡ late_in_trivia e.start (cut_out source e.start e.end)
    → IfSome o (λ s. IsSpanOf source s)
trivia_in source e None utf8 h is = tt
trivia_in source e (Some s) utf8 h is = lies_in source e s utf8 h (trivia_lies e.start (cut_out source e.start e.end) s (sym is))

whole_in : (source : Text) (e : Span) → IsSpanOf source e → IsSpanOf source (span_from e.start (length (cut_out source e.start e.end)))
whole_in source e h =
    let len = cut_len source e.start e.end h.end.0 in
    let same : e.end ≡ e.start + length (cut_out source e.start e.end) = let o = h.order in omega arith in
    record { start = h.start; end = subst (IsCharBoundary source) same h.end; order = omega arith }

pub scalar_in : (source : Text) (e : Span) (o : Option Span) → IsUtf8 source → IsSpanOf source e → o
    ≡ late_in_scalar e.start (cut_out source e.start e.end)
    → IfSome o (λ s. IsSpanOf source s)
scalar_in source e None utf8 h is = tt
scalar_in source e (Some s) utf8 h is =
    let t = cut_out source e.start e.end in
    elim (cases_Bool (is_some (datetime_of t))) [
      | inl date ↦ elim (cases_Bool (lacks_seconds t)) [
        | inl late ↦
            let f : ◌≡◌ {A = Option Span} (Some s) (Some (span_from e.start (length t))) = rw (date, late) at is in
            subst (IsSpanOf source) (same_span (span_from e.start (length t)) s (sym f)) (whole_in source e h)
        | inr early ↦ let f : ◌≡◌ {A = Option Span} (Some s) None = rw (date, early) at is in absurd cc
      ]
      | inr other ↦ let f : Some s ≡ late_escape e.start t = rw other at is in escape_in source e (Some s) utf8 h f
    ]
