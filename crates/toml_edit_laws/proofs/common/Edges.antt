-- Where a source may be cut: before and after an ASCII byte, and so at both ends of trivia.
use Rattle.std.proofs.Common.{◌≡◌, ◌⊎◌, ℕ, ◌+◌, ◌-◌, ◌<◌, refl, sym, ap, subst, ◌∙◌, arith, inl, inr, true, List, [], ◌∷◌, ◌++◌}
use Rattle.std.proofs.Common.{append_assoc, append-nil, length, get_or}
use Rattle.std.specs.List.{list_all, AllByRecursion, flat_map}
use Rattle.std.specs.Str.{IsUtf8, IsCharBoundary}
use Rattle.std.proofs.lemmas.List.{length-append, get_or-append_right}
use Rattle.std.proofs.lemmas.Str.{IsCharBoundary-before_ascii, IsCharBoundary-after_ascii}
use Rattle.std.proofs.lemmas.Bool.{and_parts}
use Rattle.std.proofs.lemmas.Bool.Decides.{nat_tests}
use Rattle.toml_edit_model.specs.Text.{Text}
use Rattle.toml_edit_model.specs.Trivia.{is_blank, IsWhiteSpace, lf, crlf, comment, Piece, blank, break, remark, piece_text, IsPiece}
use Rattle.toml_edit_model.specs.Trivia.{IsWholeTrivia, IsNewline, IsLineEnd, IsFinalTrivia}
use Rattle.toml_edit_laws.specs.reading.Runs.{first}
use Rattle.toml_edit_laws.specs.Standing.{Stands}
use Rattle.toml_edit_laws.proofs.common.Tests.{and_left, and_right}
use Rattle.toml_edit_laws.proofs.common.StandingLaws.{stands-right}

-- ---- an ASCII byte

byte-at : (source : Text) (i c : ℕ) (t : Text) → Stands source i (c ∷ t) → (get_or source i 0 ≡ c) × (i < length source)
byte-at source i c t h = (
  ap (λ (s : Text). get_or s i 0) h.text
      ∙ get_or-append_right h.before (c ∷ (t ++ h.after)) i i 0 (sym h.place) (omega arith)
      ∙ ap (λ (k : ℕ). get_or (c ∷ (t ++ h.after)) k 0) (let none : i - i ≡ 0 = omega arith in none),
  omega (arith, h.place, ap length h.text, length-append h.before (c ∷ (t ++ h.after))),
)

-- the source may be cut before it
pub edge-before : (source : Text) (i c : ℕ) (t : Text) → Stands source i (c ∷ t) → c < 128 → IsCharBoundary source i
edge-before source i c t h small =
    let at = byte-at source i c t h in
    IsCharBoundary-before_ascii source i at.1 (omega (arith, at.0))

-- and after it
pub edge-after : (source : Text) (i c : ℕ) (t : Text) → IsUtf8 source → Stands source i (c ∷ t) → c < 128 → IsCharBoundary source (i + 1)
edge-after source i c t utf8 h small =
    let at = byte-at source i c t h in
    IsCharBoundary-after_ascii source i utf8 at.1 (omega (arith, at.0))

-- ---- texts that begin, or end, with an ASCII byte

-- the text is empty or begins with an ASCII byte
abbrev pub StartsAscii : Text → Type 0
StartsAscii t = first t < 128

-- the text is empty or ends with an ASCII byte
abbrev pub EndsAscii : Text → Type 0
EndsAscii t = (t ≡ []) ⊎ ((front : Text) × (c : ℕ) × (t ≡ front ++ (c ∷ [])) × (c < 128))

-- where the source may be cut after such a text, it may be cut before it
pub start-edge : (source : Text) (i : ℕ) (t : Text) → Stands source i t → StartsAscii t → IsCharBoundary source (i + length t)
    → IsCharBoundary source i
start-edge source i [] h ascii end = subst (IsCharBoundary source) (let same : i + 0 ≡ i = omega arith in same) end
start-edge source i (c ∷ t) h ascii end = edge-before source i c t h ascii

-- where it may be cut before one that ends so, it may be cut after it
pub end-edge : (source : Text) (i : ℕ) (t : Text) → IsUtf8 source → Stands source i t → EndsAscii t → IsCharBoundary source i
    → IsCharBoundary source (i + length t)
end-edge source i t utf8 h (inl none) start =
    subst (IsCharBoundary source) (let same : i ≡ i + length t = omega (arith, ap length none) in same) start
end-edge source i t utf8 h (inr (front, c, e, ascii)) start =
    let last = stands-right source i front (c ∷ []) (subst (Stands source i) e h) in
    subst (IsCharBoundary source) (let same : i + length front + 1 ≡ i + length t =
    omega (arith, ap length e, length-append front (c ∷ [])) in same)
    (edge-after source (i + length front) c [] utf8 last ascii)

-- ---- trivia

blank-ascii : (c : ℕ) → is_blank c ≡ true → c < 128
blank-ascii c h = grind (arith, nat_tests)

ends-after : (front t : Text) → EndsAscii front → EndsAscii t → EndsAscii (front ++ t)
ends-after front t h (inr (first, c, e, ascii)) =
    inr (front ++ first, c, ap (λ x. front ++ x) e ∙ sym (append_assoc front first (c ∷ [])), ascii)
ends-after front t (inl none) (inl e) = inl (ap (λ x. x ++ t) none ∙ e)
ends-after front t (inr (first, c, g, ascii)) (inl e) = inr (first, c, ap (λ x. front ++ x) e ∙ append-nil front ∙ g, ascii)

pub white-ends : (t : Text) → IsWhiteSpace t → EndsAscii t
white-ends [] h = inl refl
white-ends (c ∷ t) h =
    ends-after (c ∷ []) t (inr ([], c, refl, blank-ascii c (and_left (is_blank c) (list_all is_blank t) h)))
    (white-ends t (and_right (is_blank c) (list_all is_blank t) h))

piece-ends : (p : Piece) → IsPiece p → EndsAscii (piece_text p)
piece-ends (blank c) h = inr ([], c, refl, blank-ascii c h)
piece-ends (break lf) h = inr ([], 10, refl, omega arith)
piece-ends (break crlf) h = inr (13 ∷ [], 10, refl, omega arith)
piece-ends (remark body lf) h = inr (comment body, 10, refl, omega arith)
piece-ends (remark body crlf) h = inr (comment body ++ (13 ∷ []), 10, sym (append_assoc (comment body) (13 ∷ []) (10 ∷ [])), omega arith)

pieces-end : (ps : List Piece) → AllByRecursion IsPiece ps → EndsAscii (flat_map piece_text ps)
pieces-end [] h = inl refl
pieces-end (p ∷ ps) h = ends-after (piece_text p) (flat_map piece_text ps) (piece-ends p h.0) (pieces-end ps h.1)

pub trivia-ends : (t : Text) → IsWholeTrivia t → EndsAscii t
trivia-ends t (ps, each, e) = subst EndsAscii (sym e) (pieces-end ps each)

-- ---- what begins with an ASCII byte, before what does

pub ascii_blank : (b rest : Text) → IsWhiteSpace b → StartsAscii rest → StartsAscii (b ++ rest)
ascii_blank [] rest each h = h
ascii_blank (c ∷ cs) rest each h =
    let white : is_blank c ≡ true = (and_parts (is_blank c) (list_all is_blank cs) each).0 in
    grind (arith, nat_tests)

pub ascii_newline : (t rest : Text) → IsNewline t → StartsAscii (t ++ rest)
ascii_newline t rest (lf, e) = rw e (omega arith)
ascii_newline t rest (crlf, e) = rw e (omega arith)

ascii_pieces : (ps : List Piece) (rest : Text) → AllByRecursion IsPiece ps → StartsAscii rest → StartsAscii (flat_map piece_text ps ++ rest)
ascii_pieces [] rest each h = h
ascii_pieces (blank c ∷ ps) rest each h = let white : is_blank c ≡ true = each.0 in grind (arith, nat_tests)
ascii_pieces (break lf ∷ ps) rest each h = omega arith
ascii_pieces (break crlf ∷ ps) rest each h = omega arith
ascii_pieces (remark body n ∷ ps) rest each h = omega arith

pub ascii_trivia : (t rest : Text) → IsWholeTrivia t → StartsAscii rest → StartsAscii (t ++ rest)
ascii_trivia t rest (ps, each, e) h = rw e (ascii_pieces ps rest each h)

pub ascii_line_end : (t rest : Text) → IsLineEnd t → StartsAscii rest → StartsAscii (t ++ rest)
ascii_line_end t rest (white, none, each, inl empty, whole) h =
    let same : t ++ rest ≡ white ++ rest = ap (λ (x : Text). x ++ rest) (whole ∙ ap (λ (x : Text). white ++ x) empty ∙ append-nil white) in
    rw same (ascii_blank white rest each h)
ascii_line_end t rest (white, last, each, inr (body, visible, is), whole) h =
    let same : t ++ rest ≡ white ++ (35 ∷ (body ++ rest)) = ap (λ (x : Text). x ++ rest) (whole ∙ ap (λ (x : Text). white ++ x) is)
    ∙ append_assoc white (comment body) rest in
    rw same (ascii_blank white (35 ∷ (body ++ rest)) each (omega arith))

pub ascii_final : (t : Text) → IsFinalTrivia t → StartsAscii t
ascii_final t (whole, none, trivia, inl empty, parts) = rw (parts, empty) (ascii_trivia whole [] trivia (omega arith))
ascii_final t (whole, last, trivia, inr (body, visible, is), parts) =
    rw (parts, is) (ascii_trivia whole (comment body) trivia (omega arith))

-- ---- the same, before nothing

pub starts-alone : (t : Text) → StartsAscii (t ++ []) → StartsAscii t
starts-alone t h = subst StartsAscii (append-nil t) h

pub white-starts : (t : Text) → IsWhiteSpace t → StartsAscii t
white-starts t h = starts-alone t (ascii_blank t [] h (omega arith))

pub trivia-starts : (t : Text) → IsWholeTrivia t → StartsAscii t
trivia-starts t h = starts-alone t (ascii_trivia t [] h (omega arith))

pub line_end-starts : (t : Text) → IsLineEnd t → StartsAscii t
line_end-starts t h = starts-alone t (ascii_line_end t [] h (omega arith))

pub newline-starts : (t : Text) → IsNewline t → StartsAscii t
newline-starts t h = starts-alone t (ascii_newline t [] h)
