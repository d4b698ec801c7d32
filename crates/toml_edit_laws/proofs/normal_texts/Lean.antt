-- Trivia as it is shown is trivia, and shown whole; and kept segments stand where their own stood.
use Rattle.std.proofs.Common.{◌≡◌, refl, sym, ◌∙◌, ap, subst, Bool, true, false, List, [], ◌∷◌, ◌++◌, Option, Some, None}
use Rattle.std.specs.Prelude.{◌==◌, ◌&&◌, ◌||◌, not, map, flat_map, option_map, unwrap_or, if◌then◌else◌}
use Rattle.std.specs.List.{AllByRecursion}
use Rattle.toml_edit_model.specs.Text.{Text, carriage_return, hash, has_byte, is_empty, without_returns}
use Rattle.toml_edit_model.specs.Mode.{Mode, plain, exact, shown_text}
use Rattle.toml_edit_model.specs.Trivia.{Newline, lf, crlf, newline_text, comment, Piece, blank, break, remark, piece_text, IsPiece}
use Rattle.toml_edit_model.specs.Trivia.{IsWholeTrivia, IsLineEnd, IsFinalTrivia}
use Rattle.toml_edit_model.specs.Syntax.{Segment, IsSpacedSegment, IsSpelledSegment, begins_unspaced, ends_unspaced, IsPath}
use Rattle.toml_edit_model.specs.Paths.{Mention}
use Rattle.toml_edit_laws.proofs.common.WhiteSpace.{white-returns}
use Rattle.toml_edit_laws.proofs.normal_texts.Cores.{kept-holds}
use Rattle.toml_edit_laws.proofs.common.Trivia.{visible-returns, open-returns, returns-append, end-returns}
use Rattle.toml_edit_model.specs.Kept.{kept_mention, kept_segment, unspaced_end, unspaced_ends, kept_path}
use Rattle.toml_edit_model.specs.Settled.{own_path, has_no_return, is_shown_text}

-- ---- no CR is left

without-no-return : (t : Text) → has_no_return (without_returns t) ≡ true
without-no-return [] = refl
without-no-return (c ∷ t) = by_test (c == carriage_return) refl (without-no-return t)
  where
    by_test : (b : Bool) → (c == carriage_return) ≡ b → has_no_return (without_returns t) ≡ true
        → has_no_return (if not b then c ∷ without_returns t else without_returns t) ≡ true
    by_test true e h = h
    by_test false e h = ap (λ b. not (b || has_byte carriage_return (without_returns t))) e ∙ h

pub no-return : (mode : Mode) (t : Text) → is_shown_text mode (shown_text mode t) ≡ true
no-return plain t = without-no-return t
no-return exact t = refl

-- ---- trivia

lean_piece : Piece → Piece
lean_piece (blank c) = blank c
lean_piece (break n) = break lf
lean_piece (remark body n) = remark body lf

newline-returns : (n : Newline) → without_returns (newline_text n) ≡ newline_text lf
newline-returns lf = refl
newline-returns crlf = refl

lean-piece : (p : Piece) → IsPiece p → without_returns (piece_text p) ≡ piece_text (lean_piece p)
unfolding lean_piece
lean-piece (blank c) h = white-returns (c ∷ []) (ap (λ b. b && true) h)
lean-piece (break n) h = newline-returns n
lean-piece (remark body n) h =
    returns-append (comment body) (newline_text n)
    ∙ ap (λ t. t ++ without_returns (newline_text n)) (ap (λ t. hash ∷ t) (visible-returns body h))
    ∙ ap (λ t. comment body ++ t) (newline-returns n)

is-lean-piece : (p : Piece) → IsPiece p → IsPiece (lean_piece p)
unfolding lean_piece
is-lean-piece (blank c) h = h
is-lean-piece (break n) h = tt
is-lean-piece (remark body n) h = h

lean-pieces : (ps : List Piece) → AllByRecursion IsPiece ps
    → AllByRecursion IsPiece (map lean_piece ps) × (without_returns (flat_map piece_text ps) ≡ flat_map piece_text (map lean_piece ps))
lean-pieces [] h = (tt, refl)
lean-pieces (p ∷ ps) h =
    let rest = lean-pieces ps h.1 in (
      (is-lean-piece p h.0, rest.0),
      returns-append (piece_text p) (flat_map piece_text ps)
          ∙ ap (λ t. t ++ without_returns (flat_map piece_text ps)) (lean-piece p h.0)
          ∙ ap (λ t. piece_text (lean_piece p) ++ t) rest.1,
    )

without-trivia : (t : Text) → IsWholeTrivia t → IsWholeTrivia (without_returns t)
without-trivia t (ps, h, e) = (let lean = lean-pieces ps h in (map lean_piece ps, lean.0, ap without_returns e ∙ lean.1))

without-end : (t : Text) → IsLineEnd t → IsLineEnd (without_returns t)
without-end t h = subst IsLineEnd (sym (end-returns t h)) h

without-final : (t : Text) → IsFinalTrivia t → IsFinalTrivia (without_returns t)
without-final t (whole, rest, h, g, e) = (
  without_returns whole,
  rest,
  without-trivia whole h,
  g,
  ap without_returns e ∙ returns-append whole rest ∙ ap (λ u. without_returns whole ++ u) (open-returns rest g),
)

pub lean-trivia : (mode : Mode) (t : Text) → IsWholeTrivia t → IsWholeTrivia (shown_text mode t)
lean-trivia plain t h = without-trivia t h
lean-trivia exact t h = h

pub lean-end : (mode : Mode) (t : Text) → IsLineEnd t → IsLineEnd (shown_text mode t)
lean-end plain t h = without-end t h
lean-end exact t h = h

pub lean-final : (mode : Mode) (t : Text) → IsFinalTrivia t → IsFinalTrivia (shown_text mode t)
lean-final plain t h = without-final t h
lean-final exact t h = h

-- ---- kept paths

abbrev pub IsRightSegment : Segment → Type 0
IsRightSegment s = IsSpacedSegment s × IsSpelledSegment s

abbrev pub AreRightSegments : List Segment → Type 0
AreRightSegments ss = AllByRecursion IsRightSegment ss

abbrev pub AreRightMentions : {S : Type 0} → List (Mention S) → Type 0
AreRightMentions ms = AllByRecursion (λ m. IsRightSegment m.segment) ms

kept-right : {S : Type 0} (ms : List (Mention S)) (m : Mention S) → AreRightMentions ms → IsRightSegment m.segment
    → IsRightSegment (kept_segment ms m)
kept-right {S = S} ms m h g = by_kept (kept_mention ms m.path) refl
  where
    by_kept : (o : Option (Mention S)) → kept_mention ms m.path ≡ o → IsRightSegment (unwrap_or (option_map (λ k. k.segment) o) m.segment)
    by_kept None e = g
    by_kept (Some k) e = (kept-holds (λ n. IsRightSegment n.segment) ms m.path k h e).0

kept-rights : {S : Type 0} (ms own : List (Mention S)) → AreRightMentions ms → AreRightMentions own
    → AreRightSegments (map (kept_segment ms) own)
kept-rights ms [] h g = tt
kept-rights ms (m ∷ own) h g = (kept-right ms m h g.0, kept-rights ms own h g.1)

end-right : (ss : List Segment) → AreRightSegments ss → AreRightSegments (unspaced_end ss)
end-right [] h = tt
end-right (s ∷ []) h = (((h.0.0.0, refl), h.0.1), tt)
end-right (s ∷ r ∷ rest) h = (h.0, end-right (r ∷ rest) h.1)

ends-right : (ss : List Segment) → AreRightSegments ss → AreRightSegments (unspaced_ends ss)
ends-right [] h = tt
ends-right (s ∷ rest) h = end-right (record s { before = [] } ∷ rest) (((refl, h.0.0.1), h.0.1), h.1)

pub path-right : {S : Type 0} (ms own : List (Mention S)) → AreRightMentions ms → AreRightMentions own → AreRightSegments (kept_path ms own)
path-right ms own h g = ends-right (map (kept_segment ms) own) (kept-rights ms own h g)

end-bare : (s : Segment) (ss : List Segment) → ends_unspaced (unspaced_end (s ∷ ss)) ≡ true
end-bare s [] = refl
end-bare s (r ∷ []) = refl
end-bare s (r ∷ t ∷ rest) = end-bare r (t ∷ rest)

begin-bare : (s : Segment) (ss : List Segment) → begins_unspaced (unspaced_ends (s ∷ ss)) ≡ true
begin-bare s [] = refl
begin-bare s (r ∷ rest) = refl

spaced-segments : (ss : List Segment) → AreRightSegments ss → AllByRecursion IsSpacedSegment ss × AllByRecursion IsSpelledSegment ss
spaced-segments [] h = (tt, tt)
spaced-segments (s ∷ ss) h = (let rest = spaced-segments ss h.1 in ((h.0.0, rest.0), (h.0.1, rest.1)))

pub both-segments : (ss : List Segment) → AllByRecursion IsSpacedSegment ss → AllByRecursion IsSpelledSegment ss → AreRightSegments ss
both-segments [] h g = tt
both-segments (s ∷ ss) h g = ((h.0, g.0), both-segments ss h.1 g.1)

-- A kept path is a path, with white space at its dots.
pub kept-is-path : {S : Type 0} (ms own : List (Mention S)) → AreRightMentions ms → AreRightMentions own → is_empty own ≡ false
    → AllByRecursion IsSpacedSegment (kept_path ms own) × IsPath (kept_path ms own)
kept-is-path ms [] h g e = absurd cc
kept-is-path ms (m ∷ own) h g e =
    let both = spaced-segments (kept_path ms (m ∷ own)) (path-right ms (m ∷ own) h g) in (
      both.0,
      record {
        begins = begin-bare (kept_segment ms m) (map (kept_segment ms) own);
        ends = end-bare (record (kept_segment ms m) { before = [] }) (map (kept_segment ms) own);
        spelled = both.1;
      },
    )

-- the mentions of a path have its segments
pub mentions-right : {S : Type 0} (ms : List (Mention S)) → AreRightSegments (own_path ms) → AreRightMentions ms
mentions-right [] h = tt
mentions-right (m ∷ ms) h = (h.0, mentions-right ms h.1)
