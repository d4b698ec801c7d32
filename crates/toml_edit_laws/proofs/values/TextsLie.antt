-- Texts that lie in a source at places where it may be cut, and the segments of paths there.
use Rattle.std.proofs.Common.{length, ℕ, ◌+◌, ◌-◌, subst, ◌≡◌, arith, ◌∷◌, ◌++◌, [], List, codes, sym, inr, inl}
use Rattle.toml_edit_model.specs.Mode.{Mode}
use Rattle.toml_edit_model.specs.Syntax.{Frame, Value, IsFrame, frame_text, value_text, Segment, segment_text, IsSpacedSegment, path_text}
use Rattle.toml_edit_model.specs.Text.{Text}
use Rattle.std.specs.Str.{IsCharBoundary, IsUtf8}
use Rattle.toml_edit_model.specs.TreeOf.{spanned_in, value_start, frame_leaf, span_of}
use Rattle.toml_edit_laws.proofs.values.ValueOwned.{stands-at, around-stands}
use Rattle.toml_edit_laws.specs.Standing.{Stands}
use Rattle.std.proofs.lemmas.List.{length-append}
use Rattle.toml_edit_laws.proofs.common.Edges.{trivia-ends, white-ends, white-starts, start-edge, end-edge, edge-after, edge-before}
use Rattle.toml_edit_model.specs.Paths.{next_start, line_mentions, to_key, Mention, Path}
use Rattle.toml_edit_laws.proofs.common.StandingLaws.{stands-right, stands-left}
use Rattle.std.specs.List.{AllByRecursion}
use Rattle.toml_edit_laws.proofs.common.Members.{Among}
use Rattle.toml_edit_model.specs.OwnedForm.{DecorFits, RawFits}

-- the source may be cut at both ends of the text
pub record Lies (source : Text) (i : ℕ) (t : Text) : Type 0 where
  pub start : IsCharBoundary source i
  pub end : IsCharBoundary source (i + length t)

pub record SegmentFits (text : Text) (i : ℕ) (s : Segment) : Type 0 where
  pub before : Lies text (i - length s.before) s.before
  pub spelled : Lies text i s.spelled
  pub after : Lies text (i + length s.spelled) s.after

pub lies-at : (source : Text) (i j : ℕ) (t : Text) → Lies source i t → i ≡ j → Lies source j t
lies-at source i j t h e = subst (λ k. Lies source k t) e h

-- its span fits
pub raw-fits : (source : Text) (i : ℕ) (t : Text) → Lies source i t → RawFits source (span_of i t)
raw-fits source i [] h = tt
raw-fits source i (c ∷ t) h = (h.start, h.end, omega arith)

pub edge-at : (text : Text) (i j : ℕ) → IsCharBoundary text i → i ≡ j → IsCharBoundary text j
edge-at text i j h e = subst (IsCharBoundary text) e h

pub segment-fits : (text : Text) (i : ℕ) (s : Segment) → IsUtf8 text → Stands text i (segment_text s) → IsSpacedSegment s
    → IsCharBoundary text i
    → IsCharBoundary text (i + length (segment_text s)) → SegmentFits text (i + length s.before) s
segment-fits text i s utf8 h spaced first last =
    let at = around-stands text i s.before s.spelled s.after h in
    let size : i + length (segment_text s) ≡ i + length s.before + length s.spelled + length s.after =
    omega (arith, length-append s.before (s.spelled ++ s.after), length-append s.spelled s.after) in
    let end = edge-at text _ _ last size in
    let spelled_start = end-edge text i s.before utf8 at.before_at (white-ends s.before spaced.0) first in
    let spelled_end = start-edge text (i + length s.before + length s.spelled) s.after at.after_at (white-starts s.after spaced.1) end in
    record {
      before = lies-at text i (i + length s.before - length s.before) s.before (record { start = first; end = spelled_start })
          (omega arith);
      spelled = record { start = spelled_start; end = spelled_end };
      after = record { start = spelled_end; end = end };
    }

-- the first segment of several, and where the others begin and end
pub record FirstFits (text : Text) (i : ℕ) (s r : Segment) (rest : List Segment) : Type 0 where
  pub first : SegmentFits text (i + length s.before) s
  pub others : Stands text (next_start i s) (path_text (r ∷ rest))
  pub start : IsCharBoundary text (next_start i s)
  pub end : IsCharBoundary text (next_start i s + length (path_text (r ∷ rest)))

pub first-fits : (text : Text) (i : ℕ) (s r : Segment) (rest : List Segment) → IsUtf8 text → Stands text i (path_text (s ∷ r ∷ rest))
    → IsSpacedSegment s
    → IsCharBoundary text i → IsCharBoundary text (i + length (path_text (s ∷ r ∷ rest))) → FirstFits text i s r rest
first-fits text i s r rest utf8 h spaced first last =
    let dot = stands-right text i (segment_text s) (codes "." ++ path_text (r ∷ rest)) h in
    let size : i + length (path_text (s ∷ r ∷ rest)) ≡ next_start i s + length (path_text (r ∷ rest)) =
    omega (arith, length-append (segment_text s) (codes "." ++ path_text (r ∷ rest))) in
    record {
      first =
          segment-fits text i s utf8 (stands-left text i (segment_text s) (codes "." ++ path_text (r ∷ rest)) h) spaced first
          (edge-before text (i + length (segment_text s)) 46 (path_text (r ∷ rest)) dot (omega arith));
      others = stands-right text (i + length (segment_text s)) (codes ".") (path_text (r ∷ rest)) dot;
      start = edge-after text (i + length (segment_text s)) 46 (path_text (r ∷ rest)) utf8 dot (omega arith);
      end = edge-at text _ _ last size;
    }

pub line-fits : {S : Type 0} (text : Text) (source : S) (i : ℕ) (p : Path) (ss : List Segment) → IsUtf8 text → Stands text i (path_text ss)
    → AllByRecursion IsSpacedSegment ss → IsCharBoundary text i → IsCharBoundary text (i + length (path_text ss)) → (m : Mention S)
    → Among m (line_mentions source i p ss) → SegmentFits text m.start m.segment
line-fits text source i p [] utf8 h spaced first last m a = elim a [ ]
line-fits text source i p (s ∷ []) utf8 h spaced first last m (inl g) =
    subst (λ (k : Mention _). SegmentFits text k.start k.segment) (sym g) (segment-fits text i s utf8 h spaced.0 first last)
line-fits text source i p (s ∷ []) utf8 h spaced first last m (inr a) = elim a [ ]
line-fits text source i p (s ∷ r ∷ rest) utf8 h spaced first last m (inl g) =
    let fits = first-fits text i s r rest utf8 h spaced.0 first last in
    subst (λ (k : Mention _). SegmentFits text k.start k.segment) (sym g) fits.first
line-fits text source i p (s ∷ r ∷ rest) utf8 h spaced first last m (inr a) =
    let fits = first-fits text i s r rest utf8 h spaced.0 first last in
    line-fits text source (next_start i s) (to_key p s.key) (r ∷ rest) utf8 fits.others spaced.1 fits.start fits.end m a

module _ (mode : Mode) where
  -- a pair or key line that begins at this byte: the decor of its key, and where its path and its value stand
  pub record FrameFits (text : Text) (i : ℕ) (f : Frame) (v : Value) : Type 0 where
    pub leaf : DecorFits text (frame_leaf (spanned_in mode) i f)
    pub path : Lies text (i + length f.leading) (path_text f.path)
    pub path_stands : Stands text (i + length f.leading) (path_text f.path)
    pub stands : Stands text (i + value_start (spanned_in mode) f) (f.after_equals ++ (value_text v ++ f.trailing))
    pub first : IsCharBoundary text (i + value_start (spanned_in mode) f)
    pub last : IsCharBoundary text (i + value_start (spanned_in mode) f + length (f.after_equals ++ (value_text v ++ f.trailing)))

  pub frame-fits : (text : Text) (i : ℕ) (f : Frame) (v : Value) (P : Text → Type 0) → IsUtf8 text
      → Stands text i (frame_text f (value_text v)) → IsFrame P f
      → IsCharBoundary text i → IsCharBoundary text (i + length (frame_text f (value_text v))) → FrameFits text i f v
  frame-fits text i f v P utf8 h frame first last =
      let from_value = f.after_equals ++ (value_text v ++ f.trailing) in
      let from_equals = codes "=" ++ from_value in
      let from_space = f.before_equals ++ from_equals in
      let from_path = path_text f.path ++ from_space in
      let at_path = stands-right text i f.leading from_path h in
      let at_space = stands-right text (i + length f.leading) (path_text f.path) from_space at_path in
      let at_equals = stands-right text (i + length f.leading + length (path_text f.path)) f.before_equals from_equals at_space in
      let equals = i + length f.leading + length (path_text f.path) + length f.before_equals in
      let before_equals : IsCharBoundary text equals = edge-before text equals 61 from_value at_equals (omega arith) in
      let after_equals : IsCharBoundary text (equals + 1) = edge-after text equals 61 from_value utf8 at_equals (omega arith) in
      let leading = end-edge text i f.leading utf8 (stands-left text i f.leading from_path h) (trivia-ends f.leading frame.0.leading)
      first in
      let path_end = start-edge text (i + length f.leading + length (path_text f.path)) f.before_equals
      (stands-left text (i + length f.leading + length (path_text f.path)) f.before_equals from_equals at_space)
      (white-starts f.before_equals frame.0.before_equals) before_equals in
      let start : equals + 1 ≡ i + value_start (spanned_in mode) f = omega arith in
      let value = stands-at text (equals + 1) (i + value_start (spanned_in mode) f) from_value
      (stands-right text equals (codes "=") from_value at_equals) start in
      let end : i + length (frame_text f (value_text v)) ≡ i + value_start (spanned_in mode) f + length from_value =
      omega (
        arith,
        length-append f.leading from_path,
        length-append (path_text f.path) from_space,
        length-append f.before_equals from_equals,
      ) in
      record {
        leaf = (
          raw-fits text i f.leading (record { start = first; end = leading }),
          raw-fits text (i + length f.leading + length (path_text f.path)) f.before_equals (record {
            start = path_end;
            end =
                before_equals;
          }),
        );
        path = record { start = leading; end = path_end };
        path_stands = stands-left text (i + length f.leading) (path_text f.path) from_space at_path;
        stands = value;
        first = subst (IsCharBoundary text) start after_equals;
        last = subst (IsCharBoundary text) end last;
      }
