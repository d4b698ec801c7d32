-- The text of a key and its sign has no line feed, so it goes on the last line of what is before it.
use Rattle.std.proofs.Common.{◌≡◌, ◌<◌, ℕ, Bool, true, false, cond, ◌==◌, List, [], ◌∷◌, ◌++◌, codes, length, refl, sym, ap, ◌∙◌, arith, inl, inr, is_some}
use Rattle.std.specs.Prelude.{◌||◌, ◌&&◌, nat_lt, not}
use Rattle.std.specs.List.{AllByRecursion, flat_map, list_all, list_any}
use Rattle.std.proofs.lemmas.Bool.Decides.{nat_tests}
use Rattle.std.proofs.lemmas.List.Folds.{list_any-append}
use Rattle.toml_edit_model.specs.DefaultSpelling.{is_bare_key}
use Rattle.toml_edit_model.specs.Print.{one_space}
use Rattle.toml_edit_model.specs.Spelling.{Part, plain, letter, numbered, IsPart, SpellsKey, hex_digits, is_bare_byte, is_literal, is_plain, part_text, short_escape}
use Rattle.std.specs.Char.{is_digit}
use Rattle.toml_edit_model.specs.Syntax.{Segment, Frame, IsFrame, IsPath, IsSpacedSegment, IsSpelledSegment, path_text, segment_text}
use Rattle.toml_edit_model.specs.Text.{Text, has_byte, line_feed}
use Rattle.toml_edit_model.specs.Trivia.{Each, IsWhiteSpace}
use Rattle.toml_edit_laws.proofs.common.Tests.{and_left, and_right, or-false, or-left, or-right}
use Rattle.toml_edit_laws.proofs.common.Trivia.{no-byte, white-feed}
use Rattle.toml_edit_fmt_laws.specs.Formatted.{beside_equals, laid_path, laid_segment, laid_spelling}
use Rattle.toml_edit_fmt_laws.specs.Laying.{last_line}
use Rattle.toml_edit_fmt_laws.specs.Rules.{Rules}
use Rattle.toml_edit_fmt.specs.ValueBits.{head_text}

abbrev NoFeed : Text → Type 0
NoFeed t = has_byte line_feed t ≡ false

both : (s t : Text) → NoFeed s → NoFeed t → NoFeed (s ++ t)
both s t g h = list_any-append (λ b. b == line_feed) s t ∙ ap (λ x. x || has_byte line_feed t) g ∙ h

either : (b : Bool) (s t : Text) → NoFeed s → NoFeed t → NoFeed (cond b s t)
either true s t g h = g
either false s t g h = h

each-feed : (p : ℕ → Bool) → (p line_feed ≡ true → ⊥) → (t : Text) → Each p t → NoFeed t
each-feed p fails [] h = refl
each-feed p fails (c ∷ t) h =
    ap (λ b. b || has_byte line_feed t) (no-byte p line_feed fails c (and_left (p c) (list_all p t) h))
    ∙ each-feed p fails t (and_right (p c) (list_all p t) h)

-- ---- keys

part-feed : (p : Part) → IsPart p → NoFeed (part_text p)
part-feed (plain c) h = ap (λ b. b || false) (no-byte is_plain line_feed (λ e. let clash : false ≡ true = e in cc) c h)
part-feed (letter c) h =
    ap (λ b. b || false) (no-byte (λ x. is_some (short_escape x)) line_feed (λ e. let clash : false ≡ true = e in cc) c h)
part-feed (numbered c digits) h =
    let some : nat_lt 0 (hex_digits c) ≡ true = let long = h.1 in let few = h.0 in grind (arith, nat_tests) in
    ap (λ b. b || has_byte line_feed digits) (no-byte (λ x. nat_lt 0 (hex_digits x)) line_feed (λ e. let clash : false ≡ true = e in cc) c some)
    ∙ each-feed (λ d. is_digit d 16) (λ e. let clash : false ≡ true = e in cc) digits h.2

parts-feed : (ps : List Part) → AllByRecursion IsPart ps → NoFeed (flat_map part_text ps)
parts-feed [] h = refl
parts-feed (p ∷ ps) h = both (part_text p) (flat_map part_text ps) (part-feed p h.0) (parts-feed ps h.1)

bare-feed : (t : Text) → Each is_bare_byte t → NoFeed t
bare-feed t h = each-feed is_bare_byte (λ e. let clash : false ≡ true = e in cc) t h

spelled-feed : (k t : Text) → SpellsKey k t → NoFeed t
spelled-feed k t h =
    elim h [
      | inl (bare, same) ↦ bare-feed t bare.0
      | inr quoted ↦ elim quoted [
        | inl (parts, are, value, is) ↦ ap (has_byte line_feed) is ∙ both (flat_map part_text parts) _ (parts-feed parts are) refl
        | inr (are, is) ↦
            ap (has_byte line_feed) is ∙ both k _ (each-feed is_literal (λ e. let clash : false ≡ true = e in cc) k are) refl
      ]
    ]

laid-feed : (r : Rules) (s : Segment) → IsSpelledSegment s → NoFeed (laid_spelling r s)
laid-feed r s h = by_test (r.keys && is_bare_key s.key) refl
  where
    by_test : (b : Bool) → (r.keys && is_bare_key s.key) ≡ b → NoFeed (cond b s.key s.spelled)
    by_test true e = bare-feed s.key (and_right _ (list_all is_bare_byte s.key) (and_right r.keys (is_bare_key s.key) e))
    by_test false e = spelled-feed s.key s.spelled h

segment-feed : (r : Rules) (s : Segment) → IsSpacedSegment s → IsSpelledSegment s → NoFeed (segment_text (laid_segment r s))
segment-feed r s (before, after) spelled =
    both (laid_segment r s).before (laid_spelling r s ++ (laid_segment r s).after) (either r.dots [] s.before refl (white-feed s.before before))
    (both (laid_spelling r s) (laid_segment r s).after (laid-feed r s spelled) (either r.dots [] s.after refl (white-feed s.after after)))

path-feed : (r : Rules) (p : List Segment) → AllByRecursion IsSpacedSegment p → AllByRecursion IsSpelledSegment p
    → NoFeed (path_text (laid_path r p))
path-feed r [] spaced spelled = refl
path-feed r (s ∷ []) spaced spelled = segment-feed r s spaced.0 spelled.0
path-feed r (s ∷ q ∷ p) spaced spelled =
    both (segment_text (laid_segment r s)) (codes "." ++ path_text (laid_path r (q ∷ p))) (segment-feed r s spaced.0 spelled.0)
    (path-feed r (q ∷ p) spaced.1 spelled.1)

head-feed : (MayFollow : Text → Type 0) (r : Rules) (f : Frame) → IsFrame MayFollow f → NoFeed (head_text r f)
head-feed MayFollow r f (spaced, path) =
    both (path_text (laid_path r f.path)) (beside_equals r f.before_equals ++ (codes "=" ++ beside_equals r f.after_equals))
    (path-feed r f.path spaced.segments path.spelled)
    (both (beside_equals r f.before_equals) (codes "=" ++ beside_equals r f.after_equals)
    (either r.equals one_space f.before_equals refl (white-feed f.before_equals spaced.before_equals))
    (either r.equals one_space f.after_equals refl (white-feed f.after_equals spaced.after_equals)))

-- ---- the last line

none-last : (t : Text) → NoFeed t → last_line t ≡ t
none-last [] h = refl
none-last (c ∷ t) h =
    let here : (c == line_feed) ≡ false = or-left (c == line_feed) (has_byte line_feed t) h in
    let later : has_byte line_feed t ≡ false = or-right (c == line_feed) (has_byte line_feed t) h in
    rw (here, later) refl

last-on : (x y : Bool) (c : ℕ) (a b m n : Text) → m ≡ n ++ b → cond x m (cond y m (c ∷ (a ++ b))) ≡ cond x n (cond y n (c ∷ a)) ++ b
last-on true y c a b m n e = e
last-on false true c a b m n e = e
last-on false false c a b m n e = refl

last-joined : (a b : Text) → NoFeed b → last_line (a ++ b) ≡ last_line a ++ b
last-joined [] b h = none-last b h
last-joined (c ∷ a) b h =
    let same : has_byte line_feed (a ++ b) ≡ has_byte line_feed a =
    list_any-append (λ x. x == line_feed) a b ∙ ap (λ x. has_byte line_feed a || x) h ∙ or-false (has_byte line_feed a) in
    rw same (last-on (c == line_feed) (has_byte line_feed a) c a b (last_line (a ++ b)) (last_line a) (last-joined a b h))

pub head-last : (MayFollow : Text → Type 0) (r : Rules) (f : Frame) (before : Text) → IsFrame MayFollow f
    → last_line (before ++ head_text r f) ≡ last_line before ++ head_text r f
head-last MayFollow r f before is = last-joined before (head_text r f) (head-feed MayFollow r f is)
