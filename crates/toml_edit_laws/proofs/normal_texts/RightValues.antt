-- The normal form of a value is a value of the grammar within the same limits and ranges, and the pairs of its inline tables agree.
use Rattle.std.proofs.Common.{◌≡◌, refl, sym, ◌∙◌, ap, subst, ℕ, suc, ◌+◌, ◌≤◌, arith, Bool, true, false, List, [], ◌∷◌, length, inl, inr}
use Rattle.std.specs.Prelude.{◌&&◌, map, flat_map, nat_le}
use Rattle.std.specs.List.{AllByRecursion}
use Rattle.std.proofs.lemmas.List.{length-map}
use Rattle.toml_edit_model.specs.Mode.{Mode, shown_text}
use Rattle.toml_edit_model.specs.Text.{Text, is_empty}
use Rattle.toml_edit_model.specs.Trivia.{IsWholeTrivia}
use Rattle.toml_edit_model.specs.Syntax.{Segment, Frame, Value, scalar, array, inline_table, Elements, no_elements, element, Pairs}
use Rattle.toml_edit_model.specs.Syntax.{no_pairs, pair, value_text, frame_text, begins_unspaced, IsFrame, IsClose, has_elements, has_pairs}
use Rattle.toml_edit_model.specs.Syntax.{IsValue, AreElements, ArePairs, depth, elements_depth, pairs_depth, is_short, has_short_keys}
use Rattle.toml_edit_model.specs.Syntax.{elements_have_short_keys, pairs_have_short_keys, keeps_ranges, elements_keep_ranges, nesting_limit}
use Rattle.toml_edit_model.specs.Syntax.{pairs_keep_ranges}
use Rattle.toml_edit_model.specs.Paths.{Mention, PairSource, line_mentions, pair_mentions}
use Rattle.toml_edit_model.specs.Accepted.{agree, all_agree, has_agreeing_pairs, elements_have_agreeing_pairs, pairs_have_agreeing_pairs}
use Rattle.toml_edit_model.specs.Normal.{pair_before, ordered_pairs, shown_frame, normal_value, normal_elements, normal_pairs}
use Rattle.toml_edit_laws.proofs.common.Tests.{and_left, and_right, and_both}
use Rattle.toml_edit_laws.proofs.common.OrderLaws.{all-sorted}
use Rattle.toml_edit_laws.proofs.values.ClosingLaws.{has-normal}
use Rattle.toml_edit_laws.proofs.normal_texts.SettledStays.{own-line}
use Rattle.toml_edit_laws.proofs.normal_texts.Cores.{line-cores, line-keyed, kept-path-keys}
use Rattle.toml_edit_laws.proofs.common.WhiteSpace.{shown-none}
use Rattle.toml_edit_laws.proofs.normal_texts.Lean.{lean-trivia, AreRightSegments, AreRightMentions, both-segments, mentions-right}
use Rattle.toml_edit_laws.proofs.normal_texts.Lean.{kept-is-path, IsRightSegment}
use Rattle.toml_edit_laws.proofs.normal_texts.Agreeing.{all_agree-alike, AreOfLine, of-line, meets-inline, agree-swap, pairs-insert}
use Rattle.toml_edit_laws.proofs.normal_texts.Agreeing.{all_agree-pairs, pairs-all_agree}
use Rattle.toml_edit_laws.proofs.normal_texts.OrderedPairs.{EachPair, source_at, spelled, ordered-each, ordered-spelled, mentions-keyed}
use Rattle.toml_edit_laws.proofs.normal_texts.OrderedPairs.{has-ordered, spelled-agree}
use Rattle.toml_edit_laws.proofs.common.Cores.{cores, keys_of_segments}
use Rattle.toml_edit_laws.proofs.common.Pairs.{AllPairs}
use Rattle.toml_edit_laws.proofs.common.Each.{all-append}
use Rattle.toml_edit_model.specs.Order.{sorted_by}
use Rattle.toml_edit_model.specs.Roles.{may_meet_inline}
use Rattle.toml_edit_model.specs.Kept.{kept_path}

-- ---- right values

pub record IsRightValue (n : ℕ) (v : Value) : Type 0 where
  pub value : IsValue v
  pub depth : depth v ≤ n
  pub short : has_short_keys v ≡ true
  pub ranges : keeps_ranges v ≡ true
  pub agreeing : has_agreeing_pairs v ≡ true

record AreRightElements (n : ℕ) (es : Elements) : Type 0 where
  pub elements : AreElements es
  pub depth : elements_depth es ≤ n
  pub short : elements_have_short_keys es ≡ true
  pub ranges : elements_keep_ranges es ≡ true
  pub agreeing : elements_have_agreeing_pairs es ≡ true

record IsRightPair (n : ℕ) (f : Frame) (v : Value) : Type 0 where
  pub frame : IsFrame IsWholeTrivia f
  pub short : is_short f.path ≡ true
  pub value : IsRightValue n v

-- pairs whose first keys' agreement is left open
record AreRightPairs (n : ℕ) (ps : Pairs) : Type 0 where
  pub pairs : ArePairs ps
  pub depth : pairs_depth ps ≤ n
  pub short : pairs_have_short_keys ps ≡ true
  pub ranges : pairs_keep_ranges ps ≡ true
  pub agreeing : pairs_have_agreeing_pairs ps ≡ true

from-each : (n : ℕ) (ps : Pairs) → EachPair (IsRightPair n) ps → AreRightPairs n ps
from-each n no_pairs h = record { pairs = tt; depth = omega arith; short = refl; ranges = refl; agreeing = refl }
from-each n (pair f v ps) h =
    let one = h.0 in
    let rest = from-each n ps h.1 in
    let a : depth v ≤ n = one.value.depth in
    let b : pairs_depth ps ≤ n = rest.depth in
    record {
      pairs = (one.frame, one.value.value, rest.pairs);
      depth = omega arith;
      short =
          and_both (is_short f.path) (has_short_keys v && pairs_have_short_keys ps) one.short
          (and_both (has_short_keys v) (pairs_have_short_keys ps) one.value.short rest.short);
      ranges = and_both (keeps_ranges v) (pairs_keep_ranges ps) one.value.ranges rest.ranges;
      agreeing = and_both (has_agreeing_pairs v) (pairs_have_agreeing_pairs ps) one.value.agreeing rest.agreeing;
    }

-- all mentions of pairs are of right segments
pub mentions-of-right : (start number : ℕ) (ps : Pairs) → ArePairs ps → AreRightMentions (flat_map (λ ms. ms) (pair_mentions start ps))
mentions-of-right start number no_pairs h = tt
mentions-of-right start number (pair f v ps) h =
    let own : List (Mention PairSource) = line_mentions (source_at number f v) (start + length f.leading) [] f.path in
    let next : ℕ = start + length (frame_text f (value_text v)) + 1 in
    all-append (λ m. IsRightSegment m.segment) own (flat_map (λ ms. ms) (pair_mentions next ps))
    (mentions-right own (subst AreRightSegments (sym (own-line (source_at number f v) (start + length f.leading) [] f.path))
    (both-segments f.path h.0.0.segments h.0.1.spelled)))
    (mentions-of-right next (suc number) ps h.2)

own-right : (n start : ℕ) (f : Frame) (v : Value) → IsFrame IsWholeTrivia f
    → AreRightMentions (line_mentions (source_at n f v) start [] f.path)
own-right n start f v h =
    mentions-right (line_mentions (source_at n f v) start [] f.path)
    (subst AreRightSegments (sym (own-line (source_at n f v) start [] f.path)) (both-segments f.path h.0.segments h.1.spelled))

pub short-keys : (ss rs : List Segment) → keys_of_segments ss ≡ keys_of_segments rs → is_short rs ≡ true → is_short ss ≡ true
short-keys ss rs e h =
    ap (λ n. nat_le n nesting_limit) (sym (length-map ss (λ s. s.key)) ∙ ap length e ∙ length-map rs (λ s. s.key)) ∙ h

filled-line : (n start : ℕ) (f : Frame) (v : Value) → begins_unspaced f.path ≡ true
    → is_empty (line_mentions (source_at n f v) start [] f.path) ≡ false
filled-line n start f v h = by_path f.path h
  where
    by_path : (ss : List Segment) → begins_unspaced ss ≡ true → is_empty (line_mentions (source_at n f v) start [] ss) ≡ false
    by_path [] h = absurd cc
    by_path (s ∷ []) h = refl
    by_path (s ∷ r ∷ rest) h = refl

spelled-right : (n : ℕ) (ps : Pairs) → ArePairs ps → (f : Frame) (v : Value) (number start : ℕ) → begins_unspaced f.path ≡ true
    → IsRightPair n f v
    → IsRightPair n (spelled (flat_map (λ ms. ms) (pair_mentions 0 ps)) number start f v) v
spelled-right n ps h f v number start b g =
    let all : List (Mention PairSource) = flat_map (λ ms. ms) (pair_mentions 0 ps) in
    let own : List (Mention PairSource) = line_mentions (source_at number f v) start [] f.path in
    let path = kept-is-path all own (mentions-of-right 0 0 ps h) (own-right number start f v g.frame) (filled-line number start f v b) in
    record {
      frame = (
        record {
          leading = g.frame.0.leading;
          segments = path.0;
          before_equals = g.frame.0.before_equals;
          after_equals = g.frame.0.after_equals;
          trailing = g.frame.0.trailing;
        },
        path.1,
      );
      short =
          short-keys (kept_path all own) f.path
          (kept-path-keys all own (mentions-keyed 0 0 ps) (line-keyed (source_at number f v) start [] f.path)
          ∙ ap keys_of_segments (own-line (source_at number f v) start [] f.path))
          g.short;
      value = g.value;
    }

-- each mention of pairs is of lines
pairs-of-line : (start number : ℕ) (ps : Pairs) → AllByRecursion AreOfLine (pair_mentions start ps)
pairs-of-line start number no_pairs = tt
pairs-of-line start number (pair f v ps) = (
  of-line (source_at number f v) (start + length f.leading) [] f.path,
  pairs-of-line (start + length (frame_text f (value_text v)) + 1) (suc number) ps,
)

abbrev Agrees : List (Mention PairSource) → List (Mention PairSource) → Type 0
Agrees m n = agree may_meet_inline m n ≡ true

sorted-agree : (before : List (Mention PairSource) → List (Mention PairSource) → Bool) (mss : List (List (Mention PairSource)))
    → AllByRecursion AreOfLine mss → AllPairs Agrees mss → AllPairs Agrees (sorted_by before mss)
sorted-agree before [] h g = tt
sorted-agree before (m ∷ mss) h g =
    pairs-insert Agrees before m (sorted_by before mss) (swaps (sorted_by before mss) (all-sorted AreOfLine before mss h.1))
    (all-sorted (Agrees m) before mss g.0) (sorted-agree before mss h.1 g.1)
  where
    swaps : (xs : List (List (Mention PairSource))) → AllByRecursion AreOfLine xs
        → AllByRecursion (λ x. before m x ≡ false → Agrees m x → Agrees x m) xs
    swaps [] k = tt
    swaps (x ∷ xs) k = (λ e r. agree-swap may_meet_inline meets-inline m x h.0 k.0 r, swaps xs k.1)

pub ordered-agree : (ps : Pairs) → ArePairs ps → all_agree may_meet_inline (pair_mentions 0 ps) ≡ true
    → all_agree may_meet_inline (pair_mentions 0 (ordered_pairs ps)) ≡ true
ordered-agree ps h g =
    let mss : List (List (Mention PairSource)) = pair_mentions 0 ps in
    pairs-all_agree may_meet_inline (pair_mentions 0 (ordered_pairs ps))
    (spelled-agree may_meet_inline (flat_map (λ ms. ms) mss) (sorted_by (pair_before mss) mss) (pair_mentions 0 (ordered_pairs ps))
    (ordered-spelled ps h)
    (sorted-agree (pair_before mss) mss (pairs-of-line 0 0 ps) (all_agree-pairs may_meet_inline mss g)))

module _ (mode : Mode) where
  -- ---- the text before a closing bracket

  lean-close : (has comma : Bool) (t : Text) → IsClose has comma t → IsClose has comma (shown_text mode t)
  lean-close has true t h = (lean-trivia mode t h.0, h.1)
  lean-close has false t h = (lean-trivia mode t h.0, elim h.1 [ inl e ↦ inl e | inr e ↦ inr (ap (shown_text mode) e ∙ shown-none mode) ])

  -- ---- frames

  lean-frame : (f : Frame) → IsFrame IsWholeTrivia f → IsFrame IsWholeTrivia (shown_frame mode f)
  lean-frame f h = (
    record {
      leading = lean-trivia mode f.leading h.0.leading;
      segments = h.0.segments;
      before_equals = h.0.before_equals;
      after_equals = h.0.after_equals;
      trailing = lean-trivia mode f.trailing h.0.trailing;
    },
    h.1,
  )

  -- ---- the agreement of pairs in their order

  -- the normal forms of pairs say the same
  pub normal-said : (i j m n : ℕ) (ps : Pairs) → map cores (pair_mentions i ps) ≡ map cores (pair_mentions j (normal_pairs mode ps))
  normal-said i j m n no_pairs = refl
  normal-said i j m n (pair f v ps) =
      let g : Frame = shown_frame mode f in
      let w : Value = normal_value mode v in
      ap (λ c. c ∷ map cores (pair_mentions (i + length (frame_text f (value_text v)) + 1) ps))
      (line-cores (source_at m f v) (i + length f.leading) [] f.path ∙ sym (line-cores (source_at n g w) (j + length g.leading) [] f.path))
      ∙ ap (λ cs. cores (line_mentions (source_at n g w) (j + length g.leading) [] f.path) ∷ cs)
      (normal-said (i + length (frame_text f (value_text v)) + 1) (j + length (frame_text g (value_text w)) + 1) (suc m) (suc n) ps)

  -- pairs with the same keys agree alike
  pub normal-agree : (i j number : ℕ) (ps : Pairs) → all_agree may_meet_inline (pair_mentions i ps) ≡ true
      → all_agree may_meet_inline (pair_mentions j (normal_pairs mode ps)) ≡ true
  normal-agree i j number ps h =
      sym (all_agree-alike may_meet_inline (pair_mentions i ps) (pair_mentions j (normal_pairs mode ps)) (normal-said i j number number ps))
      ∙ h

  -- ---- values

  mutual
    pub value-right : (v : Value) → IsValue v → has_short_keys v ≡ true → keeps_ranges v ≡ true → has_agreeing_pairs v ≡ true
        → IsRightValue (depth v) (normal_value mode v)
    value-right (scalar s t) h a b c = record { value = h; depth = omega arith; short = refl; ranges = b; agreeing = refl }
    value-right (array es comma t) h a b c =
        let right = elements-right es h.1 a b c in
        let deep : elements_depth (normal_elements mode es) ≤ elements_depth es = right.depth in
        record {
          value = (
            subst (λ e. IsClose e comma (shown_text mode t)) (sym (has-normal mode es)) (lean-close (has_elements es) comma t h.0),
            right.elements,
          );
          depth = omega arith;
          short = right.short;
          ranges = right.ranges;
          agreeing = right.agreeing;
        }
    value-right (inline_table ps comma t) h a b c =
        let n : ℕ = pairs_depth ps in
        let first = and_left (all_agree may_meet_inline (pair_mentions 0 ps)) (pairs_have_agreeing_pairs ps) c in
        let each : EachPair (IsRightPair n) (normal_pairs mode ps) =
        pairs-right n ps h.1 (omega arith) a b (and_right (all_agree may_meet_inline (pair_mentions 0 ps)) (pairs_have_agreeing_pairs ps)
        c) in
        let are = from-each n (normal_pairs mode ps) each in
        let right = from-each n (ordered_pairs (normal_pairs mode ps))
        (ordered-each (IsRightPair n) (IsRightPair n) (normal_pairs mode ps) are.pairs (spelled-right n (normal_pairs mode ps) are.pairs)
        each) in
        let deep : pairs_depth (ordered_pairs (normal_pairs mode ps)) ≤ n = right.depth in
        record {
          value = (
            subst (λ e. IsClose e comma (shown_text mode t)) (sym (has-ordered (normal_pairs mode ps) are.pairs ∙ has-pairs ps))
                (lean-close (has_pairs ps) comma t h.0),
            right.pairs,
          );
          depth = omega arith;
          short = right.short;
          ranges = right.ranges;
          agreeing =
              and_both (all_agree may_meet_inline (pair_mentions 0 (ordered_pairs (normal_pairs mode ps))))
              (pairs_have_agreeing_pairs (ordered_pairs (normal_pairs mode ps)))
              (ordered-agree (normal_pairs mode ps) are.pairs (normal-agree 0 0 0 ps first)) right.agreeing;
        }
      where
        has-pairs : (qs : Pairs) → has_pairs (normal_pairs mode qs) ≡ has_pairs qs
        has-pairs no_pairs = refl
        has-pairs (pair f v qs) = refl

    elements-right : (es : Elements) → AreElements es → elements_have_short_keys es ≡ true → elements_keep_ranges es ≡ true
        → elements_have_agreeing_pairs es ≡ true
        → AreRightElements (elements_depth es) (normal_elements mode es)
    elements-right no_elements h a b c = record { elements = tt; depth = omega arith; short = refl; ranges = refl; agreeing = refl }
    elements-right (element e v es) h a b c =
        let one = value-right v h.2 (and_left (has_short_keys v) (elements_have_short_keys es) a)
        (and_left (keeps_ranges v) (elements_keep_ranges es) b)
        (and_left (has_agreeing_pairs v) (elements_have_agreeing_pairs es) c) in
        let rest = elements-right es h.3 (and_right (has_short_keys v) (elements_have_short_keys es) a)
        (and_right (keeps_ranges v) (elements_keep_ranges es) b)
        (and_right (has_agreeing_pairs v) (elements_have_agreeing_pairs es) c) in
        let p : depth (normal_value mode v) ≤ depth v = one.depth in
        let q : elements_depth (normal_elements mode es) ≤ elements_depth es = rest.depth in
        record {
          elements = (lean-trivia mode e.before h.0, lean-trivia mode e.after h.1, one.value, rest.elements);
          depth = omega arith;
          short = and_both (has_short_keys (normal_value mode v)) (elements_have_short_keys (normal_elements mode es)) one.short rest.short;
          ranges = and_both (keeps_ranges (normal_value mode v)) (elements_keep_ranges (normal_elements mode es)) one.ranges rest.ranges;
          agreeing = and_both (has_agreeing_pairs (normal_value mode v)) (elements_have_agreeing_pairs (normal_elements mode es))
              one.agreeing rest.agreeing;
        }

    pairs-right : (n : ℕ) (ps : Pairs) → ArePairs ps → pairs_depth ps ≤ n → pairs_have_short_keys ps ≡ true → pairs_keep_ranges ps ≡ true
        → pairs_have_agreeing_pairs ps ≡ true
        → EachPair (IsRightPair n) (normal_pairs mode ps)
    pairs-right n no_pairs h d a b c = tt
    pairs-right n (pair f v ps) h d a b c =
        let keys_short = and_right (is_short f.path) (has_short_keys v && pairs_have_short_keys ps) a in
        let one = value-right v h.1 (and_left (has_short_keys v) (pairs_have_short_keys ps) keys_short)
        (and_left (keeps_ranges v) (pairs_keep_ranges ps) b)
        (and_left (has_agreeing_pairs v) (pairs_have_agreeing_pairs ps) c) in
        let p : depth (normal_value mode v) ≤ depth v = one.depth in (
          record {
            frame = lean-frame f h.0;
            short = and_left (is_short f.path) (has_short_keys v && pairs_have_short_keys ps) a;
            value = record { value = one.value; depth = omega arith; short = one.short; ranges = one.ranges; agreeing = one.agreeing };
          },
          pairs-right n ps h.2 (omega arith) (and_right (has_short_keys v) (pairs_have_short_keys ps) keys_short)
              (and_right (keeps_ranges v) (pairs_keep_ranges ps) b) (and_right (has_agreeing_pairs v) (pairs_have_agreeing_pairs ps) c),
        )

  -- the pairs are in the grammar before they are put in order
  pub normal-pairs-right : (ps : Pairs) → ArePairs ps → pairs_have_short_keys ps ≡ true → pairs_keep_ranges ps ≡ true
      → pairs_have_agreeing_pairs ps ≡ true → ArePairs (normal_pairs mode ps)
  normal-pairs-right ps h a b c =
      (from-each (pairs_depth ps) (normal_pairs mode ps) (pairs-right (pairs_depth ps) ps h (omega arith) a b c)).pairs
