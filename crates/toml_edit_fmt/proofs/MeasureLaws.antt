-- A look at the events of a value, of elements and of pairs.
use Rattle.std.proofs.Common.{◌≡◌, refl, sym, ap, subst, ◌∙◌, ℕ, ◌+◌, ◌-◌, ◌<◌, Bool, true, false, ◌==◌, ◌&&◌, ◌||◌, arith}
use Rattle.std.proofs.Common.{List, [], ◌∷◌, ◌++◌, append_assoc, codes, length}
use Rattle.std.specs.Prelude.{if◌then◌else◌}
use Rattle.std.specs.List.{AllByRecursion}
use Rattle.std.proofs.lemmas.Bool.Decides.{nat_tests}
use Rattle.toml_edit_model.specs.OwnedForm.{cut_out}
use Rattle.toml_edit_model.specs.Syntax.{Segment, Around, Frame, Value, scalar, array, inline_table, Elements, no_elements, element, Pairs}
use Rattle.toml_edit_model.specs.Syntax.{no_pairs, pair, segment_text, path_text, comma_text, value_text, elements_text, pairs_text}
use Rattle.toml_edit_model.specs.Syntax.{IsSpelledSegment, IsValue, AreElements, ArePairs, has_elements, has_pairs}
use Rattle.toml_edit_model.specs.Text.{Text}
use Rattle.toml_edit_laws.specs.Standing.{Stands}
use Rattle.toml_edit_laws.proofs.common.StandingLaws.{stands-left, stands-right, cut_out-is}
use Rattle.toml_edit_laws.proofs.values.ValueOwned.{segment-stands, inner-stands, around-stands, element-stands, elements-after}
use Rattle.toml_edit_laws.proofs.values.ValueOwned.{first-stands, later-stand, stands-at}
use Rattle.toml_edit_syntax.specs.declared.event.EventKind.{EventKind}
use Rattle.toml_edit_syntax.specs.declared.event.EventKind.TheVariants.{Key, BeforeDot, AfterDot, Equals, Scalar, ArrayOpen, ArrayClose}
use Rattle.toml_edit_syntax.specs.declared.event.EventKind.TheVariants.{InlineTableOpen, InlineTableClose, Leading, Before, After, Comma, Inner}
use Rattle.toml_edit_syntax.specs.declared.event.Event.{Event}
use Rattle.toml_edit_syntax.specs.ValueEvents.{event, path_events, value_at_byte, value_events, elements_events, pairs_events, close_events}
use Rattle.toml_edit_syntax.proofs.late.EventLaws.{frame_length}
use Rattle.toml_edit_fmt_laws.specs.Rules.{Rules}
use Rattle.toml_edit_fmt_laws.specs.Laying.{columns, is_broken}
use Rattle.toml_edit_fmt_laws.specs.Formatted.{elements_have_comments, flat_width, elements_width, pairs_width, path_width, bracket_width, has_broken_elements}
use Rattle.toml_edit_fmt_laws.specs.Formatted.{has_broken_pairs, has_comments, laid_spelling}
use Rattle.toml_edit_fmt.specs.ValueBits.{counted}
use Rattle.toml_edit_fmt.specs.MeasureView.{array_rest, inline_rest, IsInsideArray, IsInsideInline, plus, widened, closed, parted, passed, seeing, Looks}
use Rattle.toml_edit_fmt.specs.declared.measure.Inside.{Inside}
use Rattle.toml_edit_fmt.specs.declared.measure.Look.{Look}

-- ---- looks

abbrev pub at : ℕ → Bool → Bool → Bool → Bool → ℕ → Look
at n f a b c w =
    record {
      level = n;
      is_filled = f;
      inside = record { has_any = a; is_broken = b; has_comments = c; columns = counted w };
    }

-- After members of which there are any or none, with or without a newline and a comment, and so wide.
abbrev after : ℕ → Bool → Bool → Bool → Bool → ℕ → Bool → Bool → Bool → ℕ → Look
after n f a b c w any broken comments width =
    at n (f || any) (a || ((n == 1) && any)) (b || ((n == 1) && broken)) (c || ((n == 1) && comments))
    (w + ((if f && any then 2 else 0) + width))

same : (n : ℕ) (f f' a a' b b' c c' : Bool) (w w' : ℕ) → f ≡ f' → a ≡ a' → b ≡ b' → c ≡ c' → w ≡ w' → at n f a b c w ≡ at n f' a' b' c' w'
same n f f' a a' b b' c c' w w' ef ea eb ec ew = cc

plus-counted : (w k : ℕ) → plus (counted w) k ≡ counted (w + k)
plus-counted w k = grind (arith, nat_tests)

widened-at : (n : ℕ) (f a b c : Bool) (w k : ℕ) → widened k (at n f a b c w) ≡ at n f a b c (w + k)
widened-at n f a b c w k =
    ap (λ o. record {
      level = n;
      is_filled = f;
      inside = record { has_any = a; is_broken = b; has_comments = c; columns = o };
    }) (plus-counted w k)

-- what is false at another level
quiet : (one p x : Bool) → one ≡ false → p ≡ (p || (one && x))
quiet true p x other = absurd cc
quiet false true x other = refl
quiet false false x other = refl

seeing-at : (n : ℕ) (f a b c : Bool) (w : ℕ) (t : Text)
    → seeing t (at n f a b c w) ≡ at n f a (b || ((n == 1) && is_broken t)) (c || ((n == 1) && has_comments t)) w
seeing-at n f a b c w t = by_level (n == 1)
  where
    by_level : (one : Bool) → (if one then at n f a (b || is_broken t) (c || has_comments t) w else at n f a b c w)
        ≡ at n f a (b || (one && is_broken t)) (c || (one && has_comments t)) w
    by_level true = refl
    by_level false = same n f f a a b _ c _ w w refl refl (quiet false b (is_broken t) refl) (quiet false c (has_comments t) refl) refl

parted-at : (n : ℕ) (f a b c : Bool) (w : ℕ) → parted (at n f a b c w) ≡ at n f a b c (w + (if f then 2 else 0))
parted-at n true a b c w = widened-at n true a b c w 2
parted-at n false a b c w = ap (at n false a b c) (let e : w ≡ w + 0 = omega arith in e)

closed-at : (n : ℕ) (f a b c : Bool) (w : ℕ) (space : Bool)
    → closed space (at n f a b c w) ≡ at (n - 1) f a b c (w + (if f && space then 2 else 0))
closed-at n true a b c w true = ap (λ (l : Look). record l { level = n - 1 }) (widened-at n true a b c w 2)
closed-at n true a b c w false = ap (at (n - 1) true a b c) (let e : w ≡ w + 0 = omega arith in e)
closed-at n false a b c w space = ap (at (n - 1) false a b c) (let e : w ≡ w + 0 = omega arith in e)

nothing-at : (n : ℕ) (f a b c : Bool) (w : ℕ) → after n f a b c w false false false 0 ≡ at n f a b c w
nothing-at n f a b c w =
    same n _ f _ a _ b _ c _ w (by_fill f) (by_part a (n == 1)) (by_part b (n == 1)) (by_part c (n == 1)) (by_width f)
  where
    by_fill : (p : Bool) → (p || false) ≡ p
    by_fill true = refl
    by_fill false = refl

    by_part : (p one : Bool) → (p || (one && false)) ≡ p
    by_part true one = refl
    by_part false true = refl
    by_part false false = refl

    by_width : (p : Bool) → w + ((if p && false then 2 else 0) + 0) ≡ w
    by_width true = omega arith
    by_width false = omega arith

-- a member, and those after it
more-at : (n : ℕ) (f a b c : Bool) (w : ℕ) (b1 b2 c1 c2 any broken comments : Bool) (width others : ℕ)
    → after n true (a || (n == 1)) ((b || ((n == 1) && b1)) || ((n == 1) && b2)) ((c || ((n == 1) && c1)) || ((n == 1) && c2))
    ((w + (if f then 2 else 0)) + width) any broken comments others
    ≡ after n f a b c w true ((b1 || b2) || broken) ((c1 || c2) || comments) (width + ((if any then 2 else 0) + others))
more-at n f a b c w b1 b2 c1 c2 any broken comments width others =
    same n _ _ _ _ _ _ _ _ _ _ (by_fill f) (by_any a (n == 1)) (by_part b (n == 1) b1 b2 broken) (by_part c (n == 1) c1 c2 comments)
    (by_width f)
  where
    by_fill : (p : Bool) → true ≡ (p || true)
    by_fill true = refl
    by_fill false = refl

    by_any : (p one : Bool) → ((p || one) || (one && any)) ≡ (p || (one && true))
    by_any true one = refl
    by_any false true = refl
    by_any false false = refl

    by_part : (p one x y z : Bool) → (((p || (one && x)) || (one && y)) || (one && z)) ≡ (p || (one && ((x || y) || z)))
    by_part true one x y z = refl
    by_part false true x y z = refl
    by_part false false x y z = refl

    by_width : (p : Bool) → ((w + (if p then 2 else 0)) + width) + ((if any then 2 else 0) + others)
        ≡ w + ((if p && true then 2 else 0) + (width + ((if any then 2 else 0) + others)))
    by_width true = omega arith
    by_width false = omega arith

-- out of brackets inside others
deeper-at : (n : ℕ) (a b c : Bool) (w : ℕ) (any b1 b2 c1 c2 space : Bool) (width : ℕ) → 0 < n
    → at (n + 1 - 1) any (a || ((n + 1 == 1) && any)) ((b || ((n + 1 == 1) && b1)) || ((n + 1 == 1) && b2))
    ((c || ((n + 1 == 1) && c1)) || ((n + 1 == 1) && c2)) (((w + 2) + (0 + width)) + (if any && space then 2 else 0))
    ≡ at n any a b c (w + (bracket_width any space + width))
deeper-at n a b c w any b1 b2 c1 c2 space width on =
    let x = same (n + 1 - 1) any any _ a _ b _ c _ (w + (bracket_width any space + width)) refl (sym (quiet (n + 1 == 1) a any off))
    (twice b b1 b2) (twice c c1 c2) (by_width (any && space)) in
    x ∙ ap (λ k. at k any a b c (w + (bracket_width any space + width))) (let e : n + 1 - 1 ≡ n = omega arith in e)
  where
    off : (n + 1 == 1) ≡ false
    off = grind (arith, nat_tests)

    twice : (p x y : Bool) → ((p || ((n + 1 == 1) && x)) || ((n + 1 == 1) && y)) ≡ p
    twice p x y = sym (quiet (n + 1 == 1) (p || ((n + 1 == 1) && x)) y off) ∙ sym (quiet (n + 1 == 1) p x off)

    by_width : (p : Bool) → ((w + 2) + (0 + width)) + (if p then 2 else 0) ≡ w + ((if p then 4 else 2) + width)
    by_width true = omega arith
    by_width false = omega arith

-- ---- where the members of lists stand, if there are any

pub others-stand : (source : Text) (start : ℕ) (a : Around) (v : Value) (es : Elements) → Stands source start (elements_text (element a v es))
    → has_elements es ≡ true → Stands source (start + length a.before + length (value_text v) + length a.after + 1) (elements_text es)
others-stand source start a v no_elements h some = absurd cc
others-stand source start a v (element b w es) h some = elements-after source start a v b w es h

other-pairs-stand : (source : Text) (start : ℕ) (f : Frame) (v : Value) (ps : Pairs) → Stands source start (pairs_text (pair f v ps))
    → has_pairs ps ≡ true → Stands source (value_at_byte start f + length (value_text v) + length f.trailing + 1) (pairs_text ps)
other-pairs-stand source start f v no_pairs h some = absurd cc
other-pairs-stand source start f v (pair g w ps) h some =
    stands-at source _ _ (pairs_text (pair g w ps)) (later-stand source start f v g w ps h)
    (omega (arith, frame_length f (value_text v)))

-- ---- widths

elements-wide : (r : Rules) (a : Around) (v : Value) (es : Elements)
    → elements_width r (element a v es) ≡ flat_width r v + ((if has_elements es then 2 else 0) + elements_width r es)
elements-wide r a v no_elements = omega arith
elements-wide r a v (element b w es) = refl

pairs-wide : (r : Rules) (f : Frame) (v : Value) (ps : Pairs)
    → pairs_width r (pair f v ps) ≡ path_width r f.path + 3 + flat_width r v + ((if has_pairs ps then 2 else 0) + pairs_width r ps)
pairs-wide r f v no_pairs = omega arith
pairs-wide r f v (pair g w ps) = omega arith

abbrev pairs_have_comments : Pairs → Bool
pairs_have_comments no_pairs = false
pairs_have_comments (pair f v ps) = (has_comments f.leading || has_comments f.trailing) || pairs_have_comments ps

-- the events of a pair, one after another
regrouped : (path v others tail : List Event) (sign after : Event)
    → ((path ++ (sign ∷ [])) ++ (v ++ (after ∷ others))) ++ tail ≡ path ++ (sign ∷ (v ++ (after ∷ (others ++ tail))))
regrouped path v others tail sign after = simp append_assoc

-- ---- events

module _ (source : Text) (r : Rules) (i : Inside) where
  -- A look at these events, up to the bracket that closes the list, ends with this.
  abbrev pub Ends : List Event → Look → Type 0
  Ends [] l = l.inside ≡ i
  Ends (e ∷ es) l =
      (l.level ≡ 0 → l.inside ≡ i)
      × (0 < l.level → (m : Look) → Looks r e.kind (cut_out source e.span.start e.span.end) l m → Ends es m)

  ended : (es : List Event) (l : Look) → l.level ≡ 0 → l.inside ≡ i → Ends es l
  ended [] l none is = is
  ended (e ∷ es) l none is = (λ _. is, λ on. absurd (omega arith))

  step : (kind : EventKind) (start : ℕ) (t : Text) (es : List Event) (l x : Look) → 0 < l.level
      → ((m : Look) → Looks r kind (cut_out source start (start + length t)) l m → m ≡ x) → Ends es x → Ends (event kind start t ∷ es) l
  step kind start t es l x on is h = (λ none. absurd (omega arith), λ _ m looks. subst (Ends es) (sym (is m looks)) h)

  -- an event whose text is in the source
  text : (kind : EventKind) (start : ℕ) (t : Text) (es : List Event) (l x : Look) → 0 < l.level → Stands source start t
      → ((m : Look) → Looks r kind t l m → m ≡ x) → Ends es x → Ends (event kind start t ∷ es) l
  text kind start t es l x on stands is h =
      step kind start t es l x on (λ m looks. is m (subst (λ s. Looks r kind s l m) (cut_out-is source start t stands) looks)) h

  key : (s : Segment) (start n : ℕ) (f a b c : Bool) (w : ℕ) (es : List Event) → 0 < n → IsSpelledSegment s
      → Stands source start (segment_text s) → Ends es (at n f a b c (w + columns (laid_spelling r s)))
      → Ends (event Key (start + length s.before) s.spelled ∷ es) (at n f a b c w)
  key s start n f a b c w es on spells stands end =
      text Key (start + length s.before) s.spelled es (at n f a b c w) (at n f a b c (w + columns (laid_spelling r s))) on
      (segment-stands source start s stands).spelled (λ m e. e s spells refl ∙ widened-at n f a b c w (columns (laid_spelling r s))) end

  path-ends : (p : List Segment) (start n : ℕ) (f a b c : Bool) (w : ℕ) (es : List Event) → 0 < n → AllByRecursion IsSpelledSegment p
      → Stands source start (path_text p) → Ends es (at n f a b c (w + path_width r p))
      → Ends (path_events start p ++ es) (at n f a b c w)
  path-ends [] start n f a b c w es on all h end = subst (λ k. Ends es (at n f a b c k)) (let e : w + 0 ≡ w = omega arith in e) end
  path-ends (s ∷ []) start n f a b c w es on all h end = key s start n f a b c w es on all.0 h end
  path-ends (s ∷ q ∷ rest) start n f a b c w es on all h end =
      let dot = start + length (segment_text s) in
      let wide = w + columns (laid_spelling r s) in
      let behind = path_events (dot + 1) (q ∷ rest) ++ es in
      let e : w + path_width r (s ∷ q ∷ rest) ≡ wide + 1 + path_width r (q ∷ rest) = omega arith in
      key s start n f a b c w (event BeforeDot (start + length s.before + length s.spelled) s.after ∷ event AfterDot (dot + 1) q.before ∷ behind) on all.0 (stands-left source start (segment_text s) (codes "." ++ path_text (q ∷ rest)) h)
      (step BeforeDot (start + length s.before + length s.spelled) s.after (event AfterDot (dot + 1) q.before ∷ behind) (at n f a b c wide) (at n f a b c (wide + 1)) on
      (λ m is. is ∙ widened-at n f a b c wide 1)
      (step AfterDot (dot + 1) q.before behind (at n f a b c (wide + 1)) (at n f a b c (wide + 1)) on (λ m is. is)
      (path-ends (q ∷ rest) (dot + 1) n f a b c (wide + 1) es on all.1
      (stands-right source dot (codes ".") (path_text (q ∷ rest)) (stands-right source start (segment_text s) (codes "."
      ++ path_text (q ∷ rest)) h))
      (subst (λ k. Ends es (at n f a b c k)) e end))))

  close-ends : (kind : EventKind) (bracket : Text) (space : Bool) (end : ℕ) (comma : Bool) (t : Text) (n : ℕ) (f a b c : Bool) (w : ℕ)
      (es : List Event) → 0 < n → ((m l : Look) (s : Text) → Looks r kind s l m → m ≡ closed space l) → Stands source (end - length t) t
      → Ends es (at (n - 1) f a (b || ((n == 1) && is_broken t)) (c || ((n == 1) && has_comments t)) (w + (if f && space then 2 else 0)))
      → Ends (close_events kind bracket end comma t ++ es) (at n f a b c w)
  close-ends kind bracket space end comma t n f a b c w es on closes stands h = by_comma comma
    where
      inner : Ends (event Inner (end - length t) t ∷ event kind end bracket ∷ es) (at n f a b c w)
      inner =
          let b1 = b || ((n == 1) && is_broken t) in
          let c1 = c || ((n == 1) && has_comments t) in
          text Inner (end - length t) t (event kind end bracket ∷ es) (at n f a b c w) (at n f a b1 c1 w) on stands
          (λ m is. is ∙ seeing-at n f a b c w t)
          (step kind end bracket es (at n f a b1 c1 w) (at (n - 1) f a b1 c1 (w + (if f && space then 2 else 0))) on
          (λ m is. closes m (at n f a b1 c1 w) _ is ∙ closed-at n f a b1 c1 w space) h)

      by_comma : (p : Bool) → Ends (close_events kind bracket end p t ++ es) (at n f a b c w)
      by_comma true =
          step Comma (end - length t - 1) (codes ",") (event Inner (end - length t) t ∷ event kind end bracket ∷ es) (at n f a b c w)
          (at n f a b c w) on (λ m is. is) inner
      by_comma false = inner

  -- text before a member
  before-ends : (kind : EventKind) (start : ℕ) (t : Text) (n : ℕ) (f a b c : Bool) (w : ℕ) (es : List Event) → 0 < n → Stands source start t
      → ((m l : Look) → Looks r kind t l m → m ≡ parted (seeing t l))
      → Ends es (at n f a (b || ((n == 1) && is_broken t)) (c || ((n == 1) && has_comments t)) (w + (if f then 2 else 0)))
      → Ends (event kind start t ∷ es) (at n f a b c w)
  before-ends kind start t n f a b c w es on stands looks h =
      let b1 = b || ((n == 1) && is_broken t) in
      let c1 = c || ((n == 1) && has_comments t) in
      text kind start t es (at n f a b c w) (at n f a b1 c1 (w + (if f then 2 else 0))) on stands
      (λ m is. looks m (at n f a b c w) is ∙ ap parted (seeing-at n f a b c w t) ∙ parted-at n f a b1 c1 w) h

  after-ends : (start : ℕ) (t : Text) (n : ℕ) (f a b c : Bool) (w : ℕ) (es : List Event) → 0 < n → Stands source start t
      → Ends es (at n true (a || (n == 1)) (b || ((n == 1) && is_broken t)) (c || ((n == 1) && has_comments t)) w)
      → Ends (event After start t ∷ es) (at n f a b c w)
  after-ends start t n f a b c w es on stands h =
      text After start t es (at n f a b c w)
      (at n true (a || (n == 1)) (b || ((n == 1) && is_broken t)) (c || ((n == 1) && has_comments t)) w) on stands (λ m is. is ∙ ap passed (seeing-at n f a b c w t)) h

  mutual
    value-ends : (v : Value) (start n : ℕ) (f a b c : Bool) (w : ℕ) (es : List Event) → 0 < n → IsValue v
        → Stands source start (value_text v) → ((g : Bool) → Ends es (at n g a b c (w + flat_width r v)))
        → Ends (value_events start v ++ es) (at n f a b c w)
    value-ends (scalar s t) start n f a b c w es on is h end =
        text Scalar start t es (at n f a b c w) (at n f a b c (w + columns t)) on h (λ m e. e ∙ widened-at n f a b c w (columns t)) (end f)
    value-ends (array xs comma t) start n f a b c w es on (close, all) h end =
        let at_end = start + length (value_text (array xs comma t)) - 1 in
        let inner = inner-stands source start (codes "[") (elements_text xs) (comma_text comma) t (codes "]") refl refl h in
        let closing = close_events ArrayClose (codes "]") at_end comma t in
        let any = has_elements xs in
        subst (λ l. Ends (event ArrayOpen start (codes "[") ∷ l) (at n f a b c w))
        (sym (append_assoc (elements_events (start + 1) xs) closing es))
        (step ArrayOpen start (codes "[") (elements_events (start + 1) xs ++ (closing ++ es)) (at n f a b c w) (at (n + 1) false a b c (w + 2)) on
        (λ m e. e ∙ ap (λ (l : Look). record l { level = n + 1; is_filled = false }) (widened-at n f a b c w 2))
        (elements-ends xs (start + 1) (n + 1) false a b c (w + 2) (closing ++ es) (omega arith) all (λ some. inner.body_at)
        (close-ends ArrayClose (codes "]") r.bracket_space at_end comma t (n + 1) any (a || ((n + 1 == 1) && any))
        (b || ((n + 1 == 1) && has_broken_elements xs)) (c || ((n + 1 == 1) && elements_have_comments xs)) ((w + 2) + (0 + elements_width r xs)) es (omega arith) (λ m l s e. e) inner.trailing_at
        (subst (Ends es)
        (sym (deeper-at n a b c w any (has_broken_elements xs) (is_broken t) (elements_have_comments xs) (has_comments t)
        r.bracket_space (elements_width r xs) on)) (end (has_elements xs))))))
    value-ends (inline_table ps comma t) start n f a b c w es on (close, all) h end =
        let at_end = start + length (value_text (inline_table ps comma t)) - 1 in
        let inner = inner-stands source start (codes "{") (pairs_text ps) (comma_text comma) t (codes "}") refl refl h in
        let closing = close_events InlineTableClose (codes "}") at_end comma t in
        let any = has_pairs ps in
        subst (λ l. Ends (event InlineTableOpen start (codes "{") ∷ l) (at n f a b c w))
        (sym (append_assoc (pairs_events (start + 1) ps) closing es))
        (step InlineTableOpen start (codes "{") (pairs_events (start + 1) ps ++ (closing ++ es)) (at n f a b c w) (at (n + 1) false a b c (w + 2)) on
        (λ m e. e ∙ ap (λ (l : Look). record l { level = n + 1; is_filled = false }) (widened-at n f a b c w 2))
        (pairs-ends ps (start + 1) (n + 1) false a b c (w + 2) (closing ++ es) (omega arith) all (λ some. inner.body_at)
        (close-ends InlineTableClose (codes "}") r.brace_space at_end comma t (n + 1) any (a || ((n + 1 == 1) && any))
        (b || ((n + 1 == 1) && has_broken_pairs ps)) (c || ((n + 1 == 1) && pairs_have_comments ps)) ((w + 2) + (0 + pairs_width r ps)) es (omega arith) (λ m l s e. e) inner.trailing_at
        (subst (Ends es)
        (sym (deeper-at n a b c w any (has_broken_pairs ps) (is_broken t) (pairs_have_comments ps) (has_comments t)
        r.brace_space (pairs_width r ps) on)) (end (has_pairs ps))))))

    elements-ends : (xs : Elements) (start n : ℕ) (f a b c : Bool) (w : ℕ) (es : List Event) → 0 < n → AreElements xs
        → (has_elements xs ≡ true → Stands source start (elements_text xs))
        → Ends es (after n f a b c w (has_elements xs) (has_broken_elements xs) (elements_have_comments xs) (elements_width r xs))
        → Ends (elements_events start xs ++ es) (at n f a b c w)
    elements-ends no_elements start n f a b c w es on all h end = subst (Ends es) (nothing-at n f a b c w) end
    elements-ends (element e v xs) start n f a b c w es on (_, _, is, all) h end =
        let value = start + length e.before in
        let behind = value + length (value_text v) in
        let next = behind + length e.after + 1 in
        let around = around-stands source start e.before (value_text v) e.after (element-stands source start e v xs (h refl)) in
        let b1 = b || ((n == 1) && is_broken e.before) in
        let c1 = c || ((n == 1) && has_comments e.before) in
        let b2 = b1 || ((n == 1) && is_broken e.after) in
        let c2 = c1 || ((n == 1) && has_comments e.after) in
        let wide = w + (if f then 2 else 0) in
        let others = elements_events next xs ++ es in
        subst (λ l. Ends (event Before start e.before ∷ l) (at n f a b c w))
        (sym (append_assoc (value_events value v) (event After behind e.after ∷ elements_events next xs) es))
        (before-ends Before start e.before n f a b c w (value_events value v ++ (event After behind e.after ∷ others)) on around.before_at
        (λ m l looks. looks)
        (value-ends v value n f a b1 c1 wide (event After behind e.after ∷ others) on is around.value_at
        (λ g. after-ends behind e.after n g a b1 c1 (wide + flat_width r v) others on around.after_at
        (elements-ends xs next n true (a || (n == 1)) b2 c2 (wide + flat_width r v) es on all (others-stand source start e v xs (h refl))
        (subst (Ends es)
        (ap (after n f a b c w true (has_broken_elements (element e v xs)) (elements_have_comments (element e v xs))) (elements-wide r e v xs)
        ∙ sym (more-at n f a b c w (is_broken e.before) (is_broken e.after) (has_comments e.before) (has_comments e.after) (has_elements xs)
        (has_broken_elements xs) (elements_have_comments xs) (flat_width r v) (elements_width r xs)))
        end)))))

    pairs-ends : (ps : Pairs) (start n : ℕ) (f a b c : Bool) (w : ℕ) (es : List Event) → 0 < n → ArePairs ps
        → (has_pairs ps ≡ true → Stands source start (pairs_text ps))
        → Ends es (after n f a b c w (has_pairs ps) (has_broken_pairs ps) (pairs_have_comments ps) (pairs_width r ps))
        → Ends (pairs_events start ps ++ es) (at n f a b c w)
    pairs-ends no_pairs start n f a b c w es on all h end = subst (Ends es) (nothing-at n f a b c w) end
    pairs-ends (pair d v ps) start n f a b c w es on ((_, path), is, all) h end =
        let first = start + length d.leading in
        let sign = first + length (path_text d.path) + length d.before_equals in
        let value = value_at_byte start d in
        let behind = value + length (value_text v) in
        let next = behind + length d.trailing + 1 in
        let from_value = d.after_equals ++ (value_text v ++ d.trailing) in
        let with_key = around-stands source start d.leading (path_text d.path) (d.before_equals ++ (codes "=" ++ from_value))
        (first-stands source start d v ps (h refl)) in
        let with_sign = around-stands source (first + length (path_text d.path)) d.before_equals (codes "=") from_value with_key.after_at in
        let with_value = around-stands source (sign + 1) d.after_equals (value_text v) d.trailing with_sign.after_at in
        let b1 = b || ((n == 1) && is_broken d.leading) in
        let c1 = c || ((n == 1) && has_comments d.leading) in
        let b2 = b1 || ((n == 1) && is_broken d.trailing) in
        let c2 = c1 || ((n == 1) && has_comments d.trailing) in
        let wide = w + (if f then 2 else 0) in
        let others = event After behind d.trailing ∷ (pairs_events next ps ++ es) in
        let from_sign = event Equals sign (codes "=") ∷ (value_events value v ++ others) in
        let with_path = wide + path_width r d.path in
        let all_wide = wide + (path_width r d.path + 3 + flat_width r v) in
        subst (λ l. Ends (event Leading start d.leading ∷ l) (at n f a b c w))
        (sym (regrouped (path_events first d.path) (value_events value v) (pairs_events next ps) es (event Equals sign (codes "=")) (event After behind d.trailing)))
        (before-ends Leading start d.leading n f a b c w (path_events first d.path ++ from_sign) on with_key.before_at (λ m l looks. looks)
        (path-ends d.path first n f a b1 c1 wide from_sign on path.spelled with_key.value_at
        (step Equals sign (codes "=") (value_events value v ++ others) (at n f a b1 c1 with_path) (at n f a b1 c1 (with_path + 3)) on (λ m e. e ∙ widened-at n f a b1 c1 with_path 3)
        (value-ends v value n f a b1 c1 (with_path + 3) others on is with_value.value_at
        (λ g. subst (λ k. Ends others (at n g a b1 c1 k))
        (let e : all_wide ≡ with_path + 3 + flat_width r v = omega arith in e)
        (after-ends behind d.trailing n g a b1 c1 all_wide (pairs_events next ps ++ es) on with_value.after_at
        (pairs-ends ps next n true (a || (n == 1)) b2 c2 all_wide es on all (other-pairs-stand source start d v ps (h refl))
        (subst (Ends es)
        (ap (after n f a b c w true (has_broken_pairs (pair d v ps)) (pairs_have_comments (pair d v ps))) (pairs-wide r d v ps)
        ∙ sym (more-at n f a b c w (is_broken d.leading) (is_broken d.trailing) (has_comments d.leading) (has_comments d.trailing) (has_pairs ps)
        (has_broken_pairs ps) (pairs_have_comments ps) (path_width r d.path + 3 + flat_width r v) (pairs_width r ps)))
        end))))))))

-- ---- from the opening bracket on

abbrev array_inside : Rules → Elements → Bool → Text → Inside
array_inside r es comma t =
    record {
      has_any = has_elements es;
      is_broken = has_broken_elements es || is_broken t;
      has_comments = elements_have_comments es || has_comments t;
      columns = counted (flat_width r (array es comma t));
    }

abbrev inline_inside : Rules → Pairs → Bool → Text → Inside
inline_inside r ps comma t =
    record {
      has_any = has_pairs ps;
      is_broken = has_broken_pairs ps || is_broken t;
      has_comments = pairs_have_comments ps || has_comments t;
      columns = counted (flat_width r (inline_table ps comma t));
    }

wide-is : (any space : Bool) (width : ℕ) → (2 + (0 + width)) + (if any && space then 2 else 0) ≡ bracket_width any space + width
wide-is any space width = by_width (any && space)
  where
    by_width : (p : Bool) → (2 + (0 + width)) + (if p then 2 else 0) ≡ (if p then 4 else 2) + width
    by_width true = omega arith
    by_width false = omega arith

module _ (source : Text) (r : Rules) where
  pub stopped : (i : Inside) (es : List Event) (l : Look) → l.level ≡ 0 → Ends source r i es l → l.inside ≡ i
  stopped i [] l none h = h
  stopped i (e ∷ es) l none h = h.0 none

  pub none-left : (i : Inside) (es : List Event) (l : Look) → length es < 1 → Ends source r i es l → l.inside ≡ i
  none-left i [] l none h = h
  none-left i (e ∷ es) l none h = absurd (omega arith)

  module _ (events rest : List Event) (l : Look)
      (left : (i : Inside) → Ends source r i events (at 1 false false false false 2) → Ends source r i rest l)
      (ends : (i : Inside) → Ends source r i rest l → l.inside ≡ i) where
    pub array-measured : (es : Elements) (comma : Bool) (t : Text) (start : ℕ) (more : List Event) → AreElements es
        → Stands source start (value_text (array es comma t)) → events ≡ array_rest start es comma t ++ more
        → IsInsideArray r es comma t l.inside
    array-measured es comma t start more all h is =
        let i = array_inside r es comma t in
        let at_end = start + length (value_text (array es comma t)) - 1 in
        let closing = close_events ArrayClose (codes "]") at_end comma t in
        let inner = inner-stands source start (codes "[") (elements_text es) (comma_text comma) t (codes "]") refl refl h in
        let whole : Ends source r i events (at 1 false false false false 2) =
        subst (λ xs. Ends source r i xs (at 1 false false false false 2)) (sym (is ∙ append_assoc (elements_events (start + 1) es) closing more))
        (elements-ends source r i es (start + 1) 1 false false false false 2 (closing ++ more) (omega arith) all
        (λ some. inner.body_at)
        (close-ends source r i ArrayClose (codes "]") r.bracket_space at_end comma t 1 (has_elements es) (has_elements es) (has_broken_elements es)
        (elements_have_comments es) (2 + (0 + elements_width r es)) more (omega arith) (λ m l s e. e) inner.trailing_at
        (ended source r i more _ refl (ap (λ k. record i { columns = counted k }) (wide-is (has_elements es) r.bracket_space (elements_width r es)))))) in
        subst (IsInsideArray r es comma t) (sym (ends i (left i whole))) (record { any = refl; broken = refl; comments = refl; columns = refl })

    pub inline-measured : (ps : Pairs) (comma : Bool) (t : Text) (start : ℕ) (more : List Event) → ArePairs ps
        → Stands source start (value_text (inline_table ps comma t)) → events ≡ inline_rest start ps comma t ++ more
        → IsInsideInline ps t l.inside
    inline-measured ps comma t start more all h is =
        let i = inline_inside r ps comma t in
        let at_end = start + length (value_text (inline_table ps comma t)) - 1 in
        let closing = close_events InlineTableClose (codes "}") at_end comma t in
        let inner = inner-stands source start (codes "{") (pairs_text ps) (comma_text comma) t (codes "}") refl refl h in
        let whole : Ends source r i events (at 1 false false false false 2) =
        subst (λ xs. Ends source r i xs (at 1 false false false false 2)) (sym (is ∙ append_assoc (pairs_events (start + 1) ps) closing more))
        (pairs-ends source r i ps (start + 1) 1 false false false false 2 (closing ++ more) (omega arith) all
        (λ some. inner.body_at)
        (close-ends source r i InlineTableClose (codes "}") r.brace_space at_end comma t 1 (has_pairs ps) (has_pairs ps) (has_broken_pairs ps)
        (pairs_have_comments ps) (2 + (0 + pairs_width r ps)) more (omega arith) (λ m l s e. e) inner.trailing_at
        (ended source r i more _ refl (ap (λ k. record i { columns = counted k }) (wide-is (has_pairs ps) r.brace_space (pairs_width r ps)))))) in
        subst (IsInsideInline ps t) (sym (ends i (left i whole))) (record { any = refl; broken = refl; comments = no_comments ps })
      where
        no_comments : (ps : Pairs) → has_pairs ps ≡ false → (pairs_have_comments ps || has_comments t) ≡ has_comments t
        no_comments no_pairs none = refl
        no_comments (pair f v ps) none = absurd cc
