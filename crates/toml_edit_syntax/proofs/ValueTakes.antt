-- What reads as a value is one, and is not too deep.
use Rattle.std.proofs.Common.{◌≡◌, ℕ, zero, suc, ◌+◌, ◌-◌, ◌<◌, ◌≤◌, Bool, true, false, cond, if◌then◌else◌, ◌==◌, ◌&&◌, ◌||◌, List, []}
use Rattle.std.proofs.Common.{◌∷◌, ◌++◌, length, drop, Some, None, refl, sym, ap, subst, ◌∙◌, inl, inr, arith, append_assoc, codes}
use Rattle.std.proofs.lemmas.Bool.{false≢true}
use Rattle.std.proofs.lemmas.Bool.Decides.{nat_tests}
use Rattle.toml_edit_model.specs.Text.{Text}
use Rattle.toml_edit_model.specs.Trivia.{IsWholeTrivia}
use Rattle.toml_edit_model.specs.Scalars.{Scalar}
use Rattle.toml_edit_model.specs.Spelling.{Spells}
use Rattle.toml_edit_model.specs.Syntax.{Around, Frame, Value, scalar, array, inline_table, Elements, no_elements, element, Pairs, no_pairs}
use Rattle.toml_edit_model.specs.Syntax.{pair, path_text, frame_text, comma_text, value_text, elements_text, pairs_text, IsFrame, IsClose}
use Rattle.toml_edit_model.specs.Syntax.{has_elements, has_pairs, IsValue, AreElements, ArePairs, depth, elements_depth, pairs_depth}
use Rattle.toml_edit_model.specs.Syntax.{nesting_limit}
use Rattle.toml_edit_syntax.specs.declared.event.EventKind.TheVariants.{ArrayOpen, InlineTableOpen, Before, After}
use Rattle.toml_edit_syntax.specs.declared.event.Event.{Event}
use Rattle.toml_edit_laws.specs.reading.Runs.{first, Read}
use Rattle.toml_edit_laws.specs.reading.ScalarReading.{scalar_at}
use Rattle.toml_edit_syntax.specs.Scanning.{front}
use Rattle.toml_edit_syntax.specs.ValueEvents.{event, frame_events, value_events}
use Rattle.toml_edit_syntax.specs.ValueReading.{Reading, got, wrong, follow, changed, behind, trivia_at, lone_scalar, frame_at, around}
use Rattle.toml_edit_syntax.specs.ValueReading.{value_from, elements_at, pairs_at}
use Rattle.toml_edit_laws.proofs.reading.Steps.{chosen, starts}
use Rattle.toml_edit_laws.proofs.reading.TokenLaws.{scalar_takes}
use Rattle.toml_edit_syntax.proofs.ScanningLaws.{front_of}
use Rattle.toml_edit_syntax.proofs.ReadingSteps.{same_got, follow_got, changed_got, behind_got, inside_got, trivia_takes}
use Rattle.toml_edit_syntax.proofs.PathLaws.{head_text, FrameTook, frame_takes}

-- ---- what is read

pub record ValueTook (level : ℕ) (t : Text) (v : Value) (rest : Text) : Type 0 where
  pub is : IsValue v
  pub parts : t ≡ value_text v ++ rest
  pub fits : level + depth v ≤ nesting_limit

-- elements up to the closing bracket, where a comma stands before them or not
pub record ElementsTook (level : ℕ) (comma : Bool) (t : Text) (es : Elements) (ends : Bool) (w rest : Text) : Type 0 where
  pub are : AreElements es
  pub close : IsClose (has_elements es || comma) ends w
  pub parts : t ≡ elements_text es ++ (comma_text (has_elements es && ends) ++ (w ++ (93 ∷ rest)))
  pub fits : level + elements_depth es ≤ nesting_limit
  pub none : has_elements es ≡ false → ends ≡ comma

-- and pairs
pub record PairsTook (level : ℕ) (comma : Bool) (t : Text) (ps : Pairs) (ends : Bool) (w rest : Text) : Type 0 where
  pub are : ArePairs ps
  pub close : IsClose (has_pairs ps || comma) ends w
  pub parts : t ≡ pairs_text ps ++ (comma_text (has_pairs ps && ends) ++ (w ++ (125 ∷ rest)))
  pub fits : level + pairs_depth ps ≤ nesting_limit
  pub none : has_pairs ps ≡ false → ends ≡ comma

abbrev TakesValue : ℕ → Type 0
TakesValue n = (level at : ℕ) (t : Text) (v : Value) (rest : Text) → level ≤ nesting_limit → value_from n level at t ≡ got v rest
    → ValueTook level t v rest

abbrev TakesElements : ℕ → Type 0
TakesElements n = (level at : ℕ) (comma : Bool) (t : Text) (es : Elements) (ends : Bool) (w rest : Text) → level ≤ nesting_limit
    → elements_at n level at comma t ≡ got (es, (ends, w)) rest → ElementsTook level comma t es ends w rest

abbrev TakesPairs : ℕ → Type 0
TakesPairs n = (level at : ℕ) (comma : Bool) (t : Text) (ps : Pairs) (ends : Bool) (w rest : Text) → level ≤ nesting_limit
    → pairs_at n level at comma t ≡ got (ps, (ends, w)) rest → PairsTook level comma t ps ends w rest

-- ---- lists and their ends

close_none : (comma : Bool) (w : Text) → IsWholeTrivia w → IsClose comma comma w
close_none true w whole = (whole, refl)
close_none false w whole = (whole, inl refl)

-- a list behind its opening bracket has no comma before it
close_from_open : (has ends : Bool) (w : Text) → IsClose (has || false) ends w → IsClose has ends w
close_from_open true ends w h = h
close_from_open false ends w h = h

-- a list behind a comma has something before it
pub close_from_comma : (has ends : Bool) (w : Text) → IsClose (has || true) ends w → IsClose true ends w
close_from_comma true ends w h = h
close_from_comma false ends w h = h

comma_from_open : (has ends : Bool) → (has ≡ false → ends ≡ false) → (has && ends) ≡ ends
comma_from_open true ends h = refl
comma_from_open false ends h = sym (h refl)

pub closed_parts : (items comma w : Text) (bracket : ℕ) (rest : Text) → items ++ (comma ++ (w ++ (bracket ∷ rest)))
    ≡ (items ++ (comma ++ (w ++ (bracket ∷ [])))) ++ rest
closed_parts items comma w bracket rest = simp append_assoc

pub item_parts : (a b c rest : Text) → a ++ (b ++ (c ++ rest)) ≡ (a ++ (b ++ c)) ++ rest
item_parts a b c rest = simp append_assoc

more_parts : (a b c items rest : Text) → a ++ (b ++ (c ++ (44 ∷ (items ++ rest)))) ≡ (a ++ (b ++ (c ++ (44 ∷ items)))) ++ rest
more_parts a b c items rest = simp append_assoc

-- an element before others, up to the closing bracket
pub element_parts : (a : Around) (v : Value) (es : Elements) (ends : Bool) (tail : Text) → (has_elements es ≡ false → ends ≡ true)
    → a.before ++ (value_text v ++ (a.after ++ (44 ∷ (elements_text es ++ (comma_text (has_elements es && ends) ++ tail)))))
    ≡ elements_text (element a v es) ++ (comma_text ends ++ tail)
element_parts a v no_elements ends tail none = rw (none refl) (item_parts a.before (value_text v) a.after (44 ∷ tail))
element_parts a v (element b u es) ends tail none =
    more_parts a.before (value_text v) a.after (elements_text (element b u es)) (comma_text ends ++ tail)

-- a pair with this after its value
abbrev pub followed_by : Frame → Text → Frame
followed_by f after = record f { trailing = after }

-- ---- what follows a value in a list

-- a value behind these events, and the trivia behind it
value_then : {A : Type 0} (es : List Event) (r : Reading Value) (next : Value → Text → Text → Reading A) (y : A) (rest : Text)
    → behind es (follow r (λ v after_value. follow (trivia_at after_value) (next v))) ≡ got y rest
    → (v : Value) × (after_value after more : Text) × (r ≡ got v after_value) × IsWholeTrivia after × (after_value ≡ after ++ more)
    × (next v after more ≡ got y rest)
value_then es r next y rest e =
    let (v, after_value, found, g) =
    follow_got r (λ v after_value. follow (trivia_at after_value) (next v)) y rest (behind_got es _ y rest e) in
    let (after, more, trails, h) = follow_got (trivia_at after_value) (next v) y rest g in
    let (whole, parts) = trivia_takes after_value after more trails in
    (v, after_value, after, more, found, whole, parts, h)

-- a comma and more items, or the closing bracket
item_then : {L : Type 0} (Took : L → Bool → Text → Text
    → Type 0) (bracket : ℕ) (more : Text) (es : List Event) (inner : Reading (L × (Bool × Text))) (add : L
    → L) (last xs : L) (ends : Bool) (w rest : Text)
    → 0 < bracket
    → (more ≡ bracket ∷ drop 1 more → Took last false [] (drop 1 more))
    → (more ≡ 44 ∷ drop 1 more → (p : L × (Bool × Text)) → inner ≡ got p rest → Took (add p.0) p.1.0 p.1.1 rest)
    → cond (first more == 44) (behind {A = L × (Bool × Text)} es (changed (λ p. (add p.0, p.1)) inner))
    (cond (first more == bracket) (got (last, (false, [])) (drop 1 more)) wrong) ≡ got (xs, (ends, w)) rest
    → Took xs ends w rest
item_then {L} Took bracket more es inner add last xs ends w rest some closes goes e =
    elim (chosen (first more == 44) _ _ (got (xs, (ends, w)) rest) e) [
      | inl (sign, g) ↦
          let step : L × (Bool × Text) → L × (Bool × Text) = λ p. (add p.0, p.1) in
          let (p, read, same) = changed_got step inner (xs, (ends, w)) rest (behind_got es (changed step inner) (xs, (ends, w)) rest g) in
          subst (λ (y : L × (Bool × Text)). Took y.0 y.1.0 y.1.1 rest) same (goes (starts more 44 sign (omega arith)) p read)
      | inr (none, g) ↦ elim (chosen (first more == bracket) (got (last, (false, [])) (drop 1 more)) wrong (got (xs, (ends, w)) rest) g) [
        | inl (here, h) ↦
            let (same, after) = same_got (last, (false, [])) (xs, (ends, w)) (drop 1 more) rest h in
            subst (λ (x : Text). Took xs ends w x) after (subst (λ (y : L × (Bool × Text)). Took y.0 y.1.0 y.1.1 (drop 1 more)) same
            (closes (starts more bracket here some)))
        | inr (bad, h) ↦ absurd cc
      ]
    ]

-- behind an element's value and the trivia after it
abbrev pub element_then : ℕ → ℕ → ℕ → Text → Value → Text → Text → Reading (Elements × (Bool × Text))
element_then n level start before v after more =
    let end = start + length (value_text v) in
    if first more == 0x2C
    then behind (value_events start v ++ event After end after ∷ [])
    (changed (λ p. (element (around before after) v p.0, p.1)) (elements_at n level (end + length after + 1) true (drop 1 more)))
    else if first more == 0x5D then got (element (around before after) v no_elements, (false, [])) (drop 1 more)
    else wrong

-- behind a pair's value and the trivia after it
abbrev pub pair_then : ℕ → ℕ → ℕ → Frame → Value → Text → Text → Reading (Pairs × (Bool × Text))
pair_then n level start f v after more =
    let end = start + length (value_text v) in
    if first more == 0x2C
    then behind (value_events start v ++ event After end after ∷ [])
    (changed (λ p. (pair (followed_by f after) v p.0, p.1)) (pairs_at n level (end + length after + 1) true (drop 1 more)))
    else if first more == 0x7D then got (pair (followed_by f after) v no_pairs, (false, [])) (drop 1 more)
    else wrong

-- behind a pair's key and sign
abbrev pub frame_then : ℕ → ℕ → ℕ → Text → Text → Frame → Text → Reading (Pairs × (Bool × Text))
frame_then n level at leading key f value =
    let start = at + (length key + length leading) - length value in
    behind (frame_events at f) (follow (value_from n level start value) (λ v rest. follow (trivia_at rest) (pair_then n level start f v)))

-- ---- values

array_made : (level : ℕ) (t : Text) (es : Elements) (ends : Bool) (w rest : Text) → t ≡ 91 ∷ drop 1 t
    → ElementsTook (suc level) false (drop 1 t) es ends w rest → ValueTook level t (array es ends w) rest
array_made level t es ends w rest bracket took =
    let comma = comma_from_open (has_elements es) ends took.none in
    let inner : drop 1 t ≡ elements_text es ++ (comma_text ends ++ (w ++ (93 ∷ rest))) = took.parts
    ∙ ap (λ (b : Bool). elements_text es ++ (comma_text b ++ (w ++ (93 ∷ rest)))) comma in
    record {
      is = (close_from_open (has_elements es) ends w took.close, took.are);
      parts = bracket ∙ ap (λ (x : Text). 91 ∷ x) (inner ∙ closed_parts (elements_text es) (comma_text ends) w 93 rest);
      fits = omega (arith, took.fits);
    }

inline_table_made : (level : ℕ) (t : Text) (ps : Pairs) (ends : Bool) (w rest : Text) → t ≡ 123 ∷ drop 1 t
    → PairsTook (suc level) false (drop 1 t) ps ends w rest → ValueTook level t (inline_table ps ends w) rest
inline_table_made level t ps ends w rest bracket took =
    let comma = comma_from_open (has_pairs ps) ends took.none in
    let inner : drop 1 t ≡ pairs_text ps ++ (comma_text ends ++ (w ++ (125 ∷ rest))) = took.parts
    ∙ ap (λ (b : Bool). pairs_text ps ++ (comma_text b ++ (w ++ (125 ∷ rest)))) comma in
    record {
      is = (close_from_open (has_pairs ps) ends w took.close, took.are);
      parts = bracket ∙ ap (λ (x : Text). 123 ∷ x) (inner ∙ closed_parts (pairs_text ps) (comma_text ends) w 125 rest);
      fits = omega (arith, took.fits);
    }

lone_made : (level : ℕ) (t rest : Text) (v : Value) (o : Read Scalar) → level ≤ nesting_limit → scalar_at t ≡ o → lone_scalar t o
    ≡ got v rest → ValueTook level t v rest
lone_made level t rest v None room found e = absurd cc
lone_made level t rest v (Some (s, more)) room found e =
    let (spelled, spells, parts) = scalar_takes t more s found in
    let value : scalar s (front t more) ≡ v = cc in
    let after : more ≡ rest = cc in
    let is = sym (front_of t spelled more parts) in
    let here : Spells s (front t more) = subst (λ (x : Text). Spells s x) is spells in
    let made : ValueTook level t (scalar s (front t more)) more =
    record { is = here; parts = parts ∙ ap (λ (x : Text). x ++ more) is; fits = omega arith } in
    subst (λ (x : Text). ValueTook level t v x) after (subst (λ (y : Value). ValueTook level t y more) value made)

value_step : (n : ℕ) → TakesElements n → TakesPairs n → TakesValue (suc n)
unfolding value_from
value_step n elements pairs level at t v rest room e =
    elim (chosen (first t == 0x5B) _ _ (got v rest) e) [
      | inl (bracket, h) ↦
          let inner = elements_at n (suc level) (at + 1) false (drop 1 t) in
          let made = λ (p : Elements × (Bool × Text)). array p.0 p.1.0 p.1.1 in
          let (below, g) = inside_got ArrayOpen (codes "[") level at (changed made inner) v rest h in
          let (p, read, same) = changed_got made inner v rest g in
          let next : suc level ≤ nesting_limit = grind (arith, nat_tests) in
          subst (λ (y : Value). ValueTook level t y rest) same
          (array_made level t p.0 p.1.0 p.1.1 rest (starts t 0x5B bracket (omega arith)) (elements (suc level) (at
          + 1) false (drop 1 t) p.0 p.1.0 p.1.1 rest next (read ∙ refl)))
      | inr (other, h) ↦ elim (chosen (first t == 0x7B) _ _ (got v rest) h) [
        | inl (bracket, g) ↦
            let inner = pairs_at n (suc level) (at + 1) false (drop 1 t) in
            let made = λ (p : Pairs × (Bool × Text)). inline_table p.0 p.1.0 p.1.1 in
            let (below, f) = inside_got InlineTableOpen (codes "{") level at (changed made inner) v rest g in
            let (p, read, same) = changed_got made inner v rest f in
            let next : suc level ≤ nesting_limit = grind (arith, nat_tests) in
            subst (λ (y : Value). ValueTook level t y rest) same
            (inline_table_made level t p.0 p.1.0 p.1.1 rest (starts t 0x7B bracket (omega arith)) (pairs (suc level) (at
            + 1) false (drop 1 t) p.0 p.1.0 p.1.1 rest next (read ∙ refl)))
        | inr (neither, g) ↦ lone_made level t rest v (scalar_at t) room refl g
      ]
    ]

-- ---- elements

elements_none : (level : ℕ) (comma : Bool) (t w value : Text) → level ≤ nesting_limit → IsWholeTrivia w → t ≡ w ++ value → value ≡ 93
    ∷ drop 1 value → ElementsTook level comma t no_elements comma w (drop 1 value)
elements_none level comma t w value room whole parts bracket =
    record {
      are = tt;
      close = close_none comma w whole;
      parts = parts ∙ ap (λ (x : Text). w ++ x) bracket;
      fits = omega arith;
      none = λ _. refl;
    }

-- an element at the front: the text before it, the value, and the text after it
record ElementTook (level : ℕ) (t before : Text) (v : Value) (after rest : Text) : Type 0 where
  before_is : IsWholeTrivia before
  after_is : IsWholeTrivia after
  is : IsValue v
  parts : t ≡ before ++ (value_text v ++ (after ++ rest))
  fits : level + depth v ≤ nesting_limit

element_made : (level : ℕ) (t before value_front : Text) (v : Value) (after_value after more : Text) → IsWholeTrivia before → t ≡ before
    ++ value_front → ValueTook level value_front v after_value
    → IsWholeTrivia after → after_value ≡ after ++ more → ElementTook level t before v after more
element_made level t before value_front v after_value after more whole_before before_parts here whole_after after_parts =
    record {
      before_is = whole_before;
      after_is = whole_after;
      is = here.is;
      parts = before_parts ∙ ap (λ (x : Text). before ++ x) (here.parts ∙ ap (λ (x : Text). value_text v ++ x) after_parts);
      fits = here.fits;
    }

elements_last : (level : ℕ) (comma : Bool) (t before : Text) (v : Value) (after more : Text) → ElementTook level t before v after more
    → more ≡ 93 ∷ drop 1 more
    → ElementsTook level comma t (element (around before after) v no_elements) false [] (drop 1 more)
elements_last level comma t before v after more took bracket =
    record {
      are = (took.before_is, took.after_is, took.is, tt);
      close = (([], tt, refl), inr refl);
      parts = took.parts ∙ ap (λ (x : Text). before ++ (value_text v ++ (after ++ x))) bracket
          ∙ item_parts before (value_text v) after (93 ∷ drop 1 more);
      fits = omega (arith, took.fits);
      none = λ e. absurd (false≢true (sym e));
    }

elements_more : (level : ℕ) (comma : Bool) (t before : Text) (v : Value) (after more : Text) (es : Elements) (ends : Bool) (w rest : Text)
    → ElementTook level t before v after more → more ≡ 44 ∷ drop 1 more
    → ElementsTook level true (drop 1 more) es ends w rest → ElementsTook level comma t (element (around before after) v es) ends w rest
elements_more level comma t before v after more es ends w rest took sign later =
    record {
      are = (took.before_is, took.after_is, took.is, later.are);
      close = close_from_comma (has_elements es) ends w later.close;
      parts = took.parts ∙ ap (λ (x : Text). before ++ (value_text v ++ (after ++ x))) (sign ∙ ap (λ (x : Text). 44 ∷ x) later.parts)
          ∙ element_parts (around before after) v es ends (w ++ (93 ∷ rest)) later.none;
      fits = omega (arith, took.fits, later.fits);
      none = λ e. absurd (false≢true (sym e));
    }

elements_value : (n level at : ℕ) (comma : Bool) (t before value_front : Text) (es : Elements) (ends : Bool) (w rest : Text)
    → level ≤ nesting_limit → TakesValue n → TakesElements n → IsWholeTrivia before → t ≡ before ++ value_front
    → behind (event Before at before ∷ []) (follow (value_from n level (at + length before) value_front)
    (λ v after_value. follow (trivia_at after_value) (element_then n level (at + length before) before v))) ≡ got (es, (ends, w)) rest
    → ElementsTook level comma t es ends w rest
elements_value n level at comma t before value_front es ends w rest room value elements whole_before before_parts e =
    let (v, after_value, after, more, found, whole_after, after_parts, g) =
    value_then (event Before at before ∷ []) (value_from n level (at + length before) value_front) (element_then n level (at
    + length before) before) (es, (ends, w)) rest e in
    let took = element_made level t before value_front v after_value after more whole_before before_parts (value level (at
    + length before) value_front v after_value room found) whole_after after_parts in
    let next = at + length before + length (value_text v) + length after + 1 in
    item_then (λ (x : Elements) (b : Bool) (u r : Text). ElementsTook level comma t x b u r) 0x5D more (value_events (at + length before) v
    ++ event After (at + length before + length (value_text v)) after ∷ [])
    (elements_at n level next true (drop 1 more)) (λ (x : Elements). element (around before after) v x)
    (element (around before after) v no_elements) es ends w rest (omega arith)
    (λ bracket. elements_last level comma t before v after more took bracket)
    (λ sign p read. elements_more level comma t before v after more p.0 p.1.0 p.1.1 rest took sign
    (elements level next true (drop 1 more) p.0 p.1.0 p.1.1 rest room (read ∙ refl)))
    g

elements_step : (n : ℕ) → TakesValue n → TakesElements n → TakesElements (suc n)
unfolding value_from
elements_step n value elements level at comma t es ends w rest room e =
    let (before, value_front, leads, h) = follow_got (trivia_at t) _ (es, (ends, w)) rest e in
    let (whole_before, before_parts) = trivia_takes t before value_front leads in
    elim (chosen (first value_front == 0x5D) _ _ (got (es, (ends, w)) rest) h) [
      | inl (bracket, g) ↦
          let (same, after) = same_got (no_elements, (comma, before)) (es, (ends, w)) (drop 1 value_front) rest g in
          subst (λ (x : Text). ElementsTook level comma t es ends w x) after
          (subst (λ (y : Elements × (Bool × Text)). ElementsTook level comma t y.0 y.1.0 y.1.1 (drop 1 value_front)) same
          (elements_none level comma t before value_front room whole_before before_parts (starts value_front 0x5D bracket (omega arith))))
      | inr (goes, g) ↦ elements_value n level at comma t before value_front es ends w rest room value elements whole_before before_parts g
    ]

-- ---- pairs

pairs_none : (level : ℕ) (comma : Bool) (t w key : Text) → level ≤ nesting_limit → IsWholeTrivia w → t ≡ w ++ key → key ≡ 125 ∷ drop 1 key
    → PairsTook level comma t no_pairs comma w (drop 1 key)
pairs_none level comma t w key room whole parts bracket =
    record {
      are = tt;
      close = close_none comma w whole;
      parts = parts ∙ ap (λ (x : Text). w ++ x) bracket;
      fits = omega arith;
      none = λ _. refl;
    }

-- a pair at the front
record PairTook (level : ℕ) (t : Text) (f : Frame) (v : Value) (after rest : Text) : Type 0 where
  frame_is : IsFrame IsWholeTrivia (followed_by f after)
  is : IsValue v
  parts : t ≡ frame_text (followed_by f after) (value_text v) ++ rest
  fits : level + depth v ≤ nesting_limit

pub pair_parts : (f : Frame) (v after rest : Text) → head_text f ++ (v ++ (after ++ rest)) ≡ frame_text (followed_by f after) v ++ rest
pair_parts f v after rest = spread f.leading (path_text f.path) f.before_equals f.after_equals v after rest
  where
    spread : (a b c d v after rest : Text) → (a ++ (b ++ (c ++ (61 ∷ d)))) ++ (v ++ (after ++ rest))
        ≡ (a ++ (b ++ (c ++ (61 ∷ (d ++ (v ++ after)))))) ++ rest
    spread a b c d v after rest = simp append_assoc

pair_made : (level : ℕ) (t leading key value behind_value after more : Text) (f : Frame) (v : Value) → t ≡ leading ++ key
    → FrameTook leading key f value
    → ValueTook level value v behind_value → IsWholeTrivia after → behind_value ≡ after ++ more → PairTook level t f v after more
pair_made level t leading key value behind_value after more f v parts frame here whole after_parts =
    let spaced = frame.is.0 in
    record {
      frame_is = (
        record {
          leading = spaced.leading;
          segments = spaced.segments;
          before_equals = spaced.before_equals;
          after_equals =
              spaced.after_equals;
          trailing = whole;
        },
        frame.is.1,
      );
      is = here.is;
      parts = parts ∙ frame.parts ∙ ap (λ (x : Text). head_text f ++ x) (here.parts ∙ ap (λ (x : Text). value_text v ++ x) after_parts)
          ∙ pair_parts f (value_text v) after more;
      fits = here.fits;
    }

comma_then : (items frame rest : Text) → frame ++ (44 ∷ (items ++ rest)) ≡ (frame ++ (44 ∷ items)) ++ rest
comma_then items frame rest = simp append_assoc

-- a pair before others, up to the closing bracket
pub pairs_parts : (f : Frame) (v : Value) (ps : Pairs) (ends : Bool) (tail : Text) → (has_pairs ps ≡ false → ends ≡ true)
    → frame_text f (value_text v) ++ (44 ∷ (pairs_text ps ++ (comma_text (has_pairs ps && ends) ++ tail)))
    ≡ pairs_text (pair f v ps) ++ (comma_text ends ++ tail)
pairs_parts f v no_pairs ends tail none = rw (none refl) refl
pairs_parts f v (pair g u ps) ends tail none = comma_then (pairs_text (pair g u ps)) (frame_text f (value_text v)) (comma_text ends ++ tail)

pairs_last : (level : ℕ) (comma : Bool) (t : Text) (f : Frame) (v : Value) (after more : Text) → PairTook level t f v after more → more
    ≡ 125 ∷ drop 1 more
    → PairsTook level comma t (pair (followed_by f after) v no_pairs) false [] (drop 1 more)
pairs_last level comma t f v after more took bracket =
    record {
      are = (took.frame_is, took.is, tt);
      close = (([], tt, refl), inr refl);
      parts = took.parts ∙ ap (λ (x : Text). frame_text (followed_by f after) (value_text v) ++ x) bracket;
      fits = omega (arith, took.fits);
      none = λ e. absurd (false≢true (sym e));
    }

pairs_more : (level : ℕ) (comma : Bool) (t : Text) (f : Frame) (v : Value) (after more : Text) (ps : Pairs) (ends : Bool) (w rest : Text)
    → PairTook level t f v after more → more ≡ 44 ∷ drop 1 more
    → PairsTook level true (drop 1 more) ps ends w rest → PairsTook level comma t (pair (followed_by f after) v ps) ends w rest
pairs_more level comma t f v after more ps ends w rest took sign later =
    record {
      are = (took.frame_is, took.is, later.are);
      close = close_from_comma (has_pairs ps) ends w later.close;
      parts = took.parts ∙ ap (λ (x : Text). frame_text (followed_by f after) (value_text v) ++ x) (sign
          ∙ ap (λ (x : Text). 44 ∷ x) later.parts) ∙ pairs_parts (followed_by f after) v ps ends (w ++ (125 ∷ rest)) later.none;
      fits = omega (arith, took.fits, later.fits);
      none = λ e. absurd (false≢true (sym e));
    }

pairs_value : (n level at start : ℕ) (comma : Bool) (t leading key value_front : Text) (f : Frame) (ps : Pairs) (ends : Bool)
    (w rest : Text) → level ≤ nesting_limit → TakesValue n → TakesPairs n
    → t ≡ leading ++ key → FrameTook leading key f value_front
    → behind (frame_events at f) (follow (value_from n level start value_front)
    (λ v after_value. follow (trivia_at after_value) (pair_then n level start f v))) ≡ got (ps, (ends, w)) rest
    → PairsTook level comma t ps ends w rest
pairs_value n level at start comma t leading key value_front f ps ends w rest room value pairs parts frame e =
    let (v, after_value, after, more, found, whole_after, after_parts, g) =
    value_then (frame_events at f) (value_from n level start value_front) (pair_then n level start f) (ps, (ends, w)) rest e in
    let took = pair_made level t leading key value_front after_value after more f v parts frame
    (value level start value_front v after_value room found) whole_after after_parts in
    let next = start + length (value_text v) + length after + 1 in
    item_then (λ (x : Pairs) (b : Bool) (u r : Text). PairsTook level comma t x b u r) 0x7D more (value_events start v
    ++ event After (start + length (value_text v)) after ∷ [])
    (pairs_at n level next true (drop 1 more)) (λ (x : Pairs). pair (followed_by f after) v x) (pair (followed_by f after) v no_pairs) ps
    ends w rest (omega arith)
    (λ bracket. pairs_last level comma t f v after more took bracket)
    (λ sign p read. pairs_more level comma t f v after more p.0 p.1.0 p.1.1 rest took sign
    (pairs level next true (drop 1 more) p.0 p.1.0 p.1.1 rest room (read ∙ refl)))
    g

pairs_frame : (n level at : ℕ) (comma : Bool) (t leading key : Text) (ps : Pairs) (ends : Bool) (w rest : Text) → level ≤ nesting_limit
    → TakesValue n → TakesPairs n → IsWholeTrivia leading → t ≡ leading ++ key
    → follow (frame_at leading key) (frame_then n level at leading key) ≡ got (ps, (ends, w)) rest
    → PairsTook level comma t ps ends w rest
pairs_frame n level at comma t leading key ps ends w rest room value pairs whole parts e =
    let (f, value_front, framed, g) = follow_got (frame_at leading key) (frame_then n level at leading key) (ps, (ends, w)) rest e in
    pairs_value n level at (at + (length key + length leading) - length value_front) comma t leading key value_front f ps ends w rest room
    value pairs parts (frame_takes leading key value_front f whole framed) g

pairs_step : (n : ℕ) → TakesValue n → TakesPairs n → TakesPairs (suc n)
unfolding value_from
pairs_step n value pairs level at comma t ps ends w rest room e =
    let (leading, key, leads, h) = follow_got (trivia_at t) _ (ps, (ends, w)) rest e in
    let (whole, leading_parts) = trivia_takes t leading key leads in
    elim (chosen (first key == 0x7D) _ _ (got (ps, (ends, w)) rest) h) [
      | inl (bracket, g) ↦
          let (same, after) = same_got (no_pairs, (comma, leading)) (ps, (ends, w)) (drop 1 key) rest g in
          subst (λ (x : Text). PairsTook level comma t ps ends w x) after
          (subst (λ (y : Pairs × (Bool × Text)). PairsTook level comma t y.0 y.1.0 y.1.1 (drop 1 key)) same
          (pairs_none level comma t leading key room whole leading_parts (starts key 0x7D bracket (omega arith))))
      | inr (goes, g) ↦ pairs_frame n level at comma t leading key ps ends w rest room value pairs whole leading_parts g
    ]

-- ---- all of them

not_got : {A : Type 0} (a : A) (t : Text) → wrong ≡ got a t → ⊥
not_got a t e = absurd cc

mutual
  unfolding value_from

  pub value_takes : (n : ℕ) → TakesValue n
  value_takes zero = λ level at t v rest room e. absurd (not_got v rest e)
  value_takes (suc n) = value_step n (elements_take n) (pairs_take n)

  pub elements_take : (n : ℕ) → TakesElements n
  elements_take zero = λ level at comma t es ends w rest room e. absurd (not_got (es, (ends, w)) rest e)
  elements_take (suc n) = elements_step n (value_takes n) (elements_take n)

  pub pairs_take : (n : ℕ) → TakesPairs n
  pairs_take zero = λ level at comma t ps ends w rest room e. absurd (not_got (ps, (ends, w)) rest e)
  pairs_take (suc n) = pairs_step n (value_takes n) (pairs_take n)
