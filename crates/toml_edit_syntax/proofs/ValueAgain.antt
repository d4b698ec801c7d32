-- A value is read again, up to a bracket that is one too many.
use Rattle.std.proofs.Common.{◌≡◌, ℕ, zero, suc, ◌+◌, ◌-◌, ◌*◌, ◌<◌, ◌≤◌, Bool, true, false, ◌==◌, ◌&&◌, ◌||◌, List, [], ◌∷◌, ◌++◌, length}
use Rattle.std.proofs.Common.{refl, sym, ap, subst, ◌∙◌, inl, inr, arith, append_assoc, codes}
use Rattle.std.specs.Prelude.{max}
use Rattle.std.proofs.lemmas.Bool.{false≢true}
use Rattle.std.proofs.lemmas.Bool.Decides.{eqb_tells, nat_tests}
use Rattle.std.proofs.lemmas.List.{length-append}
use Rattle.toml_edit_model.specs.Text.{Text}
use Rattle.toml_edit_model.specs.Trivia.{is_blank, IsWholeTrivia}
use Rattle.toml_edit_model.specs.Scalars.{Scalar}
use Rattle.toml_edit_model.specs.Spelling.{Spells}
use Rattle.toml_edit_model.specs.Syntax.{Around, Frame, Value, scalar, array, inline_table, Elements, no_elements, element, Pairs, no_pairs}
use Rattle.toml_edit_model.specs.Syntax.{pair, path_text, frame_text, comma_text, value_text, elements_text, pairs_text, IsFrame, IsClose}
use Rattle.toml_edit_model.specs.Syntax.{has_elements, has_pairs, IsValue, AreElements, ArePairs, depth, elements_depth, pairs_depth}
use Rattle.toml_edit_model.specs.Syntax.{nesting_limit}
use Rattle.toml_edit_syntax.specs.declared.event.EventKind.TheVariants.{ArrayOpen, ArrayClose, InlineTableOpen, InlineTableClose, Before}
use Rattle.toml_edit_syntax.specs.declared.event.EventKind.TheVariants.{After}
use Rattle.toml_edit_syntax.specs.declared.event.Event.{Event}
use Rattle.toml_edit_laws.specs.reading.Runs.{first}
use Rattle.toml_edit_laws.specs.reading.ScalarReading.{is_stop, ends_scalar}
use Rattle.toml_edit_syntax.specs.ValueEvents.{event, opens, frame_events, value_at_byte, close_events, value_events, elements_events}
use Rattle.toml_edit_syntax.specs.ValueEvents.{pairs_events, shortened}
use Rattle.toml_edit_syntax.specs.ValueReading.{Reading, got, deep, follow, changed, behind, trivia_at, frame_at, value_from, elements_at}
use Rattle.toml_edit_syntax.specs.ValueReading.{pairs_at}
use Rattle.toml_edit_laws.proofs.reading.Begins.{scalar_begins, begins_not}
use Rattle.toml_edit_laws.proofs.reading.TokenLaws.{scalar_again}
use Rattle.toml_edit_laws.proofs.one_cut.Parts.{ends_trivia}
use Rattle.toml_edit_syntax.proofs.ScanningLaws.{front_is}
use Rattle.toml_edit_syntax.proofs.ReadingSteps.{stops_trivia, trivia_again}
use Rattle.toml_edit_syntax.proofs.PathLaws.{behind_trivia, frame_again, path_begins}
use Rattle.toml_edit_syntax.proofs.ShortenedLaws.{Stays, Stops, stays_frame, value_stays, value_stops, elements_stop, pairs_stop, list_full}
use Rattle.toml_edit_syntax.proofs.ShortenedLaws.{Fits, Exceeds, cases_fits}
use Rattle.toml_edit_syntax.proofs.ValueTakes.{followed_by, element_then, pair_then, frame_then, closed_parts, item_parts, element_parts}
use Rattle.toml_edit_syntax.proofs.ValueTakes.{pairs_parts}
use Rattle.toml_edit_syntax.proofs.Outcomes.{value_begins, value_begins_not, trivia_before_value, outcome, changed_outcome, behind_outcome}
use Rattle.toml_edit_syntax.proofs.Outcomes.{has_room, has_room_true, has_room_false, no_room, room_later, room_here, ReadsValue}
use Rattle.toml_edit_syntax.proofs.Outcomes.{close_text, ReadsElements, ReadsPairs}

-- ---- values

scalar_reads : (n : ℕ) (s : Scalar) (t : Text) (level at : ℕ) (rest : Text) → Spells s t → ends_scalar rest ≡ true
    → value_from (suc n) level at (t ++ rest) ≡ got (scalar s t) rest
unfolding value_from
scalar_reads n s t level at rest is stop =
    let no_array = begins_not (λ c. c == 0x5B) t rest (λ c h. grind (arith, nat_tests)) (scalar_begins s t is) in
    let no_table = begins_not (λ c. c == 0x7B) t rest (λ c h. grind (arith, nat_tests)) (scalar_begins s t is) in
    rw (no_array, no_table, scalar_again s t rest is stop, front_is t rest) refl

has_or : (has : Bool) → (has || false) ≡ has
has_or true = refl
has_or false = refl

has_and : (has ends : Bool) (w : Text) → IsClose has ends w → (has && ends) ≡ ends
has_and true ends w close = refl
has_and false true w (whole, has) = absurd (false≢true has)
has_and false false w close = refl

none_of : (has ends : Bool) (w : Text) → IsClose has ends w → has ≡ false → ends ≡ false
none_of has true w (whole, is) e = absurd (false≢true (sym e ∙ is))
none_of has false w close e = refl

array_full : (n level at : ℕ) (t : Text) → (level == nesting_limit) ≡ true → value_from (suc n) level at (91 ∷ t)
    ≡ deep (shortened level (event ArrayOpen at (codes "[") ∷ []))
unfolding value_from
array_full n level at t full = rw full refl

array_open : (n level at : ℕ) (t : Text) → (level == nesting_limit) ≡ false
    → value_from (suc n) level at (91 ∷ t) ≡ behind (event ArrayOpen at (codes "[")
    ∷ []) (changed (λ (p : Elements × (Bool × Text)). array p.0 p.1.0 p.1.1) (elements_at n (suc level) (at + 1) false t))
unfolding value_from
array_open n level at t room = rw room refl

inline_table_full : (n level at : ℕ) (t : Text) → (level == nesting_limit) ≡ true → value_from (suc n) level at (123 ∷ t)
    ≡ deep (shortened level (event InlineTableOpen at (codes "{") ∷ []))
unfolding value_from
inline_table_full n level at t full = rw full refl

inline_table_open : (n level at : ℕ) (t : Text) → (level == nesting_limit) ≡ false
    → value_from (suc n) level at (123 ∷ t) ≡ behind (event InlineTableOpen at (codes "{")
    ∷ []) (changed (λ (p : Pairs × (Bool × Text)). inline_table p.0 p.1.0 p.1.1) (pairs_at n (suc level) (at + 1) false t))
unfolding value_from
inline_table_open n level at t room = rw room refl

pub outcome_same : {A : Type 0} (fits : Bool) (a : A) (rest : Text) (es more : List Event) → (fits ≡ false → es ≡ more)
    → outcome fits a rest es ≡ outcome fits a rest more
outcome_same true a rest es more h = refl
outcome_same false a rest es more h = ap deep (h refl)

deeper : (level d : ℕ) → (level ≡ nesting_limit → ⊥) → has_room (suc level) d ≡ has_room level (suc d)
deeper level d apart =
    elim (cases_fits level (suc d)) [
      | inl big ↦ has_room_false (suc level) d (omega (arith, big.0, apart), omega (arith, big.1)) ∙ sym (has_room_false level (suc d) big)
      | inr fits ↦ has_room_true (suc level) d (λ below. omega (arith, fits (omega arith))) ∙ sym (has_room_true level (suc d) fits)
    ]

-- the events of a list, up to a bracket that is one too many
cut_inside : (level : ℕ) (o : Event) (inner ends : List Event) (d : ℕ) → opens o.kind ≡ true → (level == nesting_limit) ≡ false
    → (Exceeds (suc level) d → Stops (suc level) inner)
    → has_room (suc level) d ≡ false → o ∷ shortened (suc level) inner ≡ shortened level (o ∷ (inner ++ ends))
cut_inside level o inner ends d opening room stops none =
    rw (opening, room) (ap (λ (x : List Event). o ∷ x) (sym (stops (no_room (suc level) d none) ends)))

array_reads : (n : ℕ) → ReadsElements n → (es : Elements) (ends : Bool) (w : Text) (level at : ℕ) (rest : Text) → IsValue (array es ends w)
    → 2 * length (value_text (array es ends w) ++ rest) ≤ suc n
    → value_from (suc n) level at (value_text (array es ends w) ++ rest)
    ≡ outcome (has_room level (depth (array es ends w))) (array es ends w) rest (shortened level (value_events at (array es ends w)))
array_reads n elements es ends w level at rest (close, are) bound =
    let t = elements_text es ++ close_text (has_elements es) ends w 93 rest in
    let d = elements_depth es in
    let has = has_elements es in
    let o = event ArrayOpen at (codes "[") in
    let inner = elements_events (at + 1) es in
    let last = close_events ArrayClose (codes "]") (at + length (value_text (array es ends w)) - 1) ends w in
    let same : value_text (array es ends w) ++ rest ≡ 91 ∷ t =
    ap (λ (x : Text). 91 ∷ x) (sym (closed_parts (elements_text es) (comma_text ends) w 93 rest)
    ∙ ap (λ (b : Bool). elements_text es ++ (comma_text b ++ (w ++ (93 ∷ rest)))) (sym (has_and has ends w close))) in
    ap (value_from (suc n) level at) same ∙ elim (eqb_tells level nesting_limit) [
      | inl (full, is) ↦
          array_full n level at t full ∙ ap deep (sym (list_full level o [] refl full (inner ++ last)))
          ∙ ap (λ (b : Bool). outcome b (array es ends w) rest (shortened level (o ∷ (inner ++ last))))
          (sym (has_room_false level (suc d) (omega arith, omega arith)))
      | inr (below, apart) ↦
          let read = elements es (suc level) (at + 1) false ends w rest are
          (subst (λ (b : Bool). IsClose b ends w) (sym (has_or has)) close) (none_of has ends w close) (omega (
            arith,
            ap length same,
          )) in
          let made = λ (p : Elements × (Bool × Text)). array p.0 p.1.0 p.1.1 in
          array_open n level at t below
          ∙ ap (λ (r : Reading (Elements × (Bool × Text))). behind (o ∷ []) (changed made r)) read
          ∙ ap (behind (o ∷ [])) (changed_outcome made (has_room (suc level) d) (es, (ends, w)) rest (shortened (suc level) inner))
          ∙ behind_outcome (o ∷ []) (has_room (suc level) d) (array es ends w) rest (shortened (suc level) inner)
          ∙ outcome_same (has_room (suc level) d) (array es ends w) rest (o
          ∷ shortened (suc level) inner) (shortened level (o ∷ (inner ++ last)))
          (λ none. cut_inside level o inner last d refl below (λ big. elements_stop es (suc level) (at + 1) big.0 big.1) none)
          ∙ ap (λ (b : Bool). outcome b (array es ends w) rest (shortened level (o ∷ (inner ++ last)))) (deeper level d apart)
    ]

inline_table_reads : (n : ℕ) → ReadsPairs n → (ps : Pairs) (ends : Bool) (w : Text) (level at : ℕ) (rest : Text)
    → IsValue (inline_table ps ends w) → 2 * length (value_text (inline_table ps ends w) ++ rest) ≤ suc n
    → value_from (suc n) level at (value_text (inline_table ps ends w) ++ rest)
    ≡ outcome (has_room level (depth (inline_table ps ends w))) (inline_table ps ends w) rest
    (shortened level (value_events at (inline_table ps ends w)))
inline_table_reads n pairs ps ends w level at rest (close, are) bound =
    let t = pairs_text ps ++ close_text (has_pairs ps) ends w 125 rest in
    let d = pairs_depth ps in
    let has = has_pairs ps in
    let o = event InlineTableOpen at (codes "{") in
    let inner = pairs_events (at + 1) ps in
    let last = close_events InlineTableClose (codes "}") (at + length (value_text (inline_table ps ends w)) - 1) ends w in
    let same : value_text (inline_table ps ends w) ++ rest ≡ 123 ∷ t =
    ap (λ (x : Text). 123 ∷ x) (sym (closed_parts (pairs_text ps) (comma_text ends) w 125 rest)
    ∙ ap (λ (b : Bool). pairs_text ps ++ (comma_text b ++ (w ++ (125 ∷ rest)))) (sym (has_and has ends w close))) in
    ap (value_from (suc n) level at) same ∙ elim (eqb_tells level nesting_limit) [
      | inl (full, is) ↦
          inline_table_full n level at t full ∙ ap deep (sym (list_full level o [] refl full (inner ++ last)))
          ∙ ap (λ (b : Bool). outcome b (inline_table ps ends w) rest (shortened level (o ∷ (inner ++ last))))
          (sym (has_room_false level (suc d) (omega arith, omega arith)))
      | inr (below, apart) ↦
          let read = pairs ps (suc level) (at + 1) false ends w rest are (subst (λ (b : Bool). IsClose b ends w) (sym (has_or has)) close)
          (none_of has ends w close) (omega (arith, ap length same)) in
          let made = λ (p : Pairs × (Bool × Text)). inline_table p.0 p.1.0 p.1.1 in
          inline_table_open n level at t below
          ∙ ap (λ (r : Reading (Pairs × (Bool × Text))). behind (o ∷ []) (changed made r)) read
          ∙ ap (behind (o ∷ [])) (changed_outcome made (has_room (suc level) d) (ps, (ends, w)) rest (shortened (suc level) inner))
          ∙ behind_outcome (o ∷ []) (has_room (suc level) d) (inline_table ps ends w) rest (shortened (suc level) inner)
          ∙ outcome_same (has_room (suc level) d) (inline_table ps ends w) rest (o
          ∷ shortened (suc level) inner) (shortened level (o ∷ (inner ++ last)))
          (λ none. cut_inside level o inner last d refl below (λ big. pairs_stop ps (suc level) (at + 1) big.0 big.1) none)
          ∙ ap (λ (b : Bool). outcome b (inline_table ps ends w) rest (shortened level (o ∷ (inner ++ last)))) (deeper level d apart)
    ]

-- ---- an item of a list

-- a value that is read, and the trivia behind it
item_got : {A : Type 0} (head : List Event) (r : Reading Value) (next : Value → Text → Text
    → Reading A) (v : Value) (after more : Text) (c : ℕ) (cs : Text) → IsWholeTrivia after → more ≡ c ∷ cs → stops_trivia c ≡ true
    → r ≡ got v (after ++ more) → behind head (follow r (λ v after_value. follow (trivia_at after_value) (next v)))
    ≡ behind head (next v after more)
item_got head r next v after more c cs whole starts stops e =
    ap (λ (x : Reading Value). behind head (follow x (λ v after_value. follow (trivia_at after_value) (next v)))) e
    ∙ ap (λ (x : Reading Text). behind head (follow x (next v))) (trivia_again after more c cs whole starts stops)

-- what comes of an item, from what comes of the rest of the list
item_outcome : {A : Type 0} (head : List Event) (r : Reading Value) (next : Value → Text → Text
    → Reading A) (level start d : ℕ) (v : Value) (after more : Text) (c : ℕ) (cs : Text) (a : A) (rest : Text) (e : Event)
    (later : List Event)
    → Stays level head → IsWholeTrivia after → more ≡ c ∷ cs → stops_trivia c ≡ true → e.kind ≡ After
    → r ≡ outcome (has_room level (depth v)) v (after ++ more) (shortened level (value_events start v))
    → (Fits level (depth v) → next v after more ≡ outcome (has_room level d) a rest (value_events start v ++ (e ∷ shortened level later)))
    → behind head (follow r (λ v after_value. follow (trivia_at after_value) (next v)))
    ≡ outcome (has_room level (max (depth v) d)) a rest (shortened level (head ++ (value_events start v ++ (e ∷ later))))
item_outcome head r next level start d v after more c cs a rest e later stays whole starts stops plain read goes =
    let vs = value_events start v in
    let all = head ++ (vs ++ (e ∷ later)) in
    elim (cases_fits level (depth v)) [
      | inl big ↦
          let none : has_room level (depth v) ≡ false = has_room_false level (depth v) big in
          let events : head ++ shortened level vs ≡ shortened level all =
          ap (λ (x : List Event). head ++ x) (sym (value_stops v level start big.0 big.1 (e ∷ later)))
          ∙ sym (stays (vs ++ (e ∷ later))) in
          ap (λ (x : Reading Value). behind head (follow x (λ v after_value. follow (trivia_at after_value) (next v)))) (read
          ∙ ap (λ (b : Bool). outcome b v (after ++ more) (shortened level vs)) none)
          ∙ ap deep events ∙ ap (λ (b : Bool). outcome b a rest (shortened level all)) (sym (room_here level (depth v) d big))
      | inr fits ↦
          let some : has_room level (depth v) ≡ true = has_room_true level (depth v) fits in
          let plain_event : shortened level (e ∷ later) ≡ e ∷ shortened level later = rw plain refl in
          let events : head ++ (vs ++ (e ∷ shortened level later)) ≡ shortened level all =
          ap (λ (x : List Event). head ++ (vs ++ x)) (sym plain_event)
          ∙ ap (λ (x : List Event). head ++ x) (sym (value_stays v level start fits (e ∷ later))) ∙ sym (stays (vs ++ (e ∷ later))) in
          item_got head r next v after more c cs whole starts stops (read
          ∙ ap (λ (b : Bool). outcome b v (after ++ more) (shortened level vs)) some)
          ∙ ap (behind head) (goes fits)
          ∙ behind_outcome head (has_room level d) a rest (vs ++ (e ∷ shortened level later))
          ∙ ap (outcome (has_room level d) a rest) events
          ∙ ap (λ (b : Bool). outcome b a rest (shortened level all)) (room_later level (depth v) d fits)
    ]

-- ---- elements

elements_open : (n level at : ℕ) (comma : Bool) (before t : Text) → trivia_at (before ++ t) ≡ got before t → (first t == 0x5D) ≡ false
    → elements_at (suc n) level at comma (before ++ t)
    ≡ behind (event Before at before ∷ []) (follow (value_from n level (at + length before) t)
    (λ v after_value. follow (trivia_at after_value) (element_then n level (at + length before) before v)))
unfolding value_from
elements_open n level at comma before t e none = rw (e, none) refl

elements_end : (n level at : ℕ) (comma : Bool) (w rest : Text) → IsWholeTrivia w → elements_at (suc n) level at comma (w ++ (93 ∷ rest))
    ≡ got (no_elements, (comma, w)) rest
unfolding value_from
elements_end n level at comma w rest whole = rw (trivia_again w (93 ∷ rest) 93 rest whole refl refl) refl

-- an element whose value is read, before this
element_reads : (n : ℕ) → ReadsValue n → (a : Around) (v : Value) (es : Elements) (level at : ℕ) (comma ends : Bool) (w more : Text) (c : ℕ)
    (cs rest : Text)
    → IsWholeTrivia a.before → IsWholeTrivia a.after → IsValue v → more ≡ c ∷ cs → stops_trivia c ≡ true → is_stop c ≡ true
    → 2 * length (a.before ++ (value_text v ++ (a.after ++ more))) < suc n
    → (Fits level (depth v) → element_then n level (at + length a.before) a.before v a.after more
    ≡ outcome (has_room level (elements_depth es)) (element a v es, (ends, w)) rest
    (value_events (at + length a.before) v ++ (event After (at + length a.before + length (value_text v)) a.after
    ∷ shortened level (elements_events (at + length a.before + length (value_text v) + length a.after + 1) es))))
    → elements_at (suc n) level at comma (a.before ++ (value_text v ++ (a.after ++ more)))
    ≡ outcome (has_room level (elements_depth (element a v es))) (
      element a v es,
      (ends, w),
    ) rest (shortened level (elements_events at (element a v es)))
element_reads n values a v es level at comma ends w more c cs rest before after is starts stops stop bound goes =
    let start = at + length a.before in
    let end = start + length (value_text v) in
    let begins = value_begins v is in
    let t = value_text v ++ (a.after ++ more) in
    let no_end = value_begins_not (λ c. c == 0x5D) (value_text v) (a.after ++ more) (λ c h. grind (arith, nat_tests)) begins in
    let no_blank : is_blank c ≡ false = grind (arith, nat_tests) in
    let more_ends : ends_scalar more ≡ true = ap ends_scalar starts ∙ rw no_blank stop in
    let read = values v level start (a.after ++ more) is (ends_trivia a.after more after more_ends) (omega (
      arith,
      length-append a.before t,
    )) in
    elements_open n level at comma a.before t (trivia_before_value a.before (value_text v) (a.after ++ more) before begins) no_end
    ∙ item_outcome (event Before at a.before ∷ []) (value_from n level start t) (element_then n level start a.before) level start
    (elements_depth es) v a.after more c cs (element a v es, (ends, w)) rest
    (event After end a.after) (elements_events (end + length a.after + 1) es) (λ m. refl) after starts stops refl read goes

-- the last element without a comma
element_last : (n : ℕ) → ReadsValue n → (a : Around) (v : Value) (level at : ℕ) (comma : Bool) (rest : Text)
    → IsWholeTrivia a.before → IsWholeTrivia a.after → IsValue v
    → 2 * length (a.before ++ (value_text v ++ (a.after ++ (93 ∷ rest)))) < suc n
    → elements_at (suc n) level at comma (a.before ++ (value_text v ++ (a.after ++ (93 ∷ rest))))
    ≡ outcome (has_room level (elements_depth (element a v no_elements))) (
      element a v no_elements,
      (false, []),
    ) rest (shortened level (elements_events at (element a v no_elements)))
element_last n values a v level at comma rest before after is bound =
    let some : has_room level 0 ≡ true = has_room_true level 0 (λ below. omega arith) in
    let start = at + length a.before in
    element_reads n values a v no_elements level at comma false [] (93 ∷ rest) 93 rest rest before after is refl refl refl bound
    (λ fits. ap (λ (b : Bool). outcome b (element a v no_elements, (false, [])) rest (value_events start v
    ++ (event After (start + length (value_text v)) a.after ∷ []))) (sym some))

regroup_events : (vs : List Event) (e : Event) (later : List Event) → (vs ++ (e ∷ [])) ++ later ≡ vs ++ (e ∷ later)
regroup_events vs e later = append_assoc vs (e ∷ []) later

-- an element before a comma
element_more : (n : ℕ) → ReadsValue n → ReadsElements n
    → (a : Around) (v : Value) (es : Elements) (level at : ℕ) (comma ends : Bool) (w rest : Text)
    → IsWholeTrivia a.before → IsWholeTrivia a.after → IsValue v → AreElements es → IsClose (has_elements es || true) ends w
    → (has_elements es ≡ false → ends ≡ true)
    → 2 * length (a.before ++ (value_text v ++ (a.after ++ (44 ∷ (elements_text es ++ close_text (has_elements es) ends w 93 rest))))) < suc
    n
    → elements_at (suc n) level at comma (a.before ++ (value_text v
    ++ (a.after ++ (44 ∷ (elements_text es ++ close_text (has_elements es) ends w 93 rest)))))
    ≡ outcome (has_room level (elements_depth (element a v es))) (
      element a v es,
      (ends, w),
    ) rest (shortened level (elements_events at (element a v es)))
element_more n values elements a v es level at comma ends w rest before after is are close none bound =
    let t = elements_text es ++ close_text (has_elements es) ends w 93 rest in
    let start = at + length a.before in
    let end = start + length (value_text v) in
    let next = end + length a.after + 1 in
    let d = has_room level (elements_depth es) in
    let vs = value_events start v in
    let later = shortened level (elements_events next es) in
    let add : Elements × (Bool × Text) → Elements × (Bool × Text) = λ p. (element a v p.0, p.1) in
    let inner : 2 * length t < n =
    omega (
      arith,
      length-append a.before (value_text v ++ (a.after ++ (44 ∷ t))),
      length-append (value_text v) (a.after ++ (44 ∷ t)),
      length-append a.after (44 ∷ t),
    ) in
    element_reads n values a v es level at comma ends w (44 ∷ t) 44 t rest before after is refl refl refl bound
    (λ fits.
    ap (λ (r : Reading (Elements × (Bool × Text))). behind (vs ++ event After end a.after ∷ []) (changed add r))
    (elements es level next true ends w rest are close none inner)
    ∙ ap (behind (vs ++ event After end a.after ∷ [])) (changed_outcome add d (es, (ends, w)) rest later)
    ∙ behind_outcome (vs ++ event After end a.after ∷ []) d (element a v es, (ends, w)) rest later
    ∙ ap (outcome d (element a v es, (ends, w)) rest) (regroup_events vs (event After end a.after) later))

-- ---- pairs

pairs_open : (n level at : ℕ) (comma : Bool) (leading key : Text) (f : Frame) (t : Text) → trivia_at (leading ++ key) ≡ got leading key
    → (first key == 0x7D) ≡ false → frame_at leading key ≡ got f t
    → pairs_at (suc n) level at comma (leading ++ key) ≡ frame_then n level at leading key f t
unfolding value_from
pairs_open n level at comma leading key f t e none framed = rw (e, none, framed) refl

pairs_end : (n level at : ℕ) (comma : Bool) (w rest : Text) → IsWholeTrivia w → pairs_at (suc n) level at comma (w ++ (125 ∷ rest))
    ≡ got (no_pairs, (comma, w)) rest
unfolding value_from
pairs_end n level at comma w rest whole = rw (trivia_again w (125 ∷ rest) 125 rest whole refl refl) refl

-- where the value of a pair begins
pub value_place : (at : ℕ) (f : Frame) (t : Text) → at + (length (behind_trivia f t) + length f.leading) - length t ≡ value_at_byte at f
value_place at f t =
    omega (
      arith,
      length-append (path_text f.path) (f.before_equals ++ (61 ∷ (f.after_equals ++ t))),
      length-append f.before_equals (61 ∷ (f.after_equals ++ t)),
      length-append f.after_equals t,
    )

-- a pair whose value is read, before this
pair_reads : (n : ℕ) → ReadsValue n → (f : Frame) (v : Value) (ps : Pairs) (level at : ℕ) (comma ends : Bool) (w more : Text) (c : ℕ)
    (cs rest : Text)
    → IsFrame IsWholeTrivia f → IsValue v → more ≡ c ∷ cs → stops_trivia c ≡ true → is_stop c ≡ true
    → 2 * length (f.leading ++ behind_trivia f (value_text v ++ (f.trailing ++ more))) < suc n
    → (Fits level (depth v) → pair_then n level (value_at_byte at f) (followed_by f []) v f.trailing more
    ≡ outcome (has_room level (pairs_depth ps)) (pair f v ps, (ends, w)) rest
    (value_events (value_at_byte at f) v ++ (event After (value_at_byte at f + length (value_text v)) f.trailing
    ∷ shortened level (pairs_events (value_at_byte at f + length (value_text v) + length f.trailing + 1) ps))))
    → pairs_at (suc n) level at comma (f.leading ++ behind_trivia f (value_text v ++ (f.trailing ++ more)))
    ≡ outcome (has_room level (pairs_depth (pair f v ps))) (
      pair f v ps,
      (ends, w),
    ) rest (shortened level (pairs_events at (pair f v ps)))
pair_reads n values f v ps level at comma ends w more c cs rest frame is starts stops stop bound goes =
    let (spaced, path) = frame in
    let start = value_at_byte at f in
    let end = start + length (value_text v) in
    let begins = value_begins v is in
    let (b, bs, begun, opening) = path_begins f.path path in
    let t = value_text v ++ (f.trailing ++ more) in
    let key = behind_trivia f t in
    let after_path = f.before_equals ++ (61 ∷ (f.after_equals ++ t)) in
    let no_blank_value = value_begins_not is_blank (value_text v) (f.trailing ++ more) (λ c h. grind (arith, nat_tests)) begins in
    let no_end = begins_not (λ c. c == 0x7D) (path_text f.path) after_path (λ c h. grind (arith, nat_tests)) (b, bs, begun, opening) in
    let leads = trivia_again f.leading key b (bs ++ after_path) spaced.leading (ap (λ (x : Text). x ++ after_path) begun) (grind (
      arith,
      nat_tests,
    )) in
    let no_blank : is_blank c ≡ false = grind (arith, nat_tests) in
    let more_ends : ends_scalar more ≡ true = ap ends_scalar starts ∙ rw no_blank stop in
    let lens : length t ≤ length key =
    omega (
      arith,
      length-append (path_text f.path) after_path,
      length-append f.before_equals (61 ∷ (f.after_equals ++ t)),
      length-append f.after_equals t,
    ) in
    let read = values v level start (f.trailing ++ more) is (ends_trivia f.trailing more spaced.trailing more_ends) (omega (
      arith,
      length-append f.leading key,
    )) in
    pairs_open n level at comma f.leading key (followed_by f []) t leads no_end (frame_again IsWholeTrivia f t frame no_blank_value)
    ∙ ap (λ (x : ℕ). behind (frame_events at f) (follow (value_from n level x t)
    (λ v after_value. follow (trivia_at after_value) (pair_then n level x (followed_by f []) v)))) (value_place at f t)
    ∙ item_outcome (frame_events at f) (value_from n level start t) (pair_then n level start (followed_by f [])) level start
    (pairs_depth ps) v f.trailing more c cs (pair f v ps, (ends, w)) rest
    (event After end f.trailing) (pairs_events (end + length f.trailing + 1) ps) (stays_frame level at f) spaced.trailing starts stops refl
    read goes

-- the last pair without a comma
pair_last : (n : ℕ) → ReadsValue n → (f : Frame) (v : Value) (level at : ℕ) (comma : Bool) (rest : Text) → IsFrame IsWholeTrivia f
    → IsValue v
    → 2 * length (f.leading ++ behind_trivia f (value_text v ++ (f.trailing ++ (125 ∷ rest)))) < suc n
    → pairs_at (suc n) level at comma (f.leading ++ behind_trivia f (value_text v ++ (f.trailing ++ (125 ∷ rest))))
    ≡ outcome (has_room level (pairs_depth (pair f v no_pairs))) (
      pair f v no_pairs,
      (false, []),
    ) rest (shortened level (pairs_events at (pair f v no_pairs)))
pair_last n values f v level at comma rest frame is bound =
    let some : has_room level 0 ≡ true = has_room_true level 0 (λ below. omega arith) in
    let start = value_at_byte at f in
    pair_reads n values f v no_pairs level at comma false [] (125 ∷ rest) 125 rest rest frame is refl refl refl bound
    (λ fits. ap (λ (b : Bool). outcome b (pair f v no_pairs, (false, [])) rest (value_events start v
    ++ (event After (start + length (value_text v)) f.trailing ∷ []))) (sym some))

-- a pair before a comma
pair_more : (n : ℕ) → ReadsValue n → ReadsPairs n → (f : Frame) (v : Value) (ps : Pairs) (level at : ℕ) (comma ends : Bool) (w rest : Text)
    → IsFrame IsWholeTrivia f → IsValue v → ArePairs ps → IsClose (has_pairs ps || true) ends w → (has_pairs ps ≡ false → ends ≡ true)
    → 2 * length (f.leading ++ behind_trivia f (value_text v
    ++ (f.trailing ++ (44 ∷ (pairs_text ps ++ close_text (has_pairs ps) ends w 125 rest))))) < suc n
    → pairs_at (suc n) level at comma (f.leading ++ behind_trivia f (value_text v
    ++ (f.trailing ++ (44 ∷ (pairs_text ps ++ close_text (has_pairs ps) ends w 125 rest)))))
    ≡ outcome (has_room level (pairs_depth (pair f v ps))) (pair f v ps, (ends, w)) rest (shortened level (pairs_events at (pair f v ps)))
pair_more n values pairs f v ps level at comma ends w rest frame is are close none bound =
    let t = pairs_text ps ++ close_text (has_pairs ps) ends w 125 rest in
    let value = value_text v ++ (f.trailing ++ (44 ∷ t)) in
    let start = value_at_byte at f in
    let end = start + length (value_text v) in
    let next = end + length f.trailing + 1 in
    let d = has_room level (pairs_depth ps) in
    let vs = value_events start v in
    let later = shortened level (pairs_events next ps) in
    let add : Pairs × (Bool × Text) → Pairs × (Bool × Text) = λ p. (pair f v p.0, p.1) in
    let inner : 2 * length t < n =
    omega (
      arith,
      length-append f.leading (behind_trivia f value),
      length-append (path_text f.path) (f.before_equals ++ (61 ∷ (f.after_equals ++ value))),
      length-append f.before_equals (61 ∷ (f.after_equals ++ value)),
      length-append f.after_equals value,
      length-append (value_text v) (f.trailing ++ (44 ∷ t)),
      length-append f.trailing (44 ∷ t),
    ) in
    pair_reads n values f v ps level at comma ends w (44 ∷ t) 44 t rest frame is refl refl refl bound
    (λ fits.
    ap (λ (r : Reading (Pairs × (Bool × Text))). behind (vs ++ event After end f.trailing ∷ []) (changed add r))
    (pairs ps level next true ends w rest are close none inner)
    ∙ ap (behind (vs ++ event After end f.trailing ∷ [])) (changed_outcome add d (ps, (ends, w)) rest later)
    ∙ behind_outcome (vs ++ event After end f.trailing ∷ []) d (pair f v ps, (ends, w)) rest later
    ∙ ap (outcome d (pair f v ps, (ends, w)) rest) (regroup_events vs (event After end f.trailing) later))

-- ---- all of them

pub close_trivia : (has ends : Bool) (w : Text) → IsClose has ends w → IsWholeTrivia w
close_trivia has true w close = close.0
close_trivia has false w close = close.0

last_empty : (w : Text) → IsClose true false w → w ≡ []
last_empty w (whole, inl none) = absurd (false≢true (sym none))
last_empty w (whole, inr empty) = empty

-- the end of a list, where nothing stands between its opening bracket or a comma and its closing bracket
fits_none : {A : Type 0} (level : ℕ) (a : A) (rest : Text) → got a rest ≡ outcome (has_room level 0) a rest []
fits_none level a rest = ap (λ (b : Bool). outcome b a rest []) (sym (has_room_true level 0 (λ below. omega arith)))

value_case : (n : ℕ) → ReadsElements n → ReadsPairs n → ReadsValue (suc n)
value_case n elements pairs (scalar s t) level at rest is stop bound =
    scalar_reads n s t level at rest is stop ∙ ap (λ (b : Bool). outcome b (scalar s t) rest (value_events at (scalar s t)))
    (sym (has_room_true level 0 (λ below. omega arith)))
value_case n elements pairs (array es ends w) level at rest is stop bound = array_reads n elements es ends w level at rest is bound
value_case n elements pairs (inline_table ps ends w) level at rest is stop bound =
    inline_table_reads n pairs ps ends w level at rest is bound

elements_case : (n : ℕ) → ReadsValue n → ReadsElements n → ReadsElements (suc n)
elements_case n values elements no_elements level at comma ends w rest are close none bound =
    elements_end n level at comma w rest (close_trivia comma ends w close)
    ∙ ap (λ (b : Bool). got (no_elements, (b, w)) rest) (sym (none refl)) ∙ fits_none level (no_elements, (ends, w)) rest
elements_case n values elements (element a v no_elements) level at comma false w rest (before, after, is, more) close none bound =
    let empty = last_empty w close in
    let same : elements_text (element a v no_elements) ++ (w ++ (93 ∷ rest)) ≡ a.before ++ (value_text v ++ (a.after ++ (93 ∷ rest))) =
    ap (λ (x : Text). elements_text (element a v no_elements) ++ (x ++ (93 ∷ rest))) empty
    ∙ sym (item_parts a.before (value_text v) a.after (93 ∷ rest)) in
    ap (elements_at (suc n) level at comma) same
    ∙ element_last n values a v level at comma rest before after is (omega (arith, ap length same))
    ∙ ap (λ (x : Text). outcome (has_room level (elements_depth (element a v no_elements))) (
      element a v no_elements,
      (false, x),
    ) rest (shortened level (elements_events at (element a v no_elements)))) (sym empty)
elements_case n values elements (element a v no_elements) level at comma true w rest (before, after, is, more) close none bound =
    let same = element_parts a v no_elements true (w ++ (93 ∷ rest)) (λ e. refl) in
    ap (elements_at (suc n) level at comma) (sym same)
    ∙ element_more n values elements a v no_elements level at comma true w rest before after is more close (λ e. refl) (omega (
      arith,
      ap length same,
    ))
elements_case n values elements (element a v (element b u es)) level at comma ends w rest (before, after, is, more) close none bound =
    let some : has_elements (element b u es) ≡ false → ends ≡ true = λ e. absurd (false≢true (sym e)) in
    let same = element_parts a v (element b u es) ends (w ++ (93 ∷ rest)) some in
    ap (elements_at (suc n) level at comma) (sym same)
    ∙ element_more n values elements a v (element b u es) level at comma ends w rest before after is more close some (omega (
      arith,
      ap length same,
    ))

-- a pair at the front of its text
pub pair_text : (f : Frame) (v more : Text) → frame_text f v ++ more ≡ f.leading ++ behind_trivia f (v ++ (f.trailing ++ more))
pair_text f v more = spread f.leading (path_text f.path) f.before_equals f.after_equals v f.trailing more
  where
    spread : (a b c d v after rest : Text) → (a ++ (b ++ (c ++ (61 ∷ (d ++ (v ++ after)))))) ++ rest ≡ a
        ++ (b ++ (c ++ (61 ∷ (d ++ (v ++ (after ++ rest))))))
    spread a b c d v after rest = simp append_assoc

pairs_case : (n : ℕ) → ReadsValue n → ReadsPairs n → ReadsPairs (suc n)
pairs_case n values pairs no_pairs level at comma ends w rest are close none bound =
    pairs_end n level at comma w rest (close_trivia comma ends w close) ∙ ap (λ (b : Bool). got (no_pairs, (b, w)) rest) (sym (none refl))
    ∙ fits_none level (no_pairs, (ends, w)) rest
pairs_case n values pairs (pair f v no_pairs) level at comma false w rest (frame, is, more) close none bound =
    let empty = last_empty w close in
    let same : frame_text f (value_text v) ++ (w ++ (125 ∷ rest)) ≡ f.leading
    ++ behind_trivia f (value_text v ++ (f.trailing ++ (125 ∷ rest))) =
    ap (λ (x : Text). frame_text f (value_text v) ++ (x ++ (125 ∷ rest))) empty ∙ pair_text f (value_text v) (125 ∷ rest) in
    ap (pairs_at (suc n) level at comma) same
    ∙ pair_last n values f v level at comma rest frame is (omega (arith, ap length same))
    ∙ ap (λ (x : Text). outcome (has_room level (pairs_depth (pair f v no_pairs))) (
      pair f v no_pairs,
      (false, x),
    ) rest (shortened level (pairs_events at (pair f v no_pairs)))) (sym empty)
pairs_case n values pairs (pair f v no_pairs) level at comma true w rest (frame, is, more) close none bound =
    let same = sym (pairs_parts f v no_pairs true (w ++ (125 ∷ rest)) (λ e. refl))
    ∙ pair_text f (value_text v) (44 ∷ (w ++ (125 ∷ rest))) in
    ap (pairs_at (suc n) level at comma) same
    ∙ pair_more n values pairs f v no_pairs level at comma true w rest frame is more close (λ e. refl) (omega (arith, ap length same))
pairs_case n values pairs (pair f v (pair g u ps)) level at comma ends w rest (frame, is, more) close none bound =
    let some : has_pairs (pair g u ps) ≡ false → ends ≡ true = λ e. absurd (false≢true (sym e)) in
    let tail = pairs_text (pair g u ps) ++ close_text true ends w 125 rest in
    let same = sym (pairs_parts f v (pair g u ps) ends (w ++ (125 ∷ rest)) some) ∙ pair_text f (value_text v) (44 ∷ tail) in
    ap (pairs_at (suc n) level at comma) same
    ∙ pair_more n values pairs f v (pair g u ps) level at comma ends w rest frame is more close some (omega (arith, ap length same))

some_text : (v : Value) (rest : Text) → IsValue v → 0 < length (value_text v ++ rest)
some_text v rest is = let (c, cs, e, opening) = value_begins v is in omega (arith, ap length e, length-append (value_text v) rest)

mutual
  pub value_reads : (n : ℕ) → ReadsValue n
  value_reads zero = λ v level at rest is stop bound. absurd (omega (arith, some_text v rest is))
  value_reads (suc n) = value_case n (elements_read n) (pairs_read n)

  pub elements_read : (n : ℕ) → ReadsElements n
  elements_read zero = λ es level at comma ends w rest are close none bound. absurd (omega arith)
  elements_read (suc n) = elements_case n (value_reads n) (elements_read n)

  pub pairs_read : (n : ℕ) → ReadsPairs n
  pairs_read zero = λ ps level at comma ends w rest are close none bound. absurd (omega arith)
  pairs_read (suc n) = pairs_case n (value_reads n) (pairs_read n)
