-- Where reading stops at a bracket that is one too many: its event is among those up to there, and they lie on the boundaries of
-- characters.
use Rattle.std.proofs.Common.{◌≡◌, ℕ, zero, suc, ◌+◌, ◌-◌, ◌<◌, ◌≤◌, Bool, true, false, cond, ◌==◌, ◌||◌, List, [], ◌∷◌, ◌++◌, ◌⊎◌, length}
use Rattle.std.proofs.Common.{IsUtf8, drop, take, Some, None, refl, sym, ap, subst, ◌∙◌, inl, inr, arith}
use Rattle.std.proofs.lemmas.Bool.Decides.{nat_tests}
use Rattle.std.proofs.lemmas.List.{length-append}
use Rattle.std.proofs.lemmas.List.Folds.{list_any-append}
use Rattle.std.proofs.lemmas.Str.{IsCharBoundary-after_ascii}
use Rattle.toml_edit_syntax.specs.Events.{IsSpanOf}
use Rattle.toml_edit_model.specs.Text.{Text}
use Rattle.toml_edit_model.specs.Trivia.{IsWholeTrivia}
use Rattle.toml_edit_model.specs.Scalars.{Scalar}
use Rattle.toml_edit_model.specs.Syntax.{Frame, path_text, Value, Elements, no_elements, element, Pairs, no_pairs, pair, array}
use Rattle.toml_edit_model.specs.Syntax.{inline_table, IsValue, value_text, nesting_limit}
use Rattle.toml_edit_syntax.specs.declared.event.EventKind.{EventKind}
use Rattle.toml_edit_syntax.specs.declared.event.EventKind.TheVariants.{ArrayOpen, InlineTableOpen, Before, After, TooDeep}
use Rattle.toml_edit_syntax.specs.declared.event.Event.{Event}
use Rattle.toml_edit_laws.specs.reading.Runs.{first, Read}
use Rattle.toml_edit_laws.specs.reading.ScalarReading.{scalar_at}
use Rattle.toml_edit_syntax.specs.Scanning.{scan, equals_at}
use Rattle.toml_edit_syntax.specs.ValueEvents.{event, frame_events, value_at_byte, value_events, is_too_deep, are_deep}
use Rattle.toml_edit_syntax.specs.ValueReading.{Reading, got, deep, wrong, follow, changed, behind, reading, inside, trivia_at, path_at}
use Rattle.toml_edit_syntax.specs.ValueReading.{lone_scalar, frame_at, around, value_from, elements_at, pairs_at}
use Rattle.toml_edit_laws.proofs.reading.Steps.{chosen, starts}
use Rattle.toml_edit_laws.proofs.reading.Begins.{StartsAscii, ascii_trivia}
use Rattle.toml_edit_syntax.proofs.ReadingSteps.{trivia_takes}
use Rattle.toml_edit_syntax.proofs.PathLaws.{head_text, head_regroup, behind_trivia, FrameTook, frame_takes}
use Rattle.toml_edit_syntax.proofs.ValueTakes.{value_takes, followed_by, element_then, pair_then, frame_then}
use Rattle.toml_edit_syntax.proofs.Outcomes.{value_begins}
use Rattle.toml_edit_syntax.proofs.SpanLaws.{Cut, further, cut_as, at_cut, byte_at_cut, AreSpans, both_spans, part_span, value_cut}
use Rattle.toml_edit_syntax.proofs.SpanLaws.{frame_spans, value_spans, ascii_value}

-- ---- steps

pub follow_deep : {A B : Type 0} (r : Reading A) (f : A → Text → Reading B) (es : List Event) → follow r f ≡ deep es → (r ≡ deep es)
    ⊎ ((x : A) × (more : Text) × (r ≡ got x more) × (f x more ≡ deep es))
follow_deep (got x more) f es e = inr (x, more, refl, e)
follow_deep (deep ms) f es e = let same : ms ≡ es = cc in inl (ap deep same)
follow_deep wrong f es e = absurd cc

pub changed_deep : {A B : Type 0} (f : A → B) (r : Reading A) (es : List Event) → changed f r ≡ deep es → r ≡ deep es
changed_deep f (got x more) es e = absurd cc
changed_deep f (deep ms) es e = let same : ms ≡ es = cc in ap deep same
changed_deep f wrong es e = absurd cc

pub behind_deep : {A : Type 0} (before : List Event) (r : Reading A) (es : List Event) → behind before r ≡ deep es → (more : List Event)
    × (r ≡ deep more) × (before ++ more ≡ es)
behind_deep before (got x more) es e = absurd cc
behind_deep before (deep ms) es e = (ms, refl, cc)
behind_deep before wrong es e = absurd cc

pub reading_deep : {A : Type 0} (r : Read A) (es : List Event) → reading r ≡ deep es → ⊥
reading_deep None es e = absurd cc
reading_deep (Some p) es e = absurd cc

pub not_deep : {A : Type 0} (a : A) (t : Text) (es : List Event) → got a t ≡ deep es → ⊥
not_deep a t es e = absurd cc

pub wrong_deep : {A : Type 0} (es : List Event) → ◌≡◌ {A = Reading A} wrong (deep es) → ⊥
wrong_deep es e = absurd cc

pub same_deep : {A : Type 0} (es ms : List Event) → ◌≡◌ {A = Reading A} (deep es) (deep ms) → es ≡ ms
same_deep es ms e = cc

pub trivia_deep : (t : Text) (es : List Event) → trivia_at t ≡ deep es → ⊥
unfolding trivia_at
trivia_deep t es e =
    elim (chosen (scan false t).1 wrong (got (take (scan false t).0 t) (drop (scan false t).0 t)) (deep es) e) [
      | inl (inside, h) ↦ wrong_deep es h
      | inr (outside, h) ↦ not_deep (take (scan false t).0 t) (drop (scan false t).0 t) es h
    ]

pub frame_deep : (leading t : Text) (es : List Event) → frame_at leading t ≡ deep es → ⊥
frame_deep leading t es e =
    elim (follow_deep (reading (path_at t)) _ es e) [
      | inl h ↦ reading_deep (path_at t) es h
      | inr (path, rest, found, h) ↦ reading_deep (equals_at rest) es (changed_deep _ (reading (equals_at rest)) es h)
    ]

-- ---- events up to a bracket that is one too many

-- its event is among these, and each lies on the boundaries of characters
abbrev pub DeepIn : Text → List Event → Type 0
DeepIn t es = (are_deep es ≡ true) × AreSpans t es

any_later : (a b : Bool) → b ≡ true → (a || b) ≡ true
any_later true b h = refl
any_later false b h = h

pub deep_later : (t : Text) (before es : List Event) → AreSpans t before → DeepIn t es → DeepIn t (before ++ es)
deep_later t before es spans (is, more) = (
  list_any-append (λ (e : Event). is_too_deep e.kind) before es ∙ any_later (are_deep before) (are_deep es) is,
  both_spans t before es spans more,
)

abbrev ValueDeep : ℕ → Type 0
ValueDeep n = (whole t : Text) (level at : ℕ) → IsUtf8 whole → level ≤ nesting_limit → Cut whole at t → (es : List Event)
    → value_from n level at t ≡ deep es → StartsAscii t × DeepIn whole es

abbrev ElementsDeep : ℕ → Type 0
ElementsDeep n = (whole t : Text) (level at : ℕ) (comma : Bool) → IsUtf8 whole → level ≤ nesting_limit → Cut whole at t → (es : List Event)
    → elements_at n level at comma t ≡ deep es → DeepIn whole es

abbrev PairsDeep : ℕ → Type 0
PairsDeep n = (whole t : Text) (level at : ℕ) (comma : Bool) → IsUtf8 whole → level ≤ nesting_limit → Cut whole at t → (es : List Event)
    → pairs_at n level at comma t ≡ deep es → DeepIn whole es

-- ---- values

-- a single ASCII byte, whatever follows it
byte_span : (whole rest : Text) (at c : ℕ) (kind : EventKind) → IsUtf8 whole → c < 128 → Cut whole at (c ∷ rest)
    → IsSpanOf whole (event kind at (c ∷ [])).span
byte_span whole rest at c kind utf8 low cut =
    let here = byte_at_cut whole (c ∷ rest) at cut in
    let within : at < length whole = omega (arith, ap length cut.parts, length-append cut.before (c ∷ rest), cut.len) in
    record {
      start = at_cut whole (c ∷ rest) at cut low;
      end =
          IsCharBoundary-after_ascii whole at utf8 within (omega (arith, here));
      order = omega arith;
    }

-- a bracket, and what stands behind it
open_deep : {A : Type 0} (kind : EventKind) (bracket : ℕ) (whole t : Text) (level at : ℕ) (r : Reading A) → IsUtf8 whole
    → (first t == bracket) ≡ true → 0 < bracket → bracket < 128 → Cut whole at t
    → ((level == nesting_limit) ≡ false → Cut whole (at + 1) (drop 1 t) → (es : List Event) → r ≡ deep es → DeepIn whole es)
    → (es : List Event) → inside kind (bracket ∷ []) level at r ≡ deep es → StartsAscii t × DeepIn whole es
open_deep kind bracket whole t level at r utf8 here some low c inner es e =
    let starts_with = starts t bracket here some in
    let ascii : StartsAscii t = subst StartsAscii (sym starts_with) low in
    let c0 = cut_as whole t (bracket ∷ drop 1 t) at at starts_with refl c in
    elim (chosen (level == nesting_limit) (deep (event TooDeep at (bracket ∷ []) ∷ [])) (behind (event kind at (bracket ∷ []) ∷ []) r)
    (deep es) e) [
      | inl (full, h) ↦ (
        ascii,
        subst (DeepIn whole) (same_deep (event TooDeep at (bracket ∷ []) ∷ []) es h) (
          refl,
          (byte_span whole (drop 1 t) at bracket TooDeep utf8 low c0, tt),
        ),
      )
      | inr (room, h) ↦
          let (more, read, parts) = behind_deep (event kind at (bracket ∷ []) ∷ []) r es h in (
            ascii,
            subst (DeepIn whole) parts (deep_later whole (event kind at (bracket ∷ [])
                ∷ []) more (
                  byte_span whole (drop 1 t) at bracket kind utf8 low c0,
                  tt,
                ) (inner room (further whole (bracket ∷ []) (drop 1 t) at c0) more read)),
          )
    ]

pub scalar_deep : (t : Text) (o : Read Scalar) (es : List Event) → lone_scalar t o ≡ deep es → ⊥
scalar_deep t None es e = wrong_deep es e
scalar_deep t (Some p) es e = absurd cc

value_step : (n : ℕ) → ElementsDeep n → PairsDeep n → ValueDeep (suc n)
unfolding value_from
value_step n elements pairs whole t level at utf8 room c es e =
    elim (chosen (first t == 0x5B) _ _ (deep es) e) [
      | inl (bracket, h) ↦
          let inner = elements_at n (suc level) (at + 1) false (drop 1 t) in
          let made = λ (p : Elements × (Bool × Text)). array p.0 p.1.0 p.1.1 in
          open_deep ArrayOpen 0x5B whole t level at (changed made inner) utf8 bracket (omega arith) (omega arith) c
          (λ below after ms read. elements whole (drop 1 t) (suc level) (at
          + 1) false utf8 (grind (arith, nat_tests)) after ms (changed_deep made inner ms read)) es h
      | inr (other, h) ↦ elim (chosen (first t == 0x7B) _ _ (deep es) h) [
        | inl (bracket, g) ↦
            let inner = pairs_at n (suc level) (at + 1) false (drop 1 t) in
            let made = λ (p : Pairs × (Bool × Text)). inline_table p.0 p.1.0 p.1.1 in
            open_deep InlineTableOpen 0x7B whole t level at (changed made inner) utf8 bracket (omega arith) (omega arith) c
            (λ below after ms read. pairs whole (drop 1 t) (suc level) (at
            + 1) false utf8 (grind (arith, nat_tests)) after ms (changed_deep made inner ms read)) es g
        | inr (neither, g) ↦ absurd (scalar_deep t (scalar_at t) es g)
      ]
    ]

-- ---- items

-- such a bracket is in an item's value, or behind it
item_deep : {A : Type 0} (whole : Text) (head : List Event) (r : Reading Value) (next : Value → Text → Text → Reading A) (es : List Event)
    → behind head (follow r (λ v after_value. follow (trivia_at after_value) (next v))) ≡ deep es
    → ((ms : List Event) → r ≡ deep ms → AreSpans whole head × DeepIn whole ms)
    → ((v : Value) (after_value after more : Text) (ms : List Event) → r ≡ got v after_value → IsWholeTrivia after → after_value ≡ after
    ++ more → next v after more ≡ deep ms → AreSpans whole head × DeepIn whole ms)
    → DeepIn whole es
item_deep whole head r next es e here later =
    let (ms, read, parts) = behind_deep head (follow r (λ v after_value. follow (trivia_at after_value) (next v))) es e in
    elim (follow_deep r (λ v after_value. follow (trivia_at after_value) (next v)) ms read) [
      | inl h ↦ let (spans, is) = here ms h in subst (DeepIn whole) parts (deep_later whole head ms spans is)
      | inr (v, after_value, found, g) ↦ elim (follow_deep (trivia_at after_value) (next v) ms g) [
        | inl h ↦ absurd (trivia_deep after_value ms h)
        | inr (after, more, trails, h) ↦
            let (trivia, cut) = trivia_takes after_value after more trails in
            let (spans, is) = later v after_value after more ms found trivia cut h in
            subst (DeepIn whole) parts (deep_later whole head ms spans is)
      ]
    ]

-- it is behind a comma then
pub comma_deep : {L : Type 0} (whole : Text) (bracket : ℕ) (more : Text) (before : List Event) (inner : Reading (L × (Bool × Text)))
    (add : L → L) (last : L) (ms : List Event)
    → cond (first more == 44) (behind {A = L × (Bool × Text)} before (changed (λ p. (add p.0, p.1)) inner))
    (cond (first more == bracket) (got (last, (false, [])) (drop 1 more)) wrong) ≡ deep ms
    → (more ≡ 44 ∷ drop 1 more) × (ks : List Event) × (inner ≡ deep ks) × (before ++ ks ≡ ms)
comma_deep {L} whole bracket more before inner add last ms e =
    elim (chosen (first more == 44) _ _ (deep ms) e) [
      | inl (sign, g) ↦
          let step : L × (Bool × Text) → L × (Bool × Text) = λ p. (add p.0, p.1) in
          let (ks, read, parts) = behind_deep before (changed step inner) ms g in
          (starts more 44 sign (omega arith), ks, changed_deep step inner ks read, parts)
      | inr (none, g) ↦ elim (chosen (first more == bracket) (got (last, (false, [])) (drop 1 more)) wrong (deep ms) g) [
        | inl (here, h) ↦ absurd (not_deep (last, (false, [])) (drop 1 more) ms h)
        | inr (bad, h) ↦ absurd (wrong_deep ms h)
      ]
    ]

-- a value behind its trivia, and the comma behind it
module _ (whole : Text) (start : ℕ) (v : Value) (after_value after more : Text) where
  value_parts : (t : Text) → Cut whole start t → t ≡ value_text v ++ after_value → after_value ≡ after ++ more
      → Cut whole start (value_text v ++ (after ++ more))
  value_parts t c parts cut =
      cut_as whole t (value_text v ++ (after ++ more)) start start (parts ∙ ap (λ (x : Text). value_text v ++ x) cut) refl c

  -- the events of the value and of the trivia behind it
  value_done : IsValue v → IsWholeTrivia after → more ≡ 44 ∷ drop 1 more → Cut whole start (value_text v ++ (after ++ more))
      → AreSpans whole (value_events start v ++ event After (start + length (value_text v)) after ∷ [])
      × Cut whole (start + length (value_text v) + length after + 1) (drop 1 more)
  value_done is trivia sign c =
      let ascii : StartsAscii more = subst StartsAscii (sym sign) (omega arith) in
      let behind_value = ascii_trivia after more trivia ascii in
      let c1 = further whole (value_text v) (after ++ more) start c in
      let c2 = further whole after more (start + length (value_text v)) c1 in
      let last = cut_as whole more (44 ∷ drop 1 more) (start + length (value_text v) + length after) (start + length (value_text v)
      + length after) sign refl c2 in (
        both_spans whole (value_events start v) (event After (start + length (value_text v)) after
            ∷ []) (value_spans v whole (after ++ more) start is behind_value c) (
              part_span whole after more (start
                  + length (value_text v)) After c1 behind_value ascii,
              tt,
            ),
        further whole (44 ∷ []) (drop 1 more) (start + length (value_text v) + length after) last,
      )

elements_value : (n level at : ℕ) (whole t before u : Text) → IsUtf8 whole → level ≤ nesting_limit → ValueDeep n → ElementsDeep n
    → IsWholeTrivia before → t ≡ before ++ u → Cut whole at t → (es : List Event)
    → behind (event Before at before ∷ []) (follow (value_from n level (at + length before) u)
    (λ v after_value. follow (trivia_at after_value) (element_then n level (at + length before) before v))) ≡ deep es
    → DeepIn whole es
elements_value n level at whole t before u utf8 room value elements trivia parts c es e =
    let start = at + length before in
    let c0 = cut_as whole t (before ++ u) at at parts refl c in
    let c1 = further whole before u at c0 in
    let head : StartsAscii u → AreSpans whole (event Before at before ∷ []) =
    λ ascii. (part_span whole before u at Before c0 (ascii_trivia before u trivia ascii) ascii, tt) in
    item_deep whole (event Before at before ∷ []) (value_from n level start u) (element_then n level start before) es e
    (λ ms read. let (ascii, is) = value whole u level start utf8 room c1 ms read in (head ascii, is))
    (λ v after_value after more ms read trails cut h.
    let took = value_takes n level start u v after_value room read in
    let (sign, ks, inner, joined) =
    comma_deep whole 0x5D more (value_events start v ++ event After (start + length (value_text v)) after
    ∷ []) (elements_at n level (start + length (value_text v) + length after + 1) true (drop 1 more))
    (λ (x : Elements). element (around before after) v x) (element (around before after) v no_elements) ms h in
    let (spans, next) = value_done whole start v after_value after more took.is trails sign
    (value_parts whole start v after_value after more u c1 took.parts cut) in
    let is = elements whole (drop 1 more) level (start + length (value_text v) + length after + 1) true utf8 room next ks inner in (
      head (subst StartsAscii (sym took.parts) (ascii_value (value_text v) after_value (value_begins v took.is))),
      subst (DeepIn whole) joined (deep_later whole (value_events start v ++ event After (start + length (value_text v)) after
          ∷ []) ks spans is),
    ))

elements_step : (n : ℕ) → ValueDeep n → ElementsDeep n → ElementsDeep (suc n)
unfolding value_from
elements_step n value elements whole t level at comma utf8 room c es e =
    elim (follow_deep (trivia_at t) _ es e) [
      | inl h ↦ absurd (trivia_deep t es h)
      | inr (before, u, leads, h) ↦
          let (trivia, parts) = trivia_takes t before u leads in
          elim (chosen (first u == 0x5D) _ _ (deep es) h) [
            | inl (bracket, g) ↦ absurd (not_deep (no_elements, (comma, before)) (drop 1 u) es g)
            | inr (goes, g) ↦ elements_value n level at whole t before u utf8 room value elements trivia parts c es g
          ]
    ]

pairs_value : (n level at start : ℕ) (whole t leading key u : Text) (f : Frame) → IsUtf8 whole → level ≤ nesting_limit → ValueDeep n
    → PairsDeep n → t ≡ leading ++ key → FrameTook leading key f u → start ≡ value_at_byte at f → Cut whole at t → (es : List Event)
    → behind (frame_events at f) (follow (value_from n level start u)
    (λ v after_value. follow (trivia_at after_value) (pair_then n level start f v))) ≡ deep es
    → DeepIn whole es
pairs_value n level at start whole t leading key u f utf8 room value pairs parts frame place c es e =
    let all : t ≡ f.leading ++ behind_trivia f u = parts ∙ frame.parts
    ∙ sym (head_regroup f.leading (path_text f.path) f.before_equals f.after_equals u) in
    let c0 = cut_as whole t (f.leading ++ behind_trivia f u) at at all refl c in
    let c1 = cut_as whole u u (value_at_byte at f) start refl (sym place) (value_cut whole u at f c0) in
    let head : StartsAscii u → AreSpans whole (frame_events at f) = λ ascii. frame_spans IsWholeTrivia whole u at f frame.is ascii c0 in
    item_deep whole (frame_events at f) (value_from n level start u) (pair_then n level start f) es e
    (λ ms read. let (ascii, is) = value whole u level start utf8 room c1 ms read in (head ascii, is))
    (λ v after_value after more ms read trails cut h.
    let took = value_takes n level start u v after_value room read in
    let (sign, ks, inner, joined) =
    comma_deep whole 0x7D more (value_events start v ++ event After (start + length (value_text v)) after
    ∷ []) (pairs_at n level (start + length (value_text v) + length after + 1) true (drop 1 more))
    (λ (x : Pairs). pair (followed_by f after) v x) (pair (followed_by f after) v no_pairs) ms h in
    let (spans, next) = value_done whole start v after_value after more took.is trails sign
    (value_parts whole start v after_value after more u c1 took.parts cut) in
    let is = pairs whole (drop 1 more) level (start + length (value_text v) + length after + 1) true utf8 room next ks inner in (
      head (subst StartsAscii (sym took.parts) (ascii_value (value_text v) after_value (value_begins v took.is))),
      subst (DeepIn whole) joined (deep_later whole (value_events start v ++ event After (start + length (value_text v)) after
          ∷ []) ks spans is),
    ))

-- where the value of a pair that is read begins
pub frame_place : (at : ℕ) (leading key u : Text) (f : Frame) → FrameTook leading key f u → at + (length key + length leading) - length u
    ≡ value_at_byte at f
frame_place at leading key u f took =
    omega (
      arith,
      ap length took.parts,
      length-append leading key,
      length-append (head_text f) u,
      length-append f.leading (path_text f.path ++ (f.before_equals ++ (61 ∷ f.after_equals))),
      length-append (path_text f.path) (f.before_equals ++ (61 ∷ f.after_equals)),
      length-append f.before_equals (61 ∷ f.after_equals),
    )

pairs_step : (n : ℕ) → ValueDeep n → PairsDeep n → PairsDeep (suc n)
unfolding value_from
pairs_step n value pairs whole t level at comma utf8 room c es e =
    elim (follow_deep (trivia_at t) _ es e) [
      | inl h ↦ absurd (trivia_deep t es h)
      | inr (leading, key, leads, h) ↦
          let (trivia, parts) = trivia_takes t leading key leads in
          elim (chosen (first key == 0x7D) _ _ (deep es) h) [
            | inl (bracket, g) ↦ absurd (not_deep (no_pairs, (comma, leading)) (drop 1 key) es g)
            | inr (goes, g) ↦ elim (follow_deep (frame_at leading key) (frame_then n level at leading key) es g) [
              | inl bad ↦ absurd (frame_deep leading key es bad)
              | inr (f, u, framed, rest) ↦
                  let frame = frame_takes leading key u f trivia framed in
                  pairs_value n level at (at + (length key + length leading) - length u) whole t leading key u f utf8 room value pairs parts
                  frame (frame_place at leading key u f frame) c es rest
            ]
          ]
    ]

mutual
  unfolding value_from

  pub value_stops_in : (n : ℕ) → ValueDeep n
  value_stops_in zero = λ whole t level at utf8 room c es e. absurd (wrong_deep es e)
  value_stops_in (suc n) = value_step n (elements_stop_in n) (pairs_stop_in n)

  pub elements_stop_in : (n : ℕ) → ElementsDeep n
  elements_stop_in zero = λ whole t level at comma utf8 room c es e. absurd (wrong_deep es e)
  elements_stop_in (suc n) = elements_step n (value_stops_in n) (elements_stop_in n)

  pub pairs_stop_in : (n : ℕ) → PairsDeep n
  pairs_stop_in zero = λ whole t level at comma utf8 room c es e. absurd (wrong_deep es e)
  pairs_stop_in (suc n) = pairs_step n (value_stops_in n) (pairs_stop_in n)
