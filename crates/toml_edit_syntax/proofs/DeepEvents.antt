-- Which values have a bracket that is one too many among their events: those that are too deep.
use Rattle.std.proofs.Common.{◌≡◌, ℕ, suc, ◌+◌, ◌-◌, ◌≤◌, Bool, true, false, ◌==◌, ◌||◌, List, [], ◌∷◌, ◌++◌, length, refl, sym, ap, ◌∙◌}
use Rattle.std.proofs.Common.{inl, inr, arith, append-nil, codes}
use Rattle.std.specs.Prelude.{max}
use Rattle.std.proofs.lemmas.Bool.{cases_Bool}
use Rattle.std.proofs.lemmas.Bool.Decides.{nat_tests}
use Rattle.std.proofs.lemmas.List.Folds.{list_any-append}
use Rattle.toml_edit_model.specs.Text.{Text}
use Rattle.toml_edit_model.specs.Syntax.{Segment, Frame, Value, scalar, array, inline_table, Elements, no_elements, element, Pairs}
use Rattle.toml_edit_model.specs.Syntax.{no_pairs, pair, segment_text, path_text, value_text, depth, elements_depth, pairs_depth}
use Rattle.toml_edit_model.specs.Syntax.{nesting_limit, Statement, key_line, header}
use Rattle.toml_edit_syntax.specs.declared.event.EventKind.TheVariants.{Equals, ArrayOpen, ArrayClose, InlineTableOpen, InlineTableClose}
use Rattle.toml_edit_syntax.specs.declared.event.EventKind.TheVariants.{Before, After}
use Rattle.toml_edit_syntax.specs.declared.event.Event.{Event}
use Rattle.toml_edit_syntax.specs.ValueEvents.{event, opens, path_events, frame_events, value_at_byte, close_events, value_events}
use Rattle.toml_edit_syntax.specs.ValueEvents.{elements_events, pairs_events, shortened, is_too_deep, are_deep}
use Rattle.toml_edit_syntax.specs.Events.{exceeds_depth, has_deep_value}
use Rattle.toml_edit_syntax.proofs.ShortenedLaws.{stays_frame, value_stays, value_stops, elements_stop, pairs_stop, Exceeds, Fits}
use Rattle.toml_edit_syntax.proofs.ShortenedLaws.{cases_fits}
use Rattle.toml_edit_syntax.proofs.StatementLaws.{depth_of}

-- ---- no part of a document is such a bracket

shallow_then : (a b : List Event) → are_deep a ≡ false → are_deep b ≡ false → are_deep (a ++ b) ≡ false
shallow_then a b ha hb = list_any-append (λ (e : Event). is_too_deep e.kind) a b ∙ rw (ha, hb) refl

shallow_path : (start : ℕ) (p : List Segment) → are_deep (path_events start p) ≡ false
shallow_path start [] = refl
shallow_path start (s ∷ []) = refl
shallow_path start (s ∷ r ∷ rest) = shallow_path (start + length (segment_text s) + 1) (r ∷ rest)

shallow_frame : (start : ℕ) (f : Frame) → are_deep (frame_events start f) ≡ false
shallow_frame start f =
    let key = start + length f.leading in
    let sign = event Equals (key + length (path_text f.path) + length f.before_equals) (codes "=") in
    shallow_then (path_events key f.path) (sign ∷ []) (shallow_path key f.path) refl

shallow_array_end : (at : ℕ) (comma : Bool) (t : Text) → are_deep (close_events ArrayClose (codes "]") at comma t) ≡ false
shallow_array_end at true t = refl
shallow_array_end at false t = refl

shallow_inline_table_end : (at : ℕ) (comma : Bool) (t : Text) → are_deep (close_events InlineTableClose (codes "}") at comma t) ≡ false
shallow_inline_table_end at true t = refl
shallow_inline_table_end at false t = refl

mutual
  shallow_value : (v : Value) (start : ℕ) → are_deep (value_events start v) ≡ false
  shallow_value (scalar s t) start = refl
  shallow_value (array es comma t) start =
      let end = start + length (value_text (array es comma t)) - 1 in
      shallow_then (elements_events (start + 1) es) (close_events ArrayClose (codes "]") end comma t) (shallow_elements es (start + 1))
      (shallow_array_end end comma t)
  shallow_value (inline_table ps comma t) start =
      let end = start + length (value_text (inline_table ps comma t)) - 1 in
      shallow_then (pairs_events (start + 1) ps) (close_events InlineTableClose (codes "}") end comma t) (shallow_pairs ps (start + 1))
      (shallow_inline_table_end end comma t)

  shallow_elements : (es : Elements) (start : ℕ) → are_deep (elements_events start es) ≡ false
  shallow_elements no_elements start = refl
  shallow_elements (element a v es) start =
      let value = start + length a.before in
      let after = value + length (value_text v) in
      shallow_then (value_events value v) (event After after a.after
      ∷ elements_events (after + length a.after + 1) es) (shallow_value v value) (shallow_elements es (after + length a.after + 1))

  shallow_pairs : (ps : Pairs) (start : ℕ) → are_deep (pairs_events start ps) ≡ false
  shallow_pairs no_pairs start = refl
  shallow_pairs (pair f v ps) start =
      let value = value_at_byte start f in
      let after = value + length (value_text v) in
      shallow_then (frame_events start f) (value_events value v
      ++ (event After after f.trailing ∷ pairs_events (after + length f.trailing + 1) ps)) (shallow_frame start f)
      (shallow_then (value_events value v) (event After after f.trailing
      ∷ pairs_events (after + length f.trailing + 1) ps) (shallow_value v value) (shallow_pairs ps (after + length f.trailing + 1)))

-- ---- a value that is too deep has one

deep_then : (a b : List Event) → are_deep b ≡ true → are_deep (a ++ b) ≡ true
deep_then a b h = list_any-append (λ (e : Event). is_too_deep e.kind) a b ∙ ap (λ (x : Bool). are_deep a || x) h ∙ or_true (are_deep a)
  where
    or_true : (x : Bool) → (x || true) ≡ true
    or_true true = refl
    or_true false = refl

below_most : (level : ℕ) → level ≤ nesting_limit → (level == nesting_limit) ≡ false → suc level ≤ nesting_limit
below_most level h room = grind (arith, nat_tests)

-- the events of a list, cut at such a bracket
open_deep : (level : ℕ) (o : Event) (inner ends : List Event) → opens o.kind ≡ true
    → ((level == nesting_limit) ≡ false → are_deep (shortened (suc level) (inner ++ ends)) ≡ true)
    → are_deep (shortened level (o ∷ (inner ++ ends))) ≡ true
open_deep level o inner ends opening later =
    elim (cases_Bool (level == nesting_limit)) [
      | inl full ↦ rw (opening, full) refl
      | inr room ↦ rw (opening, room) (deep_then (o ∷ []) (shortened (suc level) (inner ++ ends)) (later room))
    ]

-- an item of a list, which is cut inside its value or behind it
item_deep : (level start : ℕ) (head : List Event) (v : Value) (e : Event) (later : List Event) (d : ℕ) → Exceeds level (max (depth v) d)
    → ((more : List Event) → shortened level (head ++ more) ≡ head ++ shortened level more) → e.kind ≡ After
    → (Exceeds level (depth v) → are_deep (shortened level (value_events start v)) ≡ true)
    → (Exceeds level d → are_deep (shortened level later) ≡ true)
    → are_deep (shortened level (head ++ (value_events start v ++ (e ∷ later)))) ≡ true
item_deep level start head v e later d big stays plain here behind =
    let vs = value_events start v in
    ap are_deep (stays (vs ++ (e ∷ later))) ∙ deep_then head (shortened level (vs ++ (e ∷ later))) (elim (cases_fits level (depth v)) [
      | inl deeper ↦ ap are_deep (value_stops v level start deeper.0 deeper.1 (e ∷ later)) ∙ here deeper
      | inr fits ↦
          let plain_event : shortened level (e ∷ later) ≡ e ∷ shortened level later = rw plain refl in
          let rest : Exceeds level d = (big.0, omega (arith, big.0, big.1, fits big.0)) in
          ap are_deep (value_stays v level start fits (e ∷ later) ∙ ap (λ (x : List Event). vs ++ x) plain_event)
          ∙ deep_then vs (e ∷ shortened level later) (deep_then (e ∷ []) (shortened level later) (behind rest))
    ])

mutual
  deep_value : (v : Value) (level start : ℕ) → Exceeds level (depth v) → are_deep (shortened level (value_events start v)) ≡ true
  deep_value (scalar s t) level start big = absurd (omega (arith, big.0, big.1))
  deep_value (array es comma t) level start big =
      let end = start + length (value_text (array es comma t)) - 1 in
      let ends = close_events ArrayClose (codes "]") end comma t in
      open_deep level (event ArrayOpen start (codes "[")) (elements_events (start + 1) es) ends refl
      (λ room. let below : suc level ≤ nesting_limit = below_most level big.0 room in
      ap are_deep (elements_stop es (suc level) (start + 1) below (omega (arith, big.1)) ends)
      ∙ deep_elements es (suc level) (start + 1) (below, omega (arith, big.1)))
  deep_value (inline_table ps comma t) level start big =
      let end = start + length (value_text (inline_table ps comma t)) - 1 in
      let ends = close_events InlineTableClose (codes "}") end comma t in
      open_deep level (event InlineTableOpen start (codes "{")) (pairs_events (start + 1) ps) ends refl
      (λ room. let below : suc level ≤ nesting_limit = below_most level big.0 room in
      ap are_deep (pairs_stop ps (suc level) (start + 1) below (omega (arith, big.1)) ends)
      ∙ deep_pairs ps (suc level) (start + 1) (below, omega (arith, big.1)))

  deep_elements : (es : Elements) (level start : ℕ) → Exceeds level (elements_depth es)
      → are_deep (shortened level (elements_events start es)) ≡ true
  deep_elements no_elements level start big = absurd (omega (arith, big.0, big.1))
  deep_elements (element a v es) level start big =
      let value = start + length a.before in
      let after = value + length (value_text v) in
      item_deep level value (event Before start a.before
      ∷ []) v (event After after a.after) (elements_events (after + length a.after + 1) es) (elements_depth es) big (λ more. refl) refl
      (deep_value v level value) (deep_elements es level (after + length a.after + 1))

  deep_pairs : (ps : Pairs) (level start : ℕ) → Exceeds level (pairs_depth ps) → are_deep (shortened level (pairs_events start ps)) ≡ true
  deep_pairs no_pairs level start big = absurd (omega (arith, big.0, big.1))
  deep_pairs (pair f v ps) level start big =
      let value = value_at_byte start f in
      let after = value + length (value_text v) in
      item_deep level value (frame_events start f) v (event After after f.trailing) (pairs_events (after + length f.trailing + 1) ps)
      (pairs_depth ps) big (stays_frame level start f) refl
      (deep_value v level value) (deep_pairs ps level (after + length f.trailing + 1))

-- ---- which have one

exceeding : (v : Value) → Exceeds 0 (depth v) → exceeds_depth v ≡ true
exceeding v (below, big) = grind (arith, nat_tests)

fitting : (v : Value) → Fits 0 (depth v) → exceeds_depth v ≡ false
fitting v h = let fits : depth v ≤ nesting_limit = omega (arith, h (omega arith)) in grind (arith, nat_tests)

-- a value alone
pub value_is_deep : (v : Value) (start : ℕ) → are_deep (shortened 0 (value_events start v)) ≡ exceeds_depth v
value_is_deep v start =
    let es = value_events start v in
    elim (cases_fits 0 (depth v)) [
      | inl big ↦ deep_value v 0 start big ∙ sym (exceeding v big)
      | inr fits ↦ ap are_deep (ap (shortened 0) (sym (append-nil es)) ∙ value_stays v 0 start fits [] ∙ append-nil es)
          ∙ shallow_value v start ∙ sym (fitting v fits)
    ]

pub statement_exceeds : (s : Statement) → Exceeds 0 (depth_of s) → has_deep_value s ≡ true
statement_exceeds (key_line f v end) big = exceeding v big
statement_exceeds (header h end) big = absurd (omega (arith, big.0, big.1))
