-- Where the events of a value are cut: nowhere where it is not too deep, and else inside them.
use Rattle.std.proofs.Common.{◌≡◌, ℕ, suc, ◌+◌, ◌-◌, ◌<◌, ◌≤◌, Bool, true, false, ◌==◌, List, [], ◌∷◌, ◌++◌, ◌⊎◌, length, refl, sym, ap}
use Rattle.std.proofs.Common.{◌∙◌, inl, inr, arith, append_assoc, codes}
use Rattle.std.proofs.lemmas.Bool.{cases_lt, ne_eqb}
use Rattle.std.proofs.lemmas.Bool.Decides.{eqb_tells}
use Rattle.toml_edit_model.specs.Text.{Text}
use Rattle.toml_edit_model.specs.Syntax.{Segment, Frame, Value, scalar, array, inline_table, Elements, no_elements, element, Pairs}
use Rattle.toml_edit_model.specs.Syntax.{no_pairs, pair, segment_text, path_text, value_text, depth, elements_depth, pairs_depth}
use Rattle.toml_edit_model.specs.Syntax.{nesting_limit}
use Rattle.toml_edit_syntax.specs.declared.event.EventKind.TheVariants.{Leading, Key, BeforeDot, AfterDot, Equals, ArrayOpen, ArrayClose}
use Rattle.toml_edit_syntax.specs.declared.event.EventKind.TheVariants.{InlineTableOpen, InlineTableClose, Before, After}
use Rattle.toml_edit_syntax.specs.declared.event.Event.{Event}
use Rattle.toml_edit_syntax.specs.ValueEvents.{event, path_events, frame_events, value_at_byte, close_events, value_events, elements_events}
use Rattle.toml_edit_syntax.specs.ValueEvents.{pairs_events, opens, shortened}

-- inside so many brackets none of these is cut, and as many stand open after them
abbrev pub Stays : ℕ → List Event → Type 0
Stays level es = (more : List Event) → shortened level (es ++ more) ≡ es ++ shortened level more

-- inside so many brackets one of these is too many
abbrev pub Stops : ℕ → List Event → Type 0
Stops level es = (more : List Event) → shortened level (es ++ more) ≡ shortened level es

pub stays_then : (level : ℕ) (a b : List Event) → Stays level a → Stays level b → Stays level (a ++ b)
stays_then level a b ha hb more =
    ap (shortened level) (append_assoc a b more) ∙ ha (b ++ more) ∙ ap (λ (x : List Event). a ++ x) (hb more)
    ∙ sym (append_assoc a b (shortened level more))

pub stops_first : (level : ℕ) (a b : List Event) → Stops level a → Stops level (a ++ b)
stops_first level a b ha more = ap (shortened level) (append_assoc a b more) ∙ ha (b ++ more) ∙ sym (ha b)

pub stops_then : (level : ℕ) (a b : List Event) → Stays level a → Stops level b → Stops level (a ++ b)
stops_then level a b ha hb more =
    ap (shortened level) (append_assoc a b more) ∙ ha (b ++ more) ∙ ap (λ (x : List Event). a ++ x) (hb more) ∙ sym (ha b)

-- ---- a pair up to its value

pub stays_path : (level start : ℕ) (p : List Segment) → Stays level (path_events start p)
stays_path level start [] more = refl
stays_path level start (s ∷ []) more = refl
stays_path level start (s ∷ r ∷ rest) more =
    let dot = start + length (segment_text s) in
    ap (λ (x : List Event). event Key (start + length s.before) s.spelled
    ∷ event BeforeDot (start + length s.before + length s.spelled) s.after ∷ event AfterDot (dot + 1) r.before ∷ x)
    (stays_path level (dot + 1) (r ∷ rest) more)

pub stays_frame : (level start : ℕ) (f : Frame) → Stays level (frame_events start f)
stays_frame level start f more =
    let key = start + length f.leading in
    let sign = event Equals (key + length (path_text f.path) + length f.before_equals) (codes "=") in
    ap (λ (x : List Event). event Leading start f.leading
    ∷ x) (stays_then level (path_events key f.path) (sign ∷ []) (stays_path level key f.path) (λ m. refl) more)

-- ---- brackets

-- the end of a list closes a bracket
abbrev Closes : ℕ → List Event → Type 0
Closes level es = (more : List Event) → shortened (suc level) (es ++ more) ≡ es ++ shortened level more

list_stays : (level : ℕ) (o : Event) (inner ends : List Event) → opens o.kind ≡ true → (level == nesting_limit) ≡ false
    → Stays (suc level) inner → Closes level ends → Stays level (o ∷ (inner ++ ends))
list_stays level o inner ends opening room h closing more =
    rw (opening, room) (ap (λ (x : List Event). o ∷ x) (ap (shortened (suc level)) (append_assoc inner ends more) ∙ h (ends ++ more)
    ∙ ap (λ (x : List Event). inner ++ x) (closing more) ∙ sym (append_assoc inner ends (shortened level more))))

list_stops : (level : ℕ) (o : Event) (inner ends : List Event) → opens o.kind ≡ true → (level == nesting_limit) ≡ false
    → Stops (suc level) inner → Stops level (o ∷ (inner ++ ends))
list_stops level o inner ends opening room h more =
    rw (opening, room) (ap (λ (x : List Event). o ∷ x) (stops_first (suc level) inner ends h more))

pub list_full : (level : ℕ) (o : Event) (es : List Event) → opens o.kind ≡ true → (level == nesting_limit) ≡ true → Stops level (o ∷ es)
list_full level o es opening full more = rw (opening, full) refl

less : (level : ℕ) → suc level - 1 ≡ level
less level = omega arith

array_closes : (level at : ℕ) (comma : Bool) (t : Text) → Closes level (close_events ArrayClose (codes "]") at comma t)
array_closes level at true t more = rw (less level) refl
array_closes level at false t more = rw (less level) refl

inline_table_closes : (level at : ℕ) (comma : Bool) (t : Text) → Closes level (close_events InlineTableClose (codes "}") at comma t)
inline_table_closes level at true t more = rw (less level) refl
inline_table_closes level at false t more = rw (less level) refl

-- ---- values

-- A part so deep fits inside so many brackets. (Inside more than the most that may be open, nothing is one too many.)
abbrev pub Fits : ℕ → ℕ → Type 0
Fits level depth = level ≤ nesting_limit → level + depth ≤ nesting_limit

-- and this one does not
abbrev pub Exceeds : ℕ → ℕ → Type 0
Exceeds level depth = (level ≤ nesting_limit) × (nesting_limit < level + depth)

pub cases_fits : (level depth : ℕ) → Exceeds level depth ⊎ Fits level depth
cases_fits level depth =
    elim (cases_lt nesting_limit level) [
      | inl above ↦ inr (λ h. absurd (omega arith))
      | inr below ↦ elim (cases_lt nesting_limit (level + depth)) [ inl big ↦ inl (below, big) | inr fits ↦ inr (λ _. fits) ]
    ]

fits_below : (level d : ℕ) → Fits level (suc d) → (level == nesting_limit) ≡ false
fits_below level d h = ne_eqb level nesting_limit (λ same. omega (arith, same, h (omega arith)))

-- an item between two others in a list
item_stays : (level : ℕ) (head value more_items : List Event) (after : ℕ) (t : Text) → Stays level head → Stays level value
    → Stays level more_items
    → Stays level (head ++ (value ++ (event After after t ∷ more_items)))
item_stays level head value more_items after t h hv hm =
    stays_then level head (value ++ (event After after t ∷ more_items)) h
    (stays_then level value (event After after t ∷ more_items) hv (λ more. ap (λ (x : List Event). event After after t ∷ x) (hm more)))

item_stops : (level : ℕ) (head value rest : List Event) → Stays level head → Stops level value → Stops level (head ++ (value ++ rest))
item_stops level head value rest h hv = stops_then level head (value ++ rest) h (stops_first level value rest hv)

later_stops : (level : ℕ) (head value more_items : List Event) (after : ℕ) (t : Text) → Stays level head → Stays level value
    → Stops level more_items
    → Stops level (head ++ (value ++ (event After after t ∷ more_items)))
later_stops level head value more_items after t h hv hm =
    stops_then level head (value ++ (event After after t ∷ more_items)) h
    (stops_then level value (event After after t ∷ more_items) hv (λ more. ap (λ (x : List Event). event After after t ∷ x) (hm more)))

mutual
  pub value_stays : (v : Value) (level start : ℕ) → Fits level (depth v) → Stays level (value_events start v)
  value_stays (scalar s t) level start room = λ more. refl
  value_stays (array es comma t) level start room =
      let end = start + length (value_text (array es comma t)) - 1 in
      list_stays level (event ArrayOpen start (codes "[")) (elements_events (start + 1) es)
      (close_events ArrayClose (codes "]") end comma t) refl (fits_below level (elements_depth es) room)
      (elements_stay es (suc level) (start + 1) (λ below. omega (arith, room (omega arith)))) (array_closes level end comma t)
  value_stays (inline_table ps comma t) level start room =
      let end = start + length (value_text (inline_table ps comma t)) - 1 in
      list_stays level (event InlineTableOpen start (codes "{")) (pairs_events (start + 1) ps)
      (close_events InlineTableClose (codes "}") end comma t) refl (fits_below level (pairs_depth ps) room)
      (pairs_stay ps (suc level) (start + 1) (λ below. omega (arith, room (omega arith)))) (inline_table_closes level end comma t)

  pub elements_stay : (es : Elements) (level start : ℕ) → Fits level (elements_depth es) → Stays level (elements_events start es)
  elements_stay no_elements level start room = λ more. refl
  elements_stay (element a v es) level start room =
      let value = start + length a.before in
      let after = value + length (value_text v) in
      item_stays level (event Before start a.before ∷ []) (value_events value v) (elements_events (after + length a.after + 1) es) after
      a.after (λ more. refl)
      (value_stays v level value (λ below. omega (arith, room (omega arith)))) (elements_stay es level (after + length a.after
      + 1) (λ below. omega (arith, room (omega arith))))

  pub pairs_stay : (ps : Pairs) (level start : ℕ) → Fits level (pairs_depth ps) → Stays level (pairs_events start ps)
  pairs_stay no_pairs level start room = λ more. refl
  pairs_stay (pair f v ps) level start room =
      let value = value_at_byte start f in
      let after = value + length (value_text v) in
      item_stays level (frame_events start f) (value_events value v) (pairs_events (after + length f.trailing + 1) ps) after f.trailing
      (stays_frame level start f)
      (value_stays v level value (λ below. omega (arith, room (omega arith)))) (pairs_stay ps level (after + length f.trailing
      + 1) (λ below. omega (arith, room (omega arith))))

mutual
  pub value_stops : (v : Value) (level start : ℕ) → level ≤ nesting_limit → nesting_limit < level + depth v
      → Stops level (value_events start v)
  value_stops (scalar s t) level start room deep = absurd (omega arith)
  value_stops (array es comma t) level start room deep =
      let end = start + length (value_text (array es comma t)) - 1 in
      let o = event ArrayOpen start (codes "[") in
      let ends = close_events ArrayClose (codes "]") end comma t in
      elim (eqb_tells level nesting_limit) [
        | inl (full, same) ↦ list_full level o (elements_events (start + 1) es ++ ends) refl full
        | inr (below, apart) ↦
            list_stops level o (elements_events (start + 1) es) ends refl below (elements_stop es (suc level) (start
            + 1) (omega arith) (omega arith))
      ]
  value_stops (inline_table ps comma t) level start room deep =
      let end = start + length (value_text (inline_table ps comma t)) - 1 in
      let o = event InlineTableOpen start (codes "{") in
      let ends = close_events InlineTableClose (codes "}") end comma t in
      elim (eqb_tells level nesting_limit) [
        | inl (full, same) ↦ list_full level o (pairs_events (start + 1) ps ++ ends) refl full
        | inr (below, apart) ↦
            list_stops level o (pairs_events (start + 1) ps) ends refl below (pairs_stop ps (suc level) (start
            + 1) (omega arith) (omega arith))
      ]

  pub elements_stop : (es : Elements) (level start : ℕ) → level ≤ nesting_limit → nesting_limit < level + elements_depth es
      → Stops level (elements_events start es)
  elements_stop no_elements level start room deep = absurd (omega arith)
  elements_stop (element a v es) level start room deep =
      let value = start + length a.before in
      let after = value + length (value_text v) in
      let head = event Before start a.before ∷ [] in
      let later = elements_events (after + length a.after + 1) es in
      elim (cases_lt nesting_limit (level + depth v)) [
        | inl here ↦ item_stops level head (value_events value v) (event After after a.after
            ∷ later) (λ more. refl) (value_stops v level value room here)
        | inr fits ↦ later_stops level head (value_events value v) later after a.after (λ more. refl)
            (value_stays v level value (λ _. fits)) (elements_stop es level (after + length a.after + 1) room (omega arith))
      ]

  pub pairs_stop : (ps : Pairs) (level start : ℕ) → level ≤ nesting_limit → nesting_limit < level + pairs_depth ps
      → Stops level (pairs_events start ps)
  pairs_stop no_pairs level start room deep = absurd (omega arith)
  pairs_stop (pair f v ps) level start room deep =
      let value = value_at_byte start f in
      let after = value + length (value_text v) in
      let later = pairs_events (after + length f.trailing + 1) ps in
      elim (cases_lt nesting_limit (level + depth v)) [
        | inl here ↦ item_stops level (frame_events start f) (value_events value v) (event After after f.trailing
            ∷ later) (stays_frame level start f) (value_stops v level value room here)
        | inr fits ↦ later_stops level (frame_events start f) (value_events value v) later after f.trailing (stays_frame level start f)
            (value_stays v level value (λ _. fits)) (pairs_stop ps level (after + length f.trailing + 1) room (omega arith))
      ]
