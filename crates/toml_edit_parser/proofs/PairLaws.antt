-- One pair of an inline table: its parts, its key's length, and what its value becomes.
use Rattle.std.proofs.Common.{◌≡◌, ℕ, zero, suc, ◌+◌, ◌-◌, ◌*◌, ◌<◌, ◌≤◌, true, false, ◌==◌, List, [], ◌∷◌, ◌++◌, length, take, drop, refl}
use Rattle.std.proofs.Common.{sym, ap, ◌∙◌, subst, append_assoc, arith, Option, Some, None, cond, nat_lt, option_map, rules, codes, inl}
use Rattle.std.proofs.Common.{inr}
use Rattle.std.specs.Prelude.{Contains, IfOk, IfSome, max, option_and_then, Result, Ok, Err}
use Rattle.std.specs.Borrow.{Bor}
use Rattle.std.specs.List.{last_or, position_or_len, slice_get}
use Rattle.std.specs.Str.{IsCharBoundary}
use Rattle.std.proofs.lemmas.Bool.{cases_Bool, cases_lt, false≢true}
use Rattle.std.proofs.lemmas.Bool.Decides.{nat_tests}
use Rattle.std.proofs.lemmas.List.Elements.{Contains-append_left, Contains-append_right}
use Rattle.std.proofs.Math.Nat.{le-max_left}
use Rattle.std.proofs.Math.Seq.{drop-append_seam, take-append_seam}
use Rattle.std.proofs.lemmas.List.{length-append}
use Rattle.toml_edit_model.specs.Text.{Text, is_empty}
use Rattle.toml_edit_model.specs.Syntax.{Segment, Frame, Value, scalar, array, inline_table, IsPath, begins_unspaced, ends_unspaced}
use Rattle.toml_edit_model.specs.Syntax.{is_short, nesting_limit, segment_text, path_text, frame_text, value_text}
use Rattle.toml_edit_model.specs.Faults.{Fault, recursion_limit, long_path, value_faults}
use Rattle.toml_edit_model.specs.Tree.{Raw, Node, Slots}
use Rattle.toml_edit_model.specs.TreeOf.{spanned_form, span_of, decor_at, frame_leaf, value_start}
use Rattle.toml_edit_model.specs.Conversions.{with_decor}
use Rattle.toml_edit_laws.specs.Standing.{Stands}
use Rattle.toml_edit_laws.proofs.common.StandingLaws.{stands-left, stands-right}
use Rattle.toml_edit_laws.proofs.values.ValueFaults.{is_empty-nil}
use Rattle.toml_edit_error.specs.Report.{fault_of}
use Rattle.toml_edit_error.specs.Fault.{IfToml}
use Rattle.toml_edit_error.specs.declared.toml_error.ParseFault.{ParseFault}
use Rattle.toml_edit_syntax.specs.declared.event.Event.{Event}
use Rattle.toml_edit_syntax.specs.declared.event.EventKind.TheVariants.{Key, BeforeDot, AfterDot, Equals, After}
use Rattle.toml_edit_syntax.specs.declared.event.Span.{Span}
use Rattle.toml_edit_syntax.specs.Events.{IsSpanOf}
use Rattle.toml_edit_syntax.specs.ValueEvents.{event, path_events, shortened, value_at_byte, value_events}
use Rattle.toml_edit_tree.specs.Casts.{both_sides}
use Rattle.toml_edit_parser.specs.PairRead.{FrameParts, EndsPair, IsEndOfPath, NamesPair, ReadsPair, between, ends_path, first_before}
use Rattle.toml_edit_parser.specs.PairRead.{frame_behind, frame_parts, key_events, path_end, split_frame}
use Rattle.toml_edit_parser.specs.ValueRead.{AreIn, IsRead, NamesOne, is_leading, span_at, spanned_raw, split_first, split_leading}
use Rattle.toml_edit_parser.proofs.ArrayLaws.{spanned_raw-is}
use Rattle.toml_edit_parser.proofs.ReadLaws.{here, mapped, same_parts, same_spans}

-- ---- the parts of a pair

next_place : (n m : ℕ) → cond (nat_lt (1 + n) (suc m)) (Some (1 + n)) None ≡ option_map suc (cond (nat_lt n m) (Some n) None)
next_place n m =
    elim (cases_Bool (nat_lt n m)) [
      | inl below ↦ grind (arith, rules, below)
      | inr above ↦ grind (arith, rules, above)
    ]

-- the place of the first event that ends a path, event by event
abbrev first_end : List Event → Option ℕ
first_end [] = None
first_end (e ∷ es) = cond (ends_path e.kind) (Some 0) (option_map suc (first_end es))

place-position : (es : List Event) → path_end es ≡ first_end es
place-position [] = refl
place-position (e ∷ es) =
    elim (cases_Bool (ends_path e.kind)) [
      | inl same ↦ rw same (grind (arith, rules))
      | inr other ↦ rw (other, ← place-position es) (next_place (position_or_len (λ (e : Event). ends_path e.kind) es) (length es))
    ]

end_behind : (p : List Segment) (start : ℕ) (e : Event) (es : List Event) → ends_path e.kind ≡ true
    → first_end (path_events start p ++ (e ∷ es)) ≡ Some (length (path_events start p))
end_behind [] start e es ends = rw ends refl
end_behind (s ∷ []) start e es ends = rw ends refl
end_behind (s ∷ r ∷ rest) start e es ends =
    ap (λ (o : Option ℕ). option_map suc (option_map suc (option_map suc o))) (end_behind (r ∷ rest) (start + length (segment_text s)
    + 1) e es ends)

-- a path ends before what comes after it
pub path_end-is : (p : List Segment) (start : ℕ) (e : Event) (es : List Event) → ends_path e.kind ≡ true
    → path_end (path_events start p ++ (e ∷ es)) ≡ Some (length (path_events start p))
path_end-is p start e es ends = place-position (path_events start p ++ (e ∷ es)) ∙ end_behind p start e es ends

abbrev parts_at : Span → List Event → Span → Span → FrameParts
parts_at leading path before after = record { leading = leading; path = path; before_equals = before; after_equals = after }

-- the parts after a path, where its last key is this
abbrev split_by : Span → List Event → Event → Event → List Event → Event → FrameParts × List Event
split_by leading path sign value es key = (parts_at leading path (between key.span sign.span) (between sign.span value.span), value ∷ es)

abbrev sign_of : ℕ → Frame → Event
sign_of start f = event Equals (start + length f.leading + length (path_text f.path) + length f.before_equals) (codes "=")

segment_length : (s : Segment) → length (segment_text s) ≡ length s.before + (length s.spelled + length s.after)
segment_length s = omega (arith, length-append s.before (s.spelled ++ s.after), length-append s.spelled s.after)

-- a path ends where its last key does
key_ends : (s : Segment) (p : List Segment) (start : ℕ) (o : Option Event) → ends_unspaced (s ∷ p) ≡ true
    → (key : Event) × (last_or o (path_events start (s ∷ p)) ≡ Some key) × (key.span.end ≡ start + length (path_text (s ∷ p)))
key_ends s [] start o ends =
    let none = ap (λ (t : Text). length t) (is_empty-nil s.after ends) in
    (event Key (start + length s.before) s.spelled, refl, omega (arith, none, segment_length s))
key_ends s (r ∷ rest) start o ends =
    let dot = start + length (segment_text s) in
    let (key, is, end) = key_ends r rest (dot + 1) (Some (event AfterDot (dot + 1) r.before)) ends in
    (key, is, omega (arith, end, length-append (segment_text s) (46 ∷ path_text (r ∷ rest))))

last_key : (p : List Segment) (start : ℕ) → IsPath p → (key : Event) × (last_or None (path_events start p) ≡ Some key)
    × (key.span.end ≡ start + length (path_text p))
last_key [] start is = absurd (false≢true is.begins)
last_key (s ∷ p) start is = key_ends s p start None is.ends

-- between the end of a part and the start of another stands this text
between-is : (left right : Span) (at : ℕ) (t : Text) → left.end ≡ at → right.start ≡ at + length t → between left right ≡ span_at at t
between-is left right at t l r =
    let end : max left.end right.start ≡ at + length t = omega (arith, l, r) in
    ap (λ i. let s : Span = record { start = i; end = max left.end right.start } in s) l
    ∙ ap (λ i. let s : Span = record { start = at; end = i } in s) end

-- the first of these begins at this byte
abbrev BeginAt : ℕ → List Event → Type 0
BeginAt at [] = ⊥
BeginAt at (e ∷ es) = e.span.start ≡ at

-- as the first event of a value does
value_begins : (v : Value) (at level : ℕ) (more : List Event) → BeginAt at (shortened level (value_events at v ++ more))
value_begins (scalar s t) at level more = refl
value_begins (array es comma t) at level more =
    elim (cases_Bool (level == nesting_limit)) [ inl full ↦ rw full refl | inr room ↦ rw room refl ]
value_begins (inline_table ps comma t) at level more =
    elim (cases_Bool (level == nesting_limit)) [ inl full ↦ rw full refl | inr room ↦ rw room refl ]

behind_path : (start : ℕ) (f : Frame) (leading : Span) (es : List Event) (key : Event) → leading ≡ span_at start f.leading
    → BeginAt (value_at_byte start f) es
    → last_or None (path_events (start + length f.leading) f.path) ≡ Some key → key.span.end ≡ start + length f.leading
    + length (path_text f.path)
    → frame_behind leading (path_events (start + length f.leading) f.path) (sign_of start f ∷ es) ≡ Some (frame_parts start f, es)
behind_path start f leading [] key e begins last ends = absurd begins
behind_path start f leading (x ∷ es) key e begins last ends =
    let at = start + length f.leading + length (path_text f.path) in
    let path = path_events (start + length f.leading) f.path in
    let sign = sign_of start f in
    ap (option_map (split_by leading path sign x es)) last
    ∙ ap (λ (b : Span). Some (parts_at leading path b (between sign.span x.span), x ∷ es))
    (between-is key.span sign.span at f.before_equals ends refl)
    ∙ ap (λ (a : Span). Some (parts_at leading path (span_at at f.before_equals) a, x ∷ es)) (between-is sign.span x.span (at
    + length f.before_equals + 1) f.after_equals refl begins)
    ∙ ap (λ (l : Span). Some (
      parts_at l path (span_at at f.before_equals) (span_at (at + length f.before_equals + 1) f.after_equals),
      x
          ∷ es,
    )) e

-- a pair is split after its key
frame-split : (start : ℕ) (f : Frame) (leading : Span) (es : List Event) → IsPath f.path → leading ≡ span_at start f.leading
    → BeginAt (value_at_byte start f) es
    → split_frame leading (key_events start f ++ es) ≡ Some (frame_parts start f, es)
frame-split start f leading es is e begins =
    let key = start + length f.leading in
    let path = path_events key f.path in
    let sign = sign_of start f in
    let behind = sign ∷ es in
    let (last, same, ends) = last_key f.path key is in
    ap (split_frame leading) (append_assoc path (sign ∷ []) es)
    ∙ ap (option_and_then (λ n. frame_behind leading (take n (path ++ behind)) (drop n (path ++ behind))))
    (path_end-is f.path key sign es refl)
    ∙ ap (λ (q : List Event). frame_behind leading q (drop (length path) (path ++ behind))) (take-append_seam path behind)
    ∙ ap (λ (q : List Event). frame_behind leading path q) (drop-append_seam path behind)
    ∙ behind_path start f leading es last e begins same ends

last_from : (x : Event) (xs : List Event) → slice_get (x ∷ xs) (length xs) ≡ last_or (Some x) xs
last_from x [] = refl
last_from x (y ∷ ys) = last_from y ys

-- the last event, by its place
last_at : (es : List Event) → slice_get es (length es - 1) ≡ last_or None es
last_at [] = refl
last_at (x ∷ xs) =
    let place : suc (length xs) - 1 ≡ length xs = omega arith in
    ap (slice_get (x ∷ xs)) place ∙ last_from x xs

-- the parts after a path are split off one by one
pub frame-behind : (leading : Span) (path signs rest more : List Event) (key sign value : Event) (before after : Span) → Some key
    ≡ slice_get path (length path - 1)
    → Some (sign, rest) ≡ split_first signs → Some (value, more) ≡ split_first rest → before ≡ between key.span sign.span → after
    ≡ between sign.span value.span
    → Some (parts_at leading path before after, rest) ≡ frame_behind leading path signs
frame-behind leading path [] rest more key sign value before after k s v b a = absurd cc
frame-behind leading path (x ∷ []) rest more key sign value before after k s v b a =
    let first = same_parts sign x rest [] s in
    absurd (let none = v ∙ ap split_first first.1 in cc)
frame-behind leading path (x ∷ y ∷ es) rest more key sign value before after k s v b a =
    let first = same_parts sign x rest (y ∷ es) s in
    let second = same_parts value y more es (v ∙ ap split_first first.1) in
    let same : Some (parts_at leading path before after, rest) ≡ Some (split_by leading path x y es key) =
    rw (b, a, first.0, second.0, first.1) refl in
    same ∙ ap (option_map (split_by leading path x y es)) (k ∙ last_at path)

-- the text before a pair
pub leading-in : (t : Text) (es : List Event) (leading : Span) (rest : List Event) → Some (leading, rest) ≡ split_leading es → AreIn t es
    → IsSpanOf t leading × AreIn t rest × (length rest < length es)
leading-in t [] leading rest e h = absurd cc
leading-in t (x ∷ es) leading rest e h =
    elim (cases_Bool (is_leading x.kind)) [
      | inl is ↦
          let f : ◌≡◌ {A = Option (Span × List Event)} (Some (leading, rest)) (Some (x.span, es)) = rw is at e in
          let p = same_spans leading x.span rest es f in
          (subst (IsSpanOf t) (sym p.0) h.0, subst (AreIn t) (sym p.1) h.1, let n = ap (λ (ys : List Event). length ys) p.1 in omega arith)
      | inr is ↦ let f : ◌≡◌ {A = Option (Span × List Event)} (Some (leading, rest)) None = rw is at e in absurd cc
    ]

pub same_frames : (a b : FrameParts) (x y : List Event) → ◌≡◌ {A = Option (FrameParts × List Event)} (Some (a, x)) (Some (b, y)) → (a ≡ b)
    × (x ≡ y)
same_frames a b x y e =
    let f : ◌≡◌ {A = FrameParts × List Event} (a, x) (b, y) = cc in
    (ap (λ (p : FrameParts × List Event). p.0) f, ap (λ (p : FrameParts × List Event). p.1) f)

-- a path has no brackets
pub path-whole : (level start : ℕ) (p : List Segment) (more : List Event) → shortened level (path_events start p ++ more)
    ≡ path_events start p ++ shortened level more
path-whole level start [] more = refl
path-whole level start (s ∷ []) more = refl
path-whole level start (s ∷ r ∷ rest) more =
    let dot = start + length (segment_text s) in
    ap (λ (x : List Event). event Key (start + length s.before) s.spelled
    ∷ event BeforeDot (start + length s.before + length s.spelled) s.after ∷ event AfterDot (dot + 1) r.before ∷ x)
    (path-whole level (dot + 1) (r ∷ rest) more)

-- nor has a pair, from its key up to its value
pub key-whole : (level start : ℕ) (f : Frame) (more : List Event) → shortened level (key_events start f ++ more) ≡ key_events start f
    ++ shortened level more
key-whole level start f more =
    let path = path_events (start + length f.leading) f.path in
    let sign = sign_of start f in
    ap (shortened level) (append_assoc path (sign ∷ []) more) ∙ path-whole level (start + length f.leading) f.path (sign ∷ more)
    ∙ sym (append_assoc path (sign ∷ []) (shortened level more))

-- a pair has its parts
pub no-frame : (start : ℕ) (f : Frame) (v : Value) (level : ℕ) (more : List Event) (leading : Span) (events : List Event) (P : Type 0)
    → IsPath f.path
    → leading ≡ span_at start f.leading → events ≡ key_events start f ++ shortened level (value_events (value_at_byte start f) v ++ more)
    → None ≡ split_frame leading events → P
no-frame start f v level more leading events P is same e none =
    let es = shortened level (value_events (value_at_byte start f) v ++ more) in
    let split = frame-split start f leading es is same (value_begins v (value_at_byte start f) level more) in
    absurd (let g = none ∙ ap (split_frame leading) e ∙ split in cc)

pub the-frame : (start : ℕ) (f : Frame) (v : Value) (level : ℕ) (more : List Event) (leading : Span) (events : List Event)
    (parts : FrameParts) (rest : List Event) → IsPath f.path
    → leading ≡ span_at start f.leading → events ≡ key_events start f ++ shortened level (value_events (value_at_byte start f) v ++ more)
    → Some (parts, rest) ≡ split_frame leading events → (parts ≡ frame_parts start f)
    × (rest ≡ shortened level (value_events (value_at_byte start f) v ++ more))
the-frame start f v level more leading events parts rest is same e g =
    let es = shortened level (value_events (value_at_byte start f) v ++ more) in
    let split = frame-split start f leading es is same (value_begins v (value_at_byte start f) level more) in
    same_frames parts (frame_parts start f) rest es (g ∙ ap (split_frame leading) e ∙ split)

-- ---- the parts lie in the text

-- so does a part of events
pub in_take : (t : Text) (n : ℕ) (es : List Event) → AreIn t es → AreIn t (take n es)
in_take t zero es h = tt
in_take t (suc n) [] h = tt
in_take t (suc n) (e ∷ es) h = (h.0, in_take t n es h.1)

pub in_drop : (t : Text) (n : ℕ) (es : List Event) → AreIn t es → AreIn t (drop n es)
in_drop t zero es h = h
in_drop t (suc n) [] h = tt
in_drop t (suc n) (e ∷ es) h = in_drop t n es h.1

pub fewer : (n : ℕ) (es : List Event) → length (drop n es) ≤ length es
fewer zero es = omega arith
fewer (suc n) [] = omega arith
fewer (suc n) (e ∷ es) = let h = fewer n es in omega (arith, h)

pub record FrameIn (t : Text) (leading : Span) (events : List Event) (parts : FrameParts) (rest : List Event) : Type 0 where
  pub front : parts.leading ≡ leading
  pub path : AreIn t parts.path
  pub before_equals : IsSpanOf t parts.before_equals
  pub after_equals : IsSpanOf t parts.after_equals
  pub others : AreIn t rest
  pub fewer : length rest < length events

-- so does the last event, and what stands between two parts
last_in : (t : Text) (o : Option Event) (es : List Event) → IfSome o (λ e. IsSpanOf t e.span) → AreIn t es
    → IfSome (last_or o es) (λ e. IsSpanOf t e.span)
last_in t o [] before h = before
last_in t o (e ∷ es) before h = last_in t (Some e) es h.0 h.1

between_in : (t : Text) (left right : Span) → IsSpanOf t left → IsSpanOf t right → IsSpanOf t (between left right)
between_in t left right l r =
    record {
      start = l.end;
      end = elim (cases_lt left.end right.start) [
        | inl before ↦ subst (IsCharBoundary t) (let e : right.start ≡ max left.end right.start = omega (arith, before) in e) r.start
        | inr behind ↦ subst (IsCharBoundary t) (let e : left.end ≡ max left.end right.start = omega (arith, behind) in e) l.end
      ];
      order = le-max_left left.end right.start;
    }

parts_in : (t : Text) (leading : Span) (events path : List Event) (sign value : Event) (es : List Event) (o : Option Event)
    (parts : FrameParts) (rest : List Event)
    → IfSome o (λ e. IsSpanOf t e.span) → AreIn t path → AreIn t (sign ∷ value ∷ es) → length (sign ∷ value ∷ es) ≤ length events
    → Some (parts, rest) ≡ option_map (split_by leading path sign value es) o
    → FrameIn t leading events parts rest
parts_in t leading events path sign value es None parts rest k p b n e = absurd cc
parts_in t leading events path sign value es (Some key) parts rest k p b n e =
    let same = same_frames parts (parts_at leading path (between key.span sign.span) (between sign.span value.span)) rest (value ∷ es) e in
    let l = ap (λ (ys : List Event). length ys) same.1 in
    record {
      front = ap (λ (q : FrameParts). q.leading) same.0;
      path = subst (λ (q : FrameParts). AreIn t q.path) (sym same.0) p;
      before_equals = subst (λ (q : FrameParts). IsSpanOf t q.before_equals) (sym same.0) (between_in t key.span sign.span k b.0);
      after_equals = subst (λ (q : FrameParts). IsSpanOf t q.after_equals) (sym same.0) (between_in t sign.span value.span b.0 b.1.0);
      others = subst (AreIn t) (sym same.1) b.1;
      fewer = omega (arith, l, n);
    }

behind_in : (t : Text) (leading : Span) (events path behind : List Event) (parts : FrameParts) (rest : List Event) → AreIn t path
    → AreIn t behind
    → length behind ≤ length events → Some (parts, rest) ≡ frame_behind leading path behind → FrameIn t leading events parts rest
behind_in t leading events path [] parts rest p b n e = absurd cc
behind_in t leading events path (sign ∷ []) parts rest p b n e = absurd cc
behind_in t leading events path (sign ∷ value ∷ es) parts rest p b n e =
    parts_in t leading events path sign value es (last_or None path) parts rest (last_in t None path tt p) p b n e

in_of : (t : Text) (leading : Span) (events : List Event) (parts : FrameParts) (rest : List Event) (o : Option ℕ) → AreIn t events
    → Some (parts, rest) ≡ option_and_then (λ n. frame_behind leading (take n events) (drop n events)) o
    → FrameIn t leading events parts rest
in_of t leading events parts rest None h e = absurd cc
in_of t leading events parts rest (Some n) h e =
    behind_in t leading events (take n events) (drop n events) parts rest (in_take t n events h) (in_drop t n events h) (fewer n events) e

pub frame-in : (t : Text) (leading : Span) (events : List Event) (parts : FrameParts) (rest : List Event) → Some (parts, rest)
    ≡ split_frame leading events → AreIn t events
    → FrameIn t leading events parts rest
frame-in t leading events parts rest e h = in_of t leading events parts rest (path_end events) h e

-- what is after the value is shorter than all
pub fewer-still : (t : Text) (behind inner events : List Event) (result : Result (Bor (List Event)) ParseFault)
    → length behind < length events
    → length inner < length behind → IfOk result (λ r. AreIn t r.now × (length r.now < length inner))
    → IfOk result (λ r. AreIn t r.now × (length r.now < length events))
fewer-still t behind inner events (Ok r) one two h = (h.0, let n = h.1 in omega (arith, one, two, n))
fewer-still t behind inner events (Err e) one two h = tt

-- ---- the length of a key

pub path_count : (s : Segment) (p : List Segment) (start : ℕ) → length (path_events start (s ∷ p)) + 2 ≡ 3 * length (s ∷ p)
path_count s [] start = refl
path_count s (r ∷ rest) start =
    let h = path_count r rest (start + length (segment_text s) + 1) in
    omega (arith, h)

short_of : (p : List Segment) → is_short p ≡ true → long_path p ≡ []
short_of p e = rw e refl

long_of : (p : List Segment) → is_short p ≡ false → long_path p ≡ record { message = recursion_limit; span = None } ∷ []
long_of p e = rw e refl

pub short-path : (p : List Segment) (start : ℕ) → is_empty p ≡ false → length (path_events start p) ≤ 238 → long_path p ≡ []
short-path [] start some h = absurd cc
short-path (s ∷ p) start some h =
    let n = path_count s p start in
    let few : length (s ∷ p) ≤ nesting_limit = omega (arith, n, h) in
    short_of (s ∷ p) (grind (arith, nat_tests, few))

long : (p : List Segment) (start : ℕ) → is_empty p ≡ false → 238 < length (path_events start p) → long_path p
    ≡ record { message = recursion_limit; span = None } ∷ []
long [] start some h = absurd cc
long (s ∷ p) start some h =
    let n = path_count s p start in
    let many : nesting_limit < length (s ∷ p) = omega (arith, n, h) in
    long_of (s ∷ p) (grind (arith, nat_tests, many))

begun_some : (p : List Segment) → begins_unspaced p ≡ true → is_empty p ≡ false
begun_some [] e = absurd cc
begun_some (s ∷ p) e = refl

-- a path is not empty
pub path-some : (p : List Segment) → IsPath p → is_empty p ≡ false
path-some p is = begun_some p is.begins

-- a path that is too long is named
pub path-too-long : (source : Text) (p : List Segment) (start : ℕ) (e : ParseFault) → IsPath p → 238 < length (path_events start p)
    → IfToml e (λ r. r ≡ record { message = recursion_limit; span = None; input = source }) → IfToml e (NamesOne source (long_path p))
path-too-long source p start e is many h =
    let fault : Fault = record { message = recursion_limit; span = None } in
    mapped e _ _ (λ r same. (
      ap (λ x. x.input) same,
      subst (λ (fs : List Fault). Contains fs (fault_of r)) (sym (long p start (path-some p is) many))
          (subst (Contains (fault ∷ [])) (sym (ap fault_of same)) (here fault [])),
    )) h

-- a key that is too long is named
pub too-long : (source : Text) (f : Frame) (v : Value) (start level : ℕ) (old : Slots) (e : ParseFault) → IsPath f.path
    → 238 < length (path_events (start + length f.leading) f.path)
    → IfToml e (λ r. r ≡ record { message = recursion_limit; span = None; input = source })
    → IfToml e (NamesPair source f v start level old)
too-long source f v start level old e is many h =
    mapped e _ _ (λ r named. inl (
      named.0,
      Contains-append_left (long_path f.path) (value_faults v (value_at_byte start f) level)
          (fault_of r) named.1,
    ))
    (path-too-long source f.path (start + length f.leading) e is many h)

-- ---- where it stands

pub path-stands : (source : Text) (start : ℕ) (f : Frame) (t : Text) → Stands source start (frame_text f t)
    → Stands source (start + length f.leading) (path_text f.path)
path-stands source start f t h =
    stands-left source (start + length f.leading) (path_text f.path) _ (stands-right source start f.leading _ h)

pub value-stands : (source : Text) (start : ℕ) (f : Frame) (t : Text) → Stands source start (frame_text f t)
    → Stands source (value_at_byte start f) t
value-stands source start f t h =
    let behind : Text = t ++ f.trailing in
    let signs : Text = codes "=" ++ (f.after_equals ++ behind) in
    let key = start + length f.leading in
    let at = key + length (path_text f.path) in
    let one = stands-right source start f.leading (path_text f.path ++ (f.before_equals ++ signs)) h in
    let two = stands-right source key (path_text f.path) (f.before_equals ++ signs) one in
    let three = stands-right source at f.before_equals signs two in
    let four = stands-right source (at + length f.before_equals) (codes "=") (f.after_equals ++ behind) three in
    stands-left source (value_at_byte start f) t f.trailing (stands-right source (at + length f.before_equals
    + 1) f.after_equals behind four)

-- ---- the value

-- a value that is refused is named
pub value-refused : (source : Text) (f : Frame) (v : Value) (start level : ℕ) (old : Slots) (e : ParseFault)
    → IfToml e (NamesOne source (value_faults v (value_at_byte start f) level))
    → IfToml e (NamesPair source f v start level old)
value-refused source f v start level old e h =
    mapped e _ _ (λ r is. inl (
      is.0,
      Contains-append_right (long_path f.path) (value_faults v (value_at_byte start f) level) (fault_of r)
          is.1,
    )) h

pub value_place : (start : ℕ) (f : Frame) → value_at_byte start f ≡ start + value_start spanned_form f + length f.after_equals
value_place start f = omega arith

-- a pair whose value was read is added
pub pair-read : (source : Text) (f : Frame) (v : Value) (start level : ℕ) (more : List Event) (old new : Slots) (n : Node)
    (inner : List Event)
    (result : Result (Bor (List Event)) ParseFault) → long_path f.path ≡ []
    → IsRead v (value_at_byte start f) level (event After (value_at_byte start f + length (value_text v)) f.trailing ∷ more) n inner
    → EndsPair source f v start (value_at_byte start f + length (value_text v)) n (shortened level more) old new result
    → ReadsPair source f v start level more old new result
pair-read source f v start level more old new n inner (Ok r) short h e =
    record {
      short = short;
      faultless = h.faultless;
      rest_is = e.0;
      item = with_decor (decor_at spanned_form (start + value_start spanned_form f) f.after_equals (value_at_byte start f
          + length (value_text v)) f.trailing) n;
      node = h.node (start + value_start spanned_form f) f.after_equals f.trailing (value_place start f);
      added = e.1;
    }
pair-read source f v start level more old new n inner (Err err) short h e = mapped err _ _ (λ r c. inr c) e

-- the decor of a value, and of the key before it
pub value-decor : (start end : ℕ) (f : Frame) (prefix suffix : Raw) (after : Span) → prefix ≡ spanned_raw (frame_parts start f).after_equals
    → suffix ≡ spanned_raw after
    → after ≡ span_at end f.trailing → both_sides prefix suffix
    ≡ decor_at spanned_form (start + value_start spanned_form f) f.after_equals end f.trailing
value-decor start end f prefix suffix after left right e =
    let key = start + length f.leading in
    let at = key + length (path_text f.path) + length f.before_equals + 1 in
    let place : at ≡ start + value_start spanned_form f = omega arith in
    ap (λ r. both_sides r suffix) (left ∙ spanned_raw-is at f.after_equals ∙ ap (λ i. span_of i f.after_equals) place)
    ∙ ap (both_sides (span_of (start + value_start spanned_form f) f.after_equals)) (right ∙ ap spanned_raw e
    ∙ spanned_raw-is end f.trailing)

pub key-decor : (start : ℕ) (f : Frame) (prefix suffix : Raw) → prefix ≡ spanned_raw (frame_parts start f).leading → suffix
    ≡ spanned_raw (frame_parts start f).before_equals
    → both_sides prefix suffix ≡ frame_leaf spanned_form start f
key-decor start f prefix suffix left right =
    ap (λ r. both_sides r suffix) (left ∙ spanned_raw-is start f.leading)
    ∙ ap (both_sides (span_of start f.leading)) (right
    ∙ spanned_raw-is (start + length f.leading + length (path_text f.path)) f.before_equals)

begins : (p : List Segment) → begins_unspaced p ≡ true → first_before p ≡ []
begins [] e = refl
begins (s ∷ p) e = is_empty-nil s.before e

nothing_at : (i : ℕ) (p : List Segment) → begins_unspaced p ≡ true → record { start = i; end = i } ≡ span_at i (first_before p)
nothing_at i p e =
    let none : i ≡ i + 0 = omega arith in
    ap (λ j. let s : Span = record { start = i; end = j } in s) none ∙ ap (span_at i) (sym (begins p e))

-- a path begins where the text before it ends
pub path-begins : (start : ℕ) (t : Text) (p : List Segment) (before : Span) → IsPath p → before ≡ span_at start t
    → record { start = before.end; end = before.end } ≡ span_at (start + length t) (first_before p)
path-begins start t p before is e =
    ap (λ (x : Span). let s : Span = record { start = x.end; end = x.end } in s) e ∙ nothing_at (start + length t) p is.begins

pub path-ends : (p : List Segment) → IsPath p → IsEndOfPath p
path-ends p is = record { some = path-some p is; ends = is.ends; spelled = is.spelled }
