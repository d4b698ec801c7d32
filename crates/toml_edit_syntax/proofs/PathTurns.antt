-- The events of a key and of a pair up to its value, a step at a time.
use Rattle.std.proofs.Common.{◌≡◌, ◌≢◌, ℕ, zero, suc, ◌+◌, ◌-◌, ◌≤◌, ◌==◌, List, [], ◌∷◌, ◌++◌, length, drop, Option, Some, None, refl, sym}
use Rattle.std.proofs.Common.{ap, ◌∙◌, inl, inr, arith, codes}
use Rattle.std.specs.Prelude.{option_map}
use Rattle.std.proofs.lemmas.Bool.{ne_eqb, eq-eqb}
use Rattle.std.proofs.lemmas.Option.{none-some}
use Rattle.std.proofs.lemmas.List.{length-append, length-take-le}
use Rattle.toml_edit_model.specs.Text.{Text}
use Rattle.toml_edit_model.specs.Trivia.{is_blank}
use Rattle.toml_edit_model.specs.Syntax.{Segment, Frame, segment_text, path_text}
use Rattle.toml_edit_syntax.specs.declared.event.EventKind.TheVariants.{Leading, Key, BeforeDot, AfterDot, Equals}
use Rattle.toml_edit_syntax.specs.declared.event.Event.{Event}
use Rattle.toml_edit_laws.specs.reading.Runs.{first, split_while, Read}
use Rattle.toml_edit_laws.specs.reading.Tokens.{key_at, string_at}
use Rattle.toml_edit_syntax.specs.Scanning.{front, equals_at}
use Rattle.toml_edit_syntax.specs.ValueEvents.{event, path_events, frame_events}
use Rattle.toml_edit_syntax.specs.ValueReading.{got, wrong, follow, changed, reading, segments_at, path_at}
use Rattle.toml_edit_syntax.specs.EventReading.{seen, preceded, equals_read, path_read, frame_read}
use Rattle.toml_edit_laws.proofs.reading.Steps.{chosen}
use Rattle.toml_edit_laws.proofs.common.OptionSteps.{bind_some, map_some}
use Rattle.toml_edit_syntax.proofs.ScanningLaws.{equals_takes}
use Rattle.toml_edit_syntax.proofs.PathLaws.{path_takes}
use Rattle.toml_edit_syntax.proofs.EventSteps.{between, event_is, followed}

-- ---- a key

pub map_none : {A B : Type 0} (o : Option A) (f : A → B) → option_map f o ≡ None → o ≡ None
map_none None f e = refl
map_none (Some x) f e = absurd cc

key_nil : key_at [] ≡ None
unfolding key_at string_at
key_nil = refl

pub path_wrong : (n whole : ℕ) (before t : Text) → key_at t ≡ None → path_read n whole before t ≡ wrong
unfolding segments_at
path_wrong zero whole before t e = refl
path_wrong (suc n) whole before t e = rw e refl

-- no more is left than may be read
some_left : (n : ℕ) (t end : Text) → length t ≤ n → option_map (λ (p : Text × Text). p.1) (key_at t) ≡ Some end → (m : ℕ) × (n ≡ suc m)
some_left (suc m) t end room found = (m, refl)
some_left zero [] end room found = absurd (none-some _ (sym (ap (option_map (λ (p : Text × Text). p.1)) key_nil) ∙ found))
some_left zero (c ∷ cs) end room found = absurd (omega arith)

some_same : {A : Type 0} (x y : A) → Some x ≡ Some y → x ≡ y
some_same x y e = cc

segments_begin : (n : ℕ) (before t rest : Text) (p : List Segment) → segments_at n before t ≡ Some (p, rest) → (s : Segment)
    × (q : List Segment) × (p ≡ s ∷ q) × (s.before ≡ before)
unfolding segments_at
segments_begin zero before t rest p e = absurd cc
segments_begin (suc n) before t rest p e =
    let (k, found, h) = bind_some (key_at t) _ (p, rest) e in
    elim (chosen (first (split_while is_blank k.1).1 == 46) _ _ (Some (p, rest)) h) [
      | inl (dot, g) ↦
          let w = split_while is_blank k.1 in
          let next = split_while is_blank (drop 1 w.1) in
          let (q, later, same) =
          map_some (segments_at n next.0 next.1) (λ (q : List Segment
          × Text). (record { before = before; key = k.0; spelled = front t k.1; after = w.0 } ∷ q.0, q.1)) (p, rest) g in (
            record { before = before; key = k.0; spelled = front t k.1; after = w.0 },
            q.0,
            sym (ap (λ (y : List Segment × Text). y.0) same),
            refl,
          )
      | inr (none, g) ↦
          let last : Segment = record { before = before; key = k.0; spelled = front t k.1; after = [] } in
          (last, [], sym (ap (λ (y : List Segment × Text). y.0) (some_same (last ∷ [], k.1) (p, rest) g)), refl)
    ]

in_front : (a d b e c f : Event) (m n : ℕ) (p : List Segment) → a ≡ d → b ≡ e → c ≡ f → m ≡ n → a ∷ b ∷ c ∷ path_events m p ≡ d ∷ e ∷ f
    ∷ path_events n p
in_front a d b e c f m n p x y z w = rw (x, y, z, w) refl

segments_more : (n : ℕ) (before t end w dot after next : Text) (k : Text × Text) → key_at t ≡ Some k → k.1 ≡ end → split_while is_blank end
    ≡ (w, dot)
    → split_while is_blank (drop 1 dot) ≡ (after, next) → first dot ≡ 46
    → segments_at (suc n) before t ≡ option_map (λ p. (record { before = before; key = k.0; spelled = front t end; after = w } ∷ p.0, p.1))
    (segments_at n after next)
unfolding segments_at
segments_more n before t end w dot after next (k, rest) is same split more here =
    let w-is : (split_while is_blank end).0 ≡ w = ap (λ (p : Text × Text). p.0) split in
    let dot-is : (split_while is_blank end).1 ≡ dot = ap (λ (p : Text × Text). p.1) split in
    let after-is : (split_while is_blank (drop 1 dot)).0 ≡ after = ap (λ (p : Text × Text). p.0) more in
    let next-is : (split_while is_blank (drop 1 dot)).1 ≡ next = ap (λ (p : Text × Text). p.1) more in
    rw (is, same, dot-is, w-is, eq-eqb (first dot) 46 here, after-is, next-is) refl

-- the segment in front of others
seen_more : (r : Read (List Segment)) (s : Segment) (at start : ℕ) (es : List Event)
    → ((p : List Segment) (rest : Text) → r ≡ Some (p, rest) → path_events at (s ∷ p) ≡ es ++ path_events start p)
    → seen (λ p _. path_events at p) (reading (option_map (λ (p : List Segment × Text). (s ∷ p.0, p.1)) r))
    ≡ preceded es (seen (λ p _. path_events start p) (reading r))
seen_more None s at start es same = refl
seen_more (Some (p, rest)) s at start es same = ap (λ (x : List Event). got x rest) (same p rest refl)

module _ (n whole : ℕ) (before t end : Text) (fits : length before + length t ≤ whole) (within : length end ≤ length t)
    (found : option_map (λ (p : Text × Text). p.1) (key_at t)
    ≡ Some end) (w dot : Text) (split : ◌≡◌ {A = Text × Text} (w, dot) (split_while is_blank end)) where
  abbrev pub key : Event
  key = between Key (whole - length t) (whole - length end)

  spelled_length : length (front t end) ≡ length t - length end
  spelled_length = length-take-le (length t - length end) t (omega arith)

  key_is : event Key (whole - length t - length before + length before) (front t end) ≡ key
  key_is = event_is Key _ _ _ (front t end) (omega (arith, fits)) (omega (arith, fits, within, spelled_length))

  path_last : (m : ℕ) → first dot ≢ 46 → path_read (suc m) whole before t ≡ got (key ∷ []) end
  unfolding segments_at
  path_last m other =
      let (k, is, same) = map_some (key_at t) (λ (p : Text × Text). p.1) end found in
      let dot-is : (split_while is_blank k.1).1 ≡ dot = ap (λ (x : Text). (split_while is_blank x).1) same
      ∙ sym (ap (λ (p : Text × Text). p.1) split) in
      rw (is, dot-is, ne_eqb (first dot) 46 other) (ap (λ (x : Text). got (event Key (whole - length t - length before
      + length before) (front t x) ∷ []) x) same ∙ ap (λ (x : Event). got (x ∷ []) end) key_is)

  pub path_ends : length t ≤ n → first dot ≢ 46 → path_read n whole before t ≡ got (key ∷ []) end
  path_ends room other =
      let (m, is) = some_left n t end room found in
      ap (λ (k : ℕ). path_read k whole before t) is ∙ path_last m other

  module _ (after next : Text) (more : ◌≡◌ {A = Text × Text} (after, next) (split_while is_blank (drop 1 dot))) where
    abbrev pub dots : List Event
    dots = between BeforeDot (whole - length end) (whole - length dot)
        ∷ between AfterDot (whole - length next - length after) (whole - length next) ∷ []

    module _ (lens : length w + length dot ≡ length end) (less : length after + length next + 1 ≡ length dot) where
      abbrev at : ℕ
      at = whole - length t - length before

      abbrev start : ℕ
      start = whole - length next - length after

      parts : (s : Segment) → s.before ≡ before → s.spelled ≡ front t end → s.after ≡ w → (m : ℕ) (p : List Segment) (rest : Text)
          → segments_at m after next ≡ Some (p, rest) → path_events at (s ∷ p) ≡ key ∷ dots ++ path_events start p
      parts s before-is spelled-is after-is m p rest e =
          let (r, q, p-is, r-is) = segments_begin m after next rest p e in
          let x : length s.before ≡ length before = ap length before-is in
          let y : length s.spelled ≡ length t - length end = ap length spelled-is ∙ spelled_length in
          let z : length s.after ≡ length w = ap length after-is in
          let v : length r.before ≡ length after = ap length r-is in
          let place : at + length (segment_text s) + 1 ≡ start =
          omega (arith, length-append s.before (s.spelled ++ s.after), length-append s.spelled s.after) in
          let first_event : event Key (at + length s.before) s.spelled ≡ key = event_is Key _ _ _ s.spelled (omega arith) (omega arith) in
          let second : event BeforeDot (at + length s.before + length s.spelled) s.after
          ≡ between BeforeDot (whole - length end) (whole - length dot) =
          event_is BeforeDot _ _ _ s.after (omega arith) (omega arith) in
          let third : event AfterDot (at + length (segment_text s) + 1) r.before ≡ between AfterDot start (whole - length next) =
          event_is AfterDot _ _ _ r.before place (omega arith) in
          ap (λ (x : List Segment). path_events at (s ∷ x)) p-is
          ∙ in_front _ key _ _ _ _ _ start (r ∷ q) first_event second third place
          ∙ ap (λ (x : List Segment). key ∷ dots ++ path_events start x) (sym p-is)

      path_more : (m : ℕ) → first dot ≡ 46 → path_read (suc m) whole before t ≡ preceded (key ∷ dots) (path_read m whole after next)
      path_more m here =
          let (k, is, same) = map_some (key_at t) (λ (p : Text × Text). p.1) end found in
          let s : Segment = record { before = before; key = k.0; spelled = front t end; after = w } in
          ap (λ (r : Read (List Segment)). seen (λ p _. path_events at p) (reading r))
          (segments_more m before t end w dot after next k is same (sym split) (sym more) here)
          ∙ seen_more (segments_at m after next) s at start (key ∷ dots) (parts s refl refl refl m)

      pub path_goes : length t ≤ n → first dot ≡ 46 → (m : ℕ) × (n ≡ suc m)
          × (path_read n whole before t ≡ preceded (key ∷ dots) (path_read m whole after next))
      path_goes room here =
          let (m, is) = some_left n t end room found in
          (m, is, ap (λ (k : ℕ). path_read k whole before t) is ∙ path_more m here)

-- ---- a pair up to its value

module _ (whole : ℕ) (leading t : Text) (fits : length leading + length t ≤ whole) where
  abbrev front_at : ℕ
  front_at = whole - length t - length leading

  abbrev pub lead : Event
  lead = between Leading front_at (whole - length t)

  abbrev framed : List Segment → Text × Text → Frame
  framed p e = record { leading = leading; path = p; before_equals = e.0; after_equals = e.1; trailing = [] }

  sides : (p : List Segment) (rest : Text) (e : Text × Text) (more : Text) → path_at t ≡ Some (p, rest) → equals_at rest ≡ Some (e, more)
      → frame_events front_at (framed p e) ≡ lead ∷ path_events (whole - length t - 0) p
      ++ (event Equals (whole - length more - length e.1 - 1) (codes "=") ∷ [])
  sides p rest e more found sign =
      let x = ap length (path_takes t rest p found).parts in
      let y = ap length (equals_takes rest more e sign).2 in
      let before = front_at + length leading + length (path_text p) in
      let lens : length (path_text p) + length rest ≡ length t = omega (arith, x, length-append (path_text p) rest) in
      let white : length e.0 + (length e.1 + length more) + 1 ≡ length rest =
      omega (arith, y, length-append e.0 (61 ∷ (e.1 ++ more)), length-append e.1 more) in
      in_frame _ lead _ _ _ _ p (event_is Leading front_at _ _ leading refl (omega arith)) (omega arith)
      (ap (λ (n : ℕ). event Equals n (codes "=")) (omega arith))
    where
      in_frame : (a b c d : Event) (m n : ℕ) (p : List Segment) → a ≡ b → m ≡ n → c ≡ d → a ∷ path_events m p ++ (c ∷ []) ≡ b
          ∷ path_events n p ++ (d ∷ [])
      in_frame a b c d m n p x y z = rw (x, y, z) refl

  sign_read : (p : List Segment) (rest : Text) (q : Read (Text × Text)) → path_at t ≡ Some (p, rest) → equals_at rest ≡ q
      → seen (λ f _. frame_events front_at f) (changed (framed p) (reading q))
      ≡ preceded (lead ∷ []) (preceded (path_events (whole - length t - 0) p)
      (seen (λ e more. event Equals (whole - length more - length e.1 - 1) (codes "=") ∷ []) (reading q)))
  sign_read p rest None found sign = refl
  sign_read p rest (Some (e, more)) found sign = ap (λ (es : List Event). got es more) (sides p rest e more found sign)

  pub frame_turn : frame_read whole leading t ≡ preceded (lead ∷ []) (followed (path_read (length t) whole [] t) (equals_read whole))
  frame_turn = by_path (path_at t) refl
    where
      by_path : (r : Read (List Segment)) → path_at t ≡ r
          → seen (λ f _. frame_events front_at f) (follow (reading r) (λ p rest. changed (framed p) (reading (equals_at rest))))
          ≡ preceded (lead ∷ []) (followed (seen (λ p _. path_events (whole - length t - 0) p) (reading r)) (equals_read whole))
      by_path None found = refl
      by_path (Some (p, rest)) found = sign_read p rest (equals_at rest) found refl
