-- The events of a statement, a part at a time.
use Rattle.std.proofs.Common.{◌≡◌, ℕ, ◌+◌, ◌*◌, ◌-◌, ◌≤◌, Bool, List, [], ◌∷◌, ◌++◌, length, Option, Some, None, refl, sym, ap, ◌∙◌, arith}
use Rattle.std.specs.Prelude.{option_map}
use Rattle.std.proofs.lemmas.Bool.{ne_eqb, eq-eqb}
use Rattle.std.proofs.lemmas.List.{length-append, length-take-le}
use Rattle.toml_edit_model.specs.Text.{Text}
use Rattle.toml_edit_model.specs.Trivia.{is_blank}
use Rattle.toml_edit_model.specs.Syntax.{Segment, Frame, Value, Statement, key_line, path_text, value_text, opening_brackets}
use Rattle.toml_edit_model.specs.Syntax.{closing_brackets}
use Rattle.toml_edit_syntax.specs.declared.event.EventKind.TheVariants.{Leading, BeforeKey, AfterKey, HeaderClose, LineEnd}
use Rattle.toml_edit_syntax.specs.declared.event.Event.{Event}
use Rattle.toml_edit_laws.specs.reading.Runs.{first, split_while, Read}
use Rattle.toml_edit_syntax.specs.Scanning.{front, line_end_rest, newline_rest, opening_at, closing_rest}
use Rattle.toml_edit_syntax.specs.ValueEvents.{event, path_events, frame_events, value_at_byte, value_events}
use Rattle.toml_edit_syntax.specs.ValueReading.{Reading, got, deep, wrong, follow, changed, behind, reading, path_at, frame_at, value_from}
use Rattle.toml_edit_syntax.specs.Events.{header_open, statement_events}
use Rattle.toml_edit_syntax.specs.Reading.{end_at, key_line_at, header_end_at, made_header, header_at, statement_at}
use Rattle.toml_edit_syntax.specs.EventReading.{seen, preceded, path_read, frame_read, value_read}
use Rattle.toml_edit_syntax.specs.StatementReading.{end_read, header_end_read, key_line_read, header_read, statement_read}
use Rattle.toml_edit_syntax.proofs.PathLaws.{path_takes, behind_trivia, frame_parts}
use Rattle.toml_edit_syntax.proofs.HeaderLaws.{closing_takes}
use Rattle.toml_edit_syntax.proofs.EventSteps.{between, event_is, followed}
use Rattle.toml_edit_syntax.proofs.ItemTurns.{value_length}

pub end_found : (whole : ℕ) (t end rest : Text) → length t ≤ whole → length end ≤ length t → end ≡ line_end_rest t → newline_rest end
    ≡ Some rest
    → end_read whole t ≡ got (between LineEnd (whole - length t) (whole - length end) ∷ []) rest
end_found whole t end rest fits within end-is found =
    let len : length (front t end) ≡ length t - length end = length-take-le (length t - length end) t (omega arith) in
    let ended = λ (x : Text) (r : Option Text). seen (λ (e : Text × Text) (_ : Text). event LineEnd (whole - length t) e.0
    ∷ []) (reading (option_map (λ (y : Text). ((front t x, front x y), y)) r)) in
    ap (λ (x : Text). ended x (newline_rest x)) (sym end-is)
    ∙ ap (ended end) found
    ∙ ap (λ (e : Event). got (e ∷ []) rest) (event_is LineEnd _ _ _ (front t end) refl (omega (arith, fits, within, len)))

-- ---- a key line

module _ (whole : ℕ) (leading t : Text) (fits : length leading + length t ≤ whole) where
  abbrev at : ℕ
  at = whole - length t - length leading

  whole-is : at + (length t + length leading) ≡ whole
  whole-is = omega (arith, fits)

  abbrev statement_seen : Statement → Text → List Event
  statement_seen s _ = statement_events at s

  abbrev then_end : Frame → Value → Text → Reading Statement
  then_end f v after = changed (λ e. key_line (record f { trailing = e.0 }) v e.1) (reading (end_at after))

  value_length_is : (f : Frame) (value : Text) → frame_at leading t ≡ got f value → (value_at_byte at f ≡ whole - length value)
      × (length value ≤ whole)
  value_length_is f value framed =
      let parts = ap length (frame_parts leading t value f framed) in
      let a = length-append leading t in
      let b = length-append f.leading (behind_trivia f value) in
      let c = length-append (path_text f.path) (f.before_equals ++ (61 ∷ (f.after_equals ++ value))) in
      let d = length-append f.before_equals (61 ∷ (f.after_equals ++ value)) in
      let e = length-append f.after_equals value in
      (omega (arith, fits, parts, a, b, c, d, e), omega (arith, fits, parts, a, b, c, d, e))

  by_line_end : (f : Frame) (value : Text) (v : Value) (after : Text) → value_at_byte at f ≡ whole - length value → length value ≤ whole
      → length (value_text v) + length after ≡ length value → (r : Read (Text × Text))
      → seen statement_seen (behind (frame_events at f) (changed (λ e. key_line (record f { trailing = e.0 }) v e.1) (reading r)))
      ≡ preceded (frame_events at f) (preceded (value_events (whole - length value) v)
      (seen (λ e _. event LineEnd (whole - length after) e.0 ∷ []) (reading r)))
  by_line_end f value v after place less lens None = refl
  by_line_end f value v after place less lens (Some (e, more)) =
      let end : whole - length value + length (value_text v) ≡ whole - length after = omega (arith, lens, less) in
      ap (λ (n : ℕ). got (frame_events at f ++ (value_events n v ++ (event LineEnd (n + length (value_text v)) e.0 ∷ []))) more) place
      ∙ ap (λ (n : ℕ). got (frame_events at f ++ (value_events (whole - length value) v ++ (event LineEnd n e.0 ∷ []))) more) end

  by_value : (f : Frame) (value : Text) → value_at_byte at f ≡ whole - length value → length value ≤ whole → (r : Reading Value)
      → value_from (2 * length value + 2) 0 (whole - length value) value ≡ r
      → seen statement_seen (behind (frame_events at f) (follow r (then_end f)))
      ≡ preceded (frame_events at f) (followed (seen (λ v _. value_events (whole - length value) v) r) (end_read whole))
  by_value f value place less wrong h = refl
  by_value f value place less (deep es) h = refl
  by_value f value place less (got v after) h =
      by_line_end f value v after place less (value_length (2 * length value + 2) 0 (whole - length value) value after v (omega arith) h)
      (end_at after)

  by_frame : (r : Reading Frame) → frame_at leading t ≡ r
      → seen statement_seen (follow r (λ f value. behind (frame_events at f)
      (follow (value_from (2 * length value + 2) 0 (whole - length value) value) (then_end f))))
      ≡ followed (seen (λ f _. frame_events at f) r) (λ value. followed (value_read (2 * length value + 2) 0 whole value) (end_read whole))
  by_frame wrong framed = refl
  by_frame (deep es) framed = refl
  by_frame (got f value) framed =
      let (place, less) = value_length_is f value framed in
      by_value f value place less (value_from (2 * length value + 2) 0 (whole - length value) value) refl

  pub key_line_turn : key_line_read whole leading t ≡ followed (frame_read whole leading t)
      (λ value. followed (value_read (2 * length value + 2) 0 whole value) (end_read whole))
  unfolding key_line_at
  key_line_turn = rw whole-is (by_frame (frame_at leading t) refl)

  -- ---- a header

  module _ (is_array : Bool) (inside opening key : Text) (opened : ◌≡◌ {A = Bool × Text} (is_array, inside) (opening_at t))
      (lens : length (opening_brackets is_array) + length inside ≡ length t)
      (split : ◌≡◌ {A = Text × Text} (opening, key) (split_while is_blank inside)) (less : length opening + length key
      ≡ length inside) where
    -- up to the key
    abbrev pub heads : List Event
    heads = between Leading at (whole - length t) ∷ between (header_open is_array) (whole - length t) (whole - length inside)
        ∷ between BeforeKey (whole - length inside) (whole - length key) ∷ []

    in_header : (a x b y c z : Event) (m n i j : ℕ) (p : List Segment) (e : Text × (Text × Text)) → a ≡ x → b ≡ y → c ≡ z → m ≡ n → i ≡ j
        → a ∷ b ∷ c ∷ path_events m p ++ (event AfterKey i e.0 ∷ event HeaderClose (i + length e.0) (closing_brackets is_array)
        ∷ event LineEnd (i + length e.0 + length (closing_brackets is_array)) e.1.0 ∷ [])
        ≡ x ∷ y ∷ z ∷ path_events n p ++ (event AfterKey j e.0 ∷ event HeaderClose (j + length e.0) (closing_brackets is_array)
        ∷ event LineEnd (j + length e.0 + length (closing_brackets is_array)) e.1.0 ∷ [])
    in_header a x b y c z m n i j p e f g h k l = rw (f, g, h, k, l) refl

    header_parts : (p : List Segment) (rest : Text) (e : Text × (Text × Text)) → length (path_text p) + length rest ≡ length key
        → statement_events at (made_header leading is_array opening p e)
        ≡ heads ++ (path_events (whole - length key - 0) p
        ++ (event AfterKey (whole - length rest) e.0 ∷ event HeaderClose (whole - length rest + length e.0) (closing_brackets is_array)
        ∷ event LineEnd (whole - length rest + length e.0 + length (closing_brackets is_array)) e.1.0 ∷ []))
    header_parts p rest e path =
        let brackets = at + length leading in
        let before = brackets + length (opening_brackets is_array) in
        in_header _ (between Leading at (whole - length t)) _ (between (header_open is_array) (whole - length t) (whole - length inside)) _
        (between BeforeKey (whole - length inside) (whole - length key)) _ (whole - length key - 0) _ (whole - length rest) p e
        (event_is Leading at at (whole - length t) leading refl (omega (arith, fits)))
        (event_is (header_open is_array) brackets (whole - length t) (whole - length inside) (opening_brackets is_array) (omega (
          arith,
          fits,
        )) (omega (arith, fits, lens)))
        (event_is BeforeKey before (whole - length inside) (whole - length key) opening (omega (arith, fits, lens)) (omega (
          arith,
          fits,
          lens,
          less,
        )))
        (omega (arith, fits, lens, less))
        (omega (arith, fits, lens, less, path))

    by_header_end : (p : List Segment) (rest : Text) → length (path_text p) + length rest ≡ length key → (r : Read (Text × (Text × Text)))
        → seen statement_seen (changed (made_header leading is_array opening p) (reading r))
        ≡ preceded heads (preceded (path_events (whole - length key - 0) p) (seen (λ e _.
        event AfterKey (whole - length rest) e.0 ∷ event HeaderClose (whole - length rest + length e.0) (closing_brackets is_array)
        ∷ event LineEnd (whole - length rest + length e.0 + length (closing_brackets is_array)) e.1.0 ∷ []) (reading r)))
    by_header_end p rest path None = refl
    by_header_end p rest path (Some (e, more)) = ap (λ (es : List Event). got es more) (header_parts p rest e path)

    by_path : (r : Read (List Segment)) → path_at key ≡ r
        → seen statement_seen (follow (reading r) (λ p rest. changed (made_header leading is_array opening p)
        (reading (header_end_at is_array rest))))
        ≡ preceded heads (followed (seen (λ p _. path_events (whole - length key - 0) p) (reading r)) (header_end_read whole is_array))
    by_path None found = refl
    by_path (Some (p, rest)) found =
        by_header_end p rest (omega (arith, ap length (path_takes key rest p found).parts, length-append (path_text p) rest))
        (header_end_at is_array rest)

    pub header_turn : header_read whole leading t ≡ preceded heads
        (followed (path_read (length key) whole [] key) (header_end_read whole is_array))
    unfolding header_at
    header_turn =
        let array-is = ap (λ (p : Bool × Text). p.0) (sym opened) in
        let inside-is = ap (λ (p : Bool × Text). p.1) (sym opened) in
        let opening-is = ap (λ (p : Text × Text). p.0) (sym split) in
        let key-is = ap (λ (p : Text × Text). p.1) (sym split) in
        rw (array-is, inside-is, opening-is, key-is) (by_path (path_at key) refl)

  -- ---- either

  pub statement_header : first t ≡ 0x5B → statement_read whole leading t ≡ header_read whole leading t
  unfolding statement_at
  statement_header here = rw (eq-eqb (first t) 0x5B here) refl

  pub statement_line : (first t ≡ 0x5B → ⊥) → statement_read whole leading t ≡ key_line_read whole leading t
  unfolding statement_at
  statement_line other = rw (ne_eqb (first t) 0x5B other) refl

-- ---- the end of a header

module _ (whole : ℕ) (is_array : Bool) (t closing brackets : Text) (fits : length t ≤ whole) (split : ◌≡◌ {A = Text × Text} (
  closing,
  brackets,
) (split_while is_blank t)) where
  closing-is : (split_while is_blank t).0 ≡ closing
  closing-is = ap (λ (p : Text × Text). p.0) (sym split)

  brackets-is : (split_while is_blank t).1 ≡ brackets
  brackets-is = ap (λ (p : Text × Text). p.1) (sym split)

  pub header_end_wrong : closing_rest is_array brackets ≡ None → header_end_read whole is_array t ≡ wrong
  unfolding header_end_at
  header_end_wrong none = rw (brackets-is, none) refl

  module _ (rest : Text) (found : closing_rest is_array brackets ≡ Some rest) (lens : length closing + length brackets ≡ length t) where
    abbrev pub closes : List Event
    closes = between AfterKey (whole - length t) (whole - length brackets)
        ∷ between HeaderClose (whole - length brackets) (whole - length rest) ∷ []

    in_end : (a x b y : Event) (i j : ℕ) (w : Text) → a ≡ x → b ≡ y → i ≡ j → a ∷ b ∷ event LineEnd i w ∷ [] ≡ x ∷ y ∷ event LineEnd j w
        ∷ []
    in_end a x b y i j w f g h = rw (f, g, h) refl

    by_end : (r : Read (Text × Text))
        → seen (λ (e : Text × (Text × Text)) (_ : Text).
        event AfterKey (whole - length t) e.0 ∷ event HeaderClose (whole - length t + length e.0) (closing_brackets is_array)
        ∷ event LineEnd (whole - length t + length e.0 + length (closing_brackets is_array)) e.1.0 ∷ [])
        (reading (option_map (λ (e : (Text × Text) × Text). ((closing, e.0), e.1)) r))
        ≡ preceded closes (seen (λ e _. event LineEnd (whole - length rest) e.0 ∷ []) (reading r))
    by_end None = refl
    by_end (Some (e, more)) =
        let parts : length (closing_brackets is_array) + length rest ≡ length brackets =
        omega (arith, ap length (closing_takes is_array brackets rest found), length-append (closing_brackets is_array) rest) in
        ap (λ (es : List Event). got es more) (in_end _ (between AfterKey (whole - length t) (whole - length brackets)) _
        (between HeaderClose (whole - length brackets) (whole - length rest)) _ (whole - length rest) e.0
        (event_is AfterKey (whole - length t) (whole - length t) (whole - length brackets) closing refl (omega (arith, fits, lens)))
        (event_is HeaderClose (whole - length t + length closing) (whole - length brackets) (whole - length rest)
        (closing_brackets is_array) (omega (arith, fits, lens)) (omega (arith, fits, lens, parts)))
        (omega (arith, fits, lens, parts)))

    pub header_end_found : header_end_read whole is_array t ≡ preceded closes (end_read whole rest)
    unfolding header_end_at
    header_end_found = rw (closing-is, brackets-is, found) (by_end (end_at rest))
