-- Reading a value at the front of a text, from left to right.
use Rattle.std.specs.Prelude.{ℕ, zero, suc, ◌+◌, ◌-◌, Bool, true, false, ◌==◌, if◌then◌else◌, List, [], ◌∷◌, ◌++◌, length, take, drop}
use Rattle.std.specs.Prelude.{codes, Some, None, option_map, option_and_then}
use Rattle.toml_edit_model.specs.Text.{Text}
use Rattle.toml_edit_model.specs.Trivia.{is_blank}
use Rattle.toml_edit_model.specs.Scalars.{Scalar}
use Rattle.toml_edit_model.specs.Syntax.{Segment, Around, Frame, Value, scalar, array, inline_table, Elements, no_elements, element, Pairs}
use Rattle.toml_edit_model.specs.Syntax.{no_pairs, pair, value_text, nesting_limit}
use Rattle.toml_edit_syntax.specs.declared.event.EventKind.{EventKind}
use Rattle.toml_edit_syntax.specs.declared.event.EventKind.TheVariants.{Before, After, ArrayOpen, InlineTableOpen, TooDeep}
use Rattle.toml_edit_syntax.specs.declared.event.Event.{Event}
use Rattle.toml_edit_laws.specs.reading.Runs.{first, split_while, Read}
use Rattle.toml_edit_laws.specs.reading.Tokens.{key_at}
use Rattle.toml_edit_laws.specs.reading.ScalarReading.{scalar_at}
use Rattle.toml_edit_syntax.specs.Scanning.{front, scan, equals_at}
use Rattle.toml_edit_syntax.specs.ValueEvents.{event, frame_events, value_events}

-- What is read at the front of a text: a part and the text after it; or the events up to a bracket
-- that is one too many; or none.
pub data Reading (A : Type 0) : Type 0 where
  got : A → Text → Reading A
  deep : List Event → Reading A
  wrong : Reading A

-- what a part and the text after it lead to
abbrev pub follow : {A B : Type 0} → Reading A → (A → Text → Reading B) → Reading B
follow (got a rest) next = next a rest
follow (deep es) next = deep es
follow wrong next = wrong

-- the part by way of this function
abbrev pub changed : {A B : Type 0} → (A → B) → Reading A → Reading B
changed f (got a rest) = got (f a) rest
changed f (deep es) = deep es
changed f wrong = wrong

-- after parts with these events
abbrev pub behind : {A : Type 0} → List Event → Reading A → Reading A
behind es (got a rest) = got a rest
behind es (deep more) = deep (es ++ more)
behind es wrong = wrong

abbrev pub reading : {A : Type 0} → Read A → Reading A
reading None = wrong
reading (Some p) = got p.0 p.1

-- white space, newlines and comments with their newlines
unfoldable pub trivia_at : Text → Reading Text
trivia_at t =
    if (scan false t).1 then wrong else got (take (scan false t).0 t) (drop (scan false t).0 t)

-- the segments of a key with at most so many dots, the first of which has this before it
unfoldable pub segments_at : ℕ → Text → Text → Read (List Segment)
segments_at zero before t = None
segments_at (suc n) before t =
    option_and_then (λ k.
    let white = split_while is_blank k.1 in
    let next = split_while is_blank (drop 1 white.1) in
    let spelled = front t k.1 in
    if first white.1 == 46
    then option_map (λ p. (
      record {
        before = before;
        key = k.0;
        spelled = spelled;
        after = white.0;
      } ∷ p.0,
      p.1,
    )) (segments_at n next.0 next.1)
    else Some (record { before = before; key = k.0; spelled = spelled; after = [] } ∷ [], k.1))
    (key_at t)

-- a key
abbrev pub path_at : Text → Read (List Segment)
path_at t = segments_at (length t) [] t

-- a scalar
abbrev pub lone_scalar : Text → Read Scalar → Reading Value
lone_scalar t None = wrong
lone_scalar t (Some p) = got (scalar p.0 (front t p.1)) p.1

-- a pair up to its value, after this trivia
abbrev pub frame_at : Text → Text → Reading Frame
frame_at leading t =
    follow (reading (path_at t)) (λ path rest. changed (λ white. record {
      leading = leading;
      path = path;
      before_equals = white.0;
      after_equals = white.1;
      trailing = [];
    }) (reading (equals_at rest)))

-- what follows an opening bracket inside so many, unless that bracket is one too many
abbrev pub inside : {A : Type 0} → EventKind → Text → ℕ → ℕ → Reading A → Reading A
inside kind bracket level at r =
    if level == nesting_limit then deep (event TooDeep at bracket ∷ [])
    else behind (event kind at bracket ∷ []) r

abbrev pub around : Text → Text → Around
around before after = record { before = before; after = after }

-- Inside so many brackets, at this byte of the text: a value; the elements of an array, and the
-- pairs of an inline table, with the comma that ends them, where one does, and the text before the
-- closing bracket. The comma says that one comes before. The first number bounds the steps.
unfoldable mutual
  pub value_from : ℕ → ℕ → ℕ → Text → Reading Value
  value_from zero level at t = wrong
  value_from (suc n) level at t =
      if first t == 0x5B then inside ArrayOpen (codes "[") level at
      (changed (λ p. array p.0 p.1.0 p.1.1)
      (elements_at n (suc level) (at + 1) false (drop 1 t)))
      else if first t == 0x7B
      then inside InlineTableOpen (codes "{") level at
      (changed (λ p. inline_table p.0 p.1.0 p.1.1)
      (pairs_at n (suc level) (at + 1) false (drop 1 t)))
      else lone_scalar t (scalar_at t)

  pub elements_at : ℕ → ℕ → ℕ → Bool → Text → Reading (Elements × (Bool × Text))
  elements_at zero level at comma t = wrong
  elements_at (suc n) level at comma t =
      follow (trivia_at t) (λ before value.
      if first value == 0x5D then got (no_elements, (comma, before)) (drop 1 value)
      else behind (event Before at before ∷ [])
      (follow (value_from n level (at + length before) value) (λ v rest.
      follow (trivia_at rest) (λ after more.
      let start = at + length before in
      let end = start + length (value_text v) in
      if first more == 0x2C
      then behind (value_events start v ++ event After end after ∷ [])
      (changed (λ p. (element (around before after) v p.0, p.1))
      (elements_at n level (end + length after + 1) true (drop 1 more)))
      else if first more == 0x5D
      then got (element (around before after) v no_elements, (false, [])) (drop 1 more)
      else wrong))))

  pub pairs_at : ℕ → ℕ → ℕ → Bool → Text → Reading (Pairs × (Bool × Text))
  pairs_at zero level at comma t = wrong
  pairs_at (suc n) level at comma t =
      follow (trivia_at t) (λ leading key.
      if first key == 0x7D then got (no_pairs, (comma, leading)) (drop 1 key)
      else follow (frame_at leading key) (λ f value.
      let start = at + (length key + length leading) - length value in
      behind (frame_events at f) (follow (value_from n level start value) (λ v rest.
      follow (trivia_at rest) (λ after more.
      let end = start + length (value_text v) in
      if first more == 0x2C
      then behind (value_events start v ++ event After end after ∷ [])
      (changed (λ p. (pair (record f { trailing = after }) v p.0, p.1))
      (pairs_at n level (end + length after + 1) true (drop 1 more)))
      else if first more == 0x7D
      then got (pair (record f { trailing = after }) v no_pairs, (false, [])) (drop 1 more)
      else wrong)))))
