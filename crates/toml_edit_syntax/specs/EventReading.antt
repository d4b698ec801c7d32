-- What reading gives, seen as the events of its parts, in a text of `whole` bytes.
use Rattle.std.specs.Prelude.{◌≡◌, ◌≢◌, ℕ, ◌-◌, Bool, List, [], ◌∷◌, ◌++◌, length, codes, Option, Some, None}
use Rattle.toml_edit_model.specs.Text.{Text}
use Rattle.toml_edit_syntax.specs.declared.event.EventKind.{EventKind}
use Rattle.toml_edit_syntax.specs.declared.event.EventKind.TheVariants.{ArrayOpen, ArrayClose, InlineTableOpen, InlineTableClose, Before}
use Rattle.toml_edit_syntax.specs.declared.event.EventKind.TheVariants.{Equals}
use Rattle.toml_edit_syntax.specs.declared.event.Event.{Event}
use Rattle.toml_edit_syntax.specs.declared.value.Brackets.{Brackets}
use Rattle.toml_edit_syntax.specs.declared.value.Brackets.TheVariants as brackets
use Rattle.toml_edit_laws.specs.reading.ScalarReading.{scalar_at}
use Rattle.toml_edit_syntax.specs.Scanning.{equals_at}
use Rattle.toml_edit_syntax.specs.ValueEvents.{event, path_events, frame_events, close_events, value_events, elements_events, pairs_events}
use Rattle.toml_edit_syntax.specs.ValueReading.{Reading, got, deep, wrong, reading, lone_scalar, segments_at, frame_at, value_from}
use Rattle.toml_edit_syntax.specs.ValueReading.{elements_at, pairs_at}

-- the events of a part, by that part and the text after it
abbrev pub seen : {A : Type 0} → (A → Text → List Event) → Reading A → Reading (List Event)
seen events (got a rest) = got (events a rest) rest
seen events (deep es) = deep es
seen events wrong = wrong

-- such a reading, whatever text is after it
abbrev pub without_rest : Reading (List Event) → Reading (List Event)
without_rest (got es rest) = got es []
without_rest (deep es) = deep es
without_rest wrong = wrong

-- such a reading after these events
abbrev pub preceded : List Event → Reading (List Event) → Reading (List Event)
preceded es (got more rest) = got (es ++ more) rest
preceded es (deep more) = deep (es ++ more)
preceded es wrong = wrong

abbrev pub opening : Brackets → EventKind
opening brackets.Array = ArrayOpen
opening brackets.InlineTable = InlineTableOpen

abbrev pub closing : Brackets → EventKind
closing brackets.Array = ArrayClose
closing brackets.InlineTable = InlineTableClose

abbrev pub opening_byte : Brackets → ℕ
opening_byte brackets.Array = 0x5B
opening_byte brackets.InlineTable = 0x7B

abbrev pub closing_byte : Brackets → ℕ
closing_byte brackets.Array = 0x5D
closing_byte brackets.InlineTable = 0x7D

-- these brackets are opened by this byte, or none
abbrev pub OpenedBy : ℕ → Option Brackets → Type 0
OpenedBy byte (Some b) = byte ≡ opening_byte b
OpenedBy byte None = (b : Brackets) → byte ≢ opening_byte b

-- the end of a list whose closing bracket is at the front of this text, after this text
abbrev pub close_read : Brackets → ℕ → Bool → Text → Text → List Event
close_read b whole comma inner t =
    close_events (closing b) (closing_byte b ∷ []) (whole - length t) comma inner

-- the segments of a key, after the white space before the first
abbrev pub path_read : ℕ → ℕ → Text → Text → Reading (List Event)
path_read n whole before t =
    seen (λ p _. path_events (whole - length t - length before) p)
    (reading (segments_at n before t))

-- the sign `=`, between white space and white space
abbrev pub equals_read : ℕ → Text → Reading (List Event)
equals_read whole t =
    seen (λ e rest. event Equals (whole - length rest - length e.1 - 1) (codes "=") ∷ [])
    (reading (equals_at t))

-- a pair up to its value, after its trivia
abbrev pub frame_read : ℕ → Text → Text → Reading (List Event)
frame_read whole leading t =
    seen (λ f _. frame_events (whole - length t - length leading) f) (frame_at leading t)

-- what is in front of the value of an element or a pair, after its trivia
abbrev pub head_read : Brackets → ℕ → Text → Text → Reading (List Event)
head_read brackets.Array whole leading t =
    got (event Before (whole - length t - length leading) leading ∷ []) t
head_read brackets.InlineTable whole leading t = frame_read whole leading t

abbrev pub scalar_read : ℕ → Text → Reading (List Event)
scalar_read whole t = seen (λ v _. value_events (whole - length t) v) (lone_scalar t (scalar_at t))

abbrev pub value_read : ℕ → ℕ → ℕ → Text → Reading (List Event)
value_read n level whole t =
    seen (λ v _. value_events (whole - length t) v) (value_from n level (whole - length t) t)

-- the elements or the pairs after an opening bracket, and the closing bracket
abbrev pub items_read : Brackets → ℕ → ℕ → ℕ → Bool → Text → Reading (List Event)
items_read brackets.Array n level whole comma t =
    seen (λ p rest. elements_events (whole - length t) p.0
    ++ close_events ArrayClose (codes "]") (whole - length rest - 1) p.1.0 p.1.1)
    (elements_at n level (whole - length t) comma t)
items_read brackets.InlineTable n level whole comma t =
    seen (λ p rest. pairs_events (whole - length t) p.0
    ++ close_events InlineTableClose (codes "}") (whole - length rest - 1) p.1.0 p.1.1)
    (pairs_at n level (whole - length t) comma t)
