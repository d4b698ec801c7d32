-- What a `PackedText` is, and the text that a span becomes.
use Rattle.std.specs.Prelude.{◌≤◌, ◌-◌, ℕ, Bool, true, nat_le, List, length, take, drop, Option, Some, None}
use Rattle.std.specs.Str.{IsCharBoundary}

-- a text, or from one byte of a source up to another, or neither
pub data Packed : Type 0 where
  held : List ℕ → Packed
  span : ℕ → ℕ → Packed
  unset : Packed

abbrev pub text_of : Packed → Option (List ℕ)
text_of (held t) = Some t
text_of (span i j) = None
text_of unset = None

abbrev pub span_of : Packed → Option (ℕ × ℕ)
span_of (held t) = None
span_of (span i j) = Some (i, j)
span_of unset = None

-- the text from one byte of the source up to another
abbrev pub part : List ℕ → ℕ → ℕ → List ℕ
part source i j = take (j - i) (drop i source)

-- they are in order, and on boundaries of characters
pub record IsPart (source : List ℕ) (i j : ℕ) : Type 0 where
  pub start : IsCharBoundary source i
  pub end : IsCharBoundary source j
  pub order : i ≤ j

-- a span lies in the source
abbrev pub LiesIn : List ℕ → Packed → Type 0
LiesIn source (held t) = Unit {0}
LiesIn source (span i j) = IsPart source i j
LiesIn source unset = Unit {0}

-- a span turned into the text that it covers
abbrev pub despanned : List ℕ → Packed → Packed
despanned source (held t) = held t
despanned source (span i j) = held (part source i j)
despanned source unset = unset

-- it takes no memory: a text of at most 14 bytes, or no text
abbrev pub is_short : List ℕ → Bool
is_short t = nat_le (length t) 14

abbrev pub is_free : Packed → Bool
is_free (held t) = is_short t
is_free (span i j) = true
is_free unset = true
