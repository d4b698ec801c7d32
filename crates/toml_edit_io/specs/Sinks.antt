-- What a call does to each of the three sinks: `before` and `after` say whether it has a fault.
use Rattle.std.specs.Prelude.{◌≡◌, ℕ, Bool, true, false, List, ◌++◌, Option}
use Rattle.std.specs.Borrow.{MutBor}
use Rattle.std.specs.declared.fmt.Formatter.{Formatter}
use Rattle.std.specs.Fmt.{IsPlainFormatter, HasWritten}
use Rattle.std.specs.Io.KnownBytes.{Appends}
use Rattle.toml_edit_io.specs.Streams.{AppendsBeginning}

-- a formatter: the text was written to it, unless it has a fault
pub record Shows {W : Type 0} (took : W → List ℕ → W → Type 0) (before : Bool)
    (f : MutBor (Formatter W)) (text : List ℕ) (after : Bool)
    (g : MutBor (Formatter W)) : Type 0 where
  pub same_reference : g.ghost_name ≡ f.ghost_name
  pub clean : after ≡ false → before ≡ false
  pub wrote : after ≡ false → IsPlainFormatter f.now → HasWritten took f.now text g.now

-- a `String`: it grew by the text, unless memory ran out
pub record Grows (before : Bool) (old text : List ℕ) (after : Bool) (new : List ℕ) : Type 0 where
  pub clean : after ≡ false → before ≡ false
  pub grew : after ≡ false → new ≡ old ++ text

-- an output, and what is held for it: of what was held and the text after it, a beginning was
-- written and the rest is held, or is lost by a fault; nothing is written after a fault
pub record Writes {O : Type 0} (contents : O → Option (List ℕ)) (has_failed : O → Bool)
    (before : Bool) (o : MutBor O) (held text : List ℕ) (after : Bool) (p : MutBor O)
    (rest : List ℕ) : Type 0 where
  pub same_reference : p.ghost_name ≡ o.ghost_name
  pub clean : after ≡ false → before ≡ false
  pub whole : after ≡ false
      → (front : List ℕ) × Appends (contents o.now) (contents p.now) front
      × (front ++ rest ≡ held ++ text)
  pub works : after ≡ false → has_failed p.now ≡ has_failed o.now
  pub beginning : before ≡ false → after ≡ true
      → AppendsBeginning (contents o.now) (contents p.now) (held ++ text)
  pub fails : before ≡ false → after ≡ true → has_failed p.now ≡ true
  pub stays : before ≡ true → (after ≡ true) × (p.now ≡ o.now)
