-- What an error says: its message, the span that it marks, and the text that it is of.
use Rattle.std.specs.Prelude.{◌≤◌, ℕ, Option, None, Some}
use Rattle.std.specs.Str.{IsCharBoundary}
use Rattle.toml_edit_model.specs.Text.{Text}
use Rattle.toml_edit_model.specs.Faults.{Fault}

pub record Report : Type 0 where
  pub message : Text
  pub span : Option (ℕ × ℕ)
  pub input : Text

abbrev pub report : Text → Option (ℕ × ℕ) → Text → Report
report message span input = record { message = message; span = span; input = input }

-- a span lies in the text, on the boundaries of characters
abbrev pub SpanIsIn : Text → Option (ℕ × ℕ) → Type 0
SpanIsIn t None = Unit {0}
SpanIsIn t (Some s) = IsCharBoundary t s.0 × IsCharBoundary t s.1 × (s.0 ≤ s.1)

-- the fault that the error names
abbrev pub fault_of : Report → Fault
fault_of r = record { message = r.message; span = r.span }
