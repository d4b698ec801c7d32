-- A part of a text that is held in common.
use Rattle.std.specs.Prelude.{ℕ, ◌+◌, ◌≤◌, List, take, drop, length, string_bytes, IsUtf8}
use Rattle.std.specs.Arc.{arc_value}
use Rattle.std.specs.declared.alloc.Global.{Global}
use Rattle.std.specs.declared.sync.Arc.{Arc}
use Rattle.std.specs.declared.string.String.{String}

-- the bytes of the text from `start` on, so many
abbrev pub shown_part : Arc (String Global) Global → ℕ → ℕ → List ℕ
shown_part text start len = take len (drop start (string_bytes (arc_value text)))

-- they lie in the text, and are a text
pub record IsShown (text : Arc (String Global) Global) (start len : ℕ) : Type 0 where
  pub inside : start + len ≤ length (string_bytes (arc_value text))
  pub utf8 : ∥ IsUtf8 (shown_part text start len) ∥₁
