-- Spans whose places take 56 bits.
use Rattle.std.specs.Prelude.{◌<◌, ◌^◌}
use Rattle.toml_edit_syntax.specs.declared.event.Span.{Span}

-- it begins and ends there
pub record IsNear (s : Span) : Type 0 where
  pub start : s.start < 2 ^ 56
  pub end : s.end < 2 ^ 56
