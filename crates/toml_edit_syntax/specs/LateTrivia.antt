-- The first newline or comment of trivia, found from left to right.
use Rattle.std.specs.Prelude.{ℕ, ◌+◌, Bool, not, ◌&&◌, ◌==◌, if◌then◌else◌, [], ◌∷◌, Option, Some, None}
use Rattle.std.specs.List.{prefix_len}
use Rattle.toml_edit_model.specs.Text.{Text, line_feed, carriage_return, hash}
use Rattle.toml_edit_laws.specs.reading.Runs.{first}
use Rattle.toml_edit_syntax.specs.declared.event.Span.{Span}
use Rattle.toml_edit_syntax.specs.LateSpellings.{span_from}

-- no newline begins at the byte
abbrev pub is_in_line : ℕ → Bool
is_in_line c = not (c == line_feed) && not (c == carriage_return)

abbrev pub late_in_trivia : ℕ → Text → Option Span
late_in_trivia i [] = None
late_in_trivia i (c ∷ t) =
    if c == line_feed then Some (span_from i 1)
    else if c == carriage_return && first t == line_feed then Some (span_from i 2)
    else if c == hash then Some (span_from i (1 + prefix_len is_in_line t))
    else late_in_trivia (i + 1) t
