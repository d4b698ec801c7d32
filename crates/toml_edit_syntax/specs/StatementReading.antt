-- What reading gives of statements, seen as the events of their parts, in a text of `whole` bytes.
use Rattle.std.specs.Prelude.{ℕ, ◌+◌, ◌-◌, Bool, List, [], ◌∷◌, length}
use Rattle.toml_edit_model.specs.Text.{Text}
use Rattle.toml_edit_model.specs.Trivia.{is_blank}
use Rattle.toml_edit_model.specs.Syntax.{Statement, closing_brackets}
use Rattle.toml_edit_syntax.specs.declared.event.EventKind.TheVariants.{AfterKey, HeaderClose, LineEnd}
use Rattle.toml_edit_syntax.specs.declared.event.Event.{Event}
use Rattle.toml_edit_laws.specs.reading.Runs.{split_while}
use Rattle.toml_edit_syntax.specs.ValueEvents.{event, value_events}
use Rattle.toml_edit_syntax.specs.ValueReading.{Reading, reading}
use Rattle.toml_edit_syntax.specs.Events.{statement_events}
use Rattle.toml_edit_syntax.specs.Reading.{end_at, key_line_at, header_end_at, header_at, statement_at, statements_at, events_with_final}
use Rattle.toml_edit_syntax.specs.Reading.{lone_at}
use Rattle.toml_edit_syntax.specs.EventReading.{seen}

-- what follows the value of a line, or the brackets of a header
abbrev pub end_read : ℕ → Text → Reading (List Event)
end_read whole t = seen (λ e _. event LineEnd (whole - length t) e.0 ∷ []) (reading (end_at t))

-- what follows the key of a header
abbrev pub header_end_read : ℕ → Bool → Text → Reading (List Event)
header_end_read whole is_array t =
    let start = whole - length t in
    seen (λ e _.
    let close = start + length e.0 in
    event AfterKey start e.0
    ∷ event HeaderClose close (closing_brackets is_array)
    ∷ event LineEnd (close + length (closing_brackets is_array)) e.1.0
    ∷ []) (reading (header_end_at is_array t))

-- the events of a statement, by what reading gives of it after its trivia
abbrev pub statement_seen : ℕ → Text → Text → Reading Statement → Reading (List Event)
statement_seen whole leading t r =
    seen (λ s _. statement_events (whole - length t - length leading) s) r

abbrev pub key_line_read : ℕ → Text → Text → Reading (List Event)
key_line_read whole leading t =
    statement_seen whole leading t (key_line_at 0 (whole - length t - length leading) leading t)

abbrev pub header_read : ℕ → Text → Text → Reading (List Event)
header_read whole leading t = statement_seen whole leading t (header_at leading t)

abbrev pub statement_read : ℕ → Text → Text → Reading (List Event)
statement_read whole leading t =
    statement_seen whole leading t (statement_at 0 (whole - length t - length leading) leading t)

-- fewer than n statements, and the final trivia
abbrev pub rest_read : ℕ → ℕ → Text → Reading (List Event)
rest_read n whole t =
    seen (events_with_final whole (whole - length t)) (statements_at n 0 (whole - length t) t)

-- a lone value
abbrev pub lone_value_read : Text → Reading (List Event)
lone_value_read t = seen (λ v _. value_events (length (split_while is_blank t).0) v) (lone_at t)
