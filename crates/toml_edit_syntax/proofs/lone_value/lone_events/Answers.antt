use Rattle.std.proofs.Common.{◌≡◌, List, [], length, subst}
use Rattle.toml_edit_model.specs.Text.{Text}
use Rattle.toml_edit_model.specs.Trivia.{is_blank}
use Rattle.toml_edit_model.specs.Syntax.{Value}
use Rattle.toml_edit_syntax.specs.declared.event.Event.{Event}
use Rattle.toml_edit_laws.specs.reading.Runs.{split_while}
use Rattle.toml_edit_syntax.specs.ValueEvents.{value_events}
use Rattle.toml_edit_syntax.specs.ValueReading.{Reading, got, deep, wrong}
use Rattle.toml_edit_syntax.specs.Gives.{StopsAs}
use Rattle.toml_edit_syntax.specs.Reading.{lone_at, lone_read}
use Rattle.toml_edit_syntax.specs.EventReading.{preceded}
use Rattle.toml_edit_syntax.specs.StatementReading.{lone_value_read}
use Rattle.toml_edit_syntax.proofs.LoneValueLaws.{are_lone_events, lone_spans_read, has_lone_events}
use Rattle.toml_edit_syntax.proofs.StatementsLoop.{given, given_from}
use Rattle.toml_edit_syntax.proofs.lone_value.lone_events.Goals as goal

-- the value is read so
read_so : (t : Text) (old : List Event) (result : Reading (List Event)) → old ≡ [] → preceded old (lone_value_read t) ≡ result → lone_read t
    ≡ given result
read_so t old result nothing read =
    given_from (λ (v : Value) (_ : Text). value_events (length (split_while is_blank t).0) v) (lone_at t) old result nothing read

pub returns-in-Ok-clause-cut : goal.returns-in-Ok-clause-cut
returns-in-Ok-clause-cut c =
    are_lone_events c.args.text.now c.lone_value.new.events.items c.utf8.text
    (read_so c.args.text.now c.new-events.result.items (got c.lone_value.new.events.items c.in-Ok.field-0.now)
    c.new-events.ensures.items c.in-Ok.ensures)

pub returns-in-Ok-clause-spans : goal.returns-in-Ok-clause-spans
returns-in-Ok-clause-spans c =
    lone_spans_read c.args.text.now c.lone_value.new.events.items c.utf8.text
    (read_so c.args.text.now c.new-events.result.items (got c.lone_value.new.events.items c.in-Ok.field-0.now)
    c.new-events.ensures.items c.in-Ok.ensures)

pub returns-in-Err-TooDeep-clause-cut : goal.returns-in-Err-TooDeep-clause-cut
returns-in-Err-TooDeep-clause-cut c =
    let new = c.lone_value.new.events.items in
    let old = c.new-events.result.items in
    are_lone_events c.args.text.now new c.utf8.text (read_so c.args.text.now old (deep new) c.new-events.ensures.items
    (subst (StopsAs new (preceded old (lone_value_read c.args.text.now))) c.in-Err-TooDeep.field-0-is c.in-Err-TooDeep.ensures))

pub returns-in-Err-TooDeep-clause-spans : goal.returns-in-Err-TooDeep-clause-spans
returns-in-Err-TooDeep-clause-spans c =
    let new = c.lone_value.new.events.items in
    let old = c.new-events.result.items in
    lone_spans_read c.args.text.now new c.utf8.text (read_so c.args.text.now old (deep new) c.new-events.ensures.items
    (subst (StopsAs new (preceded old (lone_value_read c.args.text.now))) c.in-Err-TooDeep.field-0-is c.in-Err-TooDeep.ensures))

pub returns-in-Err-Before-clause-every : goal.returns-in-Err-Before-clause-every
returns-in-Err-Before-clause-every c v is =
    let t = c.args.text.now in
    let new = c.lone_value.new.events.items in
    let old = c.new-events.result.items in
    absurd (has_lone_events t v is (read_so t old wrong c.new-events.ensures.items
    (subst (StopsAs new (preceded old (lone_value_read t))) c.in-Err-Before.field-0-is c.in-Err-Before.ensures)))
