-- A value that begins with a scalar is one; another is read as any value.
use Rattle.std.proofs.Common.{◌≡◌, ◌+◌, ◌∷◌, length}
use Rattle.toml_edit_model.specs.Syntax.{Value, value_text}
use Rattle.toml_edit_syntax.specs.declared.event.EventKind.TheVariants.{LineEnd}
use Rattle.toml_edit_syntax.specs.ValueEvents.{event}
use Rattle.toml_edit_tree.specs.View.{item_view}
use Rattle.toml_edit_repr.specs.Modes.{mode_of}
use Rattle.toml_edit_parser.specs.StatementParts.{ReadsLineValue, suffix_span}
use Rattle.toml_edit_parser.specs.ValueRead.{span_at}
use Rattle.toml_edit_parser.proofs.ScalarElements.{scalar_first}
use Rattle.toml_edit_parser.proofs.SplitLaws.{scalar_in}
use Rattle.toml_edit_parser.proofs.StatementPartLaws.{shorter}
use Rattle.toml_edit_parser.proofs.document.parts.read_line_value.Goals as goal

pub returns-in-Some-clause-value : goal.returns-in-Some-clause-value
returns-in-Some-clause-value c =
    λ v start after suffix more is stands e counted.
    let mode = mode_of c.args.reader.now.mode in
    let Counted : Value → Type 0 = λ w.
    suffix_span mode c.args.reader.now.source.now (span_at (start + length (value_text w)) after)
    ≡ span_at (start + length (value_text w)) suffix in
    scalar_first c.args.reader.now.source.now v start (λ end. event LineEnd end after
    ∷ more) c.args.events.now c.in-Some.span c.in-Some.behind.now
    (λ w. Counted w → ReadsLineValue mode c.args.reader.now.source.now w start c.args.before suffix more
    (item_view c.read_line_scalar.new.item) c.read_line_scalar.result)
    c.in-Some.ensures e is stands (λ s t spells standing at rest_is here. c.read_line_scalar.ensures.value s t start after suffix more
    spells standing at rest_is here) counted

pub returns-in-Some-clause-rest : goal.returns-in-Some-clause-rest
returns-in-Some-clause-rest c =
    let inside = scalar_in c.args.reader.now.source.now c.args.events.now c.in-Some.span c.in-Some.behind.now c.in-Some.ensures
    c.requires.spans in
    shorter c.args.reader.now.source.now c.in-Some.behind.now c.args.events.now c.read_line_scalar.result inside.2
    c.read_line_scalar.ensures.rest

pub read_line_scalar-requires-clause-span : goal.read_line_scalar-requires-clause-span
read_line_scalar-requires-clause-span c =
    (scalar_in c.args.reader.now.source.now c.args.events.now c.in-Some.span c.in-Some.behind.now c.in-Some.ensures c.requires.spans).0

pub read_line_scalar-requires-clause-spans : goal.read_line_scalar-requires-clause-spans
read_line_scalar-requires-clause-spans c =
    (scalar_in c.args.reader.now.source.now c.args.events.now c.in-Some.span c.in-Some.behind.now c.in-Some.ensures c.requires.spans).1
