-- What is found lies in the source, on the boundaries of characters.
use Rattle.std.proofs.Common.{◌∙◌, ap}
use Rattle.toml_edit_syntax.specs.LateSpellings.{late_escape, late_in_scalar}
use Rattle.toml_edit_syntax.specs.LateTrivia.{late_in_trivia}
use Rattle.toml_edit_syntax.proofs.late.Edges.{escape_in, scalar_in, trivia_in}
use Rattle.toml_edit_syntax.proofs.version.part.late_in_event.Goals as goal

pub returns-in-Key-clause-span : goal.returns-in-Key-clause-span
returns-in-Key-clause-span c =
    escape_in c.args.source.now c.args.event.span c.late_escape.result c.utf8.source c.requires
    (c.late_escape.ensures ∙ ap (late_escape c.args.event.span.start) c.text_at-text.ensures)

pub returns-in-Scalar-clause-span : goal.returns-in-Scalar-clause-span
returns-in-Scalar-clause-span c =
    scalar_in c.args.source.now c.args.event.span c.late_in_scalar.result c.utf8.source c.requires
    (c.late_in_scalar.ensures ∙ ap (late_in_scalar c.args.event.span.start) c.text_at-text.ensures)

pub returns-in-Leading-clause-span : goal.returns-in-Leading-clause-span
returns-in-Leading-clause-span c =
    trivia_in c.args.source.now c.args.event.span c.late_in_trivia.result c.utf8.source c.requires
    (c.late_in_trivia.ensures ∙ ap (late_in_trivia c.args.event.span.start) c.text_at-text.ensures)

pub returns-in-After-clause-span : goal.returns-in-After-clause-span
returns-in-After-clause-span c =
    trivia_in c.args.source.now c.args.event.span c.late_in_trivia-in-After.result c.utf8.source c.requires
    (c.late_in_trivia-in-After.ensures ∙ ap (late_in_trivia c.args.event.span.start) c.text_at-text.ensures)
