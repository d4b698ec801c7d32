-- What is after the first line begins with its newline.
use Rattle.std.proofs.Common.{sym, ◌∙◌}
use Rattle.toml_edit_fmt.proofs.GapLaws.{below-none, is-below, is-newline}
use Rattle.toml_edit_fmt.proofs.lines.split_newline.Goals as goal

pub returns-then-not-is_broken-clause-below : goal.returns-then-not-is_broken-clause-below
returns-then-not-is_broken-clause-below c = below-none c.args.text.now (sym c.is_broken.ensures ∙ c.if-not-is_broken.true)

pub returns-clause-newline : goal.returns-clause-newline
returns-clause-newline c =
    is-newline c.args.text.now c.split_first_line.result.1.now c.split_line.result (sym c.is_broken.ensures ∙ c.if-not-is_broken.false)
    c.split_first_line.ensures.after c.split_line.ensures.parts

pub returns-clause-below : goal.returns-clause-below
returns-clause-below c =
    is-below c.args.text.now c.split_first_line.result.1.now c.split_line.result (sym c.is_broken.ensures ∙ c.if-not-is_broken.false)
    c.split_first_line.ensures.after c.split_line.ensures.parts
