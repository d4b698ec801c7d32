-- What follows the line begins where it ends.
use Rattle.std.proofs.Common.{sym, ◌∙◌}
use Rattle.toml_edit_repr.proofs.CommentLines.{after_first_line-at}
use Rattle.toml_edit_repr.proofs.comments.split_first_line.Goals as goal

pub returns-clause-after : goal.returns-clause-after
returns-clause-after c =
    c.split_at.ensures.back
    ∙ sym (after_first_line-at c.args.text.now c.first_line_len.result c.first_line_len.ensures.boundary.0 c.first_line_len.ensures.line)
