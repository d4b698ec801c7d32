-- The comment of the first line.
use Rattle.std.proofs.Common.{ap, ◌∙◌}
use Rattle.toml_edit_model.specs.Comments.{body_in}
use Rattle.toml_edit_repr.proofs.comments.first_comment.Goals as goal

pub returns : goal.returns
returns c = c.body_in.ensures ∙ ap body_in c.split_first_line.ensures.line
