-- The comment is what follows the `#`.
use Rattle.toml_edit_repr.proofs.CommentCalls.{comment-boundary, body-found}
use Rattle.toml_edit_repr.proofs.comments.body_in.Goals as goal

pub split_at-requires : goal.split_at-requires
split_at-requires c = comment-boundary c.args.line.now c.in_ok-at.at c.utf8.line c.in_ok-at.ensures

pub returns : goal.returns
returns c = body-found c.args.line.now c.split_at.result.1.now c.in_ok-at.at c.in_ok-at.ensures c.split_at.ensures.back
