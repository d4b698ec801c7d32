-- The parts that are joined.
use Rattle.toml_edit_repr.proofs.CommentCalls.{put-joined}
use Rattle.toml_edit_repr.proofs.comments.put_first_comment.Goals as goal

pub returns : goal.returns
returns c =
    put-joined c.args.text.now c.split_first_line.result.0.now c.before_comment.result.0.now c.before_comment.result.1.now
    c.args.comment.now
    c.split_first_line.result.1.now _ c.in_ok-changed.ensures.ok c.before_comment.ensures c.split_first_line.ensures.line
    c.split_first_line.ensures.after
