-- The parts that are joined.
use Rattle.toml_edit_repr.proofs.CommentCalls.{add-joined}
use Rattle.toml_edit_repr.proofs.comments.add_comment_line.Goals as goal

pub returns : goal.returns
returns c =
    add-joined c.args.text.now c.args.comment.now c.last_newline.result.now c.split_at.result.1.now _ c.end_of_words.result
    c.in_ok-changed.ensures.ok
    c.last_newline.ensures c.end_of_words.ensures.place c.split_at.ensures.back
