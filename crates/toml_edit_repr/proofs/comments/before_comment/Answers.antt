-- The white space before the `#`, or the line without the white space that ends it, and a space.
use Rattle.toml_edit_repr.proofs.CommentCalls.{hash-boundary, before-hash, before-none}
use Rattle.toml_edit_repr.proofs.comments.before_comment.Goals as goal

pub split_at-parts-requires : goal.split_at-parts-requires
split_at-parts-requires c = hash-boundary c.args.line.now c.in-Some.at c.in-Some.ensures

pub returns-in-Some : goal.returns-in-Some
returns-in-Some c = before-hash c.args.line.now c.split_at-parts.result.0.now c.in-Some.at c.in-Some.ensures c.split_at-parts.ensures.front

pub returns-in-None : goal.returns-in-None
returns-in-None c =
    before-none c.args.line.now c.split_at-words.result.0.now c.end_of_words.result c.in-None.ensures c.end_of_words.ensures.place
    c.split_at-words.ensures.front
