-- A line ends behind its line feed, or at the end of the text.
use Rattle.std.proofs.Common.{sym, ◌∙◌}
use Rattle.toml_edit_repr.proofs.CommentLines.{feed-boundary, lines-split, lines-whole}
use Rattle.toml_edit_repr.proofs.comments.split_line.Goals as goal

pub split_at-requires : goal.split_at-requires
split_at-requires c =
    feed-boundary c.args.text.now c.as_bytes.result.now c.in-Some.at c.as_bytes.ensures.value c.utf8.text c.in-Some.ensures

pub returns-in-Some-clause-parts : goal.returns-in-Some-clause-parts
returns-in-Some-clause-parts c =
    lines-split c.args.text.now c.as_bytes.result.now c.in-Some.at c.split_at.result.0.now c.split_at.result.1.now
    c.as_bytes.ensures.value c.in-Some.ensures c.split_at.ensures.front c.split_at.ensures.back

pub returns-in-None-clause-parts : goal.returns-in-None-clause-parts
returns-in-None-clause-parts c =
    lines-whole c.args.text.now c.as_bytes.result.now c.as_bytes.ensures.value (sym c.is_empty.ensures
    ∙ c.if-is_empty.false) c.in-None.ensures
