-- The comment is put into the gap after the value.
use Rattle.std.proofs.Common.{ap, ◌∙◌}
use Rattle.std.specs.Option.{option_copied}
use Rattle.toml_edit_model.specs.Tree.{owned}
use Rattle.toml_edit_tree.specs.Elements.{array_fields, items_of}
use Rattle.toml_edit_tree.specs.LineComments.{commented, gap_ended}
use Rattle.toml_edit_tree.proofs.array.line_comments.gap_commented.Goals as goal

pub returns-clause-gap : goal.returns-clause-gap
returns-clause-gap c =
    let f = array_fields c.args.array.now in
    let xs = items_of c.args.array.now in
    let comment = option_copied c.args.comment in
    c.in_ok-changed.ensures.text
    ∙ ap (λ t. owned (commented comment t)) (c.in_ok-gap.ensures ∙ ap (λ k. gap_ended comment k f xs) c.place_after-next.ensures)
