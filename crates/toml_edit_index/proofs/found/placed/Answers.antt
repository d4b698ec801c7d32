-- Where the item is, and what it is.
use Rattle.std.proofs.Common.{Bor, ◌∙◌, ap, option_map}
use Rattle.toml_edit_model.specs.Tree.{Key}
use Rattle.toml_edit_tree.specs.View.{item_view}
use Rattle.toml_edit_index.specs.Indexed.{span_of}
use Rattle.toml_edit_index.proofs.IndexLaws.{placed-is}
use Rattle.toml_edit_index.proofs.found.placed.Goals as goal

pub returns : goal.returns
returns c =
    placed-is c.args.lines.now.bytes.now c.args.parent (option_map (λ (k : Bor Key). k.now) c.args.key) (item_view c.args.item.now)
    c.kind_of.result c.start_of.result c.key_span.result c.of_range.result c.before-2.result c.after.result c.position-position.result
    c.kind_of.ensures c.key_span.ensures (c.of_range.ensures ∙ ap span_of c.span.ensures) c.before-2.ensures c.after.ensures c.start_of.ensures
    c.position-position.ensures
