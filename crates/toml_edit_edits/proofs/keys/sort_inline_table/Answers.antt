-- The copy takes the place of the inline table.
use Rattle.std.proofs.Common.{◌∙◌, ap, sym}
use Rattle.std.specs.Prelude.{Ok}
use Rattle.toml_edit_tree.specs.Containers.{inline_node}
use Rattle.toml_edit_tree.specs.View.{inline_view}
use Rattle.toml_edit_edits.proofs.OutcomeLaws.{sorted-inline}
use Rattle.toml_edit_edits.proofs.keys.sort_inline_table.Goals as goal

pub returns : goal.returns
returns c =
    ap (λ n. Ok n) (sorted-inline (inline_view c.args.table.now) (inline_view c.in_ok-copy.copy) (inline_view c.sort_values.new.self) c.in_ok-copy.ensures
    c.in_ok-sort_values.ensures.fields c.in_ok-sort_values.ensures.in_order
    ∙ ap (λ t. inline_node (inline_view t)) (sym c.replace.ensures.after))
