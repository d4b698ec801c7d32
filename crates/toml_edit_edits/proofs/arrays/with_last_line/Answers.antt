-- The place is the end.
use Rattle.std.proofs.Common.{◌≡◌, subst}
use Rattle.std.specs.Prelude.{IfOk}
use Rattle.toml_edit_tree.specs.Containers.{array_node}
use Rattle.toml_edit_tree.specs.View.{array_view, value_view}
use Rattle.toml_edit_edits.specs.Effects.{with_line}
use Rattle.toml_edit_edits.proofs.arrays.with_last_line.Goals as goal

pub returns : goal.returns
returns c =
    subst (λ n. IfOk c.with_line.result (λ more. array_node (array_view more) ≡ with_line n (value_view c.args.value.now) (array_view c.args.array)))
    c.len-at.ensures c.with_line.ensures
