use Rattle.std.proofs.Common.{ap, arith, length, ◌∙◌}
use Rattle.toml_edit_model.specs.Lists.{item_list}
use Rattle.toml_edit_tree.specs.declared.array.Array.{out-Array}
use Rattle.toml_edit_tree.proofs.ElementLaws.{listed-length}
use Rattle.toml_edit_tree.proofs.ViewLaws.{array_items}
use Rattle.toml_edit_tree.proofs.array.Array.len.Goals as goal

pub returns : goal.returns
returns c =
    let v = (out-Array c.args.self.now).values in
    let count = ap (λ xs. length (item_list xs)) (array_items c.args.self.now) ∙ listed-length v.items in
    omega (arith, c.len.ensures, count, v.ok)
