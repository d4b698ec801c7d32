-- The end is the place.
use Rattle.std.proofs.Common.{ap, ◌∙◌}
use Rattle.std.proofs.lemmas.Result.{on_ok_weaker}
use Rattle.toml_edit_tree.specs.Elements.{array_fields, items_of}
use Rattle.toml_edit_tree.specs.View.{value_view}
use Rattle.toml_edit_tree.specs.ArrayLines.{fields_inserted}
use Rattle.toml_edit_tree.proofs.array.Array.push_line.Goals as goal

pub returns-clause-fields : goal.returns-clause-fields
returns-clause-fields c =
    let f = array_fields c.args.self.now in
    let xs = items_of c.args.self.now in
    on_ok_weaker c.insert_line.result (λ is. is ∙ ap (λ k. fields_inserted k (value_view c.args.value) f xs) c.len-at.ensures)
    c.insert_line.ensures.fields
