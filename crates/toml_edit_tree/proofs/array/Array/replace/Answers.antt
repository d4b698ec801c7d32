-- The value in the other's place has its decor.
use Rattle.std.proofs.Common.{ap, ◌∙◌}
use Rattle.toml_edit_model.specs.ArrayCalls.{written_at}
use Rattle.toml_edit_tree.specs.Elements.{items_of}
use Rattle.toml_edit_tree.specs.View.{value_view}
use Rattle.toml_edit_tree.proofs.ElementLaws.{replaced-written}
use Rattle.toml_edit_tree.proofs.array.Array.replace.Goals as goal

pub returns-in-Ok-clause-items : goal.returns-in-Ok-clause-items
returns-in-Ok-clause-items c =
    let xs = items_of c.args.self.now in
    c.replace_formatted.ensures.items ∙ ap (λ n. written_at c.args.at n xs) c.with_decor.ensures
    ∙ replaced-written c.args.at xs c.in-Ok.decor (value_view c.args.value) c.in-Ok.ensures
