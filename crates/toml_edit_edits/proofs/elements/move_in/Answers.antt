-- The copy takes the place of the array.
use Rattle.std.proofs.Common.{◌∙◌, ap, sym}
use Rattle.std.specs.Prelude.{Ok}
use Rattle.toml_edit_model.specs.Lists.{item_list}
use Rattle.toml_edit_tree.specs.Containers.{TablesView, tables_node}
use Rattle.toml_edit_tree.specs.View.{tables_view}
use Rattle.toml_edit_edits.specs.Elements.{moved_from}
use Rattle.toml_edit_edits.proofs.ElementLaws.{moved-made}
use Rattle.toml_edit_edits.proofs.elements.move_in.Goals as goal

pub returns-in-Ok : goal.returns-in-Ok
returns-in-Ok c =
    let u = c.args.to.now in
    moved-made (tables_view c.args.tables.now) (tables_view c.move_at.new.tables)
    (c.in-Ok.ensures.extent ∙ ap (λ (a : TablesView). a.extent) c.in_ok-copy.ensures) c.args.from.now u c.in-Some.at (sym c.in-Some.ensures.place)
    (ap (λ (a : TablesView). moved_from c.in-Some.at (item_list a.items) u) (sym c.in_ok-copy.ensures) ∙ c.in-Ok.ensures.items)
    ∙ ap (λ t. Ok (tables_node (tables_view t))) (sym c.replace.ensures.after)
