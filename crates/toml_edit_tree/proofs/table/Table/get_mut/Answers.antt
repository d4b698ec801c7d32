-- The item of a key's slot, unless it is a placeholder.
use Rattle.std.proofs.Common.{refl, ap, option_map, ◌∙◌}
use Rattle.toml_edit_tree.specs.View.{item_view}
use Rattle.toml_edit_tree.proofs.LentLaws.{table-keeps, table-leaves}
use Rattle.toml_edit_tree.proofs.table.Table.get_mut.Goals as goal

pub returns-in-None : goal.returns-in-None
returns-in-None c =
    let t = c.args.self.now in
    (refl, (c.in-None.ensures.held, (table-leaves c.args.key.now t c.held_place.ensures.apart, table-keeps c.args.key.now t)))

pub returns-in-Some : goal.returns-in-Some
returns-in-Some c =
    let t = c.args.self.now in (
      rw c.in-Some.ensures.place refl,
      (
        ap (option_map item_view) c.item_mut.ensures.item ∙ c.in-Some.ensures.held,
        (table-leaves c.args.key.now t c.held_place.ensures.apart, table-keeps c.args.key.now t),
      ),
    )
