-- The value of a key, to be changed.
use Rattle.std.proofs.Common.{refl, sym, ap, option_map, ◌∙◌}
use Rattle.toml_edit_tree.specs.View.{value_view}
use Rattle.toml_edit_tree.proofs.LentLaws.{inline-keeps, inline-leaves}
use Rattle.toml_edit_tree.proofs.inline_table.InlineTable.get_mut.Goals as goal

pub returns-in-None : goal.returns-in-None
returns-in-None c =
    let t = c.args.self.now in
    (refl, (c.in-None.ensures.value, (inline-leaves c.args.key.now t c.value_place.ensures.apart, inline-keeps c.args.key.now t)))

pub returns-in-Some : goal.returns-in-Some
returns-in-Some c =
    let t = c.args.self.now in (
      rw c.in-Some.ensures.place refl,
      (
        sym (ap (option_map value_view) c.value_at_mut.ensures.value) ∙ c.in-Some.ensures.value,
        (inline-leaves c.args.key.now t c.value_place.ensures.apart, inline-keeps c.args.key.now t),
      ),
    )
