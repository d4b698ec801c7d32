-- The entry of a key, unless it is a placeholder.
use Rattle.std.proofs.Common.{refl, ap, ◌∙◌}
use Rattle.toml_edit_model.specs.Slots.{place}
use Rattle.toml_edit_tree.specs.declared.table.Table.{out-Table}
use Rattle.toml_edit_tree.proofs.SlotsLaws.{table-shown}
use Rattle.toml_edit_tree.proofs.TableEntryLaws.{place-shown}
use Rattle.toml_edit_tree.proofs.table.Table.get_key_value_mut.Goals as goal

pub returns-in-Some : goal.returns-in-Some
returns-in-Some c =
    let k = c.args.key.now in
    let t = c.args.self.now in (
      (refl, λ w. refl, tt),
      (refl, (refl, (c.in-Some.ensures.held, ap (place k) (table-shown t) ∙ place-shown k (out-Table t).slots ∙ c.in-Some.ensures.place))),
    )
