-- The slot of a key, unless it is a placeholder.
use Rattle.std.proofs.Common.{refl, ap, ◌∙◌}
use Rattle.toml_edit_model.specs.Slots.{place}
use Rattle.toml_edit_tree.specs.declared.inline_table.InlineTable.{out-InlineTable}
use Rattle.toml_edit_tree.proofs.SlotsLaws.{inline-shown}
use Rattle.toml_edit_tree.proofs.TableEntryLaws.{place-shown}
use Rattle.toml_edit_tree.proofs.inline_table.InlineTable.get_key_value_mut.Goals as goal

pub returns-in-Some : goal.returns-in-Some
returns-in-Some c =
    let k = c.args.key.now in
    let t = c.args.self.now in (
      (refl, λ w. refl, tt),
      (
        refl,
        (
          refl,
          (
            c.in-Some.ensures.held,
            ap (place k) (inline-shown t) ∙ place-shown k (out-InlineTable t).items
                ∙ c.in-Some.ensures.place,
          ),
        ),
      ),
    )
