-- The item of a key, which may be new.
use mathlib.Core.Logic.{inl, inr}
use Rattle.std.proofs.Common.{option_map, refl, sym, ap, ◌∙◌}
use Rattle.toml_edit_model.specs.Slots.{has_slot}
use Rattle.toml_edit_tree.specs.View.{item_view}
use Rattle.toml_edit_tree.proofs.IndexedLaws.{same-table, table-lent, table-written}
use Rattle.toml_edit_tree.proofs.SlotsLaws.{table-shown}
use Rattle.toml_edit_tree.proofs.table.Table.index_or_insert.Goals as goal

pub returns-in-Ok : goal.returns-in-Ok
returns-in-Ok c =
    let k = c.args.key.now in
    let t = c.args.self.now in (
      λ j. inl (c.item_at_mut.result.ghost_name, λ w. ap (λ l. record t { slots = l }) (c.in-Ok.ensures.rest w) j),
      (
        table-lent k t ∙ sym c.in-Ok.ensures.item ∙ ap (option_map item_view) (sym c.item_at_mut.ensures.item),
        (λ w. table-written k t w (c.in-Ok.ensures.leaves w), (λ _. refl, tt)),
      ),
    )

pub returns-in-Err : goal.returns-in-Err
returns-in-Err c =
    let k = c.args.key.now in
    let t = c.args.self.now in (
      λ j. inr ((ap (λ l. record t { slots = l }) c.in-Err.ensures.err ∙ same-table t) j),
      (
        tt,
        (
          λ w. table-written k t w (c.in-Err.ensures.leaves w),
          (λ h. c.in-Err.ensures.present (sym (ap (has_slot k) (table-shown t)) ∙ h), refl),
        ),
      ),
    )
