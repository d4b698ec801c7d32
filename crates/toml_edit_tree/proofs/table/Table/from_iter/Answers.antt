-- The pairs that came, as the table shows them.
use Rattle.std.proofs.Common.{[], sym, ap, ◌∙◌}
use Rattle.toml_edit_laws.proofs.slots.Lists.{slots_from-list}
use Rattle.toml_edit_model.specs.Lists.{slots_from}
use Rattle.toml_edit_model.specs.Conversions.{new_table}
use Rattle.toml_edit_tree.specs.View.{slots_view}
use Rattle.toml_edit_tree.proofs.SlotsLaws.{extended-shown}
use Rattle.toml_edit_tree.proofs.table.Table.from_iter.Goals as goal

pub returns : goal.returns
returns g c =
    let h = c.in_ok-from_iter.ensures in
    let slots = c.in_ok-from_iter.field-0 in (
      h.0,
      h.1,
      h.2,
      h.3,
      c.of_slots.ensures ∙ ap (λ ss. record { fields = new_table; slots = ss }) (sym (slots_from-list (slots_view slots))
          ∙ ap slots_from (extended-shown h.1 [] slots h.4)),
    )
