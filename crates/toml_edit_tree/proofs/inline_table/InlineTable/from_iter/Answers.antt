-- The pairs of an iterator, put into a new inline table.
use Rattle.std.proofs.Common.{map, ap, ◌∙◌}
use Rattle.toml_edit_model.specs.Lists.{slot_list}
use Rattle.toml_edit_model.specs.Slots.{extended}
use Rattle.toml_edit_tree.specs.InlineSlots.{value_taken}
use Rattle.toml_edit_tree.proofs.inline_table.InlineTable.from_iter.Goals as goal

pub returns-in-Ok : goal.returns-in-Ok
returns-in-Ok g c =
    let e = c.in-Ok.ensures in (
      e.0,
      e.1,
      e.2,
      e.4,
      e.3.0 ∙ ap (λ t. extended (map value_taken e.1) (slot_list t.slots)) c.new-table.ensures,
      e.3.1
          ∙ ap (λ t. t.fields) c.new-table.ensures,
    )
