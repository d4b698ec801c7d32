-- Slots sorted by a closure, as the table shows them.
use Rattle.toml_edit_model.specs.Lists.{is_dotted_table}
use Rattle.toml_edit_model.specs.Sorting.{IsDeepReorder, IsSortOfTable}
use Rattle.toml_edit_tree.proofs.DespanLaws.{if_done}
use Rattle.toml_edit_tree.proofs.SlotsLaws.{made_fields}
use Rattle.toml_edit_tree.proofs.SortLaws.{of_table}
use Rattle.toml_edit_tree.proofs.table.Table.sort_values_by.Goals as goal

pub returns-clause-reorders : goal.returns-clause-reorders
returns-clause-reorders g c =
    let t = c.args.self.now in
    of_table (IsDeepReorder is_dotted_table) t (record t { slots = c.sort_slots.new.slots }) c.sort_slots.ensures.reorders

pub returns-clause-sorted : goal.returns-clause-sorted
returns-clause-sorted g c =
    let t = c.args.self.now in
    if_done c.sort_slots.result c.sort_slots.ensures.sorted
    (λ s lt by. of_table (IsSortOfTable lt) t (record t { slots = c.sort_slots.new.slots }) (s lt by))

pub returns-clause-fields : goal.returns-clause-fields
returns-clause-fields g c = made_fields c.args.self.now c.sort_slots.new.slots
