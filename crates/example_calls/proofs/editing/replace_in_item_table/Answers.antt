-- The table that the item is.
use Rattle.std.proofs.Common.{ap, ◌∙◌}
use Rattle.std.specs.Prelude.{Option, is_some, option_and_then}
use Rattle.toml_edit.specs.model.Lists.{slot_list}
use Rattle.toml_edit.specs.model.Tree.{TableFields, table}
use Rattle.toml_edit.specs.tree.Containers.{TableView}
use Rattle.toml_edit.specs.tree.View.{fields_view, item_view, table_slots, table_view}
use Rattle.example_calls.specs.Paths.{value_under}
use Rattle.example_calls.proofs.ViewLaws.{view-Table, table-held}
use Rattle.example_calls.proofs.editing.replace_in_item_table.Goals as goal

pub returns-in-Some-clause-found : goal.returns-in-Some-clause-found
returns-in-Some-clause-found c =
    c.replace_in_table.ensures.found
    ∙ ap (λ (o : Option TableView). is_some (option_and_then (λ x. value_under c.args.key.now (slot_list x.slots)) o))
    c.in-Some.ensures.table

pub returns-in-Some-clause-item : goal.returns-in-Some-clause-item
returns-in-Some-clause-item c =
    λ h.
    let t = c.in-Some.table.now in
    let w = c.replace_in_table.new.table in (
      fields_view t,
      table_slots t,
      table_slots w,
      table-held (item_view c.args.item.now) (table_view t) c.in-Some.ensures.table,
      view-Table w ∙ ap (λ (f : TableFields). table f (table_slots w)) (c.replace_in_table.ensures.fields h),
      c.replace_in_table.ensures.slots h,
    )
