-- Another value in the slot of an entry.
use Rattle.std.proofs.Common.{ap, ◌∙◌}
use Rattle.toml_edit_tree.specs.InlineValues.{has-with_item, has_value_at, value_at}
use Rattle.toml_edit_tree.specs.declared.inline_table.InlineTable.{InlineTable, out-InlineTable}
use Rattle.toml_edit_tree.specs.InlineSlots.{inline_fields}
use Rattle.toml_edit_tree.specs.SlotsOf.{inline_slots_of}
use Rattle.toml_edit_tree.specs.declared.item.Item.TheVariants as items
use Rattle.toml_edit_tree.proofs.LentLaws.{inline_item-keeps, inline_value-leaves}
use Rattle.toml_edit_tree.proofs.InlineOccupiedLaws.{value-with_item}
use Rattle.toml_edit_tree.proofs.inline_table.entry.InlineOccupiedEntry.insert.Goals as goal

pub invariant_of-self : goal.invariant_of-self
invariant_of-self c =
    let o = c.args.self.now in
    record {
      held = ap (λ (t : InlineTable). has_value_at o.at (out-InlineTable t).items) c.replace_value_at.ensures.table
          ∙ has-with_item (out-InlineTable o.table.now).items o.at c.args.value o.held;
    }

pub returns-clause-holds : goal.returns-clause-holds
returns-clause-holds c =
    let o = c.args.self.now in
    ap (λ (t : InlineTable). value_at o.at (out-InlineTable t).items) c.replace_value_at.ensures.table
    ∙ value-with_item (out-InlineTable o.table.now).items o.at c.args.value o.held

pub returns-clause-slots : goal.returns-clause-slots
returns-clause-slots c =
    let o = c.args.self.now in
    ap inline_slots_of c.replace_value_at.ensures.table ∙ inline_value-leaves o.at o.table.now c.args.value

pub returns-clause-fields : goal.returns-clause-fields
returns-clause-fields c =
    let o = c.args.self.now in
    ap inline_fields c.replace_value_at.ensures.table ∙ inline_item-keeps o.at o.table.now (items.Value c.args.value)
