-- The key of an entry with its default spelling.
use Rattle.std.proofs.Common.{ap, ◌∙◌}
use Rattle.toml_edit_model.specs.Keys.{reset_key}
use Rattle.toml_edit_tree.specs.InlineValues.{has-on_key, has_value_at}
use Rattle.toml_edit_tree.specs.declared.inline_table.InlineTable.{InlineTable, out-InlineTable}
use Rattle.toml_edit_tree.specs.InlineSlots.{inline_fields}
use Rattle.toml_edit_tree.specs.SlotsOf.{inline_slots_of}
use Rattle.toml_edit_tree.proofs.LentLaws.{inline_key-keeps, inline_key-leaves}
use Rattle.toml_edit_tree.proofs.inline_table.entry.InlineOccupiedEntry.fmt_key.Goals as goal

pub invariant_of-self : goal.invariant_of-self
invariant_of-self c =
    let o = c.args.self.now in
    record {
      held = ap (λ (t : InlineTable). has_value_at o.at (out-InlineTable t).items) c.fmt_key_at.ensures
          ∙ has-on_key reset_key (out-InlineTable o.table.now).items o.at ∙ o.held;
    }

pub returns-clause-slots : goal.returns-clause-slots
returns-clause-slots c =
    let o = c.args.self.now in
    ap inline_slots_of c.fmt_key_at.ensures ∙ inline_key-leaves o.at o.table.now reset_key

pub returns-clause-fields : goal.returns-clause-fields
returns-clause-fields c =
    let o = c.args.self.now in
    ap inline_fields c.fmt_key_at.ensures ∙ inline_key-keeps o.at o.table.now reset_key
