-- The key of a slot with its default spelling.
use Rattle.std.proofs.Common.{ap, ◌∙◌}
use Rattle.toml_edit_model.specs.Keys.{reset_key}
use Rattle.toml_edit_slots.specs.Lengths.{length-on_key}
use Rattle.toml_edit_tree.specs.declared.inline_table.InlineTable.{out-InlineTable}
use Rattle.toml_edit_tree.specs.InlineSlots.{inline_fields}
use Rattle.toml_edit_tree.specs.SlotsOf.{inline_slots_of}
use Rattle.toml_edit_tree.proofs.LentLaws.{inline_key-keeps, inline_key-leaves}
use Rattle.toml_edit_tree.proofs.inline_table.slot.InlineSlotMut.fmt_key.Goals as goal

pub invariant_of-self : goal.invariant_of-self
invariant_of-self c =
    let o = c.args.self.now in
    record { within = rw (c.fmt_key_in.ensures, length-on_key reset_key (out-InlineTable o.table.now).items o.at) o.within }

pub returns-clause-slots : goal.returns-clause-slots
returns-clause-slots c =
    let o = c.args.self.now in
    ap inline_slots_of c.fmt_key_in.ensures ∙ inline_key-leaves o.at o.table.now reset_key

pub returns-clause-fields : goal.returns-clause-fields
returns-clause-fields c =
    let o = c.args.self.now in
    ap inline_fields c.fmt_key_in.ensures ∙ inline_key-keeps o.at o.table.now reset_key
