-- The slots without decors, as the inline table shows them.
use Rattle.std.proofs.Common.{sym, ap, ◌∙◌}
use Rattle.toml_edit_model.specs.Conversions.{formatted}
use Rattle.toml_edit_tree.specs.declared.inline_table.InlineTable.{out-InlineTable}
use Rattle.toml_edit_tree.proofs.InlineLaws.{formatted-shown, made_inline_fields}
use Rattle.toml_edit_tree.proofs.SlotsLaws.{inline-shown, made_inline-shown}
use Rattle.toml_edit_tree.proofs.inline_table.InlineTable.fmt.Goals as goal

pub returns-clause-slots : goal.returns-clause-slots
returns-clause-slots c =
    let t = c.args.self.now in
    made_inline-shown _ ∙ formatted-shown (out-InlineTable t).items c.format_slots.new.slots c.format_slots.ensures
    ∙ ap formatted (sym (inline-shown t))

pub returns-clause-fields : goal.returns-clause-fields
returns-clause-fields c = made_inline_fields c.args.self.now c.format_slots.new.slots
