-- The clauses of the slots, as the inline table shows them.
use Rattle.std.proofs.Common.{sym, ap, ◌∙◌}
use Rattle.std.proofs.lemmas.Result.{IfOk-weaker}
use Rattle.toml_edit_model.specs.Rearranging.{renamed_slot}
use Rattle.toml_edit_slots.specs.Renaming.{renaming}
use Rattle.toml_edit_tree.specs.declared.inline_table.InlineTable.{out-InlineTable}
use Rattle.toml_edit_tree.proofs.DespanLaws.{if_done}
use Rattle.toml_edit_tree.proofs.RearrangeLaws.{renamed-shown, renaming-shown}
use Rattle.toml_edit_tree.proofs.SlotsLaws.{made_inline-shown, inline-shown}
use Rattle.toml_edit_tree.proofs.inline_table.InlineTable.rename.Goals as goal

pub returns-clause-told : goal.returns-clause-told
returns-clause-told c =
    let t = c.args.self.now in
    IfOk-weaker c.rename.result _ _
    (λ told e. e ∙ sym (ap (renaming c.args.from.now c.args.to.now) (inline-shown t)
    ∙ renaming-shown c.args.from.now c.args.to.now (out-InlineTable t).items)) c.rename.ensures.told

pub returns-clause-slots : goal.returns-clause-slots
returns-clause-slots c =
    let t = c.args.self.now in
    if_done c.rename.result c.rename.ensures.slots
    (λ e. made_inline-shown _ ∙ renamed-shown c.args.from.now c.args.to.now (out-InlineTable t).items c.rename.new.self e
    ∙ ap (renamed_slot c.args.from.now c.args.to.now) (sym (inline-shown t)))
