-- The clauses of the slots, as the table shows them.
use Rattle.std.proofs.Common.{sym, ap, ◌∙◌}
use Rattle.std.proofs.lemmas.Result.{IfOk-weaker}
use Rattle.toml_edit_model.specs.Rearranging.{renamed_slot}
use Rattle.toml_edit_slots.specs.Renaming.{renaming}
use Rattle.toml_edit_tree.specs.declared.table.Table.{out-Table}
use Rattle.toml_edit_tree.proofs.DespanLaws.{if_done}
use Rattle.toml_edit_tree.proofs.RearrangeLaws.{renamed-shown, renaming-shown}
use Rattle.toml_edit_tree.proofs.SlotsLaws.{made-shown, table-shown}
use Rattle.toml_edit_tree.proofs.table.Table.rename.Goals as goal

pub returns-clause-told : goal.returns-clause-told
returns-clause-told c =
    let t = c.args.self.now in
    IfOk-weaker c.rename.result _ _
    (λ told e. e ∙ sym (ap (renaming c.args.from.now c.args.to.now) (table-shown t)
    ∙ renaming-shown c.args.from.now c.args.to.now (out-Table t).slots)) c.rename.ensures.told

pub returns-clause-slots : goal.returns-clause-slots
returns-clause-slots c =
    let t = c.args.self.now in
    if_done c.rename.result c.rename.ensures.slots
    (λ e. made-shown _ ∙ renamed-shown c.args.from.now c.args.to.now (out-Table t).slots c.rename.new.self e
    ∙ ap (renamed_slot c.args.from.now c.args.to.now) (sym (table-shown t)))
