-- The clauses of the slots, as the table shows them.
use Rattle.std.proofs.Common.{option_map, sym, ap, ◌∙◌}
use Rattle.std.proofs.lemmas.Result.{IfOk-weaker}
use Rattle.toml_edit_model.specs.Slots.{has_slot, inserted, lookup}
use Rattle.toml_edit_tree.specs.View.{item_view}
use Rattle.toml_edit_tree.specs.declared.table.Table.{out-Table}
use Rattle.toml_edit_tree.proofs.DespanLaws.{if_done}
use Rattle.toml_edit_tree.proofs.SlotsLaws.{has_slot-shown, inserted-shown, lookup-shown, made-shown, table-shown}
use Rattle.toml_edit_tree.proofs.table.Table.insert.Goals as goal

pub returns-clause-old : goal.returns-clause-old
returns-clause-old c =
    let t = c.args.self.now in
    IfOk-weaker c.insert.result _ _
    (λ old e. ap (option_map item_view) e ∙ sym (ap (lookup c.args.key.now) (table-shown t)
    ∙ lookup-shown c.args.key.now (out-Table t).slots)) c.insert.ensures.old

pub returns-clause-slots : goal.returns-clause-slots
returns-clause-slots c =
    let t = c.args.self.now in
    if_done c.insert.result c.insert.ensures.seen
    (λ e. made-shown _ ∙ inserted-shown c.args.key.now c.args.item (out-Table t).slots c.insert.new.self e
    ∙ ap (inserted c.args.key.now (item_view c.args.item)) (sym (table-shown t)))

pub returns-clause-present : goal.returns-clause-present
returns-clause-present c h =
    let t = c.args.self.now in
    c.insert.ensures.present (sym (ap (has_slot c.args.key.now) (table-shown t) ∙ has_slot-shown c.args.key.now (out-Table t).slots) ∙ h)
