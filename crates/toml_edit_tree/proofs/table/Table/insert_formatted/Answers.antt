-- The clauses of the slots, as the table shows them.
use Rattle.std.proofs.Common.{option_map, sym, ap, ◌∙◌}
use Rattle.std.proofs.lemmas.Result.{IfOk-weaker}
use Rattle.toml_edit_model.specs.Slots.{inserted_formatted, lookup}
use Rattle.toml_edit_tree.specs.View.{item_view}
use Rattle.toml_edit_tree.specs.declared.table.Table.{out-Table}
use Rattle.toml_edit_tree.proofs.DespanLaws.{if_done}
use Rattle.toml_edit_tree.proofs.SlotsLaws.{inserted_formatted-shown, lookup-of, made-shown, table-shown}
use Rattle.toml_edit_tree.proofs.table.Table.insert_formatted.Goals as goal

pub returns-clause-old : goal.returns-clause-old
returns-clause-old c =
    let t = c.args.self.now in
    IfOk-weaker c.insert_formatted.result _ _
    (λ old e. ap (option_map item_view) e ∙ sym (ap (lookup c.args.key.now.name) (table-shown t)
    ∙ lookup-of c.args.key.now.name (out-Table t).slots)) c.insert_formatted.ensures.old

pub returns-clause-slots : goal.returns-clause-slots
returns-clause-slots c =
    let t = c.args.self.now in
    if_done c.insert_formatted.result c.insert_formatted.ensures.slots
    (λ e. made-shown _ ∙ inserted_formatted-shown c.args.key.now c.args.item (out-Table t).slots c.insert_formatted.new.self e
    ∙ ap (inserted_formatted c.args.key.now (item_view c.args.item)) (sym (table-shown t)))
