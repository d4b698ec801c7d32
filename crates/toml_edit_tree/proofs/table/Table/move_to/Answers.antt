-- The clauses of the slots, as the table shows them.
use Rattle.std.proofs.Common.{◌<◌, length, sym, ap, subst, ◌∙◌}
use Rattle.toml_edit_model.specs.Rearranging.{moved_slot}
use Rattle.toml_edit_model.specs.Slots.{has_slot}
use Rattle.toml_edit_tree.specs.declared.table.Table.{out-Table}
use Rattle.toml_edit_tree.proofs.RearrangeLaws.{has-shown, moved-shown}
use Rattle.toml_edit_tree.proofs.SlotsLaws.{length-shown, made-shown, table-shown}
use Rattle.toml_edit_tree.proofs.table.Table.move_to.Goals as goal

pub move_to-requires : goal.move_to-requires
move_to-requires c =
    let t = c.args.self.now in
    subst (λ n. c.args.at < n) (ap length (table-shown t) ∙ length-shown (out-Table t).slots) c.requires

pub returns-clause-found : goal.returns-clause-found
returns-clause-found c =
    let t = c.args.self.now in
    c.move_to.ensures.found ∙ sym (ap (has_slot c.args.key.now) (table-shown t) ∙ has-shown c.args.key.now (out-Table t).slots)

pub returns-clause-slots : goal.returns-clause-slots
returns-clause-slots c =
    let t = c.args.self.now in
    made-shown _ ∙ moved-shown c.args.key.now c.args.at (out-Table t).slots c.move_to.new.self c.move_to.ensures.slots
    ∙ ap (moved_slot c.args.key.now c.args.at) (sym (table-shown t))
