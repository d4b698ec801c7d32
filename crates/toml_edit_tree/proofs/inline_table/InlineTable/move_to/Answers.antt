-- The clauses of the slots, as the inline table shows them.
use Rattle.std.proofs.Common.{◌<◌, length, sym, ap, subst, ◌∙◌}
use Rattle.toml_edit_model.specs.Rearranging.{moved_slot}
use Rattle.toml_edit_model.specs.Slots.{has_slot}
use Rattle.toml_edit_tree.specs.declared.inline_table.InlineTable.{out-InlineTable}
use Rattle.toml_edit_tree.proofs.RearrangeLaws.{has-shown, moved-shown}
use Rattle.toml_edit_tree.proofs.SlotsLaws.{length-shown, made_inline-shown, inline-shown}
use Rattle.toml_edit_tree.proofs.inline_table.InlineTable.move_to.Goals as goal

pub move_to-requires : goal.move_to-requires
move_to-requires c =
    let t = c.args.self.now in
    subst (λ n. c.args.at < n) (ap length (inline-shown t) ∙ length-shown (out-InlineTable t).items) c.requires

pub returns-clause-found : goal.returns-clause-found
returns-clause-found c =
    let t = c.args.self.now in
    c.move_to.ensures.found ∙ sym (ap (has_slot c.args.key.now) (inline-shown t) ∙ has-shown c.args.key.now (out-InlineTable t).items)

pub returns-clause-slots : goal.returns-clause-slots
returns-clause-slots c =
    let t = c.args.self.now in
    made_inline-shown _ ∙ moved-shown c.args.key.now c.args.at (out-InlineTable t).items c.move_to.new.self c.move_to.ensures.slots
    ∙ ap (moved_slot c.args.key.now c.args.at) (sym (inline-shown t))
