-- A slot taken out of its place, as the inline table shows it.
use Rattle.std.proofs.Common.{◌≡◌, IfSome, sym, ap, subst, ◌∙◌}
use Rattle.toml_edit_model.specs.Slots.{without}
use Rattle.toml_edit_slots.specs.declared.slots.Slot.{Slot}
use Rattle.toml_edit_tree.specs.SlotsOf.{inline_slots_of}
use Rattle.toml_edit_tree.specs.declared.inline_table.InlineTable.{out-InlineTable}
use Rattle.toml_edit_tree.proofs.SlotsLaws.{inline-shown, made_inline-shown, without-shown}
use Rattle.toml_edit_tree.proofs.inline_table.InlineTable.remove_value_at.Goals as goal

pub returns-clause-removed : goal.returns-clause-removed
returns-clause-removed c =
    let t = c.args.self.now in
    let name = c.remove_at.result.key.name in
    subst (λ found. IfSome found (λ (s : Slot _). inline_slots_of (record t { items = c.remove_at.new.self })
    ≡ without s.key.name (inline_slots_of t)))
    (sym c.remove_at.ensures.slot)
    (made_inline-shown _ ∙ without-shown name (out-InlineTable t).items c.remove_at.new.self c.remove_at.ensures.seen
    ∙ ap (without name) (sym (inline-shown t)))
