-- A slot taken out of its place, as the table shows it.
use Rattle.std.proofs.Common.{◌≡◌, Some, IfSome, option_map, sym, ap, subst, ◌∙◌}
use Rattle.toml_edit_model.specs.Slots.{without}
use Rattle.toml_edit_slots.specs.declared.slots.Slot.{Slot}
use Rattle.toml_edit_tree.specs.SlotsOf.{slots_of}
use Rattle.toml_edit_tree.specs.declared.table.Table.{out-Table}
use Rattle.toml_edit_tree.proofs.SlotsLaws.{made-shown, made_fields, table-shown, without-shown}
use Rattle.toml_edit_tree.proofs.TableEntryLaws.{items-get}
use Rattle.toml_edit_tree.proofs.table.Table.remove_at.Goals as goal

pub returns-clause-item : goal.returns-clause-item
returns-clause-item c =
    ap Some c.into_item.ensures
    ∙ sym (items-get (out-Table c.args.self.now).slots c.args.at ∙ ap (option_map (λ (s : Slot _). s.item)) c.remove_at.ensures.slot)

pub returns-clause-removed : goal.returns-clause-removed
returns-clause-removed c =
    let t = c.args.self.now in
    let name = c.remove_at.result.key.name in
    subst (λ found. IfSome found (λ (s : Slot _). slots_of (record t { slots = c.remove_at.new.self }) ≡ without s.key.name (slots_of t)))
    (sym c.remove_at.ensures.slot)
    (made-shown _ ∙ without-shown name (out-Table t).slots c.remove_at.new.self c.remove_at.ensures.seen
    ∙ ap (without name) (sym (table-shown t)))

pub returns-clause-fields : goal.returns-clause-fields
returns-clause-fields c = made_fields c.args.self.now c.remove_at.new.self
