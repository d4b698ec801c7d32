-- A slot gets the name, or all stay.
use Rattle.std.proofs.Common.{◌∙◌, ap, sym, inr}
use Rattle.toml_edit_slots.specs.Seen.{seen}
use Rattle.toml_edit_tree.specs.Indexed.{shown_slots}
use Rattle.toml_edit_edits.specs.Effects.{told}
use Rattle.toml_edit_edits.proofs.ViewedSlots.{absent-stays, kept, rename-told, taken-stays}
use Rattle.toml_edit_edits.proofs.keys.rename_slot.Goals as goal

pub returns-in-Done : goal.returns-in-Done
returns-in-Done c =
    rename-told c.args.from.now c.args.to.now c.args.slots.now c.rename.new.self c.in_ok-rename.field-0 c.in_ok-rename.ensures.told
    c.in_ok-rename.ensures.slots
    ∙ ap (told (shown_slots c.rename.new.self)) c.in-Done.is

pub returns-in-Absent : goal.returns-in-Absent
returns-in-Absent c = (
  inr (rename-told c.args.from.now c.args.to.now c.args.slots.now c.rename.new.self c.in_ok-rename.field-0 c.in_ok-rename.ensures.told
      c.in_ok-rename.ensures.slots
      ∙ ap (told (shown_slots c.rename.new.self)) c.in-Absent.is),
  kept c.args.slots.now c.rename.new.self (c.in_ok-rename.ensures.slots
      ∙ absent-stays c.args.from.now c.args.to.now (seen c.args.slots.now) (sym c.in_ok-rename.ensures.told ∙ c.in-Absent.is)),
)

pub returns-in-Taken : goal.returns-in-Taken
returns-in-Taken c = (
  inr (rename-told c.args.from.now c.args.to.now c.args.slots.now c.rename.new.self c.in_ok-rename.field-0 c.in_ok-rename.ensures.told
      c.in_ok-rename.ensures.slots
      ∙ ap (told (shown_slots c.rename.new.self)) c.in-Taken.is),
  kept c.args.slots.now c.rename.new.self (c.in_ok-rename.ensures.slots
      ∙ taken-stays c.args.from.now c.args.to.now (seen c.args.slots.now) (sym c.in_ok-rename.ensures.told ∙ c.in-Taken.is)),
)
