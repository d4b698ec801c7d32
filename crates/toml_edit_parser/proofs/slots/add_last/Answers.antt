use Rattle.std.proofs.Common.{None, is_some, sym, ap, subst, ◌∙◌, lit<, refl, inr}
use Rattle.toml_edit_model.specs.Version.{v1_1}
use Rattle.toml_edit_model.specs.OwnedForm.{SlotsFit}
use Rattle.toml_edit_model.specs.Tree.{Slots}
use Rattle.toml_edit_tree.specs.View.{item_view, slots_view}
use Rattle.toml_edit_parser.proofs.EntryLaws.{last-put, last-refused}
use Rattle.toml_edit_parser.proofs.SlotLaws.{fits-with_slot, slots_view-append}
use Rattle.toml_edit_parser.proofs.slots.add_last.Goals as goal

pub returns-in-Ok-clause-last : goal.returns-in-Ok-clause-last
returns-in-Ok-clause-last c =
    last-put c.args.key (item_view c.args.item.now) c.args.slots.now None c.args.key.name _ (sym c.in-Ok.ensures.new) refl refl
    (ap slots_view c.in-Ok.ensures.slots ∙ slots_view-append c.args.slots.now _)

pub returns-in-Ok-clause-fits : goal.returns-in-Ok-clause-fits
returns-in-Ok-clause-fits c =
    λ key item slots.
    let t = c.args.reader.now.source.now in
    subst (λ (ss : Slots). SlotsFit t ss)
    (sym (ap slots_view c.in-Ok.ensures.slots ∙ slots_view-append c.args.slots.now _))
    (fits-with_slot t (slots_view c.args.slots.now) c.args.key (item_view c.args.item.now) slots key item)

pub returns-in-Some-clause-last : goal.returns-in-Some-clause-last
returns-in-Some-clause-last c =
    let there = rw c.in-Err.is at c.add-added.ensures.refused in
    last-refused c.args.reader.now.source.now c.args.span c.args.key (item_view c.args.item.now) c.args.slots.now c.in-Err.there c.args.key.name
    c.refusal.result
    there refl (sym (ap is_some c.in-Some.is)) c.refusal.ensures.report

pub returns-in-Some-clause-refused : goal.returns-in-Some-clause-refused
returns-in-Some-clause-refused c = c.refusal.ensures.refused v1_1 (inr (0, lit< tt, refl))
