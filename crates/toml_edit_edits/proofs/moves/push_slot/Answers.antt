-- The slot comes last, or its name is there.
use Rattle.std.proofs.Common.{◌≡◌, ◌∙◌, ◌++◌, ap, sym, inr, true, false}
use Rattle.std.specs.Prelude.{Ok, Err, is_some}
use Rattle.toml_edit_model.specs.Slots.{has_slot}
use Rattle.toml_edit_model.specs.Text.{one}
use Rattle.toml_edit_laws.proofs.common.Tests.{if-false, if-true}
use Rattle.toml_edit_tree.specs.Indexed.{shown_slots}
use Rattle.toml_edit_edits.specs.Slots.{shown_slot}
use Rattle.toml_edit_edits.specs.declared.fault.EditFault.TheVariants.{Taken}
use Rattle.toml_edit_edits.proofs.ViewedSlots.{has-place, shown-last}
use Rattle.std.proofs.Common.{ℕ, Option, Some, subst}
use Rattle.toml_edit_slots.specs.Refusals.{IsRefusal}
use Rattle.toml_edit_slots.specs.Slots.{place}
use Rattle.toml_edit_slots.specs.declared.slots.Refused.TheVariants.{Present}
use Rattle.toml_edit_slots.specs.declared.slots.Slot.{Slot}
use Rattle.toml_edit_tree.specs.declared.item.Item.{Item}
use Rattle.toml_edit_edits.proofs.moves.push_slot.Goals as goal

refused-place : (s : Slot Item) (o : Option ℕ) (i : ℕ) (b : Slot Item) → IsRefusal s o (Present i b) → o ≡ Some i
refused-place s o i b h = h.0

pub returns-in-Ok : goal.returns-in-Ok
returns-in-Ok c =
    let es = c.args.slots.now in
    let k = c.args.slot.key.name in
    let new : has_slot k (shown_slots es) ≡ false = has-place k es ∙ ap (λ o. is_some o) c.in-Ok.ensures.new in
    if-false (has_slot k (shown_slots es)) (Err Taken) (Ok (shown_slots es ++ one (shown_slot c.args.slot))) new
    ∙ ap (λ x. Ok x) (sym (shown-last es c.args.slot) ∙ ap shown_slots (sym c.in-Ok.ensures.slots))

pub returns-in-Err-Present : goal.returns-in-Err-Present
returns-in-Err-Present c =
    let es = c.args.slots.now in
    let k = c.args.slot.key.name in
    let there : has_slot k (shown_slots es) ≡ true = has-place k es ∙ ap (λ o. is_some o) (refused-place c.args.slot (place k es) c.in-Err-Present.field-0-0 c.in-Err-Present.slot (subst (IsRefusal c.args.slot (place k es)) c.in-Err-Present.field-0-is c.in-Err-Present.ensures.refused)) in (
      inr (if-true (has_slot k (shown_slots es)) (Err Taken) (Ok (shown_slots es ++ one (shown_slot c.args.slot))) there),
      ap shown_slots c.in-Err-Present.ensures.err,
    )
