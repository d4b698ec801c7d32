use Rattle.std.proofs.Common.{◌≡◌, sym, ap, ◌∙◌, ◌-◌, ℕ, List, length, slice_get}
use Rattle.std.specs.Cmp.Lexicographic.{same_text}
use Rattle.toml_edit_model.specs.Text.{Text}
use Rattle.toml_edit_slots.specs.declared.slots.Slot.{Slot}
use Rattle.toml_edit_slots.specs.Slots.{place}
use Rattle.toml_edit_tree.specs.declared.item.Item.{Item}
use Rattle.toml_edit_parser.proofs.SlotLaws.{place-last}
use Rattle.toml_edit_parser.proofs.document.block.place_of.Goals as goal

pub returns-then-eq-clause-place : goal.returns-then-eq-clause-place
returns-then-eq-clause-place c =
    let es = c.args.slots.now in
    let at : ℕ = length c.as_slice-entries.result.now - 1 in
    let last = c.in-Some.last.now in
    let here = sym (c.in-Some.ensures.value ∙ ap (λ (xs : List (Slot Item)). slice_get xs at) c.as_slice-entries.ensures.slots) in
    let named : c.args.name.now ≡ last.key.name = sym (same_text c.get.result.now c.args.name.now c.if-eq.ensures) ∙ c.get.ensures.name in
    sym (ap (λ (t : Text). place t es) named ∙ place-last es at last here (c.as_slice-entries.ensures.apart at last here))
