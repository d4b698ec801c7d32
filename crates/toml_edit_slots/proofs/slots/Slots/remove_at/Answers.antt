-- A slot taken out of its place.
use Rattle.std.proofs.Common.{◌≡◌, ◌<◌, Some, ◌∙◌, sym, ap, subst, get_or, length, remove, slice_get}
use Rattle.std.proofs.lemmas.Option.{slice_get-get_or}
use Rattle.toml_edit_slots.specs.Slots.{AreApart, names, place, without}
use Rattle.toml_edit_slots.specs.SlotIndex.{IsIndexed}
use Rattle.toml_edit_slots.proofs.IndexLaws.{names-removed}
use Rattle.toml_edit_slots.proofs.SlotLaws.{apart-without, place-own, without-present}
use Rattle.toml_edit_slots.specs.declared.slots.Slot.{Slot}
use Rattle.toml_edit_slots.specs.Seen.{seen}
use Rattle.toml_edit_model.specs.Slots as model
use Rattle.toml_edit_slots.proofs.SeenLaws.{without-at-seen}
use Rattle.toml_edit_slots.proofs.slots.Slots.remove_at.Goals as goal

pub close_gap-requires-clause-gap : goal.close_gap-requires-clause-gap
close_gap-requires-clause-gap g c =
    let es = c.self.inside.entries.items in
    let d = c.index.result.now in
    let within : c.args.at < length es = subst (λ l. c.args.at < length l) (sym c.self.view_is) c.requires in
    ap (λ l. place c.get.result.now l) c.deref.ensures.value
    ∙ ap (λ u. place u es) (c.get.ensures.name ∙ ap (λ s. s.key.name) c.index.ensures)
    ∙ place-own es c.args.at d within c.self.invariant.0

pub invariant_of-self : goal.invariant_of-self
invariant_of-self g c =
    let es = c.self.inside.entries.items in
    let at = c.args.at in
    let d = c.index.result.now in
    let t = (get_or es at d).key.name in
    let within : at < length es = subst (λ l. at < length l) (sym c.self.view_is) c.requires in
    let left : c.remove.new.self.items ≡ without t es = c.remove.ensures.items
    ∙ sym (without-present t es at (place-own es at d within c.self.invariant.0)) in
    let named : remove (names c.deref.result.now) at ≡ names c.remove.new.self.items =
    ap (λ l. remove (names l) at) c.deref.ensures.value ∙ sym (names-removed es at) ∙ sym (ap names c.remove.ensures.items) in
    (subst AreApart (sym left) (apart-without t es c.self.invariant.0), subst (IsIndexed c.close_gap.new.index) named c.close_gap.ensures)

pub returns-clause-slot : goal.returns-clause-slot
returns-clause-slot g c =
    let es = c.self.inside.entries.items in
    let at = c.args.at in
    let within : at < length es = subst (λ l. at < length l) (sym c.self.view_is) c.requires in
    ap (λ l. slice_get l at) (sym c.self.view_is) ∙ slice_get-get_or es at c.remove.result within ∙ ap Some (sym c.remove.ensures.value)

pub returns-clause-seen : goal.returns-clause-seen
returns-clause-seen g c =
    let es = c.self.inside.entries.items in
    let at = c.args.at in
    let taken = c.remove.result in
    let within : at < length es = subst (λ l. at < length l) (sym c.self.view_is) c.requires in
    let own : place taken.key.name es ≡ Some at =
    ap (λ (s : Slot _). place s.key.name es) c.remove.ensures.value ∙ place-own es at taken within c.self.invariant.0 in
    ap seen c.remove.ensures.items ∙ without-at-seen taken.key.name es at taken c.self.invariant.0 own
    ∙ ap (λ l. model.without taken.key.name (seen l)) c.self.view_is
