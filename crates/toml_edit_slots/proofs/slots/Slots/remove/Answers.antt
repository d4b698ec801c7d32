-- A slot taken out.
use Rattle.std.proofs.Common.{◌≡◌, ◌∙◌, rules, sym, ap, subst, remove}
use Rattle.toml_edit_slots.specs.Slots.{AreApart, names, without}
use Rattle.toml_edit_slots.specs.Seen.{seen}
use Rattle.toml_edit_slots.specs.SlotIndex.{IsIndexed}
use Rattle.toml_edit_slots.proofs.IndexLaws.{names-removed}
use Rattle.toml_edit_slots.proofs.SlotLaws.{lookup_slot-absent, lookup_slot-present, without-absent, without-present, apart-without}
use Rattle.toml_edit_slots.proofs.SlotLaws.{place-without}
use Rattle.toml_edit_slots.proofs.SeenLaws.{without-none-seen, without-seen}
use Rattle.toml_edit_slots.proofs.slots.Slots.remove.Goals as goal

pub returns-in_err-at-clause-slot : goal.returns-in_err-at-clause-slot
returns-in_err-at-clause-slot g c = rw (lookup_slot-absent c.args.text.now c.args.self.now (sym c.in_err-at.ensures.place)) (search rules)

pub returns-in_err-at-clause-slots : goal.returns-in_err-at-clause-slots
returns-in_err-at-clause-slots g c = sym (without-absent c.args.text.now c.args.self.now (sym c.in_err-at.ensures.place))

pub returns-clause-slots : goal.returns-clause-slots
returns-clause-slots g c =
    rw (
      c.remove.ensures.items,
      without-present c.args.text.now c.args.self.now c.in_ok-at.at (sym c.in_ok-at.ensures.place),
      ← c.self.view_is,
    ) (search rules)

pub returns-clause-slot : goal.returns-clause-slot
returns-clause-slot g c =
    rw (
      lookup_slot-present c.args.text.now c.args.self.now c.in_ok-at.at c.remove.result (sym c.in_ok-at.ensures.place),
      ← c.self.view_is,
    ) (search rules)

pub invariant_of-self : goal.invariant_of-self
invariant_of-self g c =
    let t = c.args.text.now in
    let es = c.self.inside.entries.items in
    let left : c.remove.new.self.items ≡ without t es = c.remove.ensures.items
    ∙ sym (without-present t es c.in_ok-at.at (rw c.self.view_is (sym c.in_ok-at.ensures.place))) in
    let named : remove (names c.deref.result.now) c.in_ok-at.at ≡ names c.remove.new.self.items =
    ap (λ l. remove (names l) c.in_ok-at.at) c.deref.ensures.value ∙ sym (names-removed es c.in_ok-at.at)
    ∙ sym (ap names c.remove.ensures.items) in
    (rw left (apart-without t es c.self.invariant.0), subst (IsIndexed c.close_gap.new.index) named c.close_gap.ensures)

pub returns-clause-absent : goal.returns-clause-absent
returns-clause-absent g c =
    let t = c.args.text.now in
    let es = c.self.inside.entries.items in
    rw (c.remove.ensures.items, ← without-present t es c.in_ok-at.at (rw c.self.view_is (sym c.in_ok-at.ensures.place)))
    (place-without t es c.self.invariant.0)

pub returns-in_err-at-clause-seen : goal.returns-in_err-at-clause-seen
returns-in_err-at-clause-seen g c = sym (without-none-seen c.args.text.now c.args.self.now (sym c.in_err-at.ensures.place))

pub returns-clause-seen : goal.returns-clause-seen
returns-clause-seen g c = ap seen (returns-clause-slots g c)
    ∙ without-seen c.args.text.now c.args.self.now (subst AreApart c.self.view_is c.self.invariant.0)
