-- Another item in a slot.
use Rattle.std.proofs.Common.{◌≡◌, rules, sym, subst, set}
use Rattle.toml_edit_slots.specs.Slots.{with_item}
use Rattle.toml_edit_slots.specs.SlotIndex.{IsIndexed}
use Rattle.toml_edit_slots.proofs.SlotLaws.{with_item-set, names-with_item, apart-with_item, items_of-get}
use Rattle.toml_edit_slots.proofs.slots.Slots.replace_item.Goals as goal

pub invariant_of-self : goal.invariant_of-self
invariant_of-self g c =
    let es = c.self.inside.entries.items in
    let x = c.args.item in
    let done : set es c.args.at (record { key = c.index_mut-slot.result.now.key; item = c.replace.new.dest }) ≡ with_item c.args.at x es =
    rw (with_item-set es c.args.at c.index_mut-slot.result.now x) (search rules) in
    rw done (
      apart-with_item es c.args.at x c.self.invariant.0,
      subst (IsIndexed c.self.inside.index) (sym (names-with_item es c.args.at x)) c.self.invariant.1,
    )

pub returns-clause-old : goal.returns-clause-old
returns-clause-old g c = rw (items_of-get c.args.self.now c.args.at c.index_mut-slot.result.now c.requires) (search rules)

pub returns-clause-slots : goal.returns-clause-slots
returns-clause-slots g c = rw (with_item-set c.args.self.now c.args.at c.index_mut-slot.result.now c.args.item) (search rules)
