-- The item at a place, to be changed.
use Rattle.std.proofs.Common.{◌≡◌, rules, refl, sym, subst, set}
use Rattle.toml_edit_slots.specs.Slots.{with_item}
use Rattle.toml_edit_slots.specs.SlotIndex.{IsIndexed}
use Rattle.toml_edit_slots.proofs.SlotLaws.{with_item-set, names-with_item, apart-with_item, items_of-get}
use Rattle.toml_edit_slots.proofs.slots.Slots.item_mut.Goals as goal

pub invariant_of-self-lent : goal.invariant_of-self-lent
invariant_of-self-lent g c w =
    let es = c.self.inside.entries.items in
    let done : set es c.args.at (record { key = c.index_mut-lent.result.now.key; item = w }) ≡ with_item c.args.at w es =
    rw (with_item-set es c.args.at c.index_mut-lent.result.now w) (search rules) in
    rw done (
      apart-with_item es c.args.at w c.self.invariant.0,
      subst (IsIndexed c.self.inside.index) (sym (names-with_item es c.args.at w)) c.self.invariant.1,
    )

pub returns : goal.returns
returns g c = (
  (refl, λ w. rw (with_item-set c.args.self.now c.args.at c.index_mut-lent.result.now w) (search rules)),
  record { writes_back = tt; item = rw (items_of-get c.args.self.now c.args.at c.index_mut-lent.result.now c.requires) (search rules) },
)
