-- Another item in the slot of an entry.
use Rattle.std.proofs.Common.{ap, ◌∙◌, slice_get}
use Rattle.toml_edit_slots.specs.Lengths.{length-with_item}
use Rattle.toml_edit_slots.specs.Slots.{items_of}
use Rattle.toml_edit_tree.specs.declared.table.Table.{out-Table}
use Rattle.toml_edit_tree.specs.SlotsOf.{slots_of}
use Rattle.toml_edit_tree.proofs.LentLaws.{item-leaves}
use Rattle.toml_edit_tree.proofs.SlotsLaws.{made_fields}
use Rattle.toml_edit_tree.proofs.TableEntryLaws.{item-with_item}
use Rattle.toml_edit_tree.proofs.table.entry.OccupiedEntry.insert.Goals as goal

pub invariant_of-self : goal.invariant_of-self
invariant_of-self c =
    let o = c.args.self.now in
    record { within = rw (c.replace_item.ensures.slots, length-with_item (out-Table o.table.now).slots o.at c.args.item) o.within }

pub returns-clause-holds : goal.returns-clause-holds
returns-clause-holds c =
    let o = c.args.self.now in
    ap (λ l. slice_get (items_of l) o.at) c.replace_item.ensures.slots
    ∙ item-with_item (out-Table o.table.now).slots o.at c.args.item o.within

pub returns-clause-slots : goal.returns-clause-slots
returns-clause-slots c =
    let o = c.args.self.now in
    ap (λ l. slots_of (record o.table.now { slots = l })) c.replace_item.ensures.slots ∙ item-leaves o.at o.table.now c.args.item

pub returns-clause-fields : goal.returns-clause-fields
returns-clause-fields c = made_fields c.args.self.now.table.now _
