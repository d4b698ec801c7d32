-- The place of the slot of an entry.
use Rattle.toml_edit_model.specs.Keys.{new_key}
use Rattle.toml_edit_tree.specs.View.{item_view}
use Rattle.toml_edit_table_like.proofs.EntryLaws.{placed-err, placed-item, placed-leaves, placed-present, placed-rest, placed-within}
use Rattle.toml_edit_table_like.proofs.entry.TableLikeEntry.find_or_add.Goals as goal

pub returns-in-Text-clause-within : goal.returns-in-Text-clause-within
returns-in-Text-clause-within g c =
    placed-within g.T.HasSlots c.args.self.now.table.now (new_key c.in-Text.key.now) c.as_slots_mut.result.now c.find_or_add.new.slots
    c.as_slots_mut.ensures.slots c.find_or_add.result
    c.find_or_add.ensures.within

pub returns-in-Text-clause-item : goal.returns-in-Text-clause-item
returns-in-Text-clause-item g c =
    rw c.in-Text.is (placed-item g.T.HasSlots c.args.self.now.table.now (new_key c.in-Text.key.now) c.as_slots_mut.result.now
    c.find_or_add.new.slots c.as_slots_mut.ensures.slots c.find_or_add.result
    (item_view c.args.item) c.find_or_add.ensures.item)

pub returns-in-Text-clause-rest : goal.returns-in-Text-clause-rest
returns-in-Text-clause-rest g c =
    rw c.in-Text.is (placed-rest g.T.HasSlots c.args.self.now.table.now (new_key c.in-Text.key.now) c.as_slots_mut.result.now
    c.find_or_add.new.slots c.as_slots_mut.ensures.slots c.find_or_add.result
    c.find_or_add.ensures.rest)

pub returns-in-Text-clause-leaves : goal.returns-in-Text-clause-leaves
returns-in-Text-clause-leaves g c =
    rw c.in-Text.is (placed-leaves g.T.HasSlots c.args.self.now.table.now (new_key c.in-Text.key.now) c.as_slots_mut.result.now
    c.find_or_add.new.slots c.as_slots_mut.ensures.slots c.find_or_add.result
    c.find_or_add.ensures.leaves)

pub returns-in-Text-clause-present : goal.returns-in-Text-clause-present
returns-in-Text-clause-present g c =
    rw c.in-Text.is (placed-present g.T.HasSlots c.args.self.now.table.now (new_key c.in-Text.key.now) c.as_slots_mut.result.now
    c.find_or_add.new.slots c.as_slots_mut.ensures.slots c.find_or_add.result
    c.find_or_add.ensures.present)

pub returns-in-Text-clause-err : goal.returns-in-Text-clause-err
returns-in-Text-clause-err g c =
    placed-err g.T.HasSlots c.args.self.now.table.now (new_key c.in-Text.key.now) c.as_slots_mut.result.now c.find_or_add.new.slots
    c.as_slots_mut.ensures.slots c.find_or_add.result
    c.find_or_add.ensures.err

pub returns-in-Formatted-clause-within : goal.returns-in-Formatted-clause-within
returns-in-Formatted-clause-within g c =
    placed-within g.T.HasSlots c.args.self.now.table.now c.in-Formatted.key.now c.as_slots_mut-in-Formatted.result.now
    c.find_or_add_key.new.slots c.as_slots_mut-in-Formatted.ensures.slots
    c.find_or_add_key.result c.find_or_add_key.ensures.within

pub returns-in-Formatted-clause-item : goal.returns-in-Formatted-clause-item
returns-in-Formatted-clause-item g c =
    rw c.in-Formatted.is (placed-item g.T.HasSlots c.args.self.now.table.now c.in-Formatted.key.now c.as_slots_mut-in-Formatted.result.now
    c.find_or_add_key.new.slots
    c.as_slots_mut-in-Formatted.ensures.slots c.find_or_add_key.result (item_view c.args.item) c.find_or_add_key.ensures.item)

pub returns-in-Formatted-clause-rest : goal.returns-in-Formatted-clause-rest
returns-in-Formatted-clause-rest g c =
    rw c.in-Formatted.is (placed-rest g.T.HasSlots c.args.self.now.table.now c.in-Formatted.key.now c.as_slots_mut-in-Formatted.result.now
    c.find_or_add_key.new.slots
    c.as_slots_mut-in-Formatted.ensures.slots c.find_or_add_key.result c.find_or_add_key.ensures.rest)

pub returns-in-Formatted-clause-leaves : goal.returns-in-Formatted-clause-leaves
returns-in-Formatted-clause-leaves g c =
    rw c.in-Formatted.is (placed-leaves g.T.HasSlots c.args.self.now.table.now c.in-Formatted.key.now c.as_slots_mut-in-Formatted.result.now
    c.find_or_add_key.new.slots
    c.as_slots_mut-in-Formatted.ensures.slots c.find_or_add_key.result c.find_or_add_key.ensures.leaves)

pub returns-in-Formatted-clause-present : goal.returns-in-Formatted-clause-present
returns-in-Formatted-clause-present g c =
    rw c.in-Formatted.is (placed-present g.T.HasSlots c.args.self.now.table.now c.in-Formatted.key.now
    c.as_slots_mut-in-Formatted.result.now c.find_or_add_key.new.slots
    c.as_slots_mut-in-Formatted.ensures.slots c.find_or_add_key.result c.find_or_add_key.ensures.present)

pub returns-in-Formatted-clause-err : goal.returns-in-Formatted-clause-err
returns-in-Formatted-clause-err g c =
    placed-err g.T.HasSlots c.args.self.now.table.now c.in-Formatted.key.now c.as_slots_mut-in-Formatted.result.now
    c.find_or_add_key.new.slots c.as_slots_mut-in-Formatted.ensures.slots
    c.find_or_add_key.result c.find_or_add_key.ensures.err
