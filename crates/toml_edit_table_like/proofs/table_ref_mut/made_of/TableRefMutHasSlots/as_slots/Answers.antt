-- The slots of the item's table.
use Rattle.toml_edit_table_like.proofs.MutLaws.{own-entries}
use Rattle.toml_edit_table_like.proofs.table_ref_mut.made_of.TableRefMutHasSlots.as_slots.Goals as goal

pub returns : goal.returns
returns c = own-entries c.args.self.now.item.now c.own_slots.result.now c.own_slots.ensures
