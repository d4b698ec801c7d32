-- A slot taken out.
use Rattle.toml_edit_table_like.proofs.SlotLaws.{removed}
use Rattle.toml_edit_table_like.proofs.slot.TableLikeSlot.remove.Goals as goal

pub returns-clause-removed : goal.returns-clause-removed
returns-clause-removed g c =
    removed g.T.HasSlots c.args.self.table.now c.as_slots_mut.result.now c.remove_at.new.self c.args.self.at c.remove_at.result
    c.as_slots_mut.ensures.slots c.remove_at.ensures.slot
    c.remove_at.ensures.seen
