-- The slots of the item's table, to be changed.
use Rattle.std.proofs.Common.{refl}
use Rattle.toml_edit_table_like.specs.MutRefs.{same-ref}
use Rattle.toml_edit_table_like.proofs.MutLaws.{own-entries}
use Rattle.toml_edit_table_like.proofs.table_ref_mut.made_of.TableRefMutHasSlots.as_slots_mut.Goals as goal

pub returns : goal.returns
returns c = (
  (refl, λ w. same-ref _ _ refl),
  record { writes_back = tt; slots = own-entries c.args.self.now.item.now c.own_slots_mut.result.now c.own_slots_mut.ensures.slots },
)
