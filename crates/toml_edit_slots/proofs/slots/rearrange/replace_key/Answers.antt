-- Another key with the old one's decors.
use Rattle.toml_edit_slots.specs.Renaming.{with_decors_of}
use Rattle.toml_edit_slots.proofs.SlotLaws.{on_key-is}
use Rattle.toml_edit_slots.proofs.slots.rearrange.replace_key.Goals as goal

pub returns : goal.returns
returns g c =
    on_key-is (with_decors_of c.args.key) c.args.entries.now.items c.args.at c.index_mut-slot.result.now c.change_key.new.present
    c.index_mut-slot.ensures.value c.change_key.ensures
