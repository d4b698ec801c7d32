-- Whether the key has a slot.
use Rattle.std.proofs.Common.{is_some, sym, ap, ◌∙◌}
use Rattle.toml_edit_model.specs.Slots.{has_slot}
use Rattle.toml_edit_table_like.specs.Entries.{entry_key}
use Rattle.toml_edit_table_like.proofs.ShownLaws.{has_slot-shown}
use Rattle.toml_edit_table_like.proofs.entry.TableLikeEntry.is_occupied.Goals as goal

pub returns : goal.returns
returns g c =
    let t = c.args.self.now.table.now in
    let k = (entry_key c.args.self.now).name in
    c.is_some.ensures ∙ ap is_some c.find.ensures.place
    ∙ sym (ap (has_slot k) (g.T.HasSlots.shows t) ∙ has_slot-shown k (g.T.HasSlots.entries t))
