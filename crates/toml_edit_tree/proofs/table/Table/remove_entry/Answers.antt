-- The clauses of the slots, as the table shows them.
use Rattle.std.proofs.Common.{◌≡◌, Option, None, Some, option_map, refl, sym, ap, ◌∙◌}
use Rattle.toml_edit_model.specs.Slots.{lookup_slot, on_item, without}
use Rattle.toml_edit_model.specs.Tree.{Key}
use Rattle.toml_edit_slots.specs.Seen.{pair_seen}
use Rattle.toml_edit_tree.specs.SlotsOf.{slot_taken}
use Rattle.toml_edit_tree.specs.View.{item_view}
use Rattle.toml_edit_tree.specs.declared.item.Item.{Item}
use Rattle.toml_edit_tree.specs.declared.table.Table.{out-Table}
use Rattle.toml_edit_tree.proofs.SlotsLaws.{lookup_slot-of, made-shown, table-shown, without-shown}
use Rattle.toml_edit_tree.proofs.table.Table.remove_entry.Goals as goal

taken : (o : Option (Key × Item)) → option_map slot_taken o ≡ option_map (on_item item_view) (option_map pair_seen o)
taken None = refl
taken (Some p) = refl

pub returns-clause-slot : goal.returns-clause-slot
returns-clause-slot c =
    let t = c.args.self.now in
    taken c.remove_entry.result ∙ ap (option_map (on_item item_view)) c.remove_entry.ensures.slot
    ∙ sym (ap (lookup_slot c.args.key.now) (table-shown t) ∙ lookup_slot-of c.args.key.now (out-Table t).slots)

pub returns-clause-slots : goal.returns-clause-slots
returns-clause-slots c =
    let t = c.args.self.now in
    made-shown _ ∙ without-shown c.args.key.now (out-Table t).slots c.remove_entry.new.self c.remove_entry.ensures.slots
    ∙ ap (without c.args.key.now) (sym (table-shown t))
