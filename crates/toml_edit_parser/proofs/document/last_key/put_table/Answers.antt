use Rattle.std.proofs.Common.{sym, ap, ◌∙◌}
use Rattle.toml_edit_model.specs.Text.{Text}
use Rattle.toml_edit_slots.specs.Slots.{place}
use Rattle.toml_edit_tree.specs.View.{item_view, slots_view}
use Rattle.toml_edit_parser.proofs.PathLaws.{table-new}
use Rattle.toml_edit_parser.proofs.SlotLaws.{node-none}
use Rattle.toml_edit_parser.proofs.document.last_key.put_table.Goals as goal

pub returns-in_ok-push_item-in-None-clause-put : goal.returns-in_ok-push_item-in-None-clause-put
returns-in_ok-push_item-in-None-clause-put c =
    λ mode s m head is.
    let k = c.args.key in
    let es = c.args.slots.now in
    table-new mode s m k c.args.at (item_view c.args.item.now) (slots_view es) _ is head
    (node-none k.name es (sym (c.in-None.ensures.place ∙ ap (λ (x : Text). place x es) c.get.ensures.name)))
    c.in_ok-push_item-in-None.ensures

pub put_opened-requires-clause-there : goal.put_opened-requires-clause-there
put_opened-requires-clause-there c = sym (c.in-Some.ensures.place ∙ ap (λ (x : Text). place x c.args.slots.now) c.get.ensures.name)
