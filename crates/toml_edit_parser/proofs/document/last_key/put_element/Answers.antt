use Rattle.std.proofs.Common.{sym, ap, ◌∙◌}
use Rattle.toml_edit_model.specs.Text.{Text}
use Rattle.toml_edit_slots.specs.Slots.{place}
use Rattle.toml_edit_tree.specs.View.{item_view, slots_view}
use Rattle.toml_edit_parser.proofs.PathLaws.{element-new, element-there}
use Rattle.toml_edit_parser.proofs.SlotLaws.{node-none, node-some, with-place}
use Rattle.toml_edit_parser.proofs.document.last_key.put_element.Goals as goal

pub returns-in-Some-clause-put : goal.returns-in-Some-clause-put
returns-in-Some-clause-put c =
    λ mode s m head is.
    let k = c.args.key in
    let es = c.args.slots.now in
    let here = sym (c.in-Some.ensures.place ∙ ap (λ (x : Text). place x es) c.get.ensures.name) in
    element-there mode c.args.adding.now.reader.now.source.now c.add_element.result s m k c.args.at c.args.brackets (item_view c.args.item.now)
    (item_view c.item_mut.result.now)
    (item_view c.add_element.new.holder) (slots_view es) _ is head
    (node-some k.name es c.in-Some.place c.item_mut.result.now here c.item_mut.ensures.item)
    (with-place k.name es c.in-Some.place c.add_element.new.holder here) (c.add_element.ensures.added mode s m k is)

pub returns-in_ok-put_tables-in-None-clause-put : goal.returns-in_ok-put_tables-in-None-clause-put
returns-in_ok-put_tables-in-None-clause-put c =
    λ mode s m head is.
    let k = c.args.key in
    let es = c.args.slots.now in
    element-new mode s m k c.args.at c.args.brackets (item_view c.args.item.now) (slots_view es) _ is head
    (node-none k.name es (sym (c.in-None.ensures.place ∙ ap (λ (x : Text). place x es) c.get.ensures.name)))
    c.in_ok-put_tables-in-None.ensures
