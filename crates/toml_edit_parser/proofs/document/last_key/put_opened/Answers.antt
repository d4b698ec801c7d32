use Rattle.std.proofs.Common.{ap, sym, ◌∙◌, Some, Ok, Err}
use Rattle.std.proofs.lemmas.Result.{err_from_is_err_and}
use Rattle.std.specs.Prelude.{option_map}
use Rattle.toml_edit_model.specs.Tree.{Slots}
use Rattle.toml_edit_model.specs.TreeOf.{spanned_in, header_fields}
use Rattle.toml_edit_laws.specs.InPlace.{replace_slot}
use Rattle.toml_edit_slots.specs.Slots.{with_item}
use Rattle.toml_edit_tree.specs.declared.item.Item.{Item}
use Rattle.toml_edit_tree.specs.View.{item_view, slots_view}
use Rattle.toml_edit_parser.proofs.PathLaws.{table-there}
use Rattle.toml_edit_parser.proofs.SlotLaws.{node-some, place-with, replaced-put, with-place}
use Rattle.toml_edit_parser.proofs.document.last_key.put_opened.Goals as goal

pub put_slot-requires : goal.put_slot-requires
put_slot-requires c = place-with c.args.key.name c.args.slots.now c.args.there c.open_item.new.there ∙ c.requires.there

pub returns-clause-put : goal.returns-clause-put
returns-clause-put c =
    λ mode s m head is.
    let k = c.args.key in
    let es = c.args.slots.now in
    let ss = slots_view es in
    let old = c.item_mut.result.now in
    let y = c.open_item.new.there in
    let n = item_view c.open_item.new.item in
    table-there mode {A = Unit {0}} c.args.reader.now.source.now (Ok tt) s m k c.args.at (item_view old) ss (slots_view c.put_slot.new.slots) is
    (node-some k.name es c.args.there old c.requires.there c.item_mut.ensures.item)
    (ap (option_map (λ x. replace_slot k.name k x ss))
    (c.in_ok-open_item.ensures.opened mode (header_fields (spanned_in mode) s s.statement) s m k head is)
    ∙ ap (λ (us : Slots). Some us) (sym (c.put_slot.ensures
    ∙ ap (λ (x : Item). replace_slot k.name k (item_view x) (slots_view (with_item c.args.there y es))) c.replace.ensures.value
    ∙ ap (replace_slot k.name k n) (with-place k.name es c.args.there y c.requires.there)
    ∙ replaced-put k.name k n (item_view y) ss)))

pub returns-in_err-open_item-clause-put : goal.returns-in_err-open_item-clause-put
returns-in_err-open_item-clause-put c =
    λ mode s m head is.
    let k = c.args.key in
    let es = c.args.slots.now in
    let old = c.item_mut.result.now in
    let q = err_from_is_err_and c.from_residual.result c.from_residual.ensures.1 in
    rw (q.1, q.2)
    (table-there mode {A = Unit {0}} c.args.reader.now.source.now (Err c.in_err-open_item.field-0.0) s m k c.args.at (item_view old) (slots_view es)
    (slots_view es) is
    (node-some k.name es c.args.there old c.requires.there c.item_mut.ensures.item)
    (c.in_err-open_item.ensures.opened mode (header_fields (spanned_in mode) s s.statement) s m k head is))
