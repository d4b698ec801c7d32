-- The item of a key, which may be new.
use Rattle.std.proofs.Common.{option_and_then, ap, sym, ◌∙◌}
use Rattle.toml_edit_model.specs.Indexing.{item_under}
use Rattle.toml_edit_model.specs.Slots.{lookup, place}
use Rattle.toml_edit_tree.proofs.IndexedLaws.{found-at, low-at}
use Rattle.toml_edit_tree.proofs.item.Item.index_or_insert.Goals as goal

pub item_mut-requires : goal.item_mut-requires
item_mut-requires c =
    let k = c.args.key.now in
    low-at k c.in-Some.slots.now c.in-Ok.at (ap (option_and_then (place k)) c.in-Some.ensures.slots ∙ c.in-Ok.ensures.place)

pub returns-in-Some-clause-item : goal.returns-in-Some-clause-item
returns-in-Some-clause-item c =
    let k = c.args.key.now in
    let es = c.in-Some.slots.now in
    ap (option_and_then (item_under k)) c.in-Ok.ensures.made ∙ ap (option_and_then (lookup k)) (sym c.in-Some.ensures.slots)
    ∙ found-at k es c.in-Ok.at c.item_mut.result.now (ap (option_and_then (place k)) c.in-Some.ensures.slots
    ∙ c.in-Ok.ensures.place) c.item_mut.ensures.item
