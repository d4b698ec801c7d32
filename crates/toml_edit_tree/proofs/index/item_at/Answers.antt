-- The item at a place.
use Rattle.std.proofs.Common.{arith, ap, sym, Some, ◌∙◌}
use Rattle.std.proofs.lemmas.Option.{slice_get-get_or}
use Rattle.toml_edit_tree.proofs.PlaceLaws.{slot_here, slot_past}
use Rattle.toml_edit_tree.proofs.index.item_at.Goals as goal

pub returns-then-at-items : goal.returns-then-at-items
returns-then-at-items c =
    let x = c.index-items-at.result in
    slot_here c.args.items.now c.args.at x (ap Some c.index-items-at.is
    ∙ sym (slice_get-get_or c.args.items.now c.args.at x c.if-at-items.true))

pub returns-else-at-items : goal.returns-else-at-items
returns-else-at-items c = slot_past c.args.items.now c.args.at (omega arith)
