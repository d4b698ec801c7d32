-- Each call overlays by an item in the second table.
use Rattle.std.proofs.Common.{◌≡◌, Some, arith, slice_get, sym}
use Rattle.std.proofs.lemmas.Grind.{common_steps}
use Rattle.std.proofs.lemmas.Option.{gets}
use Rattle.toml_edit.specs.tree.View.{item_view}
use Rattle.example_tools.proofs.Sizes.{held_smaller}
use Rattle.example_tools.proofs.merge.+overlay.Goals as goal

pub overlay-requires : goal.overlay-requires
overlay-requires t c =
    let got : slice_get c.in-Some.over.now c.loop-slot.slot-index ≡ Some c.slot-item.result = grind (arith, common_steps, gets) in
    let small = held_smaller (item_view c.args.new.now) c.in-Some.over.now c.loop-slot.slot-index c.slot-item.result (sym c.in-Some.ensures) got in
    grind (arith, common_steps, small)
