-- Each item without positions.
use denote.Param.Weighed.{most}
use Rattle.std.proofs.Common.{◌≡◌, ◌<◌, ◌≤◌, List, [], ◌∷◌, length, map, get_or, arith, refl, sym}
use Rattle.std.proofs.Common.{ap, ◌∙◌}
use Rattle.toml_edit_model.specs.Lists.{items_from}
use Rattle.toml_edit_model.specs.Positions.{items_without_positions, without_positions}
use Rattle.toml_edit_model.specs.Tree.{Node, item}
use Rattle.toml_edit_tree.specs.declared.item.Item.{size-Item}
use Rattle.toml_edit_tree.specs.View.{item_view}
use Rattle.toml_edit_tree.proofs.DespanLaws.{deepest_item, item_depth}
use Rattle.toml_edit_tree.proofs.InPlace.{finish, long_as, none_done, same, step}
use Rattle.toml_edit_edits.proofs.moves.+forget.Goals as goal

items-forgotten : (ns : List Node) → items_from (map without_positions ns) ≡ items_without_positions (items_from ns)
items-forgotten [] = refl
items-forgotten (n ∷ ns) = ap (item (without_positions n)) (items-forgotten ns)

pub forget_items-loop-at-init : goal.forget_items-loop-at-init
forget_items-loop-at-init t c = none_done item_view without_positions c.args.items.now.items

pub forget_items-forget_positions-requires : goal.forget_items-forget_positions-requires
forget_items-forget_positions-requires t c =
    let first = c.args.items.now.items in
    let items = c.loop-at.items.items in
    let at = c.loop-at.at in
    let x = c.index_mut.result.now in
    let long = long_as item_view without_positions items first at c.loop-at.invariant in
    let within : at < length items = omega (arith, long, c.len-at-end.ensures, c.loop-at-test.true) in
    let here : get_or first at x ≡ x = sym (same item_view without_positions items first at c.loop-at.invariant within x)
    ∙ sym c.index_mut.ensures.value in
    let first_within : at < length first = omega (arith, long, within) in
    let deep : size-Item x ≤ most item_depth first = rw (← here) (deepest_item first at x first_within) in
    omega (arith, deep)

pub forget_items-loop-at-preserved : goal.forget_items-loop-at-preserved
forget_items-loop-at-preserved t c =
    let first = c.args.items.now.items in
    let items = c.loop-at.items.items in
    let at = c.loop-at.at in
    let x = c.index_mut.result.now in
    let long = long_as item_view without_positions items first at c.loop-at.invariant in
    let within : at < length items = omega (arith, long, c.len-at-end.ensures, c.loop-at-test.true) in
    step item_view without_positions items first at c.loop-at.invariant within x c.forget_positions.new.item
    (c.forget_positions.ensures ∙ ap (λ y. without_positions (item_view y)) c.index_mut.ensures.value)

pub forget_items-returns : goal.forget_items-returns
forget_items-returns t c =
    let first = c.args.items.now.items in
    let items = c.loop-at.items.items in
    let at = c.loop-at.at in
    let long = long_as item_view without_positions items first at c.loop-at.invariant in
    let past : length items ≤ at = omega (arith, long, c.len-at-end.ensures, c.loop-at-test.false) in
    ap items_from (finish item_view without_positions items first at c.loop-at.invariant past) ∙ items-forgotten (map item_view first)
