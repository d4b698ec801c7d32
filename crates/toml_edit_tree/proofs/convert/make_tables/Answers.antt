-- Each item made a table.
use Rattle.std.proofs.Common.{◌<◌, ◌≤◌, length, map, arith, ap, ◌∙◌}
use Rattle.toml_edit_model.specs.Conversions.{made_table}
use Rattle.toml_edit_model.specs.Lists.{items_from}
use Rattle.toml_edit_tree.specs.View.{item_view}
use Rattle.toml_edit_tree.proofs.ConvertLaws.{each-table}
use Rattle.toml_edit_tree.proofs.InPlace.{finish, long_as, none_done, step}
use Rattle.toml_edit_tree.proofs.convert.make_tables.Goals as goal

pub loop-at-init : goal.loop-at-init
loop-at-init c = none_done item_view made_table c.args.items.now.items

pub loop-at-preserved : goal.loop-at-preserved
loop-at-preserved c =
    let first = c.args.items.now.items in
    let items = c.loop-at.items.items in
    let at = c.loop-at.at in
    let x = c.index_mut.result.now in
    let long = long_as item_view made_table items first at c.loop-at.invariant in
    let within : at < length items = omega (arith, long, c.len-at-end.ensures, c.loop-at-test.true) in
    step item_view made_table items first at c.loop-at.invariant within x c.make_table.new.item
    (c.make_table.ensures ∙ ap (λ y. made_table (item_view y)) c.index_mut.ensures.value)

pub returns : goal.returns
returns c =
    let first = c.args.items.now.items in
    let items = c.loop-at.items.items in
    let at = c.loop-at.at in
    let long = long_as item_view made_table items first at c.loop-at.invariant in
    let past : length items ≤ at = omega (arith, long, c.len-at-end.ensures, c.loop-at-test.false) in
    ap items_from (finish item_view made_table items first at c.loop-at.invariant past) ∙ each-table (map item_view first)
