-- Each item is formatted.
use Rattle.std.proofs.Common.{◌≡◌, ◌<◌, ◌≤◌, ◌∷◌, length, arith, sym, ap, subst, ◌∙◌}
use Rattle.toml_edit_model.specs.Conversions.{formatted_from, formatted_items}
use Rattle.toml_edit_tree.specs.View.{item_view}
use Rattle.toml_edit_tree.proofs.ElementLaws.{listed-map}
use Rattle.toml_edit_tree.proofs.FormatLaws.{format_finish, format_step}
use Rattle.toml_edit_tree.proofs.array.format_items.Goals as goal

pub loop-at-preserved : goal.loop-at-preserved
loop-at-preserved c =
    let first = c.args.items.now.items in
    let items = c.loop-at.items.items in
    let at = c.loop-at.at in
    let was = c.loop-at.is_first in
    let x = c.index_mut.result.now in
    let y = c.format_item-is_first.new.item in
    let within : at < length items = omega (arith, c.loop-at.invariant.as_long, c.len-at-end.ensures, c.loop-at-test.true) in
    format_step items first at was c.format_item-is_first.result x y c.loop-at.invariant within
    (λ ns. subst (λ z. formatted_from was (item_view z ∷ ns) ≡ item_view y
    ∷ formatted_from c.format_item-is_first.result ns) c.index_mut.ensures.value (c.format_item-is_first.ensures ns))

pub returns : goal.returns
returns c =
    let first = c.args.items.now.items in
    let items = c.loop-at.items.items in
    let at = c.loop-at.at in
    let past : length items ≤ at = omega (arith, c.loop-at.invariant.as_long, c.len-at-end.ensures, c.loop-at-test.false) in
    listed-map items ∙ format_finish items first at c.loop-at.is_first c.loop-at.invariant past
    ∙ ap formatted_items (sym (listed-map first))
