-- What is there under the key goes to the place, or to the last one.
use Rattle.std.proofs.Common.{◌≡◌, ◌+◌, sym, rules, length}
use Rattle.toml_edit_tree.specs.View.{item_view}
use Rattle.toml_edit_paths.proofs.KeyLaws.{slots-move}
use Rattle.toml_edit_paths.proofs.keys.move_in_slots.Goals as goal

pub returns-in-Some-filled_item : goal.returns-in-Some-filled_item
returns-in-Some-filled_item c =
    let size : length c.args.slots.now ≡ c.in-Some.last + 1 = search rules in
    slots-move c.args.key.now.name c.get.result.now c.get-in-Some-filled_item.result.now c.args.at c.in-Some.last c.args.slots.now
    c.move_to.new.self (item_view c.in-Some-filled_item.field-0.now) c.get.ensures.name c.get-in-Some-filled_item.ensures.name
    (sym c.in-Some-filled_item.ensures) c.move_to.result c.min.result c.move_to.ensures.found c.move_to.ensures.slots c.min.ensures size
