-- The new array as its `fmt` leaves it.
use Rattle.toml_edit_tree.specs.View.{items_view}
use Rattle.toml_edit_tree.proofs.ConvertLaws.{array-formed}
use Rattle.toml_edit_tree.proofs.convert.array_of.Goals as goal

pub returns : goal.returns
returns c = array-formed _ c.fmt.new.self (items_view c.args.items.items) c.bare_array-array.ensures c.fmt.ensures.items
    c.fmt.ensures.fields
