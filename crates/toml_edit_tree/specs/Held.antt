-- The slots of a table without its placeholders, as an iterator gives them.
use Rattle.std.specs.Prelude.{List}
use Rattle.std.specs.Borrow.{Bor}
use Rattle.std.specs.Slice.Iter.{iter_rest}
use Rattle.toml_edit_model.specs.Iterating.{filled_pairs}
use Rattle.toml_edit_model.specs.Lists.{slot_list}
use Rattle.toml_edit_model.specs.Text.{Text}
use Rattle.toml_edit_model.specs.Tree.{Node}
use Rattle.toml_edit_tree.specs.declared.item.Item.{Item}
use Rattle.toml_edit_tree.specs.declared.table.iter.Iter.{Iter}
use Rattle.toml_edit_tree.specs.View.{item_view, slots_view}

-- what an iterator has left
abbrev pub held_left : Iter → List (Text × Node)
held_left it = filled_pairs (slot_list (slots_view (iter_rest it.slots)))

-- a pair that was read
abbrev pub pair_read : Bor Text × Bor Item → Text × Node
pair_read p = (p.0.now, item_view p.1.now)
