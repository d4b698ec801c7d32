-- The slots of the code as the tree has them.
use Rattle.std.specs.Prelude.{List}
use Rattle.toml_edit_model.specs.Lists.{slot_list}
use Rattle.toml_edit_model.specs.Slots.{Slot}
use Rattle.toml_edit_model.specs.Tree.{Node}
use Rattle.toml_edit_slots.specs.declared.slots.Slot as code
use Rattle.toml_edit_tree.specs.View.{slots_view}
use Rattle.toml_edit_tree.specs.declared.item.Item.{Item}

abbrev pub shown : List (code.Slot Item) → List (Slot Node)
shown es = slot_list (slots_view es)
