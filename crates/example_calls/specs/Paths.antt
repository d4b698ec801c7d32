-- What a path of two keys leads to.
use Rattle.std.specs.Prelude.{List, Option, option_and_then}
use Rattle.toml_edit.specs.model.Lists.{slot_list}
use Rattle.toml_edit.specs.model.Slots.{Slot}
use Rattle.toml_edit.specs.model.TableCalls.{get}
use Rattle.toml_edit.specs.model.Text.{Text}
use Rattle.toml_edit.specs.model.Tree.{Node}
use Rattle.toml_edit.specs.tree.Containers.{table_in, value_in}
use Rattle.toml_edit.specs.tree.SlotsOf.{slots_of}
use Rattle.toml_edit.specs.tree.declared.table.Table.{Table}

-- the value under a key, of these slots and of the table that an item is
abbrev pub value_under : Text → List (Slot Node) → Option Node
value_under k es = option_and_then value_in (get k es)

abbrev pub value_inside : Text → Node → Option Node
value_inside k n = option_and_then (λ x. value_under k (slot_list x.slots)) (table_in n)

-- that of the table under another one
abbrev pub value_below : Text → Text → List (Slot Node) → Option Node
value_below t k es = option_and_then (value_inside k) (get t es)

abbrev pub value_at : Text → Text → Table → Option Node
value_at t k root = value_below t k (slots_of root)
