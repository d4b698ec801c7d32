-- A table that is moved to another one.
use Rattle.std.specs.Prelude.{List, Option, option_and_then, option_map}
use Rattle.toml_edit.specs.model.Positions.{without_positions}
use Rattle.toml_edit.specs.model.Slots.{Slot, inserted_formatted}
use Rattle.toml_edit.specs.model.TableCalls.{get, get_slot}
use Rattle.toml_edit.specs.model.Text.{Text}
use Rattle.toml_edit.specs.model.Tree.{Node}
use Rattle.toml_edit.specs.tree.Containers.{TableView, table_in, table_node}

-- the table of the name, if it has one
abbrev pub table_at : Text → List (Slot Node) → Option TableView
table_at t es = option_and_then table_in (get t es)

-- the second list with the table that the name has in the first one, under its key there, and
-- without positions
abbrev pub with_table : Text → List (Slot Node) → List (Slot Node) → Option (List (Slot Node))
with_table t from to =
    option_and_then (λ s.
    option_map (λ v. inserted_formatted s.key (without_positions (table_node v)) to) (table_in s.item))
    (get_slot t from)
