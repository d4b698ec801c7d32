-- A table of either kind that is lent to be read, and the item that is one.
use Rattle.std.specs.Prelude.{Bool, List, Option, is_some}
use Rattle.toml_edit_model.specs.Lists.{only, slots_in}
use Rattle.toml_edit_model.specs.Slots.{Slot}
use Rattle.toml_edit_model.specs.Tree.{Node}
use Rattle.toml_edit_table_like.specs.declared.table_ref.TableRef.{TableRef}
use Rattle.toml_edit_table_like.specs.declared.table_ref.TableRef.TheVariants as refs
use Rattle.toml_edit_tree.specs.Containers.{inline_node, table_node}
use Rattle.toml_edit_tree.specs.SlotsOf.{inline_slots_of, slots_of}
use Rattle.toml_edit_tree.specs.View.{inline_view, table_view}

-- the table, and its slots
abbrev pub ref_node : TableRef → Node
ref_node (refs.Table t) = table_node (table_view t.now)
ref_node (refs.InlineTable t) = inline_node (inline_view t.now)

abbrev pub ref_slots : TableRef → List (Slot Node)
ref_slots (refs.Table t) = slots_of t.now
ref_slots (refs.InlineTable t) = inline_slots_of t.now

-- a table or an inline table
abbrev pub is_table_like : Node → Bool
is_table_like n = is_some (slots_in n)

-- the item, where it is one
abbrev pub table_like_in : Node → Option Node
table_like_in n = only is_table_like n
