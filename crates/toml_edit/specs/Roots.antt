-- The item that the root of a document is held as.
use Rattle.std.specs.Prelude.{◌≡◌, Bool, true, is_some}
use Rattle.std.proofs.Common.{ap, sym, ◌∙◌}
use Rattle.toml_edit_model.specs.Tree.{Raw, Node, table, no_slots, Tree}
use Rattle.toml_edit_model.specs.Conversions.{new_table}
use Rattle.toml_edit_tree.specs.Containers.{ArrayView, InlineView, TableView, TablesView, table_in}
use Rattle.toml_edit_tree.specs.View.{item_view, item_step, value_step, array_step, inline_step, tables_step, table_step}
use Rattle.toml_edit_tree.specs.declared.item.Item.{Item, fold-roll-Item}
use Rattle.toml_edit_tree.specs.declared.item.Item.TheOpen.{Item-F}
use Rattle.toml_edit_tree.specs.declared.item.Item.TheVariants as items
use Rattle.toml_edit_tree.specs.declared.item.Item.TheVariants.{rolls-Table}
use Rattle.toml_edit_tree.specs.declared.table.Table.{Table}

-- the item is a table
abbrev pub is_table : Item → Bool
is_table x = is_some (table_in (item_view x))

-- as each table is
pub table-is : (t : Table) → is_table (items.Table t) ≡ true
table-is t =
    ap is_table (sym (rolls-Table t))
    ∙ ap (λ n. is_some (table_in n))
    (fold-roll-Item Node Node ArrayView TablesView InlineView TableView item_step value_step
    array_step tables_step inline_step table_step (Item-F.Table t))

-- the tree with this root, which is a table
abbrev pub tree_at : Node → Raw → Tree
tree_at (table f ss) trailing = record { root = f; slots = ss; trailing = trailing }
tree_at _ trailing = record { root = new_table; slots = no_slots; trailing = trailing }

abbrev pub tree_under : Item → Raw → Tree
tree_under x trailing = tree_at (item_view x) trailing
