-- What an item lends of the value that it holds, and where it is in the source.
use Rattle.std.specs.Prelude.{ℕ, Option}
use Rattle.std.specs.declared.ops.Range.{Range}
use Rattle.std.specs.Borrow.{LendsIf, MutBor, Fml}
use Rattle.toml_edit_model.specs.Tree.{Node, table, tables}
use Rattle.toml_edit_tree.specs.Casts.{span_in}
use Rattle.toml_edit_tree.specs.Containers.{range_in}
use Rattle.toml_edit_tree.specs.declared.array.Array.{Array}
use Rattle.toml_edit_tree.specs.declared.inline_table.InlineTable.{InlineTable}
use Rattle.toml_edit_tree.specs.declared.item.Item.{Item}
use Rattle.toml_edit_tree.specs.declared.item.Item.TheVariants as items
use Rattle.toml_edit_tree.specs.declared.value.Value.TheVariants as values
use Rattle.toml_edit_tree.specs.contracts.array.Array.{the_row as array_row}
use Rattle.toml_edit_tree.specs.contracts.inline_table.InlineTable.{the_row as inline_row}
use Rattle.toml_edit_tree.specs.contracts.item.Item.{the_row as item_row}

-- the item ends as the final array, or the final inline table, of r, where it is one
abbrev pub LendsArrayIn : MutBor Item → Option (MutBor Array) → Fml
LendsArrayIn s r = LendsIf item_row array_row s r (λ w. items.Value (values.Array w)) s.now

abbrev pub LendsInlineIn : MutBor Item → Option (MutBor InlineTable) → Fml
LendsInlineIn s r = LendsIf item_row inline_row s r (λ w. items.Value (values.InlineTable w)) s.now

-- the bytes of the source that it is at
abbrev pub item_span : Node → Option (Range ℕ)
item_span (table f ss) = range_in f.extent
item_span (tables e xs) = range_in e
item_span n = span_in n
