-- What items lend of the value that they hold.
use Rattle.std.specs.Prelude.{Option}
use Rattle.std.specs.Borrow.{LendsIf, MutBor, Fml}
use Rattle.toml_edit_tree.specs.declared.item.Item.{Item}
use Rattle.toml_edit_tree.specs.declared.item.Item.TheVariants as items
use Rattle.toml_edit_tree.specs.declared.value.Value.{Value}
use Rattle.toml_edit_tree.specs.contracts.item.Item.{the_row as item_row}
use Rattle.toml_edit_tree.specs.contracts.value.Value.{the_row as value_row}

-- the item ends as the final value of r, where it is one
abbrev pub LendsValue : MutBor Item → Option (MutBor Value) → Fml
LendsValue s r = LendsIf item_row value_row s r (λ w. items.Value w) s.now
