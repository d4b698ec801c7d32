-- The value that an item is.
use Rattle.std.proofs.Common.{refl}
use denote.Hole.Carrier.{out}
use Rattle.toml_edit_tree.specs.declared.item.Item.TheVariants as items
use Rattle.toml_edit_tree.specs.declared.item.Item.TheViews.{out-Item}
use Rattle.toml_edit_tree.proofs.HoldsLaws.{value-seen}
use Rattle.toml_edit_tree.proofs.item.Item.as_value_mut.Goals as goal

pub returns-in-Value : goal.returns-in-Value
unfolding out-Item out
returns-in-Value c = rw c.in-Value.is (refl, record { writes_back = tt; value = value-seen (items.Value c.in-Value.lent) })
