-- The slots of an inline table that a value is.
use Rattle.std.proofs.Common.{rules, refl}
use Rattle.toml_edit_tree.specs.declared.item.Item.{the_lemmas}
use Rattle.toml_edit_table_like.proofs.table_ref_mut.made_of.value_slots_mut.Goals as goal

pub returns : goal.returns
returns c = (
  (refl, λ w. rw c.in-InlineTable.is (search (rules, the_lemmas))),
  record { writes_back = tt; slots = rw c.in-InlineTable.is (search (rules, the_lemmas)) },
)
