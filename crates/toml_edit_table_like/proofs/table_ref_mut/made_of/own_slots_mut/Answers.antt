-- The slots of a table that an item is.
use Rattle.std.proofs.Common.{rules, refl}
use Rattle.toml_edit_tree.specs.declared.item.Item.{the_lemmas}
use Rattle.toml_edit_table_like.proofs.table_ref_mut.made_of.own_slots_mut.Goals as goal

pub returns-in-Table : goal.returns-in-Table
returns-in-Table c = (
  (refl, λ w. rw c.in-Table.is (search (rules, the_lemmas))),
  record { writes_back = tt; slots = rw c.in-Table.is (search (rules, the_lemmas)) },
)

pub returns-in-Value : goal.returns-in-Value
returns-in-Value c = (
  (refl, λ w. rw c.in-Value.is (search (rules, the_lemmas))),
  record { writes_back = tt; slots = rw c.in-Value.is (search (rules, the_lemmas)) },
)
