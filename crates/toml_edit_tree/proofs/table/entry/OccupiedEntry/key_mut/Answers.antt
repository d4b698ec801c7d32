-- The key of an entry, to be changed.
use Rattle.std.proofs.Common.{refl, arith}
use Rattle.toml_edit_key.specs.KeyMutView.{with_parts}
use Rattle.toml_edit_slots.specs.Lengths.{length-on_key}
use Rattle.toml_edit_tree.specs.declared.table.Table.{out-Table}
use Rattle.toml_edit_tree.proofs.LentLaws.{key-keeps, key-leaves}
use Rattle.toml_edit_tree.proofs.TableEntryLaws.{key_written}
use Rattle.toml_edit_tree.proofs.table.entry.OccupiedEntry.key_mut.Goals as goal

pub invariant_of-self-lent : goal.invariant_of-self-lent
invariant_of-self-lent c w =
    let o = c.args.self.now in
    (omega (arith, o.within, length-on_key (with_parts w) (out-Table o.table.now).slots o.at), tt)

pub returns : goal.returns
returns c =
    let o = c.args.self.now in (
      (refl, λ w. key_written o (with_parts w) _),
      record { writes_back = tt; key = c.key_at_mut.ensures.key; leaves = key-leaves o.at o.table.now; keeps = key-keeps o.at o.table.now },
    )
