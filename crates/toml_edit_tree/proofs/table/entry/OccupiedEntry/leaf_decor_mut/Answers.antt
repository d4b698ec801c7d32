-- A decor of the key of an entry, to be changed.
use Rattle.std.proofs.Common.{refl, arith, ◌∙◌, slice_get}
use Rattle.toml_edit_slots.specs.Lengths.{length-on_key}
use Rattle.toml_edit_tree.specs.declared.table.Table.{out-Table}
use Rattle.toml_edit_tree.proofs.LentLaws.{key-keeps, key-leaves}
use Rattle.toml_edit_tree.proofs.TableEntryLaws.{key_written, part-of-key}
use Rattle.toml_edit_tree.proofs.table.entry.OccupiedEntry.leaf_decor_mut.Goals as goal

pub invariant_of-self-lent : goal.invariant_of-self-lent
invariant_of-self-lent c w =
    let o = c.args.self.now in
    (omega (arith, o.within, length-on_key (λ k. record k { leaf = w }) (out-Table o.table.now).slots o.at), tt)

pub returns : goal.returns
returns c =
    let o = c.args.self.now in (
      (refl, λ w. key_written o (λ k. record k { leaf = w }) _),
      record {
        writes_back = tt;
        decor = part-of-key (λ k. k.leaf) (slice_get (out-Table o.table.now).slots o.at)
            ∙ c.leaf_decor_at_mut.ensures.decor;
        leaves = key-leaves o.at o.table.now;
        keeps = key-keeps o.at o.table.now;
      },
    )
