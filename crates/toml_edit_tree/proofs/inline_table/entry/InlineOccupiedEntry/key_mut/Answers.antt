-- The key of an entry, to be changed.
use Rattle.std.proofs.Common.{refl, ◌∙◌}
use Rattle.toml_edit_key.specs.KeyMutView.{with_parts}
use Rattle.toml_edit_tree.specs.InlineValues.{has-on_key}
use Rattle.toml_edit_tree.specs.declared.inline_table.InlineTable.{out-InlineTable}
use Rattle.toml_edit_tree.proofs.LentLaws.{inline_key-keeps, inline_key-leaves}
use Rattle.toml_edit_tree.proofs.InlineOccupiedLaws.{inline_key_written}
use Rattle.toml_edit_tree.proofs.inline_table.entry.InlineOccupiedEntry.key_mut.Goals as goal

pub invariant_of-self-lent : goal.invariant_of-self-lent
invariant_of-self-lent c w =
    let o = c.args.self.now in
    (has-on_key (with_parts w) (out-InlineTable o.table.now).items o.at ∙ o.held, tt)

pub returns : goal.returns
returns c =
    let o = c.args.self.now in (
      (refl, λ w. inline_key_written o (with_parts w) _),
      record {
        writes_back = tt;
        key = c.key_at_mut.ensures.key;
        leaves = inline_key-leaves o.at o.table.now;
        keeps =
            inline_key-keeps o.at o.table.now;
      },
    )
