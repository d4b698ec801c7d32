-- A decor of the key of an entry, to be changed.
use Rattle.std.proofs.Common.{refl, ◌∙◌, slice_get}
use Rattle.toml_edit_tree.specs.InlineValues.{has-on_key}
use Rattle.toml_edit_tree.specs.declared.inline_table.InlineTable.{out-InlineTable}
use Rattle.toml_edit_tree.proofs.LentLaws.{inline_key-keeps, inline_key-leaves}
use Rattle.toml_edit_tree.proofs.InlineOccupiedLaws.{inline_key_written}
use Rattle.toml_edit_tree.proofs.TableEntryLaws.{part-of-key}
use Rattle.toml_edit_tree.proofs.inline_table.entry.InlineOccupiedEntry.dotted_decor_mut.Goals as goal

pub invariant_of-self-lent : goal.invariant_of-self-lent
invariant_of-self-lent c w =
    let o = c.args.self.now in
    (has-on_key (λ k. record k { dotted = w }) (out-InlineTable o.table.now).items o.at ∙ o.held, tt)

pub returns : goal.returns
returns c =
    let o = c.args.self.now in (
      (refl, λ w. inline_key_written o (λ k. record k { dotted = w }) _),
      record {
        writes_back = tt;
        decor = part-of-key (λ k. k.dotted) (slice_get (out-InlineTable o.table.now).items o.at)
            ∙ c.dotted_decor_at_mut.ensures.decor;
        leaves = inline_key-leaves o.at o.table.now;
        keeps = inline_key-keeps o.at o.table.now;
      },
    )
