-- The key of an entry with its default spelling.
use Rattle.std.proofs.Common.{ap, ◌∙◌}
use Rattle.toml_edit_model.specs.Keys.{reset_key}
use Rattle.toml_edit_slots.specs.Lengths.{length-on_key}
use Rattle.toml_edit_tree.specs.declared.table.Table.{out-Table}
use Rattle.toml_edit_tree.specs.SlotsOf.{slots_of}
use Rattle.toml_edit_tree.proofs.LentLaws.{key-leaves}
use Rattle.toml_edit_tree.proofs.SlotsLaws.{made_fields}
use Rattle.toml_edit_tree.proofs.table.entry.OccupiedEntry.fmt_key.Goals as goal

pub invariant_of-self : goal.invariant_of-self
invariant_of-self c =
    let o = c.args.self.now in
    record { within = rw (c.fmt_key.ensures, length-on_key reset_key (out-Table o.table.now).slots o.at) o.within }

pub returns-clause-slots : goal.returns-clause-slots
returns-clause-slots c =
    let o = c.args.self.now in
    ap (λ l. slots_of (record o.table.now { slots = l })) c.fmt_key.ensures ∙ key-leaves o.at o.table.now reset_key

pub returns-clause-fields : goal.returns-clause-fields
returns-clause-fields c = made_fields c.args.self.now.table.now _
