-- A place among the slots, as the table shows them.
use Rattle.std.proofs.Common.{length, nat_lt, sym, ap, ◌∙◌}
use Rattle.toml_edit_tree.specs.declared.table.Table.{out-Table}
use Rattle.toml_edit_tree.proofs.SlotsLaws.{length-shown, table-shown}
use Rattle.toml_edit_tree.proofs.table.Table.has_place.Goals as goal

pub returns-clause-there : goal.returns-clause-there
returns-clause-there c =
    ap (nat_lt c.args.at) (c.len.ensures ∙ sym (ap length (table-shown c.args.self.now) ∙ length-shown (out-Table c.args.self.now).slots))
