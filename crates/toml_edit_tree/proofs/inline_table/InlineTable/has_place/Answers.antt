-- A place among the slots, as the inline table shows them.
use Rattle.std.proofs.Common.{length, nat_lt, sym, ap, ◌∙◌}
use Rattle.toml_edit_tree.specs.declared.inline_table.InlineTable.{out-InlineTable}
use Rattle.toml_edit_tree.proofs.SlotsLaws.{inline-shown, length-shown}
use Rattle.toml_edit_tree.proofs.inline_table.InlineTable.has_place.Goals as goal

pub returns-clause-there : goal.returns-clause-there
returns-clause-there c =
    ap (nat_lt c.args.at) (c.len.ensures ∙ sym (ap length (inline-shown c.args.self.now)
    ∙ length-shown (out-InlineTable c.args.self.now).items))
