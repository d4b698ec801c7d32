-- How many slots there are, as the table shows them, and their keys, apart.
use Rattle.std.proofs.Common.{length, sym, ap, subst, ◌∙◌}
use Rattle.toml_edit_model.specs.Slots.{AreApart}
use Rattle.toml_edit_tree.specs.declared.table.Table.{out-Table}
use Rattle.toml_edit_tree.proofs.SlotsLaws.{length-shown, table-shown}
use Rattle.toml_edit_tree.proofs.TableEntryLaws.{apart-first}
use Rattle.toml_edit_tree.proofs.table.Table.slots.Goals as goal

pub returns-clause-count : goal.returns-clause-count
returns-clause-count c = c.len.ensures ∙ sym (ap length (table-shown c.args.self.now) ∙ length-shown (out-Table c.args.self.now).slots)

pub returns-clause-apart : goal.returns-clause-apart
returns-clause-apart c =
    let t = c.args.self.now in
    subst AreApart (sym (table-shown t)) (apart-first (out-Table t).slots c.as_slice.ensures.apart)
