-- How many slots there are, as the inline table shows them, and their keys, apart.
use Rattle.std.proofs.Common.{length, sym, ap, subst, ◌∙◌}
use Rattle.toml_edit_model.specs.Slots.{AreApart}
use Rattle.toml_edit_tree.specs.declared.inline_table.InlineTable.{out-InlineTable}
use Rattle.toml_edit_tree.proofs.SlotsLaws.{inline-shown, length-shown}
use Rattle.toml_edit_tree.proofs.TableEntryLaws.{apart-first}
use Rattle.toml_edit_tree.proofs.inline_table.InlineTable.slots.Goals as goal

pub returns-clause-count : goal.returns-clause-count
returns-clause-count c =
    c.len.ensures ∙ sym (ap length (inline-shown c.args.self.now) ∙ length-shown (out-InlineTable c.args.self.now).items)

pub returns-clause-apart : goal.returns-clause-apart
returns-clause-apart c =
    let t = c.args.self.now in
    subst AreApart (sym (inline-shown t)) (apart-first (out-InlineTable t).items c.as_slice.ensures.apart)
