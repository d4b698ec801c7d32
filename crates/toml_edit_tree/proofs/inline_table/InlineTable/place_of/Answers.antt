-- The place of a key, and the keys of an inline table, apart.
use Rattle.std.proofs.Common.{sym, ap, subst, ◌∙◌}
use Rattle.toml_edit_model.specs.Slots.{AreApart, place}
use Rattle.toml_edit_tree.specs.declared.inline_table.InlineTable.{out-InlineTable}
use Rattle.toml_edit_tree.proofs.SlotsLaws.{inline-shown}
use Rattle.toml_edit_tree.proofs.TableEntryLaws.{apart-first, place-shown}
use Rattle.toml_edit_tree.proofs.inline_table.InlineTable.place_of.Goals as goal

pub returns-clause-there : goal.returns-clause-there
returns-clause-there c =
    let t = c.args.self.now in
    c.find.ensures.place ∙ sym (ap (place c.args.key.now) (inline-shown t) ∙ place-shown c.args.key.now (out-InlineTable t).items)

pub returns-clause-apart : goal.returns-clause-apart
returns-clause-apart c =
    let t = c.args.self.now in
    subst AreApart (sym (inline-shown t)) (apart-first (out-InlineTable t).items c.as_slice.ensures.apart)
