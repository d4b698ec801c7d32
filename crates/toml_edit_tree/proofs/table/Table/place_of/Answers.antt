-- The place of a key, and the keys of a table, apart.
use Rattle.std.proofs.Common.{sym, ap, subst, ◌∙◌}
use Rattle.toml_edit_model.specs.Slots.{AreApart, place}
use Rattle.toml_edit_tree.specs.declared.table.Table.{out-Table}
use Rattle.toml_edit_tree.proofs.SlotsLaws.{table-shown}
use Rattle.toml_edit_tree.proofs.TableEntryLaws.{apart-first, place-shown}
use Rattle.toml_edit_tree.proofs.table.Table.place_of.Goals as goal

pub returns-clause-there : goal.returns-clause-there
returns-clause-there c =
    let t = c.args.self.now in
    c.find.ensures.place ∙ sym (ap (place c.args.key.now) (table-shown t) ∙ place-shown c.args.key.now (out-Table t).slots)

pub returns-clause-apart : goal.returns-clause-apart
returns-clause-apart c =
    let t = c.args.self.now in
    subst AreApart (sym (table-shown t)) (apart-first (out-Table t).slots c.as_slice.ensures.apart)
