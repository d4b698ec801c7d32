-- The key of a text, to be changed.
use Rattle.std.proofs.Common.{sym, ap, ◌∙◌}
use Rattle.toml_edit_model.specs.Slots.{lookup_key}
use Rattle.toml_edit_tree.specs.declared.table.Table.{out-Table}
use Rattle.toml_edit_tree.proofs.SlotsLaws.{table-shown}
use Rattle.toml_edit_tree.proofs.TableEntryLaws.{key-at, key-none}
use Rattle.toml_edit_tree.proofs.table.Table.key_mut.Goals as goal

pub returns-in-Some : goal.returns-in-Some
returns-in-Some c =
    let k = c.args.key.now in
    let t = c.args.self.now in
    sym c.key_at_mut.ensures.key ∙ key-at k (out-Table t).slots c.in-Some.at (sym c.in-Some.ensures.place) c.in-Some.ensures.within
    ∙ sym (ap (lookup_key k) (table-shown t))

pub returns-in-None : goal.returns-in-None
returns-in-None c =
    let k = c.args.key.now in
    let t = c.args.self.now in
    key-none k (out-Table t).slots (sym c.in-None.ensures.place) ∙ sym (ap (lookup_key k) (table-shown t))
