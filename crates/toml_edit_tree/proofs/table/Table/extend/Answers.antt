-- The pairs that came, as the table shows them.
use Rattle.std.proofs.Common.{map, sym, ap, ◌∙◌}
use Rattle.toml_edit_model.specs.Slots.{extended}
use Rattle.toml_edit_tree.specs.SlotsOf.{slot_taken}
use Rattle.toml_edit_tree.specs.declared.table.Table.{out-Table}
use Rattle.toml_edit_tree.proofs.SlotsLaws.{extended-shown, made-shown, made_fields, table-shown}
use Rattle.toml_edit_tree.proofs.table.Table.extend.Goals as goal

pub returns : goal.returns
returns g c =
    let t = c.args.self.now in
    let h = c.extend.ensures in
    let xs = h.1 in (
      h.0,
      xs,
      h.2,
      (
        made-shown _ ∙ extended-shown xs (out-Table t).slots c.extend.new.self h.3
            ∙ ap (extended (map slot_taken xs)) (sym (table-shown t)),
        made_fields t c.extend.new.self,
      ),
      h.4,
    )
