-- The slots that are kept, as the table shows them.
use Rattle.std.proofs.Common.{refl, sym, subst}
use Rattle.toml_edit_model.specs.Retaining.{RetainsBy}
use Rattle.toml_edit_slots.specs.Closures.{SaysOfSlot}
use Rattle.toml_edit_tree.specs.SlotsOf.{SaysOfItem, slots_of}
use Rattle.toml_edit_tree.specs.declared.table.Table.{out-Table}
use Rattle.toml_edit_tree.specs.Indexed.{shown_slots}
use Rattle.toml_edit_tree.proofs.SlotsLaws.{made-shown, retains-shown, table-shown}
use Rattle.toml_edit_tree.proofs.table.Table.retain.Goals as goal

pub returns-clause-kept : goal.returns-clause-kept
returns-clause-kept g c =
    let t = c.args.self.now in
    subst (RetainsBy (SaysOfItem g.F.Fn c.args.keep) (slots_of t)) (sym (made-shown _))
    (subst (λ l. RetainsBy (SaysOfItem g.F.Fn c.args.keep) l (shown_slots c.retain.new.self)) (sym (table-shown t))
    (retains-shown (SaysOfSlot g.F.Fn c.args.keep) (SaysOfItem g.F.Fn c.args.keep) (λ s b says. (s.item, refl, says)) (out-Table t).slots
    c.retain.new.self c.retain.ensures))
