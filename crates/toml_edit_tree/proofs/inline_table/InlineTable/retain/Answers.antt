-- The values that are kept, as the inline table shows them.
use Rattle.std.proofs.Common.{sym, subst}
use Rattle.toml_edit_model.specs.Iterating.{valued}
use Rattle.toml_edit_model.specs.Retaining.{RetainsBy}
use Rattle.toml_edit_tree.specs.InlineParts.{SaysOfPair}
use Rattle.toml_edit_tree.specs.SlotsOf.{inline_slots_of}
use Rattle.toml_edit_tree.specs.Indexed.{shown_slots}
use Rattle.toml_edit_tree.proofs.InlineLaws.{made_inline_fields}
use Rattle.toml_edit_tree.proofs.SlotsLaws.{inline-shown, made_inline-shown}
use Rattle.toml_edit_tree.proofs.inline_table.InlineTable.retain.Goals as goal

pub returns-clause-kept : goal.returns-clause-kept
returns-clause-kept g c =
    let t = c.args.self.now in
    subst (λ l. RetainsBy (SaysOfPair g.F.Fn c.args.keep) (valued (inline_slots_of t)) l) (sym (made_inline-shown _))
    (subst (λ l. RetainsBy (SaysOfPair g.F.Fn c.args.keep) (valued l) (shown_slots c.retain_values.new.slots)) (sym (inline-shown t))
    c.retain_values.ensures)

pub returns-clause-fields : goal.returns-clause-fields
returns-clause-fields g c = made_inline_fields c.args.self.now c.retain_values.new.slots
