-- The closing brackets are added, and then what follows them.
use Rattle.std.proofs.Common.{◌≡◌, List, Some, None, sym, ap, subst, ◌∙◌, arith}
use Rattle.std.proofs.lemmas.Grind.{common_steps}
use Rattle.toml_edit_syntax.specs.declared.event.Event.{Event}
use Rattle.toml_edit_syntax.specs.Scanning.{closing_rest}
use Rattle.toml_edit_syntax.specs.Gives.{Leaves}
use Rattle.toml_edit_syntax.specs.EventReading.{preceded}
use Rattle.toml_edit_syntax.specs.StatementReading.{end_read}
use Rattle.toml_edit_syntax.proofs.EventSteps.{preceded-twice, added_two}
use Rattle.toml_edit_syntax.proofs.StatementTurns.{header_end_wrong, header_end_found}
use Rattle.toml_edit_syntax.proofs.statement.header_end.Goals as goal

pub returns-in_default-clause-adds : goal.returns-in_default-clause-adds
returns-in_default-clause-adds c =
    let brackets = c.split_run.result.1.now in
    let none : closing_rest c.args.is_array brackets ≡ None = grind (arith, common_steps) in
    ap (preceded c.args.events.now.items) (header_end_wrong c.args.whole c.args.is_array c.args.s.now c.split_run.result.0.now brackets
    c.requires c.split_run.ensures.parts none)

pub returns-clause-adds : goal.returns-clause-adds
returns-clause-adds c =
    let old = c.args.events.now.items in
    let rest = c.in-Some.rest.now in
    let brackets = c.split_run.result.1.now in
    let found : closing_rest c.args.is_array brackets ≡ Some rest = grind (arith, common_steps) in
    let pushed = added_two old c.push.new.self.items c.push-2.new.self.items c.new_event.result c.new_event-2.result _ _
    c.in_ok-push.ensures.items
    c.in_ok-push-2.ensures.items c.new_event.ensures c.new_event-2.ensures in
    let all = ap (preceded old) (header_end_found c.args.whole c.args.is_array c.args.s.now c.split_run.result.0.now brackets c.requires
    c.split_run.ensures.parts rest found c.split_run.ensures.lens)
    ∙ preceded-twice old _ (end_read c.args.whole rest)
    ∙ ap (λ (es : List Event). preceded es (end_read c.args.whole rest)) (sym pushed) in
    subst (Leaves c.push_line_end.new.events.items c.push_line_end.result) (sym all) c.push_line_end.ensures.adds
