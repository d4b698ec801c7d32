use Rattle.std.proofs.Common.{◌≡◌, List, Some, sym, ap, ◌∙◌, arith}
use Rattle.std.proofs.lemmas.Grind.{common_steps}
use Rattle.toml_edit_syntax.specs.declared.event.Event.{Event}
use Rattle.toml_edit_syntax.specs.Scanning.{newline_rest}
use Rattle.toml_edit_syntax.specs.ValueReading.{got}
use Rattle.toml_edit_syntax.specs.EventReading.{preceded}
use Rattle.toml_edit_syntax.proofs.EventSteps.{added}
use Rattle.toml_edit_syntax.proofs.StatementTurns.{end_found}
use Rattle.toml_edit_syntax.proofs.line.push_line_end.Goals as goal

pub returns-clause-adds : goal.returns-clause-adds
returns-clause-adds c =
    let old = c.args.events.now.items in
    let end = c.after_line_end-behind.result.now in
    let rest = c.in-Some.rest.now in
    let found : newline_rest end ≡ Some rest = grind (arith, common_steps) in
    let pushed = added old c.push.new.self.items c.new_event.result _ c.in_ok-push.ensures.items c.new_event.ensures in
    ap (preceded old) (end_found c.args.whole c.args.s.now end rest c.requires c.after_line_end-behind.ensures.within
    c.after_line_end-behind.ensures.rest found)
    ∙ ap (λ (es : List Event). got es rest) (sym pushed)
