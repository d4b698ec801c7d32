-- Statement after statement, and then the last event.
use Rattle.std.proofs.Common.{◌∙◌}
use Rattle.std.proofs.lemmas.Result.{IfOk-weaker}
use Rattle.toml_edit_syntax.specs.Batches.{last_events}
use Rattle.toml_edit_syntax.specs.LateEvents.{AreIn}
use Rattle.toml_edit_fmt.proofs.WalkLaws.{all-taken, handed-all, handed-last, in-rest, next-taken}
use Rattle.toml_edit_fmt.proofs.statements.hand_on.Goals as goal

pub statements-preserved : goal.statements-preserved
statements-preserved g c =
    let rest = c.statements.rest.now in
    let statement = c.in-Some.statement.now in
    let after = c.in-Some.after.now in
    record {
      source = c.in_ok-take.ensures.source ∙ c.statements.invariant.source;
      spans = rw c.in_ok-take.ensures.source
          (in-rest (g.S.Statements.source c.statements.to) statement after
          (rw c.in-Some.ensures.parts at c.statements.invariant.spans));
      progress = λ ss start end whole final is.
          next-taken g.S.Statements.takes start ss (last_events end whole final) c.args.to.now c.statements.to rest statement after
          c.take.new.self (c.statements.invariant.progress ss start end whole final is)
          (λ same. let none = c.in-Some.ensures.none end whole final same in cc)
          (λ s at more here. c.in-Some.ensures.statement s at more here) c.in_ok-take.ensures.takes;
    }

pub returns-in-empty-clause-statements : goal.returns-in-empty-clause-statements
returns-in-empty-clause-statements g c ss start end whole final is =
    let (took, same) = all-taken g.S.Statements.takes start ss (last_events end whole final) c.args.to.now c.statements.to c.statements.rest.now
    (c.statements.invariant.progress ss start end whole final is) (λ s at more here. c.in_default.ensures.statement s at more here) in
    handed-all g.S.Statements.takes g.S.Statements.takes_last start ss c.args.to.now c.statements.to took (last_events end whole final)
    c.statements.rest.now same c.in-empty.len_below

pub returns-in-len1-up-clause-statements : goal.returns-in-len1-up-clause-statements
returns-in-len1-up-clause-statements g c ss start end whole final is =
    let (took, same) = all-taken g.S.Statements.takes start ss (last_events end whole final) c.args.to.now c.statements.to c.statements.rest.now
    (c.statements.invariant.progress ss start end whole final is) (λ s at more here. c.in_default.ensures.statement s at more here) in
    IfOk-weaker c.take_last.result _ _
    (λ _ h. handed-last g.S.Statements.takes g.S.Statements.takes_last start ss c.args.to.now c.statements.to took (last_events end whole final)
    c.statements.rest.now _ c.take_last.new.self same c.in-len1-up.len_at_least h) c.take_last.ensures.takes
