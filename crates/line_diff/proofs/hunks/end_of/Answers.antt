use Rattle.std.proofs.Common.{◌≡◌, ◌+◌, ◌<◌, ◌≤◌, ℕ, inl, inr, length, arith, sym, subst}
use Rattle.std.proofs.lemmas.List.{length-map}
use Rattle.line_diff.specs.Diff.{IsShown}
use Rattle.line_diff.specs.Steps.{line_of, lines_of}
use Rattle.line_diff.proofs.HunkLaws.{Spans, change-within, covered, ends, next-shown, spans-change, spans-none}
use Rattle.line_diff.proofs.hunks.end_of.Goals as goal
use Rattle.line_diff.proofs.hunks.end_of.Goals.{then-is_change, else-is_change, else-steps-test, then-steps-test+then-place-last}

pub steps-init : goal.steps-init
steps-init c =
    let all = length-map c.args.script.now line_of in
    let inside = change-within (lines_of c.args.script.now) c.args.first c.requires in
    record {
      order = omega arith;
      before = omega arith;
      near = omega arith;
      change = c.requires;
      shown = λ at low high. (omega arith, (c.args.first, c.requires, omega arith, omega arith));
      none = λ at low high other. absurd (omega arith);
    }

pub steps-preserved : goal.steps-preserved
steps-preserved c =
    let s = lines_of c.args.script.now in
    let near : c.steps.place ≤ c.steps.last + 7 = omega (arith, c.steps.invariant.before) in
    elim c.if-is_change.branch [
      | then-is_change w ↦
          rw w.last-is (spans-change s c.args.first c.steps.last c.steps.place c.steps.invariant near (rw w.if-is_change.true at c.is_change.ensures.is))
      | else-is_change w ↦
          rw w.last-is (spans-none s c.args.first c.steps.last c.steps.place c.steps.invariant near (rw w.if-is_change.false at c.is_change.ensures.none))
    ]

pub returns-clause-shown : goal.returns-clause-shown
returns-clause-shown c = covered c.args.script.now c.args.first c.steps.last c.min.result c.steps.invariant.change c.steps.invariant.shown (omega arith)

pub returns-clause-ended : goal.returns-clause-ended
returns-clause-ended c =
    ends c.args.script.now c.steps.last c.steps.place c.min.result c.steps.invariant.none
    (elim c.steps-test.branch [ else-steps-test w ↦ inr (omega arith) | then-steps-test+then-place-last w ↦ inl (omega (arith, c.steps.invariant.before)) ]) (omega arith)
