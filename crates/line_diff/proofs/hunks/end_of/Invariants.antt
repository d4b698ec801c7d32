use Rattle.line_diff.specs.Steps.{lines_of}
use Rattle.line_diff.proofs.HunkLaws.{Spans}
use Rattle.line_diff.proofs.hunks.end_of.Given as goal

abbrev pub invariant-steps : goal.invariant-steps
invariant-steps l = Spans (lines_of l.script) l.first l.last l.place
