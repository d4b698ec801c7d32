use Rattle.line_diff.proofs.ScriptLaws.{Built}
use Rattle.line_diff.proofs.script.script_of.Given as goal

abbrev pub invariant-pairs : goal.invariant-pairs
invariant-pairs l = Built l.steps.items l.olds l.news l.old l.new
