use Rattle.std.proofs.Common.{arith}
use Rattle.std.proofs.lemmas.Grind.{common_steps}
use Rattle.line_diff.proofs.ScriptLaws.{old-count}
use Rattle.line_diff.proofs.hunks.old_count.Goals as goal

pub returns : goal.returns
returns c = grind (arith, common_steps, old-count c.args.steps.now)
