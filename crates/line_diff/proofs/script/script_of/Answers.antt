use Rattle.std.proofs.Common.{◌≡◌, refl, arith}
use Rattle.line_diff.proofs.ScriptLaws.{Built, built-all, built-more}
use Rattle.line_diff.proofs.script.script_of.Goals as goal
use Rattle.line_diff.proofs.script.script_of.Goals.{then-old-next_old+then-new-next_new+then-are_equal+in_ok-push_change+in_ok-push_all, else-old-next_old}

pub pairs-preserved : goal.pairs-preserved
pairs-preserved c =
    elim c.if-old-next_old.branch [
      | then-old-next_old+then-new-next_new+then-are_equal+in_ok-push_change+in_ok-push_all w ↦
          rw (w.steps-is, w.old-is, w.new-is)
          (built-more _ _ _ _ _ _ _ _ _ c.pairs.invariant w.if-old-next_old.true w.if-new-next_new.true (w.are_equal.ensures.old w.if-are_equal.true)
          (w.are_equal.ensures.new w.if-are_equal.true) (w.are_equal.ensures.same w.if-are_equal.true) w.in_ok-push_change.ensures w.in_ok-push_all.ensures)
      | else-old-next_old w ↦ rw (w.steps-is, w.old-is, w.new-is) c.pairs.invariant
    ]

pub returns-clause-olds : goal.returns-clause-olds
returns-clause-olds c = (built-all _ _ _ _ _ _ c.pairs.invariant c.in_ok-push_change-2.ensures).0

pub returns-clause-news : goal.returns-clause-news
returns-clause-news c = (built-all _ _ _ _ _ _ c.pairs.invariant c.in_ok-push_change-2.ensures).1
