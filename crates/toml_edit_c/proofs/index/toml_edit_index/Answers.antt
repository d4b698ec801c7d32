-- The index that was found is given, or the reason why there is none.
use Rattle.std.proofs.Common.{◌≤◌, ◌∙◌, arith}
use Rattle.toml_edit_c.proofs.Indexing.{index-low}
use Rattle.toml_edit_c.proofs.Outcomes.{high}
use Rattle.toml_edit_c.proofs.index.toml_edit_index.Goals as goal

pub returns-in-Ok-clause-stopped : goal.returns-in-Ok-clause-stopped
returns-in-Ok-clause-stopped c =
    let low : c.give.result.status ≤ 1 = index-low _ _ _ _ _ _ _ c.give.ensures in λ over. absurd (omega (arith, over, low))

pub returns-in-Ok-clause-unanswered : goal.returns-in-Ok-clause-unanswered
returns-in-Ok-clause-unanswered c =
    let low : c.give.result.status ≤ 1 = index-low _ _ _ _ _ _ _ c.give.ensures in λ over. absurd (omega (arith, over, low))

pub returns-in-Err-clause-given : goal.returns-in-Err-clause-given
returns-in-Err-clause-given c = λ low. absurd (omega (arith, high c.in-Err.stop, c.silent.ensures.status, c.status.ensures, low))
