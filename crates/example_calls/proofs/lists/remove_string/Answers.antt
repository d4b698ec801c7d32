-- The closure asks whether the string is another one.
use Rattle.std.proofs.Common.{rules}
use Rattle.example_calls.proofs.KeptLaws.{kept_by}
use Rattle.example_calls.proofs.lists.remove_string.Goals as goal

pub returns-clause-kept : goal.returns-clause-kept
returns-clause-kept c = kept_by _ _ (λ n b said. search rules) _ _ c.retain.ensures.kept
