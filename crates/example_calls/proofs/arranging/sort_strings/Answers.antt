-- The closure compares the strings.
use Rattle.std.proofs.Common.{rules}
use Rattle.std.proofs.lemmas.Fn.{always_returns_same}
use Rattle.std.proofs.lemmas.Result.{on_ok_weaker}
use Rattle.example_calls.specs.Sorts.{string_lt}
use Rattle.example_calls.proofs.arranging.sort_strings.Goals as goal

pub returns-clause-sorted : goal.returns-clause-sorted
returns-clause-sorted c =
    on_ok_weaker c.sort_by.result
    (λ p. p string_lt (always_returns_same _ _ _ (λ a r f' k. (search rules, search rules))))
    c.sort_by.ensures.sorted
