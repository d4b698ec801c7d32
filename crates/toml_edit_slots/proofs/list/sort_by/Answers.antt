-- What std's `sort_by` leaves.
use Rattle.std.proofs.Common.{rules}
use Rattle.std.proofs.lemmas.Fn.{always_returns_same}
use Rattle.std.proofs.lemmas.Result.{on_ok_weaker}
use Rattle.toml_edit_slots.proofs.list.sort_by.Goals as goal

pub returns-clause-sorted : goal.returns-clause-sorted
returns-clause-sorted g c =
    on_ok_weaker c.sort_by.result
    (λ p lt by. record {
      permutation = c.sort_by.ensures.permutation;
      stable = λ o. c.sort_by.ensures.stable _ o (always_returns_same _ _ _ (λ a r f' k. (k.met.1 lt by, search rules)));
      sorted = λ o. p _ o (always_returns_same _ _ _ (λ a r f' k. (k.met.1 lt by, search rules)));
    })
    c.sort_by.ensures.sorted
