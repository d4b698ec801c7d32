-- A sort by keys is one by their order.
use Rattle.std.proofs.lemmas.Fn.{always_returns_same}
use Rattle.std.proofs.lemmas.Result.{on_ok_weaker}
use Rattle.toml_edit_slots.proofs.list.sort_by_key.Goals as goal

pub returns-clause-sorted : goal.returns-clause-sorted
returns-clause-sorted g c =
    on_ok_weaker c.sort_by.result
    (λ p of by. p _ (always_returns_same _ _ _ (λ a r f' k. (k.met.0 of by, k.met.1))))
    c.sort_by.ensures.sorted
