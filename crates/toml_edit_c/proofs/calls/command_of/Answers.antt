-- The path is one, and the value is none.
use Rattle.std.proofs.Common.{inr, refl}
use Rattle.std.proofs.lemmas.Result.{err_from_is_err_and}
use Rattle.toml_edit_model.specs.Keys.{names}
use Rattle.toml_edit_c.proofs.calls.command_of.Goals as goal

pub returns-in_err-value_of-in-Set-clause-stops : goal.returns-in_err-value_of-in-Set-clause-stops
returns-in_err-value_of-in-Set-clause-stops c =
    let q = err_from_is_err_and c.from_residual-in_err-value_of-in-Set.result c.from_residual-in_err-value_of-in-Set.ensures.1 in
    rw (q.1, q.2, c.in-Set.is)
    (inr (
      c.in-Set.path.now,
      c.in-Set.value.now,
      names c.in_ok-path-in-Set.path.items,
      refl,
      c.in_ok-path-in-Set.ensures.spelled,
      c.in_err-value_of-in-Set.ensures.stops,
    ))
