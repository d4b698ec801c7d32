-- The texts that are given are those that the command ends with.
use Rattle.std.proofs.Common.{refl, subst, sym}
use Rattle.toml_edit_c.specs.Runs.{EndsOn}
use Rattle.toml_edit_c.proofs.run.toml_edit_run.Goals as goal

pub returns-clause-ended : goal.returns-clause-ended
returns-clause-ended c =
    let words = c.args.words.now in let input = c.args.input.now in let out = c.as_slice-out.result.now in
    let err = c.as_slice-err.result.now in let e = c.in-Some.ended in
    let by_errors = subst (EndsOn words input e.status e.output.items) (sym c.as_slice-err.ensures.value) c.in-Some.ensures.1 in
    let by_output = subst (λ o. EndsOn words input e.status o err) (sym c.as_slice-out.ensures.value) by_errors in
    λ _. (out, err, subst (λ status. EndsOn words input status out err) (sym c.from.ensures) by_output, refl, c.if-not-give_both.ensures.given refl)
