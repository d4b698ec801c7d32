-- The command does what the call asks for.
use Rattle.std.proofs.Common.{Bor, inl, inr, option_map, subst, sym}
use Rattle.std.proofs.lemmas.Result.{err_from_is_err_and}
use Rattle.toml_edit_model.specs.Text.{Text}
use Rattle.toml_edit_command.specs.Steps.{action_of}
use Rattle.toml_edit_parser.specs.Options.{mode_of, version_of}
use Rattle.toml_edit_c.specs.Asks.{asked_by, request_in, words_of}
use Rattle.toml_edit_c.specs.Made.{IsMade, IsMadeBy, StopsAction, StopsCall}
use Rattle.toml_edit_c.specs.Statuses.{stop_for}
use Rattle.toml_edit_c.proofs.Outcomes.{made-by, stops-doing}
use Rattle.toml_edit_c.proofs.calls.make.Goals as goal

pub returns-in_err-command-clause-stops : goal.returns-in_err-command-clause-stops
returns-in_err-command-clause-stops c =
    let r = c.from_residual-in_err-command in let q = err_from_is_err_and r.result r.ensures.1 in
    rw (q.1, q.2)
    (subst (λ how. StopsCall (option_map (request_in (words_of c.args.call)) how) c.args.text.now c.in_err-command.field-0.0)
    (sym c.in_ok-options.ensures.valid) (inl c.in_err-command.ensures.stops))

pub returns-in_err-perform-clause-stops : goal.returns-in_err-perform-clause-stops
returns-in_err-perform-clause-stops c =
    let r = c.from_residual-in_err-perform in let q = err_from_is_err_and r.result r.ensures.1 in
    let mode = mode_of c.in_ok-options.options in let version = version_of c.in_ok-options.options in
    let a = action_of c.in_ok-command.command in let e = c.in_err-perform.field-0.0 in
    rw (q.1, q.2)
    (subst (λ how. StopsCall (option_map (request_in (words_of c.args.call)) how) c.args.text.now (stop_for e))
    (sym c.in_ok-options.ensures.valid)
    (inr (
      a,
      c.in_ok-command.ensures.said,
      subst (λ (i : Bor Text). StopsAction mode version a i.now (stop_for e)) c.new-input.ensures.inner
          (stops-doing mode version c.new-input.result.inner.now _ a _ e c.in_err-perform.ensures.err),
    )))

pub returns-clause-made : goal.returns-clause-made
returns-clause-made c =
    let ws = words_of c.args.call in let q = asked_by c.in_ok-options.options ws in let new = c.perform.new.output in
    subst (λ how. IsMadeBy (option_map (request_in ws) how) c.args.text.now new.bytes.items) (sym c.in_ok-options.ensures.valid)
    (subst (λ (i : Bor Text). IsMade q i.now new.bytes.items) c.new-input.ensures.inner
    (made-by q (action_of c.in_ok-command.command) c.in_ok-command.ensures.said c.new-input.result.inner.now c.new-out.result.bytes.items
    new.bytes.items new.failed c.new-out.ensures.empty c.in_ok-perform.ensures.wrote))
