-- The value of a text that is one.
use Rattle.std.proofs.Common.{[], length, ap, inr, arith}
use Rattle.std.specs.Prelude.{Err}
use Rattle.std.proofs.lemmas.Result.{err_from_is_err_and}
use Rattle.toml_edit_parser.proofs.LoneValueLaws.{events_are, stands, lone_every, lone_refused}
use Rattle.toml_edit_parser.proofs.from_str.read_lone.Goals as goal

pub returns-in_err-value-clause-every : goal.returns-in_err-value-clause-every
returns-in_err-value-clause-every c =
    λ v lone ok.
    let p = err_from_is_err_and c.from_residual.result c.from_residual.ensures.1 in
    rw (p.1, p.2) (inr (ap Err (lone_every c.args.reader.now.source.now v lone c.in_err-value.field-0.0 ok
    (c.in_err-value.ensures.value v (length lone.before) 0 [] lone.value (stands c.args.reader.now.source.now v lone) (omega arith)
    (events_are c.args.reader.now.source.now c.args.events.now c.requires.cut v lone)))))

pub returns-in_err-value-clause-refused : goal.returns-in_err-value-clause-refused
returns-in_err-value-clause-refused c =
    let p = err_from_is_err_and c.from_residual.result c.from_residual.ensures.1 in
    rw (p.1, p.2) (lone_refused c.args.reader.now.source.now c.args.events.now c.in_err-value.field-0.0 c.requires.cut
    (λ v lone. c.in_err-value.ensures.value v (length lone.before) 0 [] lone.value (stands c.args.reader.now.source.now v lone) (omega arith)
    (events_are c.args.reader.now.source.now c.args.events.now c.requires.cut v lone)) c.in_err-value.ensures.refused)

pub end_lone-requires-clause-read : goal.end_lone-requires-clause-read
end_lone-requires-clause-read c = (
  c.in_ok-value._rest.now,
  λ v lone. c.in_ok-value.ensures.value v (length lone.before) 0 [] lone.value (stands c.args.reader.now.source.now v lone) (omega arith)
      (events_are c.args.reader.now.source.now c.args.events.now c.requires.cut v lone),
)
