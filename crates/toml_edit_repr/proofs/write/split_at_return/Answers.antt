-- The search gives the first carriage return, after which a character begins.
use Rattle.std.proofs.Common.{◌≡◌, ◌-◌, get_or, add-one, arith}
use Rattle.std.proofs.lemmas.Bool.{eqb-true}
use Rattle.std.proofs.lemmas.Str.{IsCharBoundary-after_ascii}
use Rattle.toml_edit_model.specs.Text.{carriage_return}
use Rattle.toml_edit_repr.proofs.ReturnLaws.{without_none, without_first}
use Rattle.toml_edit_repr.proofs.write.split_at_return.Goals as goal

pub returns-in_err-at-clause-parts : goal.returns-in_err-at-clause-parts
returns-in_err-at-clause-parts c =
    let same : c.as_bytes.result.now ≡ c.args.text.now = c.as_bytes.ensures.value in
    let none = rw same at c.in_err-at.ensures in
    rw c.from_residual.ensures (without_none c.args.text.now (λ k h. none k (omega arith) h))

pub range_from-requires : goal.range_from-requires
range_from-requires c _ =
    let same : c.as_bytes.result.now ≡ c.args.text.now = c.as_bytes.ensures.value in
    let found = rw same at c.in_ok-at.ensures in
    let here : get_or c.args.text.now c.in_ok-at.at 0 ≡ carriage_return = eqb-true _ _ found.1 in
    IsCharBoundary-after_ascii c.args.text.now c.in_ok-at.at c.utf8.text found.0.high (omega arith)

pub returns-clause-parts : goal.returns-clause-parts
returns-clause-parts c =
    let same : c.as_bytes.result.now ≡ c.args.text.now = c.as_bytes.ensures.value in
    let found = rw same at c.in_ok-at.ensures in
    let all : c.in_ok-at.at - 0 ≡ c.in_ok-at.at = omega arith in
    rw (c.range.ensures.value, c.range_from.ensures.value, add-one, all)
    (without_first c.in_ok-at.at c.args.text.now found.0.high (λ k h. found.0.before k (omega arith) h) found.1)
