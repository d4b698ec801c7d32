-- Each byte up to the end of the run passes, and the next one, if there is one, does not.
use Rattle.std.proofs.Common.{sym, ◌∙◌, arith}
use Rattle.std.proofs.lemmas.List.Sums.{prefix_len_is}
use Rattle.toml_edit_json.specs.Texts as spec
use Rattle.toml_edit_json.proofs.runs.run_length.Goals as goal

pub returns-else-is_kept-clause-len : goal.returns-else-is_kept-clause-len
returns-else-is_kept-clause-len c =
    sym (prefix_len_is (spec.is_kept c.args.form) c.args.bytes.now c.loop-at.at 0 c.loop-at.invariant.0
    c.loop-at.invariant.1 (λ within. sym c.is_kept.ensures ∙ c.if-is_kept.false))

pub returns-after-loop-at-clause-len : goal.returns-after-loop-at-clause-len
returns-after-loop-at-clause-len c =
    sym (prefix_len_is (spec.is_kept c.args.form) c.args.bytes.now c.loop-at.at 0 c.loop-at.invariant.0
    c.loop-at.invariant.1 (λ within. absurd (let past = c.loop-at-test.false in
    omega (arith, past, within))))
