-- Each byte up to the end of the run passes, and the next one, if there is one, does not.
use Rattle.std.proofs.Common.{sym, ◌∙◌, arith}
use Rattle.std.proofs.lemmas.List.Sums.{prefix_len_is}
use Rattle.toml_edit_token.specs.Classes.{class_test}
use Rattle.toml_edit_token.proofs.run.run_len.Goals as goal

pub returns-else-is_in-clause-len : goal.returns-else-is_in-clause-len
returns-else-is_in-clause-len c =
    sym (prefix_len_is (class_test c.args.class) c.args.bytes.now c.loop-at.at 0 c.loop-at.invariant.0
    (λ k before. c.loop-at.invariant.1 k (omega arith) before) (λ within. sym c.is_in.ensures ∙ c.if-is_in.false))

pub returns-after-loop-at-clause-len : goal.returns-after-loop-at-clause-len
returns-after-loop-at-clause-len c =
    sym (prefix_len_is (class_test c.args.class) c.args.bytes.now c.loop-at.at 0 c.loop-at.invariant.0
    (λ k before. c.loop-at.invariant.1 k (omega arith) before) (λ within. absurd (let past = c.loop-at-test.false in
    omega (arith, past, within))))
