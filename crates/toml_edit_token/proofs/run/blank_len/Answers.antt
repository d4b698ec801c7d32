-- Where no blank stands, or one.
use Rattle.std.proofs.Common.{sym, arith}
use Rattle.std.proofs.lemmas.Grind.{common_steps}
use Rattle.std.proofs.lemmas.List.Sums.{prefix_len_is}
use Rattle.toml_edit_model.specs.Trivia.{is_blank}
use Rattle.toml_edit_token.proofs.run.blank_len.Goals as goal

pub returns-then-not-is_blank-clause-len : goal.returns-then-not-is_blank-clause-len
returns-then-not-is_blank-clause-len c =
    sym (prefix_len_is is_blank c.args.bytes.now 0 0 (omega arith) (λ k before. absurd (omega arith)) (λ within. grind (
      arith,
      common_steps,
    )))
