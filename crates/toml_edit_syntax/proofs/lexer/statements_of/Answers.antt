-- Behind the mark the whole text is left.
use Rattle.std.proofs.Common.{cond, drop, sym, ap, ◌∙◌}
use Rattle.toml_edit_model.specs.Text.{Text}
use Rattle.toml_edit_syntax.specs.Reading.{is_marked}
use Rattle.toml_edit_syntax.proofs.DocumentLaws.{unmarked_is}
use Rattle.toml_edit_syntax.proofs.Whole.{reached}
use Rattle.toml_edit_syntax.proofs.lexer.statements_of.Goals as goal

pub returns-clause-reached : goal.returns-clause-reached
returns-clause-reached c = reached c.args.source.now c.after_mark.result.now c.after_mark.ensures.rest

pub returns-clause-statements : goal.returns-clause-statements
returns-clause-statements c =
    λ d cut.
    c.after_mark.ensures.rest
    ∙ ap (λ (t : Text). cond (is_marked t) (drop 3 t) t) (sym cut.1)
    ∙ unmarked_is d.has_mark d.statements d.final cut.0.0 cut.0.1
