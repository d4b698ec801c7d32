-- The page of the whole document, after its mark.
use Rattle.std.proofs.Common.{ap, string_bytes, subst, sym, ◌∙◌, ◌++◌}
use Rattle.toml_edit_model.specs.Syntax.{IsCut, document_text, mark_text}
use Rattle.toml_edit_model.specs.Text.{Text}
use Rattle.toml_edit_fmt_laws.specs.Aligned.{formatted}
use Rattle.toml_edit_fmt.specs.RulesView.{rules_of}
use Rattle.toml_edit_fmt.proofs.LayoutLaws.{document-written, formatted-all, memory-refuses}
use Rattle.toml_edit_fmt.proofs.text.format_text.Goals as goal

pub returns-clause-formatted : goal.returns-clause-formatted
returns-clause-formatted c =
    formatted-all (rules_of c.args.rules.now) c.args.text.now (string_bytes c.in_ok-formatted.formatted) c.with_mark.result
    (λ d cut. ap (λ (x : Text). mark_text d.has_mark ++ x) c.in_ok-formatted.ensures
    ∙ document-written c.layouts.ensures d _ c.go_over.new.to (subst (λ (x : Text). IsCut d x) (sym c.new.ensures.source) cut) c.new-2.ensures c.new.ensures.written
    (c.in_ok-go_over.ensures.walk d cut) ∙ ap (λ r. document_text (formatted (rules_of r) d)) c.new.ensures.rules)
    c.with_mark.ensures.marked

pub returns-clause-refused : goal.returns-clause-refused
returns-clause-refused c = memory-refuses c.args.text.now c.with_mark.result c.with_mark.ensures.memory
