-- The text begins with no `#`.
use Rattle.std.proofs.Common.{◌≡◌, ◌∙◌, IfOk, string_bytes, subst, sym}
use Rattle.toml_edit_edits.proofs.ElementLaws.{spaced-is}
use Rattle.toml_edit_edits.proofs.keys.comment_text.Goals as goal

pub returns-in-None : goal.returns-in-None
returns-in-None c =
    subst (λ t. IfOk c.spaced.result (λ made. string_bytes made ≡ t))
    (sym (spaced-is c.args.text.now (sym c.is_empty.ensures ∙ c.if-is_empty.false) c.in-None.ensures.cases)) c.spaced.ensures
