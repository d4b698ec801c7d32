-- The last key is renamed.
use Rattle.std.proofs.Common.{◌∙◌, ap, sym, subst}
use Rattle.toml_edit_model.specs.Keys.{names}
use Rattle.toml_edit_model.specs.Text.{Text}
use Rattle.toml_edit.specs.DocumentView.{tree_owned}
use Rattle.toml_edit_edits.specs.Effects.{renamed}
use Rattle.toml_edit_edits.specs.Outcomes.{Makes}
use Rattle.toml_edit_edits.proofs.OutcomeLaws.{at-end, names-last}
use Rattle.toml_edit_edits.proofs.keys.rename.Goals as goal

pub returns-in-Some-clause-makes : goal.returns-in-Some-clause-makes
returns-in-Some-clause-makes c =
    let t = tree_owned c.args.document.now in
    let u = tree_owned c.rename_at.new.document in
    let above = names c.in-Some.above.now in
    subst (λ m. Makes m t u c.rename_at.result)
    (sym (at-end (λ p k. renamed p k c.args.name.now t) (names c.args.path.now) above c.in-Some.last.now.name
    (ap names c.in-Some.ensures.cases.0 ∙ names-last c.in-Some.above.now c.in-Some.last.now)))
    (subst (λ (k : Text). Makes (renamed above k c.args.name.now t) t u c.rename_at.result) c.get.ensures.name c.rename_at.ensures.makes)
