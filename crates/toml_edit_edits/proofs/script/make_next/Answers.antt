-- Some edits are made at once, or the first one.
use Rattle.std.proofs.Common.{◌≡◌, ◌∙◌, ap, length, refl, rules, subst, sym, take}
use Rattle.std.proofs.lemmas.Option.{slice_get_read}
use Rattle.std.specs.Prelude.{◌⊎◌, Ok, Err, IfErr}
use Rattle.toml_edit.specs.DocumentView.{tree_owned}
use Rattle.toml_edit_edits.specs.Lists.{RefusesFirst, applied, effect}
use Rattle.toml_edit_edits.specs.declared.fault.EditFault.TheVariants.{Memory}
use Rattle.toml_edit_edits.proofs.ListLaws.{first-applied, none-applied}
use Rattle.toml_edit_edits.proofs.script.make_next.Goals as goal

pub returns-in_err-make-clause-refuses : goal.returns-in_err-make-clause-refuses
returns-in_err-make-clause-refuses c =
    let es = c.args.edits.now in
    let t = tree_owned c.args.document.now in
    let u = tree_owned c.remove_first-made.new.document in
    let w = tree_owned c.make.new.document in
    let e = c.index-edits-0.result in
    let none = none-applied es c.remove_first-made.result t u c.if-made-gt0.false c.remove_first-made.ensures.applied in
    let makes = c.in_err-make.ensures.makes in
    let fault = c.in_err-make.field-0.0 in
    let told : c.from_residual.result ≡ Err fault = search rules in
    subst (λ r. IfErr r (RefusesFirst es t w)) (sym told) (
      e,
      slice_get_read es (length es) 0 e refl c.requires c.index-edits-0.is,
      makes.1 ∙ none,
      subst (λ x. (fault ≡ Memory) ⊎ (effect e x ≡ Err fault)) none makes.0,
    )

pub returns-clause-applied : goal.returns-clause-applied
returns-clause-applied c =
    let es = c.args.edits.now in
    let t = tree_owned c.args.document.now in
    let u = tree_owned c.remove_first-made.new.document in
    let none = none-applied es c.remove_first-made.result t u c.if-made-gt0.false c.remove_first-made.ensures.applied in
    first-applied es c.index-edits-0.result t u (tree_owned c.make.new.document) c.requires c.index-edits-0.is none c.in_ok-make.ensures.makes
