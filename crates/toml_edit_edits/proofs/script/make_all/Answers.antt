-- Some edits more, or the first that is refused.
use Rattle.std.proofs.Common.{◌≡◌, ◌∙◌, ◌+◌, ◌≤◌, Some, ap, arith, drop, length, length-drop, refl, slice_get, subst, sym, take}
use Rattle.std.proofs.lemmas.List.{take_all}
use Rattle.std.specs.Prelude.{◌⊎◌, Ok, Err}
use Rattle.toml_edit.specs.DocumentView.{tree_owned}
use Rattle.toml_edit_edits.specs.Lists.{applied, effect}
use Rattle.toml_edit_edits.specs.declared.fault.EditFault.TheVariants.{Memory}
use Rattle.toml_edit_edits.proofs.ListLaws.{all-after, get-after, more-applied, take-none}
use Rattle.toml_edit_edits.proofs.script.make_all.Goals as goal

pub edits-init : goal.edits-init
edits-init c =
    (omega arith, ap (λ es. applied es (tree_owned c.args.document.now)) (take-none c.args.edits.now), (refl, refl))

pub edits-preserved : goal.edits-preserved
edits-preserved c =
    let es = c.args.edits.now in
    let at = c.edits.at in
    let made = c.in-Ok.made in
    let rest = all-after es at in
    let within : made ≤ length (drop at es) = subst (λ xs. made ≤ length xs) rest c.in-Ok.ensures.within in
    let printed = c.in-Ok.ensures.printed in (
      omega (arith, within, length-drop at es),
      more-applied es at made (tree_owned c.args.document.now) (tree_owned c.edits.document) (tree_owned c.make_next.new.document)
          c.edits.invariant.1
          (subst (λ xs. applied (take made xs) (tree_owned c.edits.document) ≡ Ok (tree_owned c.make_next.new.document)) rest c.in-Ok.ensures.applied),
      (printed.0 ∙ c.edits.invariant.2.0, printed.1 ∙ c.edits.invariant.2.1),
    )

pub returns-in-Err-clause-applies : goal.returns-in-Err-clause-applies
returns-in-Err-clause-applies c =
    let es = c.args.edits.now in
    let r = c.in-Err.ensures.refuses in (
      r.0,
      sym (get-after es c.edits.at) ∙ subst (λ xs. slice_get xs 0 ≡ Some r.0) (all-after es c.edits.at) r.1,
      c.edits.invariant.1 ∙ ap (λ x. Ok x) (sym r.2),
      subst (λ x. (c.in-Err.fault ≡ Memory) ⊎ (effect r.0 x ≡ Err c.in-Err.fault)) (sym r.2) r.3,
    )

pub returns-clause-applies : goal.returns-clause-applies
returns-clause-applies c =
    let es = c.args.edits.now in
    ap (λ xs. applied xs (tree_owned c.args.document.now)) (sym (take_all c.edits.at es c.edits-test.false)) ∙ c.edits.invariant.1
