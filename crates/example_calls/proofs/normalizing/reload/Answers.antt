-- What is printed reads back, at the text that is read again.
use Rattle.std.proofs.Common.{◌≡◌, ◌∙◌}
use mathlib.Core.Logic.{∥∥₁_map}
use Rattle.toml_edit.specs.DocumentView.{mode_owned, open_owned, tree_owned}
use Rattle.toml_edit.specs.error.declared.toml_error.ParseFault.TheVariants.{Memory}
use Rattle.example_calls.proofs.FaultLaws.{passed-on}
use Rattle.example_calls.proofs.NormalLaws.{never-refused, reloaded}
use Rattle.example_calls.proofs.normalizing.reload.Goals as goal

pub returns-in_err-reloaded-clause-memory : goal.returns-in_err-reloaded-clause-memory
returns-in_err-reloaded-clause-memory c =
    let d = c.args.document.now in
    let p = c.in_err-reloaded.field-0.0 in
    let back = c.in_ok-text.ensures in
    passed-on c.from_residual-in_err-reloaded.result p (λ e. e ≡ Memory) c.from_residual-in_err-reloaded.ensures.1
    (never-refused (mode_owned d) (open_owned d) (tree_owned d) c.as_str.result.now p (c.in_ok-fits.ensures.fits.0 c.if-not-branch.false)
    c.in_ok-fits.ensures.made (c.as_str.ensures.value ∙ back.0, back.1) c.in_err-reloaded.ensures.every)

pub returns-clause-reloaded : goal.returns-clause-reloaded
returns-clause-reloaded c =
    let d = c.args.document.now in
    let back = c.in_ok-text.ensures in
    ∥∥₁_map c.in_ok-fits.ensures.made
    (λ made. reloaded (mode_owned d) (open_owned d) (tree_owned d) (tree_owned c.in_ok-reloaded.reloaded) c.as_str.result.now
    (c.in_ok-fits.ensures.fits.0 c.if-not-branch.false) made (c.as_str.ensures.value ∙ back.0, back.1)
    c.in_ok-reloaded.ensures.accepted.reading)
