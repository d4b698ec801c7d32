-- The trail tells the first misfit, if there is one.
use Rattle.std.proofs.Common.{true, false, refl, sym, ◌∙◌, ap, Some}
use Rattle.toml_edit_laws.proofs.common.Tests.{true-false}
use Rattle.toml_edit_repr.specs.Modes.{mode_of}
use Rattle.toml_edit_tree.specs.View.{tree_view}
use Rattle.toml_edit_fits.specs.Misfits.{misfits}
use Rattle.toml_edit_fits.specs.MisfitViews.{TrailTells}
use Rattle.toml_edit_fits.proofs.FirstLaws.{passed, told}
use Rattle.toml_edit_fits.proofs.MisfitLaws.{reports-decide}
use Rattle.toml_edit_fits.proofs.first.first_misfit.Goals as goal

pub returns-then-all_fits-clause-fits : goal.returns-then-all_fits-clause-fits
returns-then-all_fits-clause-fits c =
    let fits = reports-decide TrailTells (mode_of c.args.mode) (tree_view c.args.root.now c.args.trailing.now) c.all_fits.result
    c.all_fits.new.report c.all_fits.ensures.made c.all_fits.ensures.reports in
    (λ e. fits.0 c.if-all_fits.true, λ f. refl)

pub returns-in_ok-into_misfit-clause-fits : goal.returns-in_ok-into_misfit-clause-fits
returns-in_ok-into_misfit-clause-fits c =
    let fits = reports-decide TrailTells (mode_of c.args.mode) (tree_view c.args.root.now c.args.trailing.now) c.all_fits.result
    c.all_fits.new.report c.all_fits.ensures.made c.all_fits.ensures.reports in
    (λ e. true-false true refl e, λ f. true-false c.all_fits.result (fits.1 f) c.if-all_fits.false)

pub returns-then-all_fits-clause-first : goal.returns-then-all_fits-clause-first
returns-then-all_fits-clause-first c =
    let ms = misfits (mode_of c.args.mode) (tree_view c.args.root.now c.args.trailing.now) in
    sym (passed TrailTells true false c.all_fits.result ms c.all_fits.new.report (λ e. true-false c.all_fits.result c.if-all_fits.true e)
    c.all_fits.ensures.reports).0

pub returns-in_ok-into_misfit-clause-first : goal.returns-in_ok-into_misfit-clause-first
returns-in_ok-into_misfit-clause-first c =
    let ms = misfits (mode_of c.args.mode) (tree_view c.args.root.now c.args.trailing.now) in
    let first = told TrailTells true false c.all_fits.result ms c.all_fits.new.report
    (λ e. true-false c.all_fits.result e c.if-all_fits.false) c.all_fits.ensures.reports in
    ap Some (c.in_ok-into_misfit.ensures first.0 first.2) ∙ sym first.1
