-- The walk decides it.
use Rattle.toml_edit_repr.specs.Modes.{mode_of}
use Rattle.toml_edit_tree.specs.View.{tree_view}
use Rattle.toml_edit_fits.specs.declared.report.Silent.{Silent}
use Rattle.toml_edit_fits.proofs.MisfitLaws.{reports-decide}
use Rattle.toml_edit_fits.proofs.fits.tree_fits.Goals as goal

pub returns-clause-fits : goal.returns-clause-fits
returns-clause-fits c =
    reports-decide (λ (r : Silent) m. Unit {0}) (mode_of c.args.mode) (tree_view c.args.root.now c.args.trailing.now) c.all_fits.result
    c.all_fits.new.report c.all_fits.ensures.made c.all_fits.ensures.reports
