-- The step is the number in decimal.
use Rattle.std.proofs.Common.{ap, subst, ◌∙◌}
use Rattle.toml_edit_model.specs.Keys.{new_key}
use Rattle.toml_edit_model.specs.Tree.{Key}
use Rattle.toml_edit_fits.specs.Misfits.{below_key}
use Rattle.toml_edit_fits.specs.MisfitViews.{TrailTells}
use Rattle.toml_edit_fits.proofs.report.TrailReport.report_element.Goals as goal

pub returns-in-Ok : goal.returns-in-Ok
returns-in-Ok c place h =
    let digits = rw c.in-Ok.is at c.to_string.ensures in
    subst (λ (k : Key). TrailTells c.add.new.self (below_key k place)) (c.new.ensures ∙ ap new_key digits.ok) (c.add.ensures place h)
