-- The step has the name of the key.
use Rattle.std.proofs.Common.{ap, subst, ◌∙◌}
use Rattle.toml_edit_model.specs.Keys.{new_key}
use Rattle.toml_edit_model.specs.Tree.{Key}
use Rattle.toml_edit_fits.specs.Misfits.{below_key}
use Rattle.toml_edit_fits.specs.MisfitViews.{TrailTells}
use Rattle.toml_edit_fits.proofs.report.TrailReport.report_key.Goals as goal

pub returns-in-Ok : goal.returns-in-Ok
returns-in-Ok c place h =
    let step = rw c.in-Ok.is at c.from_text.ensures in
    subst (λ (k : Key). TrailTells c.add.new.self (below_key k place)) (step ∙ ap new_key c.get.ensures.name) (c.add.ensures place h)
