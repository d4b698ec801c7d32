-- The steps in reverse are the path.
use Rattle.std.proofs.Common.{List, ap, ◌∙◌}
use Rattle.toml_edit_model.specs.Tree.{Key}
use Rattle.toml_edit_fits.specs.Misfits.{MisfitView}
use Rattle.toml_edit_fits.proofs.report.Trail.into_misfit.Goals as goal

pub returns : goal.returns
returns c place h =
    let view : List Key → MisfitView = λ path. record { path = path; rule = c.args.self.rule } in
    ap view c.reverse.ensures.items ∙ h c.if-refused.false
