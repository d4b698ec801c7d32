-- It is printed where `fits` says so, and the clause of `fits` says what the print means.
use mathlib.Core.Logic.{∥∥₁_map}
use Rattle.toml_edit.proofs.promise.print_if_fits.Goals as goal

pub returns-then-fits-clause-prints : goal.returns-then-fits-clause-prints
returns-then-fits-clause-prints c =
    ∥∥₁_map (c.in_ok-fits.ensures.reparse c.if-fits.true) (λ means. record { print = c.in_ok-text.ensures; means = means })
