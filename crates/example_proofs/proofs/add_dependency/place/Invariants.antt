-- The name comes before none of the keys up to here.
use Rattle.std.proofs.Common.{◌≡◌, ◌<◌, ℕ, false}
use Rattle.toml_edit.specs.tree.SlotsOf.{slots_of}
use Rattle.example_proofs.specs.Dependencies.{is_before}
use Rattle.example_proofs.proofs.add_dependency.place.Given as goal

abbrev pub invariant-loop-at : goal.invariant-loop-at
invariant-loop-at l = (j : ℕ) → j < l.at → is_before l.name (slots_of l.table) j ≡ false
