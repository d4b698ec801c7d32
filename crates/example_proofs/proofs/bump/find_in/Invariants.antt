-- No table before the place has the name.
use Rattle.std.proofs.Common.{◌≡◌, ◌<◌, ℕ, false}
use Rattle.toml_edit.specs.tree.Elements.{tables_of}
use Rattle.example_proofs.specs.Packages.{is_named}
use Rattle.example_proofs.proofs.bump.find_in.Given as goal

abbrev pub invariant-loop-at : goal.invariant-loop-at
invariant-loop-at l = (j : ℕ) → j < l.at → is_named l.name (tables_of l.packages) j ≡ false
