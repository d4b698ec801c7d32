-- The keys up to here have their names.
use Rattle.std.proofs.Common.{◌≡◌, map, take}
use Rattle.toml_edit_model.specs.Keys.{new_key}
use Rattle.toml_edit_key.proofs.key.Key.path.Given as goal

abbrev pub invariant-names : goal.invariant-names
invariant-names l = l.path.items ≡ map (λ name. new_key name.now) (take l.name-index l.names)
