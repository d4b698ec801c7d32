-- The array has the features up to here.
use Rattle.std.proofs.Common.{◌≡◌, map, take}
use Rattle.toml_edit.specs.model.Conversions.{new_array}
use Rattle.toml_edit.specs.tree.Elements.{array_fields, items_of}
use Rattle.example_calls.specs.Adds.{string_value}
use Rattle.example_calls.proofs.adding.add_dependency.Given as goal

abbrev pub invariant-loop-feature : goal.invariant-loop-feature
invariant-loop-feature l =
    (items_of l.names ≡ map string_value (map (λ t. t.now) (take l.feature-index l.features))) × (array_fields l.names ≡ new_array)
