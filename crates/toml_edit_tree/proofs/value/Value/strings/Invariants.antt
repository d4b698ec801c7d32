-- The strings up to here are in the array.
use Rattle.std.proofs.Common.{◌≡◌, None, map, take}
use Rattle.toml_edit_model.specs.Conversions.{new_array}
use Rattle.toml_edit_model.specs.Scalars.{string}
use Rattle.toml_edit_model.specs.Tree.{leaf, unset}
use Rattle.toml_edit_tree.specs.Elements.{array_fields, items_of}
use Rattle.toml_edit_tree.proofs.value.Value.strings.Given as goal

abbrev pub invariant-texts : goal.invariant-texts
invariant-texts l =
    (items_of l.array ≡ map (λ text. leaf (string text.now) None unset) (take l.text-index l.texts)) × (array_fields l.array ≡ new_array)
