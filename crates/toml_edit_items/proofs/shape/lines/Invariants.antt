-- The lines up to here, and those of the values that are left, are all of them.
use Rattle.std.proofs.Common.{◌≡◌, ◌++◌, string_bytes}
use Rattle.std.specs.Prelude.{option_map}
use Rattle.toml_edit_items.specs.Shapes.{array_lines, element_lines}
use Rattle.toml_edit_tree.specs.ContainerParts.{values_left}
use Rattle.toml_edit_tree.specs.View.{item_view}
use Rattle.toml_edit_items.proofs.shape.lines.Given as goal

abbrev pub invariant-values : goal.invariant-values
invariant-values l =
    option_map (λ rest. string_bytes l.text ++ rest) (element_lines (values_left l.value-iterator))
    ≡ array_lines (item_view l.item)
