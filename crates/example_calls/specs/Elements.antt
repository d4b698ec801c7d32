-- An element that is added, and those that stay.
use Rattle.std.specs.Prelude.{Bool, not, List, Some, None, if◌then◌else◌}
use Rattle.std.specs.Option.{option_eq, option_map_or}
use Rattle.toml_edit.specs.model.ArrayCalls.{pushed}
use Rattle.toml_edit.specs.model.Lists.{item_list, items_from}
use Rattle.toml_edit.specs.model.Slots.{Slot, changed_at, inserted, on_item, place}
use Rattle.toml_edit.specs.model.TableCalls.{contains_tables}
use Rattle.toml_edit.specs.model.Text.{Text, same_text}
use Rattle.toml_edit.specs.model.Tree.{Node, no_items, item, tables}
use Rattle.toml_edit.specs.tree.Casts.{text_in}

-- an array of tables with the element at its end
abbrev pub with_last : Node → Node → Node
with_last x (tables e xs) = tables e (items_from (pushed x (item_list xs)))
with_last x n = n

-- the element added to the array of tables under the name, or to a new one in place of any other
-- item
abbrev pub with_element : Text → Node → List (Slot Node) → List (Slot Node)
with_element t x es =
    if contains_tables t es then option_map_or (λ at. changed_at at (on_item (with_last x)) es) (place t es) es
    else inserted t (tables None (item x no_items)) es

-- the value is no string, or another one
abbrev pub is_other : Text → Node → Bool
is_other t n = not (option_eq same_text (text_in n) (Some t))
