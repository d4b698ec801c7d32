-- What edits do to the elements of an array of tables.
use Rattle.std.specs.Prelude.{ℕ, ℤ, Bool, false, if◌then◌else◌, List, length, map, slice_get, Option, Some, None, option_and_then, Result, Ok, Err}
use Rattle.std.specs.Option.{ok_or, option_map_or}
use Rattle.toml_edit_model.specs.ArrayCalls.{inserted_at, removed_at}
use Rattle.toml_edit_model.specs.Conversions.{made_table, made_value}
use Rattle.toml_edit_model.specs.Lists.{is_inline_node, is_tables_node, item_list, items_from}
use Rattle.toml_edit_model.specs.Positions.{without_positions}
use Rattle.toml_edit_model.specs.TablesCalls.{table_at}
use Rattle.toml_edit_model.specs.Text.{Text}
use Rattle.toml_edit_model.specs.Tree.{Node, Tree, table, tables}
use Rattle.toml_edit_edit_laws.specs.Commands.{item_at}
use Rattle.toml_edit_edits.specs.Effects.{changed_below, first_same, place_up_to}
use Rattle.toml_edit_edits.specs.Outcomes.{and_then}
use Rattle.toml_edit_edits.specs.declared.fault.EditFault.{EditFault}
use Rattle.toml_edit_edits.specs.declared.fault.EditFault.TheVariants.{NoSuchPath, WrongKind, NoSuchElement}

-- ---- elements

abbrev pub on_elements : (List Node → Result (List Node) EditFault) → Node → Result Node EditFault
on_elements go (tables e xs) = and_then (λ ns. Ok (tables e (items_from ns))) (go (item_list xs))
on_elements go n = Err WrongKind

-- a table of the pairs of an inline table
abbrev pub table_of : Node → Result Node EditFault
table_of v = if is_inline_node v then Ok (made_table v) else Err WrongKind

-- Headers are printed by their positions, so a table gets that of the element that it comes before.
abbrev pub position_of : Node → Option ℤ
position_of (table f ss) = f.position
position_of n = None

abbrev pub with_position : Option ℤ → Node → Node
with_position p (table f ss) = table (record f { position = p }) ss
with_position p n = n

abbrev pub with_element : ℕ → Node → List Node → List Node
with_element i n ns =
    inserted_at i (with_position (option_and_then position_of (slice_get ns i)) n) ns

-- before the element of a number up to the count, or at the end
abbrev pub place_in : ℕ → Option Text → Option ℕ
place_in n None = Some n
place_in n (Some k) = place_up_to n k

abbrev pub inserted : Option Text → Node → Node → Result Node EditFault
inserted k v =
    on_elements
    (λ ns.
    and_then (λ i. and_then (λ n. Ok (with_element i n ns)) (table_of v))
    (ok_or (place_in (length ns) k) NoSuchPath))

-- the first element that is equal, as values are
abbrev pub taken : Node → Node → Result Node EditFault
taken v =
    on_elements
    (λ ns.
    and_then
    (λ _. and_then (λ i. Ok (removed_at i ns)) (ok_or (first_same v (map made_value ns)) NoSuchElement))
    (table_of v))

-- the place of the table of a number
abbrev pub place_of_table : Text → List Node → Option ℕ
place_of_table k ns =
    option_and_then (λ i. option_map_or (λ _. Some i) (table_at i ns) None) (place_up_to (length ns) k)

-- that table, with the tables below it, at a place among the others
abbrev pub moved_from : ℕ → List Node → Text → Result (List Node) EditFault
moved_from i ns u =
    and_then
    (λ n.
    and_then (λ j. Ok (with_element j (without_positions n) (removed_at i ns)))
    (ok_or (place_up_to (length (removed_at i ns)) u) NoSuchPath))
    (ok_or (table_at i ns) NoSuchPath)

abbrev pub moved_among : Text → Text → Node → Result Node EditFault
moved_among k u =
    on_elements (λ ns. and_then (λ i. moved_from i ns u) (ok_or (place_of_table k ns) NoSuchPath))

-- ---- by the kind of an item

-- an edit of an array of tables, or else of what else is there
abbrev pub is_tables_at : List Text → Tree → Bool
is_tables_at path t = option_map_or is_tables_node (item_at path t) false

abbrev pub on_kind : (Node → Result Node EditFault) → Result Tree EditFault → List Text → Tree → Result Tree EditFault
on_kind go other path t = if is_tables_at path t then changed_below go path t else other
