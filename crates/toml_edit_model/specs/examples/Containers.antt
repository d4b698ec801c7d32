-- Worked calls on the slots of arrays and arrays of tables, conversions, and indexing.
use Rattle.std.specs.Prelude.{◌≡◌, refl, true, List, [], ◌∷◌, codes, Some, None}
use Rattle.toml_edit_model.specs.Text.{one}
use Rattle.toml_edit_model.specs.Tree.{owned, unset, Node, nothing, list, inline, table, tables, no_items, no_slots, slot}
use Rattle.toml_edit_model.specs.Lists.{items_from}
use Rattle.toml_edit_model.specs.Iterating.{values, elements}
use Rattle.toml_edit_model.specs.Conversions.{new_array, new_inline, new_table, formatted_items, formatted_array, made_value, into_value}
use Rattle.toml_edit_model.specs.Conversions.{filled_with, into_table, into_tables}
use Rattle.toml_edit_model.specs.ArrayCalls.{value_at, pushed, inserted_at, replaced_at, written_at, removed_at, retained_elements}
use Rattle.toml_edit_model.specs.TablesCalls.{table_at, retained_tables}
use Rattle.toml_edit_model.specs.Indexing.{number, text, indexed, with_indexed, index_or_inserted, item_under}
use Rattle.toml_edit_model.specs.examples.Parts.{plain_key, plain_int, plain_list, owned_decor, table_placed}

-- a value with a decor, a placeholder, a table
abbrev decorated_one : Node
decorated_one = list (record new_array { decor = owned_decor (codes " ") (codes "\n") }) no_items

abbrev some_table : Node
some_table = table_placed 3 (slot (plain_key (codes "a")) decorated_one no_slots)

abbrev of_each : List Node
of_each = decorated_one ∷ nothing ∷ some_table ∷ []

-- ---- arrays

value_found : value_at 0 of_each ≡ Some decorated_one
value_found = refl

no_value_found : value_at 1 of_each ≡ None
no_value_found = refl

no_slot_found : value_at 3 of_each ≡ None
no_slot_found = refl

value_pushed : pushed (plain_int 1) of_each
    ≡ decorated_one ∷ nothing ∷ some_table ∷ plain_int 1 ∷ []
value_pushed = refl

value_inserted : inserted_at 1 (plain_int 1) of_each
    ≡ decorated_one ∷ plain_int 1 ∷ nothing ∷ some_table ∷ []
value_inserted = refl

-- `replace` hands the decor on, `replace_formatted` doesn't
value_replaced : replaced_at 0 (plain_list no_items) of_each ≡ of_each
value_replaced = refl

value_written : written_at 0 (plain_list no_items) of_each
    ≡ plain_list no_items ∷ nothing ∷ some_table ∷ []
value_written = refl

value_removed : removed_at 0 of_each ≡ nothing ∷ some_table ∷ []
value_removed = refl

-- what holds no value is dropped, whatever the closure says
values_retained : retained_elements (λ n. true) of_each ≡ one decorated_one
values_retained = refl

values_given : values of_each ≡ one decorated_one
values_given = refl

-- a place counts a placeholder, and what is given does not
abbrev placeholder_between : List Node
placeholder_between = plain_int 1 ∷ nothing ∷ plain_int 2 ∷ []

no_value_at_placeholder : value_at 1 placeholder_between ≡ None
no_value_at_placeholder = refl

value_behind_placeholder : value_at 2 placeholder_between ≡ Some (plain_int 2)
value_behind_placeholder = refl

two_values_given : values placeholder_between ≡ plain_int 1 ∷ plain_int 2 ∷ []
two_values_given = refl

-- `fmt` counts values alone
elements_formatted : formatted_items
    (nothing ∷ plain_list no_items ∷ some_table ∷ plain_list no_items ∷ [])
    ≡ nothing ∷ list (record new_array { decor = owned_decor [] [] }) no_items ∷ some_table
    ∷ list (record new_array { decor = owned_decor (codes " ") [] }) no_items ∷ []
elements_formatted = refl

array_formatted : formatted_array
    (record { decor = unset; comma = true; trailing = owned (codes "\n"); extent = None })
    ≡ new_array
array_formatted = refl

-- ---- arrays of tables

table_found : table_at 2 of_each ≡ Some some_table
table_found = refl

no_table_found : table_at 0 of_each ≡ None
no_table_found = refl

tables_retained : retained_tables (λ n. true) of_each ≡ one some_table
tables_retained = refl

tables_given : elements of_each ≡ one some_table
tables_given = refl

-- ---- conversions

-- a table as an inline table: keys and values lose their decors, and tables below are made values
-- too
abbrev some_inline : Node
some_inline = inline new_inline (slot (plain_key (codes "a")) (list new_array no_items) no_slots)

table_made_value : made_value
    (table_placed 1 (slot (plain_key (codes "t")) some_table
    (slot (plain_key (codes "n")) nothing no_slots)))
    ≡ inline new_inline
    (slot (plain_key (codes "t")) some_inline (slot (plain_key (codes "n")) nothing no_slots))
table_made_value = refl

-- an array of tables as an array
tables_made_value : made_value (tables (Some (0, 5)) (items_from of_each))
    ≡ list new_array (items_from
    (list (record new_array { decor = owned_decor [] [] }) no_items ∷ nothing
    ∷ inline (record new_inline { decor = owned_decor (codes " ") [] })
    (slot (plain_key (codes "a")) (list new_array no_items) no_slots) ∷ []))
tables_made_value = refl

-- a placeholder comes back from `into_value`, and stays after `make_value`
placeholder_comes_back : into_value nothing ≡ None
placeholder_comes_back = refl

placeholder_stays : made_value nothing ≡ nothing
placeholder_stays = refl

-- an inline table as a table: its slots stay as they are, tables among them
inline_made_table : into_table
    (inline (record {
      decor = owned_decor (codes " ") [];
      is_dotted = true;
      comma = true;
      trailing = owned (codes "\n");
      extent = None;
    })
    (slot (plain_key (codes "a")) decorated_one (slot (plain_key (codes "t")) some_table no_slots)))
    ≡ Some (table new_table (slot (plain_key (codes "a")) (list new_array no_items)
    (slot (plain_key (codes "t")) some_table no_slots)))
inline_made_table = refl

no_table_comes_back : into_table decorated_one ≡ None
no_table_comes_back = refl

-- an array of inline tables and placeholders; an array of placeholders alone; one with another
-- value; one without slots
array_made_tables : into_tables (plain_list (items_from (nothing ∷ some_inline ∷ [])))
    ≡ Some (tables None (items_from
    (nothing ∷ table new_table (slot (plain_key (codes "a")) (list new_array no_items) no_slots)
    ∷ [])))
array_made_tables = refl

placeholders_made_tables : into_tables (plain_list (items_from (one nothing)))
    ≡ Some (tables None (items_from (one nothing)))
placeholders_made_tables = refl

other_value_comes_back : into_tables (plain_list (items_from (some_inline ∷ plain_int 1 ∷ [])))
    ≡ None
other_value_comes_back = refl

no_slots_come_back : into_tables (plain_list no_items) ≡ None
no_slots_come_back = refl

-- `or_insert` fills a placeholder alone
placeholder_filled : filled_with (plain_int 1) nothing ≡ plain_int 1
placeholder_filled = refl

item_stays : filled_with (plain_int 1) some_table ≡ some_table
item_stays = refl

-- ---- indexing

-- a number finds any slot, of an array or array of tables
slot_indexed : indexed (number 1) (plain_list (items_from of_each)) ≡ Some nothing
slot_indexed = refl

element_indexed : indexed (number 2) (tables None (items_from of_each)) ≡ Some some_table
element_indexed = refl

nothing_indexed : indexed (number 0) some_table ≡ None
nothing_indexed = refl

-- a text finds an item that is no placeholder, of a table or inline table
key_indexed : indexed (text (codes "a")) some_table ≡ Some decorated_one
key_indexed = refl

placeholder_indexed : indexed (text (codes "n"))
    (inline new_inline (slot (plain_key (codes "n")) nothing no_slots)) ≡ None
placeholder_indexed = refl

no_key_indexed : indexed (text (codes "a")) (plain_list no_items) ≡ None
no_key_indexed = refl

-- a write through an index changes that place alone
index_written : with_indexed (number 1) (plain_int 1) (tables None (items_from of_each))
    ≡ tables None (items_from (decorated_one ∷ plain_int 1 ∷ some_table ∷ []))
index_written = refl

key_written : with_indexed (text (codes "a")) nothing some_table
    ≡ table_placed 3 (slot (plain_key (codes "a")) nothing no_slots)
key_written = refl

-- `index_or_insert`: on a placeholder, on a table with and without the key, on an array
placeholder_made_inline : index_or_inserted (codes "a") nothing
    ≡ Some (inline new_inline (slot (plain_key (codes "a")) nothing no_slots))
placeholder_made_inline = refl

key_found : index_or_inserted (codes "a") some_table ≡ Some some_table
key_found = refl

key_made : index_or_inserted (codes "b") some_table
    ≡ Some (table_placed 3 (slot (plain_key (codes "a")) decorated_one
    (slot (plain_key (codes "b")) nothing no_slots)))
key_made = refl

item_lent : item_under (codes "b")
    (table_placed 3 (slot (plain_key (codes "a")) decorated_one
    (slot (plain_key (codes "b")) nothing no_slots))) ≡ Some nothing
item_lent = refl

wrong_kind : index_or_inserted (codes "a") (plain_list no_items) ≡ None
wrong_kind = refl
