-- What new tables and arrays hold after their first insertions.
use Rattle.std.proofs.Common.{◌≡◌, [], List, ap, codes, map, sym, ◌∙◌, rules}
use Rattle.toml_edit_laws.proofs.slots.Lists.{items_from-list, slots_from-list}
use Rattle.toml_edit.specs.model.Conversions.{new_array, new_inline}
use Rattle.toml_edit.specs.model.Keys.{new_key}
use Rattle.toml_edit.specs.model.Lists.{item_list, items_from, slot_list, slots_from}
use Rattle.toml_edit.specs.model.Slots.{inserted}
use Rattle.toml_edit.specs.model.Text.{Text}
use Rattle.toml_edit.specs.model.Tree.{InlineFields, Node, Slots, TableFields, inline, list, no_slots, slot, table}
use Rattle.toml_edit.specs.tree.Containers.{ArrayView, InlineView, TableView, array_node, inline_node, table_node}
use Rattle.toml_edit.specs.tree.View.{item_view, table_view, value_view}
use Rattle.toml_edit.specs.tree.declared.item.Item.{the_lemmas}
use Rattle.toml_edit.specs.tree.declared.item.Item.TheVariants as items
use Rattle.toml_edit.specs.tree.declared.table.Table.{Table}
use Rattle.toml_edit.specs.tree.declared.value.Value.{Value}
use Rattle.example_calls.specs.Adds.{array_of, dependency, inline_of_one, string_value, table_of_one}

pub view-Table : (t : Table) → item_view (items.Table t) ≡ table_node (table_view t)
view-Table t = search (rules, the_lemmas)

pub view-Value : (v : Value) → item_view (items.Value v) ≡ value_view v
view-Value v = search (rules, the_lemmas)

one-slot : (t : Text) (x : Node) (ss : Slots) → slot_list ss ≡ inserted t x [] → ss ≡ slot (new_key t) x no_slots
one-slot t x ss e = sym (slots_from-list ss) ∙ ap slots_from e

-- a table of these fields, after an insertion where there were no slots
pub table-one : (f : TableFields) (t : Text) (x : Node) (v : TableView) → v.fields ≡ f → slot_list v.slots ≡ inserted t x [] → table_node v
    ≡ table_of_one f t x
table-one f t x v fields slots =
    let ss = one-slot t x v.slots slots in
    λ i. table (fields i) (ss i)

pub inline-one : (f : InlineFields) (t : Text) (x : Node) (v : InlineView) → v.fields ≡ f → slot_list v.slots ≡ inserted t x []
    → inline_node v ≡ inline_of_one f t x
inline-one f t x v fields slots =
    let ss = one-slot t x v.slots slots in
    λ i. inline (fields i) (ss i)

-- ---- strings and dependencies

-- a new array with these strings
pub array-all : (ts : List Text) (v : ArrayView) → v.fields ≡ new_array → item_list v.items ≡ map string_value ts → array_node v
    ≡ array_of ts
array-all ts v fields items =
    let xs : v.items ≡ items_from (map string_value ts) = sym (items_from-list v.items) ∙ ap items_from items in
    λ i. list (fields i) (xs i)

-- an inline table of a version and of features
pub two-slots : (version : Text) (features : List Text) (v : InlineView) → v.fields ≡ new_inline
    → slot_list v.slots ≡ inserted (codes "features") (array_of features) (inserted (codes "version") (string_value version) [])
    → inline_node v ≡ dependency version features
two-slots version features v fields slots =
    let ss = sym (slots_from-list v.slots) ∙ ap slots_from slots in
    λ i. inline (fields i) (ss i)
