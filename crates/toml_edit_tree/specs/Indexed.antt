-- What an index finds in an item, what `index_or_insert` makes of one, and what is lent of its
-- slots.
use Rattle.std.specs.Prelude.{List, [], ◌∷◌, ◌++◌, Option, None, Some, Result, option_and_then, option_map}
use Rattle.std.specs.Option.{option_map_or}
use Rattle.std.specs.Borrow.{Fml, LendsIf, LendsIfOk, MutBor}
use Rattle.toml_edit_model.specs.Indexing.{text, index_or_inserted, item_under, with_indexed}
use Rattle.toml_edit_model.specs.Keys.{new_key}
use Rattle.toml_edit_model.specs.Lists.{slot_list}
use Rattle.toml_edit_model.specs.Slots as model
use Rattle.toml_edit_model.specs.Text.{Text}
use Rattle.toml_edit_model.specs.Tree.{Node, nothing, leaf, list, inline, table, tables}
use Rattle.toml_edit_slots.specs.Slots.{place, with_item}
use Rattle.toml_edit_slots.specs.contracts.slots.Slots.{the_row as slots_row}
use Rattle.toml_edit_slots.specs.declared.slots.Slot.{Slot}
use Rattle.toml_edit_tree.specs.ContainerParts.{holding, table_holding}
use Rattle.toml_edit_tree.specs.View.{slots_view}
use Rattle.toml_edit_tree.specs.contracts.item.Item.{the_row as item_row}
use Rattle.toml_edit_tree.specs.contracts.table.Table.{the_row as table_row}
use Rattle.toml_edit_tree.specs.contracts.value.Value.{the_row as value_row}
use Rattle.toml_edit_tree.specs.declared.array.Array.{Array}
use Rattle.toml_edit_tree.specs.declared.array_of_tables.ArrayOfTables.{ArrayOfTables}
use Rattle.toml_edit_tree.specs.declared.inline_table.InlineTable.{InlineTable, out-InlineTable}
use Rattle.toml_edit_tree.specs.declared.item.Item.{Item, out-Item}
use Rattle.toml_edit_tree.specs.declared.item.Item.TheOpen.{Item-F, Value-F}
use Rattle.toml_edit_tree.specs.declared.item.Item.TheVariants as items
use Rattle.toml_edit_tree.specs.declared.table.Table.{Table, out-Table}
use Rattle.toml_edit_tree.specs.declared.value.Value.{Value, out-Value}
use Rattle.toml_edit_tree.specs.declared.value.Value.TheVariants as values

-- the slots of the code as a list of the tree's
abbrev pub shown_slots : List (Slot Item) → List (model.Slot Node)
shown_slots es = slot_list (slots_view es)

-- the item, or another one in place of a placeholder
abbrev pub or_else : Node → Node → Node
or_else x nothing = x
or_else x (leaf s spelling d) = leaf s spelling d
or_else x (list f xs) = list f xs
or_else x (inline f ss) = inline f ss
or_else x (table f ss) = table f ss
or_else x (tables e xs) = tables e xs

-- what `index_or_insert` lends, and the item with another one there
abbrev pub lent_under : Text → Node → Option Node
lent_under t n = option_and_then (item_under t) (index_or_inserted t n)

abbrev pub written_under : Text → Node → Node → Option Node
written_under t x n = option_map (with_indexed (text t) x) (index_or_inserted t n)

-- ---- of a table

-- the slots with the item in the slot of the key, or in a new one
abbrev pub slots_put : Text → Item → List (Slot Item) → List (Slot Item)
slots_put k x es =
    option_map_or (λ at. with_item at x es) (place k es)
    (es ++ record { key = new_key k; item = x } ∷ [])

abbrev pub item_put : Text → Item → Table → Table
item_put k x t = record t { slots = slots_put k x (out-Table t).slots }

-- it ends with the final item of r in the slot of the key, which may be new; it stays where none is
-- lent
abbrev pub LendsMade : {E : Type 0} → MutBor Table → Text → Result (MutBor Item) E → Fml
LendsMade s k r = LendsIfOk table_row item_row s r (λ w. item_put k w s.now) s.now

-- ---- of an item

-- the slots of a value that is an inline table, and of an item that is a table or an inline table
abbrev pub value_slots_open : Value-F Item Value Array ArrayOfTables InlineTable Table
    → Option (List (Slot Item))
value_slots_open (Value-F.InlineTable t) = Some (out-InlineTable t).items
value_slots_open (Value-F.String f) = None
value_slots_open (Value-F.Integer f) = None
value_slots_open (Value-F.Float f) = None
value_slots_open (Value-F.Boolean f) = None
value_slots_open (Value-F.Datetime f) = None
value_slots_open (Value-F.Array a) = None

abbrev pub value_slots : Value → Option (List (Slot Item))
value_slots v = value_slots_open (out-Value v)

abbrev pub slots_open : Item-F Item Value Array ArrayOfTables InlineTable Table
    → Option (List (Slot Item))
slots_open (Item-F.Table t) = Some (out-Table t).slots
slots_open (Item-F.Value v) = value_slots v
slots_open Item-F.None = None
slots_open (Item-F.ArrayOfTables a) = None

abbrev pub slots_held : Item → Option (List (Slot Item))
slots_held x = slots_open (out-Item x)

-- a value, and an item, with other slots, where it is a table or an inline table
abbrev pub value_holding : Value-F Item Value Array ArrayOfTables InlineTable Table
    → List (Slot Item) → Value → Value
value_holding (Value-F.InlineTable t) es v = values.InlineTable (holding es t)
value_holding (Value-F.String f) es v = v
value_holding (Value-F.Integer f) es v = v
value_holding (Value-F.Float f) es v = v
value_holding (Value-F.Boolean f) es v = v
value_holding (Value-F.Datetime f) es v = v
value_holding (Value-F.Array a) es v = v

abbrev pub value_with_slots : List (Slot Item) → Value → Value
value_with_slots es v = value_holding (out-Value v) es v

abbrev pub item_holding : Item-F Item Value Array ArrayOfTables InlineTable Table
    → List (Slot Item) → Item → Item
item_holding (Item-F.Table t) es x = items.Table (table_holding es t)
item_holding (Item-F.Value v) es x = items.Value (value_with_slots es v)
item_holding Item-F.None es x = x
item_holding (Item-F.ArrayOfTables a) es x = x

abbrev pub with_slots : List (Slot Item) → Item → Item
with_slots es x = item_holding (out-Item x) es x

-- they end with the final slots of r, where some are lent
abbrev pub LendsValueSlots : MutBor Value → Option (MutBor (List (Slot Item))) → Fml
LendsValueSlots s r =
    LendsIf value_row (slots_row item_row) s r (λ w. value_with_slots w s.now) s.now

abbrev pub LendsSlotsIn : MutBor Item → Option (MutBor (List (Slot Item))) → Fml
LendsSlotsIn s r = LendsIf item_row (slots_row item_row) s r (λ w. with_slots w s.now) s.now
