-- What taking out the slots of the table of a block does.
use Rattle.std.specs.Prelude.{◌≡◌, List, [], ◌∷◌, map, Option, Some, None, option_and_then}
use Rattle.std.specs.Cow.{cow_str_bytes}
use Rattle.std.specs.declared.borrow.CowStr.{CowStr}
use Rattle.std.specs.declared.alloc.Global.{Global}
use Rattle.toml_edit_model.specs.Text.{Text}
use Rattle.toml_edit_model.specs.Tree.{Node, Slots, item, no_items, table, tables}
use Rattle.toml_edit_laws.specs.AddPath.{put_along, put_in, put_last}
use Rattle.toml_edit_laws.specs.Building.{block_slots, last_slots, slots_along}
use Rattle.toml_edit_tree.specs.Containers.{TableView, TablesView, table_node, tables_node}

-- the texts of some names
abbrev pub names : List (CowStr Global) → List Text
names ns = map cow_str_bytes ns

-- the first of them, and the others
abbrev pub split_name : List Text → Option (Text × List Text)
split_name [] = None
split_name (k ∷ ks) = Some (k, ks)

-- Where these slots are found they come out, and what held them has others in their place; where
-- there are none, both stay.
abbrev pub Swaps : {X : Type 0} → Option Slots → Slots → X → X → Slots → X → Type 0
Swaps found others old want out new =
    ((inner : Slots) → found ≡ Some inner → (out ≡ inner) × (new ≡ want))
    × (found ≡ None → (out ≡ others) × (new ≡ old))

-- Others are swapped with the slots of the table at these names below slots,
abbrev pub SwapsBelow : List Text → Slots → Slots → Slots → Slots → Type 0
SwapsBelow ks others old out new =
    Swaps (slots_along ks old) others old (put_along ks others old) out new

-- below an item,
abbrev pub SwapsInItem : List Text → Slots → Node → Slots → Node → Type 0
SwapsInItem ks others old out new =
    Swaps (option_and_then (slots_along ks) (block_slots old)) others old
    (put_in (put_along ks others) old) out new

-- below a table,
abbrev pub SwapsInTable : List Text → Slots → TableView → Slots → TableView → Type 0
SwapsInTable ks others old out new =
    Swaps (slots_along ks old.slots) others (table_node old)
    (table old.fields (put_along ks others old.slots)) out (table_node new)

-- below the last table of an array,
abbrev pub SwapsInTables : List Text → Slots → TablesView → Slots → TablesView → Type 0
SwapsInTables ks others old out new =
    Swaps (option_and_then (slots_along ks) (last_slots old.items)) others (tables_node old)
    (tables old.extent (put_last (put_along ks others) old.items)) out (tables_node new)

-- or below this element, if it is a table.
abbrev pub SwapsInLast : List Text → Slots → Node → Slots → Node → Type 0
SwapsInLast ks others old out new =
    Swaps (option_and_then (slots_along ks) (last_slots (item old no_items))) others
    (item old no_items) (put_last (put_along ks others) (item old no_items)) out
    (item new no_items)
