-- What an insertion leaves.
use Rattle.std.specs.Prelude.{◌++◌, true, Bool, List, Option, None, codes, map, option_and_then, if◌then◌else◌}
use Rattle.std.specs.Option.{unwrap_or}
use Rattle.toml_edit.specs.model.Conversions.{new_array, new_inline, new_table}
use Rattle.toml_edit.specs.model.Keys.{new_key}
use Rattle.toml_edit.specs.model.Lists.{items_from}
use Rattle.toml_edit.specs.model.Scalars.{string}
use Rattle.toml_edit.specs.model.Slots.{Slot, lookup, put, with_item}
use Rattle.toml_edit.specs.model.Text.{Text}
use Rattle.toml_edit.specs.model.Tree.{InlineFields, Key, Node, TableFields, inline, leaf, list, no_slots, slot, table, unset}
use Rattle.toml_edit.specs.tree.Indexed.{lent_under, written_under}

-- a new table without a header of its own, and a new inline table that is written by dotted keys
abbrev pub implicit_table : TableFields
implicit_table = record new_table { is_implicit = true }

abbrev pub dotted_inline : InlineFields
dotted_inline = record new_inline { is_dotted = true }

-- a table of either kind with `x` under a new key, and nothing else
abbrev pub table_of_one : TableFields → Text → Node → Node
table_of_one f t x = table f (slot (new_key t) x no_slots)

abbrev pub inline_of_one : InlineFields → Text → Node → Node
inline_of_one f t x = inline f (slot (new_key t) x no_slots)

-- an array of the strings, each as it is added to a new array
abbrev pub string_value : Text → Node
string_value t = leaf (string t) None unset

abbrev pub array_of : List Text → Node
array_of ts = list new_array (items_from (map string_value ts))

-- a dependency: an inline table of its version and its features
abbrev pub dependency : Text → List Text → Node
dependency version features =
    inline new_inline
    (slot (new_key (codes "version")) (string_value version)
    (slot (new_key (codes "features")) (array_of features) no_slots))

-- what an insertion will do, by whether there is an item
abbrev pub described : Bool → Key → Text
described present k = (if present then codes "replaces " else codes "adds ") ++ k.name

-- `x` was put under the name, at the end if the name is new
abbrev pub put_under : Text → Node → List (Slot Node) → List (Slot Node)
put_under t x es = put (with_item x) (record { key = new_key t; item = x }) es

-- the item that is under the name stays, and where there is none the new one is put there
abbrev pub defaulted : Text → Node → List (Slot Node) → List (Slot Node)
defaulted t x es = put_under t (unwrap_or (lookup t es) x) es

-- a table in which the key has a slot: what is there, or a new placeholder, written back
abbrev pub slot_made : Text → Node → Option Node
slot_made t n = option_and_then (λ x. written_under t x n) (lent_under t n)
