-- Setting a value where tables before it that are missing get headers.
use Rattle.std.specs.Prelude.{true, List, [], ◌∷◌}
use Rattle.toml_edit_model.specs.Conversions.{new_table}
use Rattle.toml_edit_model.specs.Keys.{cleared_key}
use Rattle.toml_edit_model.specs.Tree.{Key, TableFields, Node, nothing, table, tables, no_slots, slot, Tree}
use Rattle.toml_edit_edit_laws.specs.Commands.{Answer, done, mapped, child_changed, root_item, set_below, set_here, with_slots}

-- A new table, by the rest of the path below its key: the last one has a header, and those above it
-- exist only for it.
abbrev pub header_fields : List Key → TableFields
header_fields [] = new_table
header_fields (k ∷ path) = record new_table { is_implicit = true }

-- a value below new keys: tables down to it
abbrev pub headed_below : List Key → Node → Node
headed_below [] v = v
headed_below (k ∷ path) v =
    table (header_fields path) (slot (cleared_key k) (headed_below path v) no_slots)

-- In tables and arrays of tables, a missing key makes a placeholder, and a placeholder such tables
-- as the path needs. In a value all is as `set` does it.
abbrev pub set_headed_below : Node → List Key → Node → Answer Node
set_headed_below v [] n = set_here v n
set_headed_below v (k ∷ path) nothing = done (headed_below (k ∷ path) v)
set_headed_below v (k ∷ path) (table f ss) =
    child_changed true k (set_headed_below v path) (table f ss)
set_headed_below v (k ∷ path) (tables e xs) =
    child_changed true k (set_headed_below v path) (tables e xs)
set_headed_below v (k ∷ path) n = set_below v (k ∷ path) n

-- the tree after `set` with headers
abbrev pub set_at_with_headers : List Key → Node → Tree → Answer Tree
set_at_with_headers path v t = mapped (with_slots t) (set_headed_below v path (root_item t))
