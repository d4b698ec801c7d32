-- How a table is added to an array of tables, or to none.
use Rattle.std.specs.Prelude.{true, if◌then◌else◌, List, [], ◌∷◌, take, None, Result, Err}
use Rattle.toml_edit_model.specs.Conversions.{new_table}
use Rattle.toml_edit_model.specs.Keys.{cleared_key, names}
use Rattle.toml_edit_model.specs.Slots.{keyed}
use Rattle.toml_edit_model.specs.Tree.{Key, Node, Tree, item, no_items, no_slots, slot, table, tables}
use Rattle.toml_edit_edit_laws.specs.Commands.{root_item}
use Rattle.toml_edit_edits.specs.Effects.{changed_at, changed_below}
use Rattle.toml_edit_edits.specs.Elements.{inserted, table_of}
use Rattle.toml_edit_edits.specs.Missing.{is_numbered, keys_there, unled}
use Rattle.toml_edit_edits.specs.Moves.{put_in}
use Rattle.toml_edit_edits.specs.Outcomes.{and_then}
use Rattle.toml_edit_edits.specs.declared.fault.EditFault.{EditFault}
use Rattle.toml_edit_edits.specs.declared.fault.EditFault.TheVariants.{NoSuchPath}

-- tables down a path to an item; they exist only for it
abbrev pub held_below : List Key → Node → Node
held_below [] n = n
held_below (k ∷ path) n =
    table (record new_table { is_implicit = true })
    (slot (cleared_key k) (held_below path n) no_slots)

-- such tables to an array of one table
abbrev pub first_below : List Key → Node → Node
first_below path n = held_below path (tables None (item n no_items))

-- Where the path leads to nothing, these are put under the first key that does.
abbrev pub tabled_from : List Key → List Key → Node → Tree → Result Tree EditFault
tabled_from path [] v t = changed_below (inserted None v) (names path) t
tabled_from path (k ∷ more) v t =
    if is_numbered (k ∷ more) then Err NoSuchPath
    else
    and_then
    (λ n.
    changed_at (put_in (keyed (cleared_key k) (first_below more n)))
    (names (take (keys_there (names path) (root_item t)) path)) t)
    (table_of v)

abbrev pub tabled : List Key → Node → Tree → Result Tree EditFault
tabled path v t = tabled_from path (unled path t) v t
