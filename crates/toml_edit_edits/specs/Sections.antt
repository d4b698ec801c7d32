-- How an empty table with a header is added, which is printed after all others.
use Rattle.std.specs.Prelude.{◌≡◌, ℤ, pos, ◌+ℤ◌, int_le, int_lt, true, if◌then◌else◌, List, [], ◌∷◌, take, Option, Some, None, Result, Err}
use Rattle.toml_edit_model.specs.Conversions.{new_table}
use Rattle.toml_edit_model.specs.Iterating.{filled}
use Rattle.toml_edit_model.specs.Keys.{cleared_key, names}
use Rattle.toml_edit_model.specs.Lists.{slot_list}
use Rattle.toml_edit_model.specs.Slots.{keyed}
use Rattle.toml_edit_model.specs.Text.{Text, is_empty, newline}
use Rattle.toml_edit_model.specs.Tree.{Items, Key, Node, Slots, TableFields, Tree, inline, item, leaf, list, no_items, no_slots, nothing, owned, slot, table, tables, unset}
use Rattle.toml_edit_edit_laws.specs.Commands.{root_item}
use Rattle.toml_edit_edits.specs.Effects.{changed_at}
use Rattle.toml_edit_edits.specs.FirstTable.{held_below}
use Rattle.toml_edit_edits.specs.Missing.{is_numbered, keys_there, unled}
use Rattle.toml_edit_edits.specs.Moves.{put_in}
use Rattle.toml_edit_edits.specs.declared.fault.EditFault.{EditFault}
use Rattle.toml_edit_edits.specs.declared.fault.EditFault.TheVariants.{NoSuchPath, Taken}

-- ---- the last position

abbrev pub later : ℤ → Option ℤ → ℤ
later i None = i
later i (Some j) = if int_le j i then i else j

-- the greatest of a number and the positions of all tables of an item
abbrev mutual
  pub latest : ℤ → Node → ℤ
  latest i nothing = i
  latest i (leaf s spelling d) = i
  latest i (list f xs) = i
  latest i (inline f ss) = i
  latest i (table f ss) = latest_slots (later i f.position) ss
  latest i (tables e xs) = latest_items i xs

  pub latest_items : ℤ → Items → ℤ
  latest_items i no_items = i
  latest_items i (item n xs) = latest_items (latest i n) xs

  pub latest_slots : ℤ → Slots → ℤ
  latest_slots i no_slots = i
  latest_slots i (slot k n ss) = latest_slots (latest i n) ss

-- the greatest position, after which there is none
abbrev pub last_position : ℤ
last_position = pos 9223372036854775807

abbrev pub after : ℤ → ℤ
after i = if int_lt i last_position then i +ℤ pos 1 else i

-- that after all tables: headers without a position before them have the place 0
abbrev pub next_position : Tree → ℤ
next_position t = after (latest (pos 0) (root_item t))

abbrev pub HasNextPosition : Tree → Type 0
HasNextPosition t = int_lt (latest (pos 0) (root_item t)) last_position ≡ true

-- ---- the table

-- an empty line before the header, unless it is all that is printed
abbrev pub space_before : Tree → Text
space_before t = if is_empty (filled (slot_list t.slots)) then [] else newline

-- such fields have this text before the header, and this position
abbrev pub section_at : Text → ℤ → TableFields
section_at x i =
    record new_table { decor = record unset { prefix = Some (owned x) }; position = Some i }

abbrev pub section_fields : Tree → TableFields
section_fields t = section_at (space_before t) (next_position t)

abbrev pub section : Tree → Node
section t = table (section_fields t) no_slots

-- It is put where the path leads to nothing, below tables that exist only for it.
abbrev pub sectioned_from : List Key → List Key → Tree → Result Tree EditFault
sectioned_from path [] t = Err Taken
sectioned_from path (k ∷ more) t =
    if is_numbered (k ∷ more) then Err NoSuchPath
    else
    changed_at (put_in (keyed (cleared_key k) (held_below more (section t))))
    (names (take (keys_there (names path) (root_item t)) path)) t

abbrev pub sectioned : List Key → Tree → Result Tree EditFault
sectioned path t = sectioned_from path (unled path t) t
