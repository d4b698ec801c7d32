-- The JSON value of an item, in the words of the crate `json` (RFC 8259).
use Rattle.std.specs.Prelude.{◌≡◌, ◌≤◌, if◌then◌else◌, Some}
use Rattle.json.specs.Json.{Json, array, boolean, null, number, object, string, document, max_depth}
use Rattle.json.specs.Json as json
use Rattle.json.specs.Print.{print}
use Rattle.json.specs.Tree.{depth, json_tokens}
use Rattle.toml_edit_model.specs.Text.{Text, has_byte}
use Rattle.toml_edit_model.specs.DefaultSpelling.{default_spelling}
use Rattle.toml_edit_model.specs.Scalars as toml
use Rattle.toml_edit_model.specs.Scalars.{Scalar}
use Rattle.toml_edit_model.specs.Tree.{Node, nothing, leaf, list, inline, table, tables, Items, no_items, item, Slots, no_slots, slot, IsWellMade}
use Rattle.toml_edit_model.specs.Lists.{is_item}
use Rattle.toml_edit_json.specs.Texts.{written}
use Rattle.toml_edit_json.specs.declared.runs.Form.TheVariants.{Number}

-- A float has its digits, without `_` and `+`. `inf` and `nan` are no numbers of JSON.
abbrev pub float_value : Text → Json
float_value t = if has_byte 0x6E t then string (written Number t) else number (written Number t)

abbrev pub scalar_value : Scalar → Json
scalar_value (toml.string t) = string t
scalar_value (toml.integer i) = number (default_spelling (toml.integer i))
scalar_value (toml.float t) = float_value t
scalar_value (toml.boolean b) = boolean b
scalar_value (toml.datetime d) = string (default_spelling (toml.datetime d))

abbrev mutual
  -- tables are objects, with their keys in order, and arrays of tables are arrays
  pub json_value : Node → Json
  json_value nothing = null
  json_value (leaf s r d) = scalar_value s
  json_value (list f xs) = array (json_items xs)
  json_value (tables e xs) = array (json_items xs)
  json_value (inline f ss) = object (json_members ss)
  json_value (table f ss) = object (json_members ss)

  -- placeholders are left out
  pub json_items : Items → json.Items
  json_items no_items = json.no_items
  json_items (item n xs) =
      if is_item n then json.item (json_value n) (json_items xs) else json_items xs

  pub json_members : Slots → json.Members
  json_members no_slots = json.no_members
  json_members (slot k n ss) =
      if is_item n then json.member k.name (json_value n) (json_members ss) else json_members ss

-- the text of a value, without spaces
abbrev pub value_text : Json → Text
value_text j = print (json_tokens j)

abbrev pub json_text : Node → Text
json_text n = value_text (json_value n)

-- The grammar reads the text as the value, up to the depth that it reads.
abbrev pub IsReadAsJson : Node → Type 0
IsReadAsJson n =
    IsWellMade n → depth (json_value n) ≤ max_depth → document (json_text n) ≡ Some (json_value n)
