-- An inline table with a header of its own.
use Rattle.std.specs.Prelude.{◌++◌, List, Option, Some, option_and_then, option_map}
use Rattle.toml_edit.specs.model.Comments.{side_text}
use Rattle.toml_edit.specs.model.Conversions.{formatted, new_table}
use Rattle.toml_edit.specs.model.Lists.{slot_list, slots_from}
use Rattle.toml_edit.specs.model.Slots.{Slot, inserted}
use Rattle.toml_edit.specs.model.TableCalls.{get_slot}
use Rattle.toml_edit.specs.model.Text.{Text, newline}
use Rattle.toml_edit.specs.model.Tree.{Decor, Key, Node, owned, table}
use Rattle.toml_edit.specs.tree.Casts.{inline_in}
use Rattle.toml_edit.specs.tree.Containers.{InlineView}

-- an empty line and the comments above the key are before the header, and after it is what was
-- after the value
abbrev pub header_decor : Key → Decor → Decor
header_decor k d = record {
  prefix = Some (owned (newline ++ side_text k.leaf.prefix));
  suffix = Some (owned (side_text d.suffix));
}

-- the table that the inline table under a key becomes
abbrev pub headed_table : Key → InlineView → Node
headed_table k t =
    table (record new_table { decor = header_decor k t.fields.decor }) (slots_from (formatted (slot_list t.slots)))

-- the slots with it in its place, where the name has an inline table
abbrev pub headed : Text → List (Slot Node) → Option (List (Slot Node))
headed t es =
    option_and_then (λ s. option_map (λ v. inserted t (headed_table s.key v) es) (inline_in s.item)) (get_slot t es)
