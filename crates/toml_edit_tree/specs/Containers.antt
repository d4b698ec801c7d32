-- Arrays, inline tables, tables and arrays of tables as contracts see them, and what their calls
-- return.
use Rattle.std.specs.Prelude.{ℕ, ℤ, Bool, false, List, [], ◌∷◌, Option, Some, None, if◌then◌else◌}
use Rattle.std.specs.declared.ops.Range.{Range}
use Rattle.toml_edit_model.specs.Tree.{Raw, Decor, Extent, unset, ArrayFields, InlineFields, TableFields, Node, list, inline, table}
use Rattle.toml_edit_model.specs.Tree.{tables, Items, Slots, no_slots, slot, is_value_node}
use Rattle.toml_edit_model.specs.TreeOf.{made_by_path, spanned_form}
use Rattle.toml_edit_slots.specs.declared.slots.Slot as repr

-- an array, and an inline table: what they have beside their slots, and those
pub record ArrayView : Type 0 where
  pub fields : ArrayFields
  pub items : Items

pub record InlineView : Type 0 where
  pub fields : InlineFields
  pub slots : Slots

-- a table, and an array of tables
pub record TableView : Type 0 where
  pub fields : TableFields
  pub slots : Slots

pub record TablesView : Type 0 where
  pub extent : Extent
  pub items : Items

abbrev pub array_node : ArrayView → Node
array_node a = list a.fields a.items

abbrev pub inline_node : InlineView → Node
inline_node t = inline t.fields t.slots

abbrev pub table_node : TableView → Node
table_node t = table t.fields t.slots

abbrev pub tables_node : TablesView → Node
tables_node a = tables a.extent a.items

-- the tree's slots, of the list of them that a container has
abbrev pub tree_slots : List (repr.Slot Node) → Slots
tree_slots [] = no_slots
tree_slots (s ∷ es) = slot s.key s.item (tree_slots es)

-- ---- arrays

-- the item, where it is a value
abbrev pub value_in : Node → Option Node
value_in n = if is_value_node n then Some n else None

-- the array with another comma, trailing text or decor
abbrev pub array_with_comma : Bool → ArrayView → ArrayView
array_with_comma comma a = record a { fields = record a.fields { comma = comma } }

abbrev pub array_with_trailing : Raw → ArrayView → ArrayView
array_with_trailing trailing a = record a { fields = record a.fields { trailing = trailing } }

-- an array that was read, from this byte of its source up to that one
abbrev pub spanned_array : Bool → Raw → ℕ → ℕ → Items → ArrayView
spanned_array comma trailing start end xs =
    record {
      fields = record {
        decor = unset;
        comma = comma;
        trailing = trailing;
        extent = Some (start, end);
      };
      items = xs;
    }

-- ---- inline tables

-- the inline table with another comma, trailing text or role
abbrev pub inline_with_comma : Bool → InlineView → InlineView
inline_with_comma comma t = record t { fields = record t.fields { comma = comma } }

abbrev pub inline_with_trailing : Raw → InlineView → InlineView
inline_with_trailing trailing t = record t { fields = record t.fields { trailing = trailing } }

abbrev pub inline_with_dotted : Bool → InlineView → InlineView
inline_with_dotted dotted t = record t { fields = record t.fields { is_dotted = dotted } }

-- an inline table that was read, from this byte of its source up to that one
abbrev pub spanned_inline : Bool → Raw → ℕ → ℕ → Slots → InlineView
spanned_inline comma trailing start end ss =
    record {
      fields = record {
        decor = unset;
        is_dotted = false;
        comma = comma;
        trailing = trailing;
        extent = Some (start, end);
      };
      slots = ss;
    }

-- ---- tables

-- what a parsed table has that a key implies, which stands from this byte of the source up to that
-- one
abbrev pub implied : Bool → ℕ → ℕ → TableFields
implied dotted start end = made_by_path spanned_form dotted (Some (start, end))

-- what is kept of a header: its decor, its place among the headers, and its brackets, from this
-- byte of the source up to that one
abbrev pub headed : Decor → ℤ → ℕ → ℕ → TableFields
headed decor position start end =
    record {
      decor = decor;
      is_implicit = false;
      is_dotted = false;
      position = Some position;
      extent = Some (start, end);
    }

-- the table with another role, or another place among the headers
abbrev pub table_with_implicit : Bool → TableView → TableView
table_with_implicit implicit t = record t { fields = record t.fields { is_implicit = implicit } }

abbrev pub table_with_dotted : Bool → TableView → TableView
table_with_dotted dotted t = record t { fields = record t.fields { is_dotted = dotted } }

abbrev pub table_with_position : Option ℤ → TableView → TableView
table_with_position position t = record t { fields = record t.fields { position = position } }

-- ---- arrays of tables

-- the table, where the item is one
abbrev pub table_in : Node → Option TableView
table_in (table f ss) = Some (record { fields = f; slots = ss })
table_in n = None

abbrev pub tables_in : Node → Option TablesView
tables_in (tables e xs) = Some (record { extent = e; items = xs })
tables_in n = None

-- ---- places

-- where it is in the source
abbrev pub range_in : Extent → Option (Range ℕ)
range_in None = None
range_in (Some (i, j)) = Some (record { start = i; end = j })
