-- The kinds of items, and their names.
use Rattle.std.specs.Prelude.{if◌then◌else◌, Option, Some, None, bytes_eq, codes}
use Rattle.toml_edit_model.specs.Scalars.{string, integer, float, boolean, datetime}
use Rattle.toml_edit_model.specs.Text.{Text}
use Rattle.toml_edit_model.specs.Tree.{Node, nothing, leaf, list, inline, table, tables}
use Rattle.toml_edit_items.specs.declared.kind.Kind.{Kind}
use Rattle.toml_edit_items.specs.declared.kind.Kind.TheVariants as kinds

abbrev pub kind_in : Node → Option Kind
kind_in (leaf (string t) r d) = Some kinds.String
kind_in (leaf (integer i) r d) = Some kinds.Integer
kind_in (leaf (float x) r d) = Some kinds.Float
kind_in (leaf (boolean b) r d) = Some kinds.Boolean
kind_in (leaf (datetime t) r d) = Some kinds.Datetime
kind_in (list f xs) = Some kinds.Array
kind_in (inline f ss) = Some kinds.Table
kind_in (table f ss) = Some kinds.Table
kind_in (tables e xs) = Some kinds.Tables
kind_in nothing = None

abbrev pub kind_named : Text → Option Kind
kind_named w =
    if bytes_eq w (codes "string") then Some kinds.String
    else (if bytes_eq w (codes "integer") then Some kinds.Integer
    else (if bytes_eq w (codes "float") then Some kinds.Float
    else (if bytes_eq w (codes "boolean") then Some kinds.Boolean
    else (if bytes_eq w (codes "datetime") then Some kinds.Datetime
    else (if bytes_eq w (codes "array") then Some kinds.Array
    else (if bytes_eq w (codes "table") then Some kinds.Table
    else (if bytes_eq w (codes "tables") then Some kinds.Tables
    else None)))))))
