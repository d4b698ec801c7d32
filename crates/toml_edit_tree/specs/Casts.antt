-- What the calls of a value or an item return: its kind, what it holds, and the value with another
-- decor.
use Rattle.std.specs.Prelude.{ℕ, ℤ, Bool, codes, Option, None, Some, option_and_then}
use Rattle.std.specs.declared.ops.Range.{Range}
use Rattle.toml_edit_model.specs.Text.{Text}
use Rattle.toml_edit_model.specs.Scalars.{Date, Time, Datetime, string, integer, float, boolean, datetime}
use Rattle.toml_edit_model.specs.Faults.{scalar_type}
use Rattle.toml_edit_model.specs.Tree.{Raw, Decor, Node, nothing, leaf, list, inline, table, tables}
use Rattle.toml_edit_repr.specs.Views.{range_of}
use Rattle.std.specs.Borrow.{Lends, MutBor, Fml}
use Rattle.toml_edit_tree.specs.declared.array.Array.{Array}
use Rattle.toml_edit_tree.specs.declared.array_of_tables.ArrayOfTables.{ArrayOfTables}
use Rattle.toml_edit_tree.specs.declared.inline_table.InlineTable.{InlineTable}
use Rattle.toml_edit_tree.specs.declared.item.Item.{Item}
use Rattle.toml_edit_tree.specs.declared.item.Item.TheOpen.{Value-F}
use Rattle.toml_edit_tree.specs.declared.table.Table.{Table}
use Rattle.toml_edit_tree.specs.declared.value.Value.{Value, out-Value}
use Rattle.toml_edit_tree.specs.declared.value.Value.TheVariants as values
use Rattle.toml_edit_tree.specs.Containers.{ArrayView, InlineView, range_in}
use Rattle.toml_edit_tree.specs.contracts.value.Value.{the_row as value_row}
use Rattle.toml_edit_repr.specs.contracts.repr.Decor.{the_row as decor_row}

-- the string, integer, float (its text), boolean or date-time that a value is, if it is one
abbrev pub text_in : Node → Option Text
text_in (leaf (string v) spelling d) = Some v
text_in n = None

abbrev pub integer_in : Node → Option ℤ
integer_in (leaf (integer z) spelling d) = Some z
integer_in n = None

abbrev pub float_in : Node → Option Text
float_in (leaf (float x) spelling d) = Some x
float_in n = None

abbrev pub datetime_in : Node → Option Datetime
datetime_in (leaf (datetime d) spelling around) = Some d
datetime_in n = None

abbrev pub truth_in : Node → Option Bool
truth_in (leaf (boolean b) spelling d) = Some b
truth_in n = None

-- the array or inline table that it is
abbrev pub array_in : Node → Option ArrayView
array_in (list f xs) = Some (record { fields = f; items = xs })
array_in n = None

abbrev pub inline_in : Node → Option InlineView
inline_in (inline f ss) = Some (record { fields = f; slots = ss })
inline_in n = None

-- a date alone, and a time alone
abbrev pub of_date : Date → Datetime
of_date d = record { date = Some d; time = None; offset = None }

abbrev pub of_time : Time → Datetime
of_time t = record { date = None; time = Some t; offset = None }

-- where a scalar's spelling is in the source, if it is a span, and where an array or inline table
-- is
abbrev pub span_in : Node → Option (Range ℕ)
span_in (leaf s spelling d) = option_and_then range_of spelling
span_in (list f xs) = range_in f.extent
span_in (inline f ss) = range_in f.extent
span_in n = None

-- the name of its type
abbrev pub type_of : Node → Text
type_of (leaf s spelling d) = scalar_type s
type_of (list f xs) = codes "array"
type_of (inline f ss) = codes "inline table"
type_of (table f ss) = codes "table"
type_of (tables e xs) = codes "array of tables"
type_of nothing = codes "none"

abbrev pub both_sides : Raw → Raw → Decor
both_sides p s = record { prefix = Some p; suffix = Some s }

-- the value of the code with another decor
abbrev pub decorated_open : Decor → Value-F Item Value Array ArrayOfTables InlineTable Table → Value
decorated_open d (Value-F.String f) = values.String (record f { decor = d })
decorated_open d (Value-F.Integer f) = values.Integer (record f { decor = d })
decorated_open d (Value-F.Float f) = values.Float (record f { decor = d })
decorated_open d (Value-F.Datetime f) = values.Datetime (record f { decor = d })
decorated_open d (Value-F.Boolean f) = values.Boolean (record f { decor = d })
decorated_open d (Value-F.Array a) = values.Array (record a { decor = d })
decorated_open d (Value-F.InlineTable t) = values.InlineTable (record t { decor = d })

abbrev pub decorated : Decor → Value → Value
decorated d v = decorated_open d (out-Value v)

-- the value ends with the final decor of r
abbrev pub LendsDecor : MutBor Value → MutBor Decor → Fml
LendsDecor s r = Lends value_row decor_row s r (λ w. decorated w s.now)
