-- What an inline table has beside its slots, and a slot that is taken out of it.
use Rattle.std.specs.Prelude.{List, [], fold}
use Rattle.toml_edit_model.specs.Text.{Text}
use Rattle.toml_edit_model.specs.Tree.{InlineFields, Key, Node}
use Rattle.toml_edit_model.specs.Slots.{Slot, inserted}
use Rattle.toml_edit_tree.specs.declared.inline_table.InlineTable.{InlineTable}
use Rattle.toml_edit_tree.specs.declared.value.Value.{Value}
use Rattle.toml_edit_tree.specs.View.{inline_view, value_view}

abbrev pub inline_fields : InlineTable → InlineFields
inline_fields t = (inline_view t).fields

abbrev pub value_taken : Key × Value → Slot Node
value_taken p = record { key = p.0; item = value_view p.1 }

-- the slots of these names and values; a later value takes the place of an earlier one of its name
abbrev pub slots_of_pairs : List (Text × Node) → List (Slot Node)
slots_of_pairs ps = fold (λ ss p. inserted p.0 p.1 ss) [] ps
