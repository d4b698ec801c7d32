-- Reading a lone value as an item.
use Rattle.std.proofs.Common.{◌≡◌, true, rules, sym, subst, ap, ◌∙◌}
use Rattle.toml_edit_model.specs.Tree.{is_value_node}
use Rattle.toml_edit_parser.specs.LoneValue.{IsLoneReading}
use Rattle.toml_edit_tree.specs.declared.array.Array.{Array}
use Rattle.toml_edit_tree.specs.declared.array_of_tables.ArrayOfTables.{ArrayOfTables}
use Rattle.toml_edit_tree.specs.declared.inline_table.InlineTable.{InlineTable}
use Rattle.toml_edit_tree.specs.declared.item.Item.{Item, the_lemmas}
use Rattle.toml_edit_tree.specs.declared.item.Item.TheOpen.{Value-F}
use Rattle.toml_edit_tree.specs.declared.item.Item.TheVariants as items
use Rattle.toml_edit_tree.specs.declared.item.Item.TheViews.{roll-Value}
use Rattle.toml_edit_tree.specs.declared.table.Table.{Table}
use Rattle.toml_edit_tree.specs.declared.value.Value.{Value, out-Value}
use Rattle.toml_edit_tree.specs.View.{item_view, value_view}
use Rattle.toml_edit_parser.proofs.from_str.ItemFromStr.from_str.Goals as goal

view : (v : Value) → item_view (items.Value v) ≡ value_view v
view v = search (rules, the_lemmas)

rolled : (v : Value) → v ≡ roll-Value (out-Value v)
rolled v = search (rules, the_lemmas)

value-open : (o : Value-F Item Value Array ArrayOfTables InlineTable Table) → is_value_node (value_view (roll-Value o)) ≡ true
value-open (Value-F.String f) = search (rules, the_lemmas)
value-open (Value-F.Integer f) = search (rules, the_lemmas)
value-open (Value-F.Float f) = search (rules, the_lemmas)
value-open (Value-F.Boolean f) = search (rules, the_lemmas)
value-open (Value-F.Datetime f) = search (rules, the_lemmas)
value-open (Value-F.Array a) = search (rules, the_lemmas)
value-open (Value-F.InlineTable t) = search (rules, the_lemmas)

pub returns-in-Ok-clause-read : goal.returns-in-Ok-clause-read
returns-in-Ok-clause-read c =
    let v = c.in-Ok.value in (
      ap is_value_node (view v) ∙ ap (λ w. is_value_node (value_view w)) (rolled v) ∙ value-open (out-Value v),
      subst (IsLoneReading c.args.text.now) (sym (view v)) c.in-Ok.ensures.read,
    )
