-- The value with another decor, by what it is.
use Rattle.std.proofs.Common.{◌≡◌, rules}
use Rattle.toml_edit.specs.model.Conversions.{with_decor}
use Rattle.toml_edit.specs.model.Tree.{Decor}
use Rattle.toml_edit.specs.tree.Casts.{decorated_open}
use Rattle.toml_edit.specs.tree.View.{value_view}
use Rattle.toml_edit.specs.tree.declared.array.Array.{Array}
use Rattle.toml_edit.specs.tree.declared.array_of_tables.ArrayOfTables.{ArrayOfTables}
use Rattle.toml_edit.specs.tree.declared.inline_table.InlineTable.{InlineTable}
use Rattle.toml_edit.specs.tree.declared.item.Item.{Item, the_lemmas}
use Rattle.toml_edit.specs.tree.declared.item.Item.TheOpen.{Value-F}
use Rattle.toml_edit.specs.tree.declared.item.Item.TheViews.{roll-Value}
use Rattle.toml_edit.specs.tree.declared.table.Table.{Table}
use Rattle.toml_edit.specs.tree.declared.value.Value.{Value}
use Rattle.example_tasks.proofs.comments.explain.Goals as goal

opened : (d : Decor) (o : Value-F Item Value Array ArrayOfTables InlineTable Table)
    → value_view (decorated_open d o) ≡ with_decor d (value_view (roll-Value o))
opened d (Value-F.String f) = search (rules, the_lemmas)
opened d o = search (rules, the_lemmas)

pub returns-clause-ok : goal.returns-clause-ok
returns-clause-ok c = search (rules, the_lemmas, opened)
