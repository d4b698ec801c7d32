-- The table at a place, to be changed.
use Rattle.std.proofs.Common.{refl, sym, ap, option_map, ◌∙◌}
use Rattle.toml_edit_model.specs.TablesCalls.{table_at}
use Rattle.toml_edit_model.specs.Lists.{item_list}
use Rattle.toml_edit_tree.specs.ItemPlaces.{table_in_at}
use Rattle.toml_edit_tree.specs.Containers.{table_node}
use Rattle.toml_edit_tree.specs.View.{table_view}
use Rattle.toml_edit_tree.specs.declared.array_of_tables.ArrayOfTables.{out-ArrayOfTables}
use Rattle.toml_edit_tree.proofs.InlineEntryLaws.{none-of}
use Rattle.toml_edit_tree.proofs.LentLaws.{tables-keep, tables-leave}
use Rattle.toml_edit_tree.proofs.PlaceLaws.{table_seen_at}
use Rattle.toml_edit_tree.proofs.ViewLaws.{tables_items}
use Rattle.toml_edit_tree.proofs.array_of_tables.ArrayOfTables.get_mut.Goals as goal

pub returns-then-holds_table : goal.returns-then-holds_table
returns-then-holds_table c =
    let a = c.args.self.now in (
      refl,
      record {
        writes_back = tt;
        table = ap (option_map (λ t. table_node (table_view t))) (sym c.table_in_mut.ensures.table)
            ∙ table_seen_at (out-ArrayOfTables a).values.items c.args.at
            ∙ ap (λ xs. table_at c.args.at (item_list xs)) (sym (tables_items a));
        leaves = λ w. tables-leave c.args.at w a;
        keeps = λ w. tables-keep c.args.at w a;
      },
    )

pub returns-else-holds_table : goal.returns-else-holds_table
returns-else-holds_table c =
    let a = c.args.self.now in (
      refl,
      record {
        writes_back = tt;
        table = none-of (λ t. table_node (table_view t)) (table_in_at c.args.at a) (sym c.holds_table.ensures ∙ c.if-holds_table.false)
            ∙ table_seen_at (out-ArrayOfTables a).values.items c.args.at
            ∙ ap (λ xs. table_at c.args.at (item_list xs)) (sym (tables_items a));
        leaves = λ w. tables-leave c.args.at w a;
        keeps = λ w. tables-keep c.args.at w a;
      },
    )
