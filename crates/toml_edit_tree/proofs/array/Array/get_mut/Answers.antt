-- The value at a place, to be changed.
use Rattle.std.proofs.Common.{refl, sym, ap, option_map, ◌∙◌}
use Rattle.toml_edit_model.specs.ArrayCalls.{value_at}
use Rattle.toml_edit_model.specs.Lists.{item_list}
use Rattle.toml_edit_tree.specs.ItemPlaces.{value_in_at}
use Rattle.toml_edit_tree.specs.View.{value_view}
use Rattle.toml_edit_tree.specs.declared.array.Array.{out-Array}
use Rattle.toml_edit_tree.proofs.InlineEntryLaws.{none-of}
use Rattle.toml_edit_tree.proofs.LentLaws.{array-keeps, array-leaves}
use Rattle.toml_edit_tree.proofs.PlaceLaws.{value_seen_at}
use Rattle.toml_edit_tree.proofs.ViewLaws.{array_items}
use Rattle.toml_edit_tree.proofs.array.Array.get_mut.Goals as goal

pub returns-then-holds_value : goal.returns-then-holds_value
returns-then-holds_value c =
    let a = c.args.self.now in (
      refl,
      record {
        writes_back = tt;
        value = ap (option_map value_view) (sym c.value_in_mut.ensures.value) ∙ value_seen_at (out-Array a).values.items c.args.at
            ∙ ap (λ xs. value_at c.args.at (item_list xs)) (sym (array_items a));
        leaves = λ w. array-leaves c.args.at w a;
        keeps = λ w. array-keeps c.args.at w a;
      },
    )

pub returns-else-holds_value : goal.returns-else-holds_value
returns-else-holds_value c =
    let a = c.args.self.now in (
      refl,
      record {
        writes_back = tt;
        value = none-of value_view (value_in_at c.args.at a) (sym c.holds_value.ensures ∙ c.if-holds_value.false)
            ∙ value_seen_at (out-Array a).values.items c.args.at ∙ ap (λ xs. value_at c.args.at (item_list xs)) (sym (array_items a));
        leaves = λ w. array-leaves c.args.at w a;
        keeps = λ w. array-keeps c.args.at w a;
      },
    )
