-- The array that an item is.
use Rattle.std.proofs.Common.{refl, sym, ap, ◌∙◌}
use denote.Hole.Carrier.{out}
use Rattle.toml_edit_tree.specs.Casts.{array_in}
use Rattle.toml_edit_tree.specs.View.{value_view}
use Rattle.toml_edit_tree.specs.declared.item.Item.TheViews.{out-Item}
use Rattle.toml_edit_tree.specs.declared.value.Value.{Value}
use Rattle.toml_edit_tree.proofs.ViewLaws.{view-Value}
use Rattle.toml_edit_tree.proofs.item.Item.as_array_mut.Goals as goal

pub returns-in-Value : goal.returns-in-Value
unfolding out-Item out
returns-in-Value c =
    rw c.in-Value.is (
      refl,
      record {
        writes_back = tt;
        array =
            c.as_array_mut.ensures.array
            ∙ ap (λ (v : Value). array_in (value_view v)) c.in-Value.value-is
            ∙ ap array_in (sym (view-Value c.in-Value.value));
      },
    )
