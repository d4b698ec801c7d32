-- The array of the values that came, as a value.
use Rattle.std.proofs.Common.{ap, sym, ◌∙◌}
use Rattle.toml_edit_laws.proofs.slots.Lists.{items_from-list}
use Rattle.toml_edit_model.specs.Conversions.{new_array}
use Rattle.toml_edit_model.specs.Lists.{items_from}
use Rattle.toml_edit_model.specs.Tree.{list}
use Rattle.toml_edit_tree.specs.View.{array_view}
use Rattle.toml_edit_tree.proofs.ViewLaws.{view-Array}
use Rattle.toml_edit_tree.proofs.value.Value.from_iter.Goals as goal

pub returns-in-Ok : goal.returns-in-Ok
returns-in-Ok g c =
    let e = c.in-Ok.ensures in
    let view = array_view c.in-Ok.array in (
      e.0,
      e.1,
      e.2,
      e.3,
      view-Array c.in-Ok.array ∙ ap (λ f. list f view.items) e.4.1
          ∙ ap (list new_array) (sym (items_from-list view.items) ∙ ap items_from e.4.0),
    )
