-- The values of an iterator, put into a new array.
use Rattle.std.proofs.Common.{ap, ◌++◌, map, ◌∙◌}
use Rattle.toml_edit_model.specs.Lists.{item_list}
use Rattle.toml_edit_tree.specs.View.{value_view}
use Rattle.toml_edit_tree.proofs.array.Array.from_iter.Goals as goal

pub returns-in-Ok : goal.returns-in-Ok
returns-in-Ok g c =
    let e = c.in-Ok.ensures in (
      e.0,
      e.1,
      e.2,
      e.4,
      (
        e.3.0 ∙ ap (λ a. item_list a.items ++ map value_view e.1) c.new-array.ensures,
        e.3.1
            ∙ ap (λ a. a.fields) c.new-array.ensures,
      ),
    )
