-- The inline table of the pairs that came, as a value.
use Rattle.std.proofs.Common.{ap, sym, ◌∙◌}
use Rattle.toml_edit_laws.proofs.slots.Lists.{slots_from-list}
use Rattle.toml_edit_model.specs.Conversions.{new_inline}
use Rattle.toml_edit_model.specs.Lists.{slots_from}
use Rattle.toml_edit_model.specs.Tree.{inline}
use Rattle.toml_edit_tree.specs.View.{inline_view}
use Rattle.toml_edit_tree.proofs.ViewLaws.{view-InlineTable}
use Rattle.toml_edit_tree.proofs.value.Value.from_pairs.Goals as goal

pub returns-in-Ok : goal.returns-in-Ok
returns-in-Ok g c =
    let e = c.in-Ok.ensures in
    let view = inline_view c.in-Ok.table in (
      e.0,
      e.1,
      e.2,
      e.3,
      view-InlineTable c.in-Ok.table ∙ ap (λ f. inline f view.slots) e.5
          ∙ ap (inline new_inline) (sym (slots_from-list view.slots) ∙ ap slots_from e.4),
    )
