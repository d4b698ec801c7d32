-- The value gets the old one's decor.
use Rattle.std.proofs.Common.{ap, ◌∙◌}
use Rattle.std.specs.Prelude.{Option, is_some}
use Rattle.toml_edit.specs.model.Conversions.{with_decor}
use Rattle.toml_edit.specs.model.Tree.{Node, node_decor}
use Rattle.toml_edit.specs.tree.View.{item_view, value_view}
use Rattle.example_calls.proofs.ViewLaws.{view-Value, decorated-view, value-held}
use Rattle.example_calls.proofs.editing.replace_in_item.Goals as goal

pub returns-in-Some-clause-found : goal.returns-in-Some-clause-found
returns-in-Some-clause-found c = ap (λ (o : Option Node). is_some o) c.in-Some.ensures.value

pub returns-in-Some-clause-item : goal.returns-in-Some-clause-item
returns-in-Some-clause-item c =
    λ h.
    let held = value-held (item_view c.args.item.now) (value_view c.in-Some.old.now) c.in-Some.ensures.value in (
      held.0,
      view-Value c.replace_value.new.old ∙ ap value_view c.replace_value.ensures ∙ decorated-view _ c.args.value
          ∙ ap (λ (n : Node). with_decor (node_decor n) (value_view c.args.value)) held.1,
    )
