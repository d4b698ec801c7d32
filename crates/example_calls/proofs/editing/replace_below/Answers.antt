-- The item under the name.
use Rattle.std.proofs.Common.{◌∙◌, ap, sym}
use Rattle.std.specs.Prelude.{Option, is_some, option_and_then}
use Rattle.toml_edit.specs.model.Tree.{Node}
use Rattle.toml_edit.specs.tree.View.{item_view}
use Rattle.example_calls.specs.Paths.{value_inside}
use Rattle.example_calls.proofs.editing.replace_below.Goals as goal

pub returns-in-Some-clause-found : goal.returns-in-Some-clause-found
returns-in-Some-clause-found c =
    c.replace_in_item_table.ensures.found
    ∙ ap (λ (o : Option Node). is_some (option_and_then (value_inside c.args.key.now) o)) c.in-Some.ensures.item

pub returns-in-Some-clause-slots : goal.returns-in-Some-clause-slots
returns-in-Some-clause-slots c =
    λ h. (
      item_view c.in-Some.item.now,
      item_view c.replace_in_item_table.new.item,
      sym c.in-Some.ensures.item,
      c.replace_in_item_table.ensures.item h,
      c.in-Some.ensures.leaves c.replace_in_item_table.new.item,
    )
