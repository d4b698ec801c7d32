-- The walk finds all.
use Rattle.std.proofs.Common.{◌∙◌, [], ◌++◌, List, ap}
use Rattle.toml_edit.specs.DocumentView.{tree_read}
use Rattle.toml_edit.specs.model.Tree.{Node}
use Rattle.toml_edit.specs.tree.View.{item_view}
use Rattle.toml_edit_visit.specs.Below.{items_below}
use Rattle.example_proofs.specs.declared.misspelled.Place.{Place}
use Rattle.example_proofs.proofs.KeyLaws.{all-found, all_in}
use Rattle.example_proofs.proofs.misspelled.misspelled.Goals as goal

pub returns-then-visit_item-clause-all : goal.returns-then-visit_item-clause-all
returns-then-visit_item-clause-all c = (
  tree_read c.in_ok-document.document,
  c.in_ok-document.ensures.accepted,
  all-found _ _ _ _ c.visit_item.ensures c.if-visit_item.true
      ∙ ap (λ (ps : List Place). ps ++ all_in c.args.text.now (items_below [] (item_view c.as_item.result.now))) c.new.ensures.items
      ∙ ap (λ (n : Node). all_in c.args.text.now (items_below [] n)) c.as_item.ensures,
)
