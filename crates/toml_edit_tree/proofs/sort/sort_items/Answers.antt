-- The slots by each test of their keys and trees.
use Rattle.std.proofs.Common.{rules}
use Rattle.std.proofs.lemmas.Fn.{always_returns_same}
use Rattle.toml_edit_model.specs.Slots as model
use Rattle.toml_edit_tree.specs.View.{item_view}
use Rattle.toml_edit_tree.proofs.DespanLaws.{if_done}
use Rattle.toml_edit_tree.proofs.SortLaws.{sort-seen}
use Rattle.toml_edit_tree.proofs.sort.sort_items.Goals as goal

pub returns-clause-sorted : goal.returns-clause-sorted
returns-clause-sorted g c =
    if_done c.sort_by.result c.sort_by.ensures.sorted
    (λ p lt by. sort-seen lt _ _ (p (λ s r. lt (model.on_item item_view s) (model.on_item item_view r))
    (always_returns_same _ _ _ (λ a r f' k. (k.met.1 lt by, search rules)))))
