-- The item above the key is changed, or there is none.
use Rattle.std.proofs.Common.{sym, ap, subst, rules, ◌∙◌, List, length}
use Rattle.std.specs.Prelude.{◌==◌}
use Rattle.std.proofs.lemmas.Bool.{false≢true}
use Rattle.toml_edit_model.specs.Keys.{names}
use Rattle.toml_edit_model.specs.Text.{Text}
use Rattle.toml_edit_model.specs.Tree.{Key}
use Rattle.toml_edit_edit_laws.specs.KeyCalls.{key_changed, moved_where, slots_changed}
use Rattle.toml_edit_tree.specs.Containers.{table_node}
use Rattle.toml_edit_tree.specs.View.{item_view, table_view}
use Rattle.toml_edit_tree.specs.declared.item.Item.{Item}
use Rattle.toml_edit_paths.specs.Changes.{Moves}
use Rattle.toml_edit_paths.proofs.KeyLaws.{moves-along, last-names, no-key, none-inside}
use Rattle.toml_edit_paths.proofs.keys.move_to.Goals as goal

pub returns-in-Some-change : goal.returns-in-Some-change
returns-in-Some-change c =
    let h = c.in-Some-change.ensures in
    let k = c.in-Some.key.now.name in
    let n = table_node (table_view c.args.root.now) in
    let new = table_node (table_view c.change.new.root) in
    let m = h.returned.met in
    let says : Moves (slots_changed (moved_where c.args.at k) (item_view h.returned.shown.now)) (item_view h.returned.shown.now)
    (item_view h.returned.left.now) c.in-Some-change.found = search rules in
    let said : Moves (slots_changed (moved_where c.args.at k) (item_view h.item)) (item_view h.item) (item_view h.left) c.in-Some-change.found =
    subst (λ (y : Item). Moves (slots_changed (moved_where c.args.at k) (item_view h.item)) (item_view h.item) (item_view y) c.in-Some-change.found) h.returned.leaves
    (subst (λ (x : Item). Moves (slots_changed (moved_where c.args.at k) (item_view x)) (item_view x) (item_view h.returned.left.now) c.in-Some-change.found)
    h.returned.shows says) in
    subst (λ (q : List Text). Moves (key_changed (moved_where c.args.at) q n) n new c.in-Some-change.found)
    (sym (last-names c.args.path.now c.in-Some.above.now c.in-Some.key.now c.in-Some.ensures.cases.0))
    (moves-along (moved_where c.args.at) k (names c.in-Some.above.now) n new (item_view h.item) (item_view h.left) h.found_it h.put_back h.unchanged
    c.in-Some-change.found said)

pub returns-in-None : goal.returns-in-None
returns-in-None c = (
  ap (λ (q : List Text). key_changed (moved_where c.args.at) q (table_node (table_view c.args.root.now)))
      (last-names c.args.path.now c.in-Some.above.now c.in-Some.key.now c.in-Some.ensures.cases.0)
      ∙ no-key (moved_where c.args.at) c.in-Some.key.now.name (names c.in-Some.above.now) (table_node (table_view c.args.root.now))
      (none-inside c.in-Some.above.now (table_node (table_view c.args.root.now)) (λ e. false≢true (sym c.if-is_empty.false ∙ c.is_empty.ensures ∙ ap (λ (xs : List Key). length xs == 0) e))
      c.in-None.ensures.0),
  c.in-None.ensures.1,
)
