-- The item above the key is changed, or there is none.
use Rattle.std.proofs.Common.{sym, ap, subst, rules, ◌∙◌, List, length}
use Rattle.std.specs.Prelude.{◌==◌}
use Rattle.std.proofs.lemmas.Bool.{false≢true}
use Rattle.toml_edit_model.specs.Keys.{names}
use Rattle.toml_edit_model.specs.Text.{Text}
use Rattle.toml_edit_model.specs.Tree.{Key}
use Rattle.toml_edit_edit_laws.specs.KeyCalls.{key_changed, renamed_where, slots_changed}
use Rattle.toml_edit_tree.specs.Containers.{table_node}
use Rattle.toml_edit_tree.specs.View.{item_view, table_view}
use Rattle.toml_edit_tree.specs.declared.item.Item.{Item}
use Rattle.toml_edit_paths.specs.Changes.{Renames}
use Rattle.toml_edit_paths.proofs.KeyLaws.{renames-along, last-names, no-key, none-inside}
use Rattle.toml_edit_paths.proofs.keys.rename.Goals as goal

pub returns-in-Some-change : goal.returns-in-Some-change
returns-in-Some-change c =
    let h = c.in-Some-change.ensures in
    let k = c.in-Some.key.now.name in
    let n = table_node (table_view c.args.root.now) in
    let new = table_node (table_view c.change.new.root) in
    let m = h.returned.met in
    let says : Renames (slots_changed (renamed_where c.args.name.now k) (item_view h.returned.shown.now)) (item_view h.returned.shown.now)
    (item_view h.returned.left.now) c.in-Some-change.told = search rules in
    let said : Renames (slots_changed (renamed_where c.args.name.now k) (item_view h.item)) (item_view h.item) (item_view h.left) c.in-Some-change.told =
    subst (λ (y : Item). Renames (slots_changed (renamed_where c.args.name.now k) (item_view h.item)) (item_view h.item) (item_view y) c.in-Some-change.told) h.returned.leaves
    (subst (λ (x : Item). Renames (slots_changed (renamed_where c.args.name.now k) (item_view x)) (item_view x) (item_view h.returned.left.now) c.in-Some-change.told)
    h.returned.shows says) in
    subst (λ (q : List Text). Renames (key_changed (renamed_where c.args.name.now) q n) n new c.in-Some-change.told)
    (sym (last-names c.args.path.now c.in-Some.above.now c.in-Some.key.now c.in-Some.ensures.cases.0))
    (renames-along (renamed_where c.args.name.now) k (names c.in-Some.above.now) n new (item_view h.item) (item_view h.left) h.found_it h.put_back h.unchanged
    c.in-Some-change.told said)

pub returns-in-None : goal.returns-in-None
returns-in-None c = (
  ap (λ (q : List Text). key_changed (renamed_where c.args.name.now) q (table_node (table_view c.args.root.now)))
      (last-names c.args.path.now c.in-Some.above.now c.in-Some.key.now c.in-Some.ensures.cases.0)
      ∙ no-key (renamed_where c.args.name.now) c.in-Some.key.now.name (names c.in-Some.above.now) (table_node (table_view c.args.root.now))
      (none-inside c.in-Some.above.now (table_node (table_view c.args.root.now)) (λ e. false≢true (sym c.if-is_empty.false ∙ c.is_empty.ensures ∙ ap (λ (xs : List Key). length xs == 0) e))
      c.in-None.ensures.0),
  c.in-None.ensures.1,
)
