-- The document's tree, by its root.
use Rattle.std.proofs.Common.{ap, subst, sym, ◌∙◌, ◌≡◌}
use Rattle.std.specs.Prelude.{is_some}
use Rattle.toml_edit.specs.model.Lists.{slot_list}
use Rattle.toml_edit.specs.model.Tree.{Slots, Tree}
use Rattle.toml_edit.specs.tree.View.{item_view, table_slots, tree_view, value_view}
use Rattle.toml_edit.specs.tree.declared.item.Item.TheVariants as items
use Rattle.toml_edit.specs.DocumentView.{tree_owned}
use Rattle.toml_edit.specs.Roots.{tree_under}
use Rattle.example_calls.specs.Paths.{value_below}
use Rattle.example_calls.specs.Sets.{SetsBelow}
use Rattle.example_calls.proofs.ViewLaws.{root-tree, trailing-at}
use Rattle.example_calls.proofs.editing.replace_in_document.Goals as goal

pub returns-clause-found : goal.returns-clause-found
returns-clause-found c =
    c.replace_below.ensures.found
    ∙ ap (λ (ss : Slots). is_some (value_below c.args.name.now c.args.key.now (slot_list ss))) c.as_table_mut.ensures.slots

pub returns-clause-tree : goal.returns-clause-tree
returns-clause-tree c =
    λ h.
    let d = c.args.document.now in
    let w = c.replace_below.new.root in
    let same : tree_under (items.Table w) d.trailing ≡ tree_view w d.trailing = root-tree w d.trailing in
    let set = c.replace_below.ensures.slots h in
    let was = subst (λ (ss : Slots). SetsBelow c.args.name.now c.args.key.now (value_view c.args.value) (slot_list ss)
    (slot_list (table_slots w))) c.as_table_mut.ensures.slots set in (
      ap (λ (t : Tree). t.root) same ∙ c.replace_below.ensures.fields h ∙ c.as_table_mut.ensures.fields,
      ap (λ (t : Tree). t.trailing) same ∙ sym (trailing-at (item_view d.root) d.trailing),
      subst (λ (t : Tree). SetsBelow c.args.name.now c.args.key.now (value_view c.args.value) (slot_list (tree_owned d).slots)
          (slot_list t.slots)) (sym same) was,
    )
