-- The document's tree, by its root.
use Rattle.std.proofs.Common.{ap, sym, ◌∙◌, ◌≡◌}
use Rattle.std.specs.Prelude.{is_some}
use Rattle.toml_edit.specs.DocumentView.{tree_owned}
use Rattle.toml_edit.specs.Roots.{tree_under}
use Rattle.toml_edit.specs.model.Lists.{slot_list, slots_from}
use Rattle.toml_edit.specs.model.Slots.{lookup, without}
use Rattle.toml_edit.specs.model.Tree.{Slots}
use Rattle.toml_edit.specs.tree.View.{item_view, table_slots, tree_view}
use Rattle.toml_edit.specs.tree.declared.item.Item.TheVariants as items
use Rattle.example_calls.proofs.EditLaws.{same-tree, slots_from-list}
use Rattle.example_calls.proofs.ViewLaws.{root-tree, trailing-at}
use Rattle.example_calls.proofs.removing.remove_in_document.Goals as goal

pub returns-clause-found : goal.returns-clause-found
returns-clause-found c =
    c.remove_slot.ensures.found ∙ ap (λ (ss : Slots). is_some (lookup c.args.name.now (slot_list ss))) c.as_table_mut.ensures.slots

pub returns-clause-tree : goal.returns-clause-tree
returns-clause-tree c =
    let d = c.args.document.now in
    let w = c.remove_slot.new.root in
    let same : tree_under (items.Table w) d.trailing ≡ tree_view w d.trailing = root-tree w d.trailing in
    let slots : table_slots w ≡ slots_from (without c.args.name.now (slot_list (tree_owned d).slots)) =
    sym (slots_from-list (table_slots w)) ∙ ap slots_from c.remove_slot.ensures.slots
    ∙ ap (λ (ss : Slots). slots_from (without c.args.name.now (slot_list ss))) c.as_table_mut.ensures.slots in
    same
    ∙ sym (same-tree (tree_owned d) (tree_view w d.trailing) _ (c.remove_slot.ensures.fields ∙ c.as_table_mut.ensures.fields)
    (sym (trailing-at (item_view d.root) d.trailing)) slots)
