-- The document's tree, by its root.
use Rattle.std.proofs.Common.{ap, subst, sym, ◌∙◌, ◌≡◌}
use Rattle.std.proofs.lemmas.Result.{on_ok_weaker}
use Rattle.std.specs.Prelude.{IfErr}
use Rattle.toml_edit.specs.DocumentView.{tree_owned}
use Rattle.toml_edit.specs.Roots.{tree_under}
use Rattle.toml_edit.specs.model.Lists.{slot_list}
use Rattle.toml_edit.specs.model.Tree.{Slots, Tree}
use Rattle.toml_edit.specs.tree.View.{item_view, table_slots, tree_view}
use Rattle.toml_edit.specs.tree.declared.item.Item.TheVariants as items
use Rattle.example_calls.specs.Exchanges.{Exchanges}
use Rattle.example_calls.specs.Faults.{SlotsStay}
use Rattle.example_calls.proofs.ViewLaws.{root-tree, trailing-at}
use Rattle.example_calls.proofs.exchanging.exchange_in_document.Goals as goal

pub returns-clause-fails : goal.returns-clause-fails
returns-clause-fails c =
    subst (λ (ss : Slots). IfErr c.exchange_in_table.result (SlotsStay c.args.table.now c.args.key.now (slot_list ss)))
    c.as_table_mut.ensures.slots
    c.exchange_in_table.ensures.fails

pub returns-clause-tree : goal.returns-clause-tree
returns-clause-tree c =
    let d = c.args.document.now in
    let w = c.exchange_in_table.new.root in
    let same : tree_under (items.Table w) d.trailing ≡ tree_view w d.trailing = root-tree w d.trailing in
    on_ok_weaker c.exchange_in_table.result
    (λ set.
    let was =
    subst (λ (ss : Slots). Exchanges c.args.table.now c.args.key.now (item_view c.args.item) (slot_list ss) (slot_list (table_slots w)))
    c.as_table_mut.ensures.slots set in (
      ap (λ (t : Tree). t.root) same ∙ c.exchange_in_table.ensures.fields ∙ c.as_table_mut.ensures.fields,
      ap (λ (t : Tree). t.trailing) same ∙ sym (trailing-at (item_view d.root) d.trailing),
      subst (λ (t : Tree). Exchanges c.args.table.now c.args.key.now (item_view c.args.item) (slot_list (tree_owned d).slots)
          (slot_list t.slots)) (sym same) was,
    ))
    c.exchange_in_table.ensures.slots
