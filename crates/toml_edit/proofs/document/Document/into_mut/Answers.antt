-- A document that was read, in owned form.
use Rattle.std.proofs.Common.{refl, sym, ap, subst, ◌∙◌}
use Rattle.toml_edit_model.specs.Tree.{Tree, SlotsAreWellMade}
use Rattle.toml_edit_model.specs.OwnedForm.{DecorFits, RawFits, SlotsFit, owned_slots, owned_fields, owned_raw}
use Rattle.toml_edit_tree.specs.View.{tree_view}
use Rattle.toml_edit_tree.specs.declared.item.Item.TheVariants as items
use Rattle.toml_edit.specs.DocumentView.{mode_read, source, tree_read}
use Rattle.toml_edit.specs.Roots.{tree_under}
use Rattle.toml_edit.proofs.RootLaws.{tree-under}
use Rattle.toml_edit.proofs.OwnLaws.{over-root, over-slots, over-trailing, over-true, owned-parts, stays-tree}
use Rattle.toml_edit.proofs.document.Document.into_mut.Goals as goal

pub despan-requires-clause-decor : goal.despan-requires-clause-decor
despan-requires-clause-decor g c =
    let u = c.in_ok-source.source in
    subst (λ (x : Tree). DecorFits u x.root.decor) (tree-under c.args.self.root c.table_of-table.result c.args.self.trailing
    c.table_of-table.ensures)
    (over-root (source c.args.self) u (tree_read c.args.self) c.args.self.over c.in_ok-source.ensures)

pub despan-requires-clause-slots : goal.despan-requires-clause-slots
despan-requires-clause-slots g c =
    let u = c.in_ok-source.source in
    subst (λ (x : Tree). SlotsFit u x.slots) (tree-under c.args.self.root c.table_of-table.result c.args.self.trailing
    c.table_of-table.ensures)
    (over-slots (source c.args.self) u (tree_read c.args.self) c.args.self.over c.in_ok-source.ensures)

pub despan-requires-clause-spelled : goal.despan-requires-clause-spelled
despan-requires-clause-spelled g c =
    let u = c.in_ok-source.source in
    subst (λ (x : Tree). ∥ SlotsAreWellMade (owned_slots u x.slots) ∥₁)
    (tree-under c.args.self.root c.table_of-table.result c.args.self.trailing c.table_of-table.ensures)
    (over-true (source c.args.self) u (tree_read c.args.self) c.args.self.over c.in_ok-source.ensures)

pub despan-requires-2 : goal.despan-requires-2
despan-requires-2 g c =
    let u = c.in_ok-source.source in
    subst (λ (x : Tree). RawFits u x.trailing) (tree-under c.args.self.root c.table_of-table.result c.args.self.trailing
    c.table_of-table.ensures)
    (over-trailing (source c.args.self) u (tree_read c.args.self) c.args.self.over c.in_ok-source.ensures)

pub returns-clause-normal : goal.returns-clause-normal
returns-clause-normal g c =
    let u = c.in_ok-source.source in
    let read = tree_read c.args.self in
    let own = tree_view c.despan.new.self c.despan-2.new.self in
    let as_read = sym (tree-under c.args.self.root c.table_of-table.result c.args.self.trailing c.table_of-table.ensures) in
    let as_own = tree-under (items.Table c.despan.new.self) c.despan.new.self c.despan-2.new.self refl in
    let is_owned = owned-parts (source c.args.self) u read own c.in_ok-source.ensures
    (c.in_ok-despan.ensures.fields ∙ ap (λ (x : Tree). owned_fields u x.root) as_read)
    (c.in_ok-despan.ensures.slots ∙ ap (λ (x : Tree). owned_slots u x.slots) as_read)
    (c.in_ok-despan-2.ensures.ok ∙ ap (λ (x : Tree). owned_raw u x.trailing) as_read) in
    stays-tree (mode_read c.args.self) (source c.args.self) read (tree_under (items.Table c.despan.new.self) c.despan-2.new.self) (as_own
    ∙ is_owned)
