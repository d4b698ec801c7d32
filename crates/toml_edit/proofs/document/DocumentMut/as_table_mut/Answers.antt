-- The root is a table, and ends as the last table after what is lent.
use Rattle.std.proofs.Common.{refl, rules, ap, sym, ◌∙◌}
use Rattle.toml_edit_model.specs.Tree.{Node}
use Rattle.toml_edit_tree.specs.View.{fields_view, item_view, table_slots}
use Rattle.toml_edit_tree.specs.declared.item.Item.{the_lemmas}
use Rattle.toml_edit.specs.Roots.{tree_at}
use Rattle.toml_edit.proofs.RootLaws.{same-parts, view-table}
use Rattle.toml_edit.proofs.document.DocumentMut.as_table_mut.Goals as goal

pub returns : goal.returns
returns c =
    let view = ap item_view c.in-Table.is ∙ view-table c.in-Table.table in (
      (refl, λ w. same-parts _ _ (rw c.in-Table.is (search (rules, the_lemmas))) refl refl refl),
      record {
        writes_back = tt;
        fields = ap fields_view c.in-Table.table-is ∙ sym (ap (λ (n : Node). (tree_at n c.args.self.now.trailing).root) view);
        slots = ap table_slots c.in-Table.table-is ∙ sym (ap (λ (n : Node). (tree_at n c.args.self.now.trailing).slots) view);
      },
    )
