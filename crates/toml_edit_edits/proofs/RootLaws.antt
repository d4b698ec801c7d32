-- The tree of a document whose root was changed.
use Rattle.std.proofs.Common.{◌≡◌, ◌∙◌, refl, sym, ap, subst, []}
use Rattle.std.specs.Prelude.{Result}
use Rattle.toml_edit_model.specs.Tree.{Raw, Node, nothing, leaf, list, inline, table, tables}
use Rattle.toml_edit_edit_laws.specs.Commands.{done, item_at, root_item}
use Rattle.toml_edit_tree.specs.Containers.{table_node}
use Rattle.toml_edit_tree.specs.View.{fields_view, table_slots, table_view}
use Rattle.toml_edit_tree.specs.declared.item.Item.TheVariants as items
use Rattle.toml_edit_tree.specs.declared.table.Table.{Table}
use Rattle.toml_edit_tree.proofs.ViewLaws.{view-Table}
use Rattle.toml_edit.specs.DocumentView.{tree_owned}
use Rattle.toml_edit.specs.Roots.{tree_at, tree_under}
use Rattle.toml_edit.specs.declared.document.DocumentMut.{DocumentMut}
use Rattle.toml_edit_edits.specs.Effects.{changed_at}
use Rattle.toml_edit_edits.specs.Outcomes.{Makes}
use Rattle.toml_edit_edits.specs.declared.fault.EditFault.{EditFault}
use Rattle.toml_edit_edits.proofs.OutcomeLaws.{changed-made}

trailing-at : (n : Node) (r : Raw) → (tree_at n r).trailing ≡ r
trailing-at nothing r = refl
trailing-at (leaf s r d) x = refl
trailing-at (list f xs) r = refl
trailing-at (inline f ss) r = refl
trailing-at (table f ss) r = refl
trailing-at (tables e xs) r = refl

pub root-made : (d : DocumentMut) (t w : Table) (go : Node → Result Node EditFault) (r : Result (Unit {0}) EditFault)
    → fields_view t ≡ (tree_owned d).root → table_slots t ≡ (tree_owned d).slots → fields_view w ≡ fields_view t
    → Makes (go (table_node (table_view t))) (table_node (table_view t)) (table_node (table_view w)) r
    → Makes (changed_at go [] (tree_owned d)) (tree_owned d) (tree_under (items.Table w) d.trailing) r
root-made d t w go r fields slots kept made =
    let old = tree_owned d in
    let was : table_node (table_view t) ≡ root_item old = ap (λ f. table f (table_slots t)) fields ∙ ap (table old.root) slots in
    let is : tree_under (items.Table w) d.trailing ≡ record old { slots = table_slots w } =
    ap (λ n. tree_at n d.trailing) (view-Table w)
    ∙ ap (λ f. record { root = f; slots = table_slots w; trailing = d.trailing }) (kept ∙ fields)
    ∙ ap (λ x. record { root = old.root; slots = table_slots w; trailing = x }) (sym (trailing-at _ d.trailing)) in
    changed-made go [] old (tree_under (items.Table w) d.trailing) (root_item old) (table_node (table_view w)) (item_at [] old) r refl refl
    (ap done (sym is)) (subst (λ n. Makes (go n) n (table_node (table_view w)) r) was made)
