-- The item that is the root of a document.
use denote.Struct.Props.{props}
use Rattle.std.proofs.Common.{◌≡◌, ap, refl, subst, ◌∙◌, Bool, true, rules}
use Rattle.toml_edit_repr.specs.declared.mode.Mode.{Mode}
use Rattle.toml_edit_model.specs.Tree.{Raw, Node, nothing, leaf, list, inline, table, tables}
use Rattle.toml_edit_tree.specs.View.{item_view, fields_view, table_slots, tree_view}
use Rattle.toml_edit_tree.specs.declared.item.Item.{Item, the_lemmas}
use Rattle.toml_edit_tree.specs.declared.item.Item.TheVariants as items
use Rattle.toml_edit_tree.specs.declared.table.Table.{Table}
use Rattle.toml_edit.specs.Roots.{is_table, tree_at, tree_under}
use Rattle.toml_edit.specs.declared.document.DocumentMut.{DocumentMut}
use Rattle.toml_edit_edit_laws.specs.Commands.{root_item}

-- what a table is seen as
pub view-table : (t : Table) → item_view (items.Table t) ≡ table (fields_view t) (table_slots t)
view-table t = search (rules, the_lemmas)

-- the tree under a table
pub tree-under : (x : Item) (t : Table) (r : Raw) → x ≡ items.Table t → tree_under x r ≡ tree_view t r
tree-under x t r e = ap (λ y. tree_under y r) e ∙ ap (λ n. tree_at n r) (view-table t)

-- ---- documents with the same parts are the same

one-proof : (x : Item) → IsProp (is_table x ≡ true)
one-proof x = hlevel props

module _ (m : Mode) (o : Bool) where
  abbrev document : (x : Item) (r : Raw) → is_table x ≡ true → DocumentMut
  document x r h = record { root = x; trailing = r; mode = m; open_end = o; rooted = h }

  same-root : (x y : Item) (r : Raw) (p : is_table x ≡ true) (q : is_table y ≡ true) → x ≡ y → document x r p ≡ document y r q
  same-root x y r p q e =
      subst (λ (z : Item). (h : is_table z ≡ true) → document x r p ≡ document z r h) e
      (λ h. ap (λ (g : is_table x ≡ true). document x r g) (one-proof x p h)) q

pub same-parts : (a b : DocumentMut) → a.root ≡ b.root → a.trailing ≡ b.trailing → a.mode ≡ b.mode → a.open_end ≡ b.open_end → a ≡ b
same-parts a b e f g h =
    same-root a.mode a.open_end a.root b.root a.trailing a.rooted b.rooted e
    ∙ ap (λ (r : Raw). document a.mode a.open_end b.root r b.rooted) f
    ∙ ap (λ (m : Mode). document m a.open_end b.root b.trailing b.rooted) g
    ∙ ap (λ (o : Bool). document b.mode o b.root b.trailing b.rooted) h

-- ---- what is after the root, and the root as a node

pub trailing-at : (n : Node) (r : Raw) → (tree_at n r).trailing ≡ r
trailing-at nothing r = refl
trailing-at (leaf s spelling d) r = refl
trailing-at (list f xs) r = refl
trailing-at (inline f ss) r = refl
trailing-at (table f ss) r = refl
trailing-at (tables e xs) r = refl

pub root-under : (t : Table) (r : Raw) → root_item (tree_under (items.Table t) r) ≡ table (fields_view t) (table_slots t)
root-under t r = ap (λ n. root_item (tree_at n r)) (view-table t)
