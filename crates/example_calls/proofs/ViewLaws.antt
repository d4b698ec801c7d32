-- What items and values are seen as, and what is held in them.
use Rattle.std.proofs.Common.{◌≡◌, refl, ap, ◌∙◌, rules, true, Some}
use Rattle.toml_edit.specs.model.Conversions.{with_decor}
use Rattle.toml_edit.specs.model.Tree.{Decor, Raw, Node, nothing, leaf, list, inline, table, tables, is_value_node}
use Rattle.toml_edit.specs.tree.Casts.{decorated, decorated_open}
use Rattle.toml_edit.specs.tree.Containers.{TableView, table_in, table_node, value_in}
use Rattle.toml_edit.specs.tree.View.{item_view, table_view, tree_view, value_view}
use Rattle.toml_edit.specs.tree.declared.array.Array.{Array}
use Rattle.toml_edit.specs.tree.declared.array_of_tables.ArrayOfTables.{ArrayOfTables}
use Rattle.toml_edit.specs.tree.declared.inline_table.InlineTable.{InlineTable}
use Rattle.toml_edit.specs.tree.declared.item.Item.{Item, the_lemmas}
use Rattle.toml_edit.specs.tree.declared.item.Item.TheOpen.{Value-F}
use Rattle.toml_edit.specs.tree.declared.item.Item.TheVariants as items
use Rattle.toml_edit.specs.tree.declared.item.Item.TheViews.{roll-Value}
use Rattle.toml_edit.specs.tree.declared.table.Table.{Table}
use Rattle.toml_edit.specs.tree.declared.value.Value.{Value, out-Value}
use Rattle.toml_edit.specs.Roots.{tree_at, tree_under}

pub view-Value : (v : Value) → item_view (items.Value v) ≡ value_view v
view-Value v = search (rules, the_lemmas)

pub view-Table : (t : Table) → item_view (items.Table t) ≡ table_node (table_view t)
view-Table t = search (rules, the_lemmas)

-- another decor is seen as one
decorated-open : (d : Decor) (o : Value-F Item Value Array ArrayOfTables InlineTable Table) → value_view (decorated_open d o)
    ≡ with_decor d (value_view (roll-Value o))
decorated-open d (Value-F.String f) = search (rules, the_lemmas)
decorated-open d (Value-F.Integer f) = search (rules, the_lemmas)
decorated-open d (Value-F.Float f) = search (rules, the_lemmas)
decorated-open d (Value-F.Boolean f) = search (rules, the_lemmas)
decorated-open d (Value-F.Datetime f) = search (rules, the_lemmas)
decorated-open d (Value-F.Array a) = search (rules, the_lemmas)
decorated-open d (Value-F.InlineTable t) = search (rules, the_lemmas)

rolled : (v : Value) → roll-Value (out-Value v) ≡ v
rolled v = search (rules, the_lemmas)

pub decorated-view : (d : Decor) (v : Value) → value_view (decorated d v) ≡ with_decor d (value_view v)
decorated-view d v = decorated-open d (out-Value v) ∙ ap (λ w. with_decor d (value_view w)) (rolled v)

-- what is held is the item
pub value-held : (n m : Node) → Some m ≡ value_in n → (is_value_node n ≡ true) × (m ≡ n)
value-held (leaf s r d) m h = (refl, cc)
value-held (list f xs) m h = (refl, cc)
value-held (inline f ss) m h = (refl, cc)
value-held (table f ss) m h = absurd cc
value-held (tables e xs) m h = absurd cc
value-held nothing m h = absurd cc

pub table-held : (n : Node) (t : TableView) → Some t ≡ table_in n → n ≡ table_node t
table-held (table f ss) t h = ap table_node (let e : record { fields = f; slots = ss } ≡ t = cc in e)
table-held (leaf s r d) t h = absurd cc
table-held (list f xs) t h = absurd cc
table-held (inline f ss) t h = absurd cc
table-held (tables e xs) t h = absurd cc
table-held nothing t h = absurd cc

-- ---- the root of a document

pub trailing-at : (n : Node) (r : Raw) → (tree_at n r).trailing ≡ r
trailing-at nothing r = refl
trailing-at (leaf s x d) r = refl
trailing-at (list f xs) r = refl
trailing-at (inline f ss) r = refl
trailing-at (table f ss) r = refl
trailing-at (tables e xs) r = refl

pub root-tree : (w : Table) (r : Raw) → tree_under (items.Table w) r ≡ tree_view w r
root-tree w r = ap (λ n. tree_at n r) (view-Table w)
