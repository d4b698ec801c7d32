-- The item of a key in the root, which may be new.
use Rattle.std.proofs.Common.{◌≡◌, true, List, [], ◌∷◌, Some, refl, sym, ap, subst, ◌∙◌, inl, inr}
use Rattle.std.proofs.lemmas.Bool.{cases_Bool, false≢true}
use Rattle.std.specs.Option.{IsSome}
use Rattle.std.specs.Prelude.{IfOk, OnErr, Result, Ok, Err}
use Rattle.toml_edit_model.specs.Lists.{slot_list}
use Rattle.toml_edit_model.specs.Slots.{Slot, has_slot, is_at, lookup}
use Rattle.toml_edit_model.specs.Text.{Text}
use Rattle.toml_edit_model.specs.Tree.{Node, Raw, Slots, TableFields, Tree, table}
use Rattle.toml_edit_tree.specs.Indexed.{item_put, lent_under, written_under}
use Rattle.toml_edit_tree.specs.View.{fields_view, item_view, table_slots}
use Rattle.toml_edit_tree.specs.declared.item.Item.TheVariants as items
use Rattle.toml_edit_tree.specs.declared.table.Table.{Table}
use Rattle.toml_edit.specs.DocumentView.{tree_owned}
use Rattle.toml_edit.specs.declared.document.DocumentMut.{DocumentMut}
use Rattle.toml_edit.proofs.RootLaws.{root-under, trailing-at, tree-under}
use Rattle.toml_edit.proofs.document.DocumentMut.index_or_insert.Goals as goal
use Rattle.toml_edit_edit_laws.specs.Commands.{root_item}

on_err : {A E : Type 0} {P : Type 0} (r : Result A E) → P → OnErr r P
on_err (Ok x) p = tt
on_err (Err e) p = p

has-found : (k : Text) (es : List (Slot Node)) → IsSome (lookup k es) → has_slot k es ≡ true
has-found k [] h = absurd (false≢true h)
has-found k (s ∷ es) h =
    elim (cases_Bool (is_at k s)) [
      | inl same ↦ rw same refl
      | inr other ↦ rw other (has-found k es (rw other at h))
    ]

abbrev tree : TableFields → Slots → Raw → Tree
tree f ss r = record { root = f; slots = ss; trailing = r }

-- the root of a document, by the table that it lends
module _ (d : DocumentMut) (t : Table) (f : fields_view t ≡ (tree_owned d).root) (s : table_slots t ≡ (tree_owned d).slots) where
  root-is : root_item (tree_owned d) ≡ table (fields_view t) (table_slots t)
  root-is = ap (λ g. table g (tree_owned d).slots) (sym f) ∙ ap (table (fields_view t)) (sym s)

  stays : tree (fields_view t) (table_slots t) d.trailing ≡ tree_owned d
  stays =
      ap (λ g. tree g (table_slots t) d.trailing) f ∙ ap (λ ss. tree (tree_owned d).root ss d.trailing) s
      ∙ ap (tree (tree_owned d).root (tree_owned d).slots) (sym (trailing-at (item_view d.root) d.trailing))

pub returns : goal.returns
returns c =
    let d = c.args.self.now in
    let t = c.as_table_mut.result.now in
    let k = c.args.key.now in
    let r = c.index_or_insert.result in
    let f = c.as_table_mut.ensures.fields in
    let s = c.as_table_mut.ensures.slots in (
      (
        refl,
        λ w _. (
          ap (written_under k (item_view w)) (root-is d t f s) ∙ c.index_or_insert.ensures.leaves w
              ∙ ap Some (sym (root-under (item_put k w t) d.trailing)),
          trailing-at (item_view (items.Table (item_put k w t))) d.trailing ∙ sym (trailing-at (item_view d.root) d.trailing),
          (refl, refl),
        ),
        on_err r (tree-under (items.Table t) t d.trailing refl ∙ stays d t f s, (refl, refl)),
      ),
      (
        subst (λ n. IfOk r (λ lent. lent_under k n ≡ Some (item_view lent.now))) (sym (root-is d t f s)) c.index_or_insert.ensures.item,
        (
          λ h. c.index_or_insert.ensures.present (ap (λ ss. has_slot k (slot_list ss)) s ∙ has-found k (slot_list (tree_owned d).slots) h),
          c.index_or_insert.ensures.fault,
        ),
      ),
    )
