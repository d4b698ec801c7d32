-- The tree of a document whose root was changed.
use Rattle.std.proofs.Common.{◌≡◌, refl, sym, ap, ◌∙◌, rules, ℕ, Bool, true, false, List, [], ◌∷◌, Option, Some, None, Result, Ok, Err}
use Rattle.toml_edit_model.specs.Text.{Text}
use Rattle.toml_edit_model.specs.Keys.{new_key}
use Rattle.toml_edit_model.specs.Tree.{Key, Raw, Node, nothing, leaf, list, inline, table, tables, TableFields, Slots, Tree}
use Rattle.toml_edit_model.specs.Slots.{Slot, lookup_slot}
use Rattle.toml_edit_model.specs.Lists.{slot_list, slots_from}
use Rattle.toml_edit_edit_laws.specs.Commands.{Answer, Refusal, done, refused, no_such_path, wrong_kind, taken, mapped, root_slots, root_item}
use Rattle.toml_edit_edit_laws.specs.Commands.{with_slots, change_slot, drop_slot, present, set_below, set_at, remove_below, remove_at}
use Rattle.toml_edit_edit_laws.specs.KeyCalls.{key_changed, move_at, moved_where, rename_at, renamed_where}
use Rattle.toml_edit_edit_laws.proofs.commands.Setting.{was-mapped}
use Rattle.toml_edit_tree.specs.View.{fields_view, item_view, table_slots, tree_view}
use Rattle.toml_edit_tree.specs.declared.item.Item.{the_lemmas}
use Rattle.toml_edit_tree.specs.declared.item.Item.TheVariants as items
use Rattle.toml_edit_tree.specs.declared.table.Table.{Table}
use Rattle.toml_edit_paths.specs.Calls.{Change, ChangesFound, TakesFound, item_inside, replaced_at, replaced_below}
use Rattle.toml_edit_slots.specs.declared.slots.rearrange.Renamed.{Renamed}
use Rattle.toml_edit_slots.specs.declared.slots.rearrange.Renamed.TheVariants.{Done, Absent, Taken}
use Rattle.toml_edit_paths.specs.Changes.{Changes, Moves, Renames}
use Rattle.toml_edit_edit_laws.specs.Headed.{set_at_with_headers, set_headed_below}
use Rattle.toml_edit_paths.specs.Lines.{remove_line_at, remove_line_below}
use Rattle.toml_edit_paths.specs.declared.fault.ChangeFault.{ChangeFault}
use Rattle.toml_edit_paths.specs.declared.fault.ChangeFault.TheVariants.{NoSuchPath, WrongKind, Memory}
use Rattle.toml_edit.specs.DocumentView.{tree_owned}
use Rattle.toml_edit.specs.Roots.{tree_at, tree_under}
use Rattle.toml_edit.specs.declared.document.DocumentMut.{DocumentMut}

abbrev fields-of : TableFields → Node → TableFields
fields-of f (table g ss) = g
fields-of f nothing = f
fields-of f (leaf s r d) = f
fields-of f (list g xs) = f
fields-of f (inline g ss) = f
fields-of f (tables e xs) = f

abbrev tree : TableFields → Slots → Raw → Tree
tree f ss r = record { root = f; slots = ss; trailing = r }

-- a root of which only the slots change
module _ (t u : Tree) (trailing : u.trailing ≡ t.trailing) where
  slots-change : (a : Answer (List (Slot Node))) → mapped (λ xs. table t.root (slots_from xs)) a ≡ done (root_item u)
      → with_slots t (root_item u) ≡ u
  slots-change a h =
      ap (λ f. tree f u.slots t.trailing) (sym (ap (fields-of u.root)
      (was-mapped (λ xs. table t.root (slots_from xs)) a (root_item u) h).gives))
      ∙ ap (tree u.root u.slots) (sym trailing)

  pub set-done : (path : List Key) (v : Node) → set_below v path (root_item t) ≡ done (root_item u) → set_at path v t ≡ done u
  set-done [] v h = cc
  set-done (k ∷ path) v h =
      ap (mapped (with_slots t)) h
      ∙ ap done (slots-change (change_slot true k (set_below v path) (slot_list t.slots) (lookup_slot k.name (slot_list t.slots))) h)

  pub headers-done : (path : List Key) (v : Node) → set_headed_below v path (root_item t) ≡ done (root_item u)
      → set_at_with_headers path v t ≡ done u
  headers-done [] v h = cc
  headers-done (k ∷ path) v h =
      ap (mapped (with_slots t)) h
      ∙ ap done
      (slots-change (change_slot true k (set_headed_below v path) (slot_list t.slots) (lookup_slot k.name (slot_list t.slots))) h)

  pub replaced-done : (path : List Text) (m n : Node) → item_inside path (root_item t) ≡ Some n → replaced_below path m (root_item t)
      ≡ done (root_item u) → replaced_at path m t ≡ done u
  replaced-done [] m n there h = absurd cc
  replaced-done (k ∷ path) m n there h =
      ap (mapped (with_slots t)) h
      ∙ ap done
      (slots-change (change_slot false (new_key k) (replaced_below path m) (slot_list t.slots) (lookup_slot k (slot_list t.slots))) h)

  pub remove-done : (path : List Text) → remove_below path (root_item t) ≡ done (root_item u) → remove_at path t ≡ done u
  remove-done [] h = cc
  remove-done (k ∷ []) h =
      ap (mapped (with_slots t)) h ∙ ap done (slots-change (drop_slot k (slot_list t.slots) (present (lookup_slot k (slot_list t.slots))))
      h)
  remove-done (k ∷ l ∷ path) h =
      ap (mapped (with_slots t)) h
      ∙ ap done
      (slots-change (change_slot false (new_key k) (remove_below (l ∷ path)) (slot_list t.slots) (lookup_slot k (slot_list t.slots))) h)

  pub key-done : (g : Text → List (Slot Node) → Answer (List (Slot Node))) (path : List Text)
      → key_changed g path (root_item t) ≡ done (root_item u) → mapped (with_slots t) (key_changed g path (root_item t)) ≡ done u
  key-done g [] h = absurd cc
  key-done g (k ∷ []) h = ap (mapped (with_slots t)) h ∙ ap done (slots-change (g k (slot_list t.slots)) h)
  key-done g (k ∷ l ∷ path) h =
      ap (mapped (with_slots t)) h
      ∙ ap done
      (slots-change (change_slot false (new_key k) (key_changed g (l ∷ path)) (slot_list t.slots) (lookup_slot k (slot_list t.slots))) h)

  pub remove-line-done : (path : List Text) → remove_line_below path (root_item t) ≡ done (root_item u) → remove_line_at path t ≡ done u
  remove-line-done [] h = cc
  remove-line-done (k ∷ []) h =
      ap (mapped (with_slots t)) h ∙ ap done (slots-change (drop_slot k (slot_list t.slots) (present (lookup_slot k (slot_list t.slots))))
      h)
  remove-line-done (k ∷ l ∷ path) h =
      ap (mapped (with_slots t)) h
      ∙ ap done
      (slots-change (change_slot false (new_key k) (remove_line_below (l ∷ path)) (slot_list t.slots) (lookup_slot k (slot_list t.slots))) h)

-- ---- the root that a document lends

view-table : (t : Table) → item_view (items.Table t) ≡ table (fields_view t) (table_slots t)
view-table t = search (rules, the_lemmas)

trailing-at : (n : Node) (r : Raw) → (tree_at n r).trailing ≡ r
trailing-at nothing r = refl
trailing-at (leaf s r d) x = refl
trailing-at (list f xs) r = refl
trailing-at (inline f ss) r = refl
trailing-at (table f ss) r = refl
trailing-at (tables e xs) r = refl

abbrev node_of : Table → Node
node_of t = table (fields_view t) (table_slots t)

-- a document whose root is this table first, and then that one
module _ (d : DocumentMut) (t w : Table) (fields : fields_view t ≡ (tree_owned d).root) (slots : table_slots t ≡ (tree_owned d).slots) where
  was : node_of t ≡ root_item (tree_owned d)
  was = ap (λ f. table f (table_slots t)) fields ∙ ap (table (tree_owned d).root) slots

  is : tree_view w d.trailing ≡ tree_under (items.Table w) d.trailing
  is = ap (λ n. tree_at n d.trailing) (sym (view-table w))

  stays : node_of w ≡ node_of t → tree_under (items.Table w) d.trailing ≡ tree_owned d
  stays h =
      sym is ∙ ap (λ n. tree (fields-of (fields_view w) n) (root_slots n) d.trailing) (h ∙ was)
      ∙ ap (tree (tree_owned d).root (tree_owned d).slots) (sym (trailing-at (item_view d.root) d.trailing))

  -- what is done to the root's node is done to the tree
  changed : (r : Result (Unit {0}) ChangeFault) (meant : Answer Node) (seen : Answer Tree)
      → (meant ≡ done (node_of w) → seen ≡ done (tree_under (items.Table w) d.trailing))
      → ((q : Refusal) → meant ≡ refused q → seen ≡ refused q)
      → Changes meant (node_of t) (node_of w) r → Changes seen (tree_owned d) (tree_under (items.Table w) d.trailing) r
  changed (Ok u) meant seen is_done is_refused h = is_done h
  changed (Err NoSuchPath) meant seen is_done is_refused h = (is_refused no_such_path h.0, stays h.1)
  changed (Err WrongKind) meant seen is_done is_refused h = (is_refused wrong_kind h.0, stays h.1)
  changed (Err Memory) meant seen is_done is_refused h = stays h

  pub set-root : (path : List Key) (v : Node) (r : Result (Unit {0}) ChangeFault)
      → Changes (set_below v path (node_of t)) (node_of t) (node_of w) r
      → Changes (set_at path v (tree_owned d)) (tree_owned d) (tree_under (items.Table w) d.trailing) r
  set-root path v r =
      changed r (set_below v path (node_of t)) (set_at path v (tree_owned d))
      (λ h. set-done (tree_owned d) (tree_view w d.trailing) (sym (trailing-at (item_view d.root) d.trailing)) path v
      (ap (set_below v path) (sym was) ∙ h)
      ∙ ap done is)
      (λ q h. ap (mapped (with_slots (tree_owned d))) (ap (set_below v path) (sym was) ∙ h))

  pub remove-root : (path : List Text) (r : Result (Unit {0}) ChangeFault)
      → Changes (remove_below path (node_of t)) (node_of t) (node_of w) r
      → Changes (remove_at path (tree_owned d)) (tree_owned d) (tree_under (items.Table w) d.trailing) r
  remove-root path r =
      changed r (remove_below path (node_of t)) (remove_at path (tree_owned d))
      (λ h. remove-done (tree_owned d) (tree_view w d.trailing) (sym (trailing-at (item_view d.root) d.trailing)) path
      (ap (remove_below path) (sym was) ∙ h)
      ∙ ap done is)
      (λ q h. ap (mapped (with_slots (tree_owned d))) (ap (remove_below path) (sym was) ∙ h))

  pub remove-line-root : (path : List Text) (r : Result (Unit {0}) ChangeFault)
      → Changes (remove_line_below path (node_of t)) (node_of t) (node_of w) r
      → Changes (remove_line_at path (tree_owned d)) (tree_owned d) (tree_under (items.Table w) d.trailing) r
  remove-line-root path r =
      changed r (remove_line_below path (node_of t)) (remove_line_at path (tree_owned d))
      (λ h. remove-line-done (tree_owned d) (tree_view w d.trailing) (sym (trailing-at (item_view d.root) d.trailing)) path
      (ap (remove_line_below path) (sym was) ∙ h)
      ∙ ap done is)
      (λ q h. ap (mapped (with_slots (tree_owned d))) (ap (remove_line_below path) (sym was) ∙ h))

  module _ (g : Text → List (Slot Node) → Answer (List (Slot Node))) (path : List Text) where
    key-root-done : key_changed g path (node_of t) ≡ done (node_of w)
        → mapped (with_slots (tree_owned d)) (key_changed g path (root_item (tree_owned d))) ≡ done (tree_under (items.Table w) d.trailing)
    key-root-done h =
        key-done (tree_owned d) (tree_view w d.trailing) (sym (trailing-at (item_view d.root) d.trailing)) g path
        (ap (key_changed g path) (sym was) ∙ h)
        ∙ ap done is

    key-root-refused : (q : Refusal) → key_changed g path (node_of t) ≡ refused q
        → mapped (with_slots (tree_owned d)) (key_changed g path (root_item (tree_owned d))) ≡ refused q
    key-root-refused q h = ap (mapped (with_slots (tree_owned d))) (ap (key_changed g path) (sym was) ∙ h)

  pub rename-root : {E : Type 0} (path : List Text) (u : Text) (r : Result Renamed E)
      → Renames (key_changed (renamed_where u) path (node_of t)) (node_of t) (node_of w) r
      → Renames (rename_at path u (tree_owned d)) (tree_owned d) (tree_under (items.Table w) d.trailing) r
  rename-root path u (Ok Done) h = key-root-done (renamed_where u) path h
  rename-root path u (Ok Absent) h = (key-root-refused (renamed_where u) path no_such_path h.0, stays h.1)
  rename-root path u (Ok Taken) h = (key-root-refused (renamed_where u) path taken h.0, stays h.1)
  rename-root path u (Err e) h = stays h

  pub move-root : (path : List Text) (i : ℕ) (b : Bool) → Moves (key_changed (moved_where i) path (node_of t)) (node_of t) (node_of w) b
      → Moves (move_at path i (tree_owned d)) (tree_owned d) (tree_under (items.Table w) d.trailing) b
  move-root path i true h = key-root-done (moved_where i) path h
  move-root path i false h = (key-root-refused (moved_where i) path no_such_path h.0, stays h.1)

  pub headers-root : (path : List Key) (v : Node) (r : Result (Unit {0}) ChangeFault)
      → Changes (set_headed_below v path (node_of t)) (node_of t) (node_of w) r
      → Changes (set_at_with_headers path v (tree_owned d)) (tree_owned d) (tree_under (items.Table w) d.trailing) r
  headers-root path v r =
      changed r (set_headed_below v path (node_of t)) (set_at_with_headers path v (tree_owned d))
      (λ h. headers-done (tree_owned d) (tree_view w d.trailing) (sym (trailing-at (item_view d.root) d.trailing)) path v
      (ap (set_headed_below v path) (sym was) ∙ h)
      ∙ ap done is)
      (λ q h. ap (mapped (with_slots (tree_owned d))) (ap (set_headed_below v path) (sym was) ∙ h))

  -- a closure that may be called on an item below it may be called there
  pub change-takes : {F R : Type 0} (g : Change F R) (f : F) (path : List Text)
      → TakesFound g f (item_inside path (root_item (tree_owned d)))
      → TakesFound g f (item_inside path (node_of t))
  change-takes g f path h = λ item is. h item (ap (item_inside path) (sym was) ∙ is)

  -- and so is what a closure does to an item below it
  pub change-root : {F R : Type 0} (g : Change F R) (f : F) (path : List Text) (r : Option R)
      → ChangesFound g f (item_inside path (node_of t)) (λ left. replaced_below path left (node_of t)) (node_of t) (node_of w) r
      → ChangesFound g f (item_inside path (root_item (tree_owned d))) (λ left. replaced_at path left (tree_owned d)) (tree_owned d)
      (tree_under (items.Table w) d.trailing) r
  change-root g f path None h = (ap (item_inside path) (sym was) ∙ h.0, stays h.1)
  change-root g f path (Some r) h =
      let found : item_inside path (root_item (tree_owned d)) ≡ Some (item_view h.item) = ap (item_inside path) (sym was) ∙ h.found_it in
      record {
        item = h.item;
        left = h.left;
        found_it = found;
        returned = h.returned;
        put_back = replaced-done (tree_owned d) (tree_view w d.trailing) (sym (trailing-at (item_view d.root) d.trailing)) path
            (item_view h.left) (item_view h.item) found
            (ap (replaced_below path (item_view h.left)) (sym was) ∙ h.put_back)
            ∙ ap done is;
        unchanged = λ same. stays (h.unchanged same);
      }
