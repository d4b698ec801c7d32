-- `set_at_with_headers` does what `set_at` does where no table is missing.
use Rattle.std.proofs.Common.{◌≡◌, refl, sym, ◌∙◌, ap, subst, false, true, List, [], ◌∷◌, ◌++◌, Some}
use Rattle.toml_edit_model.specs.Keys.{names}
use Rattle.toml_edit_model.specs.Lists.{slot_list, slots_from, item_list, items_from}
use Rattle.toml_edit_model.specs.ArrayCalls.{written_at}
use Rattle.toml_edit_model.specs.Shown.{is_table_node}
use Rattle.toml_edit_model.specs.Slots.{lookup_slot, changed, with_item}
use Rattle.toml_edit_model.specs.Tree.{Key, TableFields, Node, nothing, leaf, list, inline, table, tables, Slots, Tree, is_value_node}
use Rattle.toml_edit_laws.specs.Locality.{root_visit}
use Rattle.toml_edit_laws.proofs.common.OptionSteps.{some-is}
use Rattle.toml_edit_edit_laws.specs.Commands.{Answer, mapped, child, child_changed, change_slot, change_element, element_of, item_below, root_item}
use Rattle.toml_edit_edit_laws.specs.Commands.{set_at, set_below, with_slots}
use Rattle.toml_edit_edit_laws.proofs.commands.Finding.{some-and, some-second}
use Rattle.toml_edit_edit_laws.proofs.commands.Going.{item-along}
use Rattle.toml_edit_edit_laws.proofs.commands.Keeping.{present-is}
use Rattle.toml_edit_edit_laws.specs.Headed.{set_at_with_headers, set_headed_below}
use Rattle.toml_edit_edit_laws.proofs.means.Meant.{shown-there}
use Rattle.toml_edit.specs.Edited.{MayBePut, at_value, in_block, after_lines}

-- two changes that do the same to the item that a key leads to
child-same : (k : Key) (f g : Node → Answer Node) (n a : Node) → child k.name n ≡ Some a → f a ≡ g a
    → child_changed true k f n ≡ child_changed true k g n
child-same k f g (table t ss) a h e =
    let p = present-is (lookup_slot k.name (slot_list ss)) a h in
    ap (λ o. mapped (λ xs. table t (slots_from xs)) (change_slot true k f (slot_list ss) o)) p.is
    ∙ ap (λ x. mapped (λ xs. table t (slots_from xs)) (mapped (λ m. changed k.name (with_item m) (slot_list ss)) x)) e
    ∙ sym (ap (λ o. mapped (λ xs. table t (slots_from xs)) (change_slot true k g (slot_list ss) o)) p.is)
child-same k f g (inline t ss) a h e =
    let p = present-is (lookup_slot k.name (slot_list ss)) a h in
    ap (λ o. mapped (λ xs. inline t (slots_from xs)) (change_slot true k f (slot_list ss) o)) p.is
    ∙ ap (λ x. mapped (λ xs. inline t (slots_from xs)) (mapped (λ m. changed k.name (with_item m) (slot_list ss)) x)) e
    ∙ sym (ap (λ o. mapped (λ xs. inline t (slots_from xs)) (change_slot true k g (slot_list ss) o)) p.is)
child-same k f g (list t xs) a h e =
    let y = some-second (element_of is_value_node k.name (item_list xs)) a h in
    ap (λ o. mapped (λ ns. list t (items_from ns)) (change_element f (item_list xs) o)) y.1
    ∙ ap (λ x. mapped (λ ns. list t (items_from ns)) (mapped (λ m. written_at y.0 m (item_list xs)) x)) e
    ∙ sym (ap (λ o. mapped (λ ns. list t (items_from ns)) (change_element g (item_list xs) o)) y.1)
child-same k f g (tables t xs) a h e =
    let y = some-second (element_of is_table_node k.name (item_list xs)) a h in
    ap (λ o. mapped (λ ns. tables t (items_from ns)) (change_element f (item_list xs) o)) y.1
    ∙ ap (λ x. mapped (λ ns. tables t (items_from ns)) (mapped (λ m. written_at y.0 m (item_list xs)) x)) e
    ∙ sym (ap (λ o. mapped (λ ns. tables t (items_from ns)) (change_element g (item_list xs) o)) y.1)
child-same k f g (leaf s r d) a h e = absurd cc
child-same k f g nothing a h e = absurd cc

-- where the path leads to an item
same-there : (v : Node) (path : List Key) (n old : Node) → item_below (names path) n ≡ Some old
    → set_headed_below v path n ≡ set_below v path n
same-there v [] n old h = refl
same-there v (k ∷ path) (table f ss) old h =
    let a = some-and (item_below (names path)) (child k.name (table f ss)) old h in
    child-same k (set_headed_below v path) (set_below v path) (table f ss) a.0 a.1 (same-there v path a.0 old a.2)
same-there v (k ∷ path) (tables e xs) old h =
    let a = some-and (item_below (names path)) (child k.name (tables e xs)) old h in
    child-same k (set_headed_below v path) (set_below v path) (tables e xs) a.0 a.1 (same-there v path a.0 old a.2)
same-there v (k ∷ path) (inline f ss) old h = refl
same-there v (k ∷ path) (list f xs) old h = refl
same-there v (k ∷ path) (leaf s r d) old h = refl
same-there v (k ∷ path) nothing old h = absurd cc

-- where all of it but the last key leads to a table
same-above : (v : Node) (front : List Key) (k : Key) (n : Node) (f : TableFields) (ss : Slots)
    → item_below (names front) n ≡ Some (table f ss)
    → set_headed_below v (front ++ (k ∷ [])) n ≡ set_below v (front ++ (k ∷ [])) n
same-above v [] k n f ss h =
    subst (λ m. set_headed_below v (k ∷ []) m ≡ set_below v (k ∷ []) m) (sym (some-is n (table f ss) h)) refl
same-above v (j ∷ front) k (table g ys) f ss h =
    let a = some-and (item_below (names front)) (child j.name (table g ys)) (table f ss) h in
    child-same j (set_headed_below v (front ++ (k ∷ []))) (set_below v (front ++ (k ∷ []))) (table g ys) a.0 a.1
    (same-above v front k a.0 f ss a.2)
same-above v (j ∷ front) k (tables e xs) f ss h =
    let a = some-and (item_below (names front)) (child j.name (tables e xs)) (table f ss) h in
    child-same j (set_headed_below v (front ++ (k ∷ []))) (set_below v (front ++ (k ∷ []))) (tables e xs) a.0 a.1
    (same-above v front k a.0 f ss a.2)
same-above v (j ∷ front) k (inline g ys) f ss h = refl
same-above v (j ∷ front) k (list g xs) f ss h = refl
same-above v (j ∷ front) k (leaf s r d) f ss h = refl
same-above v (j ∷ front) k nothing f ss h = absurd cc

module _ (t : Tree) (v : Node) where
  above : (path front : List Key) (k : Key) → path ≡ front ++ (k ∷ []) → (f : TableFields) (ss : Slots)
      → item_below (names front) (root_item t) ≡ Some (table f ss) → set_at_with_headers path v t ≡ set_at path v t
  above path front k is f ss h =
      ap (λ q. mapped (with_slots t) (set_headed_below v q (root_item t))) is
      ∙ ap (mapped (with_slots t)) (same-above v front k (root_item t) f ss h)
      ∙ sym (ap (λ q. mapped (with_slots t) (set_below v q (root_item t))) is)

  pub headers-not-made : (path : List Key) → MayBePut t path → set_at_with_headers path v t ≡ set_at path v t
  headers-not-made path (at_value old there value) =
      ap (mapped (with_slots t)) (same-there v path (root_item t) old (shown-there (names path) false (root_item t) old there))
  headers-not-made path (in_block front k w is spelled named new has) =
      above path front k is w.fields w.slots (item-along named.way (names front) (root_visit t) w named.goes named.leads)
  headers-not-made path (after_lines front k w is spelled named new some) =
      above path front k is w.fields w.slots (item-along named.way (names front) (root_visit t) w named.goes named.leads)
