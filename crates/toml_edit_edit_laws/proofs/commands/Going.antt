-- A command that goes a path from table to table changes the slots of the table that it comes to, and nothing else.
use Rattle.std.proofs.Common.{◌≡◌, refl, sym, ◌∙◌, ap, subst, ℕ, Bool, true, false, List, [], ◌∷◌, ◌++◌, length, map, Some}
use Rattle.std.specs.Prelude.{slice_get}
use Rattle.toml_edit_model.specs.Text.{Text}
use Rattle.toml_edit_model.specs.Paths.{to_key, to_element}
use Rattle.toml_edit_model.specs.Tree.{Key, Extent, TableFields, Node, table, tables, Items, Slots, ItemsAreWellMade, SlotsAreWellMade, Tree}
use Rattle.toml_edit_model.specs.HeaderOrder.{Visit, visit_of}
use Rattle.toml_edit_model.specs.Keys.{new_key}
use Rattle.toml_edit_model.specs.Slots.{Slot, keyed, on_item, with_item, changed_at, lookup_slot, changed}
use Rattle.toml_edit_model.specs.Lists.{slot_list, slots_from, item_list, items_from, on_slots, on_items}
use Rattle.toml_edit_model.specs.ArrayCalls.{written_at}
use Rattle.toml_edit_model.specs.Shown.{is_table_node}
use Rattle.toml_edit_laws.proofs.locality.Slots.{slots_under, items_under}
use Rattle.toml_edit_laws.specs.Locality.{Turn, into_table, into_element, Leads, along, element_count}
use Rattle.toml_edit_edit_laws.specs.Commands.{Answer, done, mapped, number_of, kept_item, at_number, element_of, change_slot, change_element}
use Rattle.toml_edit_edit_laws.specs.Commands.{and_then, child_changed, item_below, present, second}
use Rattle.toml_edit_edit_laws.specs.CommandLaws.{Goes, NamesTable}
use Rattle.toml_edit_laws.proofs.locality.Slots.{items_from-list, Found, found, change-item}
use Rattle.toml_edit_laws.proofs.locality.Elements.{item-made}

-- two changes that do the same to the slot of a key
pub changed-same : (k : Text) (f g : Slot Node → Slot Node) (ss : Slots) (s : Slot Node) → SlotsAreWellMade ss
    → lookup_slot k (slot_list ss) ≡ Some s → f s ≡ g s
    → changed k f (slot_list ss) ≡ changed k g (slot_list ss)
changed-same k f g ss s w h e =
    let fd : Found k s (slot_list ss) = found k ss s w h in
    fd.change f ∙ ap (λ x. fd.front ++ (x ∷ fd.back)) e ∙ sym (fd.change g)

pub item-there : (before : List Node) (n : Node) (after : List Node) (i : ℕ) → length before ≡ i → slice_get (before ++ (n ∷ after)) i
    ≡ Some n
item-there [] n after i h = rw (← h) refl
item-there (m ∷ before) n after i h = rw (← h) (item-there before n after (length before) refl)

-- the element that a text names
pub element-there : (is : Node → Bool) (x : Text) (i : ℕ) (xs before : List Node) (n : Node) (after : List Node) → number_of x ≡ Some i
    → xs ≡ before ++ (n ∷ after) → length before ≡ i → is n ≡ true → element_of is x xs ≡ Some (i, n)
element-there is x i xs before n after number items place kind =
    ap (at_number is xs) number ∙ ap (λ ys. kept_item is i (slice_get ys i)) items ∙ ap (kept_item is i) (item-there before n after i place)
    ∙ rw kind refl

-- the names of keys that are made of texts
pub made-names : (path : List Text) → map (λ k. (new_key k).name) path ≡ path
made-names [] = refl
made-names (k ∷ path) = ap (λ ks. k ∷ ks) (made-names path)

pub made-goes : (way : List Turn) (path : List Text) → Goes way path → Goes way (map (λ k. (new_key k).name) path)
made-goes way path h = subst (Goes way) (sym (made-names path)) h

pub made-named : (t : Tree) (path : List Text) (v : Visit) → NamesTable t path v
    → NamesTable t (map (λ k. (new_key k).name) path) v
made-named t path v h = subst (λ p. NamesTable t p v) (sym (made-names path)) h

-- the table at the end of a way is the item at its path
pub item-along : (way : List Turn) (path : List Text) (s w : Visit) → Goes way path → Leads way s w
    → item_below path (table s.fields s.slots) ≡ Some (table w.fields w.slots)
item-along [] [] s w goes leads = ap (λ (v : Visit). Some (table v.fields v.slots)) leads
item-along [] (j ∷ path) s w goes leads = absurd goes
item-along (into_table k ∷ way) [] s w goes leads = absurd goes
item-along (into_table k ∷ way) (j ∷ path) s w goes (l, f, ss, eq, leads) =
    ap (λ o. and_then (item_below path) (present o)) (ap (λ x. lookup_slot x (slot_list s.slots)) goes.0 ∙ eq)
    ∙ item-along way path (visit_of (to_key s.path l.name) (s.keys ++ (l ∷ [])) false f ss) w goes.1 leads
item-along (into_element k i ∷ way) [] s w goes leads = absurd goes
item-along (into_element k i ∷ way) (j ∷ []) s w goes leads = absurd goes
item-along (into_element k i ∷ way) (j ∷ x ∷ path) s w goes (l, e, xs, before, f, ss, after, eq, items, place, leads) =
    ap (λ o. and_then (item_below (x ∷ path)) (present o)) (ap (λ y. lookup_slot y (slot_list s.slots)) goes.0 ∙ eq)
    ∙ ap (λ o. and_then (item_below path) (second o)) (element-there is_table_node x i (item_list xs) before (table f ss) after goes.1 items place refl)
    ∙ item-along way path (visit_of (to_element (to_key s.path l.name) (element_count before)) (s.keys ++ (l ∷ [])) true f ss) w goes.2 leads

-- A family of commands that go down alike from tables and arrays of tables, as long as the path is longer.
module _ {A : Type 0} (key_of : A → Key) (makes : Bool) (run : List A → Node → Answer Node) (rest : List A)
    (in_table : (k : A) (path : List A) (f : TableFields) (ss : Slots) → run (k ∷ (path ++ rest)) (table f ss)
    ≡ child_changed makes (key_of k) (run (path ++ rest)) (table f ss))
    (in_tables : (k : A) (path : List A) (e : Extent) (xs : Items) → run (k ∷ (path ++ rest)) (tables e xs)
    ≡ child_changed makes (key_of k) (run (path ++ rest)) (tables e xs))
    (g : List (Slot Node) → List (Slot Node)) where
  pub goes-down-tables : (way : List Turn) (path : List A) (s w : Visit) → SlotsAreWellMade s.slots
      → Goes way (map (λ k. (key_of k).name) path) → Leads way s w
      → run rest (table w.fields w.slots) ≡ done (table w.fields (slots_under g w.slots))
      → run (path ++ rest) (table s.fields s.slots) ≡ done (table s.fields (slots_under (along way g) s.slots))
  goes-down-tables [] [] s w made goes leads there =
      subst (λ (x : Visit). run rest (table x.fields x.slots) ≡ done (table x.fields (slots_under g x.slots))) (sym leads) there
  goes-down-tables [] (j ∷ path) s w made goes leads there = absurd goes
  goes-down-tables (into_table k ∷ way) [] s w made goes leads there = absurd goes
  goes-down-tables (into_table k ∷ way) (j ∷ path) s w made goes (l, f, ss, eq, leads) there =
      let v : Visit = visit_of (to_key s.path l.name) (s.keys ++ (l ∷ [])) false f ss in
      let ih : run (path ++ rest) (table f ss) ≡ done (table f (slots_under (along way g) ss)) =
      goes-down-tables way path v w (found k s.slots (keyed l (table f ss)) made eq).made goes.1 leads there in
      let at : lookup_slot (key_of j).name (slot_list s.slots) ≡ Some (keyed l (table f ss)) = ap (λ x. lookup_slot x (slot_list s.slots)) goes.0 ∙ eq in
      in_table j path s.fields s.slots
      ∙ ap (λ o. mapped (λ xs. table s.fields (slots_from xs)) (change_slot makes (key_of j) (run (path ++ rest)) (slot_list s.slots) o)) at
      ∙ ap (λ a. mapped (λ xs. table s.fields (slots_from xs)) (mapped (λ m. changed (key_of j).name (with_item m) (slot_list s.slots)) a)) ih
      ∙ ap (λ xs. done (table s.fields (slots_from xs)))
      (changed-same (key_of j).name (with_item (table f (slots_under (along way g) ss))) (on_item (on_slots (along way g))) s.slots (keyed l (table f ss))
      made at refl
      ∙ ap (λ y. changed y (on_item (on_slots (along way g))) (slot_list s.slots)) goes.0)
  goes-down-tables (into_element k i ∷ way) [] s w made goes leads there = absurd goes
  goes-down-tables (into_element k i ∷ way) (j ∷ []) s w made goes leads there = absurd goes
  goes-down-tables (into_element k i ∷ way) (j ∷ x ∷ path) s w made goes (l, e, xs, before, f, ss, after, eq, items, place, leads) there =
      let v : Visit = visit_of (to_element (to_key s.path l.name) (element_count before)) (s.keys ++ (l ∷ [])) true f ss in
      let us : Slots = slots_under (along way g) ss in
      let all : ItemsAreWellMade (items_from (before ++ (table f ss ∷ after))) =
      subst ItemsAreWellMade (sym (items_from-list xs) ∙ ap items_from items) (found k s.slots (keyed l (tables e xs)) made eq).made in
      let inner : SlotsAreWellMade ss = item-made before (table f ss) after all in
      let ih : run (path ++ rest) (table f ss) ≡ done (table f us) = goes-down-tables way path v w inner goes.2 leads there in
      let at : lookup_slot (key_of j).name (slot_list s.slots) ≡ Some (keyed l (tables e xs)) = ap (λ y. lookup_slot y (slot_list s.slots)) goes.0 ∙ eq in
      let element : element_of is_table_node (key_of x).name (item_list xs) ≡ Some (i, table f ss) =
      element-there is_table_node (key_of x).name i (item_list xs) before (table f ss) after goes.1 items place refl in
      let swapped : written_at i (table f us) (item_list xs) ≡ changed_at i (on_slots (along way g)) (item_list xs) =
      ap (written_at i (table f us)) items ∙ change-item before (table f ss) after i (λ old. table f us) place
      ∙ sym (ap (changed_at i (on_slots (along way g))) items ∙ change-item before (table f ss) after i (on_slots (along way g)) place) in
      let inside : run (x ∷ (path ++ rest)) (tables e xs) ≡ done (tables e (items_under (changed_at i (on_slots (along way g))) xs)) =
      in_tables x path e xs
      ∙ ap (λ o. mapped (λ ns. tables e (items_from ns)) (change_element (run (path ++ rest)) (item_list xs) o)) element
      ∙ ap (λ a. mapped (λ ns. tables e (items_from ns)) (mapped (λ m. written_at i m (item_list xs)) a)) ih
      ∙ ap (λ ns. done (tables e (items_from ns))) swapped in
      in_table j (x ∷ path) s.fields s.slots
      ∙ ap (λ o. mapped (λ xs. table s.fields (slots_from xs)) (change_slot makes (key_of j) (run (x ∷ (path ++ rest))) (slot_list s.slots) o)) at
      ∙ ap (λ a. mapped (λ xs. table s.fields (slots_from xs)) (mapped (λ m. changed (key_of j).name (with_item m) (slot_list s.slots)) a)) inside
      ∙ ap (λ xs. done (table s.fields (slots_from xs)))
      (changed-same (key_of j).name (with_item (tables e (items_under (changed_at i (on_slots (along way g))) xs)))
      (on_item (on_items (changed_at i (on_slots (along way g))))) s.slots (keyed l (tables e xs)) made at refl
      ∙ ap (λ y. changed y (on_item (on_items (changed_at i (on_slots (along way g))))) (slot_list s.slots)) goes.0)

-- So do those that go down alike from any item.
module _ {A : Type 0} (key_of : A → Key) (makes : Bool) (run : List A → Node → Answer Node) (rest : List A)
    (goes_down : (k : A) (path : List A) (n : Node) → run (k ∷ (path ++ rest)) n
    ≡ child_changed makes (key_of k) (run (path ++ rest)) n)
    (g : List (Slot Node) → List (Slot Node)) where
  pub goes-along : (way : List Turn) (path : List A) (s w : Visit) → SlotsAreWellMade s.slots
      → Goes way (map (λ k. (key_of k).name) path) → Leads way s w
      → run rest (table w.fields w.slots) ≡ done (table w.fields (slots_under g w.slots))
      → run (path ++ rest) (table s.fields s.slots) ≡ done (table s.fields (slots_under (along way g) s.slots))
  goes-along =
      goes-down-tables key_of makes run rest (λ k path f ss. goes_down k path (table f ss)) (λ k path e xs. goes_down k path (tables e xs)) g
