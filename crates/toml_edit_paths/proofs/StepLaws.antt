-- One segment of a path: what it leads to in the slots of an item, or among its items, and the item
-- after a change there.
use Rattle.std.proofs.Common.{◌≡◌, ◌∙◌, refl, sym, ap, Bool, false, List, [], ◌∷◌, length, arith, Some, None}
use Rattle.std.specs.Prelude.{Result}
use Rattle.toml_edit_model.specs.Lists.{slot_list, slots_from, item_list, items_from, items_in, on_items, on_slots, slots_in}
use Rattle.toml_edit_model.specs.Shown.{is_table_node}
use Rattle.toml_edit_model.specs.Slots.{Slot, lookup_slot}
use Rattle.toml_edit_model.specs.Text.{Text}
use Rattle.toml_edit_model.specs.Tree.{Key, Node, nothing, leaf, list, inline, table, tables, is_value_node}
use Rattle.toml_edit_model.specs.Keys.{names, new_key}
use Rattle.toml_edit_edit_laws.specs.Commands.{Answer, refused, no_such_path, mapped, child, child_changed, change_element, change_slot}
use Rattle.toml_edit_edit_laws.specs.Commands.{drop_element, drop_slot, element_of, present, remove_below, second}
use Rattle.toml_edit_laws.proofs.common.OptionSteps.{some-is}
use Rattle.toml_edit_laws.proofs.locality.Slots.{slots_from-list, items_from-list}
use Rattle.toml_edit_slots.specs.declared.slots.Slot as held_slot
use Rattle.toml_edit_tree.specs.Containers.{TableView, table_node}
use Rattle.toml_edit_tree.specs.Indexed.{shown_slots}
use Rattle.toml_edit_tree.specs.View.{slots_view}
use Rattle.toml_edit_tree.specs.declared.item.Item.{Item}
use Rattle.toml_edit_paths.specs.Changes.{Changes, removed_element, removed_slot}
use Rattle.toml_edit_paths.specs.Items.{kind_of}
use Rattle.toml_edit_paths.specs.declared.fault.ChangeFault.{ChangeFault}
use Rattle.toml_edit_paths.proofs.ChangeLaws.{carried, renamed}

-- ---- the slots of a table or an inline table

pub slots-kept : (n : Node) (ss : List (Slot Node)) → slots_in n ≡ Some ss → on_slots (λ _. ss) n ≡ n
slots-kept (table f s) ss h = ap (λ l. table f (slots_from l)) (sym (some-is (slot_list s) ss h)) ∙ ap (table f) (slots_from-list s)
slots-kept (inline f s) ss h = ap (λ l. inline f (slots_from l)) (sym (some-is (slot_list s) ss h)) ∙ ap (inline f) (slots_from-list s)
slots-kept (leaf s r d) ss h = absurd cc
slots-kept (list f xs) ss h = absurd cc
slots-kept (tables e xs) ss h = absurd cc
slots-kept nothing ss h = absurd cc

pub slots-go : (makes : Bool) (k : Key) (go : Node → Answer Node) (n : Node) (ss : List (Slot Node)) → slots_in n ≡ Some ss
    → mapped (λ xs. on_slots (λ _. xs) n) (change_slot makes k go ss (lookup_slot k.name ss)) ≡ child_changed makes k go n
slots-go makes k go (table f s) ss h =
    sym (ap (λ l. mapped (λ xs. table f (slots_from xs)) (change_slot makes k go l (lookup_slot k.name l))) (some-is (slot_list s) ss h))
slots-go makes k go (inline f s) ss h =
    sym (ap (λ l. mapped (λ xs. inline f (slots_from xs)) (change_slot makes k go l (lookup_slot k.name l))) (some-is (slot_list s) ss h))
slots-go makes k go (leaf s r d) ss h = absurd cc
slots-go makes k go (list f xs) ss h = absurd cc
slots-go makes k go (tables e xs) ss h = absurd cc
slots-go makes k go nothing ss h = absurd cc

pub slots-child : (k : Text) (n : Node) (ss : List (Slot Node)) → slots_in n ≡ Some ss → child k n ≡ present (lookup_slot k ss)
slots-child k (table f s) ss h = ap (λ l. present (lookup_slot k l)) (some-is (slot_list s) ss h)
slots-child k (inline f s) ss h = ap (λ l. present (lookup_slot k l)) (some-is (slot_list s) ss h)
slots-child k (leaf s r d) ss h = absurd cc
slots-child k (list f xs) ss h = absurd cc
slots-child k (tables e xs) ss h = absurd cc
slots-child k nothing ss h = absurd cc

pub slots-removed : (k : Text) (path : List Text) (n : Node) (ss : List (Slot Node)) → slots_in n ≡ Some ss
    → mapped (λ xs. on_slots (λ _. xs) n) (removed_slot k path ss) ≡ remove_below (k ∷ path) n
slots-removed k [] (table f s) ss h =
    sym (ap (λ l. mapped (λ xs. table f (slots_from xs)) (removed_slot k [] l)) (some-is (slot_list s) ss h))
slots-removed k [] (inline f s) ss h =
    sym (ap (λ l. mapped (λ xs. inline f (slots_from xs)) (removed_slot k [] l)) (some-is (slot_list s) ss h))
slots-removed k [] (leaf s r d) ss h = absurd cc
slots-removed k [] (list f xs) ss h = absurd cc
slots-removed k [] (tables e xs) ss h = absurd cc
slots-removed k [] nothing ss h = absurd cc
slots-removed k (l ∷ path) n ss h = slots-go false (new_key k) (remove_below (l ∷ path)) n ss h

-- a change of the slots is one of the item
pub slots-change : (m : Answer (List (Slot Node))) (n : Node) (ss new : List (Slot Node)) (r : Result (Unit {0}) ChangeFault) → slots_in n
    ≡ Some ss → Changes m ss new r
    → Changes (mapped (λ xs. on_slots (λ _. xs) n) m) n (on_slots (λ _. new) n) r
slots-change m n ss new r h change =
    renamed _ _ _ _ _ _ r refl (slots-kept n ss h) refl (carried (λ xs. on_slots (λ _. xs) n) m ss new r change)

-- ---- the items of an array or an array of tables

pub items-kept : (n : Node) (ns : List Node) → items_in n ≡ Some ns → on_items (λ _. ns) n ≡ n
items-kept (list f xs) ns h = ap (λ l. list f (items_from l)) (sym (some-is (item_list xs) ns h)) ∙ ap (list f) (items_from-list xs)
items-kept (tables e xs) ns h = ap (λ l. tables e (items_from l)) (sym (some-is (item_list xs) ns h)) ∙ ap (tables e) (items_from-list xs)
items-kept (leaf s r d) ns h = absurd cc
items-kept (inline f ss) ns h = absurd cc
items-kept (table f ss) ns h = absurd cc
items-kept nothing ns h = absurd cc

pub items-go : (makes : Bool) (k : Key) (go : Node → Answer Node) (n : Node) (ns : List Node) → items_in n ≡ Some ns
    → mapped (λ l. on_items (λ _. l) n) (change_element go ns (element_of (kind_of (is_value_node n)) k.name ns)) ≡ child_changed makes k go n
items-go makes k go (list f xs) ns h =
    sym (ap (λ l. mapped (λ xs. list f (items_from xs)) (change_element go l (element_of is_value_node k.name l))) (some-is (item_list xs) ns h))
items-go makes k go (tables e xs) ns h =
    sym (ap (λ l. mapped (λ xs. tables e (items_from xs)) (change_element go l (element_of is_table_node k.name l)))
    (some-is (item_list xs) ns h))
items-go makes k go (leaf s r d) ns h = absurd cc
items-go makes k go (inline f ss) ns h = absurd cc
items-go makes k go (table f ss) ns h = absurd cc
items-go makes k go nothing ns h = absurd cc

pub items-child : (k : Text) (n : Node) (ns : List Node) → items_in n ≡ Some ns → child k n
    ≡ second (element_of (kind_of (is_value_node n)) k ns)
items-child k (list f xs) ns h = ap (λ l. second (element_of is_value_node k l)) (some-is (item_list xs) ns h)
items-child k (tables e xs) ns h = ap (λ l. second (element_of is_table_node k l)) (some-is (item_list xs) ns h)
items-child k (leaf s r d) ns h = absurd cc
items-child k (inline f ss) ns h = absurd cc
items-child k (table f ss) ns h = absurd cc
items-child k nothing ns h = absurd cc

pub items-removed : (k : Text) (path : List Text) (n : Node) (ns : List Node) → items_in n ≡ Some ns
    → mapped (λ l. on_items (λ _. l) n) (removed_element (kind_of (is_value_node n)) k path ns) ≡ remove_below (k ∷ path) n
items-removed k [] (list f xs) ns h =
    sym (ap (λ l. mapped (λ xs. list f (items_from xs)) (removed_element is_value_node k [] l)) (some-is (item_list xs) ns h))
items-removed k [] (tables e xs) ns h =
    sym (ap (λ l. mapped (λ xs. tables e (items_from xs)) (removed_element is_table_node k [] l)) (some-is (item_list xs) ns h))
items-removed k [] (leaf s r d) ns h = absurd cc
items-removed k [] (inline f ss) ns h = absurd cc
items-removed k [] (table f ss) ns h = absurd cc
items-removed k [] nothing ns h = absurd cc
items-removed k (l ∷ path) n ns h = items-go false (new_key k) (remove_below (l ∷ path)) n ns h

-- a change of the items is one of the item
pub items-change : (m : Answer (List Node)) (n : Node) (ns new : List Node) (r : Result (Unit {0}) ChangeFault) → items_in n ≡ Some ns
    → Changes m ns new r
    → Changes (mapped (λ l. on_items (λ _. l) n) m) n (on_items (λ _. new) n) r
items-change m n ns new r h change =
    renamed _ _ _ _ _ _ r refl (items-kept n ns h) refl (carried (λ l. on_items (λ _. l) n) m ns new r change)

-- ---- an item with neither

pub no-child : (k : Text) (n : Node) → slots_in n ≡ None → items_in n ≡ None → child k n ≡ None
no-child k (leaf s r d) h g = refl
no-child k nothing h g = refl
no-child k (list f xs) h g = absurd cc
no-child k (tables e xs) h g = absurd cc
no-child k (inline f ss) h g = absurd cc
no-child k (table f ss) h g = absurd cc

pub no-removed : (k : Text) (path : List Text) (n : Node) → slots_in n ≡ None → items_in n ≡ None → remove_below (k ∷ path) n
    ≡ refused no_such_path
no-removed k [] (leaf s r d) h g = refl
no-removed k (l ∷ path) (leaf s r d) h g = refl
no-removed k [] nothing h g = refl
no-removed k (l ∷ path) nothing h g = refl
no-removed k path (list f xs) h g = absurd cc
no-removed k path (tables e xs) h g = absurd cc
no-removed k path (inline f ss) h g = absurd cc
no-removed k path (table f ss) h g = absurd cc

-- ---- the last key of a path

pub last-slot : (k : Text) (path : List Key) (ss : List (Slot Node)) → length path ≡ 0 → removed_slot k (names path) ss
    ≡ drop_slot k ss (present (lookup_slot k ss))
last-slot k [] ss h = refl
last-slot k (l ∷ path) ss h = absurd (omega arith)

pub last-element : (is : Node → Bool) (k : Text) (path : List Key) (ns : List Node) → length path ≡ 0 → removed_element is k (names path) ns
    ≡ drop_element ns (element_of is k ns)
last-element is k [] ns h = refl
last-element is k (l ∷ path) ns h = absurd (omega arith)

pub none-removed : (is : Node → Bool) (k : Text) (path : List Text) (ns : List Node) → element_of is k ns ≡ None
    → removed_element is k path ns ≡ refused no_such_path
none-removed is k [] ns h = ap (drop_element ns) h
none-removed is k (l ∷ path) ns h = ap (change_element (remove_below (l ∷ path)) ns) h

-- ---- the root

pub root-slots : (held : TableView) (es : List (held_slot.Slot Item)) → slots_view es ≡ held.slots → slots_in (table_node held)
    ≡ Some (shown_slots es)
root-slots held es e = ap (λ s. Some (slot_list s)) (sym e)

pub root-left : (held made : TableView) (es : List (held_slot.Slot Item)) → made ≡ record { fields = held.fields; slots = slots_view es }
    → on_slots (λ _. shown_slots es) (table_node held) ≡ table_node made
root-left held made es e = ap (table held.fields) (slots_from-list (slots_view es)) ∙ ap table_node (sym e)
