-- Items that are made values or tables, and slots whose decors are unset, place by place.
use Rattle.std.proofs.Common.{◌≡◌, ℕ, zero, suc, ◌<◌, Bool, true, false, not, ◌&&◌, List, [], ◌∷◌, None, Some, cond, filter, length, map}
use Rattle.std.proofs.Common.{get_or, set, refl, sym, ap, ◌∙◌, arith}
use Rattle.std.specs.List.{list_all}
use Rattle.toml_edit_model.specs.Conversions.{formatted, formatted_array, formatted_items, into_tables, made_items, made_slots, made_table}
use Rattle.toml_edit_model.specs.Conversions.{made_value, may_be_tables, new_array, new_inline, with_decor}
use Rattle.toml_edit_model.specs.Keys.{cleared_key}
use Rattle.toml_edit_model.specs.Lists as lists
use Rattle.toml_edit_model.specs.Slots as model
use Rattle.toml_edit_model.specs.Lists.{is_inline_node, is_tables_node, items_from}
use Rattle.toml_edit_model.specs.Text.{is_empty}
use Rattle.toml_edit_model.specs.Tree.{ArrayFields, Key, Node, nothing, leaf, list, inline, table, tables, Items, no_items, item, Slots}
use Rattle.toml_edit_model.specs.Tree.{no_slots, slot, is_value_node, unset}
use Rattle.toml_edit_slots.specs.declared.slots.Slot.{Slot}
use Rattle.toml_edit_slots.specs.Slots.{on_item, on_key, with_item}
use Rattle.toml_edit_laws.proofs.slots.Lists.{items_from-list}
use Rattle.toml_edit_tree.specs.Containers.{ArrayView, array_node, tree_slots}
use Rattle.toml_edit_tree.specs.Converting.{each_made, each_slot_made, formatted_elements, formatted_slots, in_new_form, inside_made}
use Rattle.toml_edit_tree.specs.Converting.{suits_tables, tables_made}
use Rattle.toml_edit_tree.specs.declared.array.Array.{Array}
use Rattle.toml_edit_tree.specs.declared.item.Item.{Item}
use Rattle.toml_edit_tree.specs.Elements.{array_fields, items_of}
use Rattle.toml_edit_tree.specs.View.{array_view, item_view}

-- ---- each item made a value

pub each-made : (ns : List Node) → items_from (map made_value ns) ≡ each_made (items_from ns)
each-made [] = refl
each-made (n ∷ ns) = ap (item (made_value n)) (each-made ns)

abbrev pub made_slot : Slot Node → Slot Node
made_slot s = record { key = s.key; item = made_value s.item }

pub each-slot-made : (es : List (Slot Node)) → tree_slots (map made_slot es) ≡ each_slot_made (tree_slots es)
each-slot-made [] = refl
each-slot-made (s ∷ es) = ap (slot s.key (made_value s.item)) (each-slot-made es)

made-slots : (ss : Slots) → lists.slot_list (each_slot_made ss) ≡ made_slots ss
made-slots no_slots = refl
made-slots (slot k n ss) = ap (λ l. record { key = k; item = made_value n } ∷ l) (made-slots ss)

made-items : (xs : Items) → lists.item_list (each_made xs) ≡ made_items xs
made-items no_items = refl
made-items (item n xs) = ap (λ l. made_value n ∷ l) (made-items xs)

-- and their decors unset
pub value-slots : (ss : Slots) → formatted_slots (each_slot_made ss) ≡ lists.slots_from (formatted (made_slots ss))
value-slots ss = ap (λ l. lists.slots_from (formatted l)) (made-slots ss)

pub value-items : (xs : Items) → formatted_elements (each_made xs) ≡ lists.items_from (formatted_items (made_items xs))
value-items xs = ap (λ l. lists.items_from (formatted_items l)) (made-items xs)

-- what is below made values, and then the item in its new form
pub made-inside : (n : Node) → in_new_form (inside_made n) ≡ made_value n
made-inside nothing = refl
made-inside (leaf s spelling d) = refl
made-inside (list f xs) = refl
made-inside (inline f ss) = refl
made-inside (table f ss) = ap (inline new_inline) (value-slots ss)
made-inside (tables e xs) = ap (list new_array) (value-items xs)

-- a new array of items once `fmt` was called
pub array-formed : (a n : Array) (xs : Items) → array_view a ≡ record { fields = new_array; items = xs } → items_of n
    ≡ formatted_items (items_of a)
    → array_fields n ≡ formatted_array (array_fields a) → array_node (array_view n) ≡ list new_array (formatted_elements xs)
array-formed a n xs is items fields =
    let same_fields : (array_view n).fields ≡ new_array = fields ∙ ap (λ (v : ArrayView). formatted_array v.fields) is in
    let same_items : (array_view n).items ≡ formatted_elements xs =
    sym (items_from-list (array_view n).items) ∙ ap lists.items_from (items
    ∙ ap (λ (v : ArrayView). formatted_items (lists.item_list v.items)) is) in
    λ i. list (same_fields i) (same_items i)

-- ---- slots without decors

abbrev pub formatted_slot : Slot Node → Slot Node
formatted_slot s = record { key = cond (is_value_node s.item) (cleared_key s.key) s.key; item = with_decor unset s.item }

one-formatted : (k : Key) (n : Node) (ss us : Slots) → ss ≡ us
    → slot (cond (is_value_node n) (cleared_key k) k) (with_decor unset n) ss
    ≡ (let s : model.Slot Node = cond (is_value_node n) (record { key = cleared_key k; item = with_decor unset n }) (record {
      key =
          k;
      item = n;
    }) in slot s.key s.item us)
one-formatted k nothing ss us e = ap (slot k nothing) e
one-formatted k (leaf s spelling d) ss us e = ap (slot (cleared_key k) (leaf s spelling unset)) e
one-formatted k (list f xs) ss us e = ap (slot (cleared_key k) (list (record f { decor = unset }) xs)) e
one-formatted k (inline f ws) ss us e = ap (slot (cleared_key k) (inline (record f { decor = unset }) ws)) e
one-formatted k (table f ws) ss us e = ap (slot k (table f ws)) e
one-formatted k (tables f xs) ss us e = ap (slot k (tables f xs)) e

pub formatted-slots : (es : List (Slot Node)) → tree_slots (map formatted_slot es) ≡ formatted_slots (tree_slots es)
formatted-slots [] = refl
formatted-slots (s ∷ es) =
    one-formatted s.key s.item (tree_slots (map formatted_slot es)) (formatted_slots (tree_slots es)) (formatted-slots es)

-- another key and another item at a place
pub keyed : (es : List (Slot Item)) (i : ℕ) (d : Slot Item) (h : Key → Key) (y : Item)
    → on_key i h (with_item i y es) ≡ set es i (record { key = h (get_or es i d).key; item = y })
keyed [] i d h y = refl
keyed (s ∷ es) zero d h y = refl
keyed (s ∷ es) (suc i) d h y = ap (λ l. s ∷ l) (keyed es i d h y)

pub slot-formatted : (s : Slot Item) (y : Item) (b : Bool) → is_value_node (item_view s.item) ≡ b → item_view y
    ≡ with_decor unset (item_view s.item)
    → on_item item_view (record { key = cond b (cleared_key s.key) s.key; item = y }) ≡ formatted_slot (on_item item_view s)
slot-formatted s y b is e = λ i. record { key = cond (sym is i) (cleared_key s.key) s.key; item = e i }

-- another item leaves as many slots
pub as-long : (es : List (Slot Item)) (i : ℕ) (y : Item) → length (with_item i y es) ≡ length es
as-long [] i y = refl
as-long (s ∷ es) zero y = refl
as-long (s ∷ es) (suc i) y = ap suc (as-long es i y)

-- ---- each inline table made a table

pub each-table : (ns : List Node) → items_from (map made_table ns) ≡ tables_made (items_from ns)
each-table [] = refl
each-table (n ∷ ns) = ap (item (made_table n)) (each-table ns)

tables-listed : (xs : Items) → lists.items_from (map made_table (lists.item_list xs)) ≡ tables_made xs
tables-listed no_items = refl
tables-listed (item n xs) = ap (item (made_table n)) (tables-listed xs)

-- an array that may be tables, and one that may not
pub may-become : (f : ArrayFields) (xs : Items) → may_be_tables (lists.item_list xs) ≡ true → into_tables (list f xs)
    ≡ Some (tables None (tables_made xs))
may-become f xs h =
    ap (λ b. lists.only is_tables_node (cond b (tables None (lists.items_from (map made_table (lists.item_list xs)))) (list f xs))) h
    ∙ ap (λ l. Some (tables None l)) (tables-listed xs)

pub may-not : (f : ArrayFields) (xs : Items) → may_be_tables (lists.item_list xs) ≡ false → into_tables (list f xs) ≡ None
may-not f xs h = ap (λ b. lists.only is_tables_node
    (cond b (tables None (lists.items_from (map made_table (lists.item_list xs)))) (list f xs))) h

-- ---- arrays that may not be arrays of tables

abbrev may_all : List Node → Bool
may_all ns = list_all is_inline_node (filter is_value_node ns)

one-out : (n : Node) (ns : List Node) → suits_tables n ≡ false → may_all (n ∷ ns) ≡ false
one-out nothing ns e = absurd cc
one-out (leaf s spelling d) ns e = refl
one-out (list f xs) ns e = refl
one-out (inline f ss) ns e = absurd cc
one-out (table f ss) ns e = absurd cc
one-out (tables x xs) ns e = absurd cc

one-more : (n : Node) (ns : List Node) → may_all ns ≡ false → may_all (n ∷ ns) ≡ false
one-more nothing ns e = e
one-more (leaf s spelling d) ns e = refl
one-more (list f xs) ns e = refl
one-more (inline f ss) ns e = e
one-more (table f ss) ns e = e
one-more (tables x xs) ns e = e

some-out : (xs : List Item) (i : ℕ) (x : Item) → i < length xs → x ≡ get_or xs i x → suits_tables (item_view x) ≡ false
    → may_all (map item_view xs) ≡ false
some-out [] i x h is e = absurd (omega (arith, h))
some-out (y ∷ xs) zero x h is e = one-out (item_view y) (map item_view xs) (ap (λ z. suits_tables (item_view z)) (sym is) ∙ e)
some-out (y ∷ xs) (suc i) x h is e = one-more (item_view y) (map item_view xs) (some-out xs i x (omega (arith, h)) is e)

and-false : (b : Bool) → (b && false) ≡ false
and-false true = refl
and-false false = refl

pub not-tables : (xs : List Item) (i : ℕ) (x : Item) → i < length xs → x ≡ get_or xs i x → suits_tables (item_view x) ≡ false
    → may_be_tables (map item_view xs) ≡ false
not-tables xs i x h is e =
    ap (λ b. not (is_empty (map item_view xs)) && b) (some-out xs i x h is e) ∙ and-false (not (is_empty (map item_view xs)))
