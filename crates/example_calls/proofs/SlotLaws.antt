-- What a slot holds, and what a table and a value are seen as.
use Rattle.std.proofs.Common.{◌≡◌, ℕ, zero, suc, List, [], ◌∷◌, Some, None, ap, sym, refl, ◌∙◌, option_map, rules, slice_get}
use Rattle.std.proofs.lemmas.Option.{none-some, same_Some}
use Rattle.toml_edit_laws.proofs.slots.Lists.{items_from-list}
use Rattle.toml_edit.specs.model.ArrayCalls.{pushed}
use Rattle.toml_edit.specs.model.Lists.{item_list, items_from, slot_list}
use Rattle.toml_edit.specs.model.Slots as model
use Rattle.toml_edit.specs.model.Text.{one}
use Rattle.toml_edit.specs.model.Tree.{Decor, Node, Raw, no_items, item, nothing, leaf, list, inline, table, tables}
use Rattle.toml_edit.specs.slots.Slots.{items_of}
use Rattle.toml_edit.specs.slots.declared.slots.Slot.{Slot}
use Rattle.toml_edit.specs.tree.Containers.{TablesView, tables_in, tables_node}
use Rattle.toml_edit.specs.tree.SlotsOf.{slots_of}
use Rattle.toml_edit.specs.tree.View.{item_view, slots_view, table_view, tables_view}
use Rattle.toml_edit.specs.tree.declared.array_of_tables.ArrayOfTables.{ArrayOfTables}
use Rattle.toml_edit.specs.tree.declared.item.Item.{Item, the_lemmas}
use Rattle.toml_edit.specs.tree.declared.item.Item.TheVariants as items
use Rattle.toml_edit.specs.tree.declared.table.Table.{Table, out-Table}
use Rattle.example_calls.specs.Comments.{with_prefix}
use Rattle.example_calls.specs.Elements.{with_last}

-- ---- slots

slots_seen : (t : Table) → (table_view t).slots ≡ slots_view (out-Table t).slots
slots_seen t = search (rules, the_lemmas)

prefix-there : (es : List (Slot Item)) (i : ℕ) (p : Raw) (d : Decor) → option_map (λ k. k.leaf) (option_map (λ s. s.key) (slice_get es i))
    ≡ Some d
    → model.changed_at i (model.on_key (λ k. record k { leaf = record d { prefix = Some p } })) (slot_list (slots_view es))
    ≡ model.changed_at i (model.on_key (with_prefix p)) (slot_list (slots_view es))
prefix-there [] i p d e = refl
prefix-there (s ∷ es) zero p d e =
    ap (λ l. record { key = record s.key { leaf = record l { prefix = Some p } }; item = item_view s.item }
    ∷ slot_list (slots_view es)) (sym (same_Some s.key.leaf d e))
prefix-there (s ∷ es) (suc i) p d e = ap (λ l. record { key = s.key; item = item_view s.item } ∷ l) (prefix-there es i p d e)

-- the decor of a key with another prefix, where it was that of the key at the place
pub prefix-at : (t : Table) (i : ℕ) (p : Raw) (d : Decor)
    → option_map (λ k. k.leaf) (option_map (λ s. s.key) (slice_get (out-Table t).slots i)) ≡ Some d
    → model.changed_at i (model.on_key (λ k. record k { leaf = record d { prefix = Some p } })) (slots_of t)
    ≡ model.changed_at i (model.on_key (with_prefix p)) (slots_of t)
prefix-at t i p d e =
    let is = ap slot_list (slots_seen t) in
    ap (model.changed_at i (model.on_key (λ k. record k { leaf = record d { prefix = Some p } }))) is
    ∙ prefix-there (out-Table t).slots i p d e ∙ ap (model.changed_at i (model.on_key (with_prefix p))) (sym is)

item-there : (es : List (Slot Item)) (i : ℕ) (f : Node → Node) (x : Item) → Some x ≡ slice_get (items_of es) i
    → model.changed_at i (model.with_item (f (item_view x))) (slot_list (slots_view es))
    ≡ model.changed_at i (model.on_item f) (slot_list (slots_view es))
item-there [] i f x e = refl
item-there (s ∷ es) zero f x e =
    ap (λ y. record { key = s.key; item = f (item_view y) } ∷ slot_list (slots_view es)) (same_Some x s.item e)
item-there (s ∷ es) (suc i) f x e = ap (λ l. record { key = s.key; item = item_view s.item } ∷ l) (item-there es i f x e)

-- a change of the item at the place
pub item-at : (t : Table) (i : ℕ) (f : Node → Node) (x : Item) → Some x ≡ slice_get (items_of (out-Table t).slots) i
    → model.changed_at i (model.with_item (f (item_view x))) (slots_of t) ≡ model.changed_at i (model.on_item f) (slots_of t)
item-at t i f x e =
    let is = ap slot_list (slots_seen t) in
    ap (model.changed_at i (model.with_item (f (item_view x)))) is ∙ item-there (out-Table t).slots i f x e
    ∙ ap (model.changed_at i (model.on_item f)) (sym is)

pub item-same : (es : List (model.Slot Node)) (i : ℕ) → model.changed_at i (model.on_item (λ n. n)) es ≡ es
item-same [] i = refl
item-same (s ∷ es) zero = refl
item-same (s ∷ es) (suc i) = ap (λ l. s ∷ l) (item-same es i)

-- ---- arrays of tables

pub view-ArrayOfTables : (a : ArrayOfTables) → item_view (items.ArrayOfTables a) ≡ tables_node (tables_view a)
view-ArrayOfTables a = search (rules, the_lemmas)

pub last-view : (x n : Node) (old new : TablesView) → Some old ≡ tables_in n → new.extent ≡ old.extent → item_list new.items
    ≡ pushed x (item_list old.items)
    → tables_node new ≡ with_last x n
last-view x (tables e xs) old new is extent items =
    let same = same_Some old (record { extent = e; items = xs }) is in
    let extents : new.extent ≡ e = extent ∙ ap (λ a. a.extent) same in
    let lists : new.items ≡ items_from (pushed x (item_list xs)) =
    sym (items_from-list new.items) ∙ ap items_from (items ∙ ap (λ a. pushed x (item_list a.items)) same) in
    λ i. tables (extents i) (lists i)
last-view x (leaf s spelling d) old new is extent items = absurd (none-some old (sym is))
last-view x (list f xs) old new is extent items = absurd (none-some old (sym is))
last-view x (inline f ss) old new is extent items = absurd (none-some old (sym is))
last-view x (table f ss) old new is extent items = absurd (none-some old (sym is))
last-view x nothing old new is extent items = absurd (none-some old (sym is))

pub new-view : (x : Node) (new : TablesView) → new.extent ≡ None → item_list new.items ≡ one x → tables_node new
    ≡ tables None (item x no_items)
new-view x new extent items =
    let lists : new.items ≡ item x no_items = sym (items_from-list new.items) ∙ ap items_from items in
    λ i. tables (extent i) (lists i)
