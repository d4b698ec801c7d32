-- What is written through a loan of a container, as its list of slots shows it.
use Rattle.std.proofs.Common.{◌≡◌, ℕ, zero, suc, List, [], ◌∷◌, ◌++◌, Option, Some, None, set, refl, sym, ap, subst, ◌∙◌, rules}
use Rattle.std.specs.Option.{option_map_or}
use Rattle.toml_edit_laws.proofs.slots.Places.{changed-at, changed-none, none_at}
use Rattle.toml_edit_model.specs.ArrayCalls.{written_at}
use Rattle.toml_edit_model.specs.Lists.{item_list}
use Rattle.toml_edit_model.specs.Slots as model
use Rattle.toml_edit_model.specs.Text.{Text}
use Rattle.toml_edit_model.specs.Tree.{Key}
use Rattle.toml_edit_slots.specs.Slots.{on_key, place, with_item}
use Rattle.toml_edit_slots.specs.declared.slots.Slot.{Slot}
use Rattle.toml_edit_tree.specs.Containers.{table_node}
use Rattle.toml_edit_tree.specs.Elements.{array_fields, extent_of, items_of, listed, tables_of}
use Rattle.toml_edit_tree.specs.InlineEntries.{inline_ref, inline_slots_left, inline_with}
use Rattle.toml_edit_tree.specs.InlineLending.{with_inline_key, with_value_under}
use Rattle.toml_edit_tree.specs.InlineLending as inlines
use Rattle.toml_edit_tree.specs.InlineSlotParts.{with_inline_item}
use Rattle.toml_edit_tree.specs.InlineSlots.{inline_fields}
use Rattle.toml_edit_tree.specs.ItemPlaces.{with_table_at, with_value_at}
use Rattle.toml_edit_tree.specs.SlotsOf.{inline_slots_of, slots_of}
use Rattle.toml_edit_tree.specs.TableEntries.{entry_ref, slots_left, table_with}
use Rattle.toml_edit_tree.specs.TableLending.{with_item_at, with_item_under, with_key_at}
use Rattle.toml_edit_tree.specs.View.{array_view, fields_view, item_view, items_view, table_view, tables_view, value_view}
use Rattle.toml_edit_tree.specs.declared.array.Array.{Array, out-Array}
use Rattle.toml_edit_tree.specs.declared.array_of_tables.ArrayOfTables.{ArrayOfTables, out-ArrayOfTables}
use Rattle.toml_edit_tree.specs.declared.inline_table.InlineTable.{InlineTable, out-InlineTable}
use Rattle.toml_edit_tree.specs.declared.inline_table.entry.InlineEntry.{InlineEntry}
use Rattle.toml_edit_tree.specs.declared.inline_table.entry.InlineEntry.TheVariants as inlined
use Rattle.toml_edit_tree.specs.declared.item.Item.{Item, the_lemmas}
use Rattle.toml_edit_tree.specs.declared.item.Item.TheOpen.{Array-F, ArrayOfTables-F}
use Rattle.toml_edit_tree.specs.declared.item.Item.TheVariants as items
use Rattle.toml_edit_tree.specs.declared.item.Item.TheViews.{roll-Array, roll-ArrayOfTables}
use Rattle.toml_edit_tree.specs.declared.table.Table.{Table, out-Table}
use Rattle.toml_edit_tree.specs.declared.table.entry.Entry.{Entry}
use Rattle.toml_edit_tree.specs.declared.table.entry.Entry.TheVariants.{Occupied, Vacant}
use Rattle.toml_edit_tree.specs.declared.value.Value.{Value}
use Rattle.toml_edit_tree.specs.Indexed.{shown_slots}
use Rattle.toml_edit_tree.proofs.DespanLaws.{no_slot}
use Rattle.toml_edit_tree.proofs.InlineLaws.{made_inline_fields}
use Rattle.toml_edit_tree.proofs.SlotsLaws.{inline-shown, made-shown, made_fields, made_inline-shown, slot_shown, table-shown}
use Rattle.toml_edit_tree.proofs.TableEntryLaws.{last-shown, place-shown, set-shown}
use Rattle.toml_edit_tree.proofs.ViewLaws.{array_items, tables_items, view-Table, view-Value}

-- ---- arrays and arrays of tables

written-listed : (xs : List Item) (i : ℕ) (x : Item) → listed (set xs i x) ≡ written_at i (item_view x) (listed xs)
written-listed [] i x = refl
written-listed (y ∷ xs) zero x = refl
written-listed (y ∷ xs) (suc i) x = ap (λ l. item_view y ∷ l) (written-listed xs i x)

made_items : (a : Array-F Item Value Array ArrayOfTables InlineTable Table) → (array_view (roll-Array a)).items ≡ items_view a.values.items
made_items a = search (rules, the_lemmas)

made_elements : (a : ArrayOfTables-F Item Value Array ArrayOfTables InlineTable Table) → (tables_view (roll-ArrayOfTables a)).items
    ≡ items_view a.values.items
made_elements a = search (rules, the_lemmas)

pub array-leaves : (i : ℕ) (w : Value) (a : Array) → items_of (with_value_at i w a) ≡ written_at i (value_view w) (items_of a)
array-leaves i w a =
    let xs = (out-Array a).values.items in
    ap item_list (made_items _) ∙ written-listed xs i (items.Value w) ∙ ap (λ n. written_at i n (listed xs)) (view-Value w)
    ∙ ap (λ l. written_at i (value_view w) (item_list l)) (sym (array_items a))

pub array-keeps : (i : ℕ) (w : Value) (a : Array) → array_fields (with_value_at i w a) ≡ array_fields a
array-keeps i w a = search (rules, the_lemmas)

pub tables-leave : (i : ℕ) (w : Table) (a : ArrayOfTables) → tables_of (with_table_at i w a)
    ≡ written_at i (table_node (table_view w)) (tables_of a)
tables-leave i w a =
    let xs = (out-ArrayOfTables a).values.items in
    ap item_list (made_elements _) ∙ written-listed xs i (items.Table w) ∙ ap (λ n. written_at i n (listed xs)) (view-Table w)
    ∙ ap (λ l. written_at i (table_node (table_view w)) (item_list l)) (sym (tables_items a))

pub tables-keep : (i : ℕ) (w : Table) (a : ArrayOfTables) → extent_of (with_table_at i w a) ≡ extent_of a
tables-keep i w a = search (rules, the_lemmas)

-- ---- the slot of a key

module _ (k : Text) (w : Item) (es : List (Slot Item)) (apart : model.AreApart (shown_slots es)) where
  written : (o : Option ℕ) → place k es ≡ o → shown_slots (option_map_or (λ at. with_item at w es) o es)
      ≡ model.changed k (model.with_item (item_view w)) (shown_slots es)
  written None e = sym (changed-none k (model.with_item (item_view w)) (shown_slots es) (none_at k (shown_slots es) (place-shown k es ∙ e)))
  written (Some i) e =
      set-shown es i (slot_shown no_slot) w
      ∙ sym (changed-at k (model.with_item (item_view w)) (shown_slots es) i (slot_shown no_slot) apart
      (place-shown k es ∙ e))

  under-shown : shown_slots (option_map_or (λ at. with_item at w es) (place k es) es)
      ≡ model.changed k (model.with_item (item_view w)) (shown_slots es)
  under-shown = written (place k es) refl

pub table-leaves : (k : Text) (t : Table) → model.AreApart (slots_of t) → (w : Item)
    → slots_of (with_item_under k w t) ≡ model.changed k (model.with_item (item_view w)) (slots_of t)
table-leaves k t apart w =
    made-shown _ ∙ under-shown k w (out-Table t).slots (subst model.AreApart (table-shown t) apart)
    ∙ ap (model.changed k (model.with_item (item_view w))) (sym (table-shown t))

pub table-keeps : (k : Text) (t : Table) (w : Item) → fields_view (with_item_under k w t) ≡ fields_view t
table-keeps k t w = made_fields t _

pub inline-leaves : (k : Text) (t : InlineTable) → model.AreApart (inline_slots_of t) → (w : Value)
    → inline_slots_of (with_value_under k w t) ≡ model.changed k (model.with_item (value_view w)) (inline_slots_of t)
inline-leaves k t apart w =
    let es = (out-InlineTable t).items in
    made_inline-shown _ ∙ under-shown k (items.Value w) es (subst model.AreApart (inline-shown t) apart)
    ∙ ap (λ n. model.changed k (model.with_item n) (shown_slots es)) (view-Value w)
    ∙ ap (model.changed k (model.with_item (value_view w))) (sym (inline-shown t))

pub inline-keeps : (k : Text) (t : InlineTable) (w : Value) → inline_fields (with_value_under k w t) ≡ inline_fields t
inline-keeps k t w = made_inline_fields t _

-- ---- the slot at a place

item-shown : (es : List (Slot Item)) (i : ℕ) (w : Item) → shown_slots (with_item i w es)
    ≡ model.changed_at i (model.with_item (item_view w)) (shown_slots es)
item-shown [] i w = refl
item-shown (s ∷ es) zero w = refl
item-shown (s ∷ es) (suc i) w = ap (λ l. slot_shown s ∷ l) (item-shown es i w)

key-shown : (h : Key → Key) (es : List (Slot Item)) (i : ℕ) → shown_slots (on_key i h es)
    ≡ model.changed_at i (model.on_key h) (shown_slots es)
key-shown h [] i = refl
key-shown h (s ∷ es) zero = refl
key-shown h (s ∷ es) (suc i) = ap (λ l. slot_shown s ∷ l) (key-shown h es i)

module _ (i : ℕ) (t : Table) where
  pub item-leaves : (w : Item) → slots_of (with_item_at i w t) ≡ model.changed_at i (model.with_item (item_view w)) (slots_of t)
  item-leaves w = made-shown _ ∙ item-shown (out-Table t).slots i w
      ∙ ap (model.changed_at i (model.with_item (item_view w))) (sym (table-shown t))

  pub item-keeps : (w : Item) → fields_view (with_item_at i w t) ≡ fields_view t
  item-keeps w = made_fields t _

  pub key-leaves : (h : Key → Key) → slots_of (with_key_at i h t) ≡ model.changed_at i (model.on_key h) (slots_of t)
  key-leaves h = made-shown _ ∙ key-shown h (out-Table t).slots i ∙ ap (model.changed_at i (model.on_key h)) (sym (table-shown t))

  pub key-keeps : (h : Key → Key) → fields_view (with_key_at i h t) ≡ fields_view t
  key-keeps h = made_fields t _

module _ (i : ℕ) (t : InlineTable) where
  pub inline_item-leaves : (w : Item) → inline_slots_of (with_inline_item i w t)
      ≡ model.changed_at i (model.with_item (item_view w)) (inline_slots_of t)
  inline_item-leaves w = made_inline-shown _ ∙ item-shown (out-InlineTable t).items i w
      ∙ ap (model.changed_at i (model.with_item (item_view w))) (sym (inline-shown t))

  pub inline_item-keeps : (w : Item) → inline_fields (with_inline_item i w t) ≡ inline_fields t
  inline_item-keeps w = made_inline_fields t _

  pub inline_value-leaves : (w : Value) → inline_slots_of (inlines.with_value_at i w t)
      ≡ model.changed_at i (model.with_item (value_view w)) (inline_slots_of t)
  inline_value-leaves w = inline_item-leaves (items.Value w)
      ∙ ap (λ n. model.changed_at i (model.with_item n) (inline_slots_of t)) (view-Value w)

  pub inline_key-leaves : (h : Key → Key) → inline_slots_of (with_inline_key i h t)
      ≡ model.changed_at i (model.on_key h) (inline_slots_of t)
  inline_key-leaves h = made_inline-shown _ ∙ key-shown h (out-InlineTable t).items i
      ∙ ap (model.changed_at i (model.on_key h)) (sym (inline-shown t))

  pub inline_key-keeps : (h : Key → Key) → inline_fields (with_inline_key i h t) ≡ inline_fields t
  inline_key-keeps h = made_inline_fields t _

-- ---- entries

pub entry-leaves : (e : Entry) (w : Item) → slots_of (table_with e w) ≡ slots_left e (item_view w)
entry-leaves (Occupied o) w = item-leaves o.at o.table.now w
entry-leaves (Vacant v) w =
    made-shown _ ∙ last-shown (out-Table v.table.now).slots v.key w
    ∙ ap (λ l. l ++ record { key = v.key; item = item_view w } ∷ []) (sym (table-shown v.table.now))

pub entry-keeps : (e : Entry) (w : Item) → fields_view (table_with e w) ≡ fields_view (entry_ref e).now
entry-keeps e w = made_fields (entry_ref e).now _

pub inline_entry-leaves : (e : InlineEntry) (w : Value) → inline_slots_of (inline_with e w) ≡ inline_slots_left e (value_view w)
inline_entry-leaves (inlined.Occupied o) w = inline_value-leaves o.at o.table.now w
inline_entry-leaves (inlined.Vacant v) w =
    let es = (out-InlineTable v.table.now).items in
    made_inline-shown _ ∙ last-shown es v.key (items.Value w)
    ∙ ap (λ n. shown_slots es ++ record { key = v.key; item = n } ∷ []) (view-Value w)
    ∙ ap (λ l. l ++ record { key = v.key; item = value_view w } ∷ []) (sym (inline-shown v.table.now))

pub inline_entry-keeps : (e : InlineEntry) (w : Value) → inline_fields (inline_with e w) ≡ inline_fields (inline_ref e).now
inline_entry-keeps e w = made_inline_fields (inline_ref e).now _
