-- The slots of an item that is a table or an inline table, and the item with others.
use Rattle.std.proofs.Common.{◌≡◌, List, Some, option_map, refl, sym, ap, ◌∙◌, rules}
use Rattle.std.proofs.lemmas.Option.{same_Some}
use Rattle.toml_edit_laws.proofs.slots.Lists.{slots_from-list}
use Rattle.toml_edit_model.specs.Lists.{on_slots, slots_from, slots_in}
use Rattle.toml_edit_model.specs.Tree.{inline, table}
use Rattle.toml_edit_slots.specs.declared.slots.Slot.{Slot}
use Rattle.toml_edit_tree.specs.ContainerParts.{holding, table_holding}
use Rattle.toml_edit_tree.specs.Indexed.{item_holding, slots_held, slots_open, value_holding, value_slots, value_slots_open, shown_slots}
use Rattle.toml_edit_tree.specs.Indexed.{value_with_slots, with_slots}
use Rattle.toml_edit_tree.specs.InlineSlots.{inline_fields}
use Rattle.toml_edit_tree.specs.View.{fields_view, inline_view, item_view, table_slots, value_view}
use Rattle.toml_edit_tree.specs.declared.array.Array.{Array}
use Rattle.toml_edit_tree.specs.declared.array_of_tables.ArrayOfTables.{ArrayOfTables}
use Rattle.toml_edit_tree.specs.declared.inline_table.InlineTable.{InlineTable, out-InlineTable}
use Rattle.toml_edit_tree.specs.declared.item.Item.{Item, out-Item, the_lemmas}
use Rattle.toml_edit_tree.specs.declared.item.Item.TheOpen.{Item-F, Value-F}
use Rattle.toml_edit_tree.specs.declared.item.Item.TheVariants as items
use Rattle.toml_edit_tree.specs.declared.item.Item.TheViews.{roll-Item, roll-Value}
use Rattle.toml_edit_tree.specs.declared.table.Table.{Table, out-Table}
use Rattle.toml_edit_tree.specs.declared.value.Value.{Value, out-Value}
use Rattle.toml_edit_tree.specs.declared.value.Value.TheVariants as values
use Rattle.toml_edit_tree.proofs.InlineLaws.{made_inline_fields}
use Rattle.toml_edit_tree.proofs.SlotsLaws.{inline-shown, made_fields, made_inline-shown, made-shown, table-shown}
use Rattle.toml_edit_tree.proofs.ViewLaws.{view-Array, view-ArrayOfTables, view-Boolean, view-Datetime, view-Float, view-InlineTable}
use Rattle.toml_edit_tree.proofs.ViewLaws.{view-Integer, view-None, view-String, view-Table, view-Value}

rolled_value : (v : Value) → v ≡ roll-Value (out-Value v)
rolled_value v = search (rules, the_lemmas)

rolled_item : (x : Item) → x ≡ roll-Item (out-Item x)
rolled_item x = search (rules, the_lemmas)

-- ---- with other slots

module _ (es : List (Slot Item)) where
  table-holds : (t : Table) → item_view (items.Table (table_holding es t)) ≡ on_slots (λ _. shown_slots es) (item_view (items.Table t))
  table-holds t =
      let u : Table = table_holding es t in
      view-Table u ∙ ap (λ g. table g (table_slots u)) (made_fields t es)
      ∙ ap (table (fields_view t)) (sym (slots_from-list (table_slots u)) ∙ ap slots_from (made-shown _))
      ∙ sym (ap (on_slots (λ _. shown_slots es)) (view-Table t))

  inline-holds : (t : InlineTable) → value_view (values.InlineTable (holding es t))
      ≡ on_slots (λ _. shown_slots es) (value_view (values.InlineTable t))
  inline-holds t =
      let u : InlineTable = holding es t in
      view-InlineTable u ∙ ap (λ g. inline g (inline_view u).slots) (made_inline_fields t es)
      ∙ ap (inline (inline_fields t)) (sym (slots_from-list (inline_view u).slots) ∙ ap slots_from (made_inline-shown _))
      ∙ sym (ap (on_slots (λ _. shown_slots es)) (view-InlineTable t))

  value-open : (o : Value-F Item Value Array ArrayOfTables InlineTable Table) (v : Value) → v ≡ roll-Value o
      → value_view (value_holding o es v) ≡ on_slots (λ _. shown_slots es) (value_view v)
  value-open (Value-F.InlineTable t) v e =
      let is : v ≡ values.InlineTable t = search (rules, the_lemmas, e) in
      inline-holds t ∙ ap (λ w. on_slots (λ _. shown_slots es) (value_view w)) (sym is)
  value-open (Value-F.String f) v e =
      let is : v ≡ values.String f = search (rules, the_lemmas, e) in
      let n = ap value_view is ∙ view-String f in n ∙ sym (ap (on_slots (λ _. shown_slots es)) n)
  value-open (Value-F.Integer f) v e =
      let is : v ≡ values.Integer f = search (rules, the_lemmas, e) in
      let n = ap value_view is ∙ view-Integer f in n ∙ sym (ap (on_slots (λ _. shown_slots es)) n)
  value-open (Value-F.Float f) v e =
      let is : v ≡ values.Float f = search (rules, the_lemmas, e) in
      let n = ap value_view is ∙ view-Float f in n ∙ sym (ap (on_slots (λ _. shown_slots es)) n)
  value-open (Value-F.Boolean f) v e =
      let is : v ≡ values.Boolean f = search (rules, the_lemmas, e) in
      let n = ap value_view is ∙ view-Boolean f in n ∙ sym (ap (on_slots (λ _. shown_slots es)) n)
  value-open (Value-F.Datetime f) v e =
      let is : v ≡ values.Datetime f = search (rules, the_lemmas, e) in
      let n = ap value_view is ∙ view-Datetime f in n ∙ sym (ap (on_slots (λ _. shown_slots es)) n)
  value-open (Value-F.Array a) v e =
      let is : v ≡ values.Array a = search (rules, the_lemmas, e) in
      let n = ap value_view is ∙ view-Array a in n ∙ sym (ap (on_slots (λ _. shown_slots es)) n)

  value-holds : (v : Value) → value_view (value_with_slots es v) ≡ on_slots (λ _. shown_slots es) (value_view v)
  value-holds v = value-open (out-Value v) v (rolled_value v)

  item-open : (o : Item-F Item Value Array ArrayOfTables InlineTable Table) (x : Item) → x ≡ roll-Item o
      → item_view (item_holding o es x) ≡ on_slots (λ _. shown_slots es) (item_view x)
  item-open (Item-F.Table t) x e =
      let is : x ≡ items.Table t = search (rules, the_lemmas, e) in
      table-holds t ∙ ap (λ y. on_slots (λ _. shown_slots es) (item_view y)) (sym is)
  item-open (Item-F.Value v) x e =
      let is : x ≡ items.Value v = search (rules, the_lemmas, e) in
      view-Value (value_with_slots es v) ∙ value-holds v ∙ sym (ap (on_slots (λ _. shown_slots es)) (ap item_view is ∙ view-Value v))
  item-open Item-F.None x e =
      let is : x ≡ items.None = search (rules, the_lemmas, e) in
      let n = ap item_view is ∙ view-None in n ∙ sym (ap (on_slots (λ _. shown_slots es)) n)
  item-open (Item-F.ArrayOfTables a) x e =
      let is : x ≡ items.ArrayOfTables a = search (rules, the_lemmas, e) in
      let n = ap item_view is ∙ view-ArrayOfTables a in n ∙ sym (ap (on_slots (λ _. shown_slots es)) n)

  pub item-holds : (x : Item) → item_view (with_slots es x) ≡ on_slots (λ _. shown_slots es) (item_view x)
  item-holds x = item-open (out-Item x) x (rolled_item x)

-- ---- its own slots

own_table : (t : Table) → table_holding (out-Table t).slots t ≡ t
own_table t = search (rules, the_lemmas)

own_inline : (t : InlineTable) → holding (out-InlineTable t).items t ≡ t
own_inline t = search (rules, the_lemmas)

module _ (es : List (Slot Item)) where
  own_value-open : (o : Value-F Item Value Array ArrayOfTables InlineTable Table) (v : Value) → v ≡ roll-Value o → value_slots_open o
      ≡ Some es → value_holding o es v ≡ v
  own_value-open (Value-F.InlineTable t) v e is =
      let made : v ≡ values.InlineTable t = search (rules, the_lemmas, e) in
      ap values.InlineTable (ap (λ l. holding l t) (sym (same_Some _ _ is)) ∙ own_inline t) ∙ sym made
  own_value-open (Value-F.String f) v e is = refl
  own_value-open (Value-F.Integer f) v e is = refl
  own_value-open (Value-F.Float f) v e is = refl
  own_value-open (Value-F.Boolean f) v e is = refl
  own_value-open (Value-F.Datetime f) v e is = refl
  own_value-open (Value-F.Array a) v e is = refl

  own_value : (v : Value) → value_slots v ≡ Some es → value_with_slots es v ≡ v
  own_value v is = own_value-open (out-Value v) v (rolled_value v) is

  own_item-open : (o : Item-F Item Value Array ArrayOfTables InlineTable Table) (x : Item) → x ≡ roll-Item o → slots_open o ≡ Some es
      → item_holding o es x ≡ x
  own_item-open (Item-F.Table t) x e is =
      let made : x ≡ items.Table t = search (rules, the_lemmas, e) in
      ap items.Table (ap (λ l. table_holding l t) (sym (same_Some _ _ is)) ∙ own_table t) ∙ sym made
  own_item-open (Item-F.Value v) x e is =
      let made : x ≡ items.Value v = search (rules, the_lemmas, e) in
      ap items.Value (own_value v is) ∙ sym made
  own_item-open Item-F.None x e is = refl
  own_item-open (Item-F.ArrayOfTables a) x e is = refl

  pub own-item : (x : Item) → slots_held x ≡ Some es → with_slots es x ≡ x
  own-item x is = own_item-open (out-Item x) x (rolled_item x) is

-- ---- as they are seen

seen_value-open : (o : Value-F Item Value Array ArrayOfTables InlineTable Table) (v : Value) → v ≡ roll-Value o
    → option_map shown_slots (value_slots_open o) ≡ slots_in (value_view v)
seen_value-open (Value-F.InlineTable t) v e =
    let is : v ≡ values.InlineTable t = search (rules, the_lemmas, e) in
    ap Some (sym (inline-shown t)) ∙ sym (ap slots_in (ap value_view is ∙ view-InlineTable t))
seen_value-open (Value-F.String f) v e =
    let is : v ≡ values.String f = search (rules, the_lemmas, e) in sym (ap slots_in (ap value_view is ∙ view-String f))
seen_value-open (Value-F.Integer f) v e =
    let is : v ≡ values.Integer f = search (rules, the_lemmas, e) in sym (ap slots_in (ap value_view is ∙ view-Integer f))
seen_value-open (Value-F.Float f) v e =
    let is : v ≡ values.Float f = search (rules, the_lemmas, e) in sym (ap slots_in (ap value_view is ∙ view-Float f))
seen_value-open (Value-F.Boolean f) v e =
    let is : v ≡ values.Boolean f = search (rules, the_lemmas, e) in sym (ap slots_in (ap value_view is ∙ view-Boolean f))
seen_value-open (Value-F.Datetime f) v e =
    let is : v ≡ values.Datetime f = search (rules, the_lemmas, e) in sym (ap slots_in (ap value_view is ∙ view-Datetime f))
seen_value-open (Value-F.Array a) v e =
    let is : v ≡ values.Array a = search (rules, the_lemmas, e) in sym (ap slots_in (ap value_view is ∙ view-Array a))

seen_item-open : (o : Item-F Item Value Array ArrayOfTables InlineTable Table) (x : Item) → x ≡ roll-Item o
    → option_map shown_slots (slots_open o) ≡ slots_in (item_view x)
seen_item-open (Item-F.Table t) x e =
    let is : x ≡ items.Table t = search (rules, the_lemmas, e) in
    ap Some (sym (table-shown t)) ∙ sym (ap slots_in (ap item_view is ∙ view-Table t))
seen_item-open (Item-F.Value v) x e =
    let is : x ≡ items.Value v = search (rules, the_lemmas, e) in
    seen_value-open (out-Value v) v (rolled_value v) ∙ sym (ap slots_in (ap item_view is ∙ view-Value v))
seen_item-open Item-F.None x e =
    let is : x ≡ items.None = search (rules, the_lemmas, e) in sym (ap slots_in (ap item_view is ∙ view-None))
seen_item-open (Item-F.ArrayOfTables a) x e =
    let is : x ≡ items.ArrayOfTables a = search (rules, the_lemmas, e) in sym (ap slots_in (ap item_view is ∙ view-ArrayOfTables a))

pub held-seen : (x : Item) → option_map shown_slots (slots_held x) ≡ slots_in (item_view x)
held-seen x = seen_item-open (out-Item x) x (rolled_item x)
