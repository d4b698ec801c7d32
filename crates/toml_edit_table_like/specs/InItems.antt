-- A table of either kind that an item holds: its slots with their items, and the item with others.
use Rattle.std.specs.Prelude.{◌≡◌, List, [], Option, None, Some, option_map}
use Rattle.std.proofs.Common.{rules, refl, sym, ap, ◌∙◌}
use Rattle.std.specs.Option.{unwrap_or}
use Rattle.toml_edit_model.specs.Lists.{on_slots, slots_in}
use Rattle.toml_edit_model.specs.Slots.{Slot as Seen}
use Rattle.toml_edit_model.specs.Tree.{Node}
use Rattle.toml_edit_slots.specs.declared.slots.Slot.{Slot}
use Rattle.toml_edit_tree.specs.ContainerParts.{holding, table_holding}
use Rattle.toml_edit_tree.specs.Containers.{inline_node, table_node}
use Rattle.toml_edit_tree.specs.View.{inline_view, item_view, table_view, value_view}
use Rattle.toml_edit_tree.specs.declared.array.Array.{Array}
use Rattle.toml_edit_tree.specs.declared.array_of_tables.ArrayOfTables.{ArrayOfTables}
use Rattle.toml_edit_tree.specs.declared.inline_table.InlineTable.{InlineTable}
use Rattle.toml_edit_tree.specs.declared.item.Item.{Item, out-Item, the_lemmas}
use Rattle.toml_edit_tree.specs.declared.item.Item.TheOpen.{Item-F, Value-F}
use Rattle.toml_edit_tree.specs.declared.item.Item.TheVariants as items
use Rattle.toml_edit_tree.specs.declared.item.Item.TheViews.{roll-Item, roll-Value}
use Rattle.toml_edit_tree.specs.declared.table.Table.{Table}
use Rattle.toml_edit_tree.specs.declared.value.Value.{Value, out-Value}
use Rattle.toml_edit_tree.specs.declared.value.Value.TheVariants as values
use Rattle.toml_edit_table_like.specs.Kinds.{inline_entries, inline_keeps, inline_shows, inline_stays, table_entries, table_keeps}
use Rattle.toml_edit_table_like.specs.Kinds.{table_shows, table_stays}
use Rattle.toml_edit_table_like.specs.Shown.{shown}

-- ---- one level

abbrev pub entries_in_value : Value-F Item Value Array ArrayOfTables InlineTable Table
    → Option (List (Slot Item))
entries_in_value (Value-F.InlineTable t) = Some (inline_entries t)
entries_in_value _ = None

abbrev pub entries_open : Item-F Item Value Array ArrayOfTables InlineTable Table
    → Option (List (Slot Item))
entries_open (Item-F.Table t) = Some (table_entries t)
entries_open (Item-F.Value v) = entries_in_value (out-Value v)
entries_open _ = None

abbrev pub value_with : List (Slot Item) → Value
    → Value-F Item Value Array ArrayOfTables InlineTable Table → Value
value_with es v (Value-F.InlineTable t) = values.InlineTable (holding es t)
value_with es v _ = v

abbrev pub open_with : List (Slot Item) → Item
    → Item-F Item Value Array ArrayOfTables InlineTable Table → Item
open_with es x (Item-F.Table t) = items.Table (table_holding es t)
open_with es x (Item-F.Value v) = items.Value (value_with es v (out-Value v))
open_with es x _ = x

-- ---- of an item

abbrev pub entries_in : Item → Option (List (Slot Item))
entries_in x = entries_open (out-Item x)

abbrev pub with_entries_in : List (Slot Item) → Item → Item
with_entries_in es x = open_with es x (out-Item x)

-- the slots as the tree has them
abbrev pub slots_seen : Item → List (Seen Node)
slots_seen x = unwrap_or (slots_in (item_view x)) []

-- the item without its slots
abbrev pub beside_in : Item → Node
beside_in x = on_slots (λ _. []) (item_view x)

-- ---- laws

rolled : (x : Item) → x ≡ roll-Item (out-Item x)
rolled x = search (rules, the_lemmas)

rolled-value : (v : Value) → v ≡ roll-Value (out-Value v)
rolled-value v = search (rules, the_lemmas)

view-table : (t : Table) → item_view (items.Table t) ≡ table_node (table_view t)
view-table t = search (rules, the_lemmas)

view-value : (v : Value) → item_view (items.Value v) ≡ value_view v
view-value v = search (rules, the_lemmas)

view-inline : (t : InlineTable) → value_view (values.InlineTable t) ≡ inline_node (inline_view t)
view-inline t = search (rules, the_lemmas)

seen-table : (t : Table) → item_view (roll-Item (Item-F.Table t)) ≡ table_node (table_view t)
seen-table t = search (rules, the_lemmas)

seen-held : (v : Value) → item_view (roll-Item (Item-F.Value v)) ≡ value_view v
seen-held v = search (rules, the_lemmas)

seen-inline : (t : InlineTable)
    → value_view (roll-Value (Value-F.InlineTable t)) ≡ inline_node (inline_view t)
seen-inline t = search (rules, the_lemmas)

is-table : (t : Table) → items.Table t ≡ roll-Item (Item-F.Table t)
is-table t = search (rules, the_lemmas)

is-value : (v : Value) → items.Value v ≡ roll-Item (Item-F.Value v)
is-value v = search (rules, the_lemmas)

is-inline : (t : InlineTable) → values.InlineTable t ≡ roll-Value (Value-F.InlineTable t)
is-inline t = search (rules, the_lemmas)

-- its slots are seen in these
seen-value : (o : Value-F Item Value Array ArrayOfTables InlineTable Table)
    → slots_in (value_view (roll-Value o)) ≡ option_map shown (entries_in_value o)
seen-value (Value-F.InlineTable t) = ap slots_in (seen-inline t) ∙ ap Some (inline_shows t)
seen-value (Value-F.String f) = search (rules, the_lemmas)
seen-value (Value-F.Integer f) = search (rules, the_lemmas)
seen-value (Value-F.Float f) = search (rules, the_lemmas)
seen-value (Value-F.Boolean f) = search (rules, the_lemmas)
seen-value (Value-F.Datetime f) = search (rules, the_lemmas)
seen-value (Value-F.Array a) = search (rules, the_lemmas)

seen-open : (o : Item-F Item Value Array ArrayOfTables InlineTable Table)
    → slots_in (item_view (roll-Item o)) ≡ option_map shown (entries_open o)
seen-open (Item-F.Table t) = ap slots_in (seen-table t) ∙ ap Some (table_shows t)
seen-open (Item-F.Value v) =
    ap slots_in (seen-held v ∙ ap value_view (rolled-value v)) ∙ seen-value (out-Value v)
seen-open Item-F.None = search (rules, the_lemmas)
seen-open (Item-F.ArrayOfTables a) = search (rules, the_lemmas)

pub seen-in : (x : Item) → slots_in (item_view x) ≡ option_map shown (entries_in x)
seen-in x = ap (λ y. slots_in (item_view y)) (rolled x) ∙ seen-open (out-Item x)

-- with others it has those, and nothing else changes
open_table : (t : Table) → out-Item (items.Table t) ≡ Item-F.Table t
open_table t = search (rules, the_lemmas)

open_value : (v : Value) → out-Item (items.Value v) ≡ Item-F.Value v
open_value v = search (rules, the_lemmas)

open_inline : (t : InlineTable) → out-Value (values.InlineTable t) ≡ Value-F.InlineTable t
open_inline t = search (rules, the_lemmas)

took-value : (es : List (Slot Item)) (v : Value)
    (o : Value-F Item Value Array ArrayOfTables InlineTable Table) → out-Value v ≡ o
    → entries_in_value (out-Value (value_with es v o)) ≡ option_map (λ _. es) (entries_in_value o)
took-value es v (Value-F.InlineTable t) e = ap entries_in_value (open_inline (holding es t))
took-value es v (Value-F.String f) e = ap entries_in_value e
took-value es v (Value-F.Integer f) e = ap entries_in_value e
took-value es v (Value-F.Float f) e = ap entries_in_value e
took-value es v (Value-F.Boolean f) e = ap entries_in_value e
took-value es v (Value-F.Datetime f) e = ap entries_in_value e
took-value es v (Value-F.Array a) e = ap entries_in_value e

took-open : (es : List (Slot Item)) (x : Item)
    (o : Item-F Item Value Array ArrayOfTables InlineTable Table) → out-Item x ≡ o
    → entries_in (open_with es x o) ≡ option_map (λ _. es) (entries_open o)
took-open es x (Item-F.Table t) e = ap entries_open (open_table (table_holding es t))
took-open es x (Item-F.Value v) e =
    ap entries_open (open_value (value_with es v (out-Value v)))
    ∙ took-value es v (out-Value v) refl
took-open es x Item-F.None e = ap entries_open e
took-open es x (Item-F.ArrayOfTables a) e = ap entries_open e

pub took-in : (es : List (Slot Item)) (x : Item)
    → entries_in (with_entries_in es x) ≡ option_map (λ _. es) (entries_in x)
took-in es x = took-open es x (out-Item x) refl

again-value : (es fs : List (Slot Item)) (v : Value)
    (o : Value-F Item Value Array ArrayOfTables InlineTable Table) → out-Value v ≡ o
    → value_with es (value_with fs v o) (out-Value (value_with fs v o)) ≡ value_with es v o
again-value es fs v (Value-F.InlineTable t) e =
    ap (value_with es (values.InlineTable (holding fs t))) (open_inline (holding fs t))
again-value es fs v (Value-F.String f) e = ap (value_with es v) e
again-value es fs v (Value-F.Integer f) e = ap (value_with es v) e
again-value es fs v (Value-F.Float f) e = ap (value_with es v) e
again-value es fs v (Value-F.Boolean f) e = ap (value_with es v) e
again-value es fs v (Value-F.Datetime f) e = ap (value_with es v) e
again-value es fs v (Value-F.Array a) e = ap (value_with es v) e

again-open : (es fs : List (Slot Item)) (x : Item)
    (o : Item-F Item Value Array ArrayOfTables InlineTable Table) → out-Item x ≡ o
    → with_entries_in es (open_with fs x o) ≡ open_with es x o
again-open es fs x (Item-F.Table t) e =
    ap (open_with es (items.Table (table_holding fs t))) (open_table (table_holding fs t))
again-open es fs x (Item-F.Value v) e =
    ap (open_with es (items.Value (value_with fs v (out-Value v))))
    (open_value (value_with fs v (out-Value v)))
    ∙ ap items.Value (again-value es fs v (out-Value v) refl)
again-open es fs x Item-F.None e = ap (open_with es x) e
again-open es fs x (Item-F.ArrayOfTables a) e = ap (open_with es x) e

pub again-in : (es fs : List (Slot Item)) (x : Item)
    → with_entries_in es (with_entries_in fs x) ≡ with_entries_in es x
again-in es fs x = again-open es fs x (out-Item x) refl

-- with its own it stays
stays-value : (v : Value) (o : Value-F Item Value Array ArrayOfTables InlineTable Table)
    → out-Value v ≡ o → value_with (unwrap_or (entries_in_value o) []) v o ≡ v
stays-value v (Value-F.InlineTable t) e =
    ap values.InlineTable (inline_stays t) ∙ is-inline t ∙ sym (rolled-value v ∙ ap roll-Value e)
stays-value v (Value-F.String f) e = refl
stays-value v (Value-F.Integer f) e = refl
stays-value v (Value-F.Float f) e = refl
stays-value v (Value-F.Boolean f) e = refl
stays-value v (Value-F.Datetime f) e = refl
stays-value v (Value-F.Array a) e = refl

stays-open : (x : Item) (o : Item-F Item Value Array ArrayOfTables InlineTable Table)
    → out-Item x ≡ o → open_with (unwrap_or (entries_open o) []) x o ≡ x
stays-open x (Item-F.Table t) e =
    ap items.Table (table_stays t) ∙ is-table t ∙ sym (rolled x ∙ ap roll-Item e)
stays-open x (Item-F.Value v) e =
    ap items.Value (stays-value v (out-Value v) refl) ∙ is-value v ∙ sym (rolled x ∙ ap roll-Item e)
stays-open x Item-F.None e = refl
stays-open x (Item-F.ArrayOfTables a) e = refl

pub stays-in : (x : Item) → with_entries_in (unwrap_or (entries_in x) []) x ≡ x
stays-in x = stays-open x (out-Item x) refl

-- nothing but the slots changes
keeps-value : (es : List (Slot Item)) (v : Value)
    (o : Value-F Item Value Array ArrayOfTables InlineTable Table) → out-Value v ≡ o
    → on_slots (λ _. []) (value_view (value_with es v o)) ≡ on_slots (λ _. []) (value_view v)
keeps-value es v (Value-F.InlineTable t) e =
    ap (on_slots (λ _. [])) (view-inline (holding es t)) ∙ inline_keeps es t
    ∙ sym (ap (λ u. on_slots (λ _. []) (value_view u)) (rolled-value v ∙ ap roll-Value e)
    ∙ ap (on_slots (λ _. [])) (seen-inline t))
keeps-value es v (Value-F.String f) e = refl
keeps-value es v (Value-F.Integer f) e = refl
keeps-value es v (Value-F.Float f) e = refl
keeps-value es v (Value-F.Boolean f) e = refl
keeps-value es v (Value-F.Datetime f) e = refl
keeps-value es v (Value-F.Array a) e = refl

keeps-open : (es : List (Slot Item)) (x : Item)
    (o : Item-F Item Value Array ArrayOfTables InlineTable Table) → out-Item x ≡ o
    → beside_in (open_with es x o) ≡ beside_in x
keeps-open es x (Item-F.Table t) e =
    ap (on_slots (λ _. [])) (view-table (table_holding es t)) ∙ table_keeps es t
    ∙ sym (ap beside_in (rolled x ∙ ap roll-Item e) ∙ ap (on_slots (λ _. [])) (seen-table t))
keeps-open es x (Item-F.Value v) e =
    ap (on_slots (λ _. [])) (view-value (value_with es v (out-Value v)))
    ∙ keeps-value es v (out-Value v) refl
    ∙ sym (ap beside_in (rolled x ∙ ap roll-Item e) ∙ ap (on_slots (λ _. [])) (seen-held v))
keeps-open es x Item-F.None e = refl
keeps-open es x (Item-F.ArrayOfTables a) e = refl

pub keeps-in : (es : List (Slot Item)) (x : Item) → beside_in (with_entries_in es x) ≡ beside_in x
keeps-in es x = keeps-open es x (out-Item x) refl
