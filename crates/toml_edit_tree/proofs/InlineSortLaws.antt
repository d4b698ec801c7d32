-- What a sort of an inline table enters, and an inline table whose slots are sorted.
use Rattle.std.proofs.Common.{◌≡◌, Bool, true, false, List, refl, sym, ap, subst, ◌∙◌, rules}
use Rattle.toml_edit_model.specs.Lists.{is_dotted_inline, slot_list, slots_from}
use Rattle.toml_edit_model.specs.Slots as model
use Rattle.toml_edit_model.specs.Sorting.{ReordersItem, ReordersItems, others_first}
use Rattle.toml_edit_model.specs.Tree.{Key, Node, inline, is_value_node, InlineFields}
use Rattle.toml_edit_laws.proofs.slots.Lists.{slot_list-from}
use Rattle.toml_edit_slots.specs.declared.slots.Slot.{Slot}
use Rattle.toml_edit_tree.specs.declared.array_of_tables.ArrayOfTables.{ArrayOfTables}
use Rattle.toml_edit_tree.specs.declared.inline_table.InlineTable.{InlineTable, out-InlineTable}
use Rattle.toml_edit_tree.specs.declared.item.Item.{Item, the_lemmas}
use Rattle.toml_edit_tree.specs.declared.item.Item.TheVariants as items
use Rattle.toml_edit_tree.specs.declared.item.Item.TheViews.{roll-InlineTable}
use Rattle.toml_edit_tree.specs.declared.table.Table.{Table}
use Rattle.toml_edit_tree.specs.declared.value.Value.{Value}
use Rattle.toml_edit_tree.specs.declared.value.Value.TheVariants as values
use Rattle.toml_edit_tree.proofs.ViewLaws.{inline_slots, view-ArrayOfTables, view-InlineTable, view-None, view-Table, view-Value}
use Rattle.toml_edit_tree.specs.Containers.{inline_node}
use Rattle.toml_edit_tree.specs.InlineSlots.{inline_fields}
use Rattle.toml_edit_tree.specs.SlotsOf.{inline_slots_of}
use Rattle.toml_edit_tree.specs.Sorts.{items_seen}
use Rattle.toml_edit_tree.specs.View.{inline_view, item_view, slots_view, value_view}
use Rattle.toml_edit_tree.proofs.InlineLaws.{made_inline_fields}
use Rattle.toml_edit_tree.proofs.SlotsLaws.{inline-shown}
use Rattle.toml_edit_tree.proofs.SortLaws.{list-seen, view-seen}

-- ---- an inline table

pub inline-list-of : (t : InlineTable) → inline_slots_of t ≡ items_seen (out-InlineTable t).items
inline-list-of t = inline-shown t ∙ list-seen (out-InlineTable t).items

-- the inline table with these slots
abbrev pub with_slots : InlineTable → List (Slot Item) → InlineTable
with_slots t fs = roll-InlineTable (record (out-InlineTable t) { items = fs })

made-slots : (t : InlineTable) (fs : List (Slot Item)) → (inline_view (with_slots t fs)).slots ≡ slots_view fs
made-slots t fs = search (rules, the_lemmas)

-- a relation of slots, of an inline table and of it with others
pub of_inline : (R : List (model.Slot Node) → List (model.Slot Node) → Type 0) (t : InlineTable) (fs : List (Slot Item))
    → R (items_seen (out-InlineTable t).items) (items_seen fs)
    → R (inline_slots_of t) (inline_slots_of (with_slots t fs))
of_inline R t fs r =
    subst (λ l. R l (inline_slots_of (with_slots t fs))) (sym (inline-list-of t))
    (subst (λ l. R (items_seen (out-InlineTable t).items) l) (sym (ap slot_list (made-slots t fs) ∙ list-seen fs)) r)

pub none-passed : (x : Item) → x ≡ items.None → is_dotted_inline (item_view x) ≡ false
none-passed x is = ap (λ y. is_dotted_inline (item_view y)) is ∙ ap is_dotted_inline view-None

pub table-passed : (x : Item) (t : Table) → x ≡ items.Table t → is_dotted_inline (item_view x) ≡ false
table-passed x t is = ap (λ y. is_dotted_inline (item_view y)) is ∙ ap is_dotted_inline (view-Table t)

pub tables-passed : (x : Item) (a : ArrayOfTables) → x ≡ items.ArrayOfTables a → is_dotted_inline (item_view x) ≡ false
tables-passed x a is = ap (λ y. is_dotted_inline (item_view y)) is ∙ ap is_dotted_inline (view-ArrayOfTables a)

-- what is lent of an item is its value, and of a value its inline table
pub item-entered : (R : List (model.Slot Node) → List (model.Slot Node) → Type 0) (lent v w : Value) → lent ≡ v
    → ReordersItem is_dotted_inline R (value_view lent) (value_view w)
    → ReordersItem is_dotted_inline R (item_view (items.Value v)) (item_view (items.Value w))
item-entered R lent v w same r =
    subst (λ n. ReordersItem is_dotted_inline R n (item_view (items.Value w))) (sym (view-Value v ∙ ap value_view (sym same)))
    (subst (λ n. ReordersItem is_dotted_inline R (value_view lent) n) (sym (view-Value w)) r)

pub value-entered : (R : List (model.Slot Node) → List (model.Slot Node) → Type 0) (lent t u : InlineTable) → lent ≡ t
    → ReordersItem is_dotted_inline R (inline_node (inline_view lent)) (inline_node (inline_view u))
    → ReordersItem is_dotted_inline R (value_view (values.InlineTable t)) (value_view (values.InlineTable u))
value-entered R lent t u same r =
    subst (λ n. ReordersItem is_dotted_inline R n (value_view (values.InlineTable u))) (sym (view-InlineTable t
    ∙ ap (λ y. inline_node (inline_view y)) (sym same)))
    (subst (λ n. ReordersItem is_dotted_inline R (inline_node (inline_view lent)) n) (sym (view-InlineTable u)) r)

-- a dotted inline table whose slots went from these to those
entered : (R : List (model.Slot Node) → List (model.Slot Node) → Type 0) (f : InlineFields) (es fs : List (Slot Item)) → f.is_dotted ≡ true
    → (mid : List (model.Slot Node)) × R (items_seen es) mid × ReordersItems is_dotted_inline R mid (slots_from (items_seen fs))
    → ReordersItem is_dotted_inline R (inline f (slots_view es)) (inline f (slots_view fs))
entered R f es fs dotted r =
    rw (view-seen es, view-seen fs, dotted)
    (slots_from (items_seen es), r.0, refl, subst (λ l. R l r.0) (sym (slot_list-from (items_seen es))) r.1, r.2)

pub inline-entered : (R : List (model.Slot Node) → List (model.Slot Node) → Type 0) (t : InlineTable) (fs : List (Slot Item))
    → (inline_fields t).is_dotted ≡ true
    → (mid : List (model.Slot Node)) × R (items_seen (out-InlineTable t).items) mid
    × ReordersItems is_dotted_inline R mid (slots_from (items_seen fs))
    → ReordersItem is_dotted_inline R (inline_node (inline_view t)) (inline_node (inline_view (with_slots t fs)))
inline-entered R t fs dotted r =
    let after : InlineTable = with_slots t fs in
    let old : inline_node (inline_view t) ≡ inline (inline_fields t) (slots_view (out-InlineTable t).items) =
    ap (inline (inline_fields t)) (inline_slots t) in
    let new : inline_node (inline_view after) ≡ inline (inline_fields t) (slots_view fs) =
    ap (λ f. inline f (inline_view after).slots) (made_inline_fields t fs) ∙ ap (inline (inline_fields t)) (made-slots t fs) in
    subst (λ n. ReordersItem is_dotted_inline R n (inline_node (inline_view after))) (sym old)
    (subst (λ n. ReordersItem is_dotted_inline R (inline (inline_fields t) (slots_view (out-InlineTable t).items)) n) (sym new)
    (entered R (inline_fields t) (out-InlineTable t).items fs dotted r))

-- ---- two slots with values

pub both-first : (lt : model.Slot Node → model.Slot Node → Bool) (k l : Key) (m n x y : Node) (b : Bool) → is_value_node m ≡ true → x ≡ m
    → is_value_node n ≡ true → y ≡ n
    → b ≡ lt (record { key = k; item = x }) (record { key = l; item = y })
    → b ≡ others_first (λ t. is_value_node t.item) lt (record { key = k; item = m }) (record { key = l; item = n })
both-first lt k l m n x y b one same other alike e = rw (one, other, ← same, ← alike) e
