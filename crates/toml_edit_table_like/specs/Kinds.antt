-- A table and an inline table as what is made of slots.
use Rattle.std.specs.Prelude.{◌≡◌, Bool, false, List}
use Rattle.std.proofs.Common.{rules, refl, ap}
use Rattle.toml_edit_model.specs.Lists.{slot_list}
use Rattle.toml_edit_model.specs.Tree.{Node, inline, table, no_slots}
use Rattle.toml_edit_model.specs.TableLike.{Differences, of_inline_table, of_table}
use Rattle.toml_edit_slots.specs.declared.slots.Slot.{Slot}
use Rattle.toml_edit_tree.specs.ContainerParts.{holding, table_holding}
use Rattle.toml_edit_tree.specs.InlineSlots.{inline_fields}
use Rattle.toml_edit_tree.specs.SlotsOf.{inline_slots_of, slots_of}
use Rattle.toml_edit_tree.specs.View.{fields_view, inline_view, slots_view, table_slots}
use Rattle.toml_edit_tree.specs.declared.inline_table.InlineTable.{InlineTable, out-InlineTable}
use Rattle.toml_edit_tree.specs.declared.item.Item.{Item, the_lemmas}
use Rattle.toml_edit_tree.specs.declared.table.Table.{Table, out-Table}
use Rattle.toml_edit_table_like.specs.Shown.{shown}

-- the table without its slots
abbrev pub table_beside : Table → Node
table_beside t = table (fields_view t) no_slots

abbrev pub inline_beside : InlineTable → Node
inline_beside t = inline (inline_fields t) no_slots

-- whether a table of either kind is there for a dotted key, and the table that is or isn't
abbrev pub stands_dotted : Node → Bool
stands_dotted (table f ss) = f.is_dotted
stands_dotted (inline f ss) = f.is_dotted
stands_dotted n = false

abbrev pub with_dotted : Bool → Node → Node
with_dotted b (table f ss) = table (record f { is_dotted = b }) ss
with_dotted b (inline f ss) = inline (record f { is_dotted = b }) ss
with_dotted b n = n

-- in what a table of its kind differs from one of the other
abbrev pub differences_of : Node → Differences
differences_of (inline f ss) = of_inline_table
differences_of n = of_table

-- the slots with their items
abbrev pub table_entries : Table → List (Slot Item)
table_entries t = (out-Table t).slots

abbrev pub inline_entries : InlineTable → List (Slot Item)
inline_entries t = (out-InlineTable t).items

-- ---- the slots are seen in these, and others change nothing else

table_seen : (t : Table) → table_slots t ≡ slots_view (out-Table t).slots
table_seen t = search (rules, the_lemmas)

inline_seen : (t : InlineTable) → (inline_view t).slots ≡ slots_view (out-InlineTable t).items
inline_seen t = search (rules, the_lemmas)

pub table_shows : (t : Table) → slots_of t ≡ shown (table_entries t)
table_shows t = ap slot_list (table_seen t)

pub inline_shows : (t : InlineTable) → inline_slots_of t ≡ shown (inline_entries t)
inline_shows t = ap slot_list (inline_seen t)

pub table_takes : (es : List (Slot Item)) (t : Table) → table_entries (table_holding es t) ≡ es
table_takes es t = refl

pub inline_takes : (es : List (Slot Item)) (t : InlineTable) → inline_entries (holding es t) ≡ es
inline_takes es t = refl

same_fields : (t : Table) (es : List (Slot Item)) → fields_view (table_holding es t) ≡ fields_view t
same_fields t es = search (rules, the_lemmas)

same_inline_fields : (t : InlineTable) (es : List (Slot Item))
    → inline_fields (holding es t) ≡ inline_fields t
same_inline_fields t es = search (rules, the_lemmas)

pub table_keeps : (es : List (Slot Item)) (t : Table)
    → table_beside (table_holding es t) ≡ table_beside t
table_keeps es t = ap (λ f. table f no_slots) (same_fields t es)

pub inline_keeps : (es : List (Slot Item)) (t : InlineTable)
    → inline_beside (holding es t) ≡ inline_beside t
inline_keeps es t = ap (λ f. inline f no_slots) (same_inline_fields t es)

pub table_again : (es fs : List (Slot Item)) (t : Table)
    → table_holding es (table_holding fs t) ≡ table_holding es t
table_again es fs t = refl

pub inline_again : (es fs : List (Slot Item)) (t : InlineTable)
    → holding es (holding fs t) ≡ holding es t
inline_again es fs t = refl

pub table_stays : (t : Table) → table_holding (table_entries t) t ≡ t
table_stays t = search (rules, the_lemmas)

pub inline_stays : (t : InlineTable) → holding (inline_entries t) t ≡ t
inline_stays t = search (rules, the_lemmas)
