-- The keys and values of lines, slot by slot.
use Rattle.std.proofs.Common.{◌≡◌, refl, ℕ, ◌+◌, ◌<◌, ◌≤◌, Bool, true, false, List, [], ◌∷◌, ◌++◌, length, get_or, drop, map, sym, ap, ◌∙◌}
use Rattle.std.proofs.Common.{append_assoc, append-nil, rules}
use Rattle.std.specs.Prelude.{◌||◌, if◌then◌else◌}
use Rattle.std.proofs.lemmas.List.{at_drop_all, map-append}
use Rattle.toml_edit_model.specs.Iterating.{inline_values, line_value, table_values}
use Rattle.toml_edit_model.specs.Mode.{plain}
use Rattle.toml_edit_model.specs.Print.{Line, inside_lines, is_line_node, table_lines}
use Rattle.toml_edit_model.specs.Tree.{Key, Node, leaf, list, inline, table, tables, nothing, Slots, TableFields, is_value_node}
use Rattle.toml_edit_laws.proofs.slots.Lists.{slots_from-list}
use Rattle.toml_edit_slots.specs.declared.slots.Slot.{Slot}
use Rattle.toml_edit_tree.specs.Containers.{tables_node}
use Rattle.toml_edit_tree.specs.Printing.{lines_in_table, lines_of_item}
use Rattle.toml_edit_tree.specs.SlotsOf.{inline_slots_of, slots_of}
use Rattle.toml_edit_tree.specs.Visits.{shown_item, shown_lines}
use Rattle.toml_edit_tree.specs.declared.array_of_tables.ArrayOfTables.{ArrayOfTables}
use Rattle.toml_edit_tree.specs.declared.inline_table.InlineTable.{InlineTable, out-InlineTable}
use Rattle.toml_edit_tree.specs.declared.item.Item.{Item, the_lemmas}
use Rattle.toml_edit_tree.specs.declared.item.Item.TheVariants as items
use Rattle.toml_edit_tree.specs.declared.table.Table.{Table, out-Table}
use Rattle.toml_edit_tree.specs.declared.value.Value.{Value}
use Rattle.toml_edit_tree.specs.declared.value.Value.TheVariants as values
use Rattle.toml_edit_tree.specs.View.{inline_view, item_view, slots_view, table_view, tables_view, value_view}
use Rattle.toml_edit_tree.proofs.PairTextLaws.{one-line}
use Rattle.toml_edit_tree.proofs.TurnLaws.{from-slot, from-slot-in-table, value-node}
use Rattle.toml_edit_tree.proofs.ValueLines.{braced-line, dotted-value, other-line}
use Rattle.toml_edit_tree.proofs.ViewLaws.{inline_slots, table_slots, view-ArrayOfTables, view-None, view-Table, view-Value}

abbrev pub Shown : Type 0
Shown = List Key × Node

-- ---- the slots of a table, or of an inline table

split-lines : (own rest all : List Line) → all ≡ own ++ rest → map line_value all ≡ map line_value own ++ map line_value rest
split-lines own rest all split = ap (map line_value) split ∙ map-append line_value own rest

module _ (is_inside : Bool) (es : List (Slot Item)) (i : ℕ) (ks : List Key) where
  abbrev to_come : ℕ → List Shown
  to_come j = shown_lines is_inside (slots_view (drop j es)) ks

  module _ (s : Slot Item) (h : i < length es) (is : s ≡ get_or es i s) where
    abbrev own : List Shown
    own = shown_item is_inside (item_view s.item) (ks ++ (s.key ∷ []))

    -- the lines of a slot, and those to come
    pub first-slot : to_come i ≡ own ++ to_come (i + 1)
    first-slot =
        by_place is_inside
      where
        by_place : (b : Bool) → shown_lines b (slots_view (drop i es)) ks
            ≡ shown_item b (item_view s.item) (ks ++ (s.key ∷ [])) ++ shown_lines b (slots_view (drop (i + 1) es)) ks
        by_place true =
            split-lines (lines_of_item plain (item_view s.item) (ks ++ (s.key ∷ []))) (inside_lines plain (slots_view (drop (i + 1) es)) ks)
            (inside_lines plain (slots_view (drop i es)) ks) (from-slot plain es i s h is ks)
        by_place false =
            split-lines (lines_in_table plain (item_view s.item) (ks ++ (s.key ∷ [])))
            (table_lines plain (slots_view (drop (i + 1) es)) ks) (table_lines plain (slots_view (drop i es)) ks)
            (from-slot-in-table plain es i s h is ks)

    pub shown-turn : (done all : List Shown) → done ++ to_come i ≡ all → (done ++ own) ++ to_come (i + 1) ≡ all
    shown-turn done all more =
        append_assoc done own (to_come (i + 1)) ∙ ap (λ (l : List Shown). done ++ l) (sym first-slot) ∙ more

  -- none are left
  pub shown-end : length es ≤ i → (done all : List Shown) → done ++ to_come i ≡ all → done ≡ all
  shown-end h done all more =
      sym (append-nil done)
      ∙ ap (λ (l : List Shown). done ++ l)
      (sym (at_drop_all (λ fs. shown_lines is_inside (slots_view fs) ks) es i h ∙ by_place is_inside)) ∙ more
    where
      by_place : (b : Bool) → shown_lines b (slots_view []) ks ≡ []
      by_place true = refl
      by_place false = refl

-- ---- the item of a slot

-- a value gives the same lines in a table
value-lines : (n : Node) (ks : List Key) → is_value_node n ≡ true → lines_in_table plain n ks ≡ lines_of_item plain n ks
value-lines (leaf s spelling d) ks h = refl
value-lines (list f xs) ks h = refl
value-lines (inline f ss) ks h = refl
value-lines (table f ss) ks h = absurd cc
value-lines (tables e xs) ks h = absurd cc
value-lines nothing ks h = absurd cc

pub value-shown : (is_inside : Bool) (x : Item) (v : Value) (ks : List Key) → x ≡ items.Value v
    → shown_item true (value_view v) ks ≡ shown_item is_inside (item_view x) ks
value-shown true x v ks is = sym (ap (λ (y : Item). shown_item true (item_view y) ks) is ∙ ap (λ (n : Node). shown_item true n ks) (view-Value v))
value-shown false x v ks is =
    sym (ap (λ (y : Item). shown_item false (item_view y) ks) is ∙ ap (λ (n : Node). shown_item false n ks) (view-Value v)
    ∙ ap (map line_value) (value-lines (value_view v) ks (sym (ap is_value_node (view-Value v)) ∙ value-node (items.Value v) v refl)))

-- so does a table that is entered
table-dotted : (t : Table) → (table_view t).fields.is_dotted ≡ (out-Table t).dotted
table-dotted t = search (rules, the_lemmas)

table-lines : (is_inside : Bool) (f : TableFields) (ss : Slots) (ks : List Key) → is_inside || f.is_dotted ≡ true
    → shown_lines is_inside ss ks ≡ shown_item is_inside (table f ss) ks
table-lines true f ss ks h = refl
table-lines false f ss ks h =
    sym (ap (λ (b : Bool). map line_value (if b then table_lines plain ss ks else [])) h)

pub table-shown : (is_inside : Bool) (x : Item) (t : Table) (ks : List Key) → x ≡ items.Table t → is_inside || (out-Table t).dotted ≡ true
    → shown_lines is_inside (slots_view (out-Table t).slots) ks ≡ shown_item is_inside (item_view x) ks
table-shown is_inside x t ks is enters =
    ap (λ (ss : Slots). shown_lines is_inside ss ks) (sym (table_slots t))
    ∙ table-lines is_inside (table_view t).fields (table_view t).slots ks (ap (λ (b : Bool). is_inside || b) (table-dotted t) ∙ enters)
    ∙ sym (ap (λ (n : Node). shown_item is_inside n ks) (ap item_view is ∙ view-Table t))

-- any other has none there
table-left : (f : TableFields) (ss : Slots) (ks : List Key) → f.is_dotted ≡ false → [] ≡ shown_item false (table f ss) ks
table-left f ss ks h = sym (ap (λ (b : Bool). map line_value (if b then table_lines plain ss ks else [])) h)

pub table-left-out : (is_inside : Bool) (x : Item) (t : Table) (ks : List Key) → x ≡ items.Table t → is_inside ≡ false
    → (out-Table t).dotted ≡ false → [] ≡ shown_item is_inside (item_view x) ks
table-left-out is_inside x t ks is outside h =
    table-left (table_view t).fields (table_view t).slots ks (table-dotted t ∙ h)
    ∙ sym (ap (λ (n : Node). shown_item false n ks) (ap item_view is ∙ view-Table t))
    ∙ ap (λ (b : Bool). shown_item b (item_view x) ks) (sym outside)

-- anything else has none anywhere
pub nothing-shown : (is_inside : Bool) (x : Item) (ks : List Key) → x ≡ items.None → [] ≡ shown_item is_inside (item_view x) ks
nothing-shown is_inside x ks is =
    sym (ap (λ (y : Item). shown_item is_inside (item_view y) ks) is ∙ ap (λ (n : Node). shown_item is_inside n ks) view-None
    ∙ by_place is_inside)
  where
    by_place : (b : Bool) → shown_item b nothing ks ≡ []
    by_place true = refl
    by_place false = refl

pub tables-shown : (is_inside : Bool) (x : Item) (a : ArrayOfTables) (ks : List Key) → x ≡ items.ArrayOfTables a
    → [] ≡ shown_item is_inside (item_view x) ks
tables-shown is_inside x a ks is =
    sym (ap (λ (y : Item). shown_item is_inside (item_view y) ks) is ∙ ap (λ (n : Node). shown_item is_inside n ks) (view-ArrayOfTables a)
    ∙ by_place is_inside)
  where
    by_place : (b : Bool) → shown_item b (tables_node (tables_view a)) ks ≡ []
    by_place true = refl
    by_place false = refl

-- ---- a value

pub dotted-shown : (v : Value) (t : InlineTable) (ks : List Key) → v ≡ values.InlineTable t → (out-InlineTable t).dotted ≡ true
    → shown_lines true (slots_view (out-InlineTable t).items) ks ≡ shown_item true (value_view v) ks
dotted-shown v t ks is dotted = sym (ap (map line_value) (dotted-value plain v t ks is dotted))

line-alone : (n : Node) (ks : List Key) → is_line_node n ≡ true → (ks, n) ∷ [] ≡ shown_item true n ks
line-alone n ks h = sym (ap (map line_value) (one-line plain n ks h))

pub braced-shown : (v : Value) (t : InlineTable) (ks : List Key) → v ≡ values.InlineTable t → (out-InlineTable t).dotted ≡ false
    → (ks, value_view v) ∷ [] ≡ shown_item true (value_view v) ks
braced-shown v t ks is braced = line-alone (value_view v) ks (braced-line v t is braced)

pub other-shown : (v : Value) (ks : List Key) → ((t : InlineTable) → v ≡ values.InlineTable t → ⊥)
    → (ks, value_view v) ∷ [] ≡ shown_item true (value_view v) ks
other-shown v ks h = line-alone (value_view v) ks (other-line v h)

-- ---- the lines of a whole table, and of an inline table

pub table-whole : (t : Table) (start all : List Shown) → start ≡ []
    → all ≡ start ++ shown_lines false (slots_view (out-Table t).slots) [] → all ≡ table_values (slots_of t)
table-whole t start all none added =
    added
    ∙ ap (λ (l : List Shown). l ++ shown_lines false (slots_view (out-Table t).slots) []) none
    ∙ ap (λ (ss : Slots). shown_lines false ss []) (sym (table_slots t) ∙ sym (slots_from-list (table_view t).slots))

pub inline-whole : (t : InlineTable) (start all : List Shown) → start ≡ []
    → all ≡ start ++ shown_lines true (slots_view (out-InlineTable t).items) [] → all ≡ inline_values (inline_slots_of t)
inline-whole t start all none added =
    added
    ∙ ap (λ (l : List Shown). l ++ shown_lines true (slots_view (out-InlineTable t).items) []) none
    ∙ ap (λ (ss : Slots). shown_lines true ss []) (sym (inline_slots t) ∙ sym (slots_from-list (inline_view t).slots))
