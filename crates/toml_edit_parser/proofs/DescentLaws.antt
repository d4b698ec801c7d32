-- What the functions of the descent along a path ask of each other, and where their texts lie.
use Rattle.std.proofs.Common.{◌≡◌, ◌<◌, ℕ, zero, suc, List, [], ◌∷◌, length, refl, sym, ap, ◌∙◌, subst, arith, rules, true, false, Option}
use Rattle.std.proofs.Common.{Some, slice_get}
use Rattle.std.specs.Prelude.{Result, Ok, Err, OnOk}
use Rattle.std.proofs.lemmas.Option.{same_Some}
use Rattle.toml_edit_model.specs.Text.{Text}
use Rattle.toml_edit_model.specs.Spelling.{SpellsKey}
use Rattle.toml_edit_model.specs.Syntax.{Segment, path_text}
use Rattle.toml_edit_model.specs.Faults.{duplicate_key}
use Rattle.toml_edit_model.specs.Paths.{Path, Mention, line_mentions}
use Rattle.toml_edit_model.specs.Roles.{dotted_role}
use Rattle.toml_edit_model.specs.Tree.{Raw, Decor, Key, Extent, Node, Slots, nothing, leaf, list, inline, table, tables, is_value_node}
use Rattle.toml_edit_model.specs.Scalars.{Scalar}
use Rattle.toml_edit_model.specs.TreeOf.{Entry}
use Rattle.toml_edit_laws.specs.FlatTree.{with_slot}
use Rattle.toml_edit_laws.specs.InlineTree.{entry_clash, path_fields, way_message}
use Rattle.toml_edit_laws.specs.Standing.{Stands}
use Rattle.toml_edit_laws.specs.TableClash.{table_way_message}
use Rattle.toml_edit_error.specs.Fault.{IfToml}
use Rattle.toml_edit_error.specs.declared.toml_error.ParseFault.{ParseFault}
use Rattle.toml_edit_slots.specs.declared.slots.Slot as repr
use Rattle.toml_edit_slots.specs.Slots.{items_of, with_item}
use Rattle.toml_edit_syntax.specs.declared.event.Event.{Event}
use Rattle.toml_edit_syntax.specs.declared.event.Span.{Span}
use Rattle.toml_edit_syntax.specs.Events.{IsSpanOf}
use Rattle.toml_edit_tree.specs.declared.array_of_tables.ArrayOfTables.{ArrayOfTables}
use Rattle.toml_edit_tree.specs.declared.inline_table.InlineTable.{InlineTable}
use Rattle.toml_edit_tree.specs.declared.item.Item.{Item, out-Item, the_lemmas}
use Rattle.toml_edit_tree.specs.declared.item.Item.TheOpen.{Item-F, Value-F}
use Rattle.toml_edit_tree.specs.declared.item.Item.TheVariants as items
use Rattle.toml_edit_tree.specs.declared.item.Item.TheViews.{roll-Item, roll-Value}
use Rattle.toml_edit_tree.specs.declared.table.Table.{Table}
use Rattle.toml_edit_tree.specs.declared.value.Value.{Value, out-Value}
use Rattle.toml_edit_tree.specs.declared.value.Value.TheVariants as values
use Rattle.toml_edit_tree.specs.declared.array.Array.{Array}
use Rattle.toml_edit_parser.specs.declared.key.KeyPath.{KeyPath}
use Rattle.toml_edit_parser.specs.PairRead.{AddsEntry, AddsInside, IsEndOfPath, IsPathAt, IsPathIn, NamesClash, PathView, path_of}
use Rattle.toml_edit_parser.specs.PairRead.{split_dot}
use Rattle.toml_edit_tree.specs.Containers.{ArrayView, InlineView, array_node, inline_node}
use Rattle.toml_edit_parser.specs.ValueRead.{AreIn, split_first}
use Rattle.toml_edit_tree.specs.View.{item_view, slots_view, value_view}
use Rattle.toml_edit_parser.proofs.EntryLaws.{Stops, first_of, key-spelled, new-refused, same_dots, went-on}
use Rattle.toml_edit_parser.proofs.ReadLaws.{mapped}
use Rattle.toml_edit_parser.proofs.SlotLaws.{fits-with_slot}
use Rattle.toml_edit_parser.proofs.ViewLaws.{rolled, view-Array, view-Boolean, view-Datetime, view-Float, view-Integer, view-String}
use Rattle.toml_edit_model.specs.OwnedForm.{KeyFits, NodeFits, SlotsFit, cut_out}

-- ---- refusals

-- the name of a path's first key can't be refused
pub name-refused : (source : Text) (e : Entry) (p : List Segment) (start : ℕ) (above : Path) (path : KeyPath) (first : Event)
    (rest : List Event) (old : Slots)
    (err : ParseFault) → IsEndOfPath p → Stands source start (path_text p) → IsPathAt e start p path → Some (first, rest)
    ≡ split_first path.events.now
    → ((k : Text) → SpellsKey k (cut_out source first.span.start first.span.end) → IfToml err (λ r. ⊥))
    → IfToml err (NamesClash source (entry_clash (line_mentions e start above p) old))
name-refused source e [] start above path first rest old err are stands at split told = absurd (let g = are.some in cc)
name-refused source e (s ∷ p) start above path first rest old err are stands at split told =
    let parts = first_of start s p path.events.now first rest at.2 split in
    mapped err (λ r. ⊥) _ (λ r none. absurd none) (told s.key (key-spelled source s p start first are stands parts.0))

-- nothing stands in the way below a new key
pub below-refused : (source : Text) (ms : List (Mention Entry)) (es : List (repr.Slot Item)) (err : ParseFault) → es ≡ []
    → IfToml err (NamesClash source (entry_clash ms (slots_view es))) → IfToml err (λ r. ⊥)
below-refused source ms es err new h =
    new-refused source ms err (λ r. ⊥) (subst (λ (xs : List (repr.Slot Item)). IfToml err
    (NamesClash source (entry_clash ms (slots_view xs)))) new h)

-- ---- where the parts of a path lie

-- the parts after a dot
pub dot_in : (t : Text) (path : KeyPath) (after : Span) (inside : KeyPath) (rest : List Event)
    → ◌≡◌ {A = Option (Span × PathView)} (Some (after, path_of inside)) (split_dot path rest) → AreIn t rest → IsSpanOf t path.prefix
    → IsSpanOf t path.suffix
    → IsSpanOf t after × IsPathIn t inside × (length inside.events.now < length rest)
dot_in t path after inside [] dot h prefix suffix = absurd cc
dot_in t path after inside (a ∷ []) dot h prefix suffix = absurd cc
dot_in t path after inside (a ∷ b ∷ es) dot h prefix suffix =
    let dots = same_dots after a.span (path_of inside) _ dot in (
      subst (IsSpanOf t) (sym dots.0) h.0,
      record {
        prefix = subst (IsSpanOf t) (sym (ap (λ (v : PathView). v.prefix) dots.1)) prefix;
        suffix = subst (IsSpanOf t) (sym (ap (λ (v : PathView). v.suffix) dots.1)) suffix;
        before = subst (IsSpanOf t) (sym (ap (λ (v : PathView). v.before) dots.1)) h.1.0;
        events = subst (AreIn t) (sym (ap (λ (v : PathView). v.events) dots.1)) h.1.1;
      },
      let n = ap (λ (v : PathView). length v.events) dots.1 in omega arith,
    )

-- ---- what fits a text

pub on_ok : {A E : Type 0} {P Q : Type 0} (r : Result A E) → OnOk r P → (P → Q) → OnOk r Q
on_ok (Ok x) h f = f h
on_ok (Err e) h f = tt

-- an item that stands in slots
pub fits-found : (t : Text) (es : List (repr.Slot Item)) (at : ℕ) (x : Item) → SlotsFit t (slots_view es) → Some x
    ≡ slice_get (items_of es) at → NodeFits t (item_view x)
fits-found t [] at x h there = absurd cc
fits-found t (e ∷ es) zero x h there = subst (λ (y : Item). NodeFits t (item_view y)) (sym (same_Some x e.item there)) h.1
fits-found t (e ∷ es) (suc at) x h there = fits-found t es at x h.2 there

-- slots with another item at a place
pub fits-put : (t : Text) (es : List (repr.Slot Item)) (at : ℕ) (y : Item) → SlotsFit t (slots_view es) → NodeFits t (item_view y)
    → SlotsFit t (slots_view (with_item at y es))
fits-put t [] at y h n = h
fits-put t (e ∷ es) zero y h n = (h.0, n, h.2)
fits-put t (e ∷ es) (suc at) y h n = (h.0, h.1, fits-put t es at y h.2 n)

-- slots with a new key that holds a dotted inline table
pub fits-below : (t : Text) (es : List (repr.Slot Item)) (k : Key) (extent : Extent) (inner : Slots) (holder : Node) (new : Slots)
    → KeyFits t k
    → SlotsFit t (slots_view es) → SlotsFit t inner → holder ≡ inline (path_fields extent) inner → new ≡ with_slot (slots_view es) k holder
    → SlotsFit t new
fits-below t es k extent inner holder new key slots fits held is =
    subst (SlotsFit t) (sym (is ∙ ap (with_slot (slots_view es) k) held))
    (fits-with_slot t (slots_view es) k (inline (path_fields extent) inner) slots key ((tt, tt), tt, fits))

-- ---- the item at a key

-- it goes on in the slots of an inline table
pub went-in : {A : Type 0} (source : Text) (m : Mention Entry) (ms : List (Mention Entry)) (n : Node) (held left : InlineView)
    (old new : Slots)
    (result : Result A ParseFault) → held.fields.is_dotted ≡ true → old ≡ held.slots → left ≡ record { fields = held.fields; slots = new }
    → AddsEntry source ms n old new result → AddsInside source m ms n (inline_node held) (inline_node left) result
went-in source m ms n held left old new result dotted was is h =
    subst (λ (v : InlineView). AddsInside source m ms n (inline_node held) (inline_node v) result) (sym is)
    (went-on source m ms n held.fields held.slots new result dotted (subst (λ (ss : Slots). AddsEntry source ms n ss new result) was h))

-- an inline table with other slots
pub fits-in : (t : Text) (held left : InlineView) (new : Slots) → left ≡ record { fields = held.fields; slots = new }
    → NodeFits t (inline_node held)
    → SlotsFit t new → NodeFits t (inline_node left)
fits-in t held left new is h fits = subst (λ (v : InlineView). NodeFits t (inline_node v)) (sym is) (h.0, h.1, fits)

-- a path stops there, and its message is the same in an inline table as in a table
record StopsAlike (n : Node) : Type 0 where
  stops : Stops n
  same : table_way_message dotted_role n ≡ way_message dotted_role n

alike_leaf : (n : Node) (s : Scalar) (spelling : Option Raw) (d : Decor) → n ≡ leaf s spelling d → StopsAlike n
alike_leaf n s spelling d e = subst StopsAlike (sym e) (record { stops = tt; same = refl })

alike_list : (n : Node) (a : ArrayView) → n ≡ array_node a → StopsAlike n
alike_list n a e = subst StopsAlike (sym e) (record { stops = tt; same = refl })

alike_open : (o : Value-F Item Value Array ArrayOfTables InlineTable Table) → ((t : InlineTable) → roll-Value o ≡ values.InlineTable t → ⊥)
    → StopsAlike (value_view (roll-Value o))
unfolding roll-Value denote.Hole.Carrier.roll
alike_open (Value-F.String f) h = alike_leaf _ _ _ _ (view-String f)
alike_open (Value-F.Integer f) h = alike_leaf _ _ _ _ (view-Integer f)
alike_open (Value-F.Float f) h = alike_leaf _ _ _ _ (view-Float f)
alike_open (Value-F.Boolean f) h = alike_leaf _ _ _ _ (view-Boolean f)
alike_open (Value-F.Datetime f) h = alike_leaf _ _ _ _ (view-Datetime f)
alike_open (Value-F.Array a) h = alike_list _ _ (view-Array a)
alike_open (Value-F.InlineTable t) h = absurd (h t refl)

stops_alike : (v : Value) → ((t : InlineTable) → v ≡ values.InlineTable t → ⊥) → StopsAlike (value_view v)
stops_alike v h = subst (λ (w : Value). StopsAlike (value_view w)) (rolled v) (alike_open (out-Value v) (λ t e. h t (sym (rolled v) ∙ e)))

-- a value that is no inline table stops a path
pub stops-other : (v : Value) → ((t : InlineTable) → v ≡ values.InlineTable t → ⊥) → Stops (value_view v)
stops-other v h = (stops_alike v h).stops

-- the message of such a value, in a table and in an inline table
pub same-way : (v : Value) → ((t : InlineTable) → v ≡ values.InlineTable t → ⊥)
    → table_way_message dotted_role (value_view v) ≡ way_message dotted_role (value_view v)
same-way v h = (stops_alike v h).same

-- so does an item that is no value, where the key stands already
pub stops-empty : (n : Node) → is_value_node n ≡ false → Stops n × (duplicate_key ≡ way_message dotted_role n)
stops-empty nothing h = (tt, refl)
stops-empty (table f ss) h = (tt, refl)
stops-empty (tables e xs) h = (tt, refl)
stops-empty (leaf s spelling d) h = absurd cc
stops-empty (list f xs) h = absurd cc
stops-empty (inline f ss) h = absurd cc

stops_item : (o : Item-F Item Value Array ArrayOfTables InlineTable Table) → ((v : Value) → roll-Item o ≡ items.Value v → ⊥)
    → is_value_node (item_view (roll-Item o)) ≡ false
stops_item (Item-F.Value v) h = absurd (h v (search (rules, the_lemmas)))
stops_item Item-F.None h = search (rules, the_lemmas)
stops_item (Item-F.Table t) h = search (rules, the_lemmas)
stops_item (Item-F.ArrayOfTables a) h = search (rules, the_lemmas)

rolled-item : (x : Item) → x ≡ roll-Item (out-Item x)
rolled-item x = search (rules, the_lemmas)

pub no-value : (x : Item) → ((v : Value) → x ≡ items.Value v → ⊥) → is_value_node (item_view x) ≡ false
no-value x h =
    ap (λ y. is_value_node (item_view y)) (rolled-item x) ∙ stops_item (out-Item x) (λ v e. h v (rolled-item x ∙ e))
