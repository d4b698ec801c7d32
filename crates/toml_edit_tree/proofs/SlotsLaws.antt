-- A clause on slots, as a table or an inline table shows it.
use Rattle.std.proofs.Common.{◌≡◌, ℕ, suc, Bool, true, false, List, [], ◌∷◌, Option, Some, None, cond, length, map}
use Rattle.std.proofs.Common.{option_and_then, option_map, is_some, refl, sym, ap, subst, ◌∙◌, inl, inr, rules}
use Rattle.std.proofs.lemmas.Bool.{cases_Bool}
use Rattle.std.specs.List.{IsDistinct}
use Rattle.std.specs.Option.{option_map_or}
use Rattle.toml_edit_model.specs.Lists.{is_tables_node, slot_list}
use Rattle.toml_edit_model.specs.Retaining.{RetainsBy}
use Rattle.toml_edit_model.specs.Shown.{is_table_node}
use Rattle.toml_edit_model.specs.Slots as model
use Rattle.toml_edit_model.specs.Text.{Text, same_text}
use Rattle.toml_edit_model.specs.Tree.{Key, Node, nothing, leaf, list, inline, table, tables}
use Rattle.toml_edit_laws.proofs.slots.Retains.{retains-seen}
use Rattle.toml_edit_laws.proofs.slots.Views as views
use Rattle.toml_edit_laws.proofs.slots.Those.{passing, found-those, has_slot-found}
use Rattle.toml_edit_slots.specs.Seen.{pair_seen, seen}
use Rattle.toml_edit_slots.specs.Slots.{is_at, lookup, lookup_slot, place}
use Rattle.toml_edit_slots.specs.declared.slots.Slot.{Slot}
use Rattle.toml_edit_tree.specs.Containers.{table_in, tables_in}
use Rattle.toml_edit_tree.specs.SlotsOf.{inline_slots_of, slot_taken, slots_of}
use Rattle.toml_edit_tree.specs.View.{fields_view, item_view, slots_view}
use Rattle.toml_edit_tree.specs.declared.array.Array.{Array}
use Rattle.toml_edit_tree.specs.declared.array_of_tables.ArrayOfTables.{ArrayOfTables}
use Rattle.toml_edit_tree.specs.declared.inline_table.InlineTable.{InlineTable, out-InlineTable}
use Rattle.toml_edit_tree.specs.declared.item.Item.{Item, the_lemmas}
use Rattle.toml_edit_tree.specs.declared.item.Item.TheOpen.{InlineTable-F, Table-F}
use Rattle.toml_edit_tree.specs.declared.item.Item.TheViews.{roll-InlineTable, roll-Table}
use Rattle.toml_edit_tree.specs.declared.table.Table.{Table, out-Table}
use Rattle.toml_edit_tree.specs.declared.value.Value.{Value}
use Rattle.toml_edit_tree.proofs.ViewLaws.{inline_slots, table_slots}
use Rattle.toml_edit_tree.specs.View as see
use Rattle.toml_edit_tree.specs.Indexed.{shown_slots}

pub shown-seen : (es : List (Slot Item)) → shown_slots es ≡ views.seen item_view (seen es)
shown-seen [] = refl
shown-seen (s ∷ es) = ap (λ l. record { key = s.key; item = item_view s.item } ∷ l) (shown-seen es)

pub table-shown : (t : Table) → slots_of t ≡ shown_slots (out-Table t).slots
table-shown t = ap slot_list (table_slots t)

pub inline-shown : (t : InlineTable) → inline_slots_of t ≡ shown_slots (out-InlineTable t).items
inline-shown t = ap slot_list (inline_slots t)

-- also where it is put together from its parts
slots_in_table : (t : Table-F Item Value Array ArrayOfTables InlineTable Table) → see.table_slots (roll-Table t) ≡ slots_view t.slots
slots_in_table t = search (rules, the_lemmas)

slots_in_inline : (t : InlineTable-F Item Value Array ArrayOfTables InlineTable Table) → (see.inline_view (roll-InlineTable t)).slots
    ≡ slots_view t.items
slots_in_inline t = search (rules, the_lemmas)

pub made-shown : (t : Table-F Item Value Array ArrayOfTables InlineTable Table) → slots_of (roll-Table t) ≡ shown_slots t.slots
made-shown t = ap slot_list (slots_in_table t)

pub made_inline-shown : (t : InlineTable-F Item Value Array ArrayOfTables InlineTable Table) → inline_slots_of (roll-InlineTable t)
    ≡ shown_slots t.items
made_inline-shown t = ap slot_list (slots_in_inline t)

-- ---- what a call leaves, where the view joins the call on items and that on what is seen of them

pub carried : (f : List (model.Slot Item) → List (model.Slot Item)) (g : List (model.Slot Node) → List (model.Slot Node))
    → ((es : List (model.Slot Item)) → g (views.seen item_view es) ≡ views.seen item_view (f es))
    → (es fs : List (Slot Item)) → seen fs ≡ f (seen es) → shown_slots fs ≡ g (shown_slots es)
carried f g joins es fs left =
    shown-seen fs ∙ ap (views.seen item_view) left ∙ sym (joins (seen es)) ∙ ap g (sym (shown-seen es))

pub inserted-shown : (t : Text) (x : Item) (es fs : List (Slot Item)) → seen fs ≡ model.inserted t x (seen es) → shown_slots fs
    ≡ model.inserted t (item_view x) (shown_slots es)
inserted-shown t x = carried (model.inserted t x) (model.inserted t (item_view x)) (views.inserted-seen item_view t x)

pub inserted_formatted-shown : (k : Key) (x : Item) (es fs : List (Slot Item)) → seen fs ≡ model.inserted_formatted k x (seen es)
    → shown_slots fs ≡ model.inserted_formatted k (item_view x) (shown_slots es)
inserted_formatted-shown k x =
    carried (model.inserted_formatted k x) (model.inserted_formatted k (item_view x)) (views.inserted_formatted-seen item_view k x)

pub without-shown : (t : Text) (es fs : List (Slot Item)) → seen fs ≡ model.without t (seen es) → shown_slots fs
    ≡ model.without t (shown_slots es)
without-shown t = carried (model.without t) (model.without t) (views.without-seen item_view t)

-- ---- what is found

abbrev pub slot_shown : Slot Item → model.Slot Node
slot_shown s = record { key = s.key; item = item_view s.item }

slot-cond : (b : Bool) (s : Slot Item) (o : Option (Slot Item)) (n : Option (model.Slot Node)) → n ≡ option_map slot_shown o
    → cond b (Some (slot_shown s)) n ≡ option_map slot_shown (cond b (Some s) o)
slot-cond true s o n e = refl
slot-cond false s o n e = e

pub lookup_slot-shown : (t : Text) (es : List (Slot Item)) → model.lookup_slot t (shown_slots es) ≡ option_map slot_shown (lookup_slot t es)
lookup_slot-shown t [] = refl
lookup_slot-shown t (s ∷ es) = slot-cond (is_at t s) s (lookup_slot t es) (model.lookup_slot t (shown_slots es)) (lookup_slot-shown t es)

item_of : (o : Option (Slot Item)) → option_map (λ s. s.item) (option_map slot_shown o) ≡ option_map item_view (option_map (λ s. s.item) o)
item_of None = refl
item_of (Some s) = refl

pub lookup-shown : (t : Text) (es : List (Slot Item)) → model.lookup t (shown_slots es) ≡ option_map item_view (lookup t es)
lookup-shown t es = ap (option_map (λ s. s.item)) (lookup_slot-shown t es) ∙ item_of (lookup_slot t es)

key_of : (o : Option (Slot Item)) → option_map (λ s. s.key) (option_map slot_shown o) ≡ option_map (λ s. s.key) o
key_of None = refl
key_of (Some s) = refl

pub lookup_key-shown : (t : Text) (es : List (Slot Item)) → model.lookup_key t (shown_slots es) ≡ option_map (λ s. s.key) (lookup_slot t es)
lookup_key-shown t es = ap (option_map (λ s. s.key)) (lookup_slot-shown t es) ∙ key_of (lookup_slot t es)

-- the same by what is seen
pub lookup_slot-of : (t : Text) (es : List (Slot Item)) → model.lookup_slot t (shown_slots es)
    ≡ option_map (model.on_item item_view) (model.lookup_slot t (seen es))
lookup_slot-of t es = ap (model.lookup_slot t) (shown-seen es) ∙ views.lookup_slot-seen item_view t (seen es)

pub lookup-of : (t : Text) (es : List (Slot Item)) → model.lookup t (shown_slots es) ≡ option_map item_view (model.lookup t (seen es))
lookup-of t es = ap (model.lookup t) (shown-seen es) ∙ views.lookup-seen item_view t (seen es)

pub length-shown : (es : List (Slot Item)) → length (shown_slots es) ≡ length es
length-shown [] = refl
length-shown (s ∷ es) = ap suc (length-shown es)

-- ---- the slots that pass a test

-- a slot has the name where one is found
pub has-lookup : (t : Text) (es : List (model.Slot Node)) → is_some (model.lookup t es) ≡ model.has_slot t es
has-lookup t [] = refl
has-lookup t (s ∷ es) =
    elim (cases_Bool (model.is_at t s)) [
      | inl same ↦ rw same refl
      | inr other ↦ rw other (has-lookup t es)
    ]

pub has_slot-shown : (t : Text) (es : List (Slot Item)) → model.has_slot t (shown_slots es) ≡ is_some (place t es)
has_slot-shown t [] = refl
has_slot-shown t (s ∷ es) =
    elim (cases_Bool (is_at t s)) [
      | inl same ↦ rw same refl
      | inr other ↦ rw other (has_slot-shown t es ∙ next (place t es))
    ]
  where
    next : (o : Option ℕ) → is_some o ≡ is_some (option_map suc o)
    next None = refl
    next (Some j) = refl

names-shown : (es : List (Slot Item)) → model.names (shown_slots es) ≡ model.names (seen es)
names-shown [] = refl
names-shown (s ∷ es) = ap (λ l. s.key.name ∷ l) (names-shown es)

pub apart-shown : (es : List (Slot Item)) → model.AreApart (seen es) → model.AreApart (shown_slots es)
apart-shown es a = subst (IsDistinct same_text) (sym (names-shown es)) a

module _ (test : Node → Bool) (t : Text) where
  item_passes : (o : Option (model.Slot Node)) → is_some (option_and_then (passing test t) o) ≡ option_map_or (λ s. test s.item) o false
  item_passes None = refl
  item_passes (Some s) =
      elim (cases_Bool (test s.item)) [
        | inl passes ↦ rw passes refl
        | inr fails ↦ rw fails refl
      ]

  pub has_slot-those : (es : List (model.Slot Node)) → model.AreApart es → model.has_slot t (model.those test es)
      ≡ option_map_or (λ s. test s.item) (model.lookup_slot t es) false
  has_slot-those es a = has_slot-found t (model.those test es) ∙ ap is_some (found-those test t es a) ∙ item_passes (model.lookup_slot t es)

-- kinds of items, as calls of an item tell them
pub is_table-some : (n : Node) → is_some (table_in n) ≡ is_table_node n
is_table-some nothing = refl
is_table-some (leaf s spelling d) = refl
is_table-some (list f xs) = refl
is_table-some (inline f ss) = refl
is_table-some (table f ss) = refl
is_table-some (tables e xs) = refl

pub is_tables-some : (n : Node) → is_some (tables_in n) ≡ is_tables_node n
is_tables-some nothing = refl
is_tables-some (leaf s spelling d) = refl
is_tables-some (list f xs) = refl
is_tables-some (inline f ss) = refl
is_tables-some (table f ss) = refl
is_tables-some (tables e xs) = refl

-- ---- retain

retains-more : {X : Type 0} (p q : X → Bool → Type 0) → ((x : X) (b : Bool) → p x b → q x b) → (before after : List X)
    → RetainsBy p before after → RetainsBy q before after
retains-more p q f [] after r = r
retains-more p q f (x ∷ before) after r = (r.0, r.1, f x r.0 r.2, retains-more p q f before r.1 r.3, r.4)

pub retains-shown : (p : model.Slot Item → Bool → Type 0) (q : model.Slot Node → Bool → Type 0)
    → ((s : model.Slot Item) (b : Bool) → p s b → q (model.on_item item_view s) b)
    → (es fs : List (Slot Item)) → RetainsBy p (seen es) (seen fs) → RetainsBy q (shown_slots es) (shown_slots fs)
retains-shown p q f es fs r =
    subst (λ l. RetainsBy q l (shown_slots fs)) (sym (shown-seen es))
    (subst (λ l. RetainsBy q (views.seen item_view (seen es)) l) (sym (shown-seen fs))
    (retains-seen (model.on_item item_view) q (seen es) (seen fs)
    (retains-more p (λ s. q (model.on_item item_view s)) f (seen es) (seen fs) r)))

-- ---- extend

pairs-shown : (ps : List (Key × Item)) → views.seen item_view (map pair_seen ps) ≡ map slot_taken ps
pairs-shown [] = refl
pairs-shown (p ∷ ps) = ap (λ l. slot_taken p ∷ l) (pairs-shown ps)

pub extended-shown : (ps : List (Key × Item)) (es fs : List (Slot Item)) → seen fs ≡ model.extended (map pair_seen ps) (seen es)
    → shown_slots fs
    ≡ model.extended (map slot_taken ps) (shown_slots es)
extended-shown ps es fs e =
    carried (model.extended (map pair_seen ps)) (model.extended (views.seen item_view (map pair_seen ps)))
    (views.extended-seen item_view (map pair_seen ps)) es fs e
    ∙ ap (λ l. model.extended l (shown_slots es)) (pairs-shown ps)

-- ---- fmt

-- a table with other slots has the fields that it had
pub made_fields : (t : Table) (es : List (Slot Item)) → fields_view (roll-Table (record (out-Table t) { slots = es })) ≡ fields_view t
made_fields t es = search (rules, the_lemmas)
