-- Slots sorted, and then what they have inside in turn; and what a sort of a table enters.
use denote.Param.Weighed.{most}
use Rattle.std.proofs.Common.{◌≡◌, ℕ, zero, suc, ◌+◌, ◌<◌, ◌≤◌, Bool, true, false, List, [], ◌∷◌, length, map, get_or, set, IsPermutation}
use Rattle.std.proofs.Common.{refl, sym, ap, subst, ◌∙◌, arith}
use Rattle.std.proofs.lemmas.Bool.{false≢true}
use Rattle.std.proofs.lemmas.List.Elements.{All-map}
use Rattle.std.proofs.lemmas.List.Sorted.{All-permutation, IsPermutation-map, IsPermutation-refl, length_permutation}
use Rattle.std.specs.List.{All}
use Rattle.toml_edit_model.specs.Lists.{is_dotted_table, slot_list, slots_from}
use Rattle.toml_edit_model.specs.Slots as model
use Rattle.toml_edit_model.specs.Sorting.{IsDeepReorder, IsDeepSort, IsSortOf, ReordersItem, ReordersItems}
use Rattle.toml_edit_model.specs.Tree.{Node, nothing, leaf, list, inline, table, tables, TableFields, slot, is_value_node}
use Rattle.toml_edit_laws.proofs.slots.DeepSorts.{Turned, all-turned, list-stays, some-turned, turn}
use Rattle.toml_edit_laws.proofs.slots.Lists.{slot_list-from}
use Rattle.toml_edit_laws.proofs.slots.Sorts.{sorts-seen}
use Rattle.toml_edit_slots.specs.Seen.{seen, slot_seen}
use Rattle.toml_edit_slots.specs.declared.slots.Slot.{Slot}
use Rattle.toml_edit_slots.specs.Slots.{with_item}
use Rattle.toml_edit_tree.specs.declared.array_of_tables.ArrayOfTables.{ArrayOfTables}
use Rattle.toml_edit_tree.specs.declared.item.Item.{Item, size-Item}
use Rattle.toml_edit_tree.specs.declared.item.Item.TheVariants as items
use Rattle.toml_edit_tree.specs.declared.table.Table.{Table, out-Table}
use Rattle.toml_edit_tree.proofs.ViewLaws.{table_slots, view-ArrayOfTables, view-None, view-Table}
use Rattle.toml_edit_tree.specs.Containers.{table_node}
use Rattle.toml_edit_tree.specs.SlotsOf.{slots_of}
use Rattle.toml_edit_tree.specs.Sorts.{items_seen}
use Rattle.toml_edit_tree.specs.View.{fields_view, item_view, slots_view, table_view}
use Rattle.toml_edit_tree.proofs.SlotsLaws.{made_fields}
use Rattle.toml_edit_tree.proofs.DespanLaws.{deepest, slot_depth}

abbrev pub one : Slot Item → model.Slot Node
one s = slot_seen item_view s

-- ---- slots as they are seen

pub list-seen : (es : List (Slot Item)) → slot_list (slots_view es) ≡ items_seen es
list-seen [] = refl
list-seen (s ∷ es) = ap (λ l. one s ∷ l) (list-seen es)

pub view-seen : (es : List (Slot Item)) → slots_view es ≡ slots_from (items_seen es)
view-seen [] = refl
view-seen (s ∷ es) = ap (slot s.key (item_view s.item)) (view-seen es)

pub length-seen : (es : List (Slot Item)) → length (items_seen es) ≡ length es
length-seen [] = refl
length-seen (s ∷ es) = ap suc (length-seen es)

length-kept : (es : List (Slot Item)) → length (seen es) ≡ length es
length-kept [] = refl
length-kept (s ∷ es) = ap suc (length-kept es)

pub get-seen : (es : List (Slot Item)) (i : ℕ) (d : Slot Item) → get_or (items_seen es) i (one d) ≡ one (get_or es i d)
get-seen [] i d = refl
get-seen (s ∷ es) zero d = refl
get-seen (s ∷ es) (suc i) d = get-seen es i d

get-kept : (es : List (Slot Item)) (i : ℕ) (d : Slot Item) → get_or (seen es) i (slot_seen (λ x. x) d) ≡ slot_seen (λ x. x) (get_or es i d)
get-kept [] i d = refl
get-kept (s ∷ es) zero d = refl
get-kept (s ∷ es) (suc i) d = get-kept es i d

pub changed-seen : (es : List (Slot Item)) (i : ℕ) (d : model.Slot Node) (y : Item)
    → items_seen (with_item i y es) ≡ set (items_seen es) i (record { key = (get_or (items_seen es) i d).key; item = item_view y })
changed-seen [] i d y = refl
changed-seen (s ∷ es) zero d y = refl
changed-seen (s ∷ es) (suc i) d y = ap (λ l. one s ∷ l) (changed-seen es i d y)

seen-twice : (es : List (Slot Item)) → map (model.on_item item_view) (seen es) ≡ items_seen es
seen-twice [] = refl
seen-twice (s ∷ es) = ap (λ l. one s ∷ l) (seen-twice es)

pub sort-seen : (lt : model.Slot Node → model.Slot Node → Bool) (es fs : List (Slot Item))
    → IsSortOf (λ s r. lt (model.on_item item_view s) (model.on_item item_view r)) (seen es) (seen fs)
    → IsSortOf lt (items_seen es) (items_seen fs)
sort-seen lt es fs s =
    subst (λ l. IsSortOf lt l (items_seen fs)) (seen-twice es)
    (subst (λ l. IsSortOf lt (map (model.on_item item_view) (seen es)) l) (seen-twice fs)
    (sorts-seen (model.on_item item_view) lt (seen es) (seen fs) s))

permuted-seen : (es fs : List (Slot Item)) → IsPermutation (seen es) (seen fs) → IsPermutation (items_seen es) (items_seen fs)
permuted-seen es fs p =
    subst (λ l. IsPermutation l (items_seen fs)) (seen-twice es)
    (subst (λ l. IsPermutation (map (model.on_item item_view) (seen es)) l) (seen-twice fs)
    (IsPermutation-map (model.on_item item_view) (seen es) (seen fs) p))

-- ---- depth

abbrev pub Shallow : ℕ → ℕ → List (Slot Item) → Type 0
Shallow at m es = (k : ℕ) (d : Slot Item) → at ≤ k → k < length es → size-Item (get_or es k d).item ≤ m

get-other : (es : List (Slot Item)) (i : ℕ) (y : Item) (k : ℕ) (d : Slot Item) → i < k → get_or (with_item i y es) k d ≡ get_or es k d
get-other [] i y k d l = refl
get-other (s ∷ es) i y zero d l = absurd (omega (arith, l))
get-other (s ∷ es) zero y (suc k) d l = refl
get-other (s ∷ es) (suc i) y (suc k) d l = get-other es i y k d (omega (arith, l))

pub length-changed : (es : List (Slot Item)) (i : ℕ) (y : Item) → length (with_item i y es) ≡ length es
length-changed [] i y = refl
length-changed (s ∷ es) zero y = refl
length-changed (s ∷ es) (suc i) y = ap suc (length-changed es i y)

pub shallow-more : (es : List (Slot Item)) (at m : ℕ) (y : Item) → Shallow at m es → Shallow (at + 1) m (with_item at y es)
shallow-more es at m y h k d l b =
    let within : k < length es = omega (arith, b, length-changed es at y) in
    rw (get-other es at y k d (omega (arith, l))) (h k d (omega (arith, l)) within)

pub long-permuted : (es fs : List (Slot Item)) → IsPermutation (seen es) (seen fs) → length fs ≡ length es
long-permuted es fs p = omega (arith, length_permutation (seen es) (seen fs) p, length-kept es, length-kept fs)

pub shallow-permuted : (es fs : List (Slot Item)) → IsPermutation (seen es) (seen fs) → Shallow 0 (most slot_depth es) fs
shallow-permuted es fs p k d l b =
    let P : model.Slot Item → Type 0 = λ s. size-Item s.item ≤ most slot_depth es in
    let all : All P (seen es) = All-map P (slot_seen (λ x. x)) es (λ j e within. deepest es j e within) in
    let there = All-permutation P (seen es) (seen fs) p all k (slot_seen (λ x. x) d) (omega (arith, b, length-kept fs)) in
    subst P (get-kept fs k d) there

-- ---- a sort on its way

-- the item at the place changed too
turned-at : (Q : Node → Node → Type 0) (mid : List (model.Slot Node)) (es : List (Slot Item)) (at : ℕ) → Turned Q at mid (items_seen es)
    → at < length es → (d : Slot Item) (y : Item)
    → Q (item_view (get_or es at d).item) (item_view y) → Turned Q (at + 1) mid (items_seen (with_item at y es))
turned-at Q mid es at t l d y q =
    let within : at < length (items_seen es) = omega (arith, l, length-seen es) in
    let there : Q (get_or (items_seen es) at (one d)).item (item_view y) = rw (get-seen es at d) q in
    let next = turn Q at mid (items_seen es) t within (one d) (item_view y) there in
    let more : suc at ≡ at + 1 = omega arith in
    subst (λ l. Turned Q (at + 1) mid l) (sym (changed-seen es at (one d) y))
    (subst (λ n. Turned Q n mid (set (items_seen es) at (record { key = (get_or (items_seen es) at (one d)).key; item = item_view y })))
    more next)

pub rests : (es : List (model.Slot Node)) → IsPermutation es es
rests es = IsPermutation-refl es

-- The slots were sorted to the ones in mid, by each test of which Says holds, and those inside before the place were sorted too.
pub record InTurn (enters : Node → Bool) (Says : (model.Slot Node → model.Slot Node → Bool)
    → Type 0) (first es : List (Slot Item)) (at : ℕ) : Type 0 where
  pub mid : List (model.Slot Node)
  pub permuted : IsPermutation (items_seen first) mid
  pub sort : (lt : model.Slot Node → model.Slot Node → Bool) → Says lt → IsSortOf lt (items_seen first) mid
  pub reordered : Turned (ReordersItem enters IsPermutation) at mid (items_seen es)
  pub turned : (lt : model.Slot Node → model.Slot Node → Bool) → Says lt → Turned (ReordersItem enters (IsSortOf lt)) at mid (items_seen es)
  pub shallow : Shallow at (most slot_depth first) es
  pub long : length es ≡ length first

module _ (enters : Node → Bool) (Says : (model.Slot Node → model.Slot Node → Bool) → Type 0) where
  pub begins : (first es : List (Slot Item)) → IsPermutation (seen first) (seen es)
      → ((lt : model.Slot Node → model.Slot Node → Bool) → Says lt → IsSortOf lt (items_seen first) (items_seen es))
      → InTurn enters Says first es 0
  begins first es p s =
      record {
        mid = items_seen es;
        permuted = permuted-seen first es p;
        sort = s;
        reordered = refl;
        turned = λ lt by. refl;
        shallow = shallow-permuted first es p;
        long = long-permuted first es p;
      }

  pub goes-on : (first es : List (Slot Item)) (at : ℕ) → InTurn enters Says first es at → at < length es → (d : Slot Item) (y : Item)
      → ReordersItem enters IsPermutation (item_view (get_or es at d).item) (item_view y)
      → ((lt : model.Slot Node → model.Slot Node → Bool) → Says lt
      → ReordersItem enters (IsSortOf lt) (item_view (get_or es at d).item) (item_view y))
      → InTurn enters Says first (with_item at y es) (at + 1)
  goes-on first es at h l d y p s =
      record {
        mid = h.mid;
        permuted = h.permuted;
        sort = h.sort;
        reordered = turned-at (ReordersItem enters IsPermutation) h.mid es at h.reordered l d y p;
        turned = λ lt by. turned-at (ReordersItem enters (IsSortOf lt)) h.mid es at (h.turned lt by) l d y (s lt by);
        shallow = shallow-more es at (most slot_depth first) y h.shallow;
        long = length-changed es at y ∙ h.long;
      }

  pub ends-sorted : (first es : List (Slot Item)) (at : ℕ) → InTurn enters Says first es at → length es ≤ at
      → (lt : model.Slot Node → model.Slot Node → Bool) → Says lt → IsDeepSort enters lt (items_seen first) (items_seen es)
  ends-sorted first es at h l lt by =
      (h.mid, h.sort lt by, all-turned enters (IsSortOf lt) at h.mid (items_seen es) (h.turned lt by) (omega (arith, l, length-seen es)))

  pub ends-reordered : (first es : List (Slot Item)) (at : ℕ) → InTurn enters Says first es at
      → IsDeepReorder enters (items_seen first) (items_seen es)
  ends-reordered first es at h = (h.mid, h.permuted, some-turned enters IsPermutation rests at h.mid (items_seen es) h.reordered)

  pub ends-refused : (first es : List (Slot Item)) (at : ℕ) → InTurn enters Says first es at → at < length es → (d : Slot Item) (y : Item)
      → ReordersItem enters IsPermutation (item_view (get_or es at d).item) (item_view y)
      → IsDeepReorder enters (items_seen first) (items_seen (with_item at y es))
  ends-refused first es at h l d y p = (
    h.mid,
    h.permuted,
    some-turned enters IsPermutation rests (at + 1) h.mid (items_seen (with_item at y es))
        (turned-at (ReordersItem enters IsPermutation) h.mid es at h.reordered l d y p),
  )

pub stays : (enters : Node → Bool) (es : List (model.Slot Node)) → IsDeepReorder enters es es
stays enters es = (es, rests es, list-stays enters IsPermutation rests es)

-- what no sort enters stays
pub passed : (enters : Node → Bool) (R : List (model.Slot Node) → List (model.Slot Node) → Type 0) (n : Node) → enters n ≡ false
    → ReordersItem enters R n n
passed enters R (table f ss) other = rw other refl
passed enters R (inline f ss) other = rw other refl
passed enters R (leaf s spelling d) other = refl
passed enters R (list f xs) other = refl
passed enters R (tables e xs) other = refl
passed enters R nothing other = refl

-- ---- a table

list-of : (t : Table) → slots_of t ≡ items_seen (out-Table t).slots
list-of t = ap slot_list (table_slots t) ∙ list-seen (out-Table t).slots

-- a relation of slots, of a table and of it with others
pub of_table : (R : List (model.Slot Node) → List (model.Slot Node) → Type 0) (t u : Table)
    → R (items_seen (out-Table t).slots) (items_seen (out-Table u).slots) → R (slots_of t) (slots_of u)
of_table R t u r = subst (λ l. R l (slots_of u)) (sym (list-of t)) (subst (λ l. R (items_seen (out-Table t).slots) l) (sym (list-of u)) r)

pub value-passed : (n : Node) → is_value_node n ≡ true → is_dotted_table n ≡ false
value-passed (table f ss) value = absurd (false≢true value)
value-passed (inline f ss) value = refl
value-passed (leaf s spelling d) value = refl
value-passed (list f xs) value = refl
value-passed (tables e xs) value = refl
value-passed nothing value = refl

pub none-passed : (x : Item) → x ≡ items.None → is_dotted_table (item_view x) ≡ false
none-passed x is = ap (λ y. is_dotted_table (item_view y)) is ∙ ap is_dotted_table view-None

pub tables-passed : (x : Item) (a : ArrayOfTables) → x ≡ items.ArrayOfTables a → is_dotted_table (item_view x) ≡ false
tables-passed x a is = ap (λ y. is_dotted_table (item_view y)) is ∙ ap is_dotted_table (view-ArrayOfTables a)

-- what is lent of an item is its table
pub item-entered : (R : List (model.Slot Node) → List (model.Slot Node) → Type 0) (lent t u : Table) → lent ≡ t
    → ReordersItem is_dotted_table R (table_node (table_view lent)) (table_node (table_view u))
    → ReordersItem is_dotted_table R (item_view (items.Table t)) (item_view (items.Table u))
item-entered R lent t u same r =
    subst (λ n. ReordersItem is_dotted_table R n (item_view (items.Table u))) (sym (view-Table t
    ∙ ap (λ y. table_node (table_view y)) (sym same)))
    (subst (λ n. ReordersItem is_dotted_table R (table_node (table_view lent)) n) (sym (view-Table u)) r)

-- a dotted table whose slots went from these to those
pub entered : (R : List (model.Slot Node) → List (model.Slot Node) → Type 0) (f : TableFields) (es fs : List (Slot Item)) → f.is_dotted
    ≡ true
    → (mid : List (model.Slot Node)) × R (items_seen es) mid × ReordersItems is_dotted_table R mid (slots_from (items_seen fs))
    → ReordersItem is_dotted_table R (table f (slots_view es)) (table f (slots_view fs))
entered R f es fs dotted r =
    rw (view-seen es, view-seen fs, dotted)
    (slots_from (items_seen es), r.0, refl, subst (λ l. R l r.0) (sym (slot_list-from (items_seen es))) r.1, r.2)

pub table-entered : (R : List (model.Slot Node) → List (model.Slot Node) → Type 0) (t : Table) (fs : List (Slot Item))
    → (fields_view t).is_dotted ≡ true
    → (mid : List (model.Slot Node)) × R (items_seen (out-Table t).slots) mid
    × ReordersItems is_dotted_table R mid (slots_from (items_seen fs))
    → ReordersItem is_dotted_table R (table_node (table_view t)) (table_node (table_view (record t { slots = fs })))
table-entered R t fs dotted r =
    let after : Table = record t { slots = fs } in
    let old : table_node (table_view t) ≡ table (fields_view t) (slots_view (out-Table t).slots) =
    ap (table (fields_view t)) (table_slots t) in
    let new : table_node (table_view after) ≡ table (fields_view t) (slots_view fs) =
    ap (λ f. table f (table_view after).slots) (made_fields t fs) ∙ ap (table (fields_view t)) (table_slots after) in
    subst (λ n. ReordersItem is_dotted_table R n (table_node (table_view after))) (sym old)
    (subst (λ n. ReordersItem is_dotted_table R (table (fields_view t) (slots_view (out-Table t).slots)) n) (sym new)
    (entered R (fields_view t) (out-Table t).slots fs dotted r))
