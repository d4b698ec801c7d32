-- What an entry of a table is of, and what it leaves.
use native.Mathlib.Bridge.{le_prop}
use Rattle.std.proofs.Common.{◌≡◌, ℕ, zero, suc, ◌+◌, ◌<◌, nat_lt, Bool, true, false, cond, if◌then◌else◌, List, [], ◌∷◌, ◌++◌, Option}
use Rattle.std.proofs.Common.{Some, None, option_map, refl, sym, ap, ◌∙◌, inl, inr, arith, length, subst, take, get_or, set, slice_get}
use Rattle.std.proofs.lemmas.Bool.{cases_Bool}
use Rattle.std.proofs.lemmas.Cmp.{nat_list_eq_equiv}
use Rattle.std.proofs.lemmas.Option.{none-some, same_Some, slice_get-get_or}
use Rattle.std.specs.List.{AllByRecursion, IsDistinct, position_or_len}
use Rattle.std.specs.Option.{ForSome, unwrap_or}
use Rattle.toml_edit_laws.proofs.slots.Places.{lookup_slot-at, lookup_slot-none, none_at, put-at, put-new}
use Rattle.toml_edit_model.specs.Slots as model
use Rattle.toml_edit_model.specs.Text.{Text, same_text}
use Rattle.toml_edit_model.specs.Tree.{Key, Node}
use Rattle.toml_edit_slots.specs.declared.slots.Slot.{Slot}
use Rattle.toml_edit_slots.specs.Slots.{is_at, items_of, on_key, place, with_item}
use Rattle.toml_edit_tree.specs.TableEntries.{with_entry_item, with_entry_key}
use Rattle.toml_edit_tree.specs.TableLending.{with_item_at, with_key_at}
use Rattle.toml_edit_tree.specs.View.{item_view}
use Rattle.toml_edit_tree.specs.declared.item.Item.{Item}
use Rattle.toml_edit_tree.specs.declared.table.Table.{Table, out-Table}
use Rattle.toml_edit_tree.specs.declared.table.entry.OccupiedEntry.{OccupiedEntry}
use Rattle.toml_edit_tree.proofs.SlotsLaws.{made-shown, slot_shown, table-shown}
use Rattle.toml_edit_tree.proofs.DespanLaws.{no_slot}
use Rattle.toml_edit_tree.specs.SlotsOf.{slots_of}
use Rattle.toml_edit_tree.specs.Indexed.{shown_slots}

-- ---- slots whose keys are apart

-- no slot has the name of one before it
abbrev pub IsFirstOfName : List (Slot Item) → Type 0
IsFirstOfName es = (at : ℕ) → ForSome (slice_get es at) (λ slot. place slot.key.name (take at es) ≡ None)

neither : (b : Bool) (o : Option ℕ) → (if b then Some 0 else option_map suc o) ≡ None → (b ≡ false) × (o ≡ None)
neither true o e = absurd (none-some 0 (sym e))
neither false None e = (refl, refl)
neither false (Some j) e = absurd (none-some (suc j) (sym e))

others : (u : Text) (es : List (Slot Item)) → ((at : ℕ) (s : Slot Item) → slice_get es at ≡ Some s → same_text s.key.name u ≡ false)
    → AllByRecursion (λ v. same_text u v ≡ false) (model.names (shown_slots es))
others u [] h = tt
others u (s ∷ es) h = (nat_list_eq_equiv.symm u s.key.name ∙ h 0 s refl, others u es (λ at r e. h (suc at) r e))

pub apart-first : (es : List (Slot Item)) → IsFirstOfName es → model.AreApart (shown_slots es)
unfolding IsDistinct
apart-first [] h = tt
apart-first (s ∷ es) h = (
  others s.key.name es (λ at r e. (neither (is_at r.key.name s) (place r.key.name (take at es)) (h (suc at) r e)).0),
  apart-first es (λ at r e. (neither (is_at r.key.name s) (place r.key.name (take at es)) (h (suc at) r e)).1),
)

-- ---- the place of a name, in the code's slots and as they are seen

next_place : (n m : ℕ) → cond (nat_lt (1 + n) (suc m)) (Some (1 + n)) None ≡ option_map suc (cond (nat_lt n m) (Some n) None)
next_place n m =
    elim (cases_Bool (nat_lt n m)) [
      | inl inside ↦ grind (arith, inside)
      | inr outside ↦ grind (arith, outside)
    ]

pub place-shown : (t : Text) (es : List (Slot Item)) → model.place t (shown_slots es) ≡ place t es
place-shown t [] = refl
place-shown t (s ∷ es) =
    elim (cases_Bool (is_at t s)) [
      | inl same ↦ rw same (grind arith)
      | inr other ↦ rw (other, ← place-shown t es) (next_place (position_or_len (model.is_at t) (shown_slots es)) (length (shown_slots es)))
    ]

-- ---- another item in a slot, and in the last one

pub set-shown : (es : List (Slot Item)) (i : ℕ) (d : model.Slot Node) (x : Item)
    → shown_slots (with_item i x es) ≡ set (shown_slots es) i (model.with_item (item_view x) (get_or (shown_slots es) i d))
set-shown [] i d x = refl
set-shown (s ∷ es) zero d x = refl
set-shown (s ∷ es) (suc i) d x = ap (λ l. slot_shown s ∷ l) (set-shown es i d x)

pub last-shown : (es : List (Slot Item)) (k : Key) (x : Item) → shown_slots (es ++ record { key = k; item = x } ∷ []) ≡ shown_slots es
    ++ record { key = k; item = item_view x } ∷ []
last-shown [] k x = refl
last-shown (s ∷ es) k x = ap (λ l. slot_shown s ∷ l) (last-shown es k x)

pub item-with_item : (es : List (Slot Item)) (i : ℕ) (x : Item) → i < length es → slice_get (items_of (with_item i x es)) i ≡ Some x
item-with_item [] i x h = absurd (omega (arith, h))
item-with_item (s ∷ es) zero x h = refl
item-with_item (s ∷ es) (suc i) x h = item-with_item es i x (omega (arith, h))

pub with_item-last : (es : List (Slot Item)) (s : Slot Item) (x : Item) → with_item (length es) x (es ++ s ∷ []) ≡ es
    ++ record { key = s.key; item = x } ∷ []
with_item-last [] s x = refl
with_item-last (r ∷ es) s x = ap (λ l. r ∷ l) (with_item-last es s x)

pub item-last : (es : List (Slot Item)) (s : Slot Item) → slice_get (items_of (es ++ s ∷ [])) (length es) ≡ Some s.item
item-last [] s = refl
item-last (r ∷ es) s = item-last es s

-- the item of the slot at a place, and a part of its key
pub items-get : (es : List (Slot Item)) (i : ℕ) → slice_get (items_of es) i ≡ option_map (λ s. s.item) (slice_get es i)
items-get [] zero = refl
items-get [] (suc i) = refl
items-get (s ∷ es) zero = refl
items-get (s ∷ es) (suc i) = items-get es i

pub part-of-key : {X : Type 0} (f : Key → X) (o : Option (Slot Item)) → option_map f (option_map (λ s. s.key) o)
    ≡ option_map (λ s. f s.key) o
part-of-key f None = refl
part-of-key f (Some s) = refl

pub get-shown : (es : List (Slot Item)) (i : ℕ) (s : Slot Item) → slice_get es i ≡ Some s → get_or (shown_slots es) i (slot_shown s)
    ≡ slot_shown s
get-shown [] i s got = refl
get-shown (r ∷ es) zero s got = ap slot_shown (same_Some r s got)
get-shown (r ∷ es) (suc i) s got = get-shown es i s got

-- ---- the key of a text, as it stands

pub key-at : (t : Text) (es : List (Slot Item)) (i : ℕ) → place t es ≡ Some i → i < length es
    → option_map (λ (s : Slot Item). s.key) (slice_get es i) ≡ model.lookup_key t (shown_slots es)
key-at t es i at low =
    let s = get_or es i no_slot in
    let got : slice_get es i ≡ Some s = slice_get-get_or es i no_slot low in
    ap (option_map (λ (r : Slot Item). r.key)) got
    ∙ sym (ap (option_map (λ (r : model.Slot Node). r.key)) (lookup_slot-at t (shown_slots es) i (slot_shown s) (place-shown t es ∙ at)
    ∙ ap Some (get-shown es i s got)))

pub key-none : (t : Text) (es : List (Slot Item)) → place t es ≡ None → None ≡ model.lookup_key t (shown_slots es)
key-none t es none =
    sym (ap (option_map (λ (r : model.Slot Node). r.key))
    (lookup_slot-none t (shown_slots es) (none_at t (shown_slots es) (place-shown t es ∙ none))))

-- ---- a key that is there

module _ (k : Key) (t : Table) (i : ℕ) (at : place k.name (out-Table t).slots ≡ Some i) where
  abbrev old : List (Slot Item)
  old = (out-Table t).slots

  here : model.place k.name (shown_slots old) ≡ Some i
  here = place-shown k.name old ∙ at

  pub leaves-present : model.AreApart (slots_of t) → (x : Item)
      → slots_of (record t { slots = with_item i x old })
      ≡ model.put (model.with_item (item_view x)) (record { key = k; item = item_view x }) (slots_of t)
  leaves-present apart x =
      let new : model.Slot Node = record { key = k; item = item_view x } in
      made-shown _ ∙ set-shown old i new x
      ∙ sym (put-at (model.with_item (item_view x)) new (shown_slots old) i new (subst model.AreApart (table-shown t) apart) here)
      ∙ ap (model.put (model.with_item (item_view x)) new) (sym (table-shown t))

  found : (s : Slot Item) → slice_get old i ≡ Some s → model.lookup_slot k.name (slots_of t) ≡ Some (slot_shown s)
  found s got = ap (model.lookup_slot k.name) (table-shown t) ∙ lookup_slot-at k.name (shown_slots old) i (slot_shown s) here
      ∙ ap Some (get-shown old i s got)

  pub item-present : i < length old → option_map item_view (slice_get (items_of old) i) ≡ model.lookup k.name (slots_of t)
  item-present low =
      let s = get_or old i no_slot in
      let got : slice_get old i ≡ Some s = slice_get-get_or old i no_slot low in
      ap (option_map item_view) (items-get old i ∙ ap (option_map (λ (r : Slot Item). r.item)) got)
      ∙ sym (ap (option_map (λ (r : model.Slot Node). r.item)) (found s got))

  pub key-present : i < length old → option_map (λ (s : Slot Item). s.key) (slice_get old i)
      ≡ Some (unwrap_or (model.lookup_key k.name (slots_of t)) k)
  key-present low =
      let s = get_or old i no_slot in
      let got : slice_get old i ≡ Some s = slice_get-get_or old i no_slot low in
      ap (option_map (λ (r : Slot Item). r.key)) got
      ∙ sym (ap (λ f. Some (unwrap_or (option_map (λ (r : model.Slot Node). r.key) f) k)) (found s got))

-- ---- a new key

module _ (k : Key) (t : Table) (none : place k.name (out-Table t).slots ≡ None) where
  abbrev before : List (Slot Item)
  before = (out-Table t).slots

  gone : model.place k.name (shown_slots before) ≡ None
  gone = place-shown k.name before ∙ none

  pub leaves-new : (x : Item)
      → slots_of (record t { slots = before ++ record { key = k; item = x } ∷ [] })
      ≡ model.put (model.with_item (item_view x)) (record { key = k; item = item_view x }) (slots_of t)
  leaves-new x =
      let new : model.Slot Node = record { key = k; item = item_view x } in
      made-shown _ ∙ last-shown before k x ∙ sym (put-new (model.with_item (item_view x)) new (shown_slots before) gone)
      ∙ ap (model.put (model.with_item (item_view x)) new) (sym (table-shown t))

  nothing-found : model.lookup_slot k.name (slots_of t) ≡ None
  nothing-found = ap (model.lookup_slot k.name) (table-shown t)
      ∙ lookup_slot-none k.name (shown_slots before) (none_at k.name (shown_slots before) gone)

  pub item-new : None ≡ model.lookup k.name (slots_of t)
  item-new = sym (ap (option_map (λ (r : model.Slot Node). r.item)) nothing-found)

  pub key-new : Some k ≡ Some (unwrap_or (model.lookup_key k.name (slots_of t)) k)
  key-new = sym (ap (λ f. Some (unwrap_or (option_map (λ (r : model.Slot Node). r.key) f) k)) nothing-found)

-- ---- what a write leaves of an entry, whatever shows that it is within

module _ (o : OccupiedEntry) where
  abbrev slots : List (Slot Item)
  slots = (out-Table o.table.now).slots

  pub item_written : (x : Item) (p : o.at < length (with_item o.at x slots))
      → record { table = record o.table { now = with_item_at o.at x o.table.now }; at = o.at; within = p } ≡ with_entry_item o x
  item_written x p = ap (λ q. record (with_entry_item o x) { within = q }) (le_prop p (with_entry_item o x).within)

  pub key_written : (h : Key → Key) (p : o.at < length (on_key o.at h slots))
      → record { table = record o.table { now = with_key_at o.at h o.table.now }; at = o.at; within = p } ≡ with_entry_key o h
  key_written h p = ap (λ q. record (with_entry_key o h) { within = q }) (le_prop p (with_entry_key o h).within)
