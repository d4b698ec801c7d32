-- What an entry of an inline table is of, and what it leaves.
use Rattle.std.proofs.Common.{◌≡◌, ℕ, zero, suc, ◌<◌, true, List, [], ◌∷◌, ◌++◌, None, Some, IfSome, is_some, length, get_or, set}
use Rattle.std.proofs.Common.{option_and_then, option_map, slice_get, refl, sym, ap, subst, ◌∙◌}
use Rattle.std.proofs.lemmas.Option.{slice_get-get_or}
use Rattle.std.specs.Option.{unwrap_or}
use Rattle.toml_edit_laws.proofs.slots.Places.{changed-at, changed-none, lookup_slot-at, lookup_slot-none, none_at, put-at, put-new}
use Rattle.toml_edit_model.specs.Conversions.{made_value_or}
use Rattle.toml_edit_model.specs.Slots as model
use Rattle.toml_edit_model.specs.Text.{Text}
use Rattle.toml_edit_model.specs.Tree.{Key, Node}
use Rattle.toml_edit_slots.specs.declared.slots.Slot.{Slot}
use Rattle.toml_edit_slots.specs.Slots.{items_of, names, place, place_in, with_item}
use Rattle.toml_edit_tree.specs.ElementHolds.{value_held}
use Rattle.toml_edit_tree.specs.InlineValues.{MakesValueAt, has_value_at, value_at}
use Rattle.toml_edit_tree.specs.SlotsOf.{inline_slots_of}
use Rattle.toml_edit_tree.specs.View.{item_view, value_view}
use Rattle.toml_edit_tree.specs.declared.inline_table.InlineTable.{InlineTable, out-InlineTable}
use Rattle.toml_edit_tree.specs.declared.item.Item.{Item}
use Rattle.toml_edit_tree.specs.declared.item.Item.TheVariants as items
use Rattle.toml_edit_tree.specs.declared.value.Value.{Value}
use Rattle.toml_edit_tree.specs.Indexed.{shown_slots}
use Rattle.toml_edit_tree.proofs.DespanLaws.{no_slot}
use Rattle.toml_edit_tree.proofs.InlineEntryLaws.{held-view, low}
use Rattle.toml_edit_tree.proofs.SlotsLaws.{inline-shown, made_inline-shown, slot_shown}
use Rattle.toml_edit_tree.proofs.TableEntryLaws.{get-shown, item-with_item, items-get, last-shown, place-shown, set-shown}
use Rattle.toml_edit_tree.proofs.ViewLaws.{view-Value}

-- ---- another item in a slot

pub twice : (es : List (Slot Item)) (i : ℕ) (w y : Item) → with_item i y (with_item i w es) ≡ with_item i y es
twice [] i w y = refl
twice (s ∷ es) zero w y = refl
twice (s ∷ es) (suc i) w y = ap (λ l. s ∷ l) (twice es i w y)

names-with_item : (es : List (Slot Item)) (i : ℕ) (w : Item) → names (with_item i w es) ≡ names es
names-with_item [] i w = refl
names-with_item (s ∷ es) zero w = refl
names-with_item (s ∷ es) (suc i) w = ap (λ l. s.key.name ∷ l) (names-with_item es i w)

pub place-with_item : (t : Text) (es : List (Slot Item)) (i : ℕ) (w : Item) → place t (with_item i w es) ≡ place t es
place-with_item t es i w = ap (place_in t) (names-with_item es i w)

key-with_item : (es : List (Slot Item)) (i : ℕ) (w : Item) → option_map (λ (s : Slot Item). s.key) (slice_get (with_item i w es) i)
    ≡ option_map (λ (s : Slot Item). s.key) (slice_get es i)
key-with_item [] i w = refl
key-with_item (s ∷ es) zero w = refl
key-with_item (s ∷ es) (suc i) w = key-with_item es i w

-- ---- a name that is there

module _ (k : Key) (es : List (Slot Item)) (i : ℕ) (at : place k.name es ≡ Some i) where
  here : model.place k.name (shown_slots es) ≡ Some i
  here = place-shown k.name es ∙ at

  found : (s : Slot Item) → slice_get es i ≡ Some s → model.lookup_slot k.name (shown_slots es) ≡ Some (slot_shown s)
  found s got = lookup_slot-at k.name (shown_slots es) i (slot_shown s) here ∙ ap Some (get-shown es i s got)

  pub leaves-at : model.AreApart (shown_slots es) → (y : Item) → shown_slots (with_item i y es)
      ≡ model.put (model.with_item (item_view y)) (record { key = k; item = item_view y }) (shown_slots es)
  leaves-at apart y =
      let new : model.Slot Node = record { key = k; item = item_view y } in
      set-shown es i new y ∙ sym (put-at (model.with_item (item_view y)) new (shown_slots es) i new apart here)

  pub changed-here : model.AreApart (shown_slots es) → i < length es → (f : Node → Node) (w : Item)
      → IfSome (slice_get (items_of es) i) (λ x. item_view w ≡ f (item_view x))
      → shown_slots (with_item i w es) ≡ model.changed k.name (model.on_item f) (shown_slots es)
  changed-here apart inside f w made =
      let s = get_or es i no_slot in
      let got : slice_get es i ≡ Some s = slice_get-get_or es i no_slot inside in
      let is : item_view w ≡ f (item_view s.item) =
      subst (λ o. IfSome o (λ x. item_view w ≡ f (item_view x))) (items-get es i ∙ ap (option_map (λ (r : Slot Item). r.item)) got) made in
      let g : model.Slot Node = get_or (shown_slots es) i (slot_shown s) in
      set-shown es i (slot_shown s) w
      ∙ ap (λ n. set (shown_slots es) i (model.with_item n g)) (is ∙ ap (λ (r : model.Slot Node). f r.item) (sym (get-shown es i s got)))
      ∙ sym (changed-at k.name (model.on_item f) (shown_slots es) i (slot_shown s) apart here)

  pub value-here : i < length es → has_value_at i es ≡ true → option_map value_view (value_at i es) ≡ model.lookup k.name (shown_slots es)
  value-here inside has =
      let s = get_or es i no_slot in
      let got : slice_get es i ≡ Some s = slice_get-get_or es i no_slot inside in
      let is : value_at i es ≡ value_held s.item =
      ap (option_and_then value_held) (items-get es i ∙ ap (option_map (λ (r : Slot Item). r.item)) got) in
      ap (option_map value_view) is ∙ held-view s.item (sym (ap is_some is) ∙ has)
      ∙ sym (ap (option_map (λ (r : model.Slot Node). r.item)) (found s got))

  pub key-here : i < length es → option_map (λ (s : Slot Item). s.key) (slice_get es i)
      ≡ Some (unwrap_or (model.lookup_key k.name (shown_slots es)) k)
  key-here inside =
      let s = get_or es i no_slot in
      let got : slice_get es i ≡ Some s = slice_get-get_or es i no_slot inside in
      ap (option_map (λ (r : Slot Item). r.key)) got
      ∙ sym (ap (λ f. Some (unwrap_or (option_map (λ (r : model.Slot Node). r.key) f) k)) (found s got))

-- ---- a key that is there, once its slot is made a value

module _ (k : Key) (t u : InlineTable) (i : ℕ) (d : Node) (at : place k.name (out-InlineTable t).items
    ≡ Some i) (inside : i < length (out-InlineTable t).items)
    (apart : model.AreApart (inline_slots_of t)) (made : MakesValueAt d i (out-InlineTable t).items (out-InlineTable u).items) where
  abbrev before : List (Slot Item)
  before = (out-InlineTable t).items

  abbrev after : List (Slot Item)
  after = (out-InlineTable u).items

  apart-before : model.AreApart (shown_slots before)
  apart-before = subst model.AreApart (inline-shown t) apart

  pub has-made : has_value_at i after ≡ true
  has-made = ap (has_value_at i) made.1 ∙ ap (λ o. is_some (option_and_then value_held o)) (item-with_item before i made.0 inside) ∙ made.2

  at-after : place k.name after ≡ Some i
  at-after = ap (place k.name) made.1 ∙ place-with_item k.name before i made.0 ∙ at

  pub slots-made : inline_slots_of u ≡ model.changed k.name (model.on_item (made_value_or d)) (inline_slots_of t)
  slots-made =
      inline-shown u ∙ ap shown_slots made.1 ∙ changed-here k before i at apart-before inside (made_value_or d) made.0 made.3
      ∙ ap (model.changed k.name (model.on_item (made_value_or d))) (sym (inline-shown t))

  pub value-made : option_map value_view (value_at i after) ≡ model.lookup k.name (inline_slots_of u)
  value-made = value-here k after i at-after (low after i has-made) has-made ∙ ap (model.lookup k.name) (sym (inline-shown u))

  pub key-made : option_map (λ (s : Slot Item). s.key) (slice_get after i)
      ≡ Some (unwrap_or (model.lookup_key k.name (inline_slots_of t)) k)
  key-made =
      ap (λ l. option_map (λ (s : Slot Item). s.key) (slice_get l i)) made.1 ∙ key-with_item before i made.0 ∙ key-here k before i at inside
      ∙ ap (λ l. Some (unwrap_or (model.lookup_key k.name l) k)) (sym (inline-shown t))

  pub with-made : (y : Item) → with_item i y after ≡ with_item i y before
  with-made y = ap (with_item i y) made.1 ∙ twice before i made.0 y

  pub leaves-made : (x : Value) → inline_slots_of (record u { items = with_item i (items.Value x) after })
      ≡ model.put (model.with_item (value_view x)) (record { key = k; item = value_view x }) (inline_slots_of t)
  leaves-made x =
      made_inline-shown _ ∙ ap shown_slots (with-made (items.Value x)) ∙ leaves-at k before i at apart-before (items.Value x)
      ∙ ap (λ n. model.put (model.with_item n) (record { key = k; item = n }) (shown_slots before)) (view-Value x)
      ∙ ap (model.put (model.with_item (value_view x)) (record { key = k; item = value_view x })) (sym (inline-shown t))

-- ---- a new key

module _ (k : Key) (t : InlineTable) (none : place k.name (out-InlineTable t).items ≡ None) where
  abbrev held : List (Slot Item)
  held = (out-InlineTable t).items

  gone : model.place k.name (shown_slots held) ≡ None
  gone = place-shown k.name held ∙ none

  pub slots-new : (f : model.Slot Node → model.Slot Node) → inline_slots_of t ≡ model.changed k.name f (inline_slots_of t)
  slots-new f =
      inline-shown t ∙ sym (changed-none k.name f (shown_slots held) (none_at k.name (shown_slots held) gone))
      ∙ ap (model.changed k.name f) (sym (inline-shown t))

  pub leaves-new : (x : Value) → inline_slots_of (record t { items = held ++ record { key = k; item = items.Value x } ∷ [] })
      ≡ model.put (model.with_item (value_view x)) (record { key = k; item = value_view x }) (inline_slots_of t)
  leaves-new x =
      let new : model.Slot Node = record { key = k; item = value_view x } in
      made_inline-shown _ ∙ last-shown held k (items.Value x)
      ∙ ap (λ n. shown_slots held ++ record { key = k; item = n } ∷ []) (view-Value x)
      ∙ sym (put-new (model.with_item (value_view x)) new (shown_slots held) gone)
      ∙ ap (model.put (model.with_item (value_view x)) new) (sym (inline-shown t))

  nothing-found : model.lookup_slot k.name (inline_slots_of t) ≡ None
  nothing-found = ap (model.lookup_slot k.name) (inline-shown t)
      ∙ lookup_slot-none k.name (shown_slots held) (none_at k.name (shown_slots held) gone)

  pub value-new : None ≡ model.lookup k.name (inline_slots_of t)
  value-new = sym (ap (option_map (λ (r : model.Slot Node). r.item)) nothing-found)

  pub key-new : Some k ≡ Some (unwrap_or (model.lookup_key k.name (inline_slots_of t)) k)
  key-new = sym (ap (λ f. Some (unwrap_or (option_map (λ (r : model.Slot Node). r.key) f) k)) nothing-found)
