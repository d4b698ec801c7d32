-- What an index finds, and what `index_or_insert` makes and leaves.
use Rattle.std.proofs.Common.{◌≡◌, ℕ, suc, ◌<◌, true, false, List, [], ◌∷◌, ◌++◌, Option, Some, None, is_some, length, get_or}
use Rattle.std.proofs.Common.{option_and_then, option_map, slice_get, refl, sym, ap, ◌∙◌, inl, inr, arith, rules}
use Rattle.std.proofs.lemmas.Bool.{cases_Bool, false≢true}
use Rattle.std.proofs.lemmas.Cmp.{nat_list_eq_equiv}
use Rattle.std.proofs.lemmas.List.Quantifiers.{position-Some}
use Rattle.std.proofs.lemmas.Option.{none-some, same_Some, slice_get-get_or}
use Rattle.std.specs.Borrow.{Bor}
use Rattle.std.specs.Option.{IsSome, option_map_or}
use Rattle.toml_edit_laws.proofs.slots.Lists.{slot_list-from, slots_from-list}
use Rattle.toml_edit_laws.proofs.slots.Places.{lookup-those, lookup_slot-at, put-at, put-new}
use Rattle.toml_edit_model.specs.Conversions.{new_inline}
use Rattle.toml_edit_model.specs.Keys.{new_key}
use Rattle.toml_edit_model.specs.Indexing.{index_or_inserted}
use Rattle.toml_edit_model.specs.Lists.{is_item, on_slots, only, slot_list, slots_from, slots_in}
use Rattle.toml_edit_model.specs.Slots as model
use Rattle.toml_edit_model.specs.TableCalls.{get, with_place}
use Rattle.toml_edit_model.specs.Text.{Text, one, same_text}
use Rattle.toml_edit_model.specs.Tree.{Key, Node, nothing, leaf, list, inline, table, tables, no_slots}
use Rattle.toml_edit_slots.specs.Seen.{pair_read, seen}
use Rattle.toml_edit_slots.specs.Slots.{items_of, lookup_slot, place, with_item}
use Rattle.toml_edit_slots.specs.declared.slots.Slot.{Slot}
use Rattle.toml_edit_tree.specs.Indexed.{item_put, lent_under, slots_put, written_under, shown_slots}
use Rattle.toml_edit_tree.specs.Containers.{table_node}
use Rattle.toml_edit_tree.specs.SlotsOf.{inline_slots_of, slots_of}
use Rattle.toml_edit_tree.specs.View.{fields_view, inline_view, item_view, table_slots, table_view}
use Rattle.toml_edit_tree.specs.declared.inline_table.InlineTable.{InlineTable, out-InlineTable}
use Rattle.toml_edit_tree.specs.declared.item.Item.{Item, the_lemmas}
use Rattle.toml_edit_tree.specs.declared.item.Item.TheVariants as items
use Rattle.toml_edit_tree.specs.declared.table.Table.{Table, out-Table}
use Rattle.toml_edit_tree.specs.declared.value.Value.TheVariants as values
use Rattle.toml_edit_tree.proofs.HeldLaws.{item-at}
use Rattle.toml_edit_tree.proofs.InlineLaws.{made_inline_fields}
use Rattle.toml_edit_tree.proofs.SlotsLaws.{apart-shown, has-lookup, inline-shown, length-shown, made_inline-shown, has_slot-shown}
use Rattle.toml_edit_tree.proofs.SlotsLaws.{lookup_slot-of, lookup_slot-shown, made-shown, made_fields, slot_shown, table-shown}
use Rattle.toml_edit_tree.proofs.TableEntryLaws.{get-shown, item-last, last-shown, place-shown, set-shown, with_item-last}
use Rattle.toml_edit_tree.proofs.ViewLaws.{view-InlineTable, view-None, view-Value}

-- ---- a placeholder for a new key

module _ (k : Text) where
  changed-same : (es : List (model.Slot Node)) → model.changed k (λ s. s) es ≡ es
  changed-same [] = refl
  changed-same (s ∷ es) =
      elim (cases_Bool (model.is_at k s)) [
        | inl same ↦ rw same (ap (λ l. s ∷ l) (changed-same es))
        | inr other ↦ rw other (ap (λ l. s ∷ l) (changed-same es))
      ]

  changed-last : (f : model.Slot Node → model.Slot Node) (s : model.Slot Node) (es : List (model.Slot Node)) → model.has_slot k es ≡ false
      → model.is_at k s ≡ true
      → model.changed k f (es ++ one s) ≡ es ++ one (f s)
  changed-last f s [] n is = rw is refl
  changed-last f s (r ∷ es) n is =
      elim (cases_Bool (model.is_at k r)) [
        | inl same ↦ absurd (false≢true (sym (rw same at n)))
        | inr other ↦ rw other (ap (λ l. r ∷ l) (changed-last f s es (rw other at n) is))
      ]

  found-last : (s : model.Slot Node) (es : List (model.Slot Node)) → model.has_slot k es ≡ false → model.is_at k s ≡ true
      → model.lookup_slot k (es ++ one s) ≡ Some s
  found-last s [] n is = rw is refl
  found-last s (r ∷ es) n is =
      elim (cases_Bool (model.is_at k r)) [
        | inl same ↦ absurd (false≢true (sym (rw same at n)))
        | inr other ↦ rw other (found-last s es (rw other at n) is)
      ]

  abbrev new_slot : Node → model.Slot Node
  new_slot n = record { key = new_key k; item = n }

  pub place-there : (es : List (model.Slot Node)) → model.has_slot k es ≡ true → with_place k es ≡ es
  place-there es h = rw h (changed-same es)

  pub place-new : (es : List (model.Slot Node)) → model.has_slot k es ≡ false → with_place k es ≡ es ++ one (new_slot nothing)
  place-new es h = rw h refl

  put-there : (n : Node) (es : List (model.Slot Node)) → model.has_slot k es ≡ true → model.changed k (model.with_item n) es
      ≡ model.put (model.with_item n) (new_slot n) es
  put-there n es h = rw h refl

  put-last : (n : Node) (es : List (model.Slot Node)) → model.has_slot k es ≡ false → es ++ one (new_slot n)
      ≡ model.put (model.with_item n) (new_slot n) es
  put-last n es h = rw h refl

  -- another item in its slot is one that is put under the key
  pub place-put : (n : Node) (es : List (model.Slot Node)) → model.changed k (model.with_item n) (with_place k es)
      ≡ model.put (model.with_item n) (new_slot n) es
  place-put n es =
      elim (cases_Bool (model.has_slot k es)) [
        | inl there ↦ ap (model.changed k (model.with_item n)) (place-there es there) ∙ put-there n es there
        | inr new ↦
            ap (model.changed k (model.with_item n)) (place-new es new)
            ∙ changed-last (model.with_item n) (new_slot nothing) es new (nat_list_eq_equiv.refl k) ∙ put-last n es new
      ]

-- ---- the slot of a key, which may be new

module _ (k : Text) (es : List (Slot Item)) where
  has : model.has_slot k (shown_slots es) ≡ is_some (place k es)
  has = has_slot-shown k es

  pub has-none : place k es ≡ None → model.has_slot k (shown_slots es) ≡ false
  has-none none = has ∙ ap is_some none

  abbrev pub added : List (Slot Item)
  added = es ++ record { key = new_key k; item = items.None } ∷ []

  pub made-there : (i : ℕ) → place k es ≡ Some i → shown_slots es ≡ with_place k (shown_slots es)
  made-there i at = sym (place-there k (shown_slots es) (has ∙ ap is_some at))

  pub made-new : place k es ≡ None → shown_slots added ≡ with_place k (shown_slots es)
  made-new none =
      last-shown es (new_key k) items.None ∙ ap (λ n. shown_slots es ++ record { key = new_key k; item = n } ∷ []) view-None
      ∙ sym (place-new k (shown_slots es) (has-none none))

  pub item-there : (i : ℕ) → place k es ≡ Some i → i < length es → option_map item_view (slice_get (items_of es) i)
      ≡ model.lookup k (with_place k (shown_slots es))
  item-there i at low =
      let fill : Slot Item = record { key = new_key k; item = items.None } in
      let s = get_or es i fill in
      let got : slice_get es i ≡ Some s = slice_get-get_or es i fill low in
      let found : model.lookup_slot k (shown_slots es) ≡ Some (slot_shown s) =
      lookup_slot-at k (shown_slots es) i (slot_shown s) (place-shown k es ∙ at) ∙ ap Some (get-shown es i s got) in
      ap (option_map item_view) (item-at es i s got)
      ∙ sym (ap (option_map (λ (r : model.Slot Node). r.item)) found) ∙ ap (model.lookup k) (made-there i at)

  pub item-new : place k es ≡ None → option_map item_view (slice_get (items_of added) (length es))
      ≡ model.lookup k (with_place k (shown_slots es))
  item-new none =
      ap (option_map item_view) (item-last es (record { key = new_key k; item = items.None })) ∙ ap Some view-None
      ∙ sym (ap (option_map (λ (r : model.Slot Node). r.item))
      (ap (model.lookup_slot k) (place-new k (shown_slots es) (has-none none))
      ∙ found-last k (record { key = new_key k; item = nothing }) (shown_slots es) (has-none none) (nat_list_eq_equiv.refl k)))

  left : model.AreApart (shown_slots es) → (w : Item) (o : Option ℕ) → place k es ≡ o
      → shown_slots (option_map_or (λ at. with_item at w es) o (es ++ record { key = new_key k; item = w } ∷ []))
      ≡ model.put (model.with_item (item_view w)) (record { key = new_key k; item = item_view w }) (shown_slots es)
  left apart w None e =
      last-shown es (new_key k) w
      ∙ sym (put-new (model.with_item (item_view w)) (record { key = new_key k; item = item_view w }) (shown_slots es)
      (place-shown k es ∙ e))
  left apart w (Some i) e =
      let new : model.Slot Node = record { key = new_key k; item = item_view w } in
      set-shown es i new w ∙ sym (put-at (model.with_item (item_view w)) new (shown_slots es) i new apart (place-shown k es ∙ e))

  pub leaves : model.AreApart (shown_slots es) → (w : Item) → shown_slots (slots_put k w es)
      ≡ model.changed k (model.with_item (item_view w)) (with_place k (shown_slots es))
  leaves apart w = left apart w (place k es) refl ∙ sym (place-put k (item_view w) (shown_slots es))

  pub put-here : (i : ℕ) → place k es ≡ Some i → (w : Item) → with_item i w es ≡ slots_put k w es
  put-here i at w = ap (λ o. option_map_or (λ j. with_item j w es) o (es ++ record { key = new_key k; item = w } ∷ [])) (sym at)

  pub put-added : place k es ≡ None → (w : Item) → with_item (length es) w added ≡ slots_put k w es
  put-added none w =
      with_item-last es (record { key = new_key k; item = items.None }) w
      ∙ ap (λ o. option_map_or (λ j. with_item j w es) o (es ++ record { key = new_key k; item = w } ∷ [])) (sym none)

next_none : (o : Option ℕ) → option_map suc o ≡ None → o ≡ None
next_none None e = refl
next_none (Some j) e = absurd (none-some (suc j) (sym e))

pub place-last : (k : Text) (s : Slot Item) (es : List (Slot Item)) → same_text k s.key.name ≡ true → place k es ≡ None
    → place k (es ++ s ∷ []) ≡ Some (length es)
place-last k s [] is e = rw is refl
place-last k s (r ∷ es) is e =
    elim (cases_Bool (same_text k r.key.name)) [
      | inl same ↦ absurd (none-some 0 (sym (rw same at e)))
      | inr other ↦ rw other (ap (option_map suc) (place-last k s es is (next_none (place k es) (rw other at e))))
    ]

-- ---- what stands at the place of a key

no_node : model.Slot Node
no_node = record { key = new_key []; item = nothing }

pub low-at : (k : Text) (es : List (Slot Item)) (i : ℕ) → model.place k (shown_slots es) ≡ Some i → i < length es
low-at k es i at = let b = (position-Some (model.is_at k) (shown_slots es) i no_node at).0 in let same = length-shown es in
    omega (arith, b, same)

pub found-at : (k : Text) (es : List (Slot Item)) (i : ℕ) (x : Item) → model.place k (shown_slots es) ≡ Some i → Some x
    ≡ slice_get (items_of es) i
    → model.lookup k (shown_slots es) ≡ Some (item_view x)
found-at k es i x at is =
    let fill : Slot Item = record { key = new_key k; item = items.None } in
    let s = get_or es i fill in
    let got : slice_get es i ≡ Some s = slice_get-get_or es i fill (low-at k es i at) in
    ap (option_map (λ (r : model.Slot Node). r.item))
    (lookup_slot-at k (shown_slots es) i (slot_shown s) at ∙ ap Some (get-shown es i s got))
    ∙ ap (λ y. Some (item_view y)) (same_Some _ _ (sym (item-at es i s got) ∙ sym is))

pub has-found : (k : Text) (es : List (model.Slot Node)) → IsSome (model.lookup k es) → model.has_slot k es ≡ true
has-found k es h = sym (has-lookup k es) ∙ h

-- ---- a table, and an item that has slots

module _ (k : Text) (t : Table) where
  abbrev slots : List (Slot Item)
  slots = (out-Table t).slots

  pub table-lent : lent_under k (table_node (table_view t)) ≡ model.lookup k (with_place k (shown_slots slots))
  table-lent =
      ap (model.lookup k) (slot_list-from (with_place k (slots_of t)))
      ∙ ap (λ l. model.lookup k (with_place k l)) (table-shown t)

  pub table-written : (w : Item) → shown_slots (slots_put k w slots)
      ≡ model.changed k (model.with_item (item_view w)) (with_place k (shown_slots slots))
      → written_under k (item_view w) (table_node (table_view t)) ≡ Some (table_node (table_view (item_put k w t)))
  table-written w leaves =
      let f = fields_view t in
      let u = item_put k w t in
      let write : List (model.Slot Node) → List (model.Slot Node) = model.changed k (model.with_item (item_view w)) in
      ap (λ l. Some (table f (slots_from (write l)))) (slot_list-from (with_place k (slots_of t)))
      ∙ ap (λ l. Some (table f (slots_from (write (with_place k l))))) (table-shown t)
      ∙ ap (λ l. Some (table f (slots_from l))) (sym leaves ∙ sym (made-shown _))
      ∙ ap (λ ss. Some (table f ss)) (slots_from-list (table_slots u))
      ∙ ap (λ g. Some (table g (table_slots u))) (sym (made_fields t (slots_put k w slots)))

-- a table, or an inline table, with its own slots is itself
pub same-table : (t : Table) → record t { slots = (out-Table t).slots } ≡ t
same-table t = search (rules, the_lemmas)

pub same-inline : (t : InlineTable) → record t { items = (out-InlineTable t).items } ≡ t
same-inline t = search (rules, the_lemmas)

-- a new inline table with other slots, as an item
module _ (k : Text) (t : InlineTable) (es : List (Slot Item)) where
  abbrev held_inline : Item
  held_inline = items.Value (values.InlineTable (record t { items = es }))

  pub made-inline : inline_view t ≡ record { fields = new_inline; slots = no_slots } → shown_slots es
      ≡ with_place k (shown_slots (out-InlineTable t).items)
      → index_or_inserted k nothing ≡ Some (item_view held_inline)
  made-inline new made =
      let u : InlineTable = record t { items = es } in
      let none : shown_slots (out-InlineTable t).items ≡ [] = sym (inline-shown t) ∙ ap (λ v. slot_list v.slots) new in
      let left : inline_slots_of u ≡ with_place k [] = made_inline-shown _ ∙ made ∙ ap (with_place k) none in
      ap (λ l. Some (inline new_inline (slots_from l))) (sym left)
      ∙ ap (λ ss. Some (inline new_inline ss)) (slots_from-list (inline_view u).slots)
      ∙ ap (λ f. Some (inline f (inline_view u).slots)) (sym (made_inline_fields t es ∙ ap (λ v. v.fields) new))
      ∙ ap Some (sym (view-Value (values.InlineTable u) ∙ view-InlineTable u))

  pub placed-inline : option_and_then (model.place k) (slots_in (item_view held_inline)) ≡ model.place k (shown_slots es)
  placed-inline =
      ap (λ n. option_and_then (model.place k) (slots_in n)) (view-Value _ ∙ view-InlineTable _) ∙ ap (model.place k) (made_inline-shown _)

module _ (k : Text) (l m : List (model.Slot Node)) where
  pub slots-on : (n : Node) → Some l ≡ slots_in n → slots_in (on_slots (λ _. m) n) ≡ Some m
  slots-on (table f ss) is = ap Some (slot_list-from m)
  slots-on (inline f ss) is = ap Some (slot_list-from m)
  slots-on nothing is = absurd cc
  slots-on (leaf s spelling d) is = absurd cc
  slots-on (list f xs) is = absurd cc
  slots-on (tables e xs) is = absurd cc

-- ---- the item of a key that is no placeholder

-- behind two references, and of the slot that was looked up
abbrev pub held_read : Option (Bor Key × Bor Item) → Option Node
held_read None = None
held_read (Some p) = only is_item (item_view p.1.now)

abbrev pub held_in : Option (Slot Item) → Option Node
held_in None = None
held_in (Some s) = only is_item (item_view s.item)

read : (o : Option (Bor Key × Bor Item)) → option_and_then (only is_item)
    (option_map (λ (s : model.Slot Node). s.item) (option_map (model.on_item item_view) (option_map pair_read o))) ≡ held_read o
read None = refl
read (Some p) = refl

pub get-read : (k : Text) (es : List (Slot Item)) (o : Option (Bor Key × Bor Item)) → model.AreApart (seen es) → option_map pair_read o
    ≡ model.lookup_slot k (seen es)
    → get k (shown_slots es) ≡ held_read o
get-read k es o apart is =
    lookup-those is_item k (shown_slots es) (apart-shown es apart)
    ∙ ap (λ f. option_and_then (only is_item) (option_map (λ (s : model.Slot Node). s.item) f)) (lookup_slot-of k es
    ∙ ap (option_map (model.on_item item_view)) (sym is))
    ∙ read o

in_slot : (o : Option (Slot Item)) → option_and_then (only is_item) (option_map (λ (s : model.Slot Node). s.item) (option_map slot_shown o))
    ≡ held_in o
in_slot None = refl
in_slot (Some s) = refl

pub get-found : (k : Text) (es : List (Slot Item)) (o : Option (Slot Item)) → model.AreApart (shown_slots es) → o ≡ lookup_slot k es
    → get k (shown_slots es) ≡ held_in o
get-found k es o apart is =
    lookup-those is_item k (shown_slots es) apart
    ∙ ap (λ f. option_and_then (only is_item) (option_map (λ (s : model.Slot Node). s.item) f)) (lookup_slot-shown k es
    ∙ ap (option_map slot_shown) (sym is))
    ∙ in_slot o

pub held_in-full : (s : Slot Item) → is_item (item_view s.item) ≡ true → held_in (Some s) ≡ Some (item_view s.item)
held_in-full s e = rw e refl
