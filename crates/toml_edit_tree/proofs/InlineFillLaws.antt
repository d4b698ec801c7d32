-- What an inline table has once a value was put under a key.
use Rattle.std.proofs.Common.{◌≡◌, ℕ, true, false, List, [], ◌∷◌, ◌++◌, Option, None, Some, is_some, length, option_and_then, option_map}
use Rattle.std.proofs.Common.{refl, sym, ap, subst, ◌∙◌, inl, inr}
use Rattle.std.proofs.lemmas.Bool.{cases_Bool, false≢true}
use Rattle.std.proofs.lemmas.Cmp.{nat_list_eq_equiv}
use Rattle.toml_edit_model.specs.Conversions.{made_value_or}
use Rattle.toml_edit_model.specs.InlineCalls.{or_inserted_value}
use Rattle.toml_edit_model.specs.Keys.{new_key}
use Rattle.toml_edit_model.specs.Slots as model
use Rattle.toml_edit_model.specs.Text.{Text, one, same_text}
use Rattle.toml_edit_model.specs.Tree.{Node}
use Rattle.toml_edit_slots.specs.declared.slots.Slot.{Slot}
use Rattle.toml_edit_slots.specs.Slots.{place, with_item}
use Rattle.toml_edit_tree.specs.ElementHolds.{value_held}
use Rattle.toml_edit_tree.specs.InlineLending.{value_put, with_value_at}
use Rattle.toml_edit_tree.specs.InlineSlots.{inline_fields}
use Rattle.toml_edit_tree.specs.InlineValues.{held-Value, value_at}
use Rattle.toml_edit_tree.specs.SlotsOf.{inline_slots_of}
use Rattle.toml_edit_tree.specs.View.{value_view}
use Rattle.toml_edit_tree.specs.declared.inline_table.InlineTable.{InlineTable, out-InlineTable}
use Rattle.toml_edit_tree.specs.declared.item.Item.{Item}
use Rattle.toml_edit_tree.specs.declared.item.Item.TheVariants as items
use Rattle.toml_edit_tree.specs.declared.value.Value.{Value}
use Rattle.toml_edit_tree.specs.Indexed.{shown_slots}
use Rattle.toml_edit_tree.proofs.InlineLaws.{made_inline_fields}
use Rattle.toml_edit_tree.proofs.InlinePlaceLaws.{leaves-at, leaves-new}
use Rattle.toml_edit_tree.proofs.SlotsLaws.{has_slot-shown, inline-shown, made_inline-shown}
use Rattle.toml_edit_tree.proofs.TableEntryLaws.{item-last, with_item-last}
use Rattle.toml_edit_tree.proofs.ViewLaws.{view-Value}

module _ (k : Text) (t : InlineTable) where
  abbrev held : List (Slot Item)
  held = (out-InlineTable t).items

  abbrev put_by : Value → Option ℕ → InlineTable
  put_by w None = record t { items = held ++ record { key = new_key k; item = items.Value w } ∷ [] }
  put_by w (Some i) = record t { items = with_item i (items.Value w) held }

  -- ---- the slots that a value leaves

  left-by : model.AreApart (inline_slots_of t) → (w : Value) (o : Option ℕ) → place k held ≡ o
      → inline_slots_of (put_by w o) ≡ model.put (model.with_item (value_view w)) (record { key = new_key k; item = value_view w })
      (inline_slots_of t)
  left-by apart w None e = leaves-new (new_key k) t e w
  left-by apart w (Some i) e =
      made_inline-shown _ ∙ leaves-at (new_key k) held i e (subst model.AreApart (inline-shown t) apart) (items.Value w)
      ∙ ap (λ n. model.put (model.with_item n) (record { key = new_key k; item = n }) (shown_slots held)) (view-Value w)
      ∙ ap (model.put (model.with_item (value_view w)) (record { key = new_key k; item = value_view w })) (sym (inline-shown t))

  is-by : (w : Value) (o : Option ℕ) → place k held ≡ o → value_put k w t ≡ put_by w o
  is-by w None e = rw e refl
  is-by w (Some i) e = rw e refl

  pub put-leaves : model.AreApart (inline_slots_of t) → (w : Value)
      → inline_slots_of (value_put k w t) ≡ model.put (model.with_item (value_view w)) (record { key = new_key k; item = value_view w })
      (inline_slots_of t)
  put-leaves apart w = ap inline_slots_of (is-by w (place k held) refl) ∙ left-by apart w (place k held) refl

  keeps-by : (w : Value) (o : Option ℕ) → inline_fields (put_by w o) ≡ inline_fields t
  keeps-by w None = made_inline_fields t _
  keeps-by w (Some i) = made_inline_fields t _

  pub put-keeps : (w : Value) → inline_fields (value_put k w t) ≡ inline_fields t
  put-keeps w = ap inline_fields (is-by w (place k held) refl) ∙ keeps-by w (place k held)

  pub put-there : (i : ℕ) → place k held ≡ Some i → (w : Value) → record t { items = with_item i (items.Value w) held } ≡ value_put k w t
  put-there i e w = sym (is-by w (Some i) e)

  pub put-gone : place k held ≡ None → (w : Value) → record t { items = held ++ record { key = new_key k; item = items.Value w } ∷ [] }
      ≡ value_put k w t
  put-gone e w = sym (is-by w None e)

  -- what stands last then, and what another value leaves there
  pub put-last : place k held ≡ None → (v : Value) → value_at (length held) (out-InlineTable (value_put k v t)).items ≡ Some v
  put-last e v =
      ap (λ (u : InlineTable). value_at (length held) (out-InlineTable u).items) (is-by v None e)
      ∙ ap (option_and_then value_held) (item-last held (record { key = new_key k; item = items.Value v })) ∙ held-Value v

  pub put-again : place k held ≡ None → (v w : Value) → with_value_at (length held) w (value_put k v t) ≡ value_put k w t
  put-again e v w =
      ap (with_value_at (length held) w) (is-by v None e)
      ∙ ap (λ l. record t { items = l }) (with_item-last held (record { key = new_key k; item = items.Value v }) (items.Value w))
      ∙ put-gone e w

  -- ---- where a slot of the name is there, and where none is

  has : model.has_slot k (inline_slots_of t) ≡ is_some (place k held)
  has = ap (model.has_slot k) (inline-shown t) ∙ has_slot-shown k held

  pub has-here : (i : ℕ) → place k held ≡ Some i → model.has_slot k (inline_slots_of t) ≡ true
  has-here i e = has ∙ ap is_some e

  pub has-none : place k held ≡ None → model.has_slot k (inline_slots_of t) ≡ false
  has-none e = has ∙ ap is_some e

  pub or_inserted-here : (i : ℕ) → place k held ≡ Some i → (d : Node)
      → model.changed k (model.on_item (made_value_or d)) (inline_slots_of t) ≡ or_inserted_value k d (inline_slots_of t)
  or_inserted-here i e d = let h = has-here i e in rw h refl

-- ---- what is found once a slot was put last

is_self : (k : Text) → same_text k k ≡ true
is_self k = nat_list_eq_equiv.refl k

found-last : (k : Text) (s : model.Slot Node) (es : List (model.Slot Node)) → model.has_slot k es ≡ false → model.is_at k s ≡ true
    → model.lookup_slot k (es ++ one s) ≡ Some s
found-last k s [] n is = rw is refl
found-last k s (r ∷ es) n is =
    elim (cases_Bool (model.is_at k r)) [
      | inl same ↦ absurd (false≢true (sym (rw same at n)))
      | inr other ↦ rw other (found-last k s es (rw other at n) is)
    ]

pub lookup-put : (k : Text) (d : Node) (t : InlineTable) → place k (out-InlineTable t).items ≡ None
    → model.lookup k (or_inserted_value k d (inline_slots_of t)) ≡ Some d
lookup-put k d t none =
    let h = has-none k t none in
    let s : model.Slot Node = record { key = new_key k; item = d } in
    rw h (ap (option_map (λ (r : model.Slot Node). r.item)) (found-last k s (inline_slots_of t) h (is_self k)))
