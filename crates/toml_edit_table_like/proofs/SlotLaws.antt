-- A slot of a table of either kind, and what is written in it.
use native.Mathlib.Bridge.{le_prop}
use Rattle.std.proofs.Common.{◌≡◌, ℕ, zero, suc, ◌<◌, List, [], ◌∷◌, Option, Some, None, IfSome, length, option_map, slice_get, refl, sym}
use Rattle.std.proofs.Common.{ap, subst, ◌∙◌}
use Rattle.std.proofs.lemmas.Option.{slice_get-get_or}
use Rattle.toml_edit_laws.proofs.slots.Places.{lookup_slot-at, lookup_slot-none, none_at}
use Rattle.toml_edit_laws.proofs.slots.Views as views
use Rattle.toml_edit_model.specs.Keys.{new_key}
use Rattle.toml_edit_model.specs.Slots as model
use Rattle.toml_edit_model.specs.Text.{Text}
use Rattle.toml_edit_model.specs.Tree.{Key, Node, nothing}
use Rattle.toml_edit_slots.specs.Seen.{seen}
use Rattle.toml_edit_slots.specs.Slots.{items_of, on_key, place, with_item}
use Rattle.toml_edit_slots.specs.declared.slots.Slot.{Slot}
use Rattle.toml_edit_table_like.specs.Lending.{with_item_at, with_key_at}
use Rattle.toml_edit_table_like.specs.Shown.{shown}
use Rattle.toml_edit_table_like.specs.SlotParts.{IsSlotOf, with_slot_item, with_slot_key}
use Rattle.toml_edit_table_like.specs.declared.has_slots.HasSlots.{Ghosts}
use Rattle.toml_edit_table_like.specs.declared.slot.TableLikeSlot.{TableLikeSlot}
use Rattle.toml_edit_table_like.proofs.ShownLaws.{length-shown, place-shown, shown-seen, slot_shown}
use Rattle.toml_edit_tree.specs.View.{item_view}
use Rattle.toml_edit_tree.specs.declared.item.Item.{Item}

pub written-shown : (es : List (Slot Item)) (i : ℕ) (x : Item) → shown (with_item i x es)
    ≡ model.changed_at i (model.with_item (item_view x)) (shown es)
written-shown [] i x = refl
written-shown (s ∷ es) zero x = refl
written-shown (s ∷ es) (suc i) x = ap (λ l. slot_shown s ∷ l) (written-shown es i x)

pub rekeyed-shown : (h : Key → Key) (es : List (Slot Item)) (i : ℕ) → shown (on_key i h es) ≡ model.changed_at i (model.on_key h) (shown es)
rekeyed-shown h [] i = refl
rekeyed-shown h (s ∷ es) zero = refl
rekeyed-shown h (s ∷ es) (suc i) = ap (λ l. slot_shown s ∷ l) (rekeyed-shown h es i)

item-shown : (es : List (Slot Item)) (i : ℕ) → option_map item_view (slice_get (items_of es) i)
    ≡ option_map (λ (s : model.Slot Node). s.item) (slice_get (shown es) i)
item-shown [] zero = refl
item-shown [] (suc i) = refl
item-shown (s ∷ es) zero = refl
item-shown (s ∷ es) (suc i) = item-shown es i

key-shown : (es : List (Slot Item)) (i : ℕ) → option_map (λ (s : Slot Item). s.key) (slice_get es i)
    ≡ option_map (λ (s : model.Slot Node). s.key) (slice_get (shown es) i)
key-shown [] zero = refl
key-shown [] (suc i) = refl
key-shown (s ∷ es) zero = refl
key-shown (s ∷ es) (suc i) = key-shown es i

pub part-of-key : {X : Type 0} (f : Key → X) (o : Option (Slot Item)) → option_map f (option_map (λ s. s.key) o)
    ≡ option_map (λ s. f s.key) o
part-of-key f None = refl
part-of-key f (Some s) = refl

-- ---- the key of a text, as it stands

no_seen : model.Slot Node
no_seen = record { key = new_key []; item = nothing }

pub key-at : (t : Text) (es : List (Slot Item)) (i : ℕ) → place t es ≡ Some i → i < length es
    → option_map (λ (s : Slot Item). s.key) (slice_get es i) ≡ model.lookup_key t (shown es)
key-at t es i at low =
    key-shown es i
    ∙ ap (option_map (λ (s : model.Slot Node). s.key))
    (slice_get-get_or (shown es) i no_seen (subst (λ n. i < n) (sym (length-shown es)) low)
    ∙ sym (lookup_slot-at t (shown es) i no_seen (place-shown t es ∙ at)))

pub key-none : (t : Text) (es : List (Slot Item)) → place t es ≡ None → None ≡ model.lookup_key t (shown es)
key-none t es none =
    sym (ap (option_map (λ (s : model.Slot Node). s.key)) (lookup_slot-none t (shown es) (none_at t (shown es) (place-shown t es ∙ none))))

-- ---- a slot by its place

module _ {X : Type 0} {g : Ghosts X} (p : TableLikeSlot X g) where
  abbrev t : X
  t = p.table.now

  pub slot_of : IsSlotOf t p
  slot_of =
      record {
        table = refl;
        item = item-shown (g.entries t) p.at ∙ ap (λ l. option_map (λ (s : model.Slot Node). s.item) (slice_get l p.at)) (sym (g.shows t));
        key = key-shown (g.entries t) p.at ∙ ap (λ l. option_map (λ (s : model.Slot Node). s.key) (slice_get l p.at)) (sym (g.shows t));
        leaves = λ x. g.shows _ ∙ ap shown (g.takes _ t) ∙ written-shown (g.entries t) p.at x
            ∙ ap (model.changed_at p.at (model.with_item (item_view x))) (sym (g.shows t));
        rekeys = λ h. g.shows _ ∙ ap shown (g.takes _ t) ∙ rekeyed-shown h (g.entries t) p.at
            ∙ ap (model.changed_at p.at (model.on_key h)) (sym (g.shows t));
        keeps_item = λ x. g.keeps _ t;
        keeps_key = λ h. g.keeps _ t;
      }

  -- what a write leaves, whatever shows that it is within
  pub item_written : (x : Item) (q : p.at < length (g.entries (with_item_at g.entries g.with_entries p.at x t)))
      → record { table = record p.table { now = with_item_at g.entries g.with_entries p.at x t }; at = p.at; within = q }
      ≡ with_slot_item p x
  item_written x q = ap (λ r. record (with_slot_item p x) { within = r }) (le_prop q (with_slot_item p x).within)

  pub key_written : (h : Key → Key) (q : p.at < length (g.entries (with_key_at g.entries g.with_entries p.at h t)))
      → record { table = record p.table { now = with_key_at g.entries g.with_entries p.at h t }; at = p.at; within = q } ≡ with_slot_key p h
  key_written h q = ap (λ r. record (with_slot_key p h) { within = r }) (le_prop q (with_slot_key p h).within)

-- ---- a slot that is taken out

without-shown : (t : Text) (es fs : List (Slot Item)) → seen fs ≡ model.without t (seen es) → shown fs ≡ model.without t (shown es)
without-shown t es fs left =
    shown-seen fs ∙ ap (views.seen item_view) left ∙ sym (views.without-seen item_view t (seen es))
    ∙ ap (model.without t) (sym (shown-seen es))

pub removed : {X : Type 0} (g : Ghosts X) (x : X) (es fs : List (Slot Item)) (at : ℕ) (r : Slot Item) → es ≡ g.entries x → slice_get es at
    ≡ Some r
    → seen fs ≡ model.without r.key.name (seen es)
    → IfSome (option_map (λ (s : Slot Item). s.key) (slice_get (g.entries x) at)) (λ key. g.slots_of (g.with_entries fs x)
    ≡ model.without key.name (g.slots_of x))
removed g x es fs at r is got left =
    subst (λ o. IfSome (option_map (λ (s : Slot Item). s.key) o) (λ key. g.slots_of (g.with_entries fs x)
    ≡ model.without key.name (g.slots_of x)))
    (sym (ap (λ l. slice_get l at) (sym is) ∙ got))
    (g.shows _ ∙ ap shown (g.takes fs x) ∙ without-shown r.key.name es fs left
    ∙ ap (model.without r.key.name) (ap shown is ∙ sym (g.shows x)))
