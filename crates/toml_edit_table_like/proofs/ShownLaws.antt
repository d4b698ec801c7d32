-- Slots of the code, and what the tree has of them.
use Rattle.std.proofs.Common.{◌≡◌, ℕ, zero, suc, ◌+◌, nat_lt, Bool, true, false, cond, if◌then◌else◌, List, [], ◌∷◌, Option, Some, None}
use Rattle.std.proofs.Common.{is_some, length, get_or, set, take, option_map, slice_get, refl, sym, ap, subst, ◌∙◌, inl, inr, arith}
use Rattle.std.proofs.lemmas.Bool.{cases_Bool}
use Rattle.std.proofs.lemmas.Cmp.{nat_list_eq_equiv}
use Rattle.std.proofs.lemmas.Option.{none-some, same_Some}
use Rattle.std.specs.List.{AllByRecursion, IsDistinct, position_or_len}
use Rattle.std.specs.Option.{ForSome}
use Rattle.toml_edit_laws.proofs.slots.Views as views
use Rattle.toml_edit_model.specs.Slots as model
use Rattle.toml_edit_model.specs.Text.{Text, same_text}
use Rattle.toml_edit_model.specs.Tree.{Node}
use Rattle.toml_edit_slots.specs.Seen.{seen}
use Rattle.toml_edit_slots.specs.Slots.{is_at, items_of, lookup, lookup_slot, place, with_item}
use Rattle.toml_edit_slots.specs.declared.slots.Slot.{Slot}
use Rattle.toml_edit_table_like.specs.Shown.{shown}
use Rattle.toml_edit_tree.specs.View.{item_view}
use Rattle.toml_edit_tree.specs.declared.item.Item.{Item}

pub shown-seen : (es : List (Slot Item)) → shown es ≡ views.seen item_view (seen es)
shown-seen [] = refl
shown-seen (s ∷ es) = ap (λ l. record { key = s.key; item = item_view s.item } ∷ l) (shown-seen es)

abbrev pub slot_shown : Slot Item → model.Slot Node
slot_shown s = record { key = s.key; item = item_view s.item }

-- ---- what is found

slot-cond : (b : Bool) (s : Slot Item) (o : Option (Slot Item)) (n : Option (model.Slot Node)) → n ≡ option_map slot_shown o
    → cond b (Some (slot_shown s)) n ≡ option_map slot_shown (cond b (Some s) o)
slot-cond true s o n e = refl
slot-cond false s o n e = e

pub lookup_slot-shown : (t : Text) (es : List (Slot Item)) → model.lookup_slot t (shown es) ≡ option_map slot_shown (lookup_slot t es)
lookup_slot-shown t [] = refl
lookup_slot-shown t (s ∷ es) = slot-cond (is_at t s) s (lookup_slot t es) (model.lookup_slot t (shown es)) (lookup_slot-shown t es)

item_of : (o : Option (Slot Item)) → option_map (λ s. s.item) (option_map slot_shown o) ≡ option_map item_view (option_map (λ s. s.item) o)
item_of None = refl
item_of (Some s) = refl

pub lookup-shown : (t : Text) (es : List (Slot Item)) → model.lookup t (shown es) ≡ option_map item_view (lookup t es)
lookup-shown t es = ap (option_map (λ s. s.item)) (lookup_slot-shown t es) ∙ item_of (lookup_slot t es)

pub lookup_slot-of : (t : Text) (es : List (Slot Item)) → model.lookup_slot t (shown es)
    ≡ option_map (model.on_item item_view) (model.lookup_slot t (seen es))
lookup_slot-of t es = ap (model.lookup_slot t) (shown-seen es) ∙ views.lookup_slot-seen item_view t (seen es)

pub length-shown : (es : List (Slot Item)) → length (shown es) ≡ length es
length-shown [] = refl
length-shown (s ∷ es) = ap suc (length-shown es)

pub has_slot-shown : (t : Text) (es : List (Slot Item)) → model.has_slot t (shown es) ≡ is_some (place t es)
has_slot-shown t [] = refl
has_slot-shown t (s ∷ es) =
    elim (cases_Bool (is_at t s)) [
      | inl same ↦ rw same refl
      | inr other ↦ rw other (has_slot-shown t es ∙ next (place t es))
    ]
  where
    next : (o : Option ℕ) → is_some o ≡ is_some (option_map suc o)
    next None = refl
    next (Some j) = refl

-- ---- slots whose keys are apart

names-shown : (es : List (Slot Item)) → model.names (shown es) ≡ model.names (seen es)
names-shown [] = refl
names-shown (s ∷ es) = ap (λ l. s.key.name ∷ l) (names-shown es)

pub apart-shown : (es : List (Slot Item)) → model.AreApart (seen es) → model.AreApart (shown es)
apart-shown es a = subst (IsDistinct same_text) (sym (names-shown es)) a

-- no slot has the name of one before it
abbrev pub IsFirstOfName : List (Slot Item) → Type 0
IsFirstOfName es = (at : ℕ) → ForSome (slice_get es at) (λ slot. place slot.key.name (take at es) ≡ None)

neither : (b : Bool) (o : Option ℕ) → (if b then Some 0 else option_map suc o) ≡ None → (b ≡ false) × (o ≡ None)
neither true o e = absurd (none-some 0 (sym e))
neither false None e = (refl, refl)
neither false (Some j) e = absurd (none-some (suc j) (sym e))

others : (u : Text) (es : List (Slot Item)) → ((at : ℕ) (s : Slot Item) → slice_get es at ≡ Some s → same_text s.key.name u ≡ false)
    → AllByRecursion (λ v. same_text u v ≡ false) (model.names (shown es))
others u [] h = tt
others u (s ∷ es) h = (nat_list_eq_equiv.symm u s.key.name ∙ h 0 s refl, others u es (λ at r e. h (suc at) r e))

pub apart-first : (es : List (Slot Item)) → IsFirstOfName es → model.AreApart (shown es)
unfolding IsDistinct
apart-first [] h = tt
apart-first (s ∷ es) h = (
  others s.key.name es (λ at r e. (neither (is_at r.key.name s) (place r.key.name (take at es)) (h (suc at) r e)).0),
  apart-first es (λ at r e. (neither (is_at r.key.name s) (place r.key.name (take at es)) (h (suc at) r e)).1),
)

-- ---- the place of a name, and another item there

next_place : (n m : ℕ) → cond (nat_lt (1 + n) (suc m)) (Some (1 + n)) None ≡ option_map suc (cond (nat_lt n m) (Some n) None)
next_place n m =
    elim (cases_Bool (nat_lt n m)) [
      | inl inside ↦ grind (arith, inside)
      | inr outside ↦ grind (arith, outside)
    ]

pub place-shown : (t : Text) (es : List (Slot Item)) → model.place t (shown es) ≡ place t es
place-shown t [] = refl
place-shown t (s ∷ es) =
    elim (cases_Bool (is_at t s)) [
      | inl same ↦ rw same (grind arith)
      | inr other ↦ rw (other, ← place-shown t es) (next_place (position_or_len (model.is_at t) (shown es)) (length (shown es)))
    ]

pub set-shown : (es : List (Slot Item)) (i : ℕ) (d : model.Slot Node) (x : Item)
    → shown (with_item i x es) ≡ set (shown es) i (model.with_item (item_view x) (get_or (shown es) i d))
set-shown [] i d x = refl
set-shown (s ∷ es) zero d x = refl
set-shown (s ∷ es) (suc i) d x = ap (λ l. slot_shown s ∷ l) (set-shown es i d x)

pub get-shown : (es : List (Slot Item)) (i : ℕ) (s : Slot Item) → slice_get es i ≡ Some s → get_or (shown es) i (slot_shown s)
    ≡ slot_shown s
get-shown [] i s got = refl
get-shown (r ∷ es) zero s got = ap slot_shown (same_Some r s got)
get-shown (r ∷ es) (suc i) s got = get-shown es i s got

-- the item of the slot at a place
pub item-at : (es : List (Slot Item)) (i : ℕ) (s : Slot Item) → slice_get es i ≡ Some s → slice_get (items_of es) i ≡ Some s.item
item-at [] i s h = absurd cc
item-at (x ∷ es) zero s h = ap (option_map (λ y. y.item)) h
item-at (x ∷ es) (suc i) s h = item-at es i s h

pub item-found : (es : List (Slot Item)) (i : ℕ) (x : Item) → Some x ≡ slice_get (items_of es) i → (s : Slot Item)
    × (slice_get es i ≡ Some s) × (s.item ≡ x)
item-found [] i x h = absurd cc
item-found (s ∷ es) zero x h = (s, refl, sym (same_Some x s.item h))
item-found (s ∷ es) (suc i) x h = item-found es i x h
