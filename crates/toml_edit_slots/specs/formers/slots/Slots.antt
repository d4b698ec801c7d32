-- `Slots` as a type that may hold the type that holds it.
use mathlib.Core.Path.{◌≡◌, refl, sym, ap, subst}
use mathlib.Core.List.{List, [], ◌∷◌, map}
use mathlib.Core.Former.{Former, this, const, pair, list, via, children}
use base.Stored.{gcons, code_map}
use denote.RattleType.{RattleType}
use denote.HoleLaws.{Alike}
use denote.HolePlaces.{Recodes, struct_places, laid}
use denote.Hole.Carrier.{listed}
use denote.Hole.Fix.{over}
use denote.Param.Weighed.{Weighed, w_const, w_pair, w_list, w_via}
use denote.Model.Placed.{view_places}
use Rattle.std.specs.formers.vec.Vec as vec
use Rattle.std.specs.declared.alloc.Global.{Global}
use Rattle.std.specs.contracts.alloc.Global as heap
use Rattle.std.specs.contracts.impls.GlobalAllocator.TheImpl.{ghosts}
use Rattle.std.specs.List.{IsDistinct, IsDistinct-prop}
use Rattle.std.specs.Prelude.{Option, None, Some}
use Rattle.std.specs.Global.{Box}
use Rattle.std.specs.Coded.{Coded-set, coded_option, coded_ℕ, ×_prop, le_prop}
use Rattle.toml_edit_model.specs.Text.{Text, same_text}
use Rattle.toml_edit_model.specs.Tree.{Key}
use Rattle.toml_edit_slots.specs.Slots.{names, on_item, place_in}
use Rattle.toml_edit_slots.specs.Hashed.{place_of}
use Rattle.toml_edit_slots.specs.SlotIndex.{IsIndex, IsIndexed, noted_place}
use Rattle.toml_edit_slots.specs.SlotCode.{slot_code}
use Rattle.toml_edit_slots.specs.declared.index.Index.{Index}
use Rattle.toml_edit_slots.specs.declared.index.Index.TheVariants.{Hashed, Sorted}
use Rattle.toml_edit_key.specs.contracts.key.Key as key
use Rattle.toml_edit_slots.specs.declared.slots.Slot.{Slot}
use Rattle.toml_edit_slots.specs.contracts.slots.Slot as slot
use Rattle.toml_edit_slots.specs.declared.slots.Slots.TheInside.{Inside}
use Rattle.toml_edit_slots.specs.declared.slots.Slots.TheView.{view, invariant}
use Rattle.toml_edit_slots.specs.contracts.slots.Slots as C
use Rattle.toml_edit_slots.specs.contracts.slots.Slots.TheInside as I

-- a slot, by its item
abbrev pub of_slot : Former {0} → Former {0}
of_slot g =
    via (pair (const Key) g) (λ X. Slot (g.Of X)) (λ X s. (s.key, s.item))
    (λ X v. record { key = v.0; item = v.1 }) (λ X s. refl) (λ X v. refl)

abbrev pub the_former : Former {0} → Former {0}
the_former g = list (of_slot g)

abbrev pub the_empty : List (Slot ⊥)
the_empty = []

abbrev pub the_weighed : {g : Former {0}} → Weighed g → Weighed (the_former g)
the_weighed {g} w =
    w_list (w_via (w_pair (w_const Key) w) (λ X. Slot (g.Of X)) (λ X s. (s.key, s.item))
    (λ X v. record { key = v.0; item = v.1 }) (λ X s. refl) (λ X v. refl))

abbrev pub items_of : {X : Type 0} → List (Slot X) → List X
items_of [] = []
items_of (s ∷ es) = s.item ∷ items_of es

abbrev pub the_items : (X : Type 0) → List (Slot X) → List X
the_items X es = items_of es

pub the_items_listed : (X : Type 0) (es : List (Slot X))
    → listed _ (children (the_former this) X es) ≡ the_items X es
the_items_listed X [] = refl
the_items_listed X (s ∷ es) = ap (λ l. s.item ∷ l) (the_items_listed X es)

names_kept : {X Y : Type 0} (h : X → Y) (es : List (Slot X)) → names (map (on_item h) es) ≡ names es
names_kept h [] = refl
names_kept h (s ∷ es) = ap (λ l. s.key.name ∷ l) (names_kept h es)

-- the index, to a contract
abbrev IndexValue : Type 0
IndexValue = Option (Box Index)

abbrev fields : Former {0}
fields =
    via (pair (vec.the_former (of_slot this) Global) (const IndexValue)) Inside
    (λ X a. (a.entries, a.index)) (λ X v. record { entries = v.0; index = v.1 }) (λ X a. refl)
    (λ X v. refl)

IsIndex-prop : (index : Index) (us : List Text) → IsProp (IsIndex index us)
IsIndex-prop (Hashed m) us =
    λ p q i t. Coded-set (coded_option coded_ℕ) (place_of m t) (place_in t us) (p t) (q t) i
IsIndex-prop (Sorted m) us =
    λ p q i k t there. Coded-set (coded_option coded_ℕ) (noted_place m t) (Some k) (p k t there)
    (q k t there) i

IsIndexed-prop : (index : IndexValue) (us : List Text) → IsProp (IsIndexed index us)
IsIndexed-prop None us = le_prop
IsIndexed-prop (Some x) us = IsIndex-prop x.value us

module _ (R S : RattleType) (h : R.Denot → S.Denot) where
  slot_places : Alike R S h → Alike (slot.the_row R) (slot.the_row S) (on_item h)
  slot_places a =
      struct_places (slot.the_type R) (slot.the_type S) ((λ k. k), (h, tt)) (on_item h)
      (λ d. refl) refl ((refl, (λ n. refl, λ n. refl)), (laid _ _ _ a, tt))

  pub the_places : Alike R S h
      → Alike (C.the_row R) (C.the_row S) ((the_former this).map R.Denot S.Denot h)
  the_places a =
      view_places fields (list (of_slot this)) view (λ X Y k u. refl)
      (λ X u. refl) R.Denot S.Denot h (C.the_row R).coded (C.the_row S).coded
      (invariant R.Denot) (invariant S.Denot)
      (λ u. ×_prop (IsDistinct-prop _ _) (IsIndexed-prop u.index (names u.entries.items)))
      (λ u. ×_prop (IsDistinct-prop _ _) (IsIndexed-prop u.index (names u.entries.items)))
      (λ u e. (
        subst (IsDistinct same_text) (sym (names_kept h u.entries.items)) e.0,
        subst
            (IsIndexed u.index) (sym (names_kept h u.entries.items)) e.1,
      ))
      (λ u e. (
        subst (IsDistinct same_text) (names_kept h u.entries.items) e.0,
        subst
            (IsIndexed u.index) (names_kept h u.entries.items) e.1,
      ))
      (over (I.the_row R)) (over (I.the_row S))
      (struct_places (I.the_type R) (I.the_type S) (vec.mapped (on_item h), ((λ n. n), tt)) _
      (λ d. refl) refl (
        laid _ _ _ (vec.the_places heap.the_row ghosts (slot.the_row R) (slot.the_row S) (on_item h)
            (slot_places a)),
        ((refl, (λ n. refl, λ n. refl)), tt),
      ))

  pub the_codes_placed : Recodes R S h
      → Recodes (C.the_row R) (C.the_row S) ((the_former this).map R.Denot S.Denot h)
  the_codes_placed e d =
      sym (code_map (slot_code R.coded).code (slot_code S.coded).code (on_item h)
      (λ x i. gcons ((key.the_row).coded.code x.key) (sym (e x.item) i)) d)
