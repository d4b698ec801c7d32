-- An edit of a table that was edited: the way still leads to it, and two edits there are one.
use Rattle.std.proofs.Common.{◌≡◌, refl, ◌∙◌, ap, ℕ, zero, suc, Bool, true, false, List, [], ◌∷◌, ◌++◌, Some}
use Rattle.std.specs.Prelude.{if◌then◌else◌, not}
use Rattle.toml_edit_model.specs.Text.{Text, same_text}
use Rattle.toml_edit_model.specs.Paths.{to_key, to_element}
use Rattle.toml_edit_model.specs.Tree.{Node, nothing, leaf, list, inline, table, tables, Tree}
use Rattle.toml_edit_model.specs.HeaderOrder.{Visit, visit_of}
use Rattle.toml_edit_model.specs.Slots.{Slot, keyed, on_item, changed_at, lookup_slot, changed, without}
use Rattle.toml_edit_model.specs.Lists.{slot_list, slots_from, item_list, items_from, on_slots, on_items}
use Rattle.toml_edit_laws.specs.Locality.{Turn, into_table, into_element, element_count, Leads, along, edited}
use Rattle.toml_edit_laws.proofs.common.Tests.{if-true, if-false}
use Rattle.toml_edit_laws.proofs.common.OptionSteps.{some-is}
use Rattle.toml_edit_laws.proofs.locality.Slots.{slots_under, items_under, slot_list-from, item_list-from, change-item}

-- ---- changes under a key

module _ (k : Text) (G : Slot Node → Slot Node) (keeps : (s : Slot Node) → (G s).key.name ≡ s.key.name) where
  pub lookup-changed : (ss : List (Slot Node)) (s : Slot Node) → lookup_slot k ss ≡ Some s → lookup_slot k (changed k G ss) ≡ Some (G s)
  lookup-changed [] s h = absurd cc
  lookup-changed (x ∷ ss) s h = by_test (same_text k x.key.name) refl h (lookup-changed ss s)
    where
      by_test : (b : Bool) → same_text k x.key.name ≡ b → (if b then Some x else lookup_slot k ss) ≡ Some s
          → (lookup_slot k ss ≡ Some s → lookup_slot k (changed k G ss) ≡ Some (G s))
          → lookup_slot k ((if b then G x else x) ∷ changed k G ss) ≡ Some (G s)
      by_test true e g ih =
          if-true (same_text k (G x).key.name) (Some (G x)) (lookup_slot k (changed k G ss)) (ap (same_text k) (keeps x) ∙ e)
          ∙ ap (λ (y : Slot Node). Some (G y)) (some-is x s g)
      by_test false e g ih = if-false (same_text k x.key.name) (Some x) (lookup_slot k (changed k G ss)) e ∙ ih g

  pub changed-twice : (F H : Slot Node → Slot Node) → ((s : Slot Node) → F (G s) ≡ H s) → (ss : List (Slot Node))
      → changed k F (changed k G ss) ≡ changed k H ss
  changed-twice F H same [] = refl
  changed-twice F H same (x ∷ ss) = by_test (same_text k x.key.name) refl (changed-twice F H same ss)
    where
      by_test : (b : Bool) → same_text k x.key.name ≡ b → changed k F (changed k G ss) ≡ changed k H ss
          → changed k F ((if b then G x else x) ∷ changed k G ss) ≡ (if b then H x else x) ∷ changed k H ss
      by_test true e ih =
          ap (λ y. y ∷ changed k F (changed k G ss))
          (if-true (same_text k (G x).key.name) (F (G x)) (G x) (ap (same_text k) (keeps x) ∙ e) ∙ same x)
          ∙ ap (λ ys. H x ∷ ys) ih
      by_test false e ih = ap (λ y. y ∷ changed k F (changed k G ss)) (if-false (same_text k x.key.name) (F x) x e) ∙ ap (λ ys. x ∷ ys) ih

  pub without-changed : (ss : List (Slot Node)) → without k (changed k G ss) ≡ without k ss
  without-changed [] = refl
  without-changed (x ∷ ss) = by_test (same_text k x.key.name) refl (without-changed ss)
    where
      by_test : (b : Bool) → same_text k x.key.name ≡ b → without k (changed k G ss) ≡ without k ss
          → without k ((if b then G x else x) ∷ changed k G ss) ≡ (if not b then x ∷ without k ss else without k ss)
      by_test true e ih =
          if-false (not (same_text k (G x).key.name)) (G x ∷ without k (changed k G ss)) (without k (changed k G ss))
          (ap not (ap (same_text k) (keeps x) ∙ e)) ∙ ih
      by_test false e ih =
          if-true (not (same_text k x.key.name)) (x ∷ without k (changed k G ss)) (without k (changed k G ss)) (ap not e)
          ∙ ap (λ ys. x ∷ ys) ih

-- ---- changes inside

slots-twice : (a b c : List (Slot Node) → List (Slot Node)) → ((ss : List (Slot Node)) → a (b ss) ≡ c ss) → (n : Node)
    → on_slots a (on_slots b n) ≡ on_slots c n
slots-twice a b c same (table f ss) = ap (λ xs. table f (slots_from xs)) (ap a (slot_list-from (b (slot_list ss))) ∙ same (slot_list ss))
slots-twice a b c same (inline f ss) = ap (λ xs. inline f (slots_from xs)) (ap a (slot_list-from (b (slot_list ss))) ∙ same (slot_list ss))
slots-twice a b c same (leaf s r d) = refl
slots-twice a b c same (list f xs) = refl
slots-twice a b c same (tables e xs) = refl
slots-twice a b c same nothing = refl

items-twice : (a b c : List Node → List Node) → ((ns : List Node) → a (b ns) ≡ c ns) → (n : Node) → on_items a (on_items b n) ≡ on_items c n
items-twice a b c same (list f xs) = ap (λ ns. list f (items_from ns)) (ap a (item_list-from (b (item_list xs))) ∙ same (item_list xs))
items-twice a b c same (tables e xs) = ap (λ ns. tables e (items_from ns)) (ap a (item_list-from (b (item_list xs))) ∙ same (item_list xs))
items-twice a b c same (leaf s r d) = refl
items-twice a b c same (inline f ss) = refl
items-twice a b c same (table f ss) = refl
items-twice a b c same nothing = refl

at-twice : (i : ℕ) (a b c : Node → Node) → ((n : Node) → a (b n) ≡ c n) → (ns : List Node) → changed_at i a (changed_at i b ns)
    ≡ changed_at i c ns
at-twice i a b c same [] = refl
at-twice zero a b c same (n ∷ ns) = ap (λ m. m ∷ ns) (same n)
at-twice (suc i) a b c same (n ∷ ns) = ap (λ ms. n ∷ ms) (at-twice i a b c same ns)

pub along-twice : (way : List Turn) (g h c : List (Slot Node) → List (Slot Node)) → ((ss : List (Slot Node)) → g (h ss) ≡ c ss)
    → (ss : List (Slot Node)) → along way g (along way h ss) ≡ along way c ss
along-twice [] g h c same ss = same ss
along-twice (into_table k ∷ way) g h c same ss =
    changed-twice k (on_item (on_slots (along way h))) (λ s. refl) (on_item (on_slots (along way g))) (on_item (on_slots (along way c)))
    (λ s. ap (keyed s.key) (slots-twice (along way g) (along way h) (along way c) (along-twice way g h c same) s.item)) ss
along-twice (into_element k i ∷ way) g h c same ss =
    changed-twice k (on_item (on_items (changed_at i (on_slots (along way h))))) (λ s. refl)
    (on_item (on_items (changed_at i (on_slots (along way g)))))
    (on_item (on_items (changed_at i (on_slots (along way c)))))
    (λ s. ap (keyed s.key)
    (items-twice (changed_at i (on_slots (along way g))) (changed_at i (on_slots (along way h))) (changed_at i (on_slots (along way c)))
    (at-twice i (on_slots (along way g)) (on_slots (along way h)) (on_slots (along way c))
    (slots-twice (along way g) (along way h) (along way c) (along-twice way g h c same))) s.item)) ss

pub edited-twice : (way : List Turn) (g h c : List (Slot Node) → List (Slot Node)) → ((ss : List (Slot Node)) → g (h ss) ≡ c ss)
    → (t : Tree)
    → edited way g (edited way h t) ≡ edited way c t
edited-twice way g h c same t =
    ap (λ xs. record t { slots = slots_from xs }) (ap (along way g) (slot_list-from (along way h (slot_list t.slots)))
    ∙ along-twice way g h c same (slot_list t.slots))

-- ---- the way still leads to the table

abbrev pub with_slots : (List (Slot Node) → List (Slot Node)) → Visit → Visit
with_slots g v = visit_of v.path v.keys v.is_element v.fields (slots_under g v.slots)

pub leads-edited : (way : List Turn) (g : List (Slot Node) → List (Slot Node)) (s v : Visit) → Leads way s v
    → Leads way (with_slots (along way g) s) (with_slots g v)
leads-edited [] g s v e = ap (with_slots g) e
leads-edited (into_table k ∷ way) g s v (l, f, ss, eq, rest) = (
  l,
  f,
  slots_under (along way g) ss,
  ap (lookup_slot k) (slot_list-from (changed k (on_item (on_slots (along way g))) (slot_list s.slots)))
      ∙ lookup-changed k (on_item (on_slots (along way g))) (λ x. refl) (slot_list s.slots) (keyed l (table f ss)) eq,
  leads-edited way g (visit_of (to_key s.path l.name) (s.keys ++ (l ∷ [])) false f ss) v rest,
)
leads-edited (into_element k i ∷ way) g s v (l, e, xs, before, f, ss, after, eq, items, place, rest) = (
  l,
  e,
  items_under (changed_at i (on_slots (along way g))) xs,
  before,
  f,
  slots_under (along way g) ss,
  after,
  ap (lookup_slot k) (slot_list-from (changed k (on_item (on_items (changed_at i (on_slots (along way g))))) (slot_list s.slots)))
      ∙ lookup-changed k (on_item (on_items (changed_at i (on_slots (along way g))))) (λ x. refl) (slot_list s.slots)
      (keyed l (tables e xs)) eq,
  item_list-from (changed_at i (on_slots (along way g)) (item_list xs)) ∙ ap (changed_at i (on_slots (along way g))) items
      ∙ change-item before (table f ss) after i (on_slots (along way g)) place,
  place,
  leads-edited way g (visit_of (to_element (to_key s.path l.name) (element_count before)) (s.keys ++ (l ∷ [])) true f ss) v rest,
)
