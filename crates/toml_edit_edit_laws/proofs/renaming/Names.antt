-- The slots of a table, of which one has another name that is free.
use Rattle.std.proofs.Common.{◌≡◌, refl, sym, ◌∙◌, ap, subst, Bool, true, false, List, [], ◌∷◌, ◌++◌, Some}
use Rattle.std.specs.Prelude.{◌&&◌, ◌||◌, not, if◌then◌else◌}
use Rattle.toml_edit_model.specs.Text.{Text, same_text}
use Rattle.toml_edit_model.specs.Tree.{Node, Slots, has_key, SlotsAreWellMade}
use Rattle.toml_edit_model.specs.Slots.{Slot, on_key, changed, has_slot, lookup_slot, without}
use Rattle.toml_edit_model.specs.Lists.{slot_list, slots_from}
use Rattle.toml_edit_model.specs.Rearranging.{renamed_key, is_free, renamed_slot}
use Rattle.toml_edit_laws.proofs.common.Each.{all-front, all-back}
use Rattle.toml_edit_laws.proofs.common.Tests.{and-true, if-true, if-false, not-true, or-both, or-left, or-right, same_text-is}
use Rattle.toml_edit_laws.proofs.common.Tests.{same_text-refl, same_text-swap}
use Rattle.toml_edit_laws.proofs.locality.Slots.{HaveOtherKeys, Found, slot_list-from}

-- ---- slots of other names

no-slot : (u : Text) (xs : List (Slot Node)) → has_slot u xs ≡ false → HaveOtherKeys u xs
no-slot u [] h = tt
no-slot u (x ∷ xs) h =
    (or-left (same_text u x.key.name) (has_slot u xs) h, no-slot u xs (or-right (same_text u x.key.name) (has_slot u xs) h))

no-key : (u : Text) (xs : List (Slot Node)) → HaveOtherKeys u xs → has_key u (slots_from xs) ≡ false
no-key u [] h = refl
no-key u (x ∷ xs) h = or-both (same_text u x.key.name) (has_key u (slots_from xs)) h.0 (no-key u xs h.1)

-- a slot in the place of another
key-in-place : (q : Text) (xs ys : List (Slot Node)) (y z : Slot Node) → has_key q (slots_from (xs ++ (y ∷ ys))) ≡ false
    → same_text q z.key.name ≡ false
    → has_key q (slots_from (xs ++ (z ∷ ys))) ≡ false
key-in-place q [] ys y z h d =
    or-both (same_text q z.key.name) (has_key q (slots_from ys)) d (or-right (same_text q y.key.name) (has_key q (slots_from ys)) h)
key-in-place q (x ∷ xs) ys y z h d =
    or-both (same_text q x.key.name) (has_key q (slots_from (xs ++ (z ∷ ys))))
    (or-left (same_text q x.key.name) (has_key q (slots_from (xs ++ (y ∷ ys)))) h)
    (key-in-place q xs ys y z (or-right (same_text q x.key.name) (has_key q (slots_from (xs ++ (y ∷ ys)))) h) d)

-- ---- the name in its place

pub made-renamed : (u : Text) (xs ys : List (Slot Node)) (s : Slot Node) → HaveOtherKeys u xs → HaveOtherKeys u ys
    → SlotsAreWellMade (slots_from (xs ++ (s ∷ ys))) → SlotsAreWellMade (slots_from (xs ++ (on_key (renamed_key u) s ∷ ys)))
made-renamed u [] ys s a b h = (no-key u ys b, tt, h.2, h.3)
made-renamed u (x ∷ xs) ys s a b h = (
  key-in-place x.key.name xs ys s (on_key (renamed_key u) s) h.0 (same_text-swap x.key.name u ∙ a.0),
  h.1,
  h.2,
  made-renamed u xs ys s a.1 b h.3,
)

pub lookup-behind : (xs ys : List (Slot Node)) (z : Slot Node) → HaveOtherKeys z.key.name xs → lookup_slot z.key.name (xs ++ (z ∷ ys))
    ≡ Some z
lookup-behind [] ys z a = if-true (same_text z.key.name z.key.name) (Some z) (lookup_slot z.key.name ys) (same_text-refl z.key.name)
lookup-behind (x ∷ xs) ys z a =
    if-false (same_text z.key.name x.key.name) (Some x) (lookup_slot z.key.name (xs ++ (z ∷ ys))) a.0 ∙ lookup-behind xs ys z a.1

others-stay : (u : Text) (ys : List (Slot Node)) → HaveOtherKeys u ys → without u ys ≡ ys
others-stay u [] b = refl
others-stay u (y ∷ ys) b =
    if-true (not (same_text u y.key.name)) (y ∷ without u ys) (without u ys) (ap not b.0) ∙ ap (λ zs. y ∷ zs) (others-stay u ys b.1)

pub without-behind : (xs ys : List (Slot Node)) (z : Slot Node) → HaveOtherKeys z.key.name xs → HaveOtherKeys z.key.name ys
    → without z.key.name (xs ++ (z ∷ ys)) ≡ xs ++ ys
without-behind [] ys z a b =
    if-false (not (same_text z.key.name z.key.name)) (z
    ∷ without z.key.name ys) (without z.key.name ys) (ap not (same_text-refl z.key.name))
    ∙ others-stay z.key.name ys b
without-behind (x ∷ xs) ys z a b =
    if-true (not (same_text z.key.name x.key.name)) (x
    ∷ without z.key.name (xs ++ (z ∷ ys))) (without z.key.name (xs ++ (z ∷ ys))) (ap not a.0)
    ∙ ap (λ zs. x ∷ zs) (without-behind xs ys z a.1 b)

-- ---- a free name

module _ (k u : Text) (s : Slot Node) (ss : Slots) (fd : Found k s (slot_list ss)) (free : is_free k u (slot_list ss) ≡ true) where
  pub renamed-is : renamed_slot k u (slot_list ss) ≡ fd.front ++ (on_key (renamed_key u) s ∷ fd.back)
  renamed-is = if-true (is_free k u (slot_list ss)) (changed k (on_key (renamed_key u)) (slot_list ss)) (slot_list ss) free
      ∙ fd.change (on_key (renamed_key u))

  pub others-of_name : HaveOtherKeys u fd.front × HaveOtherKeys u fd.back
  others-of_name = by_test (same_text k u) refl free
    where
      by_test : (b : Bool) → same_text k u ≡ b → (b || not (has_slot u (slot_list ss))) ≡ true → HaveOtherKeys u fd.front
          × HaveOtherKeys u fd.back
      by_test true e h =
          let same : s.key.name ≡ u = sym fd.named ∙ same_text-is k u e in
          (subst (λ x. HaveOtherKeys x fd.front) same fd.others_front, subst (λ x. HaveOtherKeys x fd.back) same fd.others_back)
      by_test false e h =
          let none : HaveOtherKeys u (fd.front ++ (s ∷ fd.back)) =
          subst (λ xs. HaveOtherKeys u xs) fd.is (no-slot u (slot_list ss) (not-true (has_slot u (slot_list ss)) h)) in
          let behind : HaveOtherKeys u (s ∷ fd.back) =
          all-back (λ (x : Slot Node). same_text u x.key.name ≡ false) fd.front (s ∷ fd.back) none in
          (all-front (λ (x : Slot Node). same_text u x.key.name ≡ false) fd.front (s ∷ fd.back) none, behind.1)

  pub lookup-renamed : lookup_slot u (slot_list (slots_from (renamed_slot k u (slot_list ss)))) ≡ Some (on_key (renamed_key u) s)
  lookup-renamed =
      ap (lookup_slot u) (slot_list-from (renamed_slot k u (slot_list ss)) ∙ renamed-is)
      ∙ lookup-behind fd.front fd.back (on_key (renamed_key u) s) others-of_name.0

  pub without-renamed : without u (renamed_slot k u (slot_list ss)) ≡ without k (slot_list ss)
  without-renamed = ap (without u) renamed-is ∙ without-behind fd.front fd.back (on_key (renamed_key u) s) others-of_name.0 others-of_name.1
      ∙ sym fd.remove

-- ---- no change

others-changed : (k : Text) (f : Slot Node → Slot Node) (xs : List (Slot Node)) → HaveOtherKeys k xs → changed k f xs ≡ xs
others-changed k f [] h = refl
others-changed k f (x ∷ xs) h =
    ap (λ z. z ∷ changed k f xs) (if-false (same_text k x.key.name) (f x) x h.0) ∙ ap (λ zs. x ∷ zs) (others-changed k f xs h.1)

pub renamed-stays : (k u : Text) (xs : List (Slot Node)) → (has_slot k xs && is_free k u xs) ≡ false → renamed_slot k u xs ≡ xs
renamed-stays k u xs h = by_test (is_free k u xs) h
  where
    by_test : (b : Bool) → (has_slot k xs && b) ≡ false → (if b then changed k (on_key (renamed_key u)) xs else xs) ≡ xs
    by_test true e = others-changed k (on_key (renamed_key u)) xs (no-slot k xs (sym (and-true (has_slot k xs)) ∙ e))
    by_test false e = refl
