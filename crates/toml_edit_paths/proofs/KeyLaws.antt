-- What is done to the last key of a path, as what is done to the slots and the item above it.
use Rattle.std.proofs.Common.{◌≡◌, refl, sym, ◌∙◌, ap, subst, ℕ, zero, suc, ◌+◌, ◌≤◌, arith, Bool, true, false, List, [], ◌∷◌, ◌++◌, length, Option, Some, None, inl, inr, Result, Ok, Err}
use Rattle.std.specs.Prelude.{◌⊎◌, ◌||◌, not, if◌then◌else◌, min, IfOk, OnOk, OnErr}
use Rattle.std.proofs.Math.Nat.{min-eq_left, min-eq_right, min-le_left}
use Rattle.std.specs.Option.{option_map_or}
use Rattle.toml_edit_model.specs.Text.{Text, same_text}
use Rattle.toml_edit_model.specs.Keys.{names, new_key}
use Rattle.toml_edit_model.specs.Tree.{Key, Node, nothing, leaf, list, inline, table, tables, is_value_node}
use Rattle.toml_edit_model.specs.Shown.{is_table_node}
use Rattle.toml_edit_model.specs.Slots.{Slot, keyed, with_item, on_key, lookup_slot, has_slot, changed, without}
use Rattle.toml_edit_model.specs.Lists.{slot_list, slots_from, item_list, items_from, is_item, only, on_slots, slots_in}
use Rattle.toml_edit_model.specs.Rearranging.{inserted_slot, is_free, moved_slot, renamed_key, renamed_slot}
use Rattle.toml_edit_edit_laws.specs.Commands.{Refusal, Answer, done, refused, no_such_path, taken, mapped, child, child_changed, change_slot}
use Rattle.toml_edit_edit_laws.specs.Commands.{change_element, element_of, and_then, item_below, present, second}
use Rattle.toml_edit_edit_laws.specs.KeyCalls.{key_changed, moved_where, renamed_where, slots_changed, where_present}
use Rattle.toml_edit_edit_laws.proofs.commands.Finding.{some-and}
use Rattle.toml_edit_edit_laws.proofs.commands.Keeping.{present-is}
use Rattle.toml_edit_edit_laws.proofs.commands.Setting.{was-mapped}
use Rattle.toml_edit_edit_laws.proofs.path_calls.Keys.{child-at, key-goes-down}
use Rattle.toml_edit_laws.proofs.common.OptionSteps.{some-is}
use Rattle.toml_edit_slots.specs.Renaming.{renaming}
use Rattle.toml_edit_slots.specs.declared.slots.rearrange.Renamed.{Renamed}
use Rattle.toml_edit_slots.specs.declared.slots.rearrange.Renamed.TheVariants.{Done, Absent, Taken}
use Rattle.toml_edit_slots.specs.Seen.{seen}
use Rattle.toml_edit_slots.specs.declared.slots.Slot as held_slot
use Rattle.toml_edit_tree.specs.Indexed.{shown_slots}
use Rattle.toml_edit_tree.specs.declared.item.Item.{Item}
use Rattle.toml_edit_paths.specs.Calls.{item_inside, replaced_below}
use Rattle.toml_edit_paths.specs.Changes.{Moves, Renames}
use Rattle.toml_edit_paths.proofs.SeenLaws.{has-shown, length-shown, moved-shown, renamed-shown, renaming-shown}
use Rattle.toml_edit_paths.proofs.StepLaws.{slots-kept}

pub inside-below : (path : List Text) (n m : Node) → item_inside path n ≡ Some m → item_below path n ≡ Some m
inside-below [] n m h = absurd cc
inside-below (k ∷ path) n m h = h

-- ---- along a path

-- where nothing is changed of what a key that is missing would lead to
child-none : (k : Text) (go : Node → Answer Node) (n : Node) → go nothing ≡ refused no_such_path → child k n ≡ None
    → child_changed false (new_key k) go n ≡ refused no_such_path
child-none k go (table f ss) none at = ap (mapped (λ xs. table f (slots_from xs))) (by_slot (lookup_slot k (slot_list ss)) at)
  where
    by_item : (s : Slot Node) (n : Node) → s.item ≡ n → only is_item n ≡ None → mapped (λ m. changed k (with_item m) (slot_list ss)) (go s.item)
        ≡ refused no_such_path
    by_item s nothing e h = ap (λ m. mapped (λ m. changed k (with_item m) (slot_list ss)) (go m)) e ∙ ap (mapped (λ m. changed k (with_item m) (slot_list ss))) none
    by_item s (leaf x r d) e h = absurd cc
    by_item s (list g xs) e h = absurd cc
    by_item s (inline g xs) e h = absurd cc
    by_item s (table g xs) e h = absurd cc
    by_item s (tables g xs) e h = absurd cc

    by_slot : (o : Option (Slot Node)) → present o ≡ None → change_slot false (new_key k) go (slot_list ss) o ≡ refused no_such_path
    by_slot None h = refl
    by_slot (Some s) h = by_item s s.item refl h
child-none k go (inline f ss) none at = ap (mapped (λ xs. inline f (slots_from xs))) (by_slot (lookup_slot k (slot_list ss)) at)
  where
    by_item : (s : Slot Node) (n : Node) → s.item ≡ n → only is_item n ≡ None → mapped (λ m. changed k (with_item m) (slot_list ss)) (go s.item)
        ≡ refused no_such_path
    by_item s nothing e h = ap (λ m. mapped (λ m. changed k (with_item m) (slot_list ss)) (go m)) e ∙ ap (mapped (λ m. changed k (with_item m) (slot_list ss))) none
    by_item s (leaf x r d) e h = absurd cc
    by_item s (list g xs) e h = absurd cc
    by_item s (inline g xs) e h = absurd cc
    by_item s (table g xs) e h = absurd cc
    by_item s (tables g xs) e h = absurd cc

    by_slot : (o : Option (Slot Node)) → present o ≡ None → change_slot false (new_key k) go (slot_list ss) o ≡ refused no_such_path
    by_slot None h = refl
    by_slot (Some s) h = by_item s s.item refl h
child-none k go (list f xs) none at = ap (mapped (λ ns. list f (items_from ns))) (by_element (element_of is_value_node k (item_list xs)) at)
  where
    by_element : (o : Option (ℕ × Node)) → second o ≡ None → change_element go (item_list xs) o ≡ refused no_such_path
    by_element None h = refl
    by_element (Some y) h = absurd cc
child-none k go (tables e xs) none at = ap (mapped (λ ns. tables e (items_from ns))) (by_element (element_of is_table_node k (item_list xs)) at)
  where
    by_element : (o : Option (ℕ × Node)) → second o ≡ None → change_element go (item_list xs) o ≡ refused no_such_path
    by_element None h = refl
    by_element (Some y) h = absurd cc
child-none k go (leaf s r d) none at = refl
child-none k go nothing none at = refl

module _ (g : Text → List (Slot Node) → Answer (List (Slot Node))) (k : Text) where
  replaced-key : (path : List Text) (n m x y : Node) → item_below path n ≡ Some m → slots_changed (g k) m ≡ done x
      → replaced_below path x n ≡ done y → key_changed g (path ++ (k ∷ [])) n ≡ done y
  replaced-key [] n m x y at h r = ap (slots_changed (g k)) (some-is n m at) ∙ h ∙ r
  replaced-key (j ∷ path) n m x y at h r =
      let a = some-and (item_below path) (child j n) m at in
      let c = child-at j n a.0 a.1 in
      let w = was-mapped c.0 (replaced_below path x a.0) y (sym (c.1 (replaced_below path x)) ∙ r) in
      key-goes-down g k [] j path n ∙ c.1 (key_changed g (path ++ (k ∷ [])))
      ∙ ap (mapped c.0) (replaced-key path a.0 m x w.from a.2 h w.is) ∙ ap (λ z. done z) (sym w.gives)

  refused-key : (path : List Text) (n m : Node) (r : Refusal) → item_below path n ≡ Some m → slots_changed (g k) m ≡ refused r
      → key_changed g (path ++ (k ∷ [])) n ≡ refused r
  refused-key [] n m r at h = ap (slots_changed (g k)) (some-is n m at) ∙ h
  refused-key (j ∷ path) n m r at h =
      let a = some-and (item_below path) (child j n) m at in
      let c = child-at j n a.0 a.1 in
      key-goes-down g k [] j path n ∙ c.1 (key_changed g (path ++ (k ∷ []))) ∙ ap (mapped c.0) (refused-key path a.0 m r a.2 h)

  nothing-key : (path : List Text) → key_changed g (path ++ (k ∷ [])) nothing ≡ refused no_such_path
  nothing-key [] = refl
  nothing-key (j ∷ path) = key-goes-down g k [] j path nothing

  pub no-key : (path : List Text) (n : Node) → item_below path n ≡ None → key_changed g (path ++ (k ∷ [])) n ≡ refused no_such_path
  no-key [] n h = absurd cc
  no-key (j ∷ path) n h = key-goes-down g k [] j path n ∙ by_child (child j n) refl h (no-key path)
    where
      by_child : (o : Option Node) → child j n ≡ o → and_then (item_below path) o ≡ None
          → ((a : Node) → item_below path a ≡ None → key_changed g (path ++ (k ∷ [])) a ≡ refused no_such_path)
          → child_changed false (new_key j) (key_changed g (path ++ (k ∷ []))) n ≡ refused no_such_path
      by_child None e h go = child-none j (key_changed g (path ++ (k ∷ []))) n (nothing-key path) e
      by_child (Some a) e h go =
          let c = child-at j n a e in
          c.1 (key_changed g (path ++ (k ∷ []))) ∙ ap (mapped c.0) (go a h)

  -- what a closure did to the item above the key, as what was done to the whole
  module _ (path : List Text) (n new item left : Node) (at : item_inside path n ≡ Some item)
      (back : replaced_below path left n ≡ done new) (unchanged : left ≡ item → new ≡ n) where
    below : item_below path n ≡ Some item
    below = inside-below path n item at

    pub renames-along : {E : Type 0} (r : Result Renamed E) → Renames (slots_changed (g k) item) item left r
        → Renames (key_changed g (path ++ (k ∷ [])) n) n new r
    renames-along (Ok Done) h = replaced-key path n item left new below h back
    renames-along (Ok Absent) h = (refused-key path n item no_such_path below h.0, unchanged h.1)
    renames-along (Ok Taken) h = (refused-key path n item taken below h.0, unchanged h.1)
    renames-along (Err e) h = unchanged h

    pub moves-along : (b : Bool) → Moves (slots_changed (g k) item) item left b → Moves (key_changed g (path ++ (k ∷ [])) n) n new b
    moves-along true h = replaced-key path n item left new below h back
    moves-along false h = (refused-key path n item no_such_path below h.0, unchanged h.1)

-- ---- the slots of an item

pub in-slots : (h : List (Slot Node) → Answer (List (Slot Node))) (n : Node) (ss : List (Slot Node)) → slots_in n ≡ Some ss
    → mapped (λ xs. on_slots (λ _. xs) n) (h ss) ≡ slots_changed h n
in-slots h (table f s) ss e = ap (λ l. mapped (λ xs. table f (slots_from xs)) (h l)) (sym (some-is (slot_list s) ss e))
in-slots h (inline f s) ss e = ap (λ l. mapped (λ xs. inline f (slots_from xs)) (h l)) (sym (some-is (slot_list s) ss e))
in-slots h (leaf s r d) ss e = absurd cc
in-slots h (list f xs) ss e = absurd cc
in-slots h (tables f xs) ss e = absurd cc
in-slots h nothing ss e = absurd cc

pub no-slots : (h : List (Slot Node) → Answer (List (Slot Node))) (n : Node) → slots_in n ≡ None → slots_changed h n ≡ refused no_such_path
no-slots h (leaf s r d) e = refl
no-slots h (list f xs) e = refl
no-slots h (tables f xs) e = refl
no-slots h nothing e = refl
no-slots h (table f s) e = absurd cc
no-slots h (inline f s) e = absurd cc

renames-mapped : {A B E : Type 0} (f : A → B) (m : Answer A) (a b : A) (r : Result Renamed E) → Renames m a b r
    → Renames (mapped f m) (f a) (f b) r
renames-mapped f m a b (Ok Done) h = ap (mapped f) h
renames-mapped f m a b (Ok Absent) h = (ap (mapped f) h.0, ap f h.1)
renames-mapped f m a b (Ok Taken) h = (ap (mapped f) h.0, ap f h.1)
renames-mapped f m a b (Err e) h = ap f h

moves-mapped : {A B : Type 0} (f : A → B) (m : Answer A) (a b : A) (r : Bool) → Moves m a b r → Moves (mapped f m) (f a) (f b) r
moves-mapped f m a b true h = ap (mapped f) h
moves-mapped f m a b false h = (ap (mapped f) h.0, ap f h.1)

-- a change of the slots is one of the item
module _ (h : List (Slot Node) → Answer (List (Slot Node))) (n : Node) (ss new : List (Slot Node)) (is : slots_in n ≡ Some ss)
    (made : Node) (made_is : on_slots (λ _. new) n ≡ made) where
  pub renames-slots : {E : Type 0} (r : Result Renamed E) → Renames (h ss) ss new r → Renames (slots_changed h n) n made r
  renames-slots r c =
      subst (λ x. Renames (slots_changed h n) n x r) made_is
      (subst (λ x. Renames (slots_changed h n) x (on_slots (λ _. new) n) r) (slots-kept n ss is)
      (subst (λ m. Renames m (on_slots (λ _. ss) n) (on_slots (λ _. new) n) r) (in-slots h n ss is)
      (renames-mapped (λ xs. on_slots (λ _. xs) n) (h ss) ss new r c)))

  pub moves-slots : (r : Bool) → Moves (h ss) ss new r → Moves (slots_changed h n) n made r
  moves-slots r c =
      subst (λ x. Moves (slots_changed h n) n x r) made_is
      (subst (λ x. Moves (slots_changed h n) x (on_slots (λ _. new) n) r) (slots-kept n ss is)
      (subst (λ m. Moves m (on_slots (λ _. ss) n) (on_slots (λ _. new) n) r) (in-slots h n ss is)
      (moves-mapped (λ xs. on_slots (λ _. xs) n) (h ss) ss new r c)))

-- ---- the slot of a key

slot-there : (k : Text) (ss : List (Slot Node)) (s : Slot Node) → lookup_slot k ss ≡ Some s → has_slot k ss ≡ true
slot-there k [] s h = absurd cc
slot-there k (x ∷ ss) s h = by_test (same_text k x.key.name) h (slot-there k ss s)
  where
    by_test : (b : Bool) → (if b then Some x else lookup_slot k ss) ≡ Some s → (lookup_slot k ss ≡ Some s → has_slot k ss ≡ true)
        → (b || has_slot k ss) ≡ true
    by_test true h go = refl
    by_test false h go = go h

has-there : (k : Text) (ss : List (Slot Node)) (n : Node) → present (lookup_slot k ss) ≡ Some n → has_slot k ss ≡ true
has-there k ss n h = let p = present-is (lookup_slot k ss) n h in slot-there k ss (keyed p.key n) p.is

module _ (k u : Text) (ss new : List (Slot Node)) (n : Node) (there : present (lookup_slot k ss) ≡ Some n) where
  meant : renamed_where u k ss ≡ (if is_free k u ss then done (renamed_slot k u ss) else refused taken)
  meant = ap (λ o. where_present o (if is_free k u ss then done (renamed_slot k u ss) else refused taken)) there

  told-is : renaming k u ss ≡ (if is_free k u ss then Done else Taken)
  told-is = ap (λ b. if b then (if is_free k u ss then Done else Taken) else Absent) (has-there k ss n there)

  module _ {E : Type 0} where
    pub slot-renames : (r : Result Renamed E) → IfOk r (λ told. told ≡ renaming k u ss) → OnOk r (new ≡ renamed_slot k u ss)
        → OnErr r (new ≡ ss) → Renames (renamed_where u k ss) ss new r
    slot-renames (Err e) told left same = same
    slot-renames (Ok told) is left same = by_test (is_free k u ss) refl told (is ∙ told-is)
      where
        by_test : (b : Bool) → is_free k u ss ≡ b → (told : Renamed) → told ≡ (if b then Done else Taken)
            → Renames {E = E} (renamed_where u k ss) ss new (Ok told)
        by_test true e Done h = meant ∙ ap (λ b. if b then done (renamed_slot k u ss) else refused taken) e ∙ ap (λ z. done z) (sym left)
        by_test true e Absent h = absurd cc
        by_test true e Taken h = absurd cc
        by_test false e Taken h = (
          meant ∙ ap (λ b. if b then done (renamed_slot k u ss) else refused taken) e,
          left ∙ ap (λ b. if b then changed k (on_key (renamed_key u)) ss else ss) e,
        )
        by_test false e Done h = absurd cc
        by_test false e Absent h = absurd cc

pub slot-moves : (k : Text) (ss new : List (Slot Node)) (n : Node) → present (lookup_slot k ss) ≡ Some n → (i j : ℕ) (b : Bool) → b ≡ has_slot k ss
    → new ≡ moved_slot k j ss → moved_slot k j ss ≡ moved_slot k i ss → Moves (moved_where i k ss) ss new b
slot-moves k ss new n there i j true found left same =
    ap (λ o. where_present o (done (moved_slot k i ss))) there ∙ ap (λ z. done z) (sym (left ∙ same))
slot-moves k ss new n there i j false found left same = absurd (let h : false ≡ true = found ∙ has-there k ss n there in cc)

-- ---- a place beyond the last

beyond : (xs : List (Slot Node)) (i : ℕ) (s : Slot Node) → length xs ≤ i → inserted_slot i s xs ≡ xs ++ (s ∷ [])
beyond [] zero s h = refl
beyond [] (suc i) s h = refl
beyond (x ∷ xs) zero s h = absurd (omega arith)
beyond (x ∷ xs) (suc i) s h = let g : length xs ≤ i = omega arith in ap (λ l. x ∷ l) (beyond xs i s g)

fewer : (k : Text) (ss : List (Slot Node)) → length (without k ss) ≤ length ss
fewer k [] = omega arith
fewer k (x ∷ ss) = by_test (same_text k x.key.name) (fewer k ss)
  where
    by_test : (b : Bool) → length (without k ss) ≤ length ss
        → length (if not b then x ∷ without k ss else without k ss) ≤ length (x ∷ ss)
    by_test true h = omega arith
    by_test false h = omega arith

one-fewer : (k : Text) (ss : List (Slot Node)) (s : Slot Node) → lookup_slot k ss ≡ Some s → length (without k ss) + 1 ≤ length ss
one-fewer k [] s h = absurd cc
one-fewer k (x ∷ ss) s h = by_test (same_text k x.key.name) h (fewer k ss) (one-fewer k ss s)
  where
    by_test : (b : Bool) → (if b then Some x else lookup_slot k ss) ≡ Some s → length (without k ss) ≤ length ss
        → (lookup_slot k ss ≡ Some s → length (without k ss) + 1 ≤ length ss)
        → length (if not b then x ∷ without k ss else without k ss) + 1 ≤ length (x ∷ ss)
    by_test true h less go = omega arith
    by_test false h less go = let g : length (without k ss) + 1 ≤ length ss = go h in omega arith

moved-at : (k : Text) (i : ℕ) (ss : List (Slot Node)) (s : Slot Node) → lookup_slot k ss ≡ Some s → moved_slot k i ss
    ≡ inserted_slot i s (without k ss)
moved-at k i ss s h = ap (λ o. option_map_or (λ s. inserted_slot i s (without k ss)) o ss) h

-- a place beyond the last is the last
pub last-place : (k : Text) (i j : ℕ) (ss : List (Slot Node)) (n : Node) → present (lookup_slot k ss) ≡ Some n → (j ≡ i) ⊎ ((j ≤ i) × (length ss ≡ j + 1))
    → moved_slot k j ss ≡ moved_slot k i ss
last-place k i j ss n there (inl same) = ap (λ z. moved_slot k z ss) same
last-place k i j ss n there (inr (less, last)) =
    let p = present-is (lookup_slot k ss) n there in
    let s : Slot Node = keyed p.key n in
    let few : length (without k ss) + 1 ≤ length ss = one-fewer k ss s p.is in
    let a : length (without k ss) ≤ j = omega (arith, few, last) in
    let b : length (without k ss) ≤ i = omega (arith, few, last, less) in
    moved-at k j ss s p.is ∙ beyond (without k ss) j s a ∙ sym (moved-at k i ss s p.is ∙ beyond (without k ss) i s b)

-- ---- the slots of the code

pub slots-rename : {E : Type 0} (k u x y : Text) (es fs : List (held_slot.Slot Item)) (n : Node) → x ≡ k → y ≡ k
    → present (lookup_slot x (shown_slots es)) ≡ Some n → (r : Result Renamed E) → IfOk r (λ told. told ≡ renaming y u (seen es))
    → OnOk r (seen fs ≡ renamed_slot y u (seen es)) → OnErr r (fs ≡ es)
    → Renames (renamed_where u k (shown_slots es)) (shown_slots es) (shown_slots fs) r
slots-rename k u x y es fs n ex ey there (Err e) told left same = ap shown_slots same
slots-rename {E = E} k u x y es fs n ex ey there (Ok told) is left same =
    slot-renames k u (shown_slots es) (shown_slots fs) n (ap (λ z. present (lookup_slot z (shown_slots es))) (sym ex) ∙ there) {E = E} (Ok told)
    (is ∙ sym (renaming-shown y u es) ∙ ap (λ z. renaming z u (shown_slots es)) ey)
    (renamed-shown y u es fs left ∙ ap (λ z. renamed_slot z u (shown_slots es)) ey) tt

le-or : (i j : ℕ) → (i ≤ j) ⊎ (j ≤ i)
le-or zero j = inl (omega arith)
le-or (suc i) zero = inr (omega arith)
le-or (suc i) (suc j) = elim (le-or i j) [
  | inl h ↦ inl (omega (arith, h))
  | inr h ↦ inr (omega (arith, h))
]

pub slots-move : (k x y : Text) (i last : ℕ) (es fs : List (held_slot.Slot Item)) (n : Node) → x ≡ k → y ≡ k
    → present (lookup_slot x (shown_slots es)) ≡ Some n → (b : Bool) (j : ℕ) → b ≡ has_slot y (seen es)
    → seen fs ≡ moved_slot y j (seen es) → j ≡ min i last → length es ≡ last + 1
    → Moves (moved_where i k (shown_slots es)) (shown_slots es) (shown_slots fs) b
slots-move k x y i last es fs n ex ey there b j found left is size =
    let at : present (lookup_slot k (shown_slots es)) ≡ Some n = ap (λ z. present (lookup_slot z (shown_slots es))) (sym ex) ∙ there in
    let place : (j ≡ i) ⊎ ((j ≤ i) × (length (shown_slots es) ≡ j + 1)) =
    elim (le-or i last) [
      | inl h ↦ inl (is ∙ min-eq_left h)
      | inr h ↦
          inr (
            subst (λ z. z ≤ i) (sym is) (min-le_left i last),
            length-shown es ∙ size ∙ ap (λ z. z + 1) (sym (is ∙ min-eq_right h)),
          )
    ] in
    slot-moves k (shown_slots es) (shown_slots fs) n at i j b
    (found ∙ sym (has-shown y es) ∙ ap (λ z. has_slot z (shown_slots es)) ey)
    (moved-shown y j es fs left ∙ ap (λ z. moved_slot z j (shown_slots es)) ey)
    (last-place k i j (shown_slots es) n at place)

-- ---- above the last key

names-join : (path more : List Key) → names (path ++ more) ≡ names path ++ names more
names-join [] more = refl
names-join (k ∷ path) more = ap (λ ks. k.name ∷ ks) (names-join path more)

pub last-names : (path above : List Key) (key : Key) → path ≡ above ++ (key ∷ []) → names path ≡ names above ++ (key.name ∷ [])
last-names path above key is = ap names is ∙ names-join above (key ∷ [])

pub none-inside : (above : List Key) (n : Node) → (above ≡ [] → ⊥) → item_inside (names above) n ≡ None → item_below (names above) n ≡ None
none-inside [] n some h = absurd (some refl)
none-inside (k ∷ above) n some h = h
