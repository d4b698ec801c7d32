-- `rename_at` and `move_at`, of a slot of a table on the walk, or inside a value.
use Rattle.std.proofs.Common.{◌≡◌, refl, sym, ◌∙◌, ap, subst, ℕ, Bool, true, false, List, [], ◌∷◌, ◌++◌, Option, Some, None, inl, inr}
use Rattle.std.specs.Prelude.{◌⊎◌, if◌then◌else◌, not}
use Rattle.toml_edit_model.specs.Mode.{Mode}
use Rattle.toml_edit_model.specs.Text.{Text}
use Rattle.toml_edit_model.specs.Paths.{Path, to_key}
use Rattle.toml_edit_model.specs.Keys.{new_key}
use Rattle.toml_edit_model.specs.Tree.{Node, nothing, leaf, list, inline, table, tables, Slots, SlotsAreWellMade, IsWellMade, Tree, is_value_node}
use Rattle.toml_edit_model.specs.HeaderOrder.{Visit}
use Rattle.toml_edit_model.specs.Fits.{is_steady_in}
use Rattle.toml_edit_model.specs.Shown.{is_table_node}
use Rattle.toml_edit_model.specs.Slots.{Slot, keyed, with_item, lookup_slot, changed, without}
use Rattle.toml_edit_model.specs.Lists.{slot_list, slots_from, item_list, items_from, is_dotted_inline}
use Rattle.toml_edit_model.specs.ArrayCalls.{written_at}
use Rattle.toml_edit_model.specs.Rearranging.{is_free, moved_slot, renamed_slot}
use Rattle.toml_edit_laws.specs.Locality.{Turn, root_visit, edited}
use Rattle.toml_edit_laws.specs.EditLists.{replace}
use Rattle.toml_edit_edit_laws.specs.Commands.{Answer, done, refused, taken, mapped, child, child_changed, change_slot, change_element, element_of}
use Rattle.toml_edit_edit_laws.specs.Commands.{and_then, item_below, present, root_item, with_slots}
use Rattle.toml_edit_edit_laws.specs.KeyCalls.{key_changed, moved_where, renamed_where, slots_changed, where_present}
use Rattle.toml_edit_edit_laws.specs.Places.{place_of}
use Rattle.toml_edit_edit_laws.specs.Staying.{away_from, StaysButAt}
use Rattle.toml_edit_edit_laws.specs.PathEdits.{PathCall, renames, moves, with_last, GoesTo, SlotAt, RenamesSlot, MovesSlot}
use Rattle.toml_edit_edit_laws.specs.PathEdits.{path_of_call, places_of_call, IsEdit, IsEditAt, RenameEdits, MoveEdits}
use Rattle.toml_edit_edit_laws.proofs.commands.Finding.{below-was, some-and, some-second}
use Rattle.toml_edit_edit_laws.proofs.commands.Going.{goes-along, item-along, made-goes}
use Rattle.toml_edit_edit_laws.proofs.commands.Keeping.{child-only, present-is}
use Rattle.toml_edit_edit_laws.proofs.commands.Setting.{Stands, WasMapped, below-stands, done-is, was-mapped}
use Rattle.toml_edit_laws.proofs.common.OptionSteps.{some-is}
use Rattle.toml_edit_laws.proofs.locality.Slots.{Found, found as found-in, slots_from-list}
use Rattle.toml_edit_laws.proofs.locality.Made.{split-made}
use Rattle.toml_edit_laws.proofs.locality.Sound.{leads-made, leads-sound, sound-slot, Steady, steady-parts}
use Rattle.toml_edit_edit_laws.proofs.path_calls.Inside.{spelled}
use Rattle.toml_edit_edit_laws.proofs.path_calls.Setting.{edit-of}
use Rattle.toml_edit_edit_laws.proofs.path_calls.Spots.{GoesOn, at_slot, at_element, in_value, Spot, spot}
use Rattle.toml_edit_edit_laws.proofs.path_calls.Places.{key-place, spot-inside, spot-place}
use Rattle.toml_edit_edit_laws.proofs.path_calls.Staying.{move_stays, renaming_stays}
use Rattle.toml_edit_edit_laws.proofs.placing.Lists.{Taken, taken as taken-out, made-moved}
use Rattle.toml_edit_edit_laws.proofs.renaming.Names.{made-renamed, others-of_name, renamed-is}

-- ---- down a path

twice : {A B C : Type 0} (f : B → C) (g : A → B) (a : Answer A) → mapped f (mapped g a) ≡ mapped (λ x. f (g x)) a
twice f g (done x) = refl
twice f g (refused r) = refl

-- where a key leads to an item, a change of that item is one of the whole
pub child-at : (k : Text) (n a : Node) → child k n ≡ Some a → (whole : Node → Node)
    × ((go : Node → Answer Node) → child_changed false (new_key k) go n ≡ mapped whole (go a))
child-at k (table f ss) a at =
    let p = present-is (lookup_slot k (slot_list ss)) a at in (
      λ m. table f (slots_from (changed k (with_item m) (slot_list ss))),
      λ go. ap (λ o. mapped (λ xs. table f (slots_from xs)) (change_slot false (new_key k) go (slot_list ss) o)) p.is
          ∙ twice (λ xs. table f (slots_from xs)) (λ m. changed k (with_item m) (slot_list ss)) (go a),
    )
child-at k (inline f ss) a at =
    let p = present-is (lookup_slot k (slot_list ss)) a at in (
      λ m. inline f (slots_from (changed k (with_item m) (slot_list ss))),
      λ go. ap (λ o. mapped (λ xs. inline f (slots_from xs)) (change_slot false (new_key k) go (slot_list ss) o)) p.is
          ∙ twice (λ xs. inline f (slots_from xs)) (λ m. changed k (with_item m) (slot_list ss)) (go a),
    )
child-at k (list f xs) a at =
    let y = some-second (element_of is_value_node k (item_list xs)) a at in (
      λ m. list f (items_from (written_at y.0 m (item_list xs))),
      λ go. ap (λ o. mapped (λ ns. list f (items_from ns)) (change_element go (item_list xs) o)) y.1
          ∙ twice (λ ns. list f (items_from ns)) (λ m. written_at y.0 m (item_list xs)) (go a),
    )
child-at k (tables e xs) a at =
    let y = some-second (element_of is_table_node k (item_list xs)) a at in (
      λ m. tables e (items_from (written_at y.0 m (item_list xs))),
      λ go. ap (λ o. mapped (λ ns. tables e (items_from ns)) (change_element go (item_list xs) o)) y.1
          ∙ twice (λ ns. tables e (items_from ns)) (λ m. written_at y.0 m (item_list xs)) (go a),
    )
child-at k (leaf s r d) a at = absurd cc
child-at k nothing a at = absurd cc

-- what a key leads to was changed
child-went : (k : Text) (go : Node → Answer Node) (n a m : Node) → child k n ≡ Some a → child_changed false (new_key k) go n ≡ done m → (b : Node)
    × (go a ≡ done b)
child-went k go n a m at h =
    let c = child-at k n a at in
    let w = was-mapped c.0 (go a) m (sym (c.1 go) ∙ h) in
    (w.from, w.is)

-- ---- what was changed

-- the slots of a table on the walk
record InTable (g : Text → List (Slot Node) → Answer (List (Slot Node))) (f : Text → List (Slot Node) → List (Slot Node)) (t u : Tree)
    (path : List Text) : Type 0 where
  slot : SlotAt t path
  changed : g slot.key (slot_list slot.table.slots) ≡ done (f slot.key (slot_list slot.table.slots))
  leaves : u ≡ edited slot.way (f slot.key) t

-- or a value that the path goes into
record InValue (mode : Mode) (c : PathCall) (t u : Tree) (path : List Text) : Type 0 where
  edit : IsEdit mode c t u
  front : List Text
  key : Text
  next : Text
  inner : List Text
  is : path ≡ front ++ (key ∷ next ∷ inner)
  same : (more : List Text) → place_of t (front ++ (key ∷ more)) ≡ place_of t path

pub key-goes-down : (g : Text → List (Slot Node) → Answer (List (Slot Node))) (j : Text) (more : List Text) (k : Text) (path : List Text)
    (n : Node)
    → key_changed g (k ∷ (path ++ (j ∷ more))) n ≡ child_changed false (new_key k) (key_changed g (path ++ (j ∷ more))) n
key-goes-down g j more k [] n = refl
key-goes-down g j more k (x ∷ path) n = refl

-- ---- any change of the slots where the last key is

-- a change that is made only where a key leads to an item, and keeps slots well made
module _ (g : Text → List (Slot Node) → Answer (List (Slot Node))) (f : Text → List (Slot Node) → List (Slot Node))
    (gives : (k : Text) (xs ys : List (Slot Node)) → g k xs ≡ done ys → ys ≡ f k xs)
    (there : (k : Text) (xs ys : List (Slot Node)) → g k xs ≡ done ys → (n : Node) × (present (lookup_slot k xs) ≡ Some n))
    (keeps : (k : Text) (ss : Slots) (ys : List (Slot Node)) → SlotsAreWellMade ss → g k (slot_list ss) ≡ done ys
    → SlotsAreWellMade (slots_from ys)) where
  -- the last key is there
  last-there : (k : Text) (n m : Node) → slots_changed (g k) n ≡ done m → (x : Node) × (child k n ≡ Some x)
  last-there k (table f ss) m h =
      let w = was-mapped (λ xs. table f (slots_from xs)) (g k (slot_list ss)) m h in
      there k (slot_list ss) w.from w.is
  last-there k (inline f ss) m h =
      let w = was-mapped (λ xs. inline f (slots_from xs)) (g k (slot_list ss)) m h in
      there k (slot_list ss) w.from w.is
  last-there k (list f xs) m h = absurd cc
  last-there k (tables e xs) m h = absurd cc
  last-there k (leaf s r d) m h = absurd cc
  last-there k nothing m h = absurd cc

  pub was-there : (path : List Text) (n m : Node) → key_changed g path n ≡ done m → (x : Node) × (item_below path n ≡ Some x)
  was-there [] n m h = absurd cc
  was-there (k ∷ []) n m h = let r = last-there k n m h in (r.0, ap (and_then (item_below [])) r.1)
  was-there (k ∷ l ∷ path) n m h =
      below-was k (key_changed g (l ∷ path)) l path (λ a b e. was-there (l ∷ path) a b e) n m h

  -- what a longer path leads to was changed by the rest of the path
  rest-done : (front : List Text) (j : Text) (more : List Text) (n a m : Node) → item_below front n ≡ Some a
      → key_changed g (front ++ (j ∷ more)) n ≡ done m → (b : Node) × (key_changed g (j ∷ more) a ≡ done b)
  rest-done [] j more n a m at h = (m, ap (key_changed g (j ∷ more)) (sym (some-is n a at)) ∙ h)
  rest-done (k ∷ front) j more n a m at h =
      let c = some-and (item_below front) (child k n) a at in
      let r = child-went k (key_changed g (front ++ (j ∷ more))) n c.0 m c.1 (sym (key-goes-down g j more k front n) ∙ h) in
      rest-done front j more c.0 a r.0 c.2 r.1

  -- a value after a change inside it
  last-stands : (k : Text) (old n : Node) → is_value_node old ≡ true → is_dotted_inline old ≡ false → slots_changed (g k) old ≡ done n
      → Stands old n
  last-stands k (inline f ss) n is undotted h =
      let w = was-mapped (λ xs. inline f (slots_from xs)) (g k (slot_list ss)) n h in
      subst (Stands (inline f ss)) (sym w.gives) (ap not undotted, refl)
  last-stands k (list f xs) n is undotted h = absurd cc
  last-stands k (leaf s r d) n is undotted h = absurd cc
  last-stands k (table f ss) n is undotted h = absurd cc
  last-stands k (tables e xs) n is undotted h = absurd cc
  last-stands k nothing n is undotted h = absurd cc

  stands : (x : Text) (inner : List Text) (old n : Node) → is_value_node old ≡ true → is_dotted_inline old ≡ false
      → key_changed g (x ∷ inner) old ≡ done n → Stands old n
  stands x [] old n is undotted h = last-stands x old n is undotted h
  stands x (y ∷ inner) old n is undotted h = below-stands false (new_key x) (key_changed g (y ∷ inner)) old n is undotted h

  last-made : (k : Text) (n m : Node) → IsWellMade n → slots_changed (g k) n ≡ done m → IsWellMade m
  last-made k (table f ss) m w h =
      let x = was-mapped (λ xs. table f (slots_from xs)) (g k (slot_list ss)) m h in
      subst IsWellMade (sym x.gives) (keeps k ss x.from w x.is)
  last-made k (inline f ss) m w h =
      let x = was-mapped (λ xs. inline f (slots_from xs)) (g k (slot_list ss)) m h in
      subst IsWellMade (sym x.gives) (keeps k ss x.from w x.is)
  last-made k (list f xs) m w h = absurd cc
  last-made k (tables e xs) m w h = absurd cc
  last-made k (leaf s r d) m w h = absurd cc
  last-made k nothing m w h = absurd cc

  made-so : (path : List Text) (n m : Node) → IsWellMade n → key_changed g path n ≡ done m → IsWellMade m
  made-so [] n m w h = absurd cc
  made-so (k ∷ []) n m w h = last-made k n m w h
  made-so (k ∷ l ∷ path) n m w h =
      (child-only false (new_key k) tt (key_changed g (l ∷ path)) (λ a b. Unit {0}) (λ a b wa e. (tt, made-so (l ∷ path) a b wa e)) n m w h).1

  -- ---- the edit

  module _ (mode : Mode) (c : PathCall) (t u : Tree) (path : List Text) (is_path : path_of_call c ≡ path)
      (at_value : (way : List Turn) (k x : Text) (inner : List Text) (n : Node) → GoesTo way k (x ∷ inner) path
      → IsEditAt c (replace way k (λ l. l) n))
      (made : SlotsAreWellMade t.slots) (steady : is_steady_in mode t ≡ true)
      (is_done : mapped (with_slots t) (key_changed g path (root_item t)) ≡ done u) where
    module _ (found : Node) (p : Spot (root_visit t) path found) where
      abbrev w : Visit
      w = p.visit

      well : SlotsAreWellMade w.slots
      well = leads-made p.way (root_visit t) w made p.leads

      there-is : Found p.segment (keyed p.key p.top) (slot_list w.slots)
      there-is = found-in p.segment w.slots (keyed p.key p.top) well p.there

      root : WasMapped (with_slots t) (key_changed g path (root_item t)) u
      root = was-mapped (with_slots t) (key_changed g path (root_item t)) u is_done

      split : (more : List Text) → p.inner ≡ more → path ≡ p.front ++ (p.segment ∷ more)
      split more is = p.path_is ∙ ap (λ (z : List Text). p.front ++ (p.segment ∷ z)) is

      -- the table was changed by the rest of the path
      went : (more : List Text) → p.inner ≡ more → (b : Node) × (key_changed g (p.segment ∷ more) (table w.fields w.slots) ≡ done b)
      went more is =
          rest-done p.front p.segment more (root_item t) (table w.fields w.slots) root.from
          (item-along p.way p.front (root_visit t) w p.goes p.leads)
          (ap (λ q. key_changed g q (root_item t)) (sym (split more is)) ∙ root.is)

      left : (more : List Text) (h : List (Slot Node) → List (Slot Node)) → p.inner ≡ more
          → key_changed g (p.segment ∷ more) (table w.fields w.slots) ≡ done (table w.fields (slots_from (h (slot_list w.slots))))
          → u ≡ edited p.way h t
      left more h is here =
          let along = goes-along new_key false (key_changed g) (p.segment ∷ more) (key-goes-down g p.segment more) h p.way p.front (root_visit t) w
          made (made-goes p.way p.front p.goes) p.leads here in
          done-is u (edited p.way h t)
          (sym is_done ∙ ap (λ q. mapped (with_slots t) (key_changed g q (root_item t))) (split more is)
          ∙ ap (mapped (with_slots t)) along)

      at : (more : List Text) → p.inner ≡ more → GoesTo p.way p.segment more path
      at more is = (p.front, p.goes, split more is)

      by_end : (inner : List Text) → p.inner ≡ inner → GoesOn p.top found inner → InTable g f t u path ⊎ InValue mode c t u path
      by_end [] is (at_slot same) =
          let b = went [] is in
          let x = was-mapped (λ xs. table w.fields (slots_from xs)) (g p.segment (slot_list w.slots)) b.0 b.1 in
          let changed = x.is ∙ ap (λ z. done z) (gives p.segment (slot_list w.slots) x.from x.is) in
          inl (record {
            slot = record {
              way = p.way;
              table = w;
              key = p.segment;
              slot = keyed p.key p.top;
              goes = at [] is;
              leads = p.leads;
              there = p.there;
            };
            changed = changed;
            leaves = left [] (f p.segment) is (ap (mapped (λ xs. table w.fields (slots_from xs))) changed);
          })
      by_end (x ∷ []) is (at_element y e) =
          let b = went (y ∷ []) is in
          let shown = p.shown ∙ ap (λ n. Some n) e.is in
          let c = child-went p.segment (key_changed g (y ∷ [])) (table w.fields w.slots) (tables e.extent e.items) b.0 shown b.1 in
          absurd (let z : key_changed g (y ∷ []) (tables e.extent e.items) ≡ done c.0 = c.1 in cc)
      by_end (x ∷ inner) is (in_value y more value) =
          let b = went (y ∷ more) is in
          let n = child-went p.segment (key_changed g (y ∷ more)) (table w.fields w.slots) p.top b.0 p.shown b.1 in
          let h : List (Slot Node) → List (Slot Node) = changed p.segment (with_item n.0) in
          let st : Steady mode t = steady-parts mode t steady in
          let undotted = (sound-slot p.segment (keyed p.key p.top) w.slots there-is (leads-sound p.way (root_visit t) w made st.sound p.leads)).1 in
          let parts = stands y more p.top n.0 value undotted n.1 in
          let here : key_changed g (p.segment ∷ y ∷ more) (table w.fields w.slots) ≡ done (table w.fields (slots_from (h (slot_list w.slots)))) =
          ap (λ o. mapped (λ xs. table w.fields (slots_from xs)) (change_slot false (new_key p.segment) (key_changed g (y ∷ more)) (slot_list w.slots) o))
          p.there
          ∙ ap (λ a. mapped (λ xs. table w.fields (slots_from xs)) (mapped (λ m. changed p.segment (with_item m) (slot_list w.slots)) a)) n.1 in
          let place : place_of t path ≡ to_key w.path p.key.name = spot-place t made path found p in
          let such = edit-of mode c t u (λ e a. Unit {0}) (replace p.way p.segment (λ l. l) n.0) made steady
          (at_value p.way p.segment y more n.0 (at (y ∷ more) is)) (
            w,
            p.key,
            p.top,
            p.leads,
            p.there,
            value,
            parts.0,
            refl,
            (spelled p.segment w.slots (keyed p.key p.top) well p.there, made-so (y ∷ more) p.top n.0 there-is.made n.1),
          )
          (left (y ∷ more) h is here)
          (ap (place_of t) is_path ∙ place) tt in
          inr (record {
            edit = such.0;
            front = p.front;
            key = p.segment;
            next = y;
            inner = more;
            is = split (y ∷ more) is;
            same = λ rest. spot-inside t made path found p value rest ∙ sym place;
          })

    key-edit : (q : List Text) → path ≡ q → InTable g f t u path ⊎ InValue mode c t u path
    key-edit [] is =
        let h : mapped (with_slots t) (key_changed g [] (root_item t)) ≡ done u =
        ap (λ z. mapped (with_slots t) (key_changed g z (root_item t))) (sym is) ∙ is_done in
        absurd cc
    key-edit (k ∷ rest) is =
        let root = was-mapped (with_slots t) (key_changed g path (root_item t)) u is_done in
        let was = was-there path (root_item t) root.from root.is in
        let p : Spot (root_visit t) path was.0 =
        subst (λ z. Spot (root_visit t) z was.0) (sym is)
        (spot was.0 k rest (root_visit t) (ap (λ z. item_below z (root_item t)) (sym is) ∙ was.1)) in
        by_end was.0 p p.inner refl p.on

-- ---- names of places

last-is : (u k : Text) (front : List Text) → with_last u (front ++ (k ∷ [])) ≡ front ++ (u ∷ [])
last-is u k [] = refl
last-is u k (j ∷ []) = refl
last-is u k (j ∷ i ∷ front) = ap (λ (q : List Text). j ∷ q) (last-is u k (i ∷ front))

last-further : (u k x : Text) (inner front : List Text) → with_last u (front ++ (k ∷ x ∷ inner)) ≡ front ++ (k ∷ with_last u (x ∷ inner))
last-further u k x inner [] = refl
last-further u k x inner (j ∷ []) = refl
last-further u k x inner (j ∷ i ∷ front) = ap (λ (q : List Text). j ∷ q) (last-further u k x inner (i ∷ front))

-- the place of a slot, under its name or another one
slot-place : (t : Tree) (path q : List Text) (s : SlotAt t path) (k : Text) → SlotsAreWellMade t.slots → q ≡ s.goes.0 ++ (k ∷ [])
    → place_of t q ≡ to_key s.table.path k
slot-place t path q s k made is =
    ap (place_of t) is ∙ key-place t s.goes.0 k s.table made (record { way = s.way; goes = s.goes.1; leads = s.leads })

own-place : (t : Tree) (path : List Text) (s : SlotAt t path) → SlotsAreWellMade t.slots → place_of t path ≡ to_key s.table.path s.slot.key.name
own-place t path s made =
    slot-place t path path s s.key made s.goes.2
    ∙ ap (to_key s.table.path) (found-in s.key s.table.slots s.slot (leads-made s.way (root_visit t) s.table made s.leads) s.there).named

-- ---- moving

pub moved-gives : (i : ℕ) (k : Text) (xs ys : List (Slot Node)) → moved_where i k xs ≡ done ys → ys ≡ moved_slot k i xs
moved-gives i k xs ys h = by_item (present (lookup_slot k xs)) h
  where
    by_item : (o : Option Node) → where_present o (done (moved_slot k i xs)) ≡ done ys → ys ≡ moved_slot k i xs
    by_item None h = absurd cc
    by_item (Some n) h = sym (done-is (moved_slot k i xs) ys h)

pub present-so : (o : Option Node) (a : Answer (List (Slot Node))) (ys : List (Slot Node)) → where_present o a ≡ done ys → (n : Node) × (o ≡ Some n)
present-so None a ys h = absurd cc
present-so (Some n) a ys h = (n, refl)

pub moved-keeps : (i : ℕ) (k : Text) (ss : Slots) (ys : List (Slot Node)) → SlotsAreWellMade ss → moved_where i k (slot_list ss) ≡ done ys
    → SlotsAreWellMade (slots_from ys)
moved-keeps i k ss ys w h =
    let n = present-so (present (lookup_slot k (slot_list ss))) (done (moved_slot k i (slot_list ss))) ys h in
    let p = present-is (lookup_slot k (slot_list ss)) n.0 n.1 in
    let s : Slot Node = keyed p.key n.0 in
    let fd : Found k s (slot_list ss) = found-in k ss s w p.is in
    let rest : List (Slot Node) = slot_list (slots_from (without k (slot_list ss))) in
    let tk : Taken k s (slot_list ss) rest = taken-out k s ss p.is fd in
    subst (λ (z : List (Slot Node)). SlotsAreWellMade (slots_from z)) (sym (moved-gives i k (slot_list ss) ys h ∙ tk.moved i))
    (made-moved i tk.at s rest tk.others (subst SlotsAreWellMade (sym (slots_from-list ss) ∙ ap slots_from tk.is) w))

-- ---- renaming

pub renamed-gives : (u k : Text) (xs ys : List (Slot Node)) → renamed_where u k xs ≡ done ys → (is_free k u xs ≡ true) × (ys ≡ renamed_slot k u xs)
renamed-gives u k xs ys h = by_item (present (lookup_slot k xs)) h
  where
    by_test : (b : Bool) → is_free k u xs ≡ b → (if b then done (renamed_slot k u xs) else refused taken) ≡ done ys
        → (is_free k u xs ≡ true) × (ys ≡ renamed_slot k u xs)
    by_test true e h = (e, sym (done-is (renamed_slot k u xs) ys h))
    by_test false e h = absurd cc

    by_item : (o : Option Node) → where_present o (if is_free k u xs then done (renamed_slot k u xs) else refused taken) ≡ done ys
        → (is_free k u xs ≡ true) × (ys ≡ renamed_slot k u xs)
    by_item None h = absurd cc
    by_item (Some n) h = by_test (is_free k u xs) refl h

pub renamed-there : (u k : Text) (xs ys : List (Slot Node)) → renamed_where u k xs ≡ done ys → (n : Node)
    × (present (lookup_slot k xs) ≡ Some n)
renamed-there u k xs ys h =
    present-so (present (lookup_slot k xs)) (if is_free k u xs then done (renamed_slot k u xs) else refused taken) ys h

pub renamed-keeps : (u k : Text) (ss : Slots) (ys : List (Slot Node)) → SlotsAreWellMade ss → renamed_where u k (slot_list ss) ≡ done ys
    → SlotsAreWellMade (slots_from ys)
renamed-keeps u k ss ys w h =
    let r = renamed-gives u k (slot_list ss) ys h in
    let n = renamed-there u k (slot_list ss) ys h in
    let p = present-is (lookup_slot k (slot_list ss)) n.0 n.1 in
    let s : Slot Node = keyed p.key n.0 in
    let fd : Found k s (slot_list ss) = found-in k ss s w p.is in
    let others = others-of_name k u s ss fd r.0 in
    subst (λ (z : List (Slot Node)). SlotsAreWellMade (slots_from z)) (sym (r.1 ∙ renamed-is k u s ss fd r.0))
    (made-renamed u fd.front fd.back s others.0 others.1 (split-made k s ss fd w))

-- ---- the laws

module _ (mode : Mode) where
  moved-so : (t u : Tree) (path : List Text) (i : ℕ) → SlotsAreWellMade t.slots → is_steady_in mode t ≡ true
      → InTable (moved_where i) (λ k. moved_slot k i) t u path ⊎ InValue mode (moves path i) t u path
      → (MovesSlot t path i u ⊎ IsEdit mode (moves path i) t u) × StaysButAt mode (places_of_call (moves path i) t) t u
  moved-so t u path i made steady (inl x) =
      let s = x.slot in
      let p : Path = to_key s.table.path s.slot.key.name in (
        inl (s, x.leaves),
        subst (λ (q : Path). StaysButAt mode (q ∷ []) t u) (sym (own-place t path s made))
            (subst (StaysButAt mode (p ∷ []) t) (sym x.leaves)
            (move_stays mode t s.way s.table s.key i s.slot made steady s.leads s.there)),
      )
  moved-so t u path i made steady (inr x) = (inr x.edit, x.edit.stays)

  pub move_edits : MoveEdits mode
  move_edits t u path i made steady is_done =
      moved-so t u path i made steady
      (key-edit (moved_where i) (λ k. moved_slot k i) (moved-gives i)
      (λ k xs ys h. present-so (present (lookup_slot k xs)) (done (moved_slot k i xs)) ys h) (moved-keeps i) mode (moves path i) t u path refl
      (λ way k x inner n h. (x, inner, h, λ l. refl)) made steady is_done path refl)

  renamed-so : (t u : Tree) (path : List Text) (name : Text) → SlotsAreWellMade t.slots → is_steady_in mode t ≡ true
      → InTable (renamed_where name) (λ k. renamed_slot k name) t u path ⊎ InValue mode (renames path name) t u path
      → (RenamesSlot t path name u ⊎ IsEdit mode (renames path name) t u) × StaysButAt mode (places_of_call (renames path name) t) t u
  renamed-so t u path name made steady (inl x) =
      let s = x.slot in
      let p : Path = to_key s.table.path s.slot.key.name in
      let q : Path = to_key s.table.path name in
      let other : place_of t (with_last name path) ≡ q =
      slot-place t path (with_last name path) s name made (ap (with_last name) s.goes.2 ∙ last-is name s.key s.goes.0) in
      let free = (renamed-gives name s.key (slot_list s.table.slots) (renamed_slot s.key name (slot_list s.table.slots)) x.changed).0 in (
        inl (s, free, x.leaves),
        subst (λ (ps : List Path). StaysButAt mode ps t u) (ap (λ z. z ∷ q ∷ []) (sym (own-place t path s made))
            ∙ ap (λ z. place_of t path ∷ z ∷ []) (sym other))
            (subst (StaysButAt mode (p ∷ q ∷ []) t) (sym x.leaves)
            (renaming_stays mode t s.way s.table s.key name s.slot made steady s.leads s.there free)),
      )
  renamed-so t u path name made steady (inr x) =
      let s = x.edit.stays in
      let p : Path = place_of t path in
      let other : place_of t (with_last name path) ≡ p =
      ap (place_of t) (ap (with_last name) x.is ∙ last-further name x.key x.next x.inner x.front) ∙ x.same (with_last name (x.next ∷ x.inner)) in (
        inr x.edit,
        subst (λ (q : Path). StaysButAt mode (p ∷ q ∷ []) t u) (sym other)
            (record { others = ap (away_from (p ∷ [])) s.others; text = s.text; steady = s.steady; made = s.made }),
      )

  pub rename_edits : RenameEdits mode
  rename_edits t u path name made steady is_done =
      renamed-so t u path name made steady
      (key-edit (renamed_where name) (λ k. renamed_slot k name) (λ k xs ys h. (renamed-gives name k xs ys h).1) (renamed-there name)
      (renamed-keeps name) mode (renames path name) t u path refl
      (λ way k x inner n h. (x, inner, h, λ l. refl)) made steady is_done path refl)
