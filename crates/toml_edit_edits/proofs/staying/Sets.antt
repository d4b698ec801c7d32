-- A value that is put in a value, or under a new key.
use Rattle.std.proofs.Common.{◌≡◌, refl, sym, ◌∙◌, ap, subst, ℕ, Bool, true, List, [], ◌∷◌, ◌++◌, Option, None, Some, inl, inr}
use Rattle.toml_edit_model.specs.Mode.{Mode}
use Rattle.toml_edit_model.specs.Text.{Text}
use Rattle.toml_edit_model.specs.Keys.{names, new_key}
use Rattle.toml_edit_model.specs.Tree.{Key, Node, nothing, leaf, list, inline, table, tables, no_slots, slot, SlotsAreWellMade, IsWellMade, Tree, is_value_node}
use Rattle.toml_edit_model.specs.Fits.{is_steady_in}
use Rattle.toml_edit_model.specs.Shown.{is_table_node}
use Rattle.toml_edit_model.specs.Slots.{Slot, with_item, changed, lookup_slot}
use Rattle.toml_edit_model.specs.Lists.{is_item, item_list, slot_list, slots_from}
use Rattle.toml_edit_laws.specs.Locality.{root_visit, is_plain_value}
use Rattle.toml_edit_laws.proofs.common.OptionSteps.{guard_read, some-is}
use Rattle.toml_edit_edit_laws.specs.Commands.{done, mapped, child, element_of, item_at, item_below, present, root_item, second, set_at, set_below, with_slots}
use Rattle.toml_edit_edit_laws.specs.CommandLaws.{AreSpelled}
use Rattle.toml_edit_edit_laws.specs.Headed.{set_at_with_headers, set_headed_below}
use Rattle.toml_edit_edit_laws.specs.Staying.{StaysButAt}
use Rattle.toml_edit_edit_laws.proofs.commands.Apart.{named}
use Rattle.toml_edit_edit_laws.proofs.commands.Finding.{some-and}
use Rattle.toml_edit_edit_laws.proofs.commands.Going.{item-along}
use Rattle.toml_edit_edit_laws.proofs.commands.Keeping.{set_keeps_the_rest}
use Rattle.toml_edit_edit_laws.proofs.commands.Setting.{was-mapped}
use Rattle.toml_edit_edit_laws.proofs.path_calls.Inside.{set-stands}
use Rattle.toml_edit_edit_laws.proofs.path_calls.Keys.{child-at}
use Rattle.toml_edit_edit_laws.proofs.path_calls.Setting.{set_adds_after_lines, set_adds_under}
use Rattle.toml_edit_paths.specs.Calls.{replaced_at, replaced_below}
use Rattle.toml_edit_edits.specs.OthersStay.{HasPlace, in_value, at_new_key}
use Rattle.toml_edit_edits.proofs.staying.Words.{StaysAt, StaysWithin, SetStays, HeaderStays}
use Rattle.toml_edit_edit_laws.specs.Places.{place_of}
use Rattle.toml_edit_edit_laws.proofs.path_calls.Places.{names-join}
use Rattle.toml_edit_edits.proofs.staying.Below.{below-made, child-goes, same-child}
use Rattle.toml_edit_edits.proofs.staying.Values.{value-stays}

-- ---- in a value

-- what is set below an item is put in its place
set-front : (v : Node) (front inner : List Key) (n old r : Node) → item_below (names front) n ≡ Some old
    → set_below v (front ++ inner) n ≡ done r
    → (m : Node) × (set_below v inner old ≡ done m) × (replaced_below (names front) m n ≡ done r)
set-front v [] inner n old r h g = (r, ap (set_below v inner) (sym (some-is n old h)) ∙ g, refl)
set-front v (k ∷ front) inner n old r h g =
    let c = some-and (item_below (names front)) (child k.name n) old h in
    let w = child-at k.name n c.0 c.1 in
    let b = was-mapped w.0 (set_below v (front ++ inner) c.0) r
    (sym (w.1 (set_below v (front ++ inner))) ∙ sym (child-goes k (set_below v (front ++ inner)) n c.0 c.1) ∙ g) in
    let i = set-front v front inner c.0 old b.from c.2 b.is in
    (i.0, i.1, w.1 (replaced_below (names front) i.0) ∙ ap (mapped w.0) i.2 ∙ ap (λ x. done x) (sym b.gives))

-- a tree that holds the value alone, under the empty key
abbrev alone : Tree → Node → Tree
alone t n = record t { slots = slot (new_key []) n no_slots }

set-well : (t : Tree) (v : Node) (inner : List Key) (old n : Node) → IsWellMade v → IsWellMade old → AreSpelled inner
    → set_below v inner old ≡ done n → IsWellMade n
set-well t v inner old n wv w spelled h =
    let is : set_at (new_key [] ∷ inner) v (alone t old) ≡ done (alone t n) =
    ap (λ a. mapped (with_slots (alone t old)) (mapped (λ xs. table t.root (slots_from xs))
    (mapped (λ m. changed [] (with_item m) (slot_list (alone t old).slots)) a))) h in
    (set_keeps_the_rest (alone t old) (alone t n) (new_key [] ∷ inner) v (refl, tt, w, tt) wv (tt, spelled) is).made.2

module _ (mode : Mode) (t u : Tree) (path : List Key) (v : Node) (made : SlotsAreWellMade t.slots) (steady : is_steady_in mode t ≡ true)
    (plain : is_plain_value v ≡ true) (wv : IsWellMade v) (set : set_at path v t ≡ done u) where
  pub set-in : (front inner : List Key) (old : Node) → path ≡ front ++ inner → AreSpelled inner
      → item_at (names front) t ≡ Some old → is_value_node old ≡ true → StaysWithin mode t u (names front)
  set-in front inner old same spelled there value =
      let root = was-mapped (with_slots t) (set_below v path (root_item t)) u set in
      let f = set-front v front inner (root_item t) old root.from there (ap (λ q. set_below v q (root_item t)) (sym same) ∙ root.is) in
      let put : replaced_at (names front) f.0 t ≡ done u = ap (mapped (with_slots t)) f.2 ∙ ap (λ x. done x) (sym root.gives) in
      let wold : IsWellMade old = below-made (names front) (root_item t) old made there in
      value-stays mode t u (names front) old f.0 made steady there value
      (λ undotted. (set-stands v inner old f.0 value undotted plain f.1).0) (set-well t v inner old f.0 wv wold spelled f.1) put

  set-under : (below : List Key) → HasPlace mode t path below → StaysAt mode t u (names path)
  set-under below (in_value front inner old same spelled there value) =
      subst (λ (q : List Text). StaysButAt mode (place_of t q ∷ []) t u) (sym (names-join front inner) ∙ ap names (sym same))
      (set-in front inner old same spelled there value (names inner))
  set-under below (at_new_key front k w same spelled names-it new (inl has)) =
      subst (λ q. StaysAt mode t u (names q)) (sym same)
      (set_adds_under mode t u front w k below v made steady wv plain spelled names-it new has (ap (λ q. set_at q v t) (sym same) ∙ set)).stays
  set-under below (at_new_key front k w same spelled names-it new (inr some)) =
      subst (λ q. StaysAt mode t u (names q)) (sym same)
      (set_adds_after_lines mode t u front w k below v made steady wv plain spelled names-it new some (ap (λ q. set_at q v t) (sym same) ∙ set)).1

pub set-stays : (mode : Mode) → SetStays mode
set-stays mode t u path below v made steady plain wv may set = set-under mode t u path v made steady plain wv set below may

-- ---- no table is missing

value-same : (v : Node) (inner : List Key) (old : Node) → is_value_node old ≡ true → set_headed_below v inner old ≡ set_below v inner old
value-same v [] old h = refl
value-same v (k ∷ inner) (leaf s r d) h = refl
value-same v (k ∷ inner) (list f xs) h = refl
value-same v (k ∷ inner) (inline f ss) h = refl
value-same v (k ∷ inner) (table f ss) h = absurd cc
value-same v (k ∷ inner) (tables e xs) h = absurd cc
value-same v (k ∷ inner) nothing h = absurd cc

-- where the front of the path leads to an item in which the rest does the same
module _ (v : Node) (inner : List Key) (old : Node) (same : set_headed_below v inner old ≡ set_below v inner old) where
  same-in : (front : List Key) (n : Node) → item_below (names front) n ≡ Some old
      → set_headed_below v (front ++ inner) n ≡ set_below v (front ++ inner) n
  same-in [] n h = subst (λ x. set_headed_below v inner x ≡ set_below v inner x) (sym (some-is n old h)) same
  same-in (k ∷ front) (table f ss) h =
      let c = some-and (item_below (names front)) (child k.name (table f ss)) old h in
      same-child k (set_headed_below v (front ++ inner)) (set_below v (front ++ inner)) (table f ss) c.0 c.1 (same-in front c.0 c.2)
  same-in (k ∷ front) (tables e xs) h =
      let c = some-and (item_below (names front)) (child k.name (tables e xs)) old h in
      same-child k (set_headed_below v (front ++ inner)) (set_below v (front ++ inner)) (tables e xs) c.0 c.1 (same-in front c.0 c.2)
  same-in (k ∷ front) (leaf s r d) h = refl
  same-in (k ∷ front) (list f xs) h = refl
  same-in (k ∷ front) (inline f ss) h = refl
  same-in (k ∷ front) nothing h = absurd cc

-- what a path leads to is an item
value-item : (n : Node) → is_value_node n ≡ true → is_item n ≡ true
value-item (leaf s r d) h = refl
value-item (list f xs) h = refl
value-item (inline f ss) h = refl
value-item (table f ss) h = refl
value-item (tables e xs) h = refl
value-item nothing h = absurd cc

table-item : (n : Node) → is_table_node n ≡ true → is_item n ≡ true
table-item (leaf s r d) h = refl
table-item (list f xs) h = refl
table-item (inline f ss) h = refl
table-item (table f ss) h = refl
table-item (tables e xs) h = refl
table-item nothing h = absurd cc

slot-item : (o : Option (Slot Node)) (m : Node) → present o ≡ Some m → is_item m ≡ true
slot-item None m h = absurd cc
slot-item (Some s) m h =
    let g = guard_read (is_item s.item) (Some s.item) m h in
    subst (λ n. is_item n ≡ true) (some-is s.item m g.1) g.0

element-item : (is : Node → Bool) → ((n : Node) → is n ≡ true → is_item n ≡ true) → (k : Text) (ns : List Node) (o : Option (ℕ × Node))
    → element_of is k ns ≡ o → (m : Node) → second o ≡ Some m → is_item m ≡ true
element-item is items k ns None e m h = absurd cc
element-item is items k ns (Some x) e m h = subst (λ n. is_item n ≡ true) (some-is x.1 m h) (items x.1 (named is k ns x e).kind)

child-item : (k : Text) (n m : Node) → child k n ≡ Some m → is_item m ≡ true
child-item k (table f ss) m h = slot-item (lookup_slot k (slot_list ss)) m h
child-item k (inline f ss) m h = slot-item (lookup_slot k (slot_list ss)) m h
child-item k (list f xs) m h = element-item is_value_node value-item k (item_list xs) (element_of is_value_node k (item_list xs)) refl m h
child-item k (tables e xs) m h = element-item is_table_node table-item k (item_list xs) (element_of is_table_node k (item_list xs)) refl m h
child-item k (leaf s r d) m h = absurd cc
child-item k nothing m h = absurd cc

below-item : (path : List Text) (n m : Node) → is_item n ≡ true → item_below path n ≡ Some m → is_item m ≡ true
below-item [] n m is h = subst (λ x. is_item x ≡ true) (some-is n m h) is
below-item (k ∷ path) n m is h =
    let c = some-and (item_below path) (child k n) m h in
    below-item path c.0 m (child-item k n c.0 c.1) c.2

key-same : (v : Node) (k : Key) (old : Node) → is_item old ≡ true → set_headed_below v (k ∷ []) old ≡ set_below v (k ∷ []) old
key-same v k (table f ss) h = refl
key-same v k (tables e xs) h = refl
key-same v k (leaf s r d) h = refl
key-same v k (list f xs) h = refl
key-same v k (inline f ss) h = refl
key-same v k nothing h = absurd cc

module _ (t : Tree) (v : Node) where
  at-path : (path front inner : List Key) (old : Node) → path ≡ front ++ inner → item_at (names front) t ≡ Some old
      → set_headed_below v inner old ≡ set_below v inner old → set_at_with_headers path v t ≡ set_at path v t
  at-path path front inner old is there same =
      ap (λ q. mapped (with_slots t) (set_headed_below v q (root_item t))) is
      ∙ ap (mapped (with_slots t)) (same-in v inner old same front (root_item t) there)
      ∙ sym (ap (λ q. mapped (with_slots t) (set_below v q (root_item t))) is)

  -- where what the last key is in is there
  pub no-headers-above : (path above : List Key) (k : Key) (old : Node) → path ≡ above ++ (k ∷ []) → item_at (names above) t ≡ Some old
      → set_at_with_headers path v t ≡ set_at path v t
  no-headers-above path above k old is there =
      at-path path above (k ∷ []) old is there (key-same v k old (below-item (names above) (root_item t) old refl there))

module _ (mode : Mode) (t : Tree) (v : Node) where
  pub no-headers : (path : List Key) → HasPlace mode t path [] → set_at_with_headers path v t ≡ set_at path v t
  no-headers path (in_value front inner old same spelled there value) = at-path t v path front inner old same there (value-same v inner old value)
  no-headers path (at_new_key front k w same spelled names-it new takes) =
      at-path t v path front (k ∷ []) (table w.fields w.slots) same
      (item-along names-it.way (names front) (root_visit t) w names-it.goes names-it.leads) refl

pub header-stays : (mode : Mode) → HeaderStays mode
header-stays mode t u path v made steady plain wv may set =
    set-stays mode t u path [] v made steady plain wv may (sym (no-headers mode t v path may) ∙ set)
