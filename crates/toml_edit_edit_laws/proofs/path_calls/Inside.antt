-- What `set` and `remove` make of a value: it is well made, and has the decor that it had.
use Rattle.std.proofs.Common.{◌≡◌, refl, sym, ◌∙◌, ap, subst, Bool, true, false, List, [], ◌∷◌, ◌++◌, map, Some}
use Rattle.std.specs.Prelude.{not, if◌then◌else◌}
use Rattle.toml_edit_model.specs.Text.{Text, same_text}
use Rattle.toml_edit_model.specs.Spelling.{SpellsKey}
use Rattle.toml_edit_model.specs.Tree.{Decor, Key, Node, nothing, leaf, list, inline, table, tables, Slots, no_slots, slot, Tree, node_decor}
use Rattle.toml_edit_model.specs.Tree.{is_value_node, HasTrueSpelling, IsWellMade, SlotsAreWellMade}
use Rattle.toml_edit_model.specs.Conversions.{with_decor}
use Rattle.toml_edit_model.specs.Keys.{names, new_key}
use Rattle.toml_edit_model.specs.Slots.{Slot, keyed, with_item, lookup_slot, changed}
use Rattle.toml_edit_model.specs.Lists.{slot_list, slots_from, item_list, items_from, is_dotted_inline}
use Rattle.toml_edit_model.specs.ArrayCalls.{written_at}
use Rattle.toml_edit_model.specs.Shown.{is_table_node}
use Rattle.toml_edit_laws.specs.Locality.{is_plain_value}
use Rattle.toml_edit_edit_laws.specs.Commands.{Answer, done, mapped, element_of, present, child, item_below, change_slot, change_element}
use Rattle.toml_edit_edit_laws.specs.Commands.{child_changed, drop_slot, drop_element, remove_child, set_below, remove_below, set_at, remove_at, with_slots}
use Rattle.toml_edit_edit_laws.specs.CommandLaws.{AreSpelled}
use Rattle.toml_edit_edit_laws.proofs.commands.Keeping.{present-is, set_keeps_the_rest, remove_keeps_the_rest}
use Rattle.toml_edit_edit_laws.proofs.commands.Finding.{some-and, some-second}
use Rattle.toml_edit_edit_laws.proofs.commands.Setting.{was-mapped, done-is, Stands, below-stands}
use Rattle.toml_edit_laws.proofs.common.OptionSteps.{some-is}

-- ---- the decor

decor-stands : (d : Decor) (v old : Node) → is_plain_value v ≡ true → d ≡ node_decor old → Stands old (with_decor d v)
decor-stands d (leaf s r e) old h is = (h, is)
decor-stands d (list f xs) old h is = (h, is)
decor-stands d (inline f ss) old h is = (h, is)
decor-stands d (table f ss) old h is = absurd cc
decor-stands d (tables e xs) old h is = absurd cc
decor-stands d nothing old h is = absurd cc

pub set-stands : (v : Node) (inner : List Key) (old n : Node) → is_value_node old ≡ true → is_dotted_inline old ≡ false
    → is_plain_value v ≡ true → set_below v inner old ≡ done n → Stands old n
set-stands v [] (leaf s r d) n is undotted plain h =
    subst (Stands (leaf s r d)) (done-is (with_decor d v) n h) (decor-stands d v (leaf s r d) plain refl)
set-stands v [] (list f xs) n is undotted plain h =
    subst (Stands (list f xs)) (done-is (with_decor f.decor v) n h) (decor-stands f.decor v (list f xs) plain refl)
set-stands v [] (inline f ss) n is undotted plain h =
    subst (Stands (inline f ss)) (done-is (with_decor f.decor v) n h) (decor-stands f.decor v (inline f ss) plain refl)
set-stands v [] (table f ss) n is undotted plain h = absurd cc
set-stands v [] (tables e xs) n is undotted plain h = absurd cc
set-stands v [] nothing n is undotted plain h = absurd cc
set-stands v (k ∷ inner) old n is undotted plain h = below-stands true k (set_below v inner) old n is undotted h

drop-stands : (k : Text) (old n : Node) → is_value_node old ≡ true → is_dotted_inline old ≡ false → remove_child k old ≡ done n
    → Stands old n
drop-stands k (list f xs) n is undotted h =
    let w = was-mapped (λ ns. list f (items_from ns)) (drop_element (item_list xs) (element_of is_value_node k (item_list xs))) n h in
    subst (Stands (list f xs)) (sym w.gives) (refl, refl)
drop-stands k (inline f ss) n is undotted h =
    let w = was-mapped (λ xs. inline f (slots_from xs)) (drop_slot k (slot_list ss) (present (lookup_slot k (slot_list ss)))) n h in
    subst (Stands (inline f ss)) (sym w.gives) (ap not undotted, refl)
drop-stands k (leaf s r d) n is undotted h = absurd cc
drop-stands k (table f ss) n is undotted h = absurd cc
drop-stands k (tables e xs) n is undotted h = absurd cc
drop-stands k nothing n is undotted h = absurd cc

pub remove-stands : (x : Text) (inner : List Text) (old n : Node) → is_value_node old ≡ true → is_dotted_inline old ≡ false
    → remove_below (x ∷ inner) old ≡ done n → Stands old n
remove-stands x [] old n is undotted h = drop-stands x old n is undotted h
remove-stands x (y ∷ inner) old n is undotted h = below-stands false (new_key x) (remove_below (y ∷ inner)) old n is undotted h

-- ---- a set at something that is there

below-sets : (k : Key) (go : Node → Answer Node) (n a b : Node) → child k.name n ≡ Some a → go a ≡ done b → (m : Node)
    × (child_changed true k go n ≡ done m)
below-sets k go (table f ss) a b h g =
    let p = present-is (lookup_slot k.name (slot_list ss)) a h in (
      _,
      ap (λ o. mapped (λ xs. table f (slots_from xs)) (change_slot true k go (slot_list ss) o)) p.is
          ∙ ap (λ x. mapped (λ xs. table f (slots_from xs)) (mapped (λ m. changed k.name (with_item m) (slot_list ss)) x)) g,
    )
below-sets k go (inline f ss) a b h g =
    let p = present-is (lookup_slot k.name (slot_list ss)) a h in (
      _,
      ap (λ o. mapped (λ xs. inline f (slots_from xs)) (change_slot true k go (slot_list ss) o)) p.is
          ∙ ap (λ x. mapped (λ xs. inline f (slots_from xs)) (mapped (λ m. changed k.name (with_item m) (slot_list ss)) x)) g,
    )
below-sets k go (list f xs) a b h g =
    let y = some-second (element_of is_value_node k.name (item_list xs)) a h in (
      _,
      ap (λ o. mapped (λ ns. list f (items_from ns)) (change_element go (item_list xs) o)) y.1
          ∙ ap (λ x. mapped (λ ns. list f (items_from ns)) (mapped (λ m. written_at y.0 m (item_list xs)) x)) g,
    )
below-sets k go (tables e xs) a b h g =
    let y = some-second (element_of is_table_node k.name (item_list xs)) a h in (
      _,
      ap (λ o. mapped (λ ns. tables e (items_from ns)) (change_element go (item_list xs) o)) y.1
          ∙ ap (λ x. mapped (λ ns. tables e (items_from ns)) (mapped (λ m. written_at y.0 m (item_list xs)) x)) g,
    )
below-sets k go (leaf s r d) a b h g = absurd cc
below-sets k go nothing a b h g = absurd cc

-- where all is there, the spellings of the keys make no difference
below-same : (k : Key) (go bare : Node → Answer Node) (n a : Node) → child k.name n ≡ Some a → go a ≡ bare a
    → child_changed true k go n ≡ child_changed true (new_key k.name) bare n
below-same k go bare (table f ss) a h e =
    let p = present-is (lookup_slot k.name (slot_list ss)) a h in
    ap (λ o. mapped (λ xs. table f (slots_from xs)) (change_slot true k go (slot_list ss) o)) p.is
    ∙ ap (λ x. mapped (λ xs. table f (slots_from xs)) (mapped (λ m. changed k.name (with_item m) (slot_list ss)) x)) e
    ∙ sym (ap (λ o. mapped (λ xs. table f (slots_from xs)) (change_slot true (new_key k.name) bare (slot_list ss) o)) p.is)
below-same k go bare (inline f ss) a h e =
    let p = present-is (lookup_slot k.name (slot_list ss)) a h in
    ap (λ o. mapped (λ xs. inline f (slots_from xs)) (change_slot true k go (slot_list ss) o)) p.is
    ∙ ap (λ x. mapped (λ xs. inline f (slots_from xs)) (mapped (λ m. changed k.name (with_item m) (slot_list ss)) x)) e
    ∙ sym (ap (λ o. mapped (λ xs. inline f (slots_from xs)) (change_slot true (new_key k.name) bare (slot_list ss) o)) p.is)
below-same k go bare (list f xs) a h e =
    let y = some-second (element_of is_value_node k.name (item_list xs)) a h in
    ap (λ o. mapped (λ ns. list f (items_from ns)) (change_element go (item_list xs) o)) y.1
    ∙ ap (λ x. mapped (λ ns. list f (items_from ns)) (mapped (λ m. written_at y.0 m (item_list xs)) x)) e
    ∙ sym (ap (λ o. mapped (λ ns. list f (items_from ns)) (change_element bare (item_list xs) o)) y.1)
below-same k go bare (tables x xs) a h e =
    let y = some-second (element_of is_table_node k.name (item_list xs)) a h in
    ap (λ o. mapped (λ ns. tables x (items_from ns)) (change_element go (item_list xs) o)) y.1
    ∙ ap (λ z. mapped (λ ns. tables x (items_from ns)) (mapped (λ m. written_at y.0 m (item_list xs)) z)) e
    ∙ sym (ap (λ o. mapped (λ ns. tables x (items_from ns)) (change_element bare (item_list xs) o)) y.1)
below-same k go bare (leaf s r d) a h e = absurd cc
below-same k go bare nothing a h e = absurd cc

abbrev pub bare_keys : List Key → List Key
bare_keys path = map new_key (names path)

pub there-same : (v : Node) (inner : List Key) (n old : Node) → item_below (names inner) n ≡ Some old
    → set_below v inner n ≡ set_below v (bare_keys inner) n
there-same v [] n old h = refl
there-same v (k ∷ inner) n old h =
    let a = some-and (item_below (names inner)) (child k.name n) old h in
    below-same k (set_below v inner) (set_below v (bare_keys inner)) n a.0 a.1 (there-same v inner a.0 old a.2)

bare-spelled : (path : List Text) → AreSpelled (map new_key path)
bare-spelled [] = tt
bare-spelled (k ∷ path) = (tt, bare-spelled path)

value-sets : (v old : Node) → is_value_node old ≡ true → (m : Node) × (set_below v [] old ≡ done m)
value-sets v (leaf s r d) is = (with_decor d v, refl)
value-sets v (list f xs) is = (with_decor f.decor v, refl)
value-sets v (inline f ss) is = (with_decor f.decor v, refl)
value-sets v (table f ss) is = absurd cc
value-sets v (tables e xs) is = absurd cc
value-sets v nothing is = absurd cc

pub there-sets : (v : Node) (inner : List Key) (n old : Node) → item_below (names inner) n ≡ Some old → is_value_node old ≡ true → (m : Node)
    × (set_below v inner n ≡ done m)
there-sets v [] n old h is = value-sets v n (subst (λ x. is_value_node x ≡ true) (sym (some-is n old h)) is)
there-sets v (k ∷ inner) n old h is =
    let a = some-and (item_below (names inner)) (child k.name n) old h in
    let r = there-sets v inner a.0 old a.2 is in
    below-sets k (set_below v inner) n a.0 r.0 a.1 r.1

-- ---- what is made

-- a tree that holds the value alone, under the empty key
alone : Tree → Node → Tree
alone t n = record t { slots = slot (new_key []) n no_slots }

alone-made : (t : Tree) (n : Node) → IsWellMade n → SlotsAreWellMade (alone t n).slots
unfolding alone
alone-made t n w = (refl, tt, w, tt)

pub set-made : (t : Tree) (v : Node) (inner : List Key) (old n there : Node) → IsWellMade v → IsWellMade old
    → item_below (names inner) old ≡ Some there → set_below v inner old ≡ done n → IsWellMade n
unfolding alone
set-made t v inner old n there wv w at h =
    let u : Tree = alone t n in
    let is : set_at (new_key [] ∷ bare_keys inner) v (alone t old) ≡ done u =
    ap (λ a. mapped (with_slots (alone t old)) (mapped (λ xs. table t.root (slots_from xs))
    (mapped (λ m. changed [] (with_item m) (slot_list (alone t old).slots)) a))) (sym (there-same v inner old there at) ∙ h) in
    (set_keeps_the_rest (alone t old) u (new_key [] ∷ bare_keys inner) v (alone-made t old w) wv (tt, bare-spelled (names inner)) is).made.2

split-last : (x : Text) (path : List Text) → (front : List Text) × (last : Text) × (x ∷ path ≡ front ++ (last ∷ []))
split-last x [] = ([], x, refl)
split-last x (y ∷ path) =
    let r = split-last y path in
    (x ∷ r.0, r.1, ap (λ (q : List Text). x ∷ q) r.2)

pub remove-made : (t : Tree) (x : Text) (inner : List Text) (old n : Node) → IsWellMade old → remove_below (x ∷ inner) old ≡ done n
    → IsWellMade n
unfolding alone
remove-made t x inner old n w h =
    let u : Tree = alone t n in
    let is : remove_at ([] ∷ x ∷ inner) (alone t old) ≡ done u =
    ap (λ a. mapped (with_slots (alone t old)) (mapped (λ xs. table t.root (slots_from xs))
    (mapped (λ m. changed [] (with_item m) (slot_list (alone t old).slots)) a))) h in
    let parts = split-last [] (x ∷ inner) in
    (remove_keeps_the_rest (alone t old) u parts.0 parts.1 (alone-made t old w)
    (sym (ap (λ q. remove_at q (alone t old)) parts.2) ∙ is)).made.2

-- ---- the key of a slot

pub spelled : (k : Text) (ss : Slots) (s : Slot Node) → SlotsAreWellMade ss → lookup_slot k (slot_list ss) ≡ Some s
    → HasTrueSpelling (SpellsKey s.key.name) s.key.spelling
spelled k no_slots s w h = absurd cc
spelled k (slot l n ss) s w h = by_test (same_text k l.name) h (spelled k ss s w.3)
  where
    by_test : (b : Bool) → (if b then Some (keyed l n) else lookup_slot k (slot_list ss)) ≡ Some s
        → (lookup_slot k (slot_list ss) ≡ Some s → HasTrueSpelling (SpellsKey s.key.name) s.key.spelling)
        → HasTrueSpelling (SpellsKey s.key.name) s.key.spelling
    by_test true h ih =
        subst (λ (x : Slot Node). HasTrueSpelling (SpellsKey x.key.name) x.key.spelling) (some-is (keyed l n) s h) w.1
    by_test false h ih = ih h
