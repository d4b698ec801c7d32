-- Another item in place of a value, or inside one.
use Rattle.std.proofs.Common.{◌≡◌, refl, sym, ◌∙◌, ap, subst, true, false, List, [], ◌∷◌, Some}
use Rattle.toml_edit_model.specs.Mode.{Mode}
use Rattle.toml_edit_model.specs.Text.{Text}
use Rattle.toml_edit_model.specs.Paths.{Path, to_key}
use Rattle.toml_edit_model.specs.Keys.{new_key}
use Rattle.toml_edit_model.specs.Tree.{Key, Node, nothing, leaf, list, inline, table, tables, SlotsAreWellMade, IsWellMade, Tree, is_value_node}
use Rattle.toml_edit_model.specs.HeaderOrder.{Visit}
use Rattle.toml_edit_model.specs.Fits.{is_steady_in}
use Rattle.toml_edit_model.specs.Slots.{Slot, keyed, with_item, lookup_slot, changed}
use Rattle.toml_edit_model.specs.Lists.{slot_list, slots_from, item_list, items_from, is_dotted_inline}
use Rattle.toml_edit_laws.specs.Locality.{Leads, Turn, root_visit, edited, is_plain_value}
use Rattle.toml_edit_laws.specs.EditLists.{Edit, replace, Applies}
use Rattle.toml_edit_laws.proofs.common.OptionSteps.{some-is}
use Rattle.toml_edit_laws.proofs.locality.Slots.{Found, found as found-in}
use Rattle.toml_edit_laws.proofs.locality.Sound.{leads-made, leads-sound, sound-slot, Steady, steady-parts}
use Rattle.toml_edit_edit_laws.specs.Commands.{Answer, done, mapped, change_element, change_slot, child, child_changed, element_of, item_at, item_below, root_item, with_slots}
use Rattle.toml_edit_edit_laws.specs.Staying.{StaysButAt}
use Rattle.toml_edit_edit_laws.proofs.commands.Finding.{some-and}
use Rattle.toml_edit_edit_laws.proofs.commands.Going.{goes-along, made-goes}
use Rattle.toml_edit_edit_laws.proofs.commands.Keeping.{child-only}
use Rattle.toml_edit_edit_laws.proofs.commands.Setting.{below-stands, done-is, was-mapped}
use Rattle.toml_edit_edit_laws.proofs.path_calls.Inside.{spelled}
use Rattle.toml_edit_edit_laws.proofs.path_calls.Keys.{child-at}
use Rattle.toml_edit_edit_laws.proofs.path_calls.Spots.{GoesOn, at_slot, at_element, in_value, Spot, spot}
use Rattle.toml_edit_edit_laws.proofs.path_calls.Staying.{edit_stays}
use Rattle.toml_edit_paths.specs.Calls.{replaced_at, replaced_below}
use Rattle.toml_edit_edits.proofs.staying.Words.{StaysWithin, ValueStays}
use Rattle.toml_edit_edit_laws.proofs.path_calls.Places.{spot-further}

-- what a path leads to can be replaced
pub there-replaced : (path : List Text) (m n a : Node) → item_below path n ≡ Some a → (r : Node) × (replaced_below path m n ≡ done r)
there-replaced [] m n a h = (m, refl)
there-replaced (k ∷ path) m n a h =
    let c = some-and (item_below path) (child k n) a h in
    let w = child-at k n c.0 c.1 in
    let r = there-replaced path m c.0 a c.2 in
    (w.0 r.0, w.1 (replaced_below path m) ∙ ap (mapped w.0) r.1)

pub replaced-made : (path : List Text) (m n r : Node) → IsWellMade m → IsWellMade n → replaced_below path m n ≡ done r → IsWellMade r
replaced-made [] m n r wm w h = subst IsWellMade (done-is m r h) wm
replaced-made (k ∷ path) m n r wm w h =
    (child-only false (new_key k) tt (replaced_below path m) (λ a b. Unit {0}) (λ a b wa e. (tt, replaced-made path m a b wm wa e)) n r w h).1

-- a value that is changed inside is still one
still-value : (k : Key) (go : Node → Answer Node) (n m : Node) → is_value_node n ≡ true → child_changed false k go n ≡ done m → is_value_node m ≡ true
still-value k go (list f xs) m is h =
    let w = was-mapped (λ ns. list f (items_from ns)) (change_element go (item_list xs) (element_of is_value_node k.name (item_list xs))) m h in
    ap is_value_node w.gives
still-value k go (inline f ss) m is h =
    let w = was-mapped (λ xs. inline f (slots_from xs)) (change_slot false k go (slot_list ss) (lookup_slot k.name (slot_list ss))) m h in
    ap is_value_node w.gives
still-value k go (leaf s r d) m is h = absurd cc
still-value k go (table f ss) m is h = absurd cc
still-value k go (tables e xs) m is h = absurd cc
still-value k go nothing m is h = absurd cc

module _ (mode : Mode) (t u : Tree) (made : SlotsAreWellMade t.slots) (steady : is_steady_in mode t ≡ true) (path : List Text)
    (found m : Node) (p : Spot (root_visit t) path found) (put : replaced_at path m t ≡ done u) where
  abbrev w : Visit
  w = p.visit

  well : SlotsAreWellMade w.slots
  well = leads-made p.way (root_visit t) w made p.leads

  there-is : Found p.segment (keyed p.key p.top) (slot_list w.slots)
  there-is = found-in p.segment w.slots (keyed p.key p.top) well p.there

  undotted : is_dotted_inline p.top ≡ false
  undotted =
      let st : Steady mode t = steady-parts mode t steady in
      (sound-slot p.segment (keyed p.key p.top) w.slots there-is (leads-sound p.way (root_visit t) w made st.sound p.leads)).1

  -- the slots of the table with the slot are others
  pub slot-left : (g : List (Slot Node) → List (Slot Node))
      → replaced_below (p.segment ∷ p.inner) m (table w.fields w.slots) ≡ done (table w.fields (slots_from (g (slot_list w.slots))))
      → u ≡ edited p.way g t
  slot-left g here =
      let along = goes-along new_key false (λ q. replaced_below q m) (p.segment ∷ p.inner) (λ k q x. refl) g p.way p.front (root_visit t) w made
      (made-goes p.way p.front p.goes) p.leads here in
      done-is u (edited p.way g t)
      (sym put ∙ ap (λ q. mapped (with_slots t) (replaced_below q m (root_item t))) p.path_is ∙ ap (mapped (with_slots t)) along)

  -- the item of the slot is another one, where the rest of the path puts it
  pub slot-changes : (n : Node) → replaced_below p.inner m p.top ≡ done n → u ≡ edited p.way (changed p.segment (with_item n)) t
  slot-changes n h =
      slot-left (changed p.segment (with_item n))
      (ap (λ o. mapped (λ xs. table w.fields (slots_from xs)) (change_slot false (new_key p.segment) (replaced_below p.inner m) (slot_list w.slots) o)) p.there
      ∙ ap (λ a. mapped (λ xs. table w.fields (slots_from xs)) (mapped (λ x. changed p.segment (with_item x) (slot_list w.slots)) a)) h)

  value-slot : (n : Node) → is_value_node p.top ≡ true → is_plain_value n ≡ true → IsWellMade n → replaced_below p.inner m p.top ≡ done n
      → StaysWithin mode t u path
  value-slot n value flat wn h more =
      let e : Edit = replace p.way p.segment (λ l. l) n in
      let applies : Applies mode e t =
      (w, p.key, p.top, p.leads, p.there, value, flat, refl, (spelled p.segment w.slots (keyed p.key p.top) well p.there, wn)) in
      subst (λ (q : Path). StaysButAt mode (q ∷ []) t u) (sym (spot-further t made path found p value more))
      (subst (StaysButAt mode (to_key w.path p.key.name ∷ []) t) (sym (slot-changes n h)) (edit_stays mode e t made steady applies))

  pub inside-value : IsWellMade m → is_value_node p.top ≡ true → (x : Text) (inner : List Text) → p.inner ≡ x ∷ inner → StaysWithin mode t u path
  inside-value wm value x inner is =
      let n = there-replaced p.inner m p.top found p.below in
      let h : replaced_below (x ∷ inner) m p.top ≡ done n.0 = ap (λ q. replaced_below q m p.top) (sym is) ∙ n.1 in
      value-slot n.0 value (below-stands false (new_key x) (replaced_below inner m) p.top n.0 value undotted h).0
      (replaced-made p.inner m p.top n.0 wm there-is.made n.1) n.1

  pub at-value : IsWellMade m → is_value_node p.top ≡ true → (is_dotted_inline p.top ≡ false → is_plain_value m ≡ true) → p.inner ≡ []
      → StaysWithin mode t u path
  at-value wm value flat is = value-slot m value (flat undotted) wm (ap (λ q. replaced_below q m p.top) is)

by_end : (mode : Mode) (t u : Tree) (made : SlotsAreWellMade t.slots) (steady : is_steady_in mode t ≡ true) (path : List Text) (old m : Node)
    (p : Spot (root_visit t) path old) → is_value_node old ≡ true → (is_dotted_inline old ≡ false → is_plain_value m ≡ true) → IsWellMade m
    → replaced_at path m t ≡ done u → (inner : List Text) → p.inner ≡ inner → GoesOn p.top old inner → StaysWithin mode t u path
by_end mode t u made steady path old m p value flat wm put [] is (at_slot same) =
    at-value mode t u made steady path old m p put wm (subst (λ x. is_value_node x ≡ true) (sym same) value)
    (subst (λ x. is_dotted_inline x ≡ false → is_plain_value m ≡ true) (sym same) flat) is
by_end mode t u made steady path old m p value flat wm put (x ∷ []) is (at_element y e) =
    absurd (let c : is_value_node (table e.fields e.slots) ≡ true = subst (λ z. is_value_node z ≡ true) e.found_is value in cc)
by_end mode t u made steady path old m p value flat wm put (x ∷ inner) is (in_value y more top) =
    inside-value mode t u made steady path old m p put wm top y more is

pub value-stays : (mode : Mode) → ValueStays mode
value-stays mode t u [] old m made steady there value flat wm put =
    absurd (let c : is_value_node (root_item t) ≡ true = subst (λ x. is_value_node x ≡ true) (sym (some-is (root_item t) old there)) value in cc)
value-stays mode t u (k ∷ rest) old m made steady there value flat wm put =
    let p : Spot (root_visit t) (k ∷ rest) old = spot old k rest (root_visit t) there in
    by_end mode t u made steady (k ∷ rest) old m p value flat wm put p.inner refl p.on

-- ---- which edit that is

-- the slot of a table on the walk has another value
pub record ValuePut (t u : Tree) : Type 0 where
  pub way : List Turn
  pub visit : Visit
  pub key : Text
  pub old : Slot Node
  pub value : Node
  pub leads : Leads way (root_visit t) visit
  pub there : lookup_slot key (slot_list visit.slots) ≡ Some old
  pub was_value : is_value_node old.item ≡ true
  pub is_value : is_value_node value ≡ true
  pub leaves : u ≡ edited way (changed key (with_item value)) t

put_by_end : (mode : Mode) (t u : Tree) (made : SlotsAreWellMade t.slots) (steady : is_steady_in mode t ≡ true) (path : List Text) (old m : Node)
    (p : Spot (root_visit t) path old) → is_value_node old ≡ true → is_value_node m ≡ true
    → replaced_at path m t ≡ done u → (inner : List Text) → p.inner ≡ inner → GoesOn p.top old inner → ValuePut t u
put_by_end mode t u made steady path old m p value also put [] is (at_slot same) =
    record {
      way = p.way;
      visit = p.visit;
      key = p.segment;
      old = keyed p.key p.top;
      value = m;
      leads = p.leads;
      there = p.there;
      was_value = ap is_value_node same ∙ value;
      is_value = also;
      leaves = slot-changes mode t u made steady path old m p put m (ap (λ q. replaced_below q m p.top) is);
    }
put_by_end mode t u made steady path old m p value also put (x ∷ []) is (at_element y e) =
    absurd (let c : is_value_node (table e.fields e.slots) ≡ true = subst (λ z. is_value_node z ≡ true) e.found_is value in cc)
put_by_end mode t u made steady path old m p value also put (x ∷ inner) is (in_value y more top) =
    let n = there-replaced p.inner m p.top old p.below in
    let h : child_changed false (new_key y) (replaced_below more m) p.top ≡ done n.0 = ap (λ q. replaced_below q m p.top) (sym is) ∙ n.1 in
    record {
      way = p.way;
      visit = p.visit;
      key = p.segment;
      old = keyed p.key p.top;
      value = n.0;
      leads = p.leads;
      there = p.there;
      was_value = top;
      is_value = still-value (new_key y) (replaced_below more m) p.top n.0 top h;
      leaves = slot-changes mode t u made steady path old m p put n.0 n.1;
    }

pub value-put : (mode : Mode) (t u : Tree) (path : List Text) (old m : Node) → SlotsAreWellMade t.slots → is_steady_in mode t ≡ true
    → item_at path t ≡ Some old → is_value_node old ≡ true → is_value_node m ≡ true → replaced_at path m t ≡ done u → ValuePut t u
value-put mode t u [] old m made steady there value also put =
    absurd (let c : is_value_node (root_item t) ≡ true = subst (λ x. is_value_node x ≡ true) (sym (some-is (root_item t) old there)) value in cc)
value-put mode t u (k ∷ rest) old m made steady there value also put =
    let p : Spot (root_visit t) (k ∷ rest) old = spot old k rest (root_visit t) there in
    put_by_end mode t u made steady (k ∷ rest) old m p value also put p.inner refl p.on
