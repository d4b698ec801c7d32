-- `remove_at` of a slot, of an element, or inside a value, as an edit.
use Rattle.std.proofs.Common.{◌≡◌, refl, sym, ◌∙◌, ap, true, false, List, [], ◌∷◌, ◌++◌, length, Some}
use Rattle.toml_edit_model.specs.Mode.{Mode}
use Rattle.toml_edit_model.specs.Text.{Text}
use Rattle.toml_edit_model.specs.Paths.{to_key}
use Rattle.toml_edit_model.specs.Keys.{new_key}
use Rattle.toml_edit_model.specs.Tree.{Node, table, tables, no_slots, slot, SlotsAreWellMade, Tree}
use Rattle.toml_edit_model.specs.HeaderOrder.{Visit}
use Rattle.toml_edit_model.specs.Fits.{is_steady_in}
use Rattle.toml_edit_model.specs.Shown.{is_table_node}
use Rattle.toml_edit_model.specs.Slots.{Slot, keyed, on_item, with_item, lookup_slot, changed, without}
use Rattle.toml_edit_model.specs.Lists.{slot_list, slots_from, item_list, items_from, on_items}
use Rattle.toml_edit_model.specs.ArrayCalls.{removed_at}
use Rattle.toml_edit_laws.specs.Locality.{root_visit, edited}
use Rattle.toml_edit_laws.specs.EditLists.{replace, remove, remove_element}
use Rattle.toml_edit_edit_laws.specs.Commands.{done, mapped, child_changed, element_of, item_below, change_slot, drop_slot, drop_element}
use Rattle.toml_edit_edit_laws.specs.Commands.{root_item, remove_below, with_slots, remove_at}
use Rattle.toml_edit_edit_laws.proofs.commands.Finding.{removed_was_there, remove_finds}
use Rattle.toml_edit_edit_laws.proofs.commands.Going.{goes-along, changed-same, element-there, made-goes}
use Rattle.toml_edit_edit_laws.proofs.commands.Removing.{remove-goes-down}
use Rattle.toml_edit_edit_laws.proofs.commands.Setting.{done-is, was-mapped}
use Rattle.toml_edit_edit_laws.proofs.commands.Apart.{skip}
use Rattle.toml_edit_laws.proofs.locality.Slots.{Found, found as found-in}
use Rattle.toml_edit_laws.proofs.locality.Sound.{leads-made, leads-sound, sound-slot, Steady, steady-parts}
use Rattle.toml_edit_edit_laws.specs.PathEdits.{removes, GoesTo, RemoveEdits}
use Rattle.toml_edit_edit_laws.proofs.path_calls.Spots.{GoesOn, at_slot, at_element, in_value, Spot, spot}
use Rattle.toml_edit_edit_laws.proofs.path_calls.Places.{spot-place}
use Rattle.toml_edit_edit_laws.proofs.path_calls.Inside.{remove-stands, remove-made, spelled}
use Rattle.toml_edit_edit_laws.proofs.path_calls.Setting.{Replaces, EditSuch, edit-of}

-- what the path leads to can be removed from the value that it goes into
there-removes : (t : Tree) (x : Text) (inner : List Text) (top found : Node) → item_below (x ∷ inner) top ≡ Some found → (n : Node)
    × (remove_below (x ∷ inner) top ≡ done n)
there-removes t x inner top found h =
    let one : Tree = record t { slots = slot (new_key []) top no_slots } in
    let r = remove_finds one [] (x ∷ inner) found (skip x inner (new_key []) top ∙ h) in
    let root = was-mapped (with_slots one) (child_changed false (new_key []) (remove_below (x ∷ inner)) (root_item one)) r.0 r.1 in
    let slots = was-mapped (λ xs. table t.root (slots_from xs))
    (mapped (λ m. changed [] (with_item m) (slot_list one.slots)) (remove_below (x ∷ inner) top)) root.from root.is in
    let item = was-mapped (λ m. changed [] (with_item m) (slot_list one.slots)) (remove_below (x ∷ inner) top) slots.from slots.is in
    (item.from, item.is)

-- something inside the first value is removed, and that leaves the second
abbrev pub RemovesInside : Node → Node → Type 0
RemovesInside old n = (x : Text) × (inner : List Text) × (remove_below (x ∷ inner) old ≡ done n)

module _ (mode : Mode) (t u : Tree) (path : List Text) (found : Node) (p : Spot (root_visit t) path found) (made : SlotsAreWellMade t.slots)
    (steady : is_steady_in mode t ≡ true) (gone : remove_at path t ≡ done u) where
  abbrev w : Visit
  w = p.visit

  well : SlotsAreWellMade w.slots
  well = leads-made p.way (root_visit t) w made p.leads

  there-is : Found p.segment (keyed p.key p.top) (slot_list w.slots)
  there-is = found-in p.segment w.slots (keyed p.key p.top) well p.there

  left : (more : List Text) (g : List (Slot Node) → List (Slot Node)) → p.inner ≡ more
      → ((k : Text) (q : List Text) (n : Node) → remove_below (k ∷ (q ++ (p.segment ∷ more))) n
      ≡ child_changed false (new_key k) (remove_below (q ++ (p.segment ∷ more))) n)
      → remove_below (p.segment ∷ more) (table w.fields w.slots) ≡ done (table w.fields (slots_from (g (slot_list w.slots))))
      → u ≡ edited p.way g t
  left more g is down here =
      let along = goes-along new_key false remove_below (p.segment ∷ more) down g p.way p.front (root_visit t) w made (made-goes p.way p.front p.goes) p.leads here in
      done-is u (edited p.way g t)
      (sym gone ∙ ap (λ q. mapped (with_slots t) (remove_below q (root_item t))) (p.path_is
      ∙ ap (λ (z : List Text). p.front ++ (p.segment ∷ z)) is) ∙ ap (mapped (with_slots t)) along)

  at : (more : List Text) → p.inner ≡ more → GoesTo p.way p.segment more path
  at more is = (p.front, p.goes, p.path_is ∙ ap (λ (z : List Text). p.front ++ (p.segment ∷ z)) is)

  by_end : (inner : List Text) → p.inner ≡ inner → item_below inner p.top ≡ Some found → GoesOn p.top found inner
      → EditSuch mode (removes path) t u (Replaces mode t RemovesInside)
  by_end [] is below (at_slot same) =
      let here : remove_below (p.segment ∷ []) (table w.fields w.slots)
      ≡ done (table w.fields (slots_from (without p.segment (slot_list w.slots)))) =
      ap (λ o. mapped (λ xs. table w.fields (slots_from xs)) (drop_slot p.segment (slot_list w.slots) o)) p.shown in
      edit-of mode (removes path) t u (Replaces mode t RemovesInside) (remove p.way p.segment) made steady (at [] is)
      (w, keyed p.key p.top, p.leads, p.there)
      (left [] (without p.segment) is (remove-goes-down p.segment []) here)
      (spot-place t made path found p) tt
  by_end (x ∷ []) is below (at_element y e) =
      let i = length e.before in
      let g : List (Slot Node) → List (Slot Node) = changed p.segment (on_item (on_items (removed_at i))) in
      let there : lookup_slot p.segment (slot_list w.slots) ≡ Some (keyed p.key (tables e.extent e.items)) =
      p.there ∙ ap (λ n. Some (keyed p.key n)) e.is in
      let element : element_of is_table_node y (item_list e.items) ≡ Some (i, table e.fields e.slots) =
      element-there is_table_node y i (item_list e.items) e.before (table e.fields e.slots) e.after e.number e.parts refl refl in
      let inside : remove_below (y ∷ []) (tables e.extent e.items) ≡ done (tables e.extent (items_from (removed_at i (item_list e.items)))) =
      ap (λ o. mapped (λ ns. tables e.extent (items_from ns)) (drop_element (item_list e.items) o)) element in
      let here : remove_below (p.segment ∷ y ∷ []) (table w.fields w.slots) ≡ done (table w.fields (slots_from (g (slot_list w.slots)))) =
      ap (λ o. mapped (λ ys. table w.fields (slots_from ys)) (change_slot false (new_key p.segment) (remove_below (y ∷ [])) (slot_list w.slots) o)) there
      ∙ ap (λ a. mapped (λ ys. table w.fields (slots_from ys)) (mapped (λ m. changed p.segment (with_item m) (slot_list w.slots)) a)) inside
      ∙ ap (λ ys. done (table w.fields (slots_from ys)))
      (changed-same p.segment (with_item (tables e.extent (items_from (removed_at i (item_list e.items))))) (on_item (on_items (removed_at i)))
      w.slots (keyed p.key (tables e.extent e.items)) well there refl) in
      edit-of mode (removes path) t u (Replaces mode t RemovesInside) (remove_element p.way p.segment i) made steady (y, at (y ∷ []) is, e.number)
      (w, _, p.leads, (p.key, e.extent, e.items, e.before, e.fields, e.slots, e.after, there, e.parts, refl, refl))
      (left (y ∷ []) g is (remove-goes-down p.segment (y ∷ [])) here)
      (spot-place t made path found p ∙ ap (to_key w.path) (sym there-is.named)) tt
  by_end (x ∷ inner) is below (in_value y more value) =
      let n = there-removes t y more p.top found below in
      let g : List (Slot Node) → List (Slot Node) = changed p.segment (with_item n.0) in
      let st : Steady mode t = steady-parts mode t steady in
      let undotted = (sound-slot p.segment (keyed p.key p.top) w.slots there-is (leads-sound p.way (root_visit t) w made st.sound p.leads)).1 in
      let stands = remove-stands y more p.top n.0 value undotted n.1 in
      let here : remove_below (p.segment ∷ y ∷ more) (table w.fields w.slots) ≡ done (table w.fields (slots_from (g (slot_list w.slots)))) =
      ap (λ o. mapped (λ xs. table w.fields (slots_from xs)) (change_slot false (new_key p.segment) (remove_below (y ∷ more)) (slot_list w.slots) o))
      p.there
      ∙ ap (λ a. mapped (λ xs. table w.fields (slots_from xs)) (mapped (λ m. changed p.segment (with_item m) (slot_list w.slots)) a)) n.1 in
      edit-of mode (removes path) t u (Replaces mode t RemovesInside) (replace p.way p.segment (λ l. l) n.0) made steady (y, more, at (y ∷ more) is, λ l. refl) (
        w,
        p.key,
        p.top,
        p.leads,
        p.there,
        value,
        stands.0,
        refl,
        (spelled p.segment w.slots (keyed p.key p.top) well p.there, remove-made t y more p.top n.0 there-is.made n.1),
      )
      (left (y ∷ more) g is (remove-goes-down p.segment (y ∷ more)) here)
      (spot-place t made path found p)
      (λ l. refl, stands.1, there-is.made, (y, more, n.1))

module _ (mode : Mode) where
  pub remove-edit : (t u : Tree) (path : List Text) → SlotsAreWellMade t.slots → is_steady_in mode t ≡ true → remove_at path t ≡ done u
      → EditSuch mode (removes path) t u (Replaces mode t RemovesInside)
  remove-edit t u [] made steady gone = absurd cc
  remove-edit t u (k ∷ rest) made steady gone =
      let was = removed_was_there t u (k ∷ rest) gone in
      let p : Spot (root_visit t) (k ∷ rest) was.0 = spot was.0 k rest (root_visit t) was.1 in
      by_end mode t u (k ∷ rest) was.0 p made steady gone p.inner refl p.below p.on

  pub remove_edits : RemoveEdits mode
  remove_edits t u path made steady gone = (remove-edit t u path made steady gone).0
