-- A table below the root that a path leads to, and the table above it.
use Rattle.std.proofs.Common.{◌≡◌, refl, sym, ◌∙◌, ap, subst, true, false, List, [], ◌∷◌, ◌++◌, length, Some, inl, inr}
use Rattle.std.specs.Prelude.{◌⊎◌}
use Rattle.toml_edit_model.specs.Mode.{Mode}
use Rattle.toml_edit_model.specs.Text.{Text}
use Rattle.toml_edit_model.specs.ArrayCalls.{written_at}
use Rattle.toml_edit_model.specs.Paths.{Path, at_element, to_key, to_element}
use Rattle.toml_edit_model.specs.Keys.{new_key}
use Rattle.toml_edit_model.specs.Shown.{is_table_node}
use Rattle.toml_edit_model.specs.Tree.{Decor, Node, TableFields, table, tables, Slots, SlotsAreWellMade, Tree}
use Rattle.toml_edit_model.specs.HeaderOrder.{Visit, visit_of}
use Rattle.toml_edit_model.specs.Fits.{is_steady_in}
use Rattle.toml_edit_model.specs.Slots.{changed, changed_at, keyed, lookup_slot, on_item, with_item}
use Rattle.toml_edit_model.specs.Lists.{item_list, items_from, on_items, slot_list, slots_from}
use Rattle.toml_edit_laws.specs.Locality.{Turn, into_table, into_element, Leads, root_visit, edited, element_count, is_at_or_below}
use Rattle.toml_edit_laws.proofs.common.PathLaws.{front-more, front-refl}
use Rattle.toml_edit_laws.proofs.locality.Slots.{change-item}
use Rattle.toml_edit_laws.proofs.locality.Sound.{leads-made}
use Rattle.toml_edit_laws.proofs.locality.Under.{front-is}
use Rattle.toml_edit_edit_laws.specs.Commands.{done, mapped, change_element, change_slot, element_of, item_at}
use Rattle.toml_edit_edit_laws.specs.CommandLaws.{Goes}
use Rattle.toml_edit_edit_laws.specs.Comments.{header_edited, recommented, with_header_decor}
use Rattle.toml_edit_edit_laws.proofs.commands.Going.{changed-same, element-there}
use Rattle.toml_edit_edit_laws.proofs.path_calls.Spots.{GoesOn, at_slot, at_element, in_value, Spot, spot}
use Rattle.toml_edit_paths.specs.Calls.{replaced_at, replaced_below}
use Rattle.toml_edit_edit_laws.specs.Places.{place_of}
use Rattle.toml_edit_edit_laws.proofs.path_calls.Places.{spot-place}
use Rattle.toml_edit_edits.proofs.staying.Tables.{InsideValue, goes-join}
use Rattle.toml_edit_edits.proofs.staying.Values.{inside-value, slot-left}

pub record Turned (t : Tree) (path : List Text) (f : TableFields) (ss : Slots) : Type 0 where
  pub way : List Turn
  pub from : Visit
  pub turn : Turn
  pub visit : Visit
  pub leads : Leads way (root_visit t) from
  pub turns : Leads (turn ∷ []) from visit
  pub goes : Goes (way ++ (turn ∷ [])) path
  pub fields : visit.fields ≡ f
  pub slots : visit.slots ≡ ss
  pub place : Path
  pub is : place_of t path ≡ place
  pub above : is_at_or_below place visit.path ≡ true
  -- the table gets another decor
  pub left : (u : Tree) (d : Decor) → replaced_at path (table (recommented d f) ss) t ≡ done u → u ≡ edited way (header_edited turn d) t

module _ (mode : Mode) (t : Tree) (made : SlotsAreWellMade t.slots) (steady : is_steady_in mode t ≡ true) (path : List Text)
    (f : TableFields) (ss : Slots) (p : Spot (root_visit t) path (table f ss)) where
  abbrev w : Visit
  w = p.visit

  well : SlotsAreWellMade w.slots
  well = leads-made p.way (root_visit t) w made p.leads

  abbrev place : Path
  place = to_key w.path p.key.name

  is_there : place_of t path ≡ place
  is_there = spot-place t made path (table f ss) p

  turned : (inner : List Text) → p.inner ≡ inner → GoesOn p.top (table f ss) inner → Turned t path f ss ⊎ InsideValue mode t path
  turned [] is (at_slot same) =
      let there : lookup_slot p.segment (slot_list w.slots) ≡ Some (keyed p.key (table f ss)) = p.there ∙ ap (λ n. Some (keyed p.key n)) same in
      let ends : p.front ++ (p.segment ∷ []) ≡ path = ap (λ (q : List Text). p.front ++ (p.segment ∷ q)) (sym is) ∙ sym p.path_is in
      let turn : List Turn = into_table p.segment ∷ [] in
      inl (record {
        way = p.way;
        from = w;
        turn = into_table p.segment;
        visit = visit_of place (w.keys ++ (p.key ∷ [])) false f ss;
        leads = p.leads;
        turns = (p.key, f, ss, there, refl);
        goes = subst (Goes (p.way ++ turn)) ends (goes-join p.way turn p.front (p.segment ∷ []) p.goes (refl, tt));
        fields = refl;
        slots = refl;
        place = place;
        is = is_there;
        above = front-is place place ∙ front-refl place;
        left = λ u d put.
            let m : Node = table (recommented d f) ss in
            slot-left mode t u made steady path (table f ss) m p put (header_edited (into_table p.segment) d)
            (ap (λ q. replaced_below (p.segment ∷ q) m (table w.fields w.slots)) is
            ∙ ap (λ o. mapped (λ xs. table w.fields (slots_from xs)) (change_slot false (new_key p.segment) (replaced_below [] m) (slot_list w.slots) o)) there
            ∙ ap (λ xs. done (table w.fields (slots_from xs)))
            (changed-same p.segment (with_item m) (on_item (with_header_decor d)) w.slots (keyed p.key (table f ss)) well there refl));
      })
  turned (x ∷ []) is (at_element y e) =
      let i = length e.before in
      let found : table f ss ≡ table e.fields e.slots = e.found_is in
      let there : lookup_slot p.segment (slot_list w.slots) ≡ Some (keyed p.key (tables e.extent e.items)) =
      p.there ∙ ap (λ n. Some (keyed p.key n)) e.is in
      let ends : p.front ++ (p.segment ∷ y ∷ []) ≡ path = ap (λ (q : List Text). p.front ++ (p.segment ∷ q)) (sym is) ∙ sym p.path_is in
      let turn : List Turn = into_element p.segment i ∷ [] in
      let element : element_of is_table_node y (item_list e.items) ≡ Some (i, table e.fields e.slots) =
      element-there is_table_node y i (item_list e.items) e.before (table e.fields e.slots) e.after e.number e.parts refl refl in
      inl (record {
        way = p.way;
        from = w;
        turn = into_element p.segment i;
        visit = visit_of (to_element place (element_count e.before)) (w.keys ++ (p.key ∷ [])) true e.fields e.slots;
        leads = p.leads;
        turns = (p.key, e.extent, e.items, e.before, e.fields, e.slots, e.after, there, e.parts, refl, refl);
        goes = subst (Goes (p.way ++ turn)) ends (goes-join p.way turn p.front (p.segment ∷ y ∷ []) p.goes (refl, e.number, tt));
        fields = cc;
        slots = cc;
        place = place;
        is = is_there;
        above = front-is place (to_element place (element_count e.before)) ∙ front-more place (at_element (element_count e.before) ∷ []);
        left = λ u d put.
            let m : Node = table (recommented d f) ss in
            let same : written_at i m (item_list e.items) ≡ changed_at i (with_header_decor d) (item_list e.items) =
            ap (written_at i m) e.parts ∙ change-item e.before (table e.fields e.slots) e.after i (λ old. m) refl
            ∙ ap (λ (n : Node). e.before ++ (with_header_decor d n ∷ e.after)) found
            ∙ sym (ap (changed_at i (with_header_decor d)) e.parts
            ∙ change-item e.before (table e.fields e.slots) e.after i (with_header_decor d) refl) in
            let inside : replaced_below (y ∷ []) m (tables e.extent e.items) ≡ done (tables e.extent (items_from (changed_at i (with_header_decor d) (item_list e.items)))) =
            ap (λ o. mapped (λ ns. tables e.extent (items_from ns)) (change_element (replaced_below [] m) (item_list e.items) o)) element
            ∙ ap (λ ns. done (tables e.extent (items_from ns))) same in
            slot-left mode t u made steady path (table f ss) m p put (header_edited (into_element p.segment i) d)
            (ap (λ q. replaced_below (p.segment ∷ q) m (table w.fields w.slots)) is
            ∙ ap (λ o. mapped (λ xs. table w.fields (slots_from xs)) (change_slot false (new_key p.segment) (replaced_below (y ∷ []) m) (slot_list w.slots) o)) there
            ∙ ap (λ a. mapped (λ xs. table w.fields (slots_from xs)) (mapped (λ z. changed p.segment (with_item z) (slot_list w.slots)) a)) inside
            ∙ ap (λ xs. done (table w.fields (slots_from xs)))
            (changed-same p.segment (with_item (tables e.extent (items_from (changed_at i (with_header_decor d) (item_list e.items)))))
            (on_item (on_items (changed_at i (with_header_decor d)))) w.slots (keyed p.key (tables e.extent e.items)) well there refl));
      })
  turned (x ∷ inner) is (in_value y more value) =
      inr (λ u m wm put. inside-value mode t u made steady path (table f ss) m p put wm value y more is)

pub table-turned : (mode : Mode) (t : Tree) → SlotsAreWellMade t.slots → is_steady_in mode t ≡ true → (k : Text) (rest : List Text)
    (f : TableFields) (ss : Slots) → item_at (k ∷ rest) t ≡ Some (table f ss) → Turned t (k ∷ rest) f ss ⊎ InsideValue mode t (k ∷ rest)
table-turned mode t made steady k rest f ss there =
    let p : Spot (root_visit t) (k ∷ rest) (table f ss) = spot (table f ss) k rest (root_visit t) there in
    turned mode t made steady (k ∷ rest) f ss p p.inner refl p.on
