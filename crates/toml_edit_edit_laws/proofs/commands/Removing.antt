-- `remove` of a slot of a table that the walk enters, or of an element of an array of tables that is such a slot.
use Rattle.std.specs.Prelude.{not}
use Rattle.std.proofs.Common.{◌≡◌, refl, sym, ◌∙◌, ap, subst, true, false, List, [], ◌∷◌, ◌++◌, Some}
use Rattle.toml_edit_model.specs.Mode.{Mode}
use Rattle.toml_edit_model.specs.Text.{Text}
use Rattle.toml_edit_model.specs.Tree.{Key, Node, nothing, leaf, list, inline, table, tables, Tree, is_value_node}
use Rattle.toml_edit_model.specs.Keys.{new_key}
use Rattle.toml_edit_model.specs.Slots.{Slot, keyed, on_item, with_item, lookup_slot, changed, without}
use Rattle.toml_edit_model.specs.Lists.{slot_list, slots_from, item_list, items_from, on_items, is_item, is_dotted_inline}
use Rattle.toml_edit_model.specs.ArrayCalls.{removed_at}
use Rattle.toml_edit_model.specs.Shown.{is_table_node}
use Rattle.toml_edit_laws.specs.Locality.{root_visit, edited, statements}
use Rattle.toml_edit_edit_laws.specs.Commands.{done, mapped, element_of, change_slot, present, drop_slot, drop_element, remove_child}
use Rattle.toml_edit_edit_laws.specs.Commands.{remove_below, child_changed, with_slots}
use Rattle.toml_edit_edit_laws.specs.CommandLaws.{text_with, RemoveDrops, RemoveElementDrops, RemoveChanges}
use Rattle.toml_edit_laws.proofs.locality.Removing.{removed}
use Rattle.toml_edit_laws.proofs.locality.Sound.{leads-made}
use Rattle.toml_edit_laws.proofs.locality.RemovingElements.{removed_element}
use Rattle.toml_edit_edit_laws.proofs.commands.Going.{goes-along, changed-same, element-there, made-goes, made-named}
use Rattle.toml_edit_edit_laws.proofs.commands.Setting.{was-mapped, Stands, below-stands, value-changes}
use Rattle.toml_edit_edit_laws.proofs.commands.Reading.{statements-read, edited-text}
use Rattle.toml_edit_laws.proofs.normal_texts.SteadyTrees.{steady-tree}

pub remove-goes-down : (j : Text) (more : List Text) (k : Text) (path : List Text) (n : Node)
    → remove_below (k ∷ (path ++ (j ∷ more))) n ≡ child_changed false (new_key k) (remove_below (path ++ (j ∷ more))) n
remove-goes-down j more k [] n = refl
remove-goes-down j more k (x ∷ path) n = refl

pub item-present : (k : Key) (n : Node) → is_item n ≡ true → present (Some (keyed k n)) ≡ Some n
item-present k nothing h = absurd cc
item-present k (leaf s r d) h = refl
item-present k (list f xs) h = refl
item-present k (inline f ss) h = refl
item-present k (table f ss) h = refl
item-present k (tables e xs) h = refl

child-stands : (k : Text) (old n : Node) → is_value_node old ≡ true → is_dotted_inline old ≡ false → remove_child k old ≡ done n
    → Stands old n
child-stands k (leaf s r d) n is undotted h = absurd cc
child-stands k (list f xs) n is undotted h =
    let w = was-mapped (λ ns. list f (items_from ns)) (drop_element (item_list xs) (element_of is_value_node k (item_list xs))) n h in
    subst (Stands (list f xs)) (sym w.gives) (refl, refl)
child-stands k (inline f ss) n is undotted h =
    let w = was-mapped (λ xs. inline f (slots_from xs)) (drop_slot k (slot_list ss) (present (lookup_slot k (slot_list ss)))) n h in
    subst (Stands (inline f ss)) (sym w.gives) (ap not undotted, refl)
child-stands k (table f ss) n is undotted h = absurd cc
child-stands k (tables e xs) n is undotted h = absurd cc
child-stands k nothing n is undotted h = absurd cc

remove-stands : (x : Text) (inner : List Text) (old n : Node) → is_value_node old ≡ true → is_dotted_inline old ≡ false
    → remove_below (x ∷ inner) old ≡ done n → Stands old n
remove-stands x [] old n is undotted h = child-stands x old n is undotted h
remove-stands x (y ∷ inner) old n is undotted h = below-stands false (new_key x) (remove_below (y ∷ inner)) old n is undotted h

module _ (mode : Mode) where
  pub remove_drops : RemoveDrops mode
  remove_drops d t path v k s read names is_there is =
      let way = names.way in
      let u : Tree = edited way (without k) t in
      let law = removed mode t way v k s read.made (steady-tree mode d t read.tree) names.leads is_there in
      let here : remove_below (k ∷ []) (table v.fields v.slots) ≡ done (table v.fields (slots_from (without k (slot_list v.slots)))) =
      ap (λ o. mapped (λ xs. table v.fields (slots_from xs)) (drop_slot k (slot_list v.slots) (present o))) is_there
      ∙ ap (λ o. mapped (λ xs. table v.fields (slots_from xs)) (drop_slot k (slot_list v.slots) o)) (item-present s.key s.item is) in
      let along = goes-along new_key false remove_below (k ∷ []) (remove-goes-down k []) (without k) way path (root_visit t) v read.made (made-goes way path names.goes)
      names.leads here in (
        u,
        ap (mapped (with_slots t)) along,
        law.0,
        record {
          read = statements-read mode d t read;
          left = ap statements law.0;
          text = edited-text mode d t read way (without k) ∙ ap (λ ss. text_with mode d (statements ss)) law.0;
        },
        law.2,
      )

  pub remove_element_drops : RemoveElementDrops mode
  remove_element_drops d t path v w k x i read names number (l, e, xs, before, f, ss, after, is_there, items, place, last) =
      let way = names.way in
      let g : List (Slot Node) → List (Slot Node) = changed k (on_item (on_items (removed_at i))) in
      let u : Tree = edited way g t in
      let law = removed_element mode t way v w k i read.made (steady-tree mode d t read.tree) names.leads (
        l,
        e,
        xs,
        before,
        f,
        ss,
        after,
        is_there,
        items,
        place,
        last,
      ) in
      let element : element_of is_table_node x (item_list xs) ≡ Some (i, table f ss) =
      element-there is_table_node x i (item_list xs) before (table f ss) after number items place refl in
      let inside : remove_below (x ∷ []) (tables e xs) ≡ done (tables e (items_from (removed_at i (item_list xs)))) =
      ap (λ o. mapped (λ ns. tables e (items_from ns)) (drop_element (item_list xs) o)) element in
      let here : remove_below (k ∷ x ∷ []) (table v.fields v.slots) ≡ done (table v.fields (slots_from (g (slot_list v.slots)))) =
      ap (λ o. mapped (λ ys. table v.fields (slots_from ys)) (change_slot false (new_key k) (remove_below (x ∷ [])) (slot_list v.slots) o)) is_there
      ∙ ap (λ a. mapped (λ ys. table v.fields (slots_from ys)) (mapped (λ m. changed k (with_item m) (slot_list v.slots)) a)) inside
      ∙ ap (λ ys. done (table v.fields (slots_from ys)))
      (changed-same k (with_item (tables e (items_from (removed_at i (item_list xs))))) (on_item (on_items (removed_at i))) v.slots
      (keyed l (tables e xs)) (leads-made way (root_visit t) v read.made names.leads) is_there refl) in
      let along = goes-along new_key false remove_below (k ∷ x ∷ []) (remove-goes-down k (x ∷ [])) g way path (root_visit t) v read.made (made-goes way path names.goes)
      names.leads here in (
        u,
        ap (mapped (with_slots t)) along,
        record {
          read = statements-read mode d t read;
          left = law.0;
          text = edited-text mode d t read way g ∙ ap (text_with mode d) law.0;
        },
        law.2,
      )

  -- ---- inside a value

  pub remove_changes : RemoveChanges mode
  remove_changes d t path v k l old x inner n read names is_there is_value gone =
      value-changes mode new_key false remove_below (k ∷ x ∷ inner) (remove-goes-down k (x ∷ inner)) d t path v k l old n read (made-named t path v names) is_there
      is_value
      (λ undotted. remove-stands x inner old n is_value undotted gone)
      (ap (λ o. mapped (λ xs. table v.fields (slots_from xs)) (change_slot false (new_key k) (remove_below (x ∷ inner)) (slot_list v.slots) o))
      is_there
      ∙ ap (λ a. mapped (λ xs. table v.fields (slots_from xs)) (mapped (λ m. changed k (with_item m) (slot_list v.slots)) a)) gone)
