-- The slot on the way to an edited table, and a tree that stays well made.
use Rattle.std.proofs.Common.{◌≡◌, sym, ◌∙◌, ap, subst, ℕ, true, false, List, [], ◌∷◌, ◌++◌, length}
use Rattle.toml_edit_model.specs.Text.{Text}
use Rattle.toml_edit_model.specs.Paths.{to_key, to_element}
use Rattle.toml_edit_model.specs.Tree.{Key, Extent, TableFields, Node, table, tables, Items, Slots, ItemsAreWellMade, SlotsAreWellMade}
use Rattle.toml_edit_model.specs.HeaderOrder.{Visit, visit_of}
use Rattle.toml_edit_model.specs.Slots.{Slot, keyed, on_item, changed_at}
use Rattle.toml_edit_model.specs.Lists.{slot_list, slots_from, item_list, items_from, on_slots, on_items}
use Rattle.toml_edit_laws.specs.Locality.{Turn, into_table, into_element, Leads, along, element_count}
use Rattle.toml_edit_laws.proofs.locality.Slots.{slots_under, items_under, Found, found, items_from-list, change-item}
use Rattle.toml_edit_laws.proofs.locality.Elements.{item-made}
use Rattle.toml_edit_laws.proofs.locality.Made.{made-node, items-swap, split-made}

-- ---- the slot on the way, edited

module _ (g : List (Slot Node) → List (Slot Node)) (way : List Turn) (k : Text) (es : List (Slot Node)) (l : Key) where
  pub table-edited : (f : TableFields) (ss : Slots) → (fd : Found k (keyed l (table f ss)) es)
      → slots_from (along (into_table k ∷ way) g es) ≡ slots_from (fd.front ++ (keyed l (table f (slots_under (along way g) ss)) ∷ fd.back))
  table-edited f ss fd = ap slots_from (fd.change (on_item (on_slots (along way g))))

  pub element-edited : (i : ℕ) (e : Extent) (xs : Items) (before : List Node) (f : TableFields) (ss : Slots) (after : List Node)
      → item_list xs ≡ before ++ (table f ss ∷ after) → length before ≡ i → (fd : Found k (keyed l (tables e xs)) es)
      → slots_from (along (into_element k i ∷ way) g es)
      ≡ slots_from (fd.front ++ (keyed l (tables e (items_from (before ++ (table f (slots_under (along way g) ss) ∷ after)))) ∷ fd.back))
  element-edited i e xs before f ss after items place fd =
      let other : items_under (changed_at i (on_slots (along way g))) xs
      ≡ items_from (before ++ (table f (slots_under (along way g) ss) ∷ after)) =
      ap (λ z. items_from (changed_at i (on_slots (along way g)) z)) items
      ∙ ap items_from (change-item before (table f ss) after i (on_slots (along way g)) place) in
      ap slots_from (fd.change (on_item (on_items (changed_at i (on_slots (along way g))))))
      ∙ ap (λ z. slots_from (fd.front ++ (keyed l (tables e z) ∷ fd.back))) other

pub element-items : (xs : Items) (before : List Node) (n : Node) (after : List Node) → item_list xs ≡ before ++ (n ∷ after)
    → xs ≡ items_from (before ++ (n ∷ after))
element-items xs before n after items = sym (items_from-list xs) ∙ ap items_from items

-- the table of an element is well made
pub element-made : (xs : Items) (before : List Node) (f : TableFields) (ss : Slots) (after : List Node)
    → item_list xs ≡ before ++ (table f ss ∷ after)
    → ItemsAreWellMade xs → SlotsAreWellMade ss
element-made xs before f ss after items w =
    item-made before (table f ss) after (subst ItemsAreWellMade (element-items xs before (table f ss) after items) w)

-- ---- well made

pub along-made : (way : List Turn) (g : List (Slot Node) → List (Slot Node)) (s v : Visit) → SlotsAreWellMade s.slots → Leads way s v
    → (SlotsAreWellMade v.slots → SlotsAreWellMade (slots_under g v.slots)) → SlotsAreWellMade (slots_under (along way g) s.slots)
along-made [] g s v w e go = subst (λ (x : Visit). SlotsAreWellMade x.slots → SlotsAreWellMade (slots_under g x.slots)) (sym e) go w
along-made (into_table k ∷ way) g s v w (l, f, ss, eq, rest) go =
    let t : Visit = visit_of (to_key s.path l.name) (s.keys ++ (l ∷ [])) false f ss in
    let fd : Found k (keyed l (table f ss)) (slot_list s.slots) = found k s.slots (keyed l (table f ss)) w eq in
    subst SlotsAreWellMade (sym (table-edited g way k (slot_list s.slots) l f ss fd))
    (made-node fd.front fd.back l (table f ss) (table f (slots_under (along way g) ss)) (along-made way g t v fd.made rest go)
    (split-made k (keyed l (table f ss)) s.slots fd w))
along-made (into_element k i ∷ way) g s v w (l, e, xs, before, f, ss, after, eq, items, place, rest) go =
    let t : Visit = visit_of (to_element (to_key s.path l.name) (element_count before)) (s.keys ++ (l ∷ [])) true f ss in
    let us : Slots = slots_under (along way g) ss in
    let fd : Found k (keyed l (tables e xs)) (slot_list s.slots) = found k s.slots (keyed l (tables e xs)) w eq in
    let inside : ItemsAreWellMade (items_from (before ++ (table f ss ∷ after))) =
    subst ItemsAreWellMade (element-items xs before (table f ss) after items) fd.made in
    subst SlotsAreWellMade (sym (element-edited g way k (slot_list s.slots) l i e xs before f ss after items place fd))
    (made-node fd.front fd.back l (tables e xs) (tables e (items_from (before ++ (table f us ∷ after))))
    (items-swap before after (table f ss) (table f us)
    (along-made way g t v (element-made xs before f ss after items fd.made) rest go) inside)
    (split-made k (keyed l (tables e xs)) s.slots fd w))
