-- Edits at the end of a way: the tree stays well made, and what counts is the edit of that one table.
use Rattle.std.proofs.Common.{◌≡◌, sym, ◌∙◌, ap, subst, true, false, List, [], ◌∷◌, ◌++◌}
use Rattle.toml_edit_model.specs.Paths.{to_key, to_element}
use Rattle.toml_edit_model.specs.Tree.{Node, table, tables, ItemsAreWellMade, SlotsAreWellMade, Tree}
use Rattle.toml_edit_model.specs.HeaderOrder.{Visit, visit_of}
use Rattle.toml_edit_model.specs.Slots.{Slot, keyed, on_item, changed_at}
use Rattle.toml_edit_model.specs.Lists.{slot_list, slots_from, items_from, on_slots, on_items}
use Rattle.toml_edit_laws.specs.Locality.{Turn, into_table, into_element, Leads, root_visit, along, edited, element_count}
use Rattle.toml_edit_laws.proofs.locality.Elements.{item-made}
use Rattle.toml_edit_laws.proofs.locality.Slots.{slots_under, items_under, Found, found, slots_from-list, items_from-list, change-item}

-- two edits that are one at the table
pub along-same : (way : List Turn) (g c : List (Slot Node) → List (Slot Node)) (s v : Visit) → SlotsAreWellMade s.slots → Leads way s v
    → (SlotsAreWellMade v.slots → g (slot_list v.slots) ≡ c (slot_list v.slots)) → along way g (slot_list s.slots)
    ≡ along way c (slot_list s.slots)
along-same [] g c s v w e go = subst (λ (x : Visit). SlotsAreWellMade x.slots → g (slot_list x.slots) ≡ c (slot_list x.slots)) (sym e) go w
along-same (into_table k ∷ way) g c s v w (l, f, ss, eq, rest) go =
    let t : Visit = visit_of (to_key s.path l.name) (s.keys ++ (l ∷ [])) false f ss in
    let fd : Found k (keyed l (table f ss)) (slot_list s.slots) = found k s.slots (keyed l (table f ss)) w eq in
    fd.change (on_item (on_slots (along way g)))
    ∙ ap (λ z. fd.front ++ (keyed l (table f (slots_from z)) ∷ fd.back)) (along-same way g c t v fd.made rest go)
    ∙ sym (fd.change (on_item (on_slots (along way c))))
along-same (into_element k i ∷ way) g c s v w (l, e, xs, before, f, ss, after, eq, items, place, rest) go =
    let t : Visit = visit_of (to_element (to_key s.path l.name) (element_count before)) (s.keys ++ (l ∷ [])) true f ss in
    let fd : Found k (keyed l (tables e xs)) (slot_list s.slots) = found k s.slots (keyed l (tables e xs)) w eq in
    let ex : xs ≡ items_from (before ++ (table f ss ∷ after)) = sym (items_from-list xs) ∙ ap items_from items in
    let made : SlotsAreWellMade ss = item-made before (table f ss) after (subst ItemsAreWellMade ex fd.made) in
    let changed_items : (h : List (Slot Node) → List (Slot Node)) → items_under (changed_at i (on_slots (along way h))) xs
    ≡ items_from (before ++ (table f (slots_under (along way h) ss) ∷ after)) =
    λ h. ap (λ z. items_from (changed_at i (on_slots (along way h)) z)) items
    ∙ ap items_from (change-item before (table f ss) after i (on_slots (along way h)) place) in
    fd.change (on_item (on_items (changed_at i (on_slots (along way g)))))
    ∙ ap (λ z. fd.front ++ (keyed l (tables e z) ∷ fd.back))
    (changed_items g ∙ ap (λ z. items_from (before ++ (table f (slots_from z) ∷ after))) (along-same way g c t v made rest go)
    ∙ sym (changed_items c))
    ∙ sym (fd.change (on_item (on_items (changed_at i (on_slots (along way c))))))

pub edited-same : (way : List Turn) (g c : List (Slot Node) → List (Slot Node)) (t : Tree) (v : Visit) → SlotsAreWellMade t.slots
    → Leads way (root_visit t) v
    → (SlotsAreWellMade v.slots → g (slot_list v.slots) ≡ c (slot_list v.slots)) → edited way g t ≡ edited way c t
edited-same way g c t v w e go = ap (λ z. record t { slots = slots_from z }) (along-same way g c (root_visit t) v w e go)

-- an edit that changes nothing at the table
along-stays : (way : List Turn) (g : List (Slot Node) → List (Slot Node)) (s v : Visit) → SlotsAreWellMade s.slots → Leads way s v
    → g (slot_list v.slots) ≡ slot_list v.slots → along way g (slot_list s.slots) ≡ slot_list s.slots
along-stays [] g s v w e same = subst (λ (x : Visit). g (slot_list x.slots) ≡ slot_list x.slots) (sym e) same
along-stays (into_table k ∷ way) g s v w (l, f, ss, eq, rest) same =
    let t : Visit = visit_of (to_key s.path l.name) (s.keys ++ (l ∷ [])) false f ss in
    let fd : Found k (keyed l (table f ss)) (slot_list s.slots) = found k s.slots (keyed l (table f ss)) w eq in
    fd.change (on_item (on_slots (along way g)))
    ∙ ap (λ z. fd.front ++ (keyed l (table f z) ∷ fd.back)) (ap slots_from (along-stays way g t v fd.made rest same) ∙ slots_from-list ss)
    ∙ sym fd.is
along-stays (into_element k i ∷ way) g s v w (l, e, xs, before, f, ss, after, eq, items, place, rest) same =
    let t : Visit = visit_of (to_element (to_key s.path l.name) (element_count before)) (s.keys ++ (l ∷ [])) true f ss in
    let fd : Found k (keyed l (tables e xs)) (slot_list s.slots) = found k s.slots (keyed l (tables e xs)) w eq in
    let ex : xs ≡ items_from (before ++ (table f ss ∷ after)) = sym (items_from-list xs) ∙ ap items_from items in
    let made : SlotsAreWellMade ss = item-made before (table f ss) after (subst ItemsAreWellMade ex fd.made) in
    let inner : slots_under (along way g) ss ≡ ss = ap slots_from (along-stays way g t v made rest same) ∙ slots_from-list ss in
    fd.change (on_item (on_items (changed_at i (on_slots (along way g)))))
    ∙ ap (λ z. fd.front ++ (keyed l (tables e (items_from z)) ∷ fd.back))
    (ap (changed_at i (on_slots (along way g))) items ∙ change-item before (table f ss) after i (on_slots (along way g)) place)
    ∙ ap (λ z. fd.front ++ (keyed l (tables e (items_from (before ++ (table f z ∷ after)))) ∷ fd.back)) inner
    ∙ ap (λ z. fd.front ++ (keyed l (tables e z) ∷ fd.back)) (sym ex) ∙ sym fd.is

pub edited-stays : (way : List Turn) (g : List (Slot Node) → List (Slot Node)) (t : Tree) (v : Visit) → SlotsAreWellMade t.slots
    → Leads way (root_visit t) v
    → g (slot_list v.slots) ≡ slot_list v.slots → edited way g t ≡ t
edited-stays way g t v w e same =
    ap (λ z. record t { slots = z }) (ap slots_from (along-stays way g (root_visit t) v w e same) ∙ slots_from-list t.slots)
