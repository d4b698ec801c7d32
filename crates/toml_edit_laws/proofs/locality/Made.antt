-- An edited tree is as its types see to: distinct keys, true spellings.
use Rattle.std.proofs.Common.{◌≡◌, refl, sym, ◌∙◌, ap, subst, true, false, List, [], ◌∷◌, ◌++◌}
use Rattle.std.specs.Prelude.{◌||◌}
use Rattle.toml_edit_model.specs.Text.{Text, same_text}
use Rattle.toml_edit_model.specs.Paths.{to_key, to_element}
use Rattle.toml_edit_model.specs.Spelling.{SpellsKey}
use Rattle.toml_edit_model.specs.Tree.{Key, Node, table, tables, Slots, has_key, HasTrueSpelling, IsWellMade, ItemsAreWellMade}
use Rattle.toml_edit_model.specs.Tree.{SlotsAreWellMade}
use Rattle.toml_edit_model.specs.HeaderOrder.{Visit, visit_of}
use Rattle.toml_edit_model.specs.Slots.{Slot, keyed, on_item, changed_at, changed, without}
use Rattle.toml_edit_model.specs.Lists.{slot_list, slots_from, items_from, on_slots, on_items}
use Rattle.toml_edit_model.specs.ArrayCalls.{removed_at}
use Rattle.toml_edit_laws.proofs.locality.Slots.{slots_under, items_under}
use Rattle.toml_edit_laws.specs.Locality.{Turn, into_table, into_element, Leads, root_visit, along, element_count, ReplacedStaysMade}
use Rattle.toml_edit_laws.specs.Locality.{AddedStaysMade, RemovedStaysMade, RemovedElementStaysMade}
use Rattle.toml_edit_laws.proofs.common.Tests.{or-left, or-right, same_text-swap, or-both}
use Rattle.toml_edit_laws.proofs.locality.Slots.{HaveOtherKeys, Found, found, none-there, slots_from-list, items_from-list, change-item}
use Rattle.toml_edit_laws.proofs.locality.Slots.{remove-item}
use Rattle.toml_edit_laws.proofs.locality.Elements.{item-made}

-- ---- slots

same-keys : (q : Text) (xs ys : List (Slot Node)) (y z : Slot Node) → z.key.name ≡ y.key.name → has_key q (slots_from (xs ++ (z ∷ ys)))
    ≡ has_key q (slots_from (xs ++ (y ∷ ys)))
same-keys q [] ys y z e = ap (λ x. same_text q x || has_key q (slots_from ys)) e
same-keys q (x ∷ xs) ys y z e = ap (λ b. same_text q x.key.name || b) (same-keys q xs ys y z e)

fewer-keys : (q : Text) (xs ys : List (Slot Node)) (y : Slot Node) → has_key q (slots_from (xs ++ (y ∷ ys))) ≡ false
    → has_key q (slots_from (xs ++ ys)) ≡ false
fewer-keys q [] ys y h = or-right (same_text q y.key.name) (has_key q (slots_from ys)) h
fewer-keys q (x ∷ xs) ys y h =
    or-both (same_text q x.key.name) (has_key q (slots_from (xs ++ ys)))
    (or-left (same_text q x.key.name) (has_key q (slots_from (xs ++ (y ∷ ys)))) h)
    (fewer-keys q xs ys y (or-right (same_text q x.key.name) (has_key q (slots_from (xs ++ (y ∷ ys)))) h))

more-keys : (q : Text) (xs : List (Slot Node)) (z : Slot Node) → has_key q (slots_from xs) ≡ false → same_text q z.key.name ≡ false
    → has_key q (slots_from (xs ++ (z ∷ []))) ≡ false
more-keys q [] z h d = or-both (same_text q z.key.name) false d refl
more-keys q (x ∷ xs) z h d =
    or-both (same_text q x.key.name) (has_key q (slots_from (xs ++ (z ∷ []))))
    (or-left (same_text q x.key.name) (has_key q (slots_from xs)) h)
    (more-keys q xs z (or-right (same_text q x.key.name) (has_key q (slots_from xs)) h) d)

made-swap : (xs ys : List (Slot Node)) (y z : Slot Node) → z.key.name ≡ y.key.name → HasTrueSpelling (SpellsKey z.key.name) z.key.spelling
    → IsWellMade z.item
    → SlotsAreWellMade (slots_from (xs ++ (y ∷ ys))) → SlotsAreWellMade (slots_from (xs ++ (z ∷ ys)))
made-swap [] ys y z e s m h = (subst (λ x. has_key x (slots_from ys) ≡ false) (sym e) h.0, s, m, h.3)
made-swap (x ∷ xs) ys y z e s m h = (same-keys x.key.name xs ys y z e ∙ h.0, h.1, h.2, made-swap xs ys y z e s m h.3)

pub made-node : (xs ys : List (Slot Node)) (k : Key) (n m : Node) → IsWellMade m → SlotsAreWellMade (slots_from (xs ++ (keyed k n ∷ ys)))
    → SlotsAreWellMade (slots_from (xs ++ (keyed k m ∷ ys)))
made-node [] ys k n m w h = (h.0, h.1, w, h.3)
made-node (x ∷ xs) ys k n m w h = (same-keys x.key.name xs ys (keyed k n) (keyed k m) refl ∙ h.0, h.1, h.2, made-node xs ys k n m w h.3)

pub made-drop : (xs ys : List (Slot Node)) (y : Slot Node) → SlotsAreWellMade (slots_from (xs ++ (y ∷ ys)))
    → SlotsAreWellMade (slots_from (xs ++ ys))
made-drop [] ys y h = h.3
made-drop (x ∷ xs) ys y h = (fewer-keys x.key.name xs ys y h.0, h.1, h.2, made-drop xs ys y h.3)

pub made-last : (xs : List (Slot Node)) (z : Slot Node) → HaveOtherKeys z.key.name xs
    → HasTrueSpelling (SpellsKey z.key.name) z.key.spelling → IsWellMade z.item
    → SlotsAreWellMade (slots_from xs) → SlotsAreWellMade (slots_from (xs ++ (z ∷ [])))
made-last [] z o s m h = (refl, s, m, tt)
made-last (x ∷ xs) z o s m h =
    (more-keys x.key.name xs z h.0 (same_text-swap x.key.name z.key.name ∙ o.0), h.1, h.2, made-last xs z o.1 s m h.3)

-- ---- items

pub items-swap : (before after : List Node) (n m : Node) → IsWellMade m → ItemsAreWellMade (items_from (before ++ (n ∷ after)))
    → ItemsAreWellMade (items_from (before ++ (m ∷ after)))
items-swap [] after n m w h = (w, h.1)
items-swap (x ∷ before) after n m w h = (h.0, items-swap before after n m w h.1)

pub items-drop : (before after : List Node) (n : Node) → ItemsAreWellMade (items_from (before ++ (n ∷ after)))
    → ItemsAreWellMade (items_from (before ++ after))
items-drop [] after n h = h.1
items-drop (x ∷ before) after n h = (h.0, items-drop before after n h.1)

-- ---- along a way

-- the slots around that of a key
pub split-made : (k : Text) (s : Slot Node) (ss : Slots) → (fd : Found k s (slot_list ss)) → SlotsAreWellMade ss
    → SlotsAreWellMade (slots_from (fd.front ++ (s ∷ fd.back)))
split-made k s ss fd w = subst SlotsAreWellMade (sym (slots_from-list ss) ∙ ap slots_from fd.is) w

pub along-made : (way : List Turn) (g : List (Slot Node) → List (Slot Node)) (s v : Visit) → SlotsAreWellMade s.slots → Leads way s v
    → (SlotsAreWellMade v.slots → SlotsAreWellMade (slots_under g v.slots)) → SlotsAreWellMade (slots_under (along way g) s.slots)
along-made [] g s v w e go = subst (λ (x : Visit). SlotsAreWellMade x.slots → SlotsAreWellMade (slots_under g x.slots)) (sym e) go w
along-made (into_table k ∷ way) g s v w (l, f, ss, eq, rest) go =
    let t : Visit = visit_of (to_key s.path l.name) (s.keys ++ (l ∷ [])) false f ss in
    let us : Slots = slots_under (along way g) ss in
    let fd : Found k (keyed l (table f ss)) (slot_list s.slots) = found k s.slots (keyed l (table f ss)) w eq in
    let is_new : slots_under (along (into_table k ∷ way) g) s.slots ≡ slots_from (fd.front ++ (keyed l (table f us) ∷ fd.back)) =
    ap slots_from (fd.change (on_item (on_slots (along way g)))) in
    subst SlotsAreWellMade (sym is_new)
    (made-node fd.front fd.back l (table f ss) (table f us) (along-made way g t v fd.made rest go)
    (split-made k (keyed l (table f ss)) s.slots fd w))
along-made (into_element k i ∷ way) g s v w (l, e, xs, before, f, ss, after, eq, items, place, rest) go =
    let t : Visit = visit_of (to_element (to_key s.path l.name) (element_count before)) (s.keys ++ (l ∷ [])) true f ss in
    let us : Slots = slots_under (along way g) ss in
    let fd : Found k (keyed l (tables e xs)) (slot_list s.slots) = found k s.slots (keyed l (tables e xs)) w eq in
    let ex : xs ≡ items_from (before ++ (table f ss ∷ after)) = sym (items_from-list xs) ∙ ap items_from items in
    let inside : ItemsAreWellMade (items_from (before ++ (table f ss ∷ after))) = subst ItemsAreWellMade ex fd.made in
    let other : items_under (changed_at i (on_slots (along way g))) xs ≡ items_from (before ++ (table f us ∷ after)) =
    ap (λ z. items_from (changed_at i (on_slots (along way g)) z)) items
    ∙ ap items_from (change-item before (table f ss) after i (on_slots (along way g)) place) in
    let is_new : slots_under (along (into_element k i ∷ way) g) s.slots
    ≡ slots_from (fd.front ++ ((keyed l (tables e (items_from (before ++ (table f us ∷ after))))) ∷ fd.back)) =
    ap slots_from (fd.change (on_item (on_items (changed_at i (on_slots (along way g))))))
    ∙ ap (λ z. slots_from (fd.front ++ (keyed l (tables e z) ∷ fd.back))) other in
    subst SlotsAreWellMade (sym is_new)
    (made-node fd.front fd.back l (tables e xs) (tables e (items_from (before ++ (table f us ∷ after))))
    (items-swap before after (table f ss) (table f us) (along-made way g t v (item-made before (table f ss) after inside) rest go) inside)
    (split-made k (keyed l (tables e xs)) s.slots fd w))

-- ---- the edits

pub replaced_stays_made : ReplacedStaysMade
replaced_stays_made t way v k f l old n made leads is_there name new =
    along-made way (changed k (λ s. (keyed (f s.key) n))) (root_visit t) v made leads
    (λ w.
    let fd : Found k (keyed l old) (slot_list v.slots) = found k v.slots (keyed l old) w is_there in
    subst SlotsAreWellMade (sym (ap slots_from (fd.change (λ s. (keyed (f s.key) n)))))
    (made-swap fd.front fd.back (keyed l old) (keyed (f l) n) name new.0 new.1 (split-made k (keyed l old) v.slots fd w)))

pub added_stays_made : AddedStaysMade
added_stays_made t way v k n made leads is_new new =
    along-made way (λ ss. ss ++ (keyed k n ∷ [])) (root_visit t) v made leads
    (λ w. made-last (slot_list v.slots) (keyed k n) (none-there k.name (slot_list v.slots) is_new) new.0 new.1
    (subst SlotsAreWellMade (sym (slots_from-list v.slots)) w))

pub removed_stays_made : RemovedStaysMade
removed_stays_made t way v k s made leads is_there =
    along-made way (without k) (root_visit t) v made leads
    (λ w.
    let fd : Found k s (slot_list v.slots) = found k v.slots s w is_there in
    subst SlotsAreWellMade (sym (ap slots_from fd.remove)) (made-drop fd.front fd.back s (split-made k s v.slots fd w)))

pub removed_element_stays_made : RemovedElementStaysMade
removed_element_stays_made t way v w k i made leads (l, e, xs, before, f, ss, after, is_there, items, place, last) =
    let g : List (Slot Node) → List (Slot Node) = changed k (on_item (on_items (removed_at i))) in
    along-made way g (root_visit t) v made leads
    (λ d.
    let fd : Found k (keyed l (tables e xs)) (slot_list v.slots) = found k v.slots (keyed l (tables e xs)) d is_there in
    let ex : xs ≡ items_from (before ++ (table f ss ∷ after)) = sym (items_from-list xs) ∙ ap items_from items in
    let other : items_under (removed_at i) xs ≡ items_from (before ++ after) =
    ap (λ z. items_from (removed_at i z)) items ∙ ap items_from (remove-item before (table f ss) after i place) in
    let is_new : slots_under g v.slots ≡ slots_from (fd.front ++ (keyed l (tables e (items_from (before ++ after))) ∷ fd.back)) =
    ap slots_from (fd.change (on_item (on_items (removed_at i))))
    ∙ ap (λ z. slots_from (fd.front ++ (keyed l (tables e z) ∷ fd.back))) other in
    subst SlotsAreWellMade (sym is_new)
    (made-node fd.front fd.back l (tables e xs) (tables e (items_from (before ++ after)))
    (items-drop before after (table f ss) (subst ItemsAreWellMade ex fd.made))
    (split-made k (keyed l (tables e xs)) v.slots fd d)))
