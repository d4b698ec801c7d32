-- An item that is shown, at the end of a table that is shown, adds its facts to the meaning.
use Rattle.std.proofs.Common.{◌≡◌, refl, sym, ◌∙◌, ap, subst, Bool, true, false, List, [], ◌∷◌, ◌++◌, append-nil, None, inl}
use Rattle.std.specs.Prelude.{◌||◌, if◌then◌else◌, not}
use Rattle.toml_edit_model.specs.HeaderOrder.{Visit, visit_of}
use Rattle.toml_edit_model.specs.Lists.{items_from, slot_list, slots_from}
use Rattle.toml_edit_model.specs.Meaning.{Fact, SameFacts, a_table, an_array, fact}
use Rattle.toml_edit_model.specs.Paths.{Path, at_element, at_key, to_element, to_key}
use Rattle.toml_edit_model.specs.Shown.{is_shown, node_facts, shown_meaning, shows, slots_facts, tables_facts}
use Rattle.toml_edit_model.specs.Slots.{Slot, keyed}
use Rattle.toml_edit_model.specs.Tree.{Items, Key, Node, Slots, SlotsAreWellMade, Tree, table, tables}
use Rattle.toml_edit_laws.specs.Locality.{Leads, Turn, along, edited, element_count, into_element, into_table, root_visit}
use Rattle.toml_edit_laws.proofs.common.Members.{Among}
use Rattle.toml_edit_laws.proofs.common.PathLaws.{front-more, front-refl, front-through, is_front}
use Rattle.toml_edit_laws.proofs.common.Tests.{if-true, or-true}
use Rattle.toml_edit_laws.proofs.locality.Along.{leads-front}
use Rattle.toml_edit_laws.proofs.locality.Slots.{Found, found, slots_from-list, slots_under}
use Rattle.toml_edit_laws.proofs.locality.Under.{apart-above}
use Rattle.toml_edit_laws.proofs.print_meaning.FactSets.{alike-same}
use Rattle.toml_edit_edit_laws.specs.Means.{IsMeant}
use Rattle.toml_edit_edit_laws.proofs.means.Along.{same-facts, sees-tree, tree-changes}
use Rattle.toml_edit_edit_laws.proofs.means.Changes.{Change, changes-cons}
use Rattle.toml_edit_edit_laws.proofs.means.Facts.{slots-append, slots-under, told-append}
use Rattle.toml_edit_edit_laws.proofs.means.Outside.{stays_at}
use Rattle.toml_edit_edit_laws.proofs.means.Parts.{Replaces, Sees, sees-element, sees-facts, sees-slot, shown-replaces, shown_in, slot-replaces, table-replaces, tables-replaces}
use Rattle.toml_edit_edit_laws.proofs.placing.Along.{element-edited, element-items, element-made, table-edited}

module _ (w : Visit) (k : Key) (n : Node) (shown : is_shown n ≡ true) where
  abbrev g : List (Slot Node) → List (Slot Node)
  g = λ es. es ++ (keyed k n ∷ [])

  abbrev us : Slots
  us = slots_under g w.slots

  abbrev place : Path
  place = to_key w.path k.name

  abbrev more : List Fact
  more = node_facts n place

  abbrev c : Change
  c = record (stays_at place) { adds = more; gone = λ f fs a m. absurd m }

  slots-are : slots_facts us w.path ≡ slots_facts w.slots w.path ++ more
  slots-are =
      slots-append false (slot_list w.slots) (keyed k n ∷ []) w.path
      ∙ ap (λ z. slots_facts z w.path ++ slots_facts (slots_from (keyed k n ∷ [])) w.path) (slots_from-list w.slots)
      ∙ ap (λ fs. slots_facts w.slots w.path ++ fs) (append-nil (if is_shown n then more else []) ∙ if-true (is_shown n) more [] shown)

  slots-show : shows us ≡ true
  slots-show =
      told-append false (slot_list w.slots) (keyed k n ∷ [])
      ∙ ap (λ b. shows (slots_from (slot_list w.slots)) || (b || false)) shown ∙ or-true (shows (slots_from (slot_list w.slots)))

  here : (always : Bool) → shown_in always false (table w.fields w.slots) ≡ true
      → Replaces c always false (table w.fields w.slots) (table w.fields us) w.path
  here always is =
      let own : Bool = not (w.fields.is_dotted || w.fields.is_implicit) in
      let alike = alike-same (slots_facts us w.path) (slots_facts w.slots w.path ++ more) slots-are in
      shown-replaces c always false (table w.fields w.slots) (table w.fields us) w.path is
      (ap (λ b. always || (own || b)) slots-show ∙ ap (λ b. always || b) (or-true own) ∙ or-true always)
      (changes-cons c (fact w.path a_table) (slots_facts w.slots w.path) (slots_facts us w.path)
      (apart-above w.path place (at_key k.name) (front-refl place)) (slots-under false w.slots w.path) (alike.0, λ f m. inl (alike.1 f m)))
      refl refl

  -- a path at or below the table's goes on to the place
  onward : (p : Path) → is_front p w.path ≡ true → is_front p place ≡ true
  onward p h = front-through p w.path place h (front-more w.path (at_key k.name ∷ []))

  way-replaces : (way : List Turn) (s : Visit) (always : Bool) → SlotsAreWellMade s.slots → Leads way s w
      → Sees w.path always false (table s.fields s.slots) s.path
      → Replaces c always false (table s.fields s.slots) (table s.fields (slots_under (along way g) s.slots)) s.path
  way-replaces [] s always made e see =
      subst (λ (z : Visit). Sees w.path always false (table z.fields z.slots) z.path
      → Replaces c always false (table z.fields z.slots) (table z.fields (slots_under g z.slots)) z.path) (sym e)
      (λ y. here always (sees-facts w.path always false (table w.fields w.slots) w.path y).0) see
  way-replaces (into_table j ∷ way) s always made (l, f, ss, eq, rest) see =
      let r : Path = to_key s.path l.name in
      let t : Visit = visit_of r (s.keys ++ (l ∷ [])) false f ss in
      let after : Slots = slots_under (along way g) ss in
      let fd : Found j (keyed l (table f ss)) (slot_list s.slots) = found j s.slots (keyed l (table f ss)) made eq in
      let at : is_front r w.path ≡ true = leads-front way t w rest in
      let old : s.slots ≡ slots_from (fd.front ++ (keyed l (table f ss) ∷ fd.back)) = sym (slots_from-list s.slots) ∙ ap slots_from fd.is in
      let y = (sees-facts w.path always false (table s.fields s.slots) s.path see).1 in
      let sees : Sees w.path false false (table f ss) r =
      sees-slot w.path false s.path l (table f ss) fd.front fd.back fd.others_front fd.others_back at y.0 y.2
      (subst (λ (z : Slots). Among y.0 (fact s.path a_table ∷ slots_facts z s.path)) old y.1) in
      subst (λ z. Replaces c always false (table s.fields z) (table s.fields (slots_under (along (into_table j ∷ way) g) s.slots)) s.path) (sym old)
      (subst (λ z. Replaces c always false (table s.fields (slots_from (fd.front ++ (keyed l (table f ss) ∷ fd.back)))) (table s.fields z) s.path)
      (sym (table-edited g way j (slot_list s.slots) l f ss fd))
      (table-replaces c always false s.path s.fields (slots_from (fd.front ++ (keyed l (table f ss) ∷ fd.back)))
      (slots_from (fd.front ++ (keyed l (table f after) ∷ fd.back))) (apart-above s.path place (at_key l.name) (onward r at))
      (front-through s.path r place (front-more s.path (at_key l.name ∷ [])) (onward r at))
      (slot-replaces c false s.path l (table f ss) (table f after) fd.front fd.back fd.others_front fd.others_back (onward r at)
      (way-replaces way t false fd.made rest sees))))
  way-replaces (into_element j i ∷ way) s always made (l, e, xs, before, f, ss, behind, eq, items, at_i, rest) see =
      let r : Path = to_key s.path l.name in
      let p : Path = to_element r (element_count before) in
      let t : Visit = visit_of p (s.keys ++ (l ∷ [])) true f ss in
      let after : Slots = slots_under (along way g) ss in
      let fd : Found j (keyed l (tables e xs)) (slot_list s.slots) = found j s.slots (keyed l (tables e xs)) made eq in
      let ys : Items = items_from (before ++ (table f after ∷ behind)) in
      let at : is_front p w.path ≡ true = leads-front way t w rest in
      let up : is_front r w.path ≡ true = front-through r p w.path (front-more r (at_element (element_count before) ∷ [])) at in
      let old : s.slots ≡ slots_from (fd.front ++ (keyed l (tables e xs) ∷ fd.back)) = sym (slots_from-list s.slots) ∙ ap slots_from fd.is in
      let y = (sees-facts w.path always false (table s.fields s.slots) s.path see).1 in
      let held : Sees w.path false false (tables e xs) r =
      sees-slot w.path false s.path l (tables e xs) fd.front fd.back fd.others_front fd.others_back up y.0 y.2
      (subst (λ (z : Slots). Among y.0 (fact s.path a_table ∷ slots_facts z s.path)) old y.1) in
      let z = (sees-facts w.path false false (tables e xs) r held).1 in
      let is : xs ≡ items_from (before ++ (table f ss ∷ behind)) = element-items xs before (table f ss) behind items in
      let sees : Sees w.path true false (table f ss) p =
      sees-element w.path false r before (table f ss) behind refl at z.0 z.2
      (subst (λ (x : Items). Among z.0 (fact r an_array ∷ tables_facts x r 0)) is z.1) in
      let array : Replaces c false false (tables e xs) (tables e ys) r =
      subst (λ x. Replaces c false false (tables e x) (tables e ys) r) (sym is)
      (tables-replaces c false r e before (table f ss) (table f after) behind (apart-above r place (at_element (element_count before)) (onward p at))
      (onward p at) refl (way-replaces way t true (element-made xs before f ss behind items fd.made) rest sees)) in
      subst (λ x. Replaces c always false (table s.fields x) (table s.fields (slots_under (along (into_element j i ∷ way) g) s.slots)) s.path) (sym old)
      (subst (λ x. Replaces c always false (table s.fields (slots_from (fd.front ++ (keyed l (tables e xs) ∷ fd.back)))) (table s.fields x) s.path)
      (sym (element-edited g way j (slot_list s.slots) l i e xs before f ss behind items at_i fd))
      (table-replaces c always false s.path s.fields (slots_from (fd.front ++ (keyed l (tables e xs) ∷ fd.back)))
      (slots_from (fd.front ++ (keyed l (tables e ys) ∷ fd.back))) (apart-above s.path place (at_key l.name) (onward r up))
      (front-through s.path r place (front-more s.path (at_key l.name ∷ [])) (onward r up))
      (slot-replaces c false s.path l (tables e xs) (tables e ys) fd.front fd.back fd.others_front fd.others_back (onward r up) array)))

  pub item-means : (t : Tree) (way : List Turn) → SlotsAreWellMade t.slots → Leads way (root_visit t) w → IsMeant t w.path
      → SameFacts (shown_meaning (edited way g t)) (shown_meaning t ++ more)
  item-means t way made leads meant =
      same-facts c (shown_meaning t) (shown_meaning (edited way g t)) (λ f e. e)
      (tree-changes c t (table t.root (slots_under (along way g) t.slots)) (way-replaces way (root_visit t) true made leads (sees-tree t w.path meant)))
