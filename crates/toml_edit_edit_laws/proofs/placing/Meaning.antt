-- What an inserted value adds to the meaning, and that a moved slot leaves it.
use Rattle.std.proofs.Common.{◌≡◌, refl, sym, ◌∙◌, ap, subst, Bool, true, false, List, [], ◌∷◌, ◌++◌, append-nil, inl, inr}
use Rattle.std.specs.Prelude.{◌||◌, ◌&&◌, not, is_some}
use Rattle.std.proofs.lemmas.List.Sorted.{IsPermutation-insert}
use Rattle.toml_edit_model.specs.Mode.{Mode}
use Rattle.toml_edit_model.specs.Text.{is_empty}
use Rattle.toml_edit_model.specs.Paths.{Path, Step, at_element, at_key, to_key, to_element}
use Rattle.toml_edit_model.specs.Meaning.{Fact, fact, a_table, SameFacts}
use Rattle.toml_edit_model.specs.Tree.{Node, table, tables, Items, Slots, SlotsAreWellMade, Tree}
use Rattle.toml_edit_model.specs.HeaderOrder.{Visit, visit_of, is_root}
use Rattle.toml_edit_model.specs.Print.{lines_of}
use Rattle.toml_edit_model.specs.Fits.{has_own_prefix}
use Rattle.toml_edit_model.specs.Shown.{shows, inside_facts, slots_facts, shown_meaning}
use Rattle.toml_edit_model.specs.Slots.{Slot, keyed}
use Rattle.toml_edit_model.specs.Lists.{slot_list, slots_from, items_from}
use Rattle.toml_edit_model.specs.Rearranging.{inserted_slot, moved_slot}
use Rattle.toml_edit_laws.specs.Locality.{Turn, into_table, into_element, Leads, root_visit, along, edited, element_count, has_block}
use Rattle.toml_edit_laws.proofs.common.Lists.{not_empty-last}
use Rattle.toml_edit_laws.proofs.common.Members.{Among, among-cases, among-left, among-right}
use Rattle.toml_edit_laws.proofs.common.PathLaws.{is_front, front-more, front-refl, front-through}
use Rattle.toml_edit_laws.proofs.common.Tests.{and_right, true-false}
use Rattle.toml_edit_laws.proofs.locality.Along.{leads-above}
use Rattle.toml_edit_laws.proofs.locality.Blocks.{IsSteadyTable}
use Rattle.toml_edit_laws.proofs.locality.Slots.{slots_under, Found, found, slots_from-list}
use Rattle.toml_edit_laws.proofs.locality.Sound.{Steady, steady-parts}
use Rattle.toml_edit_laws.proofs.locality.Under.{apart-above}
use Rattle.toml_edit_laws.proofs.print_meaning.FactSets.{Alike, alike-then}
use Rattle.toml_edit_edit_laws.specs.Placing.{InsertedMeans, MovedMeans}
use Rattle.toml_edit_edit_laws.proofs.means.Changes.{Change, Changes, changes-cons}
use Rattle.toml_edit_edit_laws.proofs.means.Facts.{slots-under}
use Rattle.toml_edit_edit_laws.proofs.means.Parts.{shown_in, Replaces, shown-replaces, table-replaces, slot-replaces, tables-replaces}
use Rattle.toml_edit_edit_laws.proofs.means.Along.{tree-changes, same-facts}
use Rattle.toml_edit_edit_laws.proofs.means.Keys.{moved-same}
use Rattle.toml_edit_edit_laws.proofs.means.Outside.{plain-facts, stays_at}
use Rattle.toml_edit_edit_laws.proofs.means.Reordering.{AreSame, permuted, same-slots}
use Rattle.toml_edit_edit_laws.proofs.placing.Along.{table-edited, element-edited, element-items, element-made}
use Rattle.toml_edit_edit_laws.proofs.placing.InBlock.{steady-table}

-- ---- a table at the end of a way

-- the root stands always, and so does an element
abbrev Stands : Bool → Visit → Type 0
Stands always s = always ≡ false → (is_root s ≡ false) × (s.is_element ≡ false)

clash : true ≡ false → ⊥
clash e = cc

module _ (c : Change) (g : List (Slot Node) → List (Slot Node)) (v : Visit) (x : Step) (above : is_front (v.path ++ (x ∷ [])) c.place ≡ true)
    (base : (always : Bool) → SlotsAreWellMade v.slots → Stands always v
    → Replaces c always false (table v.fields v.slots) (table v.fields (slots_under g v.slots)) v.path) where
  -- what is changed in it changes the tables above it
  way-replaces : (way : List Turn) (s : Visit) (always : Bool) → SlotsAreWellMade s.slots → Leads way s v → Stands always s
      → Replaces c always false (table s.fields s.slots) (table s.fields (slots_under (along way g) s.slots)) s.path
  way-replaces [] s always w e st =
      subst (λ (z : Visit). SlotsAreWellMade z.slots → Stands always z
      → Replaces c always false (table z.fields z.slots) (table z.fields (slots_under g z.slots)) z.path) (sym e) (base always) w st
  way-replaces (into_table k ∷ way) s always w (l, f, ss, eq, rest) st =
      let r : Path = to_key s.path l.name in
      let t : Visit = visit_of r (s.keys ++ (l ∷ [])) false f ss in
      let us : Slots = slots_under (along way g) ss in
      let fd : Found k (keyed l (table f ss)) (slot_list s.slots) = found k s.slots (keyed l (table f ss)) w eq in
      let here : is_front r c.place ≡ true = leads-above c.place v x above way t rest in
      subst (λ z. Replaces c always false (table s.fields z) (table s.fields (slots_under (along (into_table k ∷ way) g) s.slots)) s.path)
      (sym (sym (slots_from-list s.slots) ∙ ap slots_from fd.is))
      (subst (λ z. Replaces c always false (table s.fields (slots_from (fd.front ++ (keyed l (table f ss) ∷ fd.back)))) (table s.fields z) s.path)
      (sym (table-edited g way k (slot_list s.slots) l f ss fd))
      (table-replaces c always false s.path s.fields (slots_from (fd.front ++ (keyed l (table f ss) ∷ fd.back)))
      (slots_from (fd.front ++ (keyed l (table f us) ∷ fd.back))) (apart-above s.path c.place (at_key l.name) here)
      (front-through s.path r c.place (front-more s.path (at_key l.name ∷ [])) here)
      (slot-replaces c false s.path l (table f ss) (table f us) fd.front fd.back fd.others_front fd.others_back here
      (way-replaces way t false fd.made rest (λ e. (not_empty-last s.keys l, refl))))))
  way-replaces (into_element k i ∷ way) s always w (l, e, xs, before, f, ss, after, eq, items, place, rest) st =
      let r : Path = to_key s.path l.name in
      let p : Path = to_element r (element_count before) in
      let t : Visit = visit_of p (s.keys ++ (l ∷ [])) true f ss in
      let us : Slots = slots_under (along way g) ss in
      let fd : Found k (keyed l (tables e xs)) (slot_list s.slots) = found k s.slots (keyed l (tables e xs)) w eq in
      let ys : Items = items_from (before ++ (table f us ∷ after)) in
      let at : is_front p c.place ≡ true = leads-above c.place v x above way t rest in
      let here : is_front r c.place ≡ true = front-through r p c.place (front-more r (at_element (element_count before) ∷ [])) at in
      let array : Replaces c false false (tables e xs) (tables e ys) r =
      subst (λ z. Replaces c false false (tables e z) (tables e ys) r) (sym (element-items xs before (table f ss) after items))
      (tables-replaces c false r e before (table f ss) (table f us) after (apart-above r c.place (at_element (element_count before)) at) at refl
      (way-replaces way t true (element-made xs before f ss after items fd.made) rest (λ z. absurd (clash z)))) in
      subst (λ z. Replaces c always false (table s.fields z) (table s.fields (slots_under (along (into_element k i ∷ way) g) s.slots)) s.path)
      (sym (sym (slots_from-list s.slots) ∙ ap slots_from fd.is))
      (subst (λ z. Replaces c always false (table s.fields (slots_from (fd.front ++ (keyed l (tables e xs) ∷ fd.back)))) (table s.fields z) s.path)
      (sym (element-edited g way k (slot_list s.slots) l i e xs before f ss after items place fd))
      (table-replaces c always false s.path s.fields (slots_from (fd.front ++ (keyed l (tables e xs) ∷ fd.back)))
      (slots_from (fd.front ++ (keyed l (tables e ys) ∷ fd.back))) (apart-above s.path c.place (at_key l.name) here)
      (front-through s.path r c.place (front-more s.path (at_key l.name ∷ [])) here)
      (slot-replaces c false s.path l (tables e xs) (tables e ys) fd.front fd.back fd.others_front fd.others_back here array)))

  way-changes : (t : Tree) (way : List Turn) → SlotsAreWellMade t.slots → Leads way (root_visit t) v
      → Changes c (shown_meaning t) (shown_meaning (edited way g t))
  way-changes t way made leads =
      tree-changes c t (table t.root (slots_under (along way g) t.slots)) (way-replaces way (root_visit t) true made leads (λ e. absurd (clash e)))

-- ---- a value

module _ (mode : Mode) where
  -- a table that has a header of its own is shown whatever its slots are
  own-header : (v : Visit) → IsSteadyTable mode v → has_block mode v ≡ true → is_root v ≡ false → v.is_element ≡ false
      → not (v.fields.is_dotted || v.fields.is_implicit) ≡ true
  own-header v s h r e =
      by_tests (is_root v) v.fields.is_dotted v.is_element v.fields.is_implicit (is_empty (lines_of mode v))
      (is_some v.fields.position && has_own_prefix v.fields.decor.prefix) s h r e
    where
      by_tests : (r d e i l x : Bool) → ((d || not (not r && (e || not (i && l)))) || (x && (e || not i))) ≡ true
          → (r || (not d && (not r && (e || not (i && l))))) ≡ true → r ≡ false → e ≡ false → not (d || i) ≡ true
      by_tests true d e i l x s h p q = absurd cc
      by_tests false d true i l x s h p q = absurd cc
      by_tests false true false i l x s h p q = absurd cc
      by_tests false false false false l x s h p q = refl
      by_tests false false false true true x s h p q = absurd cc
      by_tests false false false true false x s h p q = true-false false (and_right x false s) refl

  pub inserted_means : InsertedMeans mode
  inserted_means t way v i k n made steady leads is_new plain has =
      let st : Steady mode t = steady-parts mode t steady in
      let g : List (Slot Node) → List (Slot Node) = inserted_slot i (keyed k n) in
      let us : Slots = slots_under g v.slots in
      let p : Path = to_key v.path k.name in
      let more : List Fact = inside_facts n p in
      let c : Change = record (stays_at p) { adds = more; gone = λ f fs a m. absurd m } in
      let stands : (always : Bool) (ss : Slots) → Stands always v → shown_in always false (table v.fields ss) ≡ true =
      λ always ss s. by_test always ss (λ e. own-header v (steady-table mode t way v made st leads) has (s e).0 (s e).1) in
      let same : AreSame (slots_from (keyed k n ∷ slot_list v.slots)) us =
      permuted (keyed k n ∷ slot_list v.slots) (g (slot_list v.slots)) (IsPermutation-insert (slot_list v.slots) i (keyed k n)) in
      let old : List Fact = slots_facts v.slots v.path in
      let alike : Alike (slots_facts us v.path) (old ++ more) =
      alike-then (slots_facts us v.path) (more ++ old) (old ++ more)
      (subst (λ z. Alike (slots_facts us v.path) z)
      (ap (λ z. z ++ slots_facts (slots_from (slot_list v.slots)) v.path) (plain-facts false k n v.path plain)
      ∙ ap (λ z. more ++ slots_facts z v.path) (slots_from-list v.slots))
      ((same.facts false v.path).1, (same.facts false v.path).0))
      (swapped more old) in
      same-facts c (shown_meaning t) (shown_meaning (edited way g t)) (λ f e. e)
      (way-changes c g v (at_key k.name) (front-refl p)
      (λ always w s.
      shown-replaces c always false (table v.fields v.slots) (table v.fields us) v.path (stands always v.slots s) (stands always us s)
      (changes-cons c (fact v.path a_table) old (slots_facts us v.path) (apart-above v.path p (at_key k.name) (front-refl p))
      (slots-under false v.slots v.path) (alike.0, λ f m. inl (alike.1 f m)))
      refl refl)
      t way made leads)
    where
      swapped : (xs ys : List Fact) → Alike (xs ++ ys) (ys ++ xs)
      swapped xs ys = (turned xs ys, turned ys xs)
        where
          turned : (xs ys : List Fact) (f : Fact) → Among f (xs ++ ys) → Among f (ys ++ xs)
          turned xs ys f m = elim (among-cases f xs ys m) [ inl a ↦ among-right f ys xs a | inr a ↦ among-left f ys xs a ]

      by_test : (always : Bool) (ss : Slots) → (always ≡ false → not (v.fields.is_dotted || v.fields.is_implicit) ≡ true)
          → (always || (not (v.fields.is_dotted || v.fields.is_implicit) || shows ss)) ≡ true
      by_test true ss own = refl
      by_test false ss own = ap (λ b. b || shows ss) (own refl)

pub moved_means : MovedMeans
moved_means t way v k i s made leads is_there =
    let p : Path = to_key v.path k in
    let g : List (Slot Node) → List (Slot Node) = moved_slot k i in
    subst (SameFacts (shown_meaning (edited way g t))) (append-nil (shown_meaning t))
    (same-facts (stays_at p) (shown_meaning t) (shown_meaning (edited way g t)) (λ f e. e)
    (way-changes (stays_at p) g v (at_key k) (front-refl p)
    (λ always w st.
    table-replaces (stays_at p) always false v.path v.fields v.slots (slots_under g v.slots) (apart-above v.path p (at_key k) (front-refl p))
    (front-more v.path (at_key k ∷ []))
    (same-slots v.slots (slots_under g v.slots) p false v.path (moved-same k i s v.slots w is_there)))
    t way made leads))
