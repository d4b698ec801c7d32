-- The ways from the root lead to the tables that the walk enters, and to no others.
use Rattle.std.proofs.Common.{◌≡◌, refl, sym, ◌∙◌, ap, subst, ℕ, suc, ◌+◌, arith, true, false, List, [], ◌∷◌, ◌++◌, append_assoc, length}
use Rattle.std.proofs.Common.{Some}
use Rattle.std.specs.List.{AllByRecursion}
use Rattle.toml_edit_model.specs.Text.{Text, same_text}
use Rattle.toml_edit_model.specs.Paths.{Path, to_key, to_element}
use Rattle.toml_edit_model.specs.Tree.{Key, Extent, TableFields, Node, nothing, leaf, list, inline, table, tables, Items, no_items, item}
use Rattle.toml_edit_model.specs.Tree.{Slots, no_slots, slot, IsWellMade, ItemsAreWellMade, SlotsAreWellMade}
use Rattle.toml_edit_model.specs.HeaderOrder.{Visit, visit_of, node_walk, items_walk, slots_walk}
use Rattle.toml_edit_model.specs.Slots.{Slot, keyed, lookup_slot}
use Rattle.toml_edit_model.specs.Lists.{slot_list, slots_from, item_list, items_from}
use Rattle.toml_edit_model.specs.Shown.{is_table_node}
use Rattle.toml_edit_laws.specs.Locality.{Turn, into_table, into_element, Leads, root_visit, element_count, Reached, Entered}
use Rattle.toml_edit_laws.proofs.common.Tests.{if-true, if-false, same_text-refl, same_text-swap}
use Rattle.toml_edit_laws.proofs.locality.Slots.{HaveOtherKeys, other-keys, Found, found, slots_from-list, items_from-list, walk-append}
use Rattle.toml_edit_laws.proofs.locality.Elements.{counted, counted-more, items-append, item-made}
use Rattle.toml_edit_laws.proofs.common.Each.{all-append, all-map}

-- ---- each table is reached

abbrev IsFound : Slots → Slot Node → Type 0
IsFound ss x = lookup_slot x.key.name (slot_list ss) ≡ Some x

finds-all : (ss : Slots) → SlotsAreWellMade ss → AllByRecursion (IsFound ss) (slot_list ss)
finds-all no_slots w = tt
finds-all (slot k n ss) w = (
  if-true (same_text k.name k.name) (Some (keyed k n)) (lookup_slot k.name (slot_list ss)) (same_text-refl k.name),
  behind (slot_list ss) (other-keys k.name ss w.0) (finds-all ss w.3),
)
  where
    behind : (xs : List (Slot Node)) → HaveOtherKeys k.name xs → AllByRecursion (IsFound ss) xs → AllByRecursion (IsFound (slot k n ss)) xs
    behind [] o h = tt
    behind (x ∷ xs) o h = (
      if-false (same_text x.key.name k.name) (Some (keyed k n)) (lookup_slot x.key.name (slot_list ss)) (same_text-swap x.key.name k.name
          ∙ o.0) ∙ h.0,
      behind xs o.1 h.1,
    )

abbrev IsReached : Visit → Visit → Type 0
IsReached s v = (way : List Turn) × Leads way s v

count-next : (before : List Node) (f : TableFields) (ss : Slots) (n : ℕ) → n ≡ element_count before → suc n
    ≡ element_count (before ++ (table f ss ∷ []))
count-next [] f ss n e = ap suc e
count-next (table g us ∷ before) f ss n e =
    let ih : suc (element_count before) ≡ element_count (before ++ (table f ss ∷ [])) =
    count-next before f ss (element_count before) refl in
    ap suc e ∙ ap suc ih
count-next (tables x ys ∷ before) f ss n e = count-next before f ss n e
count-next (leaf s r d ∷ before) f ss n e = count-next before f ss n e
count-next (list g ys ∷ before) f ss n e = count-next before f ss n e
count-next (inline g us ∷ before) f ss n e = count-next before f ss n e
count-next (nothing ∷ before) f ss n e = count-next before f ss n e

count-other : (before : List Node) (m : Node) (n : ℕ) → is_table_node m ≡ false → n ≡ element_count before → n
    ≡ element_count (before ++ (m ∷ []))
count-other before m n d e = e ∙ same before
  where
    same : (before : List Node) → element_count before ≡ element_count (before ++ (m ∷ []))
    same [] = sym (ap length (if-false (is_table_node m) (m ∷ []) [] d))
    same (table g us ∷ before) = ap suc (same before)
    same (tables x ys ∷ before) = same before
    same (leaf s r d ∷ before) = same before
    same (list g ys ∷ before) = same before
    same (inline g us ∷ before) = same before
    same (nothing ∷ before) = same before

mutual
  reach-node : (n : Node) (s : Visit) (k : Key) → IsWellMade n → lookup_slot k.name (slot_list s.slots) ≡ Some (keyed k n)
      → AllByRecursion (IsReached s) (node_walk n (to_key s.path k.name) (s.keys ++ (k ∷ [])) false)
  reach-node (table f ss) s k w e =
      let t : Visit = visit_of (to_key s.path k.name) (s.keys ++ (k ∷ [])) false f ss in (
        (into_table k.name ∷ [], (k, f, ss, e, refl)),
        all-map (IsReached t) (IsReached s) (slots_walk ss t.path t.keys) (λ v r. (into_table k.name ∷ r.0, (k, f, ss, e, r.1)))
            (reach-slots ss t (finds-all ss w) w),
      )
  reach-node (tables x xs) s k w e = reach-items xs s k x xs [] 0 w e refl refl
  reach-node (leaf a r d) s k w e = tt
  reach-node (list f xs) s k w e = tt
  reach-node (inline f ss) s k w e = tt
  reach-node nothing s k w e = tt

  reach-items : (rest : Items) (s : Visit) (k : Key) (x : Extent) (xs : Items) (before : List Node) (n : ℕ) → ItemsAreWellMade rest
      → lookup_slot k.name (slot_list s.slots) ≡ Some (keyed k (tables x xs)) → item_list xs ≡ before ++ item_list rest → n
      ≡ element_count before
      → AllByRecursion (IsReached s) (items_walk rest (to_key s.path k.name) (s.keys ++ (k ∷ [])) n)
  reach-items no_items s k x xs before n w e i c = tt
  reach-items (item (table f ss) rest) s k x xs before n w e i c =
      let r : Path = to_key s.path k.name in
      let ks : List Key = s.keys ++ (k ∷ []) in
      let t : Visit = visit_of (to_element r n) ks true f ss in
      let same : visit_of (to_element r (element_count before)) ks true f ss ≡ t =
      ap (λ z. visit_of (to_element r z) ks true f ss) (sym c) in
      let onward : (v : Visit) → IsReached t v → IsReached s v =
      λ v d. (
        into_element k.name (length before) ∷ d.0,
        (k, x, xs, before, f, ss, item_list rest, e, i, refl, subst (λ (z : Visit). Leads d.0 z v) (sym same) d.1),
      ) in
      all-append (IsReached s) (t ∷ slots_walk ss t.path t.keys) (items_walk rest r ks (suc n)) (
        onward t ([], refl),
        all-map (IsReached t) (IsReached s) (slots_walk ss t.path t.keys) onward
            (reach-slots ss t (finds-all ss w.0) w.0),
      )
      (reach-items rest s k x xs (before ++ (table f ss ∷ [])) (suc n) w.1 e (i
      ∙ sym (append_assoc before (table f ss ∷ []) (item_list rest))) (count-next before f ss n c))
  reach-items (item (tables y ys) rest) s k x xs before n w e i c =
      reach-items rest s k x xs (before ++ (tables y ys ∷ [])) n w.1 e (i
      ∙ sym (append_assoc before (tables y ys ∷ []) (item_list rest))) (count-other before (tables y ys) n refl c)
  reach-items (item (leaf a r d) rest) s k x xs before n w e i c =
      reach-items rest s k x xs (before ++ (leaf a r d ∷ [])) n w.1 e (i
      ∙ sym (append_assoc before (leaf a r d ∷ []) (item_list rest))) (count-other before (leaf a r d) n refl c)
  reach-items (item (list f ys) rest) s k x xs before n w e i c =
      reach-items rest s k x xs (before ++ (list f ys ∷ [])) n w.1 e (i
      ∙ sym (append_assoc before (list f ys ∷ []) (item_list rest))) (count-other before (list f ys) n refl c)
  reach-items (item (inline f ss) rest) s k x xs before n w e i c =
      reach-items rest s k x xs (before ++ (inline f ss ∷ [])) n w.1 e (i
      ∙ sym (append_assoc before (inline f ss ∷ []) (item_list rest))) (count-other before (inline f ss) n refl c)
  reach-items (item nothing rest) s k x xs before n w e i c =
      reach-items rest s k x xs (before ++ (nothing ∷ [])) n w.1 e (i
      ∙ sym (append_assoc before (nothing ∷ []) (item_list rest))) (count-other before nothing n refl c)

  reach-slots : (ss : Slots) (s : Visit) → AllByRecursion (IsFound s.slots) (slot_list ss) → SlotsAreWellMade ss
      → AllByRecursion (IsReached s) (slots_walk ss s.path s.keys)
  reach-slots no_slots s h w = tt
  reach-slots (slot k n ss) s h w =
      all-append (IsReached s) (node_walk n (to_key s.path k.name) (s.keys ++ (k ∷ [])) false) (slots_walk ss s.path s.keys)
      (reach-node n s k w.2 h.0) (reach-slots ss s h.1 w.3)

pub reached : Reached
reached t w = (([], refl), reach-slots t.slots (root_visit t) (finds-all t.slots w) w)

-- ---- and nothing else

abbrev Stands : List Visit → Visit → Type 0
Stands vs v = (before : List Visit) × (after : List Visit) × (vs ≡ before ++ (v ∷ after))

stands-within : (xs ys zs : List Visit) (v : Visit) → Stands ys v → Stands (xs ++ (ys ++ zs)) v
stands-within xs ys zs v (b, a, e) = (xs ++ b, a ++ zs, ap (λ z. xs ++ (z ++ zs)) e ∙ regroup)
  where
    regroup : xs ++ ((b ++ (v ∷ a)) ++ zs) ≡ (xs ++ b) ++ (v ∷ (a ++ zs))
    regroup = simp append_assoc

stands-next : (x : Visit) (ys : List Visit) (v : Visit) → Stands ys v → Stands (x ∷ ys) v
stands-next x ys v (b, a, e) = (x ∷ b, a, ap (λ z. x ∷ z) e)

-- what stands below a slot stands below its table
stands-slot : (k : Text) (x : Slot Node) (s v : Visit) → Found k x (slot_list s.slots)
    → Stands (node_walk x.item (to_key s.path x.key.name) (s.keys ++ (x.key ∷ [])) false) v → Stands (slots_walk s.slots s.path s.keys) v
stands-slot k x s v fd h =
    let old : s.slots ≡ slots_from (fd.front ++ (x ∷ fd.back)) = sym (slots_from-list s.slots) ∙ ap slots_from fd.is in
    subst (λ z. Stands z v) (sym (ap (λ z. slots_walk z s.path s.keys) old ∙ walk-append fd.front (x ∷ fd.back) s.path s.keys))
    (stands-within (slots_walk (slots_from fd.front) s.path s.keys) (node_walk x.item (to_key s.path x.key.name) (s.keys
    ++ (x.key ∷ [])) false)
    (slots_walk (slots_from fd.back) s.path s.keys) v h)

enters : (way : List Turn) (s v : Visit) → SlotsAreWellMade s.slots → Leads way s v → Stands (s ∷ slots_walk s.slots s.path s.keys) v
enters [] s v w e = ([], slots_walk s.slots s.path s.keys, ap (λ (z : Visit). z ∷ slots_walk s.slots s.path s.keys) e)
enters (into_table k ∷ way) s v w (l, f, ss, eq, rest) =
    let t : Visit = visit_of (to_key s.path l.name) (s.keys ++ (l ∷ [])) false f ss in
    let fd : Found k (keyed l (table f ss)) (slot_list s.slots) = found k s.slots (keyed l (table f ss)) w eq in
    stands-next s (slots_walk s.slots s.path s.keys) v (stands-slot k (keyed l (table f ss)) s v fd (enters way t v fd.made rest))
enters (into_element k i ∷ way) s v w (l, e, xs, before, f, ss, after, eq, items, place, rest) =
    let r : Path = to_key s.path l.name in
    let ks : List Key = s.keys ++ (l ∷ []) in
    let t : Visit = visit_of (to_element r (element_count before)) ks true f ss in
    let fd : Found k (keyed l (tables e xs)) (slot_list s.slots) = found k s.slots (keyed l (tables e xs)) w eq in
    let ex : xs ≡ items_from (before ++ (table f ss ∷ after)) = sym (items_from-list xs) ∙ ap items_from items in
    let made : SlotsAreWellMade ss = item-made before (table f ss) after (subst ItemsAreWellMade ex fd.made) in
    let count : counted 0 before ≡ element_count before =
    (let n : counted 0 before ≡ 0 + element_count before = counted-more 0 before in omega arith) in
    let split : items_walk xs r ks 0 ≡ items_walk (items_from before) r ks 0
    ++ ((t ∷ slots_walk ss t.path ks) ++ items_walk (items_from after) r ks (suc (element_count before))) =
    ap (λ z. items_walk z r ks 0) ex
    ∙ items-append before (table f ss ∷ after) r ks 0
    ∙ ap (λ z. items_walk (items_from before) r ks 0 ++ ((visit_of (to_element r z) ks true f ss ∷ slots_walk ss (to_element r z) ks)
    ++ items_walk (items_from after) r ks (suc z))) count in
    stands-next s (slots_walk s.slots s.path s.keys) v
    (stands-slot k (keyed l (tables e xs)) s v fd
    (subst (λ z. Stands z v) (sym split)
    (stands-within (items_walk (items_from before) r ks 0) (t
    ∷ slots_walk ss t.path ks) (items_walk (items_from after) r ks (suc (element_count before))) v (enters way t v made rest))))

pub entered : Entered
entered t way v w e = enters way (root_visit t) v w e
