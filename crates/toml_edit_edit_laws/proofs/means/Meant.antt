-- What is shown: printed tables, and values.
use Rattle.std.proofs.Common.{◌≡◌, ◌⊎◌, refl, sym, ◌∙◌, ap, subst, ℕ, suc, Bool, true, false, List, [], ◌∷◌, ◌++◌, length, Option, Some, None, inl, inr}
use Rattle.std.specs.Prelude.{◌||◌, ◌&&◌, not, if◌then◌else◌, take, filter}
use Rattle.toml_edit_model.specs.Text.{Text, is_empty}
use Rattle.toml_edit_model.specs.Paths.{Path, at_element, to_key, to_element}
use Rattle.toml_edit_model.specs.Meaning.{Fact, fact, a_table, an_array, a_scalar}
use Rattle.toml_edit_model.specs.Tree.{ArrayFields, Node, nothing, leaf, list, inline, table, tables, Items, Slots, IsWellMade, ItemsAreWellMade}
use Rattle.toml_edit_model.specs.Tree.{SlotsAreWellMade, Tree, is_value_node}
use Rattle.toml_edit_model.specs.HeaderOrder.{Visit, visit_of, is_root}
use Rattle.toml_edit_model.specs.Print.{lines_of}
use Rattle.toml_edit_model.specs.Shown.{is_table_node, has_table, shows, node_facts, slots_facts, tables_facts, shown_meaning}
use Rattle.toml_edit_model.specs.Slots.{Slot, keyed, lookup_slot}
use Rattle.toml_edit_model.specs.Lists.{slot_list, slots_from, item_list, items_from, is_tables_node}
use Rattle.toml_edit_laws.specs.Locality.{Turn, into_table, into_element, Leads, root_visit, element_count}
use Rattle.toml_edit_edit_laws.specs.Commands.{done, and_then, drop_element, element_of, present, second, child, item_below, remove_child, root_item}
use Rattle.toml_edit_edit_laws.specs.CommandLaws.{Goes, is_listing}
use Rattle.toml_edit_edit_laws.specs.Means.{element_step, step_to, or_nothing, meant_from, meant_at, IsMeant, NamedPath, PrintedIsMeant}
use Rattle.toml_edit_edit_laws.specs.Means.{shown_below, shown_at, ValueIsMeant, HolderIsMeant}
use Rattle.toml_edit_laws.proofs.common.Members.{Among, among-left, among-right, to-contained}
use Rattle.toml_edit_laws.proofs.common.OptionSteps.{some-is}
use Rattle.toml_edit_laws.proofs.common.PathLaws.{is_front, front-refl, front-through}
use Rattle.toml_edit_laws.proofs.common.Tests.{or-true}
use Rattle.toml_edit_laws.proofs.locality.Adding.{leads-root}
use Rattle.toml_edit_laws.proofs.locality.Elements.{item-made}
use Rattle.toml_edit_laws.proofs.locality.Slots.{Found, found, slots_from-list, items_from-list}
use Rattle.toml_edit_laws.proofs.locality.Under.{front-is}
use Rattle.toml_edit_laws.proofs.print_meaning.WalkFacts.{slots-show, lines-show}
use Rattle.toml_edit_edit_laws.proofs.commands.Apart.{named}
use Rattle.toml_edit_edit_laws.proofs.commands.Finding.{some-and, some-second}
use Rattle.toml_edit_edit_laws.proofs.commands.Going.{element-there}
use Rattle.toml_edit_edit_laws.proofs.commands.Keeping.{present-is, item-parts}
use Rattle.toml_edit_edit_laws.proofs.commands.Setting.{was-mapped}
use Rattle.toml_edit_edit_laws.proofs.path_calls.Places.{take-front}
use Rattle.toml_edit_edit_laws.proofs.means.Facts.{facts_in, told, slots_in, any_told, items_in, kind, count, slot_in, slots-around, items-around, untold}
use Rattle.toml_edit_edit_laws.proofs.means.Parts.{shown_in, seen, Sees, shown-seen, has-table}
use Rattle.toml_edit_edit_laws.proofs.means.Along.{meant-front, table-facts, inline-facts, list-facts}
use Rattle.toml_edit_edit_laws.proofs.means.Outside.{inline-told, plain-told, table-told}
use Rattle.toml_edit_edit_laws.proofs.means.Removing.{some-table}

-- ---- tables that the walk enters

along-meant : (way : List Turn) (path : List Text) (s v : Visit) → Goes way path → Leads way s v → SlotsAreWellMade s.slots
    → meant_from s.path path (table s.fields s.slots) ≡ v.path
along-meant [] [] s v goes leads made = ap (λ (x : Visit). x.path) leads
along-meant [] (i ∷ path) s v goes leads made = absurd goes
along-meant (into_table k ∷ way) [] s v goes leads made = absurd goes
along-meant (into_table k ∷ way) (i ∷ path) s v goes (l, f, ss, eq, more) made =
    let fd : Found k (keyed l (table f ss)) (slot_list s.slots) = found k s.slots (keyed l (table f ss)) made eq in
    let at : lookup_slot i (slot_list s.slots) ≡ Some (keyed l (table f ss)) = ap (λ x. lookup_slot x (slot_list s.slots)) goes.0 ∙ eq in
    ap (λ o. meant_from (to_key s.path i) path (or_nothing (present o))) at
    ∙ ap (λ q. meant_from (to_key s.path q) path (table f ss)) (goes.0 ∙ fd.named)
    ∙ along-meant way path (visit_of (to_key s.path l.name) (s.keys ++ (l ∷ [])) false f ss) v goes.1 more fd.made
along-meant (into_element k i ∷ way) [] s v goes leads made = absurd goes
along-meant (into_element k i ∷ way) (a ∷ []) s v goes leads made = absurd goes
along-meant (into_element k i ∷ way) (a ∷ x ∷ path) s v goes (l, e, xs, before, f, ss, after, eq, items, place, more) made =
    let fd : Found k (keyed l (tables e xs)) (slot_list s.slots) = found k s.slots (keyed l (tables e xs)) made eq in
    let at : lookup_slot a (slot_list s.slots) ≡ Some (keyed l (tables e xs)) = ap (λ z. lookup_slot z (slot_list s.slots)) goes.0 ∙ eq in
    let well : SlotsAreWellMade ss =
    item-made before (table f ss) after (subst ItemsAreWellMade (sym (items_from-list xs) ∙ ap items_from items) fd.made) in
    let element : element_of is_table_node x (item_list xs) ≡ Some (i, table f ss) =
    element-there is_table_node x i (item_list xs) before (table f ss) after goes.1 items place refl in
    let number : element_count (take i (item_list xs)) ≡ element_count before =
    ap (λ ys. element_count (take i ys)) items ∙ ap (λ n. element_count (take n (before ++ (table f ss ∷ after)))) (sym place)
    ∙ ap element_count (take-front before (table f ss ∷ after)) in
    ap (λ o. meant_from (to_key s.path a) (x ∷ path) (or_nothing (present o))) at
    ∙ ap (λ o. meant_from (to_key s.path a ++ (element_step is_table_node x (item_list xs) o ∷ [])) path (or_nothing (second o))) element
    ∙ ap (λ n. meant_from (to_element (to_key s.path a) n) path (table f ss)) number
    ∙ ap (λ q. meant_from (to_element (to_key s.path q) (element_count before)) path (table f ss)) (goes.0 ∙ fd.named)
    ∙ along-meant way path (visit_of (to_element (to_key s.path l.name) (element_count before)) (s.keys ++ (l ∷ [])) true f ss) v goes.2 more well

pub named_path : NamedPath
named_path t path v made n = along-meant n.way path (root_visit t) v n.goes n.leads made

-- ---- facts of a table are those of the tables above it

module _ (g : Fact) where
  abbrev IsSeen : Visit → Type 0
  IsSeen w = Among g (seen w.is_element false (table w.fields w.slots) w.path)

  -- at the end of the way it is the table's, and else one of the slots'
  abbrev IsUp : List Turn → Visit → Type 0
  IsUp [] s = IsSeen s
  IsUp (x ∷ way) s = Among g (slots_facts s.slots s.path)

  -- a table is shown for its slots
  slots-seen : (s : Visit) → Among g (slots_facts s.slots s.path) → IsSeen s
  slots-seen s m =
      let own : Bool = not (s.fields.is_dotted || s.fields.is_implicit) in
      let shown : shown_in s.is_element false (table s.fields s.slots) ≡ true =
      ap (λ b. s.is_element || (own || b)) (slots-show s.slots s.path g m) ∙ ap (λ b. s.is_element || b) (or-true own) ∙ or-true s.is_element in
      subst (Among g) (sym (shown-seen s.is_element false (table s.fields s.slots) s.path shown)) (inr m)

  up-seen : (way : List Turn) (s : Visit) → IsUp way s → IsSeen s
  up-seen [] s m = m
  up-seen (x ∷ way) s m = slots-seen s m

  -- so is a slot's fact one of the table's slots
  slot-up : (k : Text) (x : Slot Node) (ss : Slots) (p : Path) → Found k x (slot_list ss) → Among g (slot_in false x p) → Among g (slots_facts ss p)
  slot-up k x ss p fd m =
      subst (Among g) (sym (ap (λ z. slots_facts z p) (sym (slots_from-list ss) ∙ ap slots_from fd.is) ∙ slots-around false fd.front x fd.back p))
      (among-right g (slots_facts (slots_from fd.front) p) (slot_in false x p ++ slots_facts (slots_from fd.back) p)
      (among-left g (slot_in false x p) (slots_facts (slots_from fd.back) p) m))

  way-up : (way : List Turn) (s w : Visit) → Leads way s w → SlotsAreWellMade s.slots → IsSeen w → IsUp way s
  way-up [] s w leads made m = subst IsSeen (sym leads) m
  way-up (into_table k ∷ way) s w (l, f, ss, eq, more) made m =
      let v : Visit = visit_of (to_key s.path l.name) (s.keys ++ (l ∷ [])) false f ss in
      let fd : Found k (keyed l (table f ss)) (slot_list s.slots) = found k s.slots (keyed l (table f ss)) made eq in
      slot-up k (keyed l (table f ss)) s.slots s.path fd (up-seen way v (way-up way v w more fd.made m))
  way-up (into_element k i ∷ way) s w (l, e, xs, before, f, ss, after, eq, items, place, more) made m =
      let r : Path = to_key s.path l.name in
      let n : ℕ = element_count before in
      let v : Visit = visit_of (to_element r n) (s.keys ++ (l ∷ [])) true f ss in
      let fd : Found k (keyed l (tables e xs)) (slot_list s.slots) = found k s.slots (keyed l (tables e xs)) made eq in
      let is : xs ≡ items_from (before ++ (table f ss ∷ after)) = sym (items_from-list xs) ∙ ap items_from items in
      let well : SlotsAreWellMade ss = item-made before (table f ss) after (subst ItemsAreWellMade is fd.made) in
      let own : Among g (node_facts (table f ss) (to_element r n)) = up-seen way v (way-up way v w more well m) in
      let part : Among g (tables_facts xs r 0) =
      subst (Among g) (sym (ap (λ z. tables_facts z r 0) is ∙ items-around false before (table f ss) after r refl))
      (among-right g (tables_facts (items_from before) r 0) (node_facts (table f ss) (to_element r n) ++ tables_facts (items_from after) r (suc n))
      (among-left g (node_facts (table f ss) (to_element r n)) (tables_facts (items_from after) r (suc n)) own)) in
      slot-up k (keyed l (tables e xs)) s.slots s.path fd
      (subst (Among g) (sym (shown-seen false false (tables e xs) r (ap has_table is ∙ has-table before (table f ss) after refl))) (inr part))

  root-up : (way : List Turn) (t : Tree) → IsUp way (root_visit t) → Among g (shown_meaning t)
  unfolding shown_meaning
  root-up [] t m = by_test (shown_in false false (root_item t)) m
    where
      by_test : (b : Bool) → Among g (if b then fact [] a_table ∷ slots_facts t.slots [] else []) → Among g (fact [] a_table ∷ slots_facts t.slots [])
      by_test true m = m
      by_test false m = absurd m
  root-up (x ∷ way) t m = inr m

  is-meant : (t : Tree) (way : List Turn) (v : Visit) (q : Path) → SlotsAreWellMade t.slots → Leads way (root_visit t) v → IsSeen v
      → is_front q g.path ≡ true → IsMeant t q
  is-meant t way v q made leads m h =
      (g, to-contained g (shown_meaning t) (root-up way t (way-up way (root_visit t) v leads made m)), front-is q g.path ∙ h)

root-fact : (t : Tree) → Among (fact [] a_table) (shown_meaning t)
unfolding shown_meaning
root-fact t = inl refl

pub printed_is_meant : PrintedIsMeant
printed_is_meant mode t path v made n has =
    subst (IsMeant t) (sym (named_path t path v made n)) (by_root (is_root v) refl)
  where
    -- a table that is no element has a header for itself, or lines
    shown : (r e d i l : Bool) → r ≡ false → ((r || (not d && (not r && (e || not (i && l))))) ≡ true) ⊎ (l ≡ false)
        → (l ≡ false → shows v.slots ≡ true) → (e || (not (d || i) || shows v.slots)) ≡ true
    shown true e d i l root h s = absurd cc
    shown false true d i l root h s = refl
    shown false false d i false root h s = ap (λ b. not (d || i) || b) (s refl) ∙ or-true (not (d || i))
    shown false false false false true root h s = refl
    shown false false false true true root (inl h) s = absurd cc
    shown false false true i true root (inl h) s = absurd cc
    shown false false d i true root (inr h) s = absurd cc

    by_root : (b : Bool) → is_root v ≡ b → IsMeant t v.path
    by_root true e =
        subst (λ (w : Visit). IsMeant t w.path) (leads-root n.way t v n.leads e)
        (fact [] a_table, to-contained (fact [] a_table) (shown_meaning t) (root-fact t), refl)
    by_root false e =
        let g : Fact = fact v.path a_table in
        is-meant g t n.way v v.path made n.leads
        (subst (Among g) (sym (shown-seen v.is_element false (table v.fields v.slots) v.path
        (shown (is_root v) v.is_element v.fields.is_dotted v.fields.is_implicit (is_empty (lines_of mode v)) e has (lines-show mode v.slots []))))
        (inl refl))
        (front-refl v.path)

-- ---- what a path leads to

-- what is shown has a fact at its path
told-fact : (v : Bool) (n : Node) (p : Path) → told v n ≡ true → (g : Fact) × Among g (facts_in v n p) × (is_front p g.path ≡ true)
told-fact true (leaf s r d) p h = (fact p (a_scalar s), inl refl, front-refl p)
told-fact true (list f xs) p h = (fact p an_array, inl refl, front-refl p)
told-fact true (inline f ss) p h = (fact p a_table, inl refl, front-refl p)
told-fact true (table f ss) p h = (fact p a_table, inl refl, front-refl p)
told-fact true (tables e xs) p h = absurd cc
told-fact true nothing p h = absurd cc
told-fact false (leaf s r d) p h = (fact p (a_scalar s), inl refl, front-refl p)
told-fact false (list f xs) p h = (fact p an_array, inl refl, front-refl p)
told-fact false (inline f ss) p h = (fact p a_table, inl refl, front-refl p)
told-fact false (table f ss) p h = (fact p a_table, inl refl, front-refl p)
told-fact false (tables e xs) p h = (fact p an_array, inl refl, front-refl p)
told-fact false nothing p h = absurd cc

slots-told : (u : Bool) (ss : Slots) (p : Path) (g : Fact) → Among g (slots_in u ss p) → any_told u ss ≡ true
slots-told u ss p g m = by_test (any_told u ss) refl
  where
    by_test : (b : Bool) → any_told u ss ≡ b → any_told u ss ≡ true
    by_test true e = e
    by_test false e = absurd (subst (Among g) (untold u ss p e) m)

-- the item is shown in its place, wherever that is
abbrev IsToldIn : Node → Type 0
IsToldIn m = (v : Bool) → (is_tables_node m && v) ≡ false → told v m ≡ true

module _ (k : Text) (path : List Text) (m : Node) (u always v : Bool) (n : Node) (p : Path) where
  abbrev Sees' : Node → Path → Bool → Type 0
  Sees' a r w = IsWellMade a → shown_below u path a ≡ Some m → Sees (meant_from r path a) w u a r

  seen-in : (r : Path) (a : Node) (g : Fact) → told v n ≡ true → Among g (facts_in v n p) → is_front (meant_from r path a) g.path ≡ true
      → Sees (meant_from r path a) always v n p
  seen-in r a g is part at =
      (g, subst (Among g) (sym (shown-seen always v n p (ap (λ b. always || b) is ∙ or-true always))) part, at)

  slot-sees : (ss : Slots) → facts_in v n p ≡ fact p a_table ∷ slots_in u ss p → (any_told u ss ≡ true → told v n ≡ true)
      → SlotsAreWellMade ss → and_then (shown_below u path) (present (lookup_slot k (slot_list ss))) ≡ Some m
      → ((a : Node) → Sees' a (to_key p k) false)
      → Sees (meant_from (to_key p k) path (or_nothing (present (lookup_slot k (slot_list ss))))) always v n p
  slot-sees ss facts shows w at go =
      let a = some-and (shown_below u path) (present (lookup_slot k (slot_list ss))) m at in
      let pr = present-is (lookup_slot k (slot_list ss)) a.0 a.1 in
      let x : Slot Node = keyed pr.key a.0 in
      let fd : Found k x (slot_list ss) = found k ss x w pr.is in
      let g = go a.0 fd.made a.2 in
      let own : Among g.0 (slot_in u x p) = subst (λ z. Among g.0 (seen false u a.0 (to_key p z))) fd.named g.1 in
      let part : Among g.0 (slots_in u ss p) =
      subst (Among g.0) (sym (ap (λ z. slots_in u z p) (sym (slots_from-list ss) ∙ ap slots_from fd.is) ∙ slots-around u fd.front x fd.back p))
      (among-right g.0 (slots_in u (slots_from fd.front) p) (slot_in u x p ++ slots_in u (slots_from fd.back) p)
      (among-left g.0 (slot_in u x p) (slots_in u (slots_from fd.back) p) own)) in
      subst (λ o. Sees (meant_from (to_key p k) path (or_nothing o)) always v n p) (sym a.1)
      (seen-in (to_key p k) a.0 g.0 (shows (slots-told u ss p g.0 part)) (subst (Among g.0) (sym facts) (inr part)) g.2)

  element-sees : (xs : Items) → facts_in v n p ≡ fact p an_array ∷ items_in u xs p 0
      → ((before : List Node) (a : Node) (after : List Node) → xs ≡ items_from (before ++ (a ∷ after)) → kind u a ≡ true → told v n ≡ true)
      → ItemsAreWellMade xs → and_then (shown_below u path) (second (element_of (kind u) k (item_list xs))) ≡ Some m
      → ((a : Node) (r : Path) → Sees' a r true)
      → Sees (meant_from (p ++ (element_step (kind u) k (item_list xs) (element_of (kind u) k (item_list xs)) ∷ [])) path
      (or_nothing (second (element_of (kind u) k (item_list xs))))) always v n p
  element-sees xs facts shows w at go =
      let a = some-and (shown_below u path) (second (element_of (kind u) k (item_list xs))) m at in
      let e = some-second (element_of (kind u) k (item_list xs)) a.0 a.1 in
      let d = named (kind u) k (item_list xs) (e.0, a.0) e.1 in
      let i = item-parts e.0 (item_list xs) a.0 d.item in
      let c : ℕ = count u i.before in
      let is : xs ≡ items_from (i.before ++ (a.0 ∷ i.after)) = sym (items_from-list xs) ∙ ap items_from i.is in
      let step : element_step (kind u) k (item_list xs) (element_of (kind u) k (item_list xs)) ≡ at_element c =
      ap (element_step (kind u) k (item_list xs)) e.1
      ∙ ap (λ ns. at_element (length (filter (kind u) ns)))
      (ap (take e.0) i.is ∙ ap (λ j. take j (i.before ++ (a.0 ∷ i.after))) (sym i.place) ∙ take-front i.before (a.0 ∷ i.after)) in
      let r : Path = to_element p c in
      let g = go a.0 r (item-made i.before a.0 i.after (subst ItemsAreWellMade is w)) a.2 in
      let part : Among g.0 (items_in u xs p 0) =
      subst (Among g.0) (sym (ap (λ z. items_in u z p 0) is ∙ items-around u i.before a.0 i.after p d.kind))
      (among-right g.0 (items_in u (items_from i.before) p 0) (facts_in u a.0 r ++ items_in u (items_from i.after) p (suc c))
      (among-left g.0 (facts_in u a.0 r) (items_in u (items_from i.after) p (suc c)) g.1)) in
      subst (λ z. Sees (meant_from (p ++ (z ∷ [])) path (or_nothing (second (element_of (kind u) k (item_list xs))))) always v n p) (sym step)
      (subst (λ o. Sees (meant_from r path (or_nothing o)) always v n p) (sym a.1)
      (seen-in r a.0 g.0 (shows i.before a.0 i.after is d.kind) (subst (Among g.0) (sym facts) (inr part)) g.2))

list-told : (v : Bool) (f : ArrayFields) (xs : Items) → told v (list f xs) ≡ true
list-told true f xs = refl
list-told false f xs = refl

shown-sees : (path : List Text) (always v : Bool) (n m : Node) (p : Path) → IsWellMade n → shown_below v path n ≡ Some m → IsToldIn m
    → Sees (meant_from p path n) always v n p
shown-sees [] always v n m p w at is = by_test (is_tables_node n && v) refl at
  where
    by_test : (b : Bool) → (is_tables_node n && v) ≡ b → (if b then None else Some n) ≡ Some m → Sees p always v n p
    by_test true e h = absurd cc
    by_test false e h =
        let same : m ≡ n = sym (some-is n m h) in
        let shown : told v n ≡ true = subst IsToldIn same is v e in
        let g = told-fact v n p shown in
        (g.0, subst (Among g.0) (sym (shown-seen always v n p (ap (λ b. always || b) shown ∙ or-true always))) g.1, g.2)
shown-sees (k ∷ path) always v (table f ss) m p w at is =
    slot-sees k path m v always v (table f ss) p ss (table-facts v f ss p) (table-told v f ss) w at
    (λ a x h. shown-sees path false v a m (to_key p k) x h is)
shown-sees (k ∷ path) always v (inline f ss) m p w at is =
    slot-sees k path m true always v (inline f ss) p ss (inline-facts v f ss p) (inline-told v f ss) w at
    (λ a x h. shown-sees path false true a m (to_key p k) x h is)
shown-sees (k ∷ path) always v (list f xs) m p w at is =
    element-sees k path m true always v (list f xs) p xs (list-facts v f xs p) (λ before a after e kd. list-told v f xs) w at
    (λ a r x h. shown-sees path true true a m r x h is)
shown-sees (k ∷ path) always true (tables e xs) m p w at is = absurd cc
shown-sees (k ∷ path) always false (tables e xs) m p w at is =
    element-sees k path m false always false (tables e xs) p xs refl
    (λ before a after same kd. ap has_table same ∙ has-table before a after kd) w at (λ a r x h. shown-sees path true false a m r x h is)
shown-sees (k ∷ path) always v (leaf s r d) m p w at is = absurd cc
shown-sees (k ∷ path) always v nothing m p w at is = absurd cc

item-is-meant : (t : Tree) (path : List Text) (n : Node) → SlotsAreWellMade t.slots → shown_at path t ≡ Some n → IsToldIn n
    → IsMeant t (meant_at t path)
unfolding shown_meaning
item-is-meant t path n made at is =
    let g = shown-sees path true false (root_item t) n [] made at is in
    (g.0, to-contained g.0 (shown_meaning t) g.1, front-is (meant_at t path) g.0.path ∙ g.2)

pub value_is_meant : ValueIsMeant
value_is_meant t path n made at plain = item-is-meant t path n made at (λ v e. plain-told v n plain)

-- so is an array that something can be removed from
pub listing-is-meant : (t : Tree) (path : List Text) (n m : Node) (x : Text) → SlotsAreWellMade t.slots → shown_at path t ≡ Some n
    → is_listing n ≡ true → remove_child x n ≡ done m → IsMeant t (meant_at t path)
listing-is-meant t path (list f xs) m x made at is gone = item-is-meant t path (list f xs) made at (λ v e. list-told v f xs)
listing-is-meant t path (tables e xs) m x made at is gone = item-is-meant t path (tables e xs) made at by_value
  where
    by_value : IsToldIn (tables e xs)
    by_value true inside = absurd cc
    by_value false inside =
        let b = was-mapped (λ ns. tables e (items_from ns)) (drop_element (item_list xs) (element_of is_table_node x (item_list xs))) m gone in
        some-table x xs (element_of is_table_node x (item_list xs)) b.from refl b.is
listing-is-meant t path (leaf s r d) m x made at is gone = absurd cc
listing-is-meant t path (inline f ss) m x made at is gone = absurd cc
listing-is-meant t path (table f ss) m x made at is gone = absurd cc
listing-is-meant t path nothing m x made at is gone = absurd cc

-- what is so found is there
not-none : (b : Bool) (o : Option Node) (m : Node) → (if b then None else o) ≡ Some m → o ≡ Some m
not-none true o m h = absurd cc
not-none false o m h = h

pub shown-there : (path : List Text) (v : Bool) (n m : Node) → shown_below v path n ≡ Some m → item_below path n ≡ Some m
shown-there [] v n m h = not-none (is_tables_node n && v) (Some n) m h
shown-there (k ∷ path) v n m h =
    let on : Node → Option Node = shown_below (is_value_node n || v) path in
    let a = some-and on (child k n) m (not-none (is_tables_node n && v) (and_then on (child k n)) m h) in
    ap (and_then (item_below path)) a.1 ∙ shown-there path (is_value_node n || v) a.0 m a.2

pub holder_is_meant : HolderIsMeant
holder_is_meant t path more (g, at, h) = (
  g,
  at,
  front-is (meant_at t path) g.path
      ∙ front-through (meant_at t path) (meant_at t (path ++ more)) g.path (further [] path (root_item t)) (sym (front-is (meant_at t (path ++ more)) g.path) ∙ h),
)
  where
    further : (p : Path) (path : List Text) (n : Node) → is_front (meant_from p path n) (meant_from p (path ++ more) n) ≡ true
    further p [] n = meant-front p more n
    further p (k ∷ path) n = further (p ++ (step_to k n ∷ [])) path (or_nothing (child k n))
