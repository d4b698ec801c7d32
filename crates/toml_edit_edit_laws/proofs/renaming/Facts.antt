-- What an edit at the end of a way does to the facts of a tree, by what it does to those of one slot.
use Rattle.std.proofs.Common.{◌≡◌, refl, sym, ◌∙◌, ap, subst, ℕ, suc, ◌+◌, ◌<◌, ◌≤◌, arith, Bool, true, false, List, [], ◌∷◌, ◌++◌}
use Rattle.std.proofs.Common.{append_assoc}
use Rattle.std.specs.Prelude.{◌||◌, not, if◌then◌else◌, ◌==◌, map}
use Rattle.std.proofs.lemmas.Bool.{eqb-true}
use Rattle.std.proofs.lemmas.List.{map-append}
use Rattle.toml_edit_model.specs.Text.{Text}
use Rattle.toml_edit_model.specs.Paths.{Step, at_key, at_element, Path, to_key, to_element}
use Rattle.toml_edit_model.specs.Meaning.{Fact, fact, a_table, an_array, a_scalar}
use Rattle.toml_edit_model.specs.Tree.{TableFields, Node, nothing, leaf, list, inline, table, tables, Items, no_items, item, Slots}
use Rattle.toml_edit_model.specs.Tree.{no_slots, slot, ItemsAreWellMade, SlotsAreWellMade, is_value_node}
use Rattle.toml_edit_model.specs.HeaderOrder.{Visit, visit_of}
use Rattle.toml_edit_model.specs.Shown.{is_table_node, has_table, is_shown_inside, is_shown, shows, inside_facts, list_facts}
use Rattle.toml_edit_model.specs.Shown.{inside_slots_facts, node_facts, tables_facts, slots_facts}
use Rattle.toml_edit_model.specs.Slots.{Slot, keyed, on_item, changed_at}
use Rattle.toml_edit_model.specs.Lists.{slot_list, slots_from, items_from, on_slots, on_items}
use Rattle.toml_edit_laws.specs.Locality.{Turn, into_table, into_element, Leads, along, element_count}
use Rattle.toml_edit_laws.proofs.common.PathLaws.{is_front, front-more, front-through}
use Rattle.toml_edit_laws.proofs.common.Tests.{false-by, true-false}
use Rattle.toml_edit_laws.proofs.locality.Along.{leads-out, leads-above}
use Rattle.toml_edit_laws.proofs.locality.Elements.{counted, counted-more, item-made}
use Rattle.toml_edit_laws.proofs.locality.Slots.{slots_under, items_under, HaveOtherKeys, Found, found, slots_from-list, items_from-list}
use Rattle.toml_edit_laws.proofs.locality.Slots.{change-item}
use Rattle.toml_edit_laws.proofs.locality.Under.{IsApart, apart-keys, apart-elements}

-- the facts with another path for each
abbrev pub on_path : (Path → Path) → Fact → Fact
on_path G f = fact (G f.path) f.kind

module _ (G : Path → Path) where
  -- ---- below a path that goes to another

  abbrev pub Goes : Path → Path → Type 0
  Goes p q = (r : Path) → G (p ++ r) ≡ q ++ r

  goes-on : (p q : Path) (x : Step) → Goes p q → Goes (p ++ (x ∷ [])) (q ++ (x ∷ []))
  goes-on p q x h r = ap G (append_assoc p (x ∷ []) r) ∙ h (x ∷ r) ∙ sym (append_assoc q (x ∷ []) r)

  goes-there : (p q : Path) → Goes p q → q ≡ G p
  goes-there p q h = sym (nil q) ∙ sym (h []) ∙ ap G (nil p)
    where
      nil : (p : Path) → p ++ [] ≡ p
      nil [] = refl
      nil (x ∷ p) = ap (λ z. x ∷ z) (nil p)

  both-go : (xs ys us vs : List Fact) → us ≡ map (on_path G) xs → vs ≡ map (on_path G) ys → us ++ vs ≡ map (on_path G) (xs ++ ys)
  both-go xs ys us vs e d = ap (λ z. z ++ vs) e ∙ ap (λ z. map (on_path G) xs ++ z) d ∙ sym (map-append (on_path G) xs ys)

  if-goes : (b : Bool) (xs ys us vs : List Fact) → us ≡ map (on_path G) xs → vs ≡ map (on_path G) ys
      → (if b then us else vs) ≡ map (on_path G) (if b then xs else ys)
  if-goes true xs ys us vs e d = e
  if-goes false xs ys us vs e d = d

  mutual
    pub inside-goes : (n : Node) (p q : Path) → Goes p q → inside_facts n q ≡ map (on_path G) (inside_facts n p)
    inside-goes (leaf s r d) p q h = ap (λ z. z ∷ []) (ap (λ z. fact z (a_scalar s)) (goes-there p q h))
    inside-goes (list f xs) p q h = ap (λ z. fact z an_array ∷ list_facts xs q 0) (goes-there p q h)
        ∙ ap (λ zs. fact (G p) an_array ∷ zs) (list-goes xs p q 0 h)
    inside-goes (inline f ss) p q h = ap (λ z. fact z a_table ∷ inside_slots_facts ss q) (goes-there p q h)
        ∙ ap (λ zs. fact (G p) a_table ∷ zs) (inside-slots-go ss p q h)
    inside-goes (table f ss) p q h = ap (λ z. fact z a_table ∷ inside_slots_facts ss q) (goes-there p q h)
        ∙ ap (λ zs. fact (G p) a_table ∷ zs) (inside-slots-go ss p q h)
    inside-goes (tables e xs) p q h = refl
    inside-goes nothing p q h = refl

    list-goes : (xs : Items) (p q : Path) (n : ℕ) → Goes p q → list_facts xs q n ≡ map (on_path G) (list_facts xs p n)
    list-goes no_items p q n h = refl
    list-goes (item x xs) p q n h =
        if-goes (is_value_node x) (inside_facts x (to_element p n)
        ++ list_facts xs p (suc n)) (list_facts xs p n) (inside_facts x (to_element q n) ++ list_facts xs q (suc n)) (list_facts xs q n)
        (both-go (inside_facts x (to_element p n)) (list_facts xs p (suc n)) (inside_facts x (to_element q n)) (list_facts xs q (suc n))
        (inside-goes x (to_element p n) (to_element q n) (goes-on p q (at_element n) h)) (list-goes xs p q (suc n) h))
        (list-goes xs p q n h)

    inside-slots-go : (ss : Slots) (p q : Path) → Goes p q → inside_slots_facts ss q ≡ map (on_path G) (inside_slots_facts ss p)
    inside-slots-go no_slots p q h = refl
    inside-slots-go (slot k n ss) p q h =
        both-go (if is_shown_inside n then inside_facts n (to_key p k.name) else []) (inside_slots_facts ss p)
        (if is_shown_inside n then inside_facts n (to_key q k.name) else []) (inside_slots_facts ss q)
        (if-goes (is_shown_inside n) (inside_facts n (to_key p k.name)) [] (inside_facts n (to_key q k.name)) []
        (inside-goes n (to_key p k.name) (to_key q k.name) (goes-on p q (at_key k.name) h)) refl)
        (inside-slots-go ss p q h)

  mutual
    pub node-goes : (n : Node) (p q : Path) → Goes p q → node_facts n q ≡ map (on_path G) (node_facts n p)
    node-goes (table f ss) p q h = ap (λ z. fact z a_table ∷ slots_facts ss q) (goes-there p q h)
        ∙ ap (λ zs. fact (G p) a_table ∷ zs) (slots-go ss p q h)
    node-goes (tables e xs) p q h = ap (λ z. fact z an_array ∷ tables_facts xs q 0) (goes-there p q h)
        ∙ ap (λ zs. fact (G p) an_array ∷ zs) (tables-go xs p q 0 h)
    node-goes (leaf s r d) p q h = inside-goes (leaf s r d) p q h
    node-goes (list f xs) p q h = inside-goes (list f xs) p q h
    node-goes (inline f ss) p q h = inside-goes (inline f ss) p q h
    node-goes nothing p q h = refl

    tables-go : (xs : Items) (p q : Path) (n : ℕ) → Goes p q → tables_facts xs q n ≡ map (on_path G) (tables_facts xs p n)
    tables-go no_items p q n h = refl
    tables-go (item x xs) p q n h =
        if-goes (is_table_node x) (node_facts x (to_element p n)
        ++ tables_facts xs p (suc n)) (tables_facts xs p n) (node_facts x (to_element q n)
        ++ tables_facts xs q (suc n)) (tables_facts xs q n)
        (both-go (node_facts x (to_element p n)) (tables_facts xs p (suc n)) (node_facts x (to_element q n)) (tables_facts xs q (suc n))
        (node-goes x (to_element p n) (to_element q n) (goes-on p q (at_element n) h)) (tables-go xs p q (suc n) h))
        (tables-go xs p q n h)

    slots-go : (ss : Slots) (p q : Path) → Goes p q → slots_facts ss q ≡ map (on_path G) (slots_facts ss p)
    slots-go no_slots p q h = refl
    slots-go (slot k n ss) p q h =
        both-go (if is_shown n then node_facts n (to_key p k.name) else []) (slots_facts ss p)
        (if is_shown n then node_facts n (to_key q k.name) else []) (slots_facts ss q)
        (if-goes (is_shown n) (node_facts n (to_key p k.name)) [] (node_facts n (to_key q k.name)) []
        (node-goes n (to_key p k.name) (to_key q k.name) (goes-on p q (at_key k.name) h)) refl)
        (slots-go ss p q h)

  -- ---- around a path at or below which others may go

  module _ (q : Path) (stays : (p : Path) → is_front q p ≡ false → G p ≡ p) where
    apart-stays : (r : Path) → IsApart q r → Goes r r
    apart-stays r a x = stays (r ++ x) (a (r ++ x) (front-more r x))

    others-stay : (p : Path) (k : Text) (xs : List (Slot Node)) → is_front (to_key p k) q ≡ true → HaveOtherKeys k xs
        → slots_facts (slots_from xs) p ≡ map (on_path G) (slots_facts (slots_from xs) p)
    others-stay p k [] h o = refl
    others-stay p k (x ∷ xs) h o =
        let r : Path = to_key p x.key.name in
        both-go (if is_shown x.item then node_facts x.item r else []) (slots_facts (slots_from xs) p) (if is_shown x.item
        then node_facts x.item r else []) (slots_facts (slots_from xs) p)
        (if-goes (is_shown x.item) (node_facts x.item r) [] (node_facts x.item r) []
        (node-goes x.item r r (apart-stays r (apart-keys p q k x.key.name h o.0))) refl)
        (others-stay p k xs h o.1)

    -- the facts of a table and whether it shows any
    abbrev pub Told : Path → Slots → Slots → Type 0
    Told p ss us = (slots_facts us p ≡ map (on_path G) (slots_facts ss p)) × (shows us ≡ shows ss)

    facts-append : (xs ys : List (Slot Node)) (p : Path) → slots_facts (slots_from (xs ++ ys)) p ≡ slots_facts (slots_from xs) p
        ++ slots_facts (slots_from ys) p
    facts-append [] ys p = refl
    facts-append (x ∷ xs) ys p =
        let own = if is_shown x.item then node_facts x.item (to_key p x.key.name) else [] in
        ap (λ z. own ++ z) (facts-append xs ys p) ∙ sym (append_assoc own (slots_facts (slots_from xs) p) (slots_facts (slots_from ys) p))

    shows-alike : (xs ys : List (Slot Node)) (y z : Slot Node) → is_shown z.item ≡ is_shown y.item → shows (slots_from (xs ++ (z ∷ ys)))
        ≡ shows (slots_from (xs ++ (y ∷ ys)))
    shows-alike [] ys y z e = ap (λ b. b || shows (slots_from ys)) e
    shows-alike (x ∷ xs) ys y z e = ap (λ b. is_shown x.item || b) (shows-alike xs ys y z e)

    -- a slot in the place of another
    pub in-place : (p : Path) (xs ys : List (Slot Node)) (y z : Slot Node) → is_front (to_key p y.key.name) q ≡ true
        → HaveOtherKeys y.key.name xs → HaveOtherKeys y.key.name ys
        → is_shown z.item ≡ is_shown y.item → node_facts z.item (to_key p z.key.name)
        ≡ map (on_path G) (node_facts y.item (to_key p y.key.name))
        → Told p (slots_from (xs ++ (y ∷ ys))) (slots_from (xs ++ (z ∷ ys)))
    in-place p xs ys y z above a b shown same = (
      facts-append xs (z ∷ ys) p
          ∙ both-go (slots_facts (slots_from xs) p) (slots_facts (slots_from (y ∷ ys)) p) (slots_facts (slots_from xs) p)
          (slots_facts (slots_from (z ∷ ys)) p)
          (others-stay p y.key.name xs above a)
          (both-go (if is_shown y.item then node_facts y.item (to_key p y.key.name) else []) (slots_facts (slots_from ys) p)
          (if is_shown z.item then node_facts z.item (to_key p z.key.name) else []) (slots_facts (slots_from ys) p)
          (ap (λ c. if c then node_facts z.item (to_key p z.key.name) else []) shown
          ∙ if-goes (is_shown y.item) (node_facts y.item (to_key p y.key.name)) [] (node_facts z.item (to_key p z.key.name)) [] same refl)
          (others-stay p y.key.name ys above b))
          ∙ ap (map (on_path G)) (sym (facts-append xs (y ∷ ys) p)),
      shows-alike xs ys y z shown,
    )

    -- ---- elements

    module _ (r : Path) (m : ℕ) (above : is_front (to_element r m) q ≡ true) where
      differ : (n : ℕ) → (m ≡ n → ⊥) → (m == n) ≡ false
      differ n h = false-by (m == n) (λ e. h (eqb-true m n e))

      element-stays : (x : Node) (n : ℕ) → (m == n) ≡ false → node_facts x (to_element r n)
          ≡ map (on_path G) (node_facts x (to_element r n))
      element-stays x n d = node-goes x (to_element r n) (to_element r n) (apart-stays (to_element r n) (apart-elements r q m n above d))

      one-element : (b : Bool) (x : Node) (n : ℕ) (next same : List Fact) → (b ≡ true → (m == n) ≡ false) → next ≡ map (on_path G) next
          → same ≡ map (on_path G) same
          → (if b then node_facts x (to_element r n) ++ next else same)
          ≡ map (on_path G) (if b then node_facts x (to_element r n) ++ next else same)
      one-element true x n next same d e g =
          both-go (node_facts x (to_element r n)) next (node_facts x (to_element r n)) next (element-stays x n (d refl)) e
      one-element false x n next same d e g = g

      later-stay : (xs : List Node) (n : ℕ) → m < n → tables_facts (items_from xs) r n ≡ map (on_path G) (tables_facts (items_from xs) r n)
      later-stay [] n h = refl
      later-stay (x ∷ xs) n h =
          one-element (is_table_node x) x n (tables_facts (items_from xs) r (suc n)) (tables_facts (items_from xs) r n)
          (λ _. differ n (λ e. absurd (omega arith))) (later-stay xs (suc n) (omega arith)) (later-stay xs n h)

      earlier-stay : (xs : List Node) (n : ℕ) → counted n xs ≤ m → tables_facts (items_from xs) r n
          ≡ map (on_path G) (tables_facts (items_from xs) r n)
      earlier-stay [] n h = refl
      earlier-stay (table f ss ∷ xs) n h =
          let c : counted (suc n) xs ≡ suc n + element_count xs = counted-more (suc n) xs in
          both-go (node_facts (table f ss) (to_element r n)) (tables_facts (items_from xs) r (suc n))
          (node_facts (table f ss) (to_element r n)) (tables_facts (items_from xs) r (suc n))
          (element-stays (table f ss) n (differ n (λ e. absurd (omega arith)))) (earlier-stay xs (suc n) h)
      earlier-stay (tables e ys ∷ xs) n h = earlier-stay xs n h
      earlier-stay (leaf s a d ∷ xs) n h = earlier-stay xs n h
      earlier-stay (list f ys ∷ xs) n h = earlier-stay xs n h
      earlier-stay (inline f ss ∷ xs) n h = earlier-stay xs n h
      earlier-stay (nothing ∷ xs) n h = earlier-stay xs n h

    tables-append : (xs ys : List Node) (p : Path) (n : ℕ) → tables_facts (items_from (xs ++ ys)) p n ≡ tables_facts (items_from xs) p n
        ++ tables_facts (items_from ys) p (counted n xs)
    tables-append [] ys p n = refl
    tables-append (table f ss ∷ xs) ys p n =
        let own = node_facts (table f ss) (to_element p n) in
        ap (λ z. own ++ z) (tables-append xs ys p (suc n))
        ∙ sym (append_assoc own (tables_facts (items_from xs) p (suc n)) (tables_facts (items_from ys) p (counted (suc n) xs)))
    tables-append (tables e zs ∷ xs) ys p n = tables-append xs ys p n
    tables-append (leaf s a d ∷ xs) ys p n = tables-append xs ys p n
    tables-append (list f zs ∷ xs) ys p n = tables-append xs ys p n
    tables-append (inline f ss ∷ xs) ys p n = tables-append xs ys p n
    tables-append (nothing ∷ xs) ys p n = tables-append xs ys p n

    pub has-element : (before after : List Node) (f : TableFields) (ss : Slots) → has_table (items_from (before ++ (table f ss ∷ after)))
        ≡ true
    has-element [] after f ss = refl
    has-element (table g us ∷ before) after f ss = refl
    has-element (tables e ys ∷ before) after f ss = has-element before after f ss
    has-element (leaf s a d ∷ before) after f ss = has-element before after f ss
    has-element (list g ys ∷ before) after f ss = has-element before after f ss
    has-element (inline g us ∷ before) after f ss = has-element before after f ss
    has-element (nothing ∷ before) after f ss = has-element before after f ss

    -- a table with other slots, or other fields, in the place of an element
    pub element-in-place : (r : Path) (before after : List Node) (f h : TableFields) (ss us : Slots)
        → is_front (to_element r (element_count before)) q ≡ true
        → node_facts (table h us) (to_element r (element_count before))
        ≡ map (on_path G) (node_facts (table f ss) (to_element r (element_count before)))
        → tables_facts (items_from (before ++ (table h us ∷ after))) r 0
        ≡ map (on_path G) (tables_facts (items_from (before ++ (table f ss ∷ after))) r 0)
    element-in-place r before after f h ss us above same =
        let m : ℕ = element_count before in
        let count : counted 0 before ≡ m = (let c : counted 0 before ≡ 0 + element_count before = counted-more 0 before in omega arith) in
        let split : (f : TableFields) (ss : Slots) → tables_facts (items_from (before ++ (table f ss ∷ after))) r 0
        ≡ tables_facts (items_from before) r 0 ++ (node_facts (table f ss) (to_element r m) ++ tables_facts (items_from after) r (suc m)) =
        λ f ss. tables-append before (table f ss ∷ after) r 0
        ∙ ap (λ z. tables_facts (items_from before) r 0 ++ (node_facts (table f ss) (to_element r z)
        ++ tables_facts (items_from after) r (suc z))) count in
        split h us
        ∙ both-go (tables_facts (items_from before) r 0) (node_facts (table f ss) (to_element r m)
        ++ tables_facts (items_from after) r (suc m))
        (tables_facts (items_from before) r 0) (node_facts (table h us) (to_element r m) ++ tables_facts (items_from after) r (suc m))
        (earlier-stay r m above before 0 (omega (arith, count)))
        (both-go (node_facts (table f ss) (to_element r m)) (tables_facts (items_from after) r (suc m))
        (node_facts (table h us) (to_element r m)) (tables_facts (items_from after) r (suc m))
        same (later-stay r m above after (suc m) (omega arith)))
        ∙ ap (map (on_path G)) (sym (split f ss))

    -- ---- along a way

    module _ (v : Visit) (x : Step) (below : is_front (v.path ++ (x ∷ [])) q ≡ true) where
      pub along-told : (way : List Turn) (g : List (Slot Node) → List (Slot Node)) (s : Visit) → SlotsAreWellMade s.slots → Leads way s v
          → (SlotsAreWellMade v.slots → Told v.path v.slots (slots_under g v.slots))
          → Told s.path s.slots (slots_under (along way g) s.slots)
      along-told [] g s w e go = subst (λ (y : Visit). SlotsAreWellMade y.slots → Told y.path y.slots (slots_under g y.slots)) (sym e) go w
      along-told (into_table k ∷ way) g s w (l, f, ss, eq, rest) go =
          let p : Path = to_key s.path l.name in
          let t : Visit = visit_of p (s.keys ++ (l ∷ [])) false f ss in
          let us : Slots = slots_under (along way g) ss in
          let fd : Found k (keyed l (table f ss)) (slot_list s.slots) = found k s.slots (keyed l (table f ss)) w eq in
          let is_new : slots_under (along (into_table k ∷ way) g) s.slots ≡ slots_from (fd.front ++ (keyed l (table f us) ∷ fd.back)) =
          ap slots_from (fd.change (on_item (on_slots (along way g)))) in
          let is_old : s.slots ≡ slots_from (fd.front ++ (keyed l (table f ss) ∷ fd.back)) = sym (slots_from-list s.slots)
          ∙ ap slots_from fd.is in
          let told : Told p ss us = along-told way g t fd.made rest go in
          let shown : is_shown (table f us) ≡ is_shown (table f ss) = ap (λ b. not (f.is_dotted || f.is_implicit) || b) told.1 in
          let same : node_facts (table f us) p ≡ map (on_path G) (node_facts (table f ss) p) =
          ap (λ z. fact z a_table ∷ slots_facts us p) (sym (stays p (leads-out q v x below way t rest)))
          ∙ ap (λ zs. fact (G p) a_table ∷ zs) told.0 in
          subst (λ y. Told s.path y (slots_under (along (into_table k ∷ way) g) s.slots)) (sym is_old)
          (subst (λ y. Told s.path (slots_from (fd.front ++ (keyed l (table f ss) ∷ fd.back))) y) (sym is_new)
          (in-place s.path fd.front fd.back (keyed l (table f ss)) (keyed l (table f us))
          (leads-above q v x below way t rest) fd.others_front
          fd.others_back shown same))
      along-told (into_element k i ∷ way) g s w (l, e, xs, before, f, ss, after, eq, items, place, rest) go =
          let r : Path = to_key s.path l.name in
          let p : Path = to_element r (element_count before) in
          let t : Visit = visit_of p (s.keys ++ (l ∷ [])) true f ss in
          let us : Slots = slots_under (along way g) ss in
          let fd : Found k (keyed l (tables e xs)) (slot_list s.slots) = found k s.slots (keyed l (tables e xs)) w eq in
          let ex : xs ≡ items_from (before ++ (table f ss ∷ after)) = sym (items_from-list xs) ∙ ap items_from items in
          let ys : Items = items_from (before ++ (table f us ∷ after)) in
          let made : SlotsAreWellMade ss = item-made before (table f ss) after (subst ItemsAreWellMade ex fd.made) in
          let other : items_under (changed_at i (on_slots (along way g))) xs ≡ ys =
          ap (λ z. items_from (changed_at i (on_slots (along way g)) z)) items
          ∙ ap items_from (change-item before (table f ss) after i (on_slots (along way g)) place) in
          let is_new : slots_under (along (into_element k i ∷ way) g) s.slots ≡ slots_from (fd.front ++ (keyed l (tables e ys) ∷ fd.back)) =
          ap slots_from (fd.change (on_item (on_items (changed_at i (on_slots (along way g))))))
          ∙ ap (λ z. slots_from (fd.front ++ (keyed l (tables e z) ∷ fd.back))) other in
          let is_old : s.slots ≡ slots_from (fd.front ++ (keyed l (tables e xs) ∷ fd.back)) = sym (slots_from-list s.slots)
          ∙ ap slots_from fd.is in
          let told : Told p ss us = along-told way g t made rest go in
          let inner : node_facts (table f us) p ≡ map (on_path G) (node_facts (table f ss) p) =
          ap (λ z. fact z a_table ∷ slots_facts us p) (sym (stays p (leads-out q v x below way t rest)))
          ∙ ap (λ zs. fact (G p) a_table ∷ zs) told.0 in
          let up : is_front r q ≡ true =
          front-through r p q (front-more r (at_element (element_count before) ∷ [])) (leads-above q v x below way t rest) in
          let out : is_front q r ≡ false =
          false-by (is_front q r) (λ d. true-false (is_front q p)
          (front-through q r p d (front-more r (at_element (element_count before) ∷ []))) (leads-out q v x below way t rest)) in
          let shown : is_shown (tables e ys) ≡ is_shown (tables e xs) = has-element before after f us
          ∙ sym (ap has_table ex ∙ has-element before after f ss) in
          let same : node_facts (tables e ys) r ≡ map (on_path G) (node_facts (tables e xs) r) =
          ap (λ z. fact z an_array ∷ tables_facts ys r 0) (sym (stays r out))
          ∙ ap (λ zs. fact (G r) an_array ∷ zs)
          (element-in-place r before after f f ss us (leads-above q v x below way t rest) inner
          ∙ ap (λ z. map (on_path G) (tables_facts z r 0)) (sym ex)) in
          subst (λ y. Told s.path y (slots_under (along (into_element k i ∷ way) g) s.slots)) (sym is_old)
          (subst (λ y. Told s.path (slots_from (fd.front ++ (keyed l (tables e xs) ∷ fd.back))) y) (sym is_new)
          (in-place s.path fd.front fd.back (keyed l (tables e xs)) (keyed l (tables e ys)) up fd.others_front fd.others_back shown same))
