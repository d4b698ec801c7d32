-- Steady trees by their parts: no dotted inline tables nor elements in them, and each block steady.
use Rattle.std.proofs.Common.{◌≡◌, refl, sym, ◌∙◌, ap, subst, ℕ, suc, Bool, true, false, List, [], ◌∷◌, ◌++◌}
use Rattle.std.specs.Prelude.{◌&&◌, ◌||◌, not, if◌then◌else◌}
use Rattle.std.specs.List.{AllByRecursion, list_all}
use Rattle.toml_edit_model.specs.Mode.{Mode}
use Rattle.toml_edit_model.specs.Text.{Text}
use Rattle.toml_edit_model.specs.Paths.{Path, to_key, to_element}
use Rattle.toml_edit_model.specs.Tree.{Key, Node, nothing, leaf, list, inline, table, tables, Items, no_items, item, Slots, no_slots, slot}
use Rattle.toml_edit_model.specs.Tree.{SlotsAreWellMade, ItemsAreWellMade, Tree}
use Rattle.toml_edit_model.specs.HeaderOrder.{Visit, visit_of, node_walk, items_walk, slots_walk, walk}
use Rattle.toml_edit_model.specs.Print.{has_header}
use Rattle.toml_edit_model.specs.Fits.{has_no_dotted_inline, has_steady_header, is_steady_visit, is_undotted, is_steady_in}
use Rattle.toml_edit_model.specs.Slots.{Slot, keyed, on_item, changed_at}
use Rattle.toml_edit_model.specs.Lists.{slot_list, slots_from, items_from, on_slots, on_items, is_dotted_inline}
use Rattle.toml_edit_laws.proofs.locality.Slots.{slots_under, items_under}
use Rattle.toml_edit_laws.specs.Locality.{Turn, into_table, into_element, Leads, along, element_count}
use Rattle.toml_edit_laws.proofs.common.Tests.{and_left, and_right, and_both, not-true}
use Rattle.toml_edit_laws.proofs.locality.Blocks.{block_of, blocks, IsSteadyTable, IsSteadyBlock}
use Rattle.toml_edit_laws.proofs.locality.Slots.{slots_from-list, items_from-list, Found, found, change-item}
use Rattle.toml_edit_laws.proofs.locality.Elements.{item-made}
use Rattle.toml_edit_laws.proofs.locality.Along.{IsFirmVisit}
use Rattle.toml_edit_laws.proofs.common.Each.{all-both, all-append, all-front, all-back, all-of, all-map}

pub of-all : {A : Type 0} (test : A → Bool) (xs : List A) → AllByRecursion (λ x. test x ≡ true) xs → list_all test xs ≡ true
of-all test [] h = refl
of-all test (x ∷ xs) h = and_both (test x) (list_all test xs) h.0 (of-all test xs h.1)

not-false : (a : Bool) → a ≡ false → not a ≡ true
not-false true h = sym h
not-false false h = refl

-- ---- no dotted inline tables, nor dotted elements

abbrev mutual
  pub NodeIsSound : Node → Type 0
  NodeIsSound (table f ss) = SlotsAreSound ss
  NodeIsSound (tables e xs) = ItemsAreSound xs
  NodeIsSound (leaf s r d) = Unit {0}
  NodeIsSound (list f xs) = Unit {0}
  NodeIsSound (inline f ss) = Unit {0}
  NodeIsSound nothing = Unit {0}

  pub ItemIsSound : Node → Type 0
  ItemIsSound (table f ss) = (f.is_dotted ≡ false) × SlotsAreSound ss
  ItemIsSound (tables e xs) = Unit {0}
  ItemIsSound (leaf s r d) = Unit {0}
  ItemIsSound (list f xs) = Unit {0}
  ItemIsSound (inline f ss) = Unit {0}
  ItemIsSound nothing = Unit {0}

  pub ItemsAreSound : Items → Type 0
  ItemsAreSound no_items = Unit {0}
  ItemsAreSound (item n xs) = ItemIsSound n × ItemsAreSound xs

  pub SlotsAreSound : Slots → Type 0
  SlotsAreSound no_slots = Unit {0}
  SlotsAreSound (slot k n ss) = (is_dotted_inline n ≡ false) × NodeIsSound n × SlotsAreSound ss

abbrev pub IsSoundVisit : Visit → Type 0
IsSoundVisit v = IsFirmVisit v × (has_no_dotted_inline v.slots ≡ true)

mutual
  node-sound : (n : Node) (p : Path) (ks : List Key) (b : Bool) → AllByRecursion IsSoundVisit (node_walk n p ks b) → NodeIsSound n
  node-sound (table f ss) p ks b h = slots-sound ss p ks h.0.1 h.1
  node-sound (tables e xs) p ks b h = items-sound xs p ks 0 h
  node-sound (leaf s r d) p ks b h = tt
  node-sound (list f xs) p ks b h = tt
  node-sound (inline f ss) p ks b h = tt
  node-sound nothing p ks b h = tt

  items-sound : (xs : Items) (p : Path) (ks : List Key) (n : ℕ) → AllByRecursion IsSoundVisit (items_walk xs p ks n) → ItemsAreSound xs
  items-sound no_items p ks n h = tt
  items-sound (item (table f ss) xs) p ks n h =
      let q : Path = to_element p n in (
        (h.0.0, slots-sound ss q ks h.0.1 (all-front IsSoundVisit (slots_walk ss q ks) (items_walk xs p ks (suc n)) h.1)),
        items-sound xs p ks (suc n) (all-back IsSoundVisit (slots_walk ss q ks) (items_walk xs p ks (suc n)) h.1),
      )
  items-sound (item (tables e ys) xs) p ks n h = (tt, items-sound xs p ks n h)
  items-sound (item (leaf s r d) xs) p ks n h = (tt, items-sound xs p ks n h)
  items-sound (item (list f ys) xs) p ks n h = (tt, items-sound xs p ks n h)
  items-sound (item (inline f ss) xs) p ks n h = (tt, items-sound xs p ks n h)
  items-sound (item nothing xs) p ks n h = (tt, items-sound xs p ks n h)

  slots-sound : (ss : Slots) (p : Path) (ks : List Key) → has_no_dotted_inline ss ≡ true → AllByRecursion IsSoundVisit (slots_walk ss p ks)
      → SlotsAreSound ss
  slots-sound no_slots p ks d h = tt
  slots-sound (slot k n ss) p ks d h =
      let own = node_walk n (to_key p k.name) (ks ++ (k ∷ [])) false in (
        not-true (is_dotted_inline n) (and_left (not (is_dotted_inline n)) (has_no_dotted_inline ss) d),
        node-sound n (to_key p k.name) (ks ++ (k ∷ [])) false (all-front IsSoundVisit own (slots_walk ss p ks) h),
        slots-sound ss p ks (and_right (not (is_dotted_inline n)) (has_no_dotted_inline ss) d)
            (all-back IsSoundVisit own (slots_walk ss p ks) h),
      )

pub no-dotted : (ss : Slots) → SlotsAreSound ss → has_no_dotted_inline ss ≡ true
no-dotted no_slots h = refl
no-dotted (slot k n ss) h =
    and_both (not (is_dotted_inline n)) (has_no_dotted_inline ss) (not-false (is_dotted_inline n) h.0) (no-dotted ss h.2)

mutual
  node-visits : (n : Node) (p : Path) (ks : List Key) → NodeIsSound n → AllByRecursion IsSoundVisit (node_walk n p ks false)
  node-visits (table f ss) p ks h = ((refl, no-dotted ss h), slots-visits ss p ks h)
  node-visits (tables e xs) p ks h = items-visits xs p ks 0 h
  node-visits (leaf s r d) p ks h = tt
  node-visits (list f xs) p ks h = tt
  node-visits (inline f ss) p ks h = tt
  node-visits nothing p ks h = tt

  items-visits : (xs : Items) (p : Path) (ks : List Key) (n : ℕ) → ItemsAreSound xs → AllByRecursion IsSoundVisit (items_walk xs p ks n)
  items-visits no_items p ks n h = tt
  items-visits (item (table f ss) xs) p ks n h =
      let q : Path = to_element p n in (
        (h.0.0, no-dotted ss h.0.1),
        all-append IsSoundVisit (slots_walk ss q ks) (items_walk xs p ks (suc n)) (slots-visits ss q ks h.0.1)
            (items-visits xs p ks (suc n) h.1),
      )
  items-visits (item (tables e ys) xs) p ks n h = items-visits xs p ks n h.1
  items-visits (item (leaf s r d) xs) p ks n h = items-visits xs p ks n h.1
  items-visits (item (list f ys) xs) p ks n h = items-visits xs p ks n h.1
  items-visits (item (inline f ss) xs) p ks n h = items-visits xs p ks n h.1
  items-visits (item nothing xs) p ks n h = items-visits xs p ks n h.1

  pub slots-visits : (ss : Slots) (p : Path) (ks : List Key) → SlotsAreSound ss → AllByRecursion IsSoundVisit (slots_walk ss p ks)
  slots-visits no_slots p ks h = tt
  slots-visits (slot k n ss) p ks h =
      all-append IsSoundVisit (node_walk n (to_key p k.name) (ks ++ (k ∷ [])) false) (slots_walk ss p ks)
      (node-visits n (to_key p k.name) (ks ++ (k ∷ [])) h.1) (slots-visits ss p ks h.2)

module _ (mode : Mode) where
  -- ---- steady trees

  pub record Steady (t : Tree) : Type 0 where
    pub root : t.root.is_dotted ≡ false
    pub sound : SlotsAreSound t.slots
    pub tables : AllByRecursion (IsSteadyTable mode) (walk t)

  abbrev table_test : Visit → Bool
  table_test v = (v.fields.is_dotted || not (has_header mode v)) || has_steady_header v

  pub steady-parts : (t : Tree) → is_steady_in mode t ≡ true → Steady t
  steady-parts t h =
      let undotted : is_undotted t ≡ true = and_left (is_undotted t) (list_all (is_steady_visit mode) (walk t)) h in
      let steady : AllByRecursion (λ v. is_steady_visit mode v ≡ true) (walk t) =
      all-of (is_steady_visit mode) (walk t) (and_right (is_undotted t) (list_all (is_steady_visit mode) (walk t)) h) in
      let firm : AllByRecursion (λ (v : Visit). not (v.is_element && v.fields.is_dotted) ≡ true) (walk t) =
      all-of (λ v. not (v.is_element && v.fields.is_dotted)) (walk t)
      (and_right (not t.root.is_dotted) (list_all (λ v. not (v.is_element && v.fields.is_dotted)) (walk t)) undotted) in
      let sound : AllByRecursion IsSoundVisit (walk t) =
      all-both IsFirmVisit (λ v. has_no_dotted_inline v.slots ≡ true) (walk t)
      (all-map (λ (v : Visit). not (v.is_element && v.fields.is_dotted)
      ≡ true) IsFirmVisit (walk t) (λ v e. not-true (v.is_element && v.fields.is_dotted) e) firm)
      (all-map (λ v. is_steady_visit mode v ≡ true) (λ v. has_no_dotted_inline v.slots
      ≡ true) (walk t) (λ v e. and_left (has_no_dotted_inline v.slots) (table_test v) e) steady) in
      record {
        root = not-true t.root.is_dotted (and_left (not t.root.is_dotted)
            (list_all (λ v. not (v.is_element && v.fields.is_dotted)) (walk t)) undotted);
        sound = slots-sound t.slots [] [] sound.0.1 sound.1;
        tables = all-map (λ v. is_steady_visit mode v ≡ true) (IsSteadyTable mode) (walk t)
            (λ v e. and_right (has_no_dotted_inline v.slots) (table_test v) e) steady;
      }

  pub steady-whole : (t : Tree) → Steady t → is_steady_in mode t ≡ true
  steady-whole t s =
      let visits : AllByRecursion IsSoundVisit (slots_walk t.slots [] []) = slots-visits t.slots [] [] s.sound in
      let firm : AllByRecursion (λ (v : Visit). not (v.is_element && v.fields.is_dotted) ≡ true) (walk t) = (
        refl,
        all-map IsSoundVisit (λ (v : Visit). not (v.is_element && v.fields.is_dotted)
            ≡ true) (slots_walk t.slots [] []) (λ v e. not-false (v.is_element && v.fields.is_dotted) e.0) visits,
      ) in
      let plain : AllByRecursion (λ (v : Visit). has_no_dotted_inline v.slots ≡ true) (walk t) = (
        no-dotted t.slots s.sound,
        all-map IsSoundVisit (λ (v : Visit). has_no_dotted_inline v.slots
            ≡ true) (slots_walk t.slots [] []) (λ v e. e.1) visits,
      ) in
      and_both (is_undotted t) (list_all (is_steady_visit mode) (walk t))
      (and_both (not t.root.is_dotted) (list_all (λ v. not (v.is_element && v.fields.is_dotted)) (walk t))
      (not-false t.root.is_dotted s.root)
      (of-all (λ v. not (v.is_element && v.fields.is_dotted)) (walk t) firm))
      (of-all (is_steady_visit mode) (walk t)
      (all-map (λ v. (has_no_dotted_inline v.slots ≡ true) × IsSteadyTable mode v) (λ v. is_steady_visit mode v
      ≡ true) (walk t) (λ v e. and_both (has_no_dotted_inline v.slots) (table_test v) e.0 e.1)
      (all-both (λ (v : Visit). has_no_dotted_inline v.slots ≡ true) (IsSteadyTable mode) (walk t) plain s.tables)))

  -- tables are steady where their blocks are
  pub steady-blocks : (vs : List Visit) → AllByRecursion (IsSteadyTable mode) vs → AllByRecursion IsSteadyBlock (blocks mode vs)
  steady-blocks [] h = tt
  steady-blocks (v ∷ vs) h = by_test v.fields.is_dotted h.0 (steady-blocks vs h.1)
    where
      by_test : (b : Bool) → ((b || not (has_header mode v)) || has_steady_header v) ≡ true → AllByRecursion IsSteadyBlock (blocks mode vs)
          → AllByRecursion IsSteadyBlock (if b then blocks mode vs else block_of mode v ∷ blocks mode vs)
      by_test true e ih = ih
      by_test false e ih = (e, ih)

  pub steady-tables : (vs : List Visit) → AllByRecursion IsSteadyBlock (blocks mode vs) → AllByRecursion (IsSteadyTable mode) vs
  steady-tables [] h = tt
  steady-tables (v ∷ vs) h = by_test v.fields.is_dotted h (steady-tables vs)
    where
      by_test : (b : Bool) → AllByRecursion IsSteadyBlock (if b then blocks mode vs else block_of mode v ∷ blocks mode vs)
          → (AllByRecursion IsSteadyBlock (blocks mode vs) → AllByRecursion (IsSteadyTable mode) vs)
          → (((b || not (has_header mode v)) || has_steady_header v) ≡ true) × AllByRecursion (IsSteadyTable mode) vs
      by_test true e ih = (refl, ih e)
      by_test false e ih = (e.0, ih e.1)

-- ---- along a way

pub sound-append : (xs ys : List (Slot Node)) → SlotsAreSound (slots_from xs) → SlotsAreSound (slots_from ys)
    → SlotsAreSound (slots_from (xs ++ ys))
sound-append [] ys h g = g
sound-append (x ∷ xs) ys h g = (h.0, h.1, sound-append xs ys h.2 g)

pub sound-front : (xs ys : List (Slot Node)) → SlotsAreSound (slots_from (xs ++ ys)) → SlotsAreSound (slots_from xs)
sound-front [] ys h = tt
sound-front (x ∷ xs) ys h = (h.0, h.1, sound-front xs ys h.2)

pub sound-back : (xs ys : List (Slot Node)) → SlotsAreSound (slots_from (xs ++ ys)) → SlotsAreSound (slots_from ys)
sound-back [] ys h = h
sound-back (x ∷ xs) ys h = sound-back xs ys h.2

pub sound-items : (xs ys : List Node) → ItemsAreSound (items_from xs) → ItemsAreSound (items_from ys)
    → ItemsAreSound (items_from (xs ++ ys))
sound-items [] ys h g = g
sound-items (x ∷ xs) ys h g = (h.0, sound-items xs ys h.1 g)

pub sound-items-front : (xs ys : List Node) → ItemsAreSound (items_from (xs ++ ys)) → ItemsAreSound (items_from xs)
sound-items-front [] ys h = tt
sound-items-front (x ∷ xs) ys h = (h.0, sound-items-front xs ys h.1)

pub sound-items-back : (xs ys : List Node) → ItemsAreSound (items_from (xs ++ ys)) → ItemsAreSound (items_from ys)
sound-items-back [] ys h = h
sound-items-back (x ∷ xs) ys h = sound-items-back xs ys h.1

-- the slot of a key, and the slots with another in its place
pub sound-slot : (k : Text) (s : Slot Node) (ss : Slots) → (fd : Found k s (slot_list ss)) → SlotsAreSound ss
    → SlotsAreSound (slots_from fd.front) × (is_dotted_inline s.item ≡ false) × NodeIsSound s.item × SlotsAreSound (slots_from fd.back)
sound-slot k s ss fd h =
    let all : SlotsAreSound (slots_from (fd.front ++ (s ∷ fd.back))) =
    subst SlotsAreSound (sym (slots_from-list ss) ∙ ap slots_from fd.is) h in
    let back = sound-back fd.front (s ∷ fd.back) all in
    (sound-front fd.front (s ∷ fd.back) all, back.0, back.1, back.2)

pub along-sound : (way : List Turn) (g : List (Slot Node) → List (Slot Node)) (s v : Visit) → SlotsAreWellMade s.slots
    → SlotsAreSound s.slots → Leads way s v
    → (SlotsAreWellMade v.slots → SlotsAreSound v.slots → SlotsAreSound (slots_under g v.slots))
    → SlotsAreSound (slots_under (along way g) s.slots)
along-sound [] g s v w h e go =
    subst (λ (x : Visit). SlotsAreWellMade x.slots → SlotsAreSound x.slots → SlotsAreSound (slots_under g x.slots)) (sym e) go w h
along-sound (into_table k ∷ way) g s v w h (l, f, ss, eq, rest) go =
    let t : Visit = visit_of (to_key s.path l.name) (s.keys ++ (l ∷ [])) false f ss in
    let us : Slots = slots_under (along way g) ss in
    let fd : Found k (keyed l (table f ss)) (slot_list s.slots) = found k s.slots (keyed l (table f ss)) w eq in
    let parts = sound-slot k (keyed l (table f ss)) s.slots fd h in
    let is_new : slots_under (along (into_table k ∷ way) g) s.slots ≡ slots_from (fd.front ++ (keyed l (table f us) ∷ fd.back)) =
    ap slots_from (fd.change (on_item (on_slots (along way g)))) in
    subst SlotsAreSound (sym is_new)
    (sound-append fd.front (keyed l (table f us) ∷ fd.back) parts.0 (refl, along-sound way g t v fd.made parts.2 rest go, parts.3))
along-sound (into_element k i ∷ way) g s v w h (l, e, xs, before, f, ss, after, eq, items, place, rest) go =
    let us : Slots = slots_under (along way g) ss in
    let fd : Found k (keyed l (tables e xs)) (slot_list s.slots) = found k s.slots (keyed l (tables e xs)) w eq in
    let parts = sound-slot k (keyed l (tables e xs)) s.slots fd h in
    let ex : xs ≡ items_from (before ++ (table f ss ∷ after)) = sym (items_from-list xs) ∙ ap items_from items in
    let other : items_under (changed_at i (on_slots (along way g))) xs ≡ items_from (before ++ (table f us ∷ after)) =
    ap (λ z. items_from (changed_at i (on_slots (along way g)) z)) items
    ∙ ap items_from (change-item before (table f ss) after i (on_slots (along way g)) place) in
    let is_new : slots_under (along (into_element k i ∷ way) g) s.slots
    ≡ slots_from (fd.front ++ ((keyed l (tables e (items_from (before ++ (table f us ∷ after))))) ∷ fd.back)) =
    ap slots_from (fd.change (on_item (on_items (changed_at i (on_slots (along way g))))))
    ∙ ap (λ z. slots_from (fd.front ++ (keyed l (tables e z) ∷ fd.back))) other in
    let made : SlotsAreWellMade ss = item-made before (table f ss) after (subst ItemsAreWellMade ex fd.made) in
    let inside : ItemsAreSound (items_from (before ++ (table f ss ∷ after))) = subst ItemsAreSound ex parts.2 in
    let mine = sound-items-back before (table f ss ∷ after) inside in
    subst SlotsAreSound (sym is_new)
    (sound-append fd.front ((keyed l (tables e (items_from (before ++ (table f us ∷ after))))) ∷ fd.back) parts.0 (
      refl,
      sound-items before (table f us ∷ after) (sound-items-front before (table f ss ∷ after) inside) (
        (
          mine.0.0,
          along-sound way g (visit_of (to_element (to_key s.path l.name) (element_count before)) (s.keys ++ (l ∷ [])) true f ss)
              v made mine.0.1 rest go,
        ),
        mine.1,
      ),
      parts.3,
    ))

-- the table at the end of a way is well made and sound
pub leads-made : (way : List Turn) (s v : Visit) → SlotsAreWellMade s.slots → Leads way s v → SlotsAreWellMade v.slots
leads-made [] s v w e = subst (λ (x : Visit). SlotsAreWellMade x.slots) e w
leads-made (into_table k ∷ way) s v w (l, f, ss, eq, rest) =
    leads-made way (visit_of (to_key s.path l.name) (s.keys ++ (l ∷ [])) false f ss) v ((found k s.slots (keyed l (table f ss)) w eq).made)
    rest
leads-made (into_element k i ∷ way) s v w (l, e, xs, before, f, ss, after, eq, items, place, rest) =
    let ex : xs ≡ items_from (before ++ (table f ss ∷ after)) = sym (items_from-list xs) ∙ ap items_from items in
    leads-made way (visit_of (to_element (to_key s.path l.name) (element_count before)) (s.keys ++ (l ∷ [])) true f ss) v
    (item-made before (table f ss) after (subst ItemsAreWellMade ex (found k s.slots (keyed l (tables e xs)) w eq).made)) rest

pub leads-sound : (way : List Turn) (s v : Visit) → SlotsAreWellMade s.slots → SlotsAreSound s.slots → Leads way s v → SlotsAreSound v.slots
leads-sound [] s v w h e = subst (λ (x : Visit). SlotsAreSound x.slots) e h
leads-sound (into_table k ∷ way) s v w h (l, f, ss, eq, rest) =
    let fd : Found k (keyed l (table f ss)) (slot_list s.slots) = found k s.slots (keyed l (table f ss)) w eq in
    leads-sound way (visit_of (to_key s.path l.name) (s.keys ++ (l ∷ [])) false f ss) v fd.made
    (sound-slot k (keyed l (table f ss)) s.slots fd h).2 rest
leads-sound (into_element k i ∷ way) s v w h (l, e, xs, before, f, ss, after, eq, items, place, rest) =
    let fd : Found k (keyed l (tables e xs)) (slot_list s.slots) = found k s.slots (keyed l (tables e xs)) w eq in
    let ex : xs ≡ items_from (before ++ (table f ss ∷ after)) = sym (items_from-list xs) ∙ ap items_from items in
    let inside : ItemsAreSound (items_from (before ++ (table f ss ∷ after))) =
    subst ItemsAreSound ex (sound-slot k (keyed l (tables e xs)) s.slots fd h).2 in
    leads-sound way (visit_of (to_element (to_key s.path l.name) (element_count before)) (s.keys ++ (l ∷ [])) true f ss) v
    (item-made before (table f ss) after (subst ItemsAreWellMade ex fd.made)) (sound-items-back before (table f ss ∷ after) inside).0.1 rest
