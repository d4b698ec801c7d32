-- The tables that the walk enters have different paths, and the elements of each array come in the order of their numbers, from 0 on.
use Rattle.std.proofs.Common.{◌≡◌, refl, sym, ◌∙◌, ap, subst, ℕ, suc, ◌≤◌, arith, Bool, true, false, List, [], ◌∷◌, ◌++◌, ◌⊎◌, inl, inr}
use Rattle.std.specs.Prelude.{◌&&◌, ◌||◌, filter, if◌then◌else◌}
use Rattle.std.specs.List.{AllByRecursion}
use Rattle.std.proofs.lemmas.Bool.{cases_Bool}
use Rattle.std.proofs.lemmas.List.Elements.{filter-append}
use Rattle.toml_edit_model.specs.Text.{Text, same_text}
use Rattle.toml_edit_model.specs.Paths.{at_key, at_element, Path, same_step, same_path, to_key, to_element}
use Rattle.toml_edit_model.specs.Meaning.{parent}
use Rattle.toml_edit_model.specs.Tree.{Key, Node, nothing, leaf, list, inline, table, tables, Items, no_items, item, Slots, no_slots, slot}
use Rattle.toml_edit_model.specs.Tree.{Tree, has_key, IsWellMade, ItemsAreWellMade, SlotsAreWellMade}
use Rattle.toml_edit_model.specs.HeaderOrder.{Visit, visit_of, node_walk, items_walk, slots_walk, walk}
use Rattle.toml_edit_laws.proofs.common.Tests.{and_left, and_right, append-nil, same_text-refl, same_text-is, or-true, false-by, true-false}
use Rattle.toml_edit_laws.proofs.common.OrderLaws.{none-left}
use Rattle.toml_edit_laws.proofs.common.PathLaws.{same_step-is, same_path-is, same_path-refl, is_front, front-refl, front-more}
use Rattle.toml_edit_laws.proofs.common.PathLaws.{front-through, front-keys, parent-last, front-longer}
use Rattle.toml_edit_laws.proofs.common.Pairs.{AllPairs, all-across, pairs-append}
use Rattle.toml_edit_laws.proofs.common.Each.{all-append, all-map}

-- ---- paths

pub front-elements : (p q : Path) (i j : ℕ) → is_front (to_element p i) q ≡ true → is_front (to_element p j) q ≡ true → i ≡ j
front-elements [] [] i j h g = absurd cc
front-elements [] (t ∷ q) i j h g =
    let first : at_element i ≡ t = same_step-is (at_element i) t (and_left (same_step (at_element i) t) true h) in
    let second : at_element j ≡ t = same_step-is (at_element j) t (and_left (same_step (at_element j) t) true g) in
    cc
front-elements (s ∷ p) [] i j h g = absurd cc
front-elements (s ∷ p) (t ∷ q) i j h g =
    front-elements p q i j (and_right (same_step s t) (is_front (to_element p i) q) h)
    (and_right (same_step s t) (is_front (to_element p j) q) g)

front-step : (p : Path) (k : Text) → is_front p (to_key p k) ≡ true
front-step p k = front-more p (at_key k ∷ [])

front-item : (p : Path) (m : ℕ) → is_front p (to_element p m) ≡ true
front-item p m = front-more p (at_element m ∷ [])

-- ---- where the paths begin

abbrev pub InNode : Path → Visit → Type 0
InNode p v = (is_front p v.path ≡ true) × (v.is_element ≡ true → is_front p (parent v.path) ≡ true)

abbrev pub InSlots : Path → Slots → Visit → Type 0
InSlots p ss v = (k : Text) × (has_key k ss ≡ true) × InNode (to_key p k) v

abbrev pub InItems : Path → ℕ → Visit → Type 0
InItems p i v =
    (m : ℕ) × (i ≤ m) × (is_front (to_element p m) v.path ≡ true)
    × (v.is_element ≡ true → (v.path ≡ to_element p m) ⊎ (is_front (to_element p m) (parent v.path) ≡ true))

in-slots-node : (p : Path) (ss : Slots) (v : Visit) → InSlots p ss v → InNode p v
in-slots-node p ss v (k, has, h) =
    (front-through p (to_key p k) v.path (front-step p k) h.0, λ e. front-through p (to_key p k) (parent v.path) (front-step p k) (h.1 e))

in-items-node : (p : Path) (i : ℕ) (v : Visit) → InItems p i v → InNode p v
in-items-node p i v (m, le, here, own) = (
  front-through p (to_element p m) v.path (front-item p m) here,
  λ e. elim (own e) [
    | inl x ↦ subst (λ q. is_front p q ≡ true) (sym (ap parent x ∙ parent-last p (at_element m))) (front-refl p)
    | inr x ↦ front-through p (to_element p m) (parent v.path) (front-item p m) x
  ],
)

in-slots-items : (p : Path) (i : ℕ) (ss : Slots) (v : Visit) → InSlots (to_element p i) ss v → InItems p i v
in-slots-items p i ss v h =
    let node = in-slots-node (to_element p i) ss v h in
    (i, omega arith, node.0, λ e. inr (node.1 e))

mutual
  pub node-in : (n : Node) (p : Path) (ks : List Key) → AllByRecursion (InNode p) (node_walk n p ks false)
  node-in (table f ss) p ks =
      ((front-refl p, λ e. absurd cc), all-map (InSlots p ss) (InNode p) (slots_walk ss p ks) (in-slots-node p ss) (slots-in ss p ks))
  node-in (tables e xs) p ks = all-map (InItems p 0) (InNode p) (items_walk xs p ks 0) (in-items-node p 0) (items-in xs p ks 0)
  node-in (leaf s x y) p ks = tt
  node-in (list f xs) p ks = tt
  node-in (inline f ss) p ks = tt
  node-in nothing p ks = tt

  pub items-in : (xs : Items) (p : Path) (ks : List Key) (i : ℕ) → AllByRecursion (InItems p i) (items_walk xs p ks i)
  items-in no_items p ks i = tt
  items-in (item (table f ss) xs) p ks i = (
    (i, omega arith, front-refl (to_element p i), λ e. inl refl),
    all-append (InItems p i) (slots_walk ss (to_element p i) ks) (items_walk xs p ks (suc i))
        (all-map (InSlots (to_element p i) ss) (InItems p i) (slots_walk ss (to_element p i) ks) (in-slots-items p i ss)
        (slots-in ss (to_element p i) ks))
        (all-map (InItems p (suc i)) (InItems p i) (items_walk xs p ks (suc i)) (λ v h. (h.0, omega (arith, h.1), h.2, h.3))
        (items-in xs p ks (suc i))),
  )
  items-in (item (tables e us) xs) p ks i = items-in xs p ks i
  items-in (item (leaf s x y) xs) p ks i = items-in xs p ks i
  items-in (item (list f us) xs) p ks i = items-in xs p ks i
  items-in (item (inline f us) xs) p ks i = items-in xs p ks i
  items-in (item nothing xs) p ks i = items-in xs p ks i

  pub slots-in : (ss : Slots) (p : Path) (ks : List Key) → AllByRecursion (InSlots p ss) (slots_walk ss p ks)
  slots-in no_slots p ks = tt
  slots-in (slot k n ss) p ks =
      all-append (InSlots p (slot k n ss)) (node_walk n (to_key p k.name) (ks ++ (k ∷ [])) false) (slots_walk ss p ks)
      (all-map (InNode (to_key p k.name)) (InSlots p (slot k n ss)) (node_walk n (to_key p k.name) (ks ++ (k ∷ [])) false)
      (λ v h. (k.name, ap (λ b. b || has_key k.name ss) (same_text-refl k.name), h)) (node-in n (to_key p k.name) (ks ++ (k ∷ []))))
      (all-map (InSlots p ss) (InSlots p (slot k n ss)) (slots_walk ss p ks)
      (λ v h. (h.0, ap (λ b. same_text h.0 k.name || b) h.1 ∙ or-true (same_text h.0 k.name), h.2)) (slots-in ss p ks))

-- ---- different paths

abbrev pub Apart : Visit → Visit → Type 0
Apart v w = v.path ≡ w.path → ⊥

-- a key that isn't among the slots
other-keys : (p q : Path) (k l : Text) (ss : Slots) → has_key k ss ≡ false → has_key l ss ≡ true → is_front (to_key p k) q ≡ true
    → is_front (to_key p l) q ≡ true → ⊥
other-keys p q k l ss none has h g =
    true-false (has_key k ss) (subst (λ x. has_key x ss ≡ true) (sym (same_text-is k l (front-keys p q k l h g))) has) none

mutual
  pub node-apart : (n : Node) (p : Path) (ks : List Key) → IsWellMade n → AllPairs Apart (node_walk n p ks false)
  node-apart (table f ss) p ks made = (
    all-map (InSlots p ss) (λ w. p ≡ w.path → ⊥) (slots_walk ss p ks)
        (λ w h e. front-longer p (at_key h.0) [] (subst (λ q. is_front (to_key p h.0) q ≡ true) (sym e) h.2.0)) (slots-in ss p ks),
    slots-apart ss p ks made,
  )
  node-apart (tables e xs) p ks made = items-apart xs p ks 0 made
  node-apart (leaf s x y) p ks made = tt
  node-apart (list f xs) p ks made = tt
  node-apart (inline f ss) p ks made = tt
  node-apart nothing p ks made = tt

  pub items-apart : (xs : Items) (p : Path) (ks : List Key) (i : ℕ) → ItemsAreWellMade xs → AllPairs Apart (items_walk xs p ks i)
  items-apart no_items p ks i made = tt
  items-apart (item (table f ss) xs) p ks i made =
      let q = to_element p i in
      let below = slots_walk ss q ks in
      let rest = items_walk xs p ks (suc i) in (
        all-append (λ w. q ≡ w.path → ⊥) below rest
            (all-map (InSlots q ss) (λ w. q ≡ w.path → ⊥) below
            (λ w h e. front-longer q (at_key h.0) [] (subst (λ r. is_front (to_key q h.0) r ≡ true) (sym e) h.2.0)) (slots-in ss q ks))
            (all-map (InItems p (suc i)) (λ w. q ≡ w.path → ⊥) rest
            (λ w h e. let same : i ≡ h.0 = front-elements p q i h.0 (front-refl q) (subst (λ r. is_front (to_element p h.0) r
            ≡ true) (sym e) h.2) in
            let le : suc i ≤ h.0 = h.1 in absurd (omega arith)) (items-in xs p ks (suc i))),
        pairs-append Apart below rest (slots-apart ss q ks made.0) (items-apart xs p ks (suc i) made.1)
            (all-across (InSlots q ss) (InItems p (suc i)) Apart below rest
            (λ v w h g e.
            let same : i ≡ g.0 = front-elements p w.path i g.0 (subst (λ r. is_front q r ≡ true) e (in-slots-node q ss v h).0) g.2 in
            let le : suc i ≤ g.0 = g.1 in absurd (omega arith))
            (slots-in ss q ks) (items-in xs p ks (suc i))),
      )
  items-apart (item (tables e us) xs) p ks i made = items-apart xs p ks i made.1
  items-apart (item (leaf s x y) xs) p ks i made = items-apart xs p ks i made.1
  items-apart (item (list f us) xs) p ks i made = items-apart xs p ks i made.1
  items-apart (item (inline f us) xs) p ks i made = items-apart xs p ks i made.1
  items-apart (item nothing xs) p ks i made = items-apart xs p ks i made.1

  pub slots-apart : (ss : Slots) (p : Path) (ks : List Key) → SlotsAreWellMade ss → AllPairs Apart (slots_walk ss p ks)
  slots-apart no_slots p ks made = tt
  slots-apart (slot k n ss) p ks made =
      let first = node_walk n (to_key p k.name) (ks ++ (k ∷ [])) false in
      let rest = slots_walk ss p ks in
      pairs-append Apart first rest (node-apart n (to_key p k.name) (ks ++ (k ∷ [])) made.2) (slots-apart ss p ks made.3)
      (all-across (InNode (to_key p k.name)) (InSlots p ss) Apart first rest
      (λ v w h g e. other-keys p w.path k.name g.0 ss made.0 g.1 (subst (λ r. is_front (to_key p k.name) r ≡ true) e h.0) g.2.0)
      (node-in n (to_key p k.name) (ks ++ (k ∷ []))) (slots-in ss p ks))

-- The tables of a walk have different paths.
pub walk-apart : (t : Tree) → SlotsAreWellMade t.slots → AllPairs Apart (walk t)
walk-apart t made = (
  all-map (InSlots [] t.slots) (λ w. [] ≡ w.path → ⊥) (slots_walk t.slots [] [])
      (λ w h e. front-longer [] (at_key h.0) [] (subst (λ r. is_front (to_key [] h.0) r ≡ true) (sym e) h.2.0)) (slots-in t.slots [] []),
  slots-apart t.slots [] [] made,
)

-- ---- elements in order

-- the visit is of an element of the array at the path
abbrev pub is_item_of : Path → Visit → Bool
is_item_of P v = v.is_element && same_path P (parent v.path)

-- the paths of so many elements and those after them
abbrev pub Counted : ℕ → Path → List Visit → Type 0
Counted n P [] = Unit {0}
Counted n P (v ∷ vs) = (v.path ≡ to_element P n) × Counted (suc n) P vs

none-of : (P : Path) (xs : List Visit) → AllByRecursion (λ x. is_item_of P x ≡ true → ⊥) xs → filter (is_item_of P) xs ≡ []
none-of P xs h = none-left (is_item_of P) xs (all-map (λ x. is_item_of P x ≡ true → ⊥) (λ x. is_item_of P x
    ≡ false) xs (λ x f. false-by (is_item_of P x) f) h)

left-counted : (n : ℕ) (P : Path) (xs ys : List Visit) → filter (is_item_of P) ys ≡ [] → Counted n P (filter (is_item_of P) xs)
    → Counted n P (filter (is_item_of P) (xs ++ ys))
left-counted n P xs ys e h =
    subst (Counted n P) (sym (filter-append (is_item_of P) xs ys ∙ ap (λ zs. filter (is_item_of P) xs ++ zs) e
    ∙ append-nil (filter (is_item_of P) xs))) h

right-counted : (n : ℕ) (P : Path) (xs ys : List Visit) → filter (is_item_of P) xs ≡ [] → Counted n P (filter (is_item_of P) ys)
    → Counted n P (filter (is_item_of P) (xs ++ ys))
right-counted n P xs ys e h =
    subst (Counted n P) (sym (filter-append (is_item_of P) xs ys ∙ ap (λ zs. zs ++ filter (is_item_of P) ys) e)) h

pub item-parent : (P : Path) (v : Visit) → is_item_of P v ≡ true → P ≡ parent v.path
item-parent P v h = same_path-is P (parent v.path) (and_right v.is_element (same_path P (parent v.path)) h)

pub item-element : (P : Path) (v : Visit) → is_item_of P v ≡ true → v.is_element ≡ true
item-element P v h = and_left v.is_element (same_path P (parent v.path)) h

-- an element inside is one of an array inside
node-front : (P p : Path) (v : Visit) → InNode p v → is_item_of P v ≡ true → is_front p P ≡ true
node-front P p v h g = subst (λ q. is_front p q ≡ true) (sym (item-parent P v g)) (h.1 (item-element P v g))

abbrev pub start_at : Bool → ℕ → ℕ
start_at b i = if b then i else 0

-- what one element and those below and after it make
item-counted : (P p : Path) (i : ℕ) (v : Visit) (ss : Slots) (below rest : List Visit) → v.path ≡ to_element p i → v.is_element ≡ true
    → AllByRecursion (InSlots (to_element p i) ss) below → AllByRecursion (InItems p (suc i)) rest
    → Counted 0 P (filter (is_item_of P) below) → (b : Bool) → same_path P p ≡ b
    → Counted (start_at b (suc i)) P (filter (is_item_of P) rest)
    → Counted (start_at b i) P (filter (is_item_of P) (v ∷ (below ++ rest)))
item-counted P p i v ss below rest e element in_below in_rest below_counted true same rest_counted =
    let here : P ≡ p = same_path-is P p same in
    let mine : is_item_of P v ≡ true = ap (λ b. b && same_path P (parent v.path)) element
    ∙ ap (same_path P) (ap parent e ∙ parent-last p (at_element i)) ∙ same in
    rw mine (
      e ∙ ap (λ q. to_element q i) (sym here),
      right-counted (suc i) P below rest
          (none-of P below (all-map (InSlots (to_element p i) ss) (λ x. is_item_of P x ≡ true → ⊥) below
          (λ x h g. front-longer p (at_element i) [] (subst (λ q. is_front (to_element p i) q
          ≡ true) here (node-front P (to_element p i) x (in-slots-node (to_element p i) ss x h) g))) in_below))
          rest_counted,
    )
item-counted P p i v ss below rest e element in_below in_rest below_counted false same rest_counted =
    let mine : is_item_of P v ≡ false = ap (λ b. b && same_path P (parent v.path)) element
    ∙ ap (same_path P) (ap parent e ∙ parent-last p (at_element i)) ∙ same in
    rw mine (elim (cases_Bool (is_front (to_element p i) P)) [
      | inl x ↦ left-counted 0 P below rest
          (none-of P rest (all-map (InItems p (suc i)) (λ y. is_item_of P y ≡ true → ⊥) rest (λ y h g. later y h g x) in_rest))
          below_counted
      | inr x ↦ right-counted 0 P below rest
          (none-of P below (all-map (InSlots (to_element p i) ss) (λ y. is_item_of P y ≡ true → ⊥) below
          (λ y h g. true-false (is_front (to_element p i) P) (node-front P (to_element p i) y (in-slots-node (to_element p i) ss y h) g) x)
          in_below)) rest_counted
    ])
  where
    later : (y : Visit) → InItems p (suc i) y → is_item_of P y ≡ true → is_front (to_element p i) P ≡ true → ⊥
    later y h g x = elim (h.3 (item-element P y g)) [
      | inl o ↦ true-false (same_path P p)
          (subst (λ q. same_path P q ≡ true) (item-parent P y g ∙ ap parent o ∙ parent-last p (at_element h.0)) (same_path-refl P)) same
      | inr o ↦ (let equal : i ≡ h.0 = front-elements p P i h.0 x (subst (λ q. is_front (to_element p h.0) q
          ≡ true) (sym (item-parent P y g)) o) in
          let le : suc i ≤ h.0 = h.1 in absurd (omega arith))
    ]

mutual
  pub node-counted : (P : Path) (n : Node) (p : Path) (ks : List Key) → IsWellMade n
      → Counted 0 P (filter (is_item_of P) (node_walk n p ks false))
  node-counted P (table f ss) p ks made = slots-counted P ss p ks made
  node-counted P (tables e xs) p ks made =
      subst (λ n. Counted n P (filter (is_item_of P) (items_walk xs p ks 0))) (zero-start (same_path P p)) (items-counted P xs p ks 0 made)
    where
      zero-start : (b : Bool) → start_at b 0 ≡ 0
      zero-start true = refl
      zero-start false = refl
  node-counted P (leaf s x y) p ks made = tt
  node-counted P (list f xs) p ks made = tt
  node-counted P (inline f ss) p ks made = tt
  node-counted P nothing p ks made = tt

  pub items-counted : (P : Path) (xs : Items) (p : Path) (ks : List Key) (i : ℕ) → ItemsAreWellMade xs
      → Counted (start_at (same_path P p) i) P (filter (is_item_of P) (items_walk xs p ks i))
  items-counted P no_items p ks i made = tt
  items-counted P (item (table f ss) xs) p ks i made =
      let q = to_element p i in
      item-counted P p i (visit_of q ks true f ss) ss (slots_walk ss q ks) (items_walk xs p ks (suc i)) refl refl (slots-in ss q ks)
      (items-in xs p ks (suc i))
      (slots-counted P ss q ks made.0) (same_path P p) refl (items-counted P xs p ks (suc i) made.1)
  items-counted P (item (tables e us) xs) p ks i made = items-counted P xs p ks i made.1
  items-counted P (item (leaf s x y) xs) p ks i made = items-counted P xs p ks i made.1
  items-counted P (item (list f us) xs) p ks i made = items-counted P xs p ks i made.1
  items-counted P (item (inline f us) xs) p ks i made = items-counted P xs p ks i made.1
  items-counted P (item nothing xs) p ks i made = items-counted P xs p ks i made.1

  pub slots-counted : (P : Path) (ss : Slots) (p : Path) (ks : List Key) → SlotsAreWellMade ss
      → Counted 0 P (filter (is_item_of P) (slots_walk ss p ks))
  slots-counted P no_slots p ks made = tt
  slots-counted P (slot k n ss) p ks made =
      let q = to_key p k.name in
      let first = node_walk n q (ks ++ (k ∷ [])) false in
      let rest = slots_walk ss p ks in
      elim (cases_Bool (is_front q P)) [
        | inl x ↦ left-counted 0 P first rest
            (none-of P rest (all-map (InSlots p ss) (λ y. is_item_of P y ≡ true → ⊥) rest
            (λ y h g. other-keys p P k.name h.0 ss made.0 h.1 x (node-front P (to_key p h.0) y h.2 g)) (slots-in ss p ks)))
            (node-counted P n q (ks ++ (k ∷ [])) made.2)
        | inr x ↦ right-counted 0 P first rest
            (none-of P first (all-map (InNode q) (λ y. is_item_of P y ≡ true → ⊥) first
            (λ y h g. true-false (is_front q P) (node-front P q y h g) x) (node-in n q (ks ++ (k ∷ [])))))
            (slots-counted P ss p ks made.3)
      ]

-- The elements of each array stand in the walk in the order of their numbers, from 0 on.
pub walk-counted : (P : Path) (t : Tree) → SlotsAreWellMade t.slots → Counted 0 P (filter (is_item_of P) (walk t))
walk-counted P t made = slots-counted P t.slots [] [] made
