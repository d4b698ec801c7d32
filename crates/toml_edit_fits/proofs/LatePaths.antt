-- Which of two tables of the walk is too late after the other.
use Rattle.std.proofs.Common.{◌≡◌, refl, sym, ◌∙◌, ap, subst, ℕ, suc, ◌<◌, arith, Bool, true, false, List, [], ◌∷◌, ◌++◌, append_assoc}
use Rattle.std.proofs.Common.{append-nil}
use Rattle.std.specs.Prelude.{◌&&◌, ◌||◌, nat_lt}
use Rattle.std.proofs.lemmas.Bool.{lt-ltb, le-ltb, ne_eqb}
use Rattle.toml_edit_model.specs.Text.{Text, same_text}
use Rattle.toml_edit_model.specs.Paths.{Step, at_key, at_element, Path, same_step, same_path, to_key, to_element}
use Rattle.toml_edit_model.specs.Meaning.{parent}
use Rattle.toml_edit_model.specs.Tree.{Key, Node, nothing, leaf, list, inline, table, tables, Items, no_items, item, Slots, no_slots, slot}
use Rattle.toml_edit_model.specs.Tree.{has_key}
use Rattle.toml_edit_model.specs.HeaderOrder.{Visit, visit_of, node_walk, items_walk, slots_walk}
use Rattle.toml_edit_model.specs.Fits.{is_below, is_after_element, is_too_late}
use Rattle.toml_edit_laws.proofs.common.Tests.{and_left, and_right, true-false, false-by, same_text-is, same_text-swap}
use Rattle.toml_edit_laws.proofs.common.PathLaws.{same_step-refl, same_step-is, is_front, front-refl, front-more, front-through}
use Rattle.toml_edit_laws.proofs.common.Pairs.{AllPairs, all-across, pairs-append}
use Rattle.toml_edit_laws.proofs.common.Each.{all-map}
use Rattle.toml_edit_laws.proofs.accepted_prints.WalkPaths.{InNode, InSlots, InItems, node-in, items-in, slots-in, is_item_of}
use Rattle.toml_edit_fits.specs.OrderTests.{NodeIsApart, ItemsAreApart, SlotsAreApart}

-- ---- paths that begin alike

below-behind : (p u v : Path) → is_below (p ++ u) (p ++ v) ≡ is_below u v
below-behind [] u v = refl
below-behind (s ∷ p) u v = ap (λ b. b && is_below (p ++ u) (p ++ v)) (same_step-refl s) ∙ below-behind p u v

none-below-itself : (n : ℕ) → nat_lt n n ≡ false
none-below-itself n = le-ltb n n (omega arith)

after-behind : (p u v : Path) → is_after_element (p ++ u) (p ++ v) ≡ is_after_element u v
after-behind [] u v = refl
after-behind (at_key k ∷ p) u v =
    ap (λ b. b && is_after_element (p ++ u) (p ++ v)) (same_step-refl (at_key k)) ∙ after-behind p u v
after-behind (at_element n ∷ s ∷ p) u v =
    ap (λ b. b && is_after_element (s ∷ p ++ u) (s ∷ p ++ v)) (same_step-refl (at_element n)) ∙ after-behind (s ∷ p) u v
after-behind (at_element n ∷ []) [] [] = none-below-itself n
after-behind (at_element n ∷ []) [] (t ∷ v) = none-below-itself n
after-behind (at_element n ∷ []) (s ∷ u) v =
    ap (λ b. b && is_after_element (s ∷ u) v) (same_step-refl (at_element n))

front-rest : (p q : Path) → is_front p q ≡ true → (r : Path) × (q ≡ p ++ r)
front-rest [] q h = (q, refl)
front-rest (s ∷ p) [] h = absurd cc
front-rest (s ∷ p) (t ∷ q) h =
    let first : s ≡ t = same_step-is s t (and_left (same_step s t) (is_front p q) h) in
    let more = front-rest p q (and_right (same_step s t) (is_front p q) h) in
    (more.0, (let rest : q ≡ p ++ more.0 = more.1 in cc))

step-rest : (p : Path) (s : Step) (q : Path) → is_front (p ++ (s ∷ [])) q ≡ true → (r : Path) × (q ≡ p ++ (s ∷ r))
step-rest p s q h =
    let more = front-rest (p ++ (s ∷ [])) q h in (more.0, more.1 ∙ append_assoc p (s ∷ []) more.0)

parent-behind : (p : Path) (s : Step) (q : Path) → parent (p ++ (s ∷ q)) ≡ p ++ parent (s ∷ q)
parent-behind [] s q = refl
parent-behind (t ∷ []) s q = refl
parent-behind (t ∷ u ∷ p) s q = ap (λ r. t ∷ r) (parent-behind (u ∷ p) s q)

same-behind : (p q : Path) → same_path p (p ++ q) ≡ same_path [] q
same-behind [] q = refl
same-behind (s ∷ p) q = ap (λ b. b && same_path p (p ++ q)) (same_step-refl s) ∙ same-behind p q

-- what is below a key is below the path before it
pub in-slots-node : (p : Path) (ss : Slots) (v : Visit) → InSlots p ss v → is_front p v.path ≡ true
in-slots-node p ss v h = front-through p (to_key p h.0) v.path (front-more p (at_key h.0 ∷ [])) h.2.0

-- ---- two tables

late-behind : (p u v : Path) (x y : Visit) → x.path ≡ p ++ u → y.path ≡ p ++ v
    → is_too_late x y ≡ ((y.is_element && is_below v u) || (x.is_element && is_after_element u v))
late-behind p u v x y e f =
    ap (λ r. (y.is_element && is_below y.path r) || (x.is_element && is_after_element r y.path)) e
    ∙ ap (λ r. (y.is_element && is_below r (p ++ u)) || (x.is_element && is_after_element (p ++ u) r)) f
    ∙ ap (λ b. (y.is_element && b) || (x.is_element && is_after_element (p ++ u) (p ++ v))) (below-behind p v u)
    ∙ ap (λ b. (y.is_element && is_below v u) || (x.is_element && b)) (after-behind p u v)

none-late : (a b : Bool) → ((a && false) || (b && false)) ≡ false
none-late true true = refl
none-late true false = refl
none-late false true = refl
none-late false false = refl

one-late : (a b : Bool) → ((a && true) || (b && false)) ≡ a
one-late true b = refl
one-late false true = refl
one-late false false = refl

-- a table and one below it, by a key
module _ (p : Path) (ss : Slots) (x y : Visit) (is : x.path ≡ p) (under : InSlots p ss y) where
  own : x.path ≡ p ++ []
  own = is ∙ sym (append-nil p)

  pub below-calm : is_too_late x y ≡ false
  below-calm =
      let rest = step-rest p (at_key under.0) y.path under.2.0 in
      late-behind p [] (at_key under.0 ∷ rest.0) x y own rest.1 ∙ none-late y.is_element x.is_element

  pub below-late : is_too_late y x ≡ x.is_element
  below-late =
      let rest = step-rest p (at_key under.0) y.path under.2.0 in
      late-behind p (at_key under.0 ∷ rest.0) [] y x rest.1 own ∙ one-late x.is_element y.is_element

-- tables in different slots
other-key : (k l : Text) (ss : Slots) → has_key k ss ≡ false → has_key l ss ≡ true → same_text k l ≡ false
other-key k l ss none has =
    false-by (same_text k l) (λ e. true-false (has_key k ss) (subst (λ x. has_key x ss ≡ true) (sym (same_text-is k l e)) has) none)

module _ (p : Path) (k : Text) (ss : Slots) (x y : Visit) (none : has_key k ss
    ≡ false) (left : InNode (to_key p k) x) (right : InSlots p ss y) where
  pub slots-calm : is_too_late x y ≡ false
  slots-calm =
      let one = step-rest p (at_key k) x.path left.0 in
      let two = step-rest p (at_key right.0) y.path right.2.0 in
      let apart : same_text k right.0 ≡ false = other-key k right.0 ss none right.1 in
      let away : same_text right.0 k ≡ false = same_text-swap right.0 k ∙ apart in
      late-behind p (at_key k ∷ one.0) (at_key right.0 ∷ two.0) x y one.1 two.1
      ∙ ap (λ b. (y.is_element && (b && is_below two.0 one.0))
      || (x.is_element && (same_text k right.0 && is_after_element one.0 two.0))) away
      ∙ ap (λ b. (y.is_element && false) || (x.is_element && (b && is_after_element one.0 two.0))) apart
      ∙ none-late y.is_element x.is_element

  pub slots-late : is_too_late y x ≡ false
  slots-late =
      let one = step-rest p (at_key k) x.path left.0 in
      let two = step-rest p (at_key right.0) y.path right.2.0 in
      let apart : same_text k right.0 ≡ false = other-key k right.0 ss none right.1 in
      let away : same_text right.0 k ≡ false = same_text-swap right.0 k ∙ apart in
      late-behind p (at_key right.0 ∷ two.0) (at_key k ∷ one.0) y x two.1 one.1
      ∙ ap (λ b. (x.is_element && (b && is_below one.0 two.0))
      || (y.is_element && (same_text right.0 k && is_after_element two.0 one.0))) apart
      ∙ ap (λ b. (x.is_element && false) || (y.is_element && (b && is_after_element two.0 one.0))) away
      ∙ none-late x.is_element y.is_element

-- ---- tables in different elements of one array

after-other : (i m : ℕ) (q r : Path) → i < m → is_after_element (at_element i ∷ q) (at_element m ∷ r) ≡ false
after-other i m [] r h = le-ltb m i (omega arith)
after-other i m (s ∷ q) r h = ap (λ b. b && is_after_element (s ∷ q) r) (ne_eqb i m (λ e. absurd (omega (arith, e))))

abbrev pub is_end : Path → Bool
is_end [] = true
is_end (s ∷ q) = false

after-earlier : (i m : ℕ) (q r : Path) → i < m → is_after_element (at_element m ∷ r) (at_element i ∷ q) ≡ is_end r
after-earlier i m q [] h = lt-ltb i m h
after-earlier i m q (s ∷ r) h = ap (λ b. b && is_after_element (s ∷ r) q) (ne_eqb m i (λ e. absurd (omega (arith, e))))

below-other : (i m : ℕ) (q r : Path) → (i ≡ m → ⊥) → is_below (at_element i ∷ q) (at_element m ∷ r) ≡ false
below-other i m q r h = ap (λ b. b && is_below q r) (ne_eqb i m h)

item-rest : (p : Path) (m : ℕ) (r : Path) (y : Visit) → y.path ≡ p ++ (at_element m ∷ r) → is_item_of p y ≡ (y.is_element && is_end r)
item-rest p m [] y e =
    ap (λ q. y.is_element && same_path p (parent q)) e ∙ ap (λ q. y.is_element && same_path p q) (parent-behind p (at_element m) [])
    ∙ ap (λ b. y.is_element && b) (same-behind p [])
item-rest p m (s ∷ r) y e =
    ap (λ q. y.is_element && same_path p (parent q)) e ∙ ap (λ q. y.is_element && same_path p q) (parent-behind p (at_element m) (s ∷ r))
    ∙ ap (λ b. y.is_element && b) (same-behind p (parent (at_element m ∷ s ∷ r)))

-- a table below an element is no element of its array
pub below-no_item : (p : Path) (i : ℕ) (ss : Slots) (y : Visit) → InSlots (to_element p i) ss y → is_item_of p y ≡ false
below-no_item p i ss y under =
    let rest = step-rest (to_element p i) (at_key under.0) y.path under.2.0 in
    item-rest p i (at_key under.0 ∷ rest.0) y (rest.1 ∙ append_assoc p (at_element i ∷ []) (at_key under.0 ∷ rest.0)) ∙ none y.is_element
  where
    none : (b : Bool) → (b && false) ≡ false
    none true = refl
    none false = refl

pub own-item : (p : Path) (i : ℕ) (x : Visit) → x.path ≡ to_element p i → x.is_element ≡ true → is_item_of p x ≡ true
own-item p i x e h = item-rest p i [] x e ∙ ap (λ b. b && true) h

module _ (p : Path) (i : ℕ) (x y : Visit) (left : is_front (to_element p i) x.path ≡ true) (right : InItems p (suc i) y) where
  pub items-calm : is_too_late x y ≡ false
  items-calm =
      let m = right.0 in
      let more : i < m = right.1 in
      let one = step-rest p (at_element i) x.path left in
      let two = step-rest p (at_element m) y.path right.2 in
      late-behind p (at_element i ∷ one.0) (at_element m ∷ two.0) x y one.1 two.1
      ∙ ap (λ b. (y.is_element && b) || (x.is_element && is_after_element (at_element i ∷ one.0) (at_element m ∷ two.0)))
      (below-other m i two.0 one.0 (λ e. absurd (omega (arith, e, more))))
      ∙ ap (λ b. (y.is_element && false) || (x.is_element && b)) (after-other i m one.0 two.0 more) ∙ none-late y.is_element x.is_element

  pub items-late : is_too_late y x ≡ is_item_of p y
  items-late =
      let m = right.0 in
      let more : i < m = right.1 in
      let one = step-rest p (at_element i) x.path left in
      let two = step-rest p (at_element m) y.path right.2 in
      late-behind p (at_element m ∷ two.0) (at_element i ∷ one.0) y x two.1 one.1
      ∙ ap (λ b. (x.is_element && b) || (y.is_element && is_after_element (at_element m ∷ two.0) (at_element i ∷ one.0)))
      (below-other i m one.0 two.0 (λ e. absurd (omega (arith, e, more))))
      ∙ ap (λ b. (x.is_element && false) || (y.is_element && b)) (after-earlier i m one.0 two.0 more)
      ∙ left-none x.is_element (y.is_element && is_end two.0)
      ∙ sym (item-rest p m two.0 y two.1)
    where
      left-none : (a b : Bool) → ((a && false) || b) ≡ b
      left-none true b = refl
      left-none false b = refl

-- ---- no table is too late after an earlier one of the walk

abbrev pub Calm : Visit → Visit → Type 0
Calm x y = is_too_late x y ≡ false

mutual
  pub node-calm : (n : Node) (p : Path) (ks : List Key) → NodeIsApart n → AllPairs Calm (node_walk n p ks false)
  node-calm (table f ss) p ks apart =
      let v = visit_of p ks false f ss in (
        all-map (InSlots p ss) (Calm v) (slots_walk ss p ks) (λ y h. below-calm p ss v y refl h) (slots-in ss p ks),
        slots-are-calm ss p ks apart,
      )
  node-calm (tables e xs) p ks apart = items-are-calm xs p ks 0 apart
  node-calm (leaf s x y) p ks apart = tt
  node-calm (list f xs) p ks apart = tt
  node-calm (inline f ss) p ks apart = tt
  node-calm nothing p ks apart = tt

  pub items-are-calm : (xs : Items) (p : Path) (ks : List Key) (i : ℕ) → ItemsAreApart xs → AllPairs Calm (items_walk xs p ks i)
  items-are-calm no_items p ks i apart = tt
  items-are-calm (item (table f ss) xs) p ks i apart =
      let q = to_element p i in
      let v = visit_of q ks true f ss in
      let below = slots_walk ss q ks in
      let rest = items_walk xs p ks (suc i) in
      pairs-append Calm (v ∷ below) rest
      (all-map (InSlots q ss) (Calm v) below (λ y h. below-calm q ss v y refl h) (slots-in ss q ks), slots-are-calm ss q ks apart.0)
      (items-are-calm xs p ks (suc i) apart.1)
      (all-across (λ x. is_front q x.path ≡ true) (InItems p (suc i)) Calm (v ∷ below) rest (λ x y h g. items-calm p i x y h g)
      (front-refl q, all-map (InSlots q ss) (λ x. is_front q x.path ≡ true) below (λ x h. in-slots-node q ss x h) (slots-in ss q ks))
      (items-in xs p ks (suc i)))
  items-are-calm (item (tables e us) xs) p ks i apart = items-are-calm xs p ks i apart.1
  items-are-calm (item (leaf s x y) xs) p ks i apart = items-are-calm xs p ks i apart.1
  items-are-calm (item (list f us) xs) p ks i apart = items-are-calm xs p ks i apart.1
  items-are-calm (item (inline f us) xs) p ks i apart = items-are-calm xs p ks i apart.1
  items-are-calm (item nothing xs) p ks i apart = items-are-calm xs p ks i apart.1

  pub slots-are-calm : (ss : Slots) (p : Path) (ks : List Key) → SlotsAreApart ss → AllPairs Calm (slots_walk ss p ks)
  slots-are-calm no_slots p ks apart = tt
  slots-are-calm (slot k n ss) p ks apart =
      let first = node_walk n (to_key p k.name) (ks ++ (k ∷ [])) false in
      let rest = slots_walk ss p ks in
      pairs-append Calm first rest (node-calm n (to_key p k.name) (ks ++ (k ∷ [])) apart.1) (slots-are-calm ss p ks apart.2)
      (all-across (InNode (to_key p k.name)) (InSlots p ss) Calm first rest (λ x y h g. slots-calm p k.name ss x y apart.0 h g)
      (node-in n (to_key p k.name) (ks ++ (k ∷ []))) (slots-in ss p ks))
