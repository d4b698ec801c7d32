-- The visits of a print: their places, their order, and which are below the root.
use Rattle.std.proofs.Common.{false, ◌≡◌, true, refl, ◌∷◌, ◌++◌, Bool, ℤ, List, [], suc, ℕ}
use Rattle.toml_edit_model.specs.HeaderOrder.{Visit, is_root, places_from, place_of, PlacedVisit, comes_before, slots_walk, items_walk}
use Rattle.toml_edit_model.specs.HeaderOrder.{node_walk}
use Rattle.toml_edit_model.specs.Paths.{Step, same_step, Path, to_key, to_element}
use Rattle.toml_edit_laws.proofs.common.PathLaws.{same_step-refl}
use Rattle.toml_edit_laws.proofs.common.Tests.{and_both}
use Rattle.toml_edit_model.specs.Fits.{is_below}
use Rattle.std.specs.List.{AllByRecursion, list_all}
use Rattle.std.specs.Prelude.{if◌then◌else◌, not, ◌&&◌, int_le, ◌||◌}
use Rattle.toml_edit_laws.proofs.common.OrderLaws.{int_le-total, int_le-trans}
use Rattle.toml_edit_model.specs.Tree.{no_items, leaf, no_slots, table, nothing, inline, Items, tables, Key, Node, list, Slots, item, slot}
use Rattle.toml_edit_laws.proofs.common.Lists.{not_empty-last}
use Rattle.toml_edit_laws.proofs.common.Each.{all-append}
use Rattle.toml_edit_model.specs.Text.{is_empty}
use Rattle.toml_edit_model.specs.Order.{insert_by}

-- the root alone has no keys
abbrev pub IsBelowRoot : Visit → Type 0
IsBelowRoot v = is_root v ≡ false

pub below-more : (p : Path) (s : Step) (r : Path) → is_below p (p ++ (s ∷ r)) ≡ true
below-more [] s r = refl
below-more (t ∷ p) s r = and_both (same_step t t) (is_below p (p ++ (s ∷ r))) (same_step-refl t) (below-more p s r)

pub places-all : (P : Visit → Type 0) (seen : ℤ) (vs : List Visit) → AllByRecursion P vs
    → AllByRecursion (λ (v : PlacedVisit). P v.1) (places_from seen vs)
places-all P seen [] h = tt
places-all P seen (v ∷ vs) h = by_test v.fields.is_dotted (places-all P seen vs h.1) (places-all P (place_of seen v) vs h.1)
  where
    by_test : (b : Bool) → AllByRecursion (λ (v : PlacedVisit). P v.1) (places_from seen vs)
        → AllByRecursion (λ (v : PlacedVisit). P v.1) (places_from (place_of seen v) vs)
        → AllByRecursion (λ (v : PlacedVisit). P v.1) (if b then places_from seen vs else (place_of seen v, v)
        ∷ places_from (place_of seen v) vs)
    by_test true g k = g
    by_test false g k = (h.0, k)

pub root-first : (r : PlacedVisit) (vs : List PlacedVisit) → is_root r.1 ≡ true → insert_by comes_before r vs ≡ r ∷ vs
root-first r [] h = refl
root-first r (v ∷ vs) h = rw h refl

-- no element among them is dotted
abbrev pub have_no_dotted : List Visit → Bool
have_no_dotted vs = list_all (λ v. not (v.is_element && v.fields.is_dotted)) vs

pub before-total : (g h : PlacedVisit) → comes_before g h ≡ false → comes_before h g ≡ true
before-total g h e = by_tests (is_root g.1) (is_root h.1) e
  where
    by_tests : (r s : Bool) → (r || (not s && int_le g.0 h.0)) ≡ false → (s || (not r && int_le h.0 g.0)) ≡ true
    by_tests true s e = absurd cc
    by_tests false true e = refl
    by_tests false false e = int_le-total g.0 h.0 e

pub before-trans : (a b c : PlacedVisit) → comes_before a b ≡ true → comes_before b c ≡ true → comes_before a c ≡ true
before-trans a b c h g = by_roots (is_root a.1) (is_root b.1) (is_root c.1) h g
  where
    by_roots : (x y z : Bool) → (x || (not y && int_le a.0 b.0)) ≡ true → (y || (not z && int_le b.0 c.0)) ≡ true
        → (x || (not z && int_le a.0 c.0)) ≡ true
    by_roots true y z h g = refl
    by_roots false true z h g = absurd cc
    by_roots false false true h g = absurd cc
    by_roots false false false h g = int_le-trans a.0 b.0 c.0 h g

mutual
  pub node-below : (n : Node) (p : Path) (ks : List Key) (b : Bool) → is_empty ks ≡ false → AllByRecursion IsBelowRoot (node_walk n p ks b)
  node-below (table f ss) p ks b h = (h, slots-below ss p ks)
  node-below (tables e xs) p ks b h = items-below xs p ks 0 h
  node-below (leaf s r d) p ks b h = tt
  node-below (list f xs) p ks b h = tt
  node-below (inline f ss) p ks b h = tt
  node-below nothing p ks b h = tt

  pub items-below : (xs : Items) (p : Path) (ks : List Key) (n : ℕ) → is_empty ks ≡ false
      → AllByRecursion IsBelowRoot (items_walk xs p ks n)
  items-below no_items p ks n h = tt
  items-below (item (table f ss) xs) p ks n h = (
    h,
    all-append IsBelowRoot (slots_walk ss (to_element p n) ks) (items_walk xs p ks (suc n)) (slots-below ss (to_element p n) ks)
        (items-below xs p ks (suc n) h),
  )
  items-below (item (tables e ys) xs) p ks n h = items-below xs p ks n h
  items-below (item (leaf s r d) xs) p ks n h = items-below xs p ks n h
  items-below (item (list f ys) xs) p ks n h = items-below xs p ks n h
  items-below (item (inline f ss) xs) p ks n h = items-below xs p ks n h
  items-below (item nothing xs) p ks n h = items-below xs p ks n h

  pub slots-below : (ss : Slots) (p : Path) (ks : List Key) → AllByRecursion IsBelowRoot (slots_walk ss p ks)
  slots-below no_slots p ks = tt
  slots-below (slot k n ss) p ks =
      all-append IsBelowRoot (node_walk n (to_key p k.name) (ks ++ (k ∷ [])) false) (slots_walk ss p ks)
      (node-below n (to_key p k.name) (ks ++ (k ∷ [])) false (not_empty-last ks k)) (slots-below ss p ks)
