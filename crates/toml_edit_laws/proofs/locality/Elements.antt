-- The elements of an array of tables before and after one of them.
use Rattle.std.proofs.Common.{◌≡◌, refl, sym, ◌∙◌, ap, ℕ, suc, ◌+◌, ◌<◌, ◌≤◌, arith, true, false, List, [], ◌∷◌, ◌++◌, append_assoc}
use Rattle.std.specs.Prelude.{◌==◌}
use Rattle.std.specs.List.{AllByRecursion}
use Rattle.std.proofs.lemmas.Bool.{eqb-true}
use Rattle.toml_edit_model.specs.Mode.{Mode}
use Rattle.toml_edit_model.specs.Paths.{Path, to_element}
use Rattle.toml_edit_model.specs.Tree.{Key, TableFields, Node, nothing, leaf, list, inline, table, tables, Items, no_items, item, Slots}
use Rattle.toml_edit_model.specs.Tree.{IsWellMade, ItemsAreWellMade}
use Rattle.toml_edit_model.specs.HeaderOrder.{Visit, visit_of, items_walk, slots_walk}
use Rattle.toml_edit_model.specs.Lists.{items_from}
use Rattle.toml_edit_laws.specs.Locality.{element_count}
use Rattle.toml_edit_laws.proofs.common.Tests.{false-by}
use Rattle.toml_edit_laws.proofs.common.PathLaws.{is_front, front-refl}
use Rattle.toml_edit_laws.proofs.locality.Blocks.{blocks}
use Rattle.toml_edit_laws.proofs.locality.Under.{IsBlockOut, apart-elements, node-under, all-blocks-append, blocks-out}

-- the number of the element after these
abbrev pub counted : ℕ → List Node → ℕ
counted n [] = n
counted n (table f ss ∷ xs) = counted (suc n) xs
counted n (_ ∷ xs) = counted n xs

pub counted-more : (n : ℕ) (xs : List Node) → counted n xs ≡ n + element_count xs
counted-more n [] = omega arith
counted-more n (table f ss ∷ xs) =
    let ih : counted (suc n) xs ≡ suc n + element_count xs = counted-more (suc n) xs in
    omega arith
counted-more n (tables e ys ∷ xs) = counted-more n xs
counted-more n (leaf s r d ∷ xs) = counted-more n xs
counted-more n (list f ys ∷ xs) = counted-more n xs
counted-more n (inline f ss ∷ xs) = counted-more n xs
counted-more n (nothing ∷ xs) = counted-more n xs

pub items-append : (xs ys : List Node) (p : Path) (ks : List Key) (n : ℕ)
    → items_walk (items_from (xs ++ ys)) p ks n ≡ items_walk (items_from xs) p ks n ++ items_walk (items_from ys) p ks (counted n xs)
items-append [] ys p ks n = refl
items-append (table f ss ∷ xs) ys p ks n =
    let own : List Visit = visit_of (to_element p n) ks true f ss ∷ slots_walk ss (to_element p n) ks in
    ap (λ vs. own ++ vs) (items-append xs ys p ks (suc n))
    ∙ sym (append_assoc own (items_walk (items_from xs) p ks (suc n)) (items_walk (items_from ys) p ks (counted (suc n) xs)))
items-append (tables e zs ∷ xs) ys p ks n = items-append xs ys p ks n
items-append (leaf s r d ∷ xs) ys p ks n = items-append xs ys p ks n
items-append (list f zs ∷ xs) ys p ks n = items-append xs ys p ks n
items-append (inline f ss ∷ xs) ys p ks n = items-append xs ys p ks n
items-append (nothing ∷ xs) ys p ks n = items-append xs ys p ks n

pub item-made : (before : List Node) (n : Node) (after : List Node) → ItemsAreWellMade (items_from (before ++ (n ∷ after))) → IsWellMade n
item-made [] n after h = h.0
item-made (m ∷ before) n after h = item-made before n after h.1

module _ (mode : Mode) where
  module _ (q p : Path) (m : ℕ) (above : is_front (to_element p m) q ≡ true) where
    element-out : (f : TableFields) (ss : Slots) (ks : List Key) (n : ℕ) → (m == n) ≡ false
        → AllByRecursion (IsBlockOut q) (blocks mode (visit_of (to_element p n) ks true f ss ∷ slots_walk ss (to_element p n) ks))
    element-out f ss ks n d =
        blocks-out q (to_element p n) (blocks mode (visit_of (to_element p n) ks true f ss ∷ slots_walk ss (to_element p n) ks))
        (apart-elements p q m n above d)
        (node-under mode (to_element p n) (table f ss) (to_element p n) ks true (front-refl (to_element p n)))

    differ : (n : ℕ) → (m ≡ n → ⊥) → (m == n) ≡ false
    differ n h = false-by (m == n) (λ e. h (eqb-true m n e))

    pub later-out : (xs : Items) (ks : List Key) (n : ℕ) → m < n → AllByRecursion (IsBlockOut q) (blocks mode (items_walk xs p ks n))
    later-out no_items ks n h = tt
    later-out (item (table f ss) xs) ks n h =
        let v = visit_of (to_element p n) ks true f ss in
        all-blocks-append mode (IsBlockOut q) (v ∷ slots_walk ss (to_element p n) ks) (items_walk xs p ks (suc n))
        (element-out f ss ks n (differ n (λ e. omega arith))) (later-out xs ks (suc n) (omega arith))
    later-out (item (tables e ys) xs) ks n h = later-out xs ks n h
    later-out (item (leaf s r d) xs) ks n h = later-out xs ks n h
    later-out (item (list f ys) xs) ks n h = later-out xs ks n h
    later-out (item (inline f ss) xs) ks n h = later-out xs ks n h
    later-out (item nothing xs) ks n h = later-out xs ks n h

    least : (n : ℕ) (xs : List Node) → n ≤ counted n xs
    least n xs = let e : counted n xs ≡ n + element_count xs = counted-more n xs in omega arith

    pub earlier-out : (xs : List Node) (ks : List Key) (n : ℕ) → counted n xs ≤ m
        → AllByRecursion (IsBlockOut q) (blocks mode (items_walk (items_from xs) p ks n))
    earlier-out [] ks n h = tt
    earlier-out (table f ss ∷ xs) ks n h =
        let v = visit_of (to_element p n) ks true f ss in
        let up : suc n ≤ counted (suc n) xs = least (suc n) xs in
        all-blocks-append mode (IsBlockOut q) (v ∷ slots_walk ss (to_element p n) ks) (items_walk (items_from xs) p ks (suc n))
        (element-out f ss ks n (differ n (λ e. omega arith))) (earlier-out xs ks (suc n) h)
    earlier-out (tables e ys ∷ xs) ks n h = earlier-out xs ks n h
    earlier-out (leaf s r d ∷ xs) ks n h = earlier-out xs ks n h
    earlier-out (list f ys ∷ xs) ks n h = earlier-out xs ks n h
    earlier-out (inline f ss ∷ xs) ks n h = earlier-out xs ks n h
    earlier-out (nothing ∷ xs) ks n h = earlier-out xs ks n h
