-- The tables of elements that are counted anew, and what is printed of them.
use Rattle.std.proofs.Common.{◌≡◌, refl, sym, ◌∙◌, ap, ℕ, suc, ◌+◌, ◌≤◌, ◌<◌, arith, Bool, true, false, List, [], ◌∷◌, ◌++◌}
use Rattle.std.proofs.Common.{append_assoc}
use Rattle.std.specs.Prelude.{map, if◌then◌else◌, MatchBool}
use Rattle.std.specs.List.{AllByRecursion}
use Rattle.std.proofs.lemmas.List.{map-append}
use Rattle.toml_edit_model.specs.Mode.{Mode}
use Rattle.toml_edit_model.specs.Paths.{at_key, at_element, Path, to_key, to_element}
use Rattle.toml_edit_model.specs.Tree.{Key, TableFields, Node, nothing, leaf, list, inline, table, tables, Items, no_items, item, Slots}
use Rattle.toml_edit_model.specs.Tree.{no_slots, slot}
use Rattle.toml_edit_model.specs.HeaderOrder.{Visit, visit_of, node_walk, items_walk, slots_walk}
use Rattle.toml_edit_model.specs.Lists.{items_from}
use Rattle.toml_edit_model.specs.Fits.{HeaderSuits}
use Rattle.toml_edit_laws.proofs.common.Tests.{append-nil}
use Rattle.toml_edit_laws.proofs.locality.Blocks.{block_of, blocks, is_headed, bare}
use Rattle.toml_edit_laws.proofs.locality.Elements.{counted, counted-more}
use Rattle.toml_edit_laws.specs.Locality.{element_count}
use Rattle.toml_edit_edit_laws.proofs.fitting.Numbers.{recounted, count-later, count-earlier, recount, recount-element}
use Rattle.toml_edit_edit_laws.proofs.fitting.Blocks.{BlockSuits}
use Rattle.toml_edit_edit_laws.proofs.fitting.Whole.{moved, headers}

-- ---- the walk below a path is the walk with that path before each

abbrev under : Path → Visit → Visit
under a = moved (λ p. a ++ p)

mutual
  node-under : (n : Node) (a p : Path) (ks : List Key) (b : Bool) → node_walk n (a ++ p) ks b ≡ map (under a) (node_walk n p ks b)
  node-under (table f ss) a p ks b = ap (λ vs. visit_of (a ++ p) ks b f ss ∷ vs) (slots-under ss a p ks)
  node-under (tables e xs) a p ks b = items-under xs a p ks 0
  node-under (leaf s r d) a p ks b = refl
  node-under (list f xs) a p ks b = refl
  node-under (inline f ss) a p ks b = refl
  node-under nothing a p ks b = refl

  items-under : (xs : Items) (a p : Path) (ks : List Key) (n : ℕ) → items_walk xs (a ++ p) ks n ≡ map (under a) (items_walk xs p ks n)
  items-under no_items a p ks n = refl
  items-under (item (table f ss) xs) a p ks n =
      let own : Path → List Visit = λ z. visit_of z ks true f ss ∷ slots_walk ss z ks in
      ap (λ z. own z ++ items_walk xs (a ++ p) ks (suc n)) (append_assoc a p (at_element n ∷ []))
      ∙ ap (λ z. (visit_of (a ++ to_element p n) ks true f ss ∷ z) ++ items_walk xs (a ++ p) ks (suc n))
      (slots-under ss a (to_element p n) ks)
      ∙ ap (λ z. map (under a) (own (to_element p n)) ++ z) (items-under xs a p ks (suc n))
      ∙ sym (map-append (under a) (own (to_element p n)) (items_walk xs p ks (suc n)))
  items-under (item (tables e ys) xs) a p ks n = items-under xs a p ks n
  items-under (item (leaf s r d) xs) a p ks n = items-under xs a p ks n
  items-under (item (list f ys) xs) a p ks n = items-under xs a p ks n
  items-under (item (inline f ss) xs) a p ks n = items-under xs a p ks n
  items-under (item nothing xs) a p ks n = items-under xs a p ks n

  slots-under : (ss : Slots) (a p : Path) (ks : List Key) → slots_walk ss (a ++ p) ks ≡ map (under a) (slots_walk ss p ks)
  slots-under no_slots a p ks = refl
  slots-under (slot k n ss) a p ks =
      let js : List Key = ks ++ (k ∷ []) in
      ap (λ z. node_walk n z js false ++ slots_walk ss (a ++ p) ks) (append_assoc a p (at_key k.name ∷ []))
      ∙ ap (λ z. z ++ slots_walk ss (a ++ p) ks) (node-under n a (to_key p k.name) js false)
      ∙ ap (λ z. map (under a) (node_walk n (to_key p k.name) js false) ++ z) (slots-under ss a p ks)
      ∙ sym (map-append (under a) (node_walk n (to_key p k.name) js false) (slots_walk ss p ks))

-- ---- elements counted anew

module _ (r : Path) (n : ℕ) where
  abbrev pub anew : Visit → Visit
  anew = moved (recount r n)

  anew-under : (m : ℕ) (vs : List Visit) → map anew (map (under (to_element r m)) vs) ≡ map (under (to_element r (recounted n m))) vs
  anew-under m [] = refl
  anew-under m (v ∷ vs) =
      ap (λ p. record v { path = p } ∷ map anew (map (under (to_element r m)) vs)) (recount-element r n m v.path)
      ∙ ap (λ z. under (to_element r (recounted n m)) v ∷ z) (anew-under m vs)

  -- the table of an element, and those below it
  abbrev element_walk : TableFields → Slots → List Key → Path → List Visit
  element_walk f ss ks p = visit_of p ks true f ss ∷ slots_walk ss p ks

  element-anew : (f : TableFields) (ss : Slots) (ks : List Key) (m : ℕ)
      → map anew (element_walk f ss ks (to_element r m)) ≡ element_walk f ss ks (to_element r (recounted n m))
  element-anew f ss ks m =
      let old : Path = to_element r m in
      let new : Path = to_element r (recounted n m) in
      sym (ap (λ z. map anew (element_walk f ss ks z)) (append-nil old))
      ∙ ap (map anew) (node-under (table f ss) old [] ks true)
      ∙ anew-under m (node_walk (table f ss) [] ks true)
      ∙ sym (node-under (table f ss) new [] ks true)
      ∙ ap (element_walk f ss ks) (append-nil new)

  pub later-anew : (xs : Items) (ks : List Key) (m : ℕ) → n ≤ m → map anew (items_walk xs r ks (suc m)) ≡ items_walk xs r ks m
  later-anew no_items ks m h = refl
  later-anew (item (table f ss) xs) ks m h =
      map-append anew (element_walk f ss ks (to_element r (suc m))) (items_walk xs r ks (suc (suc m)))
      ∙ ap (λ z. z ++ map anew (items_walk xs r ks (suc (suc m))))
      (element-anew f ss ks (suc m) ∙ ap (λ z. element_walk f ss ks (to_element r z)) (count-later n m h))
      ∙ ap (λ z. element_walk f ss ks (to_element r m) ++ z) (later-anew xs ks (suc m) (omega arith))
  later-anew (item (tables e ys) xs) ks m h = later-anew xs ks m h
  later-anew (item (leaf s d e) xs) ks m h = later-anew xs ks m h
  later-anew (item (list f ys) xs) ks m h = later-anew xs ks m h
  later-anew (item (inline f ss) xs) ks m h = later-anew xs ks m h
  later-anew (item nothing xs) ks m h = later-anew xs ks m h

  least : (m : ℕ) (xs : List Node) → m ≤ counted m xs
  least m xs = let e : counted m xs ≡ m + element_count xs = counted-more m xs in omega arith

  pub earlier-anew : (xs : List Node) (ks : List Key) (m : ℕ) → counted m xs ≤ n
      → map anew (items_walk (items_from xs) r ks m) ≡ items_walk (items_from xs) r ks m
  earlier-anew [] ks m h = refl
  earlier-anew (table f ss ∷ xs) ks m h =
      let up : suc m ≤ counted (suc m) xs = least (suc m) xs in
      let less : m < n = omega arith in
      map-append anew (element_walk f ss ks (to_element r m)) (items_walk (items_from xs) r ks (suc m))
      ∙ ap (λ z. z ++ map anew (items_walk (items_from xs) r ks (suc m)))
      (element-anew f ss ks m ∙ ap (λ z. element_walk f ss ks (to_element r z)) (count-earlier n m less))
      ∙ ap (λ z. element_walk f ss ks (to_element r m) ++ z) (earlier-anew xs ks (suc m) h)
  earlier-anew (tables e ys ∷ xs) ks m h = earlier-anew xs ks m h
  earlier-anew (leaf s d e ∷ xs) ks m h = earlier-anew xs ks m h
  earlier-anew (list f ys ∷ xs) ks m h = earlier-anew xs ks m h
  earlier-anew (inline f ss ∷ xs) ks m h = earlier-anew xs ks m h
  earlier-anew (nothing ∷ xs) ks m h = earlier-anew xs ks m h

-- ---- what is printed of tables at other paths

module _ (mode : Mode) (move : Path → Path) where
  pub moved-headers : (vs : List Visit) → headers (blocks mode (map (moved move) vs)) ≡ map (moved move) (headers (blocks mode vs))
  moved-headers [] = refl
  moved-headers (v ∷ vs) = by_tests v.fields.is_dotted (is_headed (block_of mode v)) refl (moved-headers vs)
    where
      by_tests : (c d : Bool) → is_headed (block_of mode v) ≡ d
          → headers (blocks mode (map (moved move) vs)) ≡ map (moved move) (headers (blocks mode vs))
          → headers (if c then blocks mode (map (moved move) vs) else block_of mode (moved move v) ∷ blocks mode (map (moved move) vs))
          ≡ map (moved move) (headers (if c then blocks mode vs else block_of mode v ∷ blocks mode vs))
      by_tests true d e ih = ih
      by_tests false true e ih = rw e (ap (λ z. moved move (bare (block_of mode v)) ∷ z) ih)
      by_tests false false e ih = rw e ih

  pub moved-suit : (vs : List Visit) → AllByRecursion (BlockSuits mode) (blocks mode vs)
      → AllByRecursion (BlockSuits mode) (blocks mode (map (moved move) vs))
  moved-suit [] h = tt
  moved-suit (v ∷ vs) h = by_test v.fields.is_dotted h (moved-suit vs)
    where
      header : (b : Bool) → MatchBool b (HeaderSuits mode (bare (block_of mode v))) (Unit {0})
          → MatchBool b (HeaderSuits mode (bare (block_of mode (moved move v)))) (Unit {0})
      header true s = record { inner = s.inner; segments = s.segments; leading = s.leading; trailing = s.trailing }
      header false s = tt

      by_test : (b : Bool) → AllByRecursion (BlockSuits mode) (if b then blocks mode vs else block_of mode v ∷ blocks mode vs)
          → (AllByRecursion (BlockSuits mode) (blocks mode vs) → AllByRecursion (BlockSuits mode) (blocks mode (map (moved move) vs)))
          → AllByRecursion (BlockSuits mode)
          (if b then blocks mode (map (moved move) vs) else block_of mode (moved move v) ∷ blocks mode (map (moved move) vs))
      by_test true h f = f h
      by_test false h f = ((header (is_headed (block_of mode v)) h.0.0, h.0.1), f h.1)
