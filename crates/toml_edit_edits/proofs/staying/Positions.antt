-- No position of a tree is after its last one.
use Rattle.std.proofs.Common.{◌≡◌, refl, sym, ◌∙◌, ap, subst, ℕ, suc, ℤ, pos, arith, Bool, true, false, List, [], ◌∷◌, ◌++◌, Option, Some, None}
use Rattle.std.specs.Prelude.{◌+ℤ◌, if◌then◌else◌, int_le, int_lt, unwrap_or}
use Rattle.std.specs.List.{AllByRecursion}
use Rattle.std.proofs.lemmas.Int.{ints}
use Rattle.toml_edit_model.specs.HeaderOrder.{Visit, items_walk, node_walk, slots_walk, visit_of, walk}
use Rattle.toml_edit_model.specs.Paths.{Path, to_element, to_key}
use Rattle.toml_edit_model.specs.Tree.{Items, Key, Node, Slots, Tree, inline, item, leaf, list, no_items, no_slots, nothing, slot, table, tables}
use Rattle.toml_edit_laws.proofs.common.Each.{all-append, all-map}
use Rattle.toml_edit_laws.proofs.common.OrderLaws.{int_le-total, int_le-trans}
use Rattle.toml_edit_edit_laws.specs.Commands.{root_item}
use Rattle.toml_edit_edits.specs.Sections.{HasNextPosition, after, last_position, later, latest, latest_items, latest_slots, next_position}

int_le-refl : (a : ℤ) → int_le a a ≡ true
int_le-refl a = grind (arith, ints)

just-before : (a b : ℤ) → int_le a b ≡ true → int_lt a (b +ℤ pos 1) ≡ true
just-before a b h = grind (arith, ints)

later-grows : (i : ℤ) (o : Option ℤ) → int_le i (later i o) ≡ true
later-grows i None = int_le-refl i
later-grows i (Some j) = by_test (int_le j i) refl
  where
    by_test : (b : Bool) → int_le j i ≡ b → int_le i (if b then i else j) ≡ true
    by_test true e = int_le-refl i
    by_test false e = int_le-total j i e

later-covers : (i : ℤ) (o : Option ℤ) → int_le (pos 0) i ≡ true → int_le (unwrap_or o (pos 0)) (later i o) ≡ true
later-covers i None h = h
later-covers i (Some j) h = by_test (int_le j i) refl
  where
    by_test : (b : Bool) → int_le j i ≡ b → int_le j (if b then i else j) ≡ true
    by_test true e = e
    by_test false e = int_le-refl j

mutual
  node-grows : (n : Node) (i : ℤ) → int_le i (latest i n) ≡ true
  node-grows nothing i = int_le-refl i
  node-grows (leaf s r d) i = int_le-refl i
  node-grows (list f xs) i = int_le-refl i
  node-grows (inline f ss) i = int_le-refl i
  node-grows (table f ss) i =
      int_le-trans i (later i f.position) (latest i (table f ss)) (later-grows i f.position) (slots-grow ss (later i f.position))
  node-grows (tables e xs) i = items-grow xs i

  items-grow : (xs : Items) (i : ℤ) → int_le i (latest_items i xs) ≡ true
  items-grow no_items i = int_le-refl i
  items-grow (item n xs) i = int_le-trans i (latest i n) (latest_items i (item n xs)) (node-grows n i) (items-grow xs (latest i n))

  slots-grow : (ss : Slots) (i : ℤ) → int_le i (latest_slots i ss) ≡ true
  slots-grow no_slots i = int_le-refl i
  slots-grow (slot k n ss) i = int_le-trans i (latest i n) (latest_slots i (slot k n ss)) (node-grows n i) (slots-grow ss (latest i n))

-- the table has no position after this one
abbrev IsUpTo : ℤ → Visit → Type 0
IsUpTo i v = int_le (unwrap_or v.fields.position (pos 0)) i ≡ true

up-to : (i j : ℤ) → int_le i j ≡ true → (vs : List Visit) → AllByRecursion (IsUpTo i) vs → AllByRecursion (IsUpTo j) vs
up-to i j h vs a = all-map (IsUpTo i) (IsUpTo j) vs (λ v e. int_le-trans (unwrap_or v.fields.position (pos 0)) i j e h) a

mutual
  node-covers : (n : Node) (i : ℤ) (p : Path) (ks : List Key) (b : Bool) → int_le (pos 0) i ≡ true
      → AllByRecursion (IsUpTo (latest i n)) (node_walk n p ks b)
  node-covers nothing i p ks b h = tt
  node-covers (leaf s r d) i p ks b h = tt
  node-covers (list f xs) i p ks b h = tt
  node-covers (inline f ss) i p ks b h = tt
  node-covers (table f ss) i p ks b h =
      let j : ℤ = later i f.position in (
        int_le-trans (unwrap_or f.position (pos 0)) j (latest_slots j ss) (later-covers i f.position h) (slots-grow ss j),
        slots-cover ss j p ks (int_le-trans (pos 0) i j h (later-grows i f.position)),
      )
  node-covers (tables e xs) i p ks b h = items-cover xs i p ks 0 h

  items-cover : (xs : Items) (i : ℤ) (p : Path) (ks : List Key) (n : ℕ) → int_le (pos 0) i ≡ true
      → AllByRecursion (IsUpTo (latest_items i xs)) (items_walk xs p ks n)
  items-cover no_items i p ks n h = tt
  items-cover (item (table f ss) xs) i p ks n h =
      let q : Path = to_element p n in
      let j : ℤ = latest i (table f ss) in
      all-append (IsUpTo (latest_items j xs)) (visit_of q ks true f ss ∷ slots_walk ss q ks) (items_walk xs p ks (suc n))
      (up-to j (latest_items j xs) (items-grow xs j) (visit_of q ks true f ss ∷ slots_walk ss q ks) (node-covers (table f ss) i q ks true h))
      (items-cover xs j p ks (suc n) (int_le-trans (pos 0) i j h (node-grows (table f ss) i)))
  items-cover (item (tables e ys) xs) i p ks n h =
      items-cover xs (latest i (tables e ys)) p ks n (int_le-trans (pos 0) i (latest i (tables e ys)) h (node-grows (tables e ys) i))
  items-cover (item nothing xs) i p ks n h = items-cover xs i p ks n h
  items-cover (item (leaf s r d) xs) i p ks n h = items-cover xs i p ks n h
  items-cover (item (list f ys) xs) i p ks n h = items-cover xs i p ks n h
  items-cover (item (inline f ss) xs) i p ks n h = items-cover xs i p ks n h

  slots-cover : (ss : Slots) (i : ℤ) (p : Path) (ks : List Key) → int_le (pos 0) i ≡ true
      → AllByRecursion (IsUpTo (latest_slots i ss)) (slots_walk ss p ks)
  slots-cover no_slots i p ks h = tt
  slots-cover (slot k n ss) i p ks h =
      let q : Path = to_key p k.name in
      let j : ℤ = latest i n in
      all-append (IsUpTo (latest_slots j ss)) (node_walk n q (ks ++ (k ∷ [])) false) (slots_walk ss p ks)
      (up-to j (latest_slots j ss) (slots-grow ss j) (node_walk n q (ks ++ (k ∷ [])) false) (node-covers n i q (ks ++ (k ∷ [])) false h))
      (slots-cover ss j p ks (int_le-trans (pos 0) i j h (node-grows n i)))

-- it has an earlier one than this
abbrev pub IsPlacedBefore : ℤ → Visit → Type 0
IsPlacedBefore i v = int_lt (unwrap_or v.fields.position (pos 0)) i ≡ true

after-is : (i : ℤ) → int_lt i last_position ≡ true → after i ≡ i +ℤ pos 1
after-is i h = ap (λ (b : Bool). if b then i +ℤ pos 1 else i) h

pub all-before : (t : Tree) → HasNextPosition t → AllByRecursion (IsPlacedBefore (next_position t)) (walk t)
all-before t room =
    let last : ℤ = latest (pos 0) (root_item t) in
    subst (λ (i : ℤ). AllByRecursion (IsPlacedBefore i) (walk t)) (sym (after-is last room))
    (all-map (IsUpTo last) (IsPlacedBefore (last +ℤ pos 1)) (walk t) (λ v e. just-before (unwrap_or v.fields.position (pos 0)) last e)
    (node-covers (root_item t) (pos 0) [] [] false refl))
