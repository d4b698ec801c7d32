-- The statements of a table stand at or below its path, and so outside of paths that part from it.
use Rattle.std.proofs.Common.{◌≡◌, refl, sym, subst, ℕ, suc, Bool, true, false, List, [], ◌∷◌, ◌++◌}
use Rattle.std.specs.Prelude.{◌&&◌, ◌||◌, ◌==◌, if◌then◌else◌}
use Rattle.std.specs.List.{AllByRecursion}
use Rattle.std.proofs.lemmas.Bool.{eq-eqb}
use Rattle.toml_edit_model.specs.Mode.{Mode}
use Rattle.toml_edit_model.specs.Text.{Text, same_text}
use Rattle.toml_edit_model.specs.Paths.{Step, at_key, at_element, Path, same_step, same_path, to_key, to_element}
use Rattle.toml_edit_model.specs.Tree.{Key, Node, nothing, leaf, list, inline, table, tables, Items, no_items, item, Slots, no_slots, slot}
use Rattle.toml_edit_model.specs.HeaderOrder.{Visit, visit_of, node_walk, items_walk, slots_walk}
use Rattle.toml_edit_model.specs.Print.{Line, line_of, value_of, is_line_node, inside_lines, lines_inside, table_lines, dotted_lines, below}
use Rattle.toml_edit_model.specs.Fits.{is_below}
use Rattle.toml_edit_laws.specs.Locality.{is_at_or_below}
use Rattle.toml_edit_laws.proofs.common.Tests.{and_left, and_right, false-by, true-false}
use Rattle.toml_edit_laws.proofs.common.PathLaws.{same_step-refl, same_step-is, is_front, front-more, front-through, front-keys, below-last}
use Rattle.toml_edit_laws.proofs.locality.Blocks.{Block, block_of, blocks, blocks-append}
use Rattle.toml_edit_laws.proofs.common.Each.{all-append, all-map}

-- ---- paths

-- at or below a path: it is the front
pub front-is : (p q : Path) → is_at_or_below p q ≡ is_front p q
front-is [] [] = refl
front-is [] (t ∷ q) = refl
front-is (s ∷ p) [] = refl
front-is (s ∷ p) (t ∷ q) = by_test (same_step s t) (front-is p q)
  where
    by_test : (b : Bool) → (same_path p q || is_below p q) ≡ is_front p q
        → ((b && same_path p q) || (b && is_below p q)) ≡ (b && is_front p q)
    by_test true e = e
    by_test false e = refl

-- the other path parts from the first
abbrev pub IsApart : Path → Path → Type 0
IsApart q r = (s : Path) → is_front r s ≡ true → is_front q s ≡ false

pub apart-keys : (p q : Path) (k l : Text) → is_front (to_key p k) q ≡ true → same_text k l ≡ false → IsApart q (to_key p l)
apart-keys p q k l h d s e =
    false-by (is_front q s) (λ g. true-false (same_text k l) (front-keys p s k l (front-through (to_key p k) q s h g) e) d)

front-elements : (p q : Path) (n m : ℕ) → is_front (to_element p n) q ≡ true → is_front (to_element p m) q ≡ true → (n == m) ≡ true
front-elements [] [] n m h g = absurd cc
front-elements [] (t ∷ q) n m h g =
    let first : at_element n ≡ t = same_step-is (at_element n) t (and_left (same_step (at_element n) t) true h) in
    let second : at_element m ≡ t = same_step-is (at_element m) t (and_left (same_step (at_element m) t) true g) in
    let same : n ≡ m = cc in
    eq-eqb n m same
front-elements (s ∷ p) [] n m h g = absurd cc
front-elements (s ∷ p) (t ∷ q) n m h g =
    front-elements p q n m (and_right (same_step s t) (is_front (to_element p n) q) h)
    (and_right (same_step s t) (is_front (to_element p m) q) g)

pub apart-elements : (p q : Path) (n m : ℕ) → is_front (to_element p n) q ≡ true → (n == m) ≡ false → IsApart q (to_element p m)
apart-elements p q n m h d s e =
    false-by (is_front q s) (λ g. true-false (n == m) (front-elements p s n m (front-through (to_element p n) q s h g) e) d)

pub not-longer : (p : Path) (x : Step) → is_front (p ++ (x ∷ [])) p ≡ false
not-longer [] x = refl
not-longer (s ∷ p) x = rw (same_step-refl s) (not-longer p x)

-- a path isn't below one that goes on from it
pub apart-above : (p q : Path) (x : Step) → is_front (p ++ (x ∷ [])) q ≡ true → is_front q p ≡ false
apart-above p q x h =
    false-by (is_front q p) (λ g. true-false (is_front (p ++ (x ∷ [])) p) (front-through (p ++ (x ∷ [])) q p h g) (not-longer p x))

-- a line of a block at or below a path, and outside of one
abbrev pub IsLineUnder : Path → Path → Line → Type 0
IsLineUnder r bp l = is_front r (below bp l.keys) ≡ true

abbrev pub IsLineOut : Path → Path → Line → Type 0
IsLineOut q bp l = is_front q (below bp l.keys) ≡ false

abbrev pub IsBlockUnder : Path → Block → Type 0
IsBlockUnder r b = (is_front r b.path ≡ true) × AllByRecursion (IsLineUnder r b.path) b.lines

abbrev pub IsBlockOut : Path → Block → Type 0
IsBlockOut q b = (is_front q b.path ≡ false) × AllByRecursion (IsLineOut q b.path) b.lines

module _ (mode : Mode) where
  -- ---- lines

  -- the lines of a slot
  abbrev pub slot_lines : Key → Node → List Key → List Line
  slot_lines k n ks = elim (is_line_node n) [
    | true ↦ line_of (ks ++ (k ∷ [])) n (value_of mode n)
    | false ↦
        dotted_lines mode n (ks ++ (k ∷ []))
  ]

  module _ (bp r : Path) where
    next-under : (ks : List Key) (k : Key) → is_front r (below bp ks) ≡ true → is_front r (below bp (ks ++ (k ∷ []))) ≡ true
    next-under ks k h =
        subst (λ p. is_front r p ≡ true) (sym (below-last bp ks k))
        (front-through r (below bp ks) (to_key (below bp ks) k.name) h (front-more (below bp ks) (at_key k.name ∷ [])))

    either-way : (b : Bool) (xs ys : List Line) → AllByRecursion (IsLineUnder r bp) xs → AllByRecursion (IsLineUnder r bp) ys
        → AllByRecursion (IsLineUnder r bp) (elim b [ true ↦ xs | false ↦ ys ])
    either-way true xs ys h g = h
    either-way false xs ys h g = g

    mutual
      inside-under : (ss : Slots) (ks : List Key) → is_front r (below bp ks) ≡ true
          → AllByRecursion (IsLineUnder r bp) (inside_lines mode ss ks)
      inside-under no_slots ks h = tt
      inside-under (slot k n ss) ks h =
          all-append (IsLineUnder r bp) (elim (is_line_node n) [
            | true ↦ line_of (ks ++ (k ∷ [])) n (value_of mode n)
            | false ↦
                lines_inside mode n (ks ++ (k ∷ []))
          ])
          (inside_lines mode ss ks)
          (either-way (is_line_node n) (line_of (ks ++ (k ∷ [])) n (value_of mode n)) (lines_inside mode n (ks ++ (k ∷ [])))
          (next-under ks k h, tt)
          (node-inside-under n (ks ++ (k ∷ [])) (next-under ks k h)))
          (inside-under ss ks h)

      node-inside-under : (n : Node) (ks : List Key) → is_front r (below bp ks) ≡ true
          → AllByRecursion (IsLineUnder r bp) (lines_inside mode n ks)
      node-inside-under (inline f ss) ks h = inside-under ss ks h
      node-inside-under (table f ss) ks h = inside-under ss ks h
      node-inside-under (leaf s d e) ks h = tt
      node-inside-under (list f xs) ks h = tt
      node-inside-under (tables e xs) ks h = tt
      node-inside-under nothing ks h = tt

    mutual
      pub lines-under : (ss : Slots) (ks : List Key) → is_front r (below bp ks) ≡ true
          → AllByRecursion (IsLineUnder r bp) (table_lines mode ss ks)
      lines-under no_slots ks h = tt
      lines-under (slot k n ss) ks h =
          all-append (IsLineUnder r bp) (slot_lines k n ks) (table_lines mode ss ks)
          (either-way (is_line_node n) (line_of (ks ++ (k ∷ [])) n (value_of mode n)) (dotted_lines mode n (ks ++ (k ∷ [])))
          (next-under ks k h, tt)
          (dotted-under n (ks ++ (k ∷ [])) (next-under ks k h)))
          (lines-under ss ks h)

      dotted-under : (n : Node) (ks : List Key) → is_front r (below bp ks) ≡ true
          → AllByRecursion (IsLineUnder r bp) (dotted_lines mode n ks)
      dotted-under (table f ss) ks h = if_dotted f.is_dotted (lines-under ss ks h)
        where
          if_dotted : (b : Bool) → AllByRecursion (IsLineUnder r bp) (table_lines mode ss ks)
              → AllByRecursion (IsLineUnder r bp) (if b then table_lines mode ss ks else [])
          if_dotted true g = g
          if_dotted false g = tt
      dotted-under (inline f ss) ks h = inside-under ss ks h
      dotted-under (leaf s d e) ks h = tt
      dotted-under (list f xs) ks h = tt
      dotted-under (tables e xs) ks h = tt
      dotted-under nothing ks h = tt

    pub slot-lines-under : (k : Key) (n : Node) (ks : List Key) → is_front r (below bp (ks ++ (k ∷ []))) ≡ true
        → AllByRecursion (IsLineUnder r bp) (slot_lines k n ks)
    slot-lines-under k n ks h =
        either-way (is_line_node n) (line_of (ks ++ (k ∷ [])) n (value_of mode n)) (dotted_lines mode n (ks ++ (k ∷ []))) (
          h,
          tt,
        ) (dotted-under n (ks ++ (k ∷ [])) h)

  -- ---- blocks

  pub all-block : (P : Block → Type 0) (v : Visit) (vs : List Visit) → P (block_of mode v) → AllByRecursion P (blocks mode vs)
      → AllByRecursion P (blocks mode (v ∷ vs))
  all-block P v vs h g = by_test v.fields.is_dotted
    where
      by_test : (b : Bool) → AllByRecursion P (if b then blocks mode vs else block_of mode v ∷ blocks mode vs)
      by_test true = g
      by_test false = (h, g)

  pub all-blocks-append : (P : Block → Type 0) (vs ws : List Visit) → AllByRecursion P (blocks mode vs) → AllByRecursion P (blocks mode ws)
      → AllByRecursion P (blocks mode (vs ++ ws))
  all-blocks-append P vs ws h g = rw (blocks-append mode vs ws) (all-append P (blocks mode vs) (blocks mode ws) h g)

  module _ (r : Path) where
    block-under : (v : Visit) → is_front r v.path ≡ true → IsBlockUnder r (block_of mode v)
    block-under v h = (h, lines-under v.path r v.slots [] h)

    further : (p : Path) (x : Step) → is_front r p ≡ true → is_front r (p ++ (x ∷ [])) ≡ true
    further p x h = front-through r p (p ++ (x ∷ [])) h (front-more p (x ∷ []))

    mutual
      pub node-under : (n : Node) (p : Path) (ks : List Key) (b : Bool) → is_front r p ≡ true
          → AllByRecursion (IsBlockUnder r) (blocks mode (node_walk n p ks b))
      node-under (table f ss) p ks b h =
          all-block (IsBlockUnder r) (visit_of p ks b f ss) (slots_walk ss p ks) (block-under (visit_of p ks b f ss) h)
          (slots-under ss p ks h)
      node-under (tables e xs) p ks b h = items-under xs p ks 0 h
      node-under (leaf s d e) p ks b h = tt
      node-under (list f xs) p ks b h = tt
      node-under (inline f ss) p ks b h = tt
      node-under nothing p ks b h = tt

      pub items-under : (xs : Items) (p : Path) (ks : List Key) (n : ℕ) → is_front r p ≡ true
          → AllByRecursion (IsBlockUnder r) (blocks mode (items_walk xs p ks n))
      items-under no_items p ks n h = tt
      items-under (item (table f ss) xs) p ks n h =
          let v = visit_of (to_element p n) ks true f ss in
          let up : is_front r (to_element p n) ≡ true = further p (at_element n) h in
          all-blocks-append (IsBlockUnder r) (v ∷ slots_walk ss (to_element p n) ks) (items_walk xs p ks (suc n))
          (all-block (IsBlockUnder r) v (slots_walk ss (to_element p n) ks) (block-under v up) (slots-under ss (to_element p n) ks up))
          (items-under xs p ks (suc n) h)
      items-under (item (tables e ys) xs) p ks n h = items-under xs p ks n h
      items-under (item (leaf s d e) xs) p ks n h = items-under xs p ks n h
      items-under (item (list f ys) xs) p ks n h = items-under xs p ks n h
      items-under (item (inline f ss) xs) p ks n h = items-under xs p ks n h
      items-under (item nothing xs) p ks n h = items-under xs p ks n h

      pub slots-under : (ss : Slots) (p : Path) (ks : List Key) → is_front r p ≡ true
          → AllByRecursion (IsBlockUnder r) (blocks mode (slots_walk ss p ks))
      slots-under no_slots p ks h = tt
      slots-under (slot k n ss) p ks h =
          all-blocks-append (IsBlockUnder r) (node_walk n (to_key p k.name) (ks ++ (k ∷ [])) false) (slots_walk ss p ks)
          (node-under n (to_key p k.name) (ks ++ (k ∷ [])) false (further p (at_key k.name) h)) (slots-under ss p ks h)

-- what is below a path that parts from another is outside of that
pub lines-out : (q r bp : Path) (ls : List Line) → IsApart q r → AllByRecursion (IsLineUnder r bp) ls → AllByRecursion (IsLineOut q bp) ls
lines-out q r bp ls a h = all-map (IsLineUnder r bp) (IsLineOut q bp) ls (λ l u. a (below bp l.keys) u) h

pub blocks-out : (q r : Path) (bs : List Block) → IsApart q r → AllByRecursion (IsBlockUnder r) bs → AllByRecursion (IsBlockOut q) bs
blocks-out q r bs a h = all-map (IsBlockUnder r) (IsBlockOut q) bs (λ b u. (a b.path u.0, lines-out q r b.path b.lines a u.1)) h
