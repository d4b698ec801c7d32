-- The statements of a moved slot, and of all below it, stay in their order.
use Rattle.std.proofs.Common.{◌≡◌, refl, sym, ◌∙◌, ap, ℤ, ℕ, Bool, true, false, List, [], ◌∷◌, ◌++◌, append-nil, Some}
use Rattle.std.specs.Prelude.{not, filter, map, flat_map, take, drop, int_le, if◌then◌else◌}
use Rattle.std.specs.List.{AllByRecursion}
use Rattle.std.proofs.lemmas.List.{map-append}
use Rattle.std.proofs.lemmas.List.Elements.{filter-append}
use Rattle.std.proofs.lemmas.List.Folds.{flat_map-map}
use Rattle.toml_edit_model.specs.Mode.{Mode}
use Rattle.toml_edit_model.specs.Text.{Text, is_empty}
use Rattle.toml_edit_model.specs.Paths.{Path, to_key}
use Rattle.toml_edit_model.specs.Tree.{Key, Node, SlotsAreWellMade, Tree}
use Rattle.toml_edit_model.specs.HeaderOrder.{Visit, node_walk, slots_walk}
use Rattle.toml_edit_model.specs.Order.{sorted_by}
use Rattle.toml_edit_model.specs.Print.{Line, table_lines, below, Printed, printed, printed_line}
use Rattle.toml_edit_model.specs.Slots.{Slot, lookup_slot, without}
use Rattle.toml_edit_model.specs.Lists.{slot_list, slots_from}
use Rattle.toml_edit_model.specs.Rearranging.{inserted_slot, moved_slot}
use Rattle.toml_edit_laws.specs.Locality.{Turn, Leads, root_visit, edited, is_at_or_below}
use Rattle.toml_edit_laws.proofs.common.Each.{all-filter, all-map}
use Rattle.toml_edit_laws.proofs.common.Lists.{filter-image}
use Rattle.toml_edit_laws.proofs.common.OrderLaws.{none-left, sorted-image, int_le-total, int_le-trans}
use Rattle.toml_edit_laws.proofs.common.PathLaws.{is_front, front-refl}
use Rattle.toml_edit_laws.proofs.common.Sorting.{filter-sorted}
use Rattle.toml_edit_laws.proofs.common.Tests.{if-true, if-false}
use Rattle.toml_edit_laws.proofs.locality.Along.{tree_blocks}
use Rattle.toml_edit_laws.proofs.locality.Blocks.{Block, blocks, is_headed, block_header, block_printed, place, stands_first}
use Rattle.toml_edit_laws.proofs.locality.Blocks.{printed_blocks}
use Rattle.toml_edit_laws.proofs.locality.Printing.{printed_all, with_lines, printed-tree, block-out, header-same, headed-same}
use Rattle.toml_edit_laws.proofs.locality.Replacing.{map-itself}
use Rattle.toml_edit_laws.proofs.locality.Slots.{found, slots_under, slots_from-list}
use Rattle.toml_edit_laws.proofs.locality.Sound.{Steady, steady-parts, leads-made}
use Rattle.toml_edit_laws.proofs.locality.Splice.{lines-split, blocks-split, other-lines-out, other-blocks-out}
use Rattle.toml_edit_laws.proofs.locality.Under.{front-is, slot_lines, IsLineOut, IsBlockOut}
use Rattle.toml_edit_laws.proofs.locality.Filtering.{filter-alike}
use Rattle.toml_edit_edit_laws.specs.Placing.{inside, MovedInside}
use Rattle.toml_edit_edit_laws.proofs.placing.Lists.{Taken, taken, others-inserted}
use Rattle.toml_edit_edit_laws.proofs.placing.Moving.{moved-whole, lines-empty, moved-steady}

-- ---- filters

filter-flat : {A B : Type 0} (test : B → Bool) (f : A → List B) (xs : List A)
    → filter test (flat_map f xs) ≡ flat_map (λ x. filter test (f x)) xs
filter-flat test f [] = refl
filter-flat test f (x ∷ xs) = filter-append test (f x) (flat_map f xs) ∙ ap (λ ys. filter test (f x) ++ ys) (filter-flat test f xs)

-- what maps to nothing can be left out before
flat-some : {A B : Type 0} (f : A → List B) (xs : List A) → flat_map f xs ≡ flat_map f (filter (λ x. not (is_empty (f x))) xs)
flat-some f [] = refl
flat-some {A} {B} f (x ∷ xs) = by_list (f x) refl (flat-some f xs)
  where
    by_list : (ys : List B) → f x ≡ ys → flat_map f xs ≡ flat_map f (filter (λ x. not (is_empty (f x))) xs)
        → f x ++ flat_map f xs
        ≡ flat_map f (if not (is_empty ys) then x ∷ filter (λ x. not (is_empty (f x))) xs else filter (λ x. not (is_empty (f x))) xs)
    by_list [] e ih = ap (λ ys. ys ++ flat_map f xs) e ∙ ih
    by_list (y ∷ ys) e ih = ap (λ zs. f x ++ zs) ih

module _ (mode : Mode) (q : Path) where
  abbrev is_in : Printed → Bool
  is_in s = is_front q s.path

  -- the statements of a block that are of the path or below it
  abbrev within : Block → List Printed
  within b = filter is_in (block_printed mode b)

  abbrev has_any : Block → Bool
  has_any b = not (is_empty (within b))

  -- what of a block decides its place, and these statements
  abbrev part : Block → ℤ × List Printed
  part b = (place b, within b)

  abbrev goes_first : ℤ × List Printed → ℤ × List Printed → Bool
  goes_first x y = int_le x.0 y.0

  -- the parts of the blocks that have such statements
  abbrev parts : List Block → List (ℤ × List Printed)
  parts bs = map part (filter has_any (filter is_headed bs))

  inside-is : (t : Tree) → inside mode q t ≡ filter is_in (printed mode t)
  inside-is t = filter-alike (λ s. is_at_or_below q s.path) is_in (λ s. front-is q s.path) (printed mode t)

  -- ---- blocks

  parts-append : (xs ys : List Block) → parts (xs ++ ys) ≡ parts xs ++ parts ys
  parts-append xs ys =
      ap (λ z. map part (filter has_any z)) (filter-append is_headed xs ys)
      ∙ ap (map part) (filter-append has_any (filter is_headed xs) (filter is_headed ys))
      ∙ map-append part (filter has_any (filter is_headed xs)) (filter has_any (filter is_headed ys))

  parts-cons : (b : Block) (bs : List Block)
      → parts (b ∷ bs) ≡ (if is_headed b then (if has_any b then part b ∷ parts bs else parts bs) else parts bs)
  parts-cons b bs = by_tests (is_headed b) (has_any b) refl
    where
      by_tests : (h a : Bool) → has_any b ≡ a
          → map part (filter has_any (if h then b ∷ filter is_headed bs else filter is_headed bs))
          ≡ (if h then (if a then part b ∷ parts bs else parts bs) else parts bs)
      by_tests true true e =
          ap (map part) (if-true (has_any b) (b ∷ filter has_any (filter is_headed bs)) (filter has_any (filter is_headed bs)) e)
      by_tests true false e =
          ap (map part) (if-false (has_any b) (b ∷ filter has_any (filter is_headed bs)) (filter has_any (filter is_headed bs)) e)
      by_tests false a e = refl

  none-within : (b : Block) → IsBlockOut q b → within b ≡ []
  none-within b out = none-left is_in (block_printed mode b) (block-out mode q b out)

  no-parts : (bs : List Block) → AllByRecursion (IsBlockOut q) bs → parts bs ≡ []
  no-parts bs out =
      ap (map part)
      (none-left has_any (filter is_headed bs)
      (all-map (IsBlockOut q) (λ b. has_any b ≡ false) (filter is_headed bs) (λ b d. ap (λ ss. not (is_empty ss)) (none-within b d))
      (all-filter (IsBlockOut q) is_headed bs out)))

  -- the statements are those of the parts in order
  blocks-within : (bs : List Block) → filter is_in (printed_blocks mode bs) ≡ flat_map (λ x. x.1) (sorted_by goes_first (parts bs))
  blocks-within bs =
      let hs : List Block = filter is_headed bs in
      filter-flat is_in (block_printed mode) (sorted_by stands_first hs)
      ∙ flat-some within (sorted_by stands_first hs)
      ∙ ap (flat_map within)
      (filter-sorted stands_first (λ a b c. int_le-trans (place a) (place b) (place c))
      (λ a b. int_le-total (place a) (place b)) has_any hs)
      ∙ sym (flat_map-map (λ (x : ℤ × List Printed). x.1) part (sorted_by stands_first (filter has_any hs)))
      ∙ ap (flat_map (λ (x : ℤ × List Printed). x.1)) (sym (sorted-image part goes_first (filter has_any hs)))

  all-within : (r : Block) (bs : List Block)
      → filter is_in (printed_all mode (r ∷ bs)) ≡ within r ++ flat_map (λ x. x.1) (sorted_by goes_first (parts bs))
  all-within r bs = filter-append is_in (block_printed mode r) (printed_blocks mode bs) ∙ ap (λ ss. within r ++ ss) (blocks-within bs)

  -- ---- one block and the parts behind it

  same-within : (front : List Block) (b c : Block) (bs cs : List Block) → within c ≡ within b → is_headed c ≡ is_headed b
      → place c ≡ place b → parts cs ≡ parts bs
      → filter is_in (printed_all mode (front ++ (c ∷ cs))) ≡ filter is_in (printed_all mode (front ++ (b ∷ bs)))
  same-within [] b c bs cs e h p d =
      all-within c cs ∙ ap (λ ss. ss ++ flat_map (λ x. x.1) (sorted_by goes_first (parts cs))) e
      ∙ ap (λ xs. within b ++ flat_map (λ x. x.1) (sorted_by goes_first xs)) d
      ∙ sym (all-within b bs)
  same-within (r ∷ front) b c bs cs e h p d =
      all-within r (front ++ (c ∷ cs)) ∙ ap (λ xs. within r ++ flat_map (λ x. x.1) (sorted_by goes_first xs)) same
      ∙ sym (all-within r (front ++ (b ∷ bs)))
    where
      one : parts (c ∷ cs) ≡ parts (b ∷ bs)
      one =
          parts-cons c cs
          ∙ ap (λ z. if z then (if has_any c then part c ∷ parts cs else parts cs) else parts cs) h
          ∙ ap (λ z. if is_headed b then (if not (is_empty z) then (place c, z) ∷ parts cs else parts cs) else parts cs) e
          ∙ ap (λ z. if is_headed b then (if has_any b then (z, within b) ∷ parts cs else parts cs) else parts cs) p
          ∙ ap (λ z. if is_headed b then (if has_any b then part b ∷ z else z) else z) d
          ∙ sym (parts-cons b bs)

      same : parts (front ++ (c ∷ cs)) ≡ parts (front ++ (b ∷ bs))
      same = parts-append front (c ∷ cs) ∙ ap (λ xs. parts front ++ xs) one ∙ sym (parts-append front (b ∷ bs))

  -- blocks around others
  parts-around : (xs ms ys : List Block) → AllByRecursion (IsBlockOut q) xs → AllByRecursion (IsBlockOut q) ys
      → parts (xs ++ (ms ++ ys)) ≡ parts ms
  parts-around xs ms ys f g =
      parts-append xs (ms ++ ys) ∙ ap (λ z. z ++ parts (ms ++ ys)) (no-parts xs f)
      ∙ parts-append ms ys ∙ ap (λ z. parts ms ++ z) (no-parts ys g) ∙ append-nil (parts ms)

  -- ---- lines

  abbrev is_line_in : Path → Line → Bool
  is_line_in bp l = is_front q (below bp l.keys)

  lines-around : (bp : Path) (xs ms ys : List Line) → AllByRecursion (IsLineOut q bp) xs → AllByRecursion (IsLineOut q bp) ys
      → filter (is_line_in bp) (xs ++ (ms ++ ys)) ≡ filter (is_line_in bp) ms
  lines-around bp xs ms ys f g =
      filter-append (is_line_in bp) xs (ms ++ ys) ∙ ap (λ z. z ++ filter (is_line_in bp) (ms ++ ys)) (none-left (is_line_in bp) xs f)
      ∙ filter-append (is_line_in bp) ms ys ∙ ap (λ z. filter (is_line_in bp) ms ++ z) (none-left (is_line_in bp) ys g)
      ∙ append-nil (filter (is_line_in bp) ms)

  -- a block with other lines, of which the same are below the path
  lines-within : (b : Block) (ls : List Line) → is_headed (with_lines b ls) ≡ is_headed b
      → filter (is_line_in b.path) ls ≡ filter (is_line_in b.path) b.lines
      → within (with_lines b ls) ≡ within b
  lines-within b ls h e =
      ap (λ z. filter is_in (z ++ map (printed_line mode b.path) ls)) (header-same mode b ls h)
      ∙ filter-append is_in (block_header mode b) (map (printed_line mode b.path) ls)
      ∙ ap (λ z. filter is_in (block_header mode b) ++ z)
      (filter-image (printed_line mode b.path) is_in ls ∙ ap (map (printed_line mode b.path)) e
      ∙ sym (filter-image (printed_line mode b.path) is_in b.lines))
      ∙ sym (filter-append is_in (block_header mode b) (map (printed_line mode b.path) b.lines))

-- ---- the law

module _ (mode : Mode) (t : Tree) (way : List Turn) (v : Visit) (k : Text) (i : ℕ) (s : Slot Node)
    (made : SlotsAreWellMade t.slots) (st : Steady mode t) (leads : Leads way (root_visit t) v)
    (is_there : lookup_slot k (slot_list v.slots) ≡ Some s) where
  abbrev g : List (Slot Node) → List (Slot Node)
  g = moved_slot k i

  abbrev u : Tree
  u = edited way g t

  abbrev q : Path
  q = to_key v.path s.key.name

  abbrev rest : List (Slot Node)
  rest = slot_list (slots_from (without k (slot_list v.slots)))

  tk : Taken k s (slot_list v.slots) rest
  tk = taken k s v.slots is_there (found k v.slots s (leads-made way (root_visit t) v made leads) is_there)

  is_old : v.slots ≡ slots_from (inserted_slot tk.at s rest)
  is_old = sym (slots_from-list v.slots) ∙ ap slots_from tk.is

  is_new : slots_under g v.slots ≡ slots_from (inserted_slot i s rest)
  is_new = ap slots_from (tk.moved i)

  -- only the slot's own lines and blocks are below its path
  lines-at : (j : ℕ) (bp : Path) (lk : List Key) → below bp lk ≡ v.path
      → filter (is_line_in mode q bp) (table_lines mode (slots_from (inserted_slot j s rest)) lk)
      ≡ filter (is_line_in mode q bp) (slot_lines mode s.key s.item lk)
  lines-at j bp lk at =
      let others = others-inserted s.key.name j rest tk.others in
      ap (filter (is_line_in mode q bp)) (lines-split mode (take j rest) s (drop j rest) lk)
      ∙ lines-around mode q bp (table_lines mode (slots_from (take j rest)) lk) (slot_lines mode s.key s.item lk)
      (table_lines mode (slots_from (drop j rest)) lk)
      (other-lines-out mode q v.path s.key.name (front-refl q) bp lk (take j rest) at others.0)
      (other-lines-out mode q v.path s.key.name (front-refl q) bp lk (drop j rest) at others.1)

  parts-at : (j : ℕ) → parts mode q (blocks mode (slots_walk (slots_from (inserted_slot j s rest)) v.path v.keys))
      ≡ parts mode q (blocks mode (node_walk s.item q (v.keys ++ (s.key ∷ [])) false))
  parts-at j =
      let others = others-inserted s.key.name j rest tk.others in
      ap (parts mode q) (blocks-split mode (take j rest) s (drop j rest) v.path v.keys)
      ∙ parts-around mode q (blocks mode (slots_walk (slots_from (take j rest)) v.path v.keys))
      (blocks mode (node_walk s.item q (v.keys ++ (s.key ∷ [])) false))
      (blocks mode (slots_walk (slots_from (drop j rest)) v.path v.keys))
      (other-blocks-out mode q v.path s.key.name (front-refl q) v.keys (take j rest) others.0)
      (other-blocks-out mode q v.path s.key.name (front-refl q) v.keys (drop j rest) others.1)

  same-parts : parts mode q (blocks mode (slots_walk (slots_under g v.slots) v.path v.keys))
      ≡ parts mode q (blocks mode (slots_walk v.slots v.path v.keys))
  same-parts =
      ap (λ z. parts mode q (blocks mode (slots_walk z v.path v.keys))) is_new ∙ parts-at i
      ∙ sym (ap (λ z. parts mode q (blocks mode (slots_walk z v.path v.keys))) is_old ∙ parts-at tk.at)

  same-lines : (bp : Path) (lk : List Key) → below bp lk ≡ v.path
      → filter (is_line_in mode q bp) (table_lines mode (slots_under g v.slots) lk)
      ≡ filter (is_line_in mode q bp) (table_lines mode v.slots lk)
  same-lines bp lk at =
      ap (λ z. filter (is_line_in mode q bp) (table_lines mode z lk)) is_new ∙ lines-at i bp lk at
      ∙ sym (ap (λ z. filter (is_line_in mode q bp) (table_lines mode z lk)) is_old ∙ lines-at tk.at bp lk at)

  slot-inside : inside mode q u ≡ inside mode q t
  slot-inside =
      let w = moved-whole mode t way v k i s made st leads is_there in
      let c : Block = with_lines w.block w.lines in
      let m : List Block = blocks mode (slots_walk v.slots v.path v.keys) in
      let n : List Block = blocks mode (slots_walk (slots_under g v.slots) v.path v.keys) in
      let headed : is_headed c ≡ is_headed w.block = headed-same w.block w.lines (lines-empty mode t way v k i s made st leads is_there) in
      let lines : filter (is_line_in mode q w.block.path) w.lines ≡ filter (is_line_in mode q w.block.path) w.block.lines =
      ap (filter (is_line_in mode q w.block.path)) w.changes.second
      ∙ lines-around mode q w.block.path w.changes.front
      (table_lines mode (slots_under g v.slots) w.keys) w.changes.back w.changes.out_front w.changes.out_back
      ∙ same-lines w.block.path w.keys w.at
      ∙ sym (ap (filter (is_line_in mode q w.block.path)) w.changes.first
      ∙ lines-around mode q w.block.path w.changes.front
      (table_lines mode v.slots w.keys) w.changes.back w.changes.out_front w.changes.out_back) in
      let tail : parts mode q (w.middle ++ (n ++ w.back)) ≡ parts mode q (w.middle ++ (m ++ w.back)) =
      parts-around mode q w.middle n w.back w.out_middle w.out_back ∙ same-parts
      ∙ sym (parts-around mode q w.middle m w.back w.out_middle w.out_back) in
      inside-is mode q u
      ∙ ap (filter (is_in mode q))
      (printed-tree mode u (moved-steady mode t way v k i s made st leads is_there)
      ∙ ap (printed_all mode)
      (sym (map-itself (tree_blocks mode u)) ∙ w.second ∙ map-itself (w.front ++ (c ∷ (w.middle ++ (n ++ w.back))))))
      ∙ same-within mode q w.front w.block c (w.middle ++ (m ++ w.back)) (w.middle ++ (n ++ w.back))
      (lines-within mode q w.block w.lines headed lines) headed refl tail
      ∙ ap (filter (is_in mode q)) (ap (printed_all mode) (sym w.first) ∙ sym (printed-tree mode t st))
      ∙ sym (inside-is mode q t)

module _ (mode : Mode) where
  pub moved_inside : MovedInside mode
  moved_inside t way v k i s made steady leads is_there = slot-inside mode t way v k i s made (steady-parts mode t steady) leads is_there
