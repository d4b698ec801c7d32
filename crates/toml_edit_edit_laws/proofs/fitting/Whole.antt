-- An edited tree fits where its one changed block does and its statements keep the limits.
use Rattle.std.proofs.Common.{◌≡◌, refl, sym, ◌∙◌, ap, subst, ℤ, pos, Bool, true, false, List, [], ◌∷◌, ◌++◌}
use Rattle.std.specs.Prelude.{◌&&◌, ◌||◌, not, filter, map, if◌then◌else◌, int_le, unwrap_or, MatchBool}
use Rattle.std.specs.List.{AllByRecursion, list_all}
use Rattle.std.proofs.lemmas.List.{map-append}
use Rattle.std.proofs.lemmas.List.Folds.{list_all-map}
use Rattle.std.proofs.lemmas.List.Elements.{filter-append}
use Rattle.toml_edit_model.specs.Mode.{Mode}
use Rattle.toml_edit_model.specs.Syntax.{keeps_limits}
use Rattle.toml_edit_model.specs.Paths.{Path}
use Rattle.toml_edit_model.specs.Tree.{Key, Node, Tree}
use Rattle.toml_edit_model.specs.HeaderOrder.{Visit, walk}
use Rattle.toml_edit_model.specs.Print.{Line, statements_of}
use Rattle.toml_edit_model.specs.Fits.{is_below, is_after_element, is_too_late, none_too_late, HeaderSuits, PrintedLineSuits}
use Rattle.toml_edit_model.specs.Fits.{headed, FitsIn}
use Rattle.toml_edit_model.specs.Fits.{is_undotted, is_steady_visit}
use Rattle.toml_edit_model.specs.Order.{sorted_by}
use Rattle.toml_edit_model.specs.Slots.{Slot}
use Rattle.toml_edit_laws.specs.Locality.{Turn, edited}
use Rattle.toml_edit_laws.proofs.common.Tests.{and_left, not-true, if-true}
use Rattle.toml_edit_laws.proofs.common.PathLaws.{is_front}
use Rattle.toml_edit_laws.proofs.common.OrderLaws.{none-left, sorted-image, int_le-total, int_le-trans}
use Rattle.toml_edit_laws.proofs.common.Sorting.{filter-sorted}
use Rattle.toml_edit_laws.proofs.common.Each.{all-append, all-front, all-back, all-map, all-image, all-filter, filter-passes}
use Rattle.toml_edit_laws.proofs.locality.Blocks.{Block, is_headed, bare}
use Rattle.toml_edit_laws.proofs.locality.Under.{IsBlockOut}
use Rattle.toml_edit_laws.proofs.locality.Along.{Whole, tree_blocks}
use Rattle.toml_edit_laws.proofs.locality.Sound.{Steady, steady-whole}
use Rattle.toml_edit_laws.proofs.locality.Printing.{with_lines}
use Rattle.toml_edit_laws.proofs.locality.Replacing.{itself, map-itself}
use Rattle.toml_edit_edit_laws.proofs.fitting.Numbers.{KeepsOrder, keeps-same}
use Rattle.toml_edit_edit_laws.proofs.fitting.Orders.{late-filter, passes-alike}
use Rattle.toml_edit_edit_laws.proofs.fitting.Blocks.{BlockSuits, suit-blocks, suit-tables, ordered_headers, order-blocks}

-- ---- headers of blocks

abbrev pub headers : List Block → List Visit
headers bs = map bare (filter is_headed bs)

abbrev header_place : Visit → ℤ
header_place v = unwrap_or v.fields.position (pos 0)

abbrev goes_first : Visit → Visit → Bool
goes_first v w = int_le (header_place v) (header_place w)

headers-sorted : (bs : List Block) → ordered_headers bs ≡ sorted_by goes_first (headers bs)
headers-sorted bs = sym (sorted-image bare goes_first (filter is_headed bs))

pub headers-append : (xs ys : List Block) → headers (xs ++ ys) ≡ headers xs ++ headers ys
headers-append xs ys = ap (map bare) (filter-append is_headed xs ys) ∙ map-append bare (filter is_headed xs) (filter is_headed ys)

headers-changed : (b : Block) (ls : List Line) → is_headed (with_lines b ls) ≡ is_headed b
    → headers (with_lines b ls ∷ []) ≡ headers (b ∷ [])
headers-changed b ls e = by_tests (is_headed (with_lines b ls)) (is_headed b) e
  where
    by_tests : (c d : Bool) → c ≡ d → map bare (if c then with_lines b ls ∷ [] else []) ≡ map bare (if d then b ∷ [] else [])
    by_tests true true e = refl
    by_tests false false e = refl
    by_tests true false e = absurd cc
    by_tests false true e = absurd cc

-- a table at another path
abbrev pub moved : (Path → Path) → Visit → Visit
moved move v = record v { path = move v.path }

-- The headers outside of one path stay. Of those below it the ones of a second path, further down, are dropped, and others get
-- other paths, which keep the order of elements.
module _ (r q : Path) (move : Path → Path)
    (away : (p : Path) → is_front r p ≡ false → (is_front q p ≡ false) × (move p ≡ p))
    (orders : (x y : Path) → is_front q x ≡ false → is_front q y ≡ false → KeepsOrder x y (move x) (move y)) where
  abbrev is_kept : Visit → Bool
  is_kept v = not (is_front q v.path)

  abbrev pub kept : List Visit → List Visit
  kept vs = map (moved move) (filter is_kept vs)

  pub kept-append : (xs ys : List Visit) → kept (xs ++ ys) ≡ kept xs ++ kept ys
  kept-append xs ys =
      ap (map (moved move)) (filter-append is_kept xs ys) ∙ map-append (moved move) (filter is_kept xs) (filter is_kept ys)

  kept-all : (vs : List Visit) → AllByRecursion (λ (v : Visit). is_front r v.path ≡ false) vs → kept vs ≡ vs
  kept-all [] h = refl
  kept-all (v ∷ vs) h =
      ap (map (moved move)) (if-true (is_kept v) (v ∷ filter is_kept vs) (filter is_kept vs) (ap not (away v.path h.0).0))
      ∙ ap (λ p. record v { path = p } ∷ kept vs) (away v.path h.0).1
      ∙ ap (λ z. v ∷ z) (kept-all vs h.1)

  kept-out : (bs : List Block) → AllByRecursion (λ (b : Block). is_front r b.path ≡ false) bs → kept (headers bs) ≡ headers bs
  kept-out bs h =
      kept-all (headers bs)
      (all-image bare (λ (v : Visit). is_front r v.path ≡ false) (filter is_headed bs)
      (all-filter (λ (b : Block). is_front r b.path ≡ false) is_headed bs h))

  pub none-kept : (bs : List Block) → AllByRecursion (λ (b : Block). is_front q b.path ≡ true) bs → kept (headers bs) ≡ []
  none-kept bs h =
      ap (map (moved move))
      (none-left is_kept (headers bs)
      (all-image bare (λ v. is_kept v ≡ false) (filter is_headed bs)
      (all-filter (λ (b : Block). is_kept (bare b) ≡ false) is_headed bs
      (all-map (λ (b : Block). is_front q b.path ≡ true) (λ b. is_kept (bare b) ≡ false) bs (λ b e. ap not e) h))))

  out-paths : (bs : List Block) → AllByRecursion (IsBlockOut r) bs → AllByRecursion (λ (b : Block). is_front r b.path ≡ false) bs
  out-paths bs h = all-map (IsBlockOut r) (λ (b : Block). is_front r b.path ≡ false) bs (λ b e. e.0) h

  late-moved : (vs : List Visit) → AllByRecursion (λ v. is_kept v ≡ true) vs → none_too_late (map (moved move) vs) ≡ none_too_late vs
  late-moved [] h = refl
  late-moved (v ∷ vs) h =
      ap (λ b. b && none_too_late (map (moved move) vs))
      (list_all-map (λ x. not (is_too_late (moved move v) x)) (moved move) vs
      ∙ passes-alike (λ x. is_kept x ≡ true) (λ x. not (is_too_late (moved move v) (moved move x))) (λ x. not (is_too_late v x)) vs
      (λ x e. ap not (as-late x e)) h.1)
      ∙ ap (λ b. list_all (λ x. not (is_too_late v x)) vs && b) (late-moved vs h.1)
    where
      as-late : (x : Visit) → is_kept x ≡ true → is_too_late (moved move v) (moved move x) ≡ is_too_late v x
      as-late x e =
          let first = not-true (is_front q v.path) h.0 in
          let second = not-true (is_front q x.path) e in
          ap (λ b. (x.is_element && b) || (v.is_element && is_after_element (move v.path) (move x.path)))
          (orders x.path v.path second first).below
          ∙ ap (λ b. (x.is_element && is_below x.path v.path) || (v.is_element && b)) (orders v.path x.path first second).after

  ordered-kept : (vs : List Visit) → none_too_late (sorted_by goes_first vs) ≡ true → none_too_late (sorted_by goes_first (kept vs)) ≡ true
  ordered-kept vs h =
      ap none_too_late
      (sorted-image (moved move) goes_first (filter is_kept vs)
      ∙ ap (map (moved move))
      (sym (filter-sorted goes_first (λ a b c. int_le-trans (header_place a) (header_place b) (header_place c))
      (λ a b. int_le-total (header_place a) (header_place b)) is_kept vs)))
      ∙ late-moved (filter is_kept (sorted_by goes_first vs)) (filter-passes is_kept (sorted_by goes_first vs))
      ∙ late-filter is_kept (sorted_by goes_first vs) h

  module _ (mode : Mode) (v : Visit) (g : List (Slot Node) → List (Slot Node)) (M N : List Key → List Line) (m n : List Block)
      (inside : kept (headers m) ≡ headers n)
      (suit : AllByRecursion (BlockSuits mode) m → AllByRecursion (BlockSuits mode) n) (way : List Turn) (t : Tree)
      (st : Steady mode t) (new_st : Steady mode (edited way g t))
      (w : Whole mode r itself v g M N m n (tree_blocks mode t) (tree_blocks mode (edited way g t)))
      (same : is_headed (with_lines w.block w.lines) ≡ is_headed w.block) where
    abbrev u : Tree
    u = edited way g t

    abbrev other : Block
    other = with_lines w.block w.lines

    new-blocks : tree_blocks mode u ≡ w.front ++ (other ∷ (w.middle ++ (n ++ w.back)))
    new-blocks = sym (map-itself (tree_blocks mode u)) ∙ w.second ∙ map-itself (w.front ++ (other ∷ (w.middle ++ (n ++ w.back))))

    kept-blocks : (xs ys : List Block) (vs : List Visit) → kept (headers xs) ≡ vs → kept (headers (xs ++ ys)) ≡ vs ++ kept (headers ys)
    kept-blocks xs ys vs e =
        ap kept (headers-append xs ys) ∙ kept-append (headers xs) (headers ys) ∙ ap (λ z. z ++ kept (headers ys)) e

    kept-headers : kept (headers (tree_blocks mode t)) ≡ headers (tree_blocks mode u)
    kept-headers =
        ap (λ z. kept (headers z)) w.first
        ∙ kept-blocks w.front (w.block ∷ (w.middle ++ (m ++ w.back))) (headers w.front) (kept-out w.front (out-paths w.front w.out_front))
        ∙ ap (λ z. headers w.front ++ z)
        (kept-blocks (w.block ∷ []) (w.middle ++ (m ++ w.back)) (headers (other ∷ []))
        (kept-out (w.block ∷ []) (w.out_path, tt) ∙ sym (headers-changed w.block w.lines same))
        ∙ ap (λ z. headers (other ∷ []) ++ z)
        (kept-blocks w.middle (m ++ w.back) (headers w.middle) (kept-out w.middle (out-paths w.middle w.out_middle))
        ∙ ap (λ z. headers w.middle ++ z)
        (kept-blocks m w.back (headers n) inside
        ∙ ap (λ z. headers n ++ z) (kept-out w.back (out-paths w.back w.out_back))
        ∙ sym (headers-append n w.back))
        ∙ sym (headers-append w.middle (n ++ w.back)))
        ∙ sym (headers-append (other ∷ []) (w.middle ++ (n ++ w.back))))
        ∙ sym (headers-append w.front (other ∷ (w.middle ++ (n ++ w.back))))
        ∙ ap headers (sym new-blocks)

    ordered : none_too_late (headed mode t) ≡ true → none_too_late (headed mode u) ≡ true
    ordered h =
        order-blocks mode u new_st
        ∙ ap none_too_late (headers-sorted (tree_blocks mode u) ∙ ap (sorted_by goes_first) (sym kept-headers))
        ∙ ordered-kept (headers (tree_blocks mode t))
        (sym (ap none_too_late (headers-sorted (tree_blocks mode t))) ∙ sym (order-blocks mode t st) ∙ h)

    lines-suit : (AllByRecursion (PrintedLineSuits mode) (M w.keys) → AllByRecursion (PrintedLineSuits mode) (N w.keys))
        → AllByRecursion (PrintedLineSuits mode) w.block.lines → AllByRecursion (PrintedLineSuits mode) w.lines
    lines-suit step h =
        let P = PrintedLineSuits mode in
        let c = w.changes in
        let old : AllByRecursion P (c.front ++ (M w.keys ++ c.back)) = subst (AllByRecursion P) c.first h in
        let rest = all-back P c.front (M w.keys ++ c.back) old in
        subst (AllByRecursion P) (sym c.second)
        (all-append P c.front (N w.keys ++ c.back) (all-front P c.front (M w.keys ++ c.back) old)
        (all-append P (N w.keys) c.back (step (all-front P (M w.keys) c.back rest)) (all-back P (M w.keys) c.back rest)))

    blocks-suit : (AllByRecursion (PrintedLineSuits mode) (M w.keys) → AllByRecursion (PrintedLineSuits mode) (N w.keys))
        → AllByRecursion (BlockSuits mode) (tree_blocks mode t) → AllByRecursion (BlockSuits mode) (tree_blocks mode u)
    blocks-suit step h =
        let P = BlockSuits mode in
        let old : AllByRecursion P (w.front ++ (w.block ∷ (w.middle ++ (m ++ w.back)))) = subst (AllByRecursion P) w.first h in
        let rest = all-back P w.front (w.block ∷ (w.middle ++ (m ++ w.back))) old in
        let behind = all-back P w.middle (m ++ w.back) rest.1 in
        let changed : P other = (
          subst (λ b. MatchBool b (HeaderSuits mode (bare w.block)) (Unit {0})) (sym same) rest.0.0,
          lines-suit step rest.0.1,
        ) in
        subst (AllByRecursion P) (sym new-blocks)
        (all-append P w.front (other ∷ (w.middle ++ (n ++ w.back))) (all-front P w.front (w.block ∷ (w.middle ++ (m ++ w.back))) old) (
          changed,
          all-append P w.middle (n ++ w.back) (all-front P w.middle (m ++ w.back) rest.1)
              (all-append P n w.back (suit (all-front P m w.back behind)) (all-back P m w.back behind)),
        ))

    pub moved-fits : (AllByRecursion (PrintedLineSuits mode) (M w.keys) → AllByRecursion (PrintedLineSuits mode) (N w.keys))
        → list_all keeps_limits (statements_of mode u) ≡ true → FitsIn mode t → FitsIn mode u
    moved-fits step limits f =
        record {
          decors = record {
            tables = suit-tables mode u new_st (blocks-suit step (suit-blocks mode t st f.decors.tables));
            root_prefix = f.decors.root_prefix;
            root_suffix = f.decors.root_suffix;
            trailing = f.decors.trailing;
          };
          undotted = and_left (is_undotted u) (list_all (is_steady_visit mode) (walk u)) (steady-whole mode u new_st);
          ordered = ordered f.ordered;
          limits = limits;
        }

-- the same where all below the path is dropped
module _ (mode : Mode) (q : Path) (v : Visit) (g : List (Slot Node) → List (Slot Node)) (M N : List Key → List Line) (m : List Block)
    (inside : AllByRecursion (λ (b : Block). is_front q b.path ≡ true) m) (way : List Turn) (t : Tree)
    (st : Steady mode t) (new_st : Steady mode (edited way g t))
    (w : Whole mode q itself v g M N m [] (tree_blocks mode t) (tree_blocks mode (edited way g t)))
    (same : is_headed (with_lines w.block w.lines) ≡ is_headed w.block) where
  pub edited-fits : (AllByRecursion (PrintedLineSuits mode) (M w.keys) → AllByRecursion (PrintedLineSuits mode) (N w.keys))
      → list_all keeps_limits (statements_of mode (edited way g t)) ≡ true → FitsIn mode t → FitsIn mode (edited way g t)
  edited-fits =
      let stay : (p : Path) → is_front q p ≡ false → (is_front q p ≡ false) × (p ≡ p) = λ p e. (e, refl) in
      let order : (x y : Path) → is_front q x ≡ false → is_front q y ≡ false → KeepsOrder x y x y = λ x y d e. keeps-same x y in
      moved-fits q q (λ p. p) stay order mode v g M N m [] (none-kept q q (λ p. p) stay order m inside) (λ h. tt) way t st new_st w same
