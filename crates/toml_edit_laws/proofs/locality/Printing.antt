-- Blocks in print: one block changed, the others stay as they are.
use Rattle.std.proofs.Common.{◌≡◌, refl, sym, ◌∙◌, ap, subst, Bool, true, false, List, [], ◌∷◌, ◌++◌, append_assoc}
use Rattle.std.specs.Prelude.{◌&&◌, ◌||◌, not, if◌then◌else◌, filter, map, flat_map}
use Rattle.std.specs.List.{AllByRecursion}
use Rattle.std.proofs.lemmas.List.Elements.{filter-append}
use Rattle.std.proofs.lemmas.Grind.{flat_map-append}
use Rattle.toml_edit_model.specs.Mode.{Mode}
use Rattle.toml_edit_model.specs.Text.{is_empty}
use Rattle.toml_edit_model.specs.Paths.{Path}
use Rattle.toml_edit_model.specs.Tree.{Tree}
use Rattle.toml_edit_model.specs.HeaderOrder.{Visit, slots_walk}
use Rattle.toml_edit_model.specs.Print.{Line, Printed, printed_line, printed, header_statement}
use Rattle.toml_edit_laws.specs.Locality.{AreOutside, is_at_or_below}
use Rattle.toml_edit_laws.proofs.common.Tests.{if-true}
use Rattle.toml_edit_laws.proofs.common.PathLaws.{is_front}
use Rattle.toml_edit_laws.proofs.common.OrderLaws.{all-sorted}
use Rattle.toml_edit_laws.proofs.locality.Blocks.{Block, block_of, blocks, is_headed, bare, block_header, block_printed, stands_first}
use Rattle.toml_edit_laws.proofs.locality.Blocks.{printed_blocks, printed-steady}
use Rattle.toml_edit_laws.proofs.locality.Under.{front-is, IsLineOut, IsBlockOut, all-block}
use Rattle.toml_edit_laws.proofs.locality.Sound.{Steady}
use Rattle.toml_edit_laws.proofs.locality.Along.{tree_blocks}
use Rattle.toml_edit_laws.proofs.common.Each.{all-append, all-back, all-filter, all-map, all-image}
use Rattle.toml_edit_laws.proofs.common.Sorting.{OneApart, sorted-apart}
use Rattle.toml_edit_laws.proofs.common.Visits.{slots-below}
use Rattle.toml_edit_model.specs.Order.{sorted_by}

abbrev pub with_lines : Block → List Line → Block
with_lines b ls = record b { lines = ls }

abbrev pub IsOut : Path → Printed → Type 0
IsOut q s = is_front q s.path ≡ false

pub are-outside : (q : Path) (ss : List Printed) → AllByRecursion (IsOut q) ss → AreOutside q ss
are-outside q ss h = all-map (IsOut q) (λ s. is_at_or_below q s.path ≡ false) ss (λ s e. front-is q s.path ∙ e) h

-- behind the root both blocks have headers
abbrev pub AreHeadedBehind : List Block → Block → Block → Type 0
AreHeadedBehind [] b c = Unit {0}
AreHeadedBehind (r ∷ front) b c = (is_headed b ≡ true) × (is_headed c ≡ true)

pub headed-same : (b : Block) (ls : List Line) → is_empty ls ≡ is_empty b.lines → is_headed (with_lines b ls) ≡ is_headed b
headed-same b ls e = ap (λ z. not (is_empty b.keys) && (b.is_element || not (b.fields.is_implicit && z))) e

-- a table with lines has a header, unless it is the root
pub lined : (b : Block) → is_empty b.keys ≡ false → is_empty b.lines ≡ false → is_headed b ≡ true
lined b r h = by_tests (is_empty b.keys) b.is_element b.fields.is_implicit (is_empty b.lines) r h
  where
    by_tests : (k e i l : Bool) → k ≡ false → l ≡ false → (not k && (e || not (i && l))) ≡ true
    by_tests true e i l r h = absurd cc
    by_tests false e i true r h = absurd cc
    by_tests false true i false r h = refl
    by_tests false false true false r h = refl
    by_tests false false false false r h = refl

module _ (mode : Mode) where
  -- the root's block first, then those with headers in order
  abbrev pub printed_all : List Block → List Printed
  printed_all [] = []
  printed_all (r ∷ bs) = block_printed mode r ++ printed_blocks mode bs

  pub printed-tree : (t : Tree) → Steady mode t → printed mode t ≡ printed_all (tree_blocks mode t)
  printed-tree t s = printed-steady mode t s.root s.tables

  -- ---- statements outside of a path

  pub header-out : (q : Path) (b : Block) → is_front q b.path ≡ false → AllByRecursion (IsOut q) (block_header mode b)
  header-out q b h = by_test (is_headed b)
    where
      one_header : List Printed
      one_header = record { block = b.path; path = b.path; statement = header_statement mode true (bare b) } ∷ []

      by_test : (c : Bool) → AllByRecursion (IsOut q) (if c then one_header else [])
      by_test true = (h, tt)
      by_test false = tt

  pub map-lines-out : (q bp : Path) (ls : List Line) → AllByRecursion (IsLineOut q bp) ls
      → AllByRecursion (IsOut q) (map (printed_line mode bp) ls)
  map-lines-out q bp ls h = all-image (printed_line mode bp) (IsOut q) ls h

  pub block-out : (q : Path) (b : Block) → IsBlockOut q b → AllByRecursion (IsOut q) (block_printed mode b)
  block-out q b h = all-append (IsOut q) (block_header mode b) (map (printed_line mode b.path) b.lines) (header-out q b h.0)
      (map-lines-out q b.path b.lines h.1)

  pub flat-out : (q : Path) (bs : List Block) → AllByRecursion (IsBlockOut q) bs
      → AllByRecursion (IsOut q) (flat_map (block_printed mode) bs)
  flat-out q [] h = tt
  flat-out q (b ∷ bs) h =
      all-append (IsOut q) (block_printed mode b) (flat_map (block_printed mode) bs) (block-out q b h.0) (flat-out q bs h.1)

  pub blocks-printed-out : (q : Path) (bs : List Block) → AllByRecursion (IsBlockOut q) bs
      → AllByRecursion (IsOut q) (printed_blocks mode bs)
  blocks-printed-out q bs h =
      flat-out q (sorted_by stands_first (filter is_headed bs))
      (all-sorted (IsBlockOut q) stands_first (filter is_headed bs) (all-filter (IsBlockOut q) is_headed bs h))

  -- ---- one block changed

  -- the second list of statements is the first with one block in the place of another
  pub record Parted (q : Path) (b c : Block) (xs ys : List Printed) : Type 0 where
    pub front : List Printed
    pub back : List Printed
    pub first : xs ≡ front ++ (block_printed mode b ++ back)
    pub second : ys ≡ front ++ (block_printed mode c ++ back)
    pub out_front : AllByRecursion (IsOut q) front
    pub out_back : AllByRecursion (IsOut q) back

  pub parted : (q : Path) (b : Block) (ls : List Line) (front back : List Block) → AreHeadedBehind front b (with_lines b ls)
      → AllByRecursion (IsBlockOut q) front → AllByRecursion (IsBlockOut q) back
      → Parted q b (with_lines b ls) (printed_all (front ++ (b ∷ back))) (printed_all (front ++ (with_lines b ls ∷ back)))
  parted q b ls [] back hs f g =
      record {
        front = [];
        back = printed_blocks mode back;
        first = refl;
        second = refl;
        out_front = tt;
        out_back =
            blocks-printed-out q back g;
      }
  parted q b ls (r ∷ front) back hs f g =
      let c : Block = with_lines b ls in
      let a : OneApart (IsBlockOut q) b c (sorted_by stands_first (filter is_headed front ++ (b ∷ filter is_headed back)))
      (sorted_by stands_first (filter is_headed front ++ (c ∷ filter is_headed back))) =
      sorted-apart stands_first (IsBlockOut q) b c (λ x. refl) (λ x. refl) (filter is_headed front) (filter is_headed back)
      (all-filter (IsBlockOut q) is_headed front f.1) (all-filter (IsBlockOut q) is_headed back g) in
      record {
        front = block_printed mode r ++ flat_map (block_printed mode) a.front;
        back = flat_map (block_printed mode) a.back;
        first = ap (λ z. block_printed mode r ++ flat_map (block_printed mode) (sorted_by stands_first z)) (headed b hs.0)
            ∙ ap (λ z. block_printed mode r ++ flat_map (block_printed mode) z) a.first ∙ there b a.front a.back;
        second = ap (λ z. block_printed mode r ++ flat_map (block_printed mode) (sorted_by stands_first z)) (headed c hs.1)
            ∙ ap (λ z. block_printed mode r ++ flat_map (block_printed mode) z) a.second ∙ there c a.front a.back;
        out_front = all-append (IsOut q) (block_printed mode r) (flat_map (block_printed mode) a.front) (block-out q r f.0)
            (flat-out q a.front a.all_front);
        out_back = flat-out q a.back a.all_back;
      }
    where
      headed : (x : Block) → is_headed x ≡ true → filter is_headed (front ++ (x ∷ back)) ≡ filter is_headed front
          ++ (x ∷ filter is_headed back)
      headed x h = filter-append is_headed front (x ∷ back)
          ∙ ap (λ z. filter is_headed front ++ z) (if-true (is_headed x) (x ∷ filter is_headed back) (filter is_headed back) h)

      there : (x : Block) (xs bs : List Block)
          → block_printed mode r ++ flat_map (block_printed mode) (xs ++ (x ∷ bs))
          ≡ (block_printed mode r ++ flat_map (block_printed mode) xs) ++ (block_printed mode x ++ flat_map (block_printed mode) bs)
      there x xs bs =
          ap (λ z. block_printed mode r ++ z) (flat_map-append (block_printed mode) xs (x ∷ bs))
          ∙ sym (append_assoc (block_printed mode r) (flat_map (block_printed mode) xs) (block_printed mode x
          ++ flat_map (block_printed mode) bs))

  -- ---- headers

  pub header-same : (b : Block) (ls : List Line) → is_headed (with_lines b ls) ≡ is_headed b → block_header mode (with_lines b ls)
      ≡ block_header mode b
  header-same b ls e = ap (λ z. if z then one_header else []) e
    where
      one_header : List Printed
      one_header = record { block = b.path; path = b.path; statement = header_statement mode true (bare b) } ∷ []

  pub all-blocks : (P : Block → Type 0) (vs : List Visit) → AllByRecursion (λ v. P (block_of mode v)) vs → AllByRecursion P (blocks mode vs)
  all-blocks P [] h = tt
  all-blocks P (v ∷ vs) h = all-block mode P v vs h.0 (all-blocks P vs h.1)

  -- what stands behind the root isn't the root
  pub behind-root : (t : Tree) (front : List Block) (b : Block) (back : List Block) (P : Type 0) → tree_blocks mode t ≡ front ++ (b ∷ back)
      → (front ≡ [] → P) → (is_empty b.keys ≡ false → P) → P
  behind-root t [] b back P e f g = f refl
  behind-root t (r ∷ front) b back P e f g =
      let vs = slots_walk t.slots [] [] in
      let rest : blocks mode vs ≡ front ++ (b ∷ back) = cc in
      let all : AllByRecursion (λ (x : Block). is_empty x.keys ≡ false) (blocks mode vs) =
      all-blocks (λ x. is_empty x.keys ≡ false) vs (slots-below t.slots [] []) in
      g (all-back (λ (x : Block). is_empty x.keys ≡ false) front (b
      ∷ back) (subst (λ z. AllByRecursion (λ (x : Block). is_empty x.keys ≡ false) z) rest all)).0

  pub headed-behind : (t : Tree) (front : List Block) (b c : Block) (back : List Block) → tree_blocks mode t ≡ front ++ (b ∷ back)
      → (is_empty b.keys ≡ false → (is_headed b ≡ true) × (is_headed c ≡ true)) → AreHeadedBehind front b c
  headed-behind t front b c back e g =
      behind-root t front b back (AreHeadedBehind front b c) e (λ d. subst (λ z. AreHeadedBehind z b c) (sym d) tt) (λ d. made front (g d))
    where
      made : (front : List Block) → (is_headed b ≡ true) × (is_headed c ≡ true) → AreHeadedBehind front b c
      made [] h = tt
      made (r ∷ front) h = h
