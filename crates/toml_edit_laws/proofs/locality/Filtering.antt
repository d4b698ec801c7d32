-- The print of the blocks that are kept, without the lines that aren't, is the print filtered.
use Rattle.std.proofs.Common.{◌≡◌, refl, sym, ◌∙◌, ap, Bool, true, false, List, [], ◌∷◌, ◌++◌}
use Rattle.std.specs.Prelude.{◌&&◌, ◌||◌, not, if◌then◌else◌, filter, map, flat_map, is_some}
use Rattle.std.specs.List.{AllByRecursion}
use Rattle.std.proofs.lemmas.List.{map-append}
use Rattle.std.proofs.lemmas.List.Elements.{filter-append}
use Rattle.toml_edit_model.specs.Mode.{Mode}
use Rattle.toml_edit_model.specs.Text.{is_empty}
use Rattle.toml_edit_model.specs.Paths.{Path}
use Rattle.toml_edit_model.specs.Tree.{Tree}
use Rattle.toml_edit_model.specs.HeaderOrder.{slots_walk}
use Rattle.toml_edit_model.specs.Print.{Line, Printed, printed_line, printed, below, header_statement}
use Rattle.toml_edit_model.specs.Fits.{has_own_prefix}
use Rattle.toml_edit_laws.specs.Locality.{is_at_or_below, outside, root_visit}
use Rattle.toml_edit_laws.proofs.common.Tests.{if-true, if-false, and_right}
use Rattle.toml_edit_laws.proofs.common.PathLaws.{is_front, front-refl, front-through}
use Rattle.toml_edit_laws.proofs.common.OrderLaws.{all-sorted, none-left, sorted-image, int_le-total, int_le-trans}
use Rattle.toml_edit_laws.proofs.locality.Blocks.{Block, block_of, blocks, is_headed, bare, block_header, block_printed, place}
use Rattle.toml_edit_laws.proofs.locality.Blocks.{stands_first, printed_blocks, IsSteadyBlock}
use Rattle.toml_edit_laws.proofs.locality.Under.{front-is, IsLineUnder, IsLineOut, IsBlockOut, lines-under}
use Rattle.toml_edit_laws.proofs.locality.Sound.{Steady}
use Rattle.toml_edit_laws.proofs.locality.Along.{tree_blocks}
use Rattle.toml_edit_laws.proofs.locality.Printing.{printed_all, printed-tree, with_lines, IsOut, header-out, header-same, all-blocks}
use Rattle.toml_edit_laws.proofs.locality.Edited.{steady-tree}
use Rattle.toml_edit_laws.proofs.common.Lists.{filter-image}
use Rattle.toml_edit_laws.proofs.common.Sorting.{filter-sorted}
use Rattle.toml_edit_laws.proofs.common.Each.{all-filter, all-map}
use Rattle.toml_edit_model.specs.Order.{sorted_by}

-- ---- filters

pub filter-all : {A : Type 0} (test : A → Bool) (xs : List A) → AllByRecursion (λ x. test x ≡ true) xs → filter test xs ≡ xs
filter-all test [] h = refl
filter-all test (x ∷ xs) h = rw h.0 (ap (λ ys. x ∷ ys) (filter-all test xs h.1))

pub filter-alike : {A : Type 0} (first second : A → Bool) → ((x : A) → first x ≡ second x) → (xs : List A) → filter first xs
    ≡ filter second xs
filter-alike first second same [] = refl
filter-alike first second same (x ∷ xs) =
    ap (λ b. if b then x ∷ filter first xs else filter first xs) (same x)
    ∙ ap (λ ys. if second x then x ∷ ys else ys) (filter-alike first second same xs)

module _ (mode : Mode) where
  module _ (q : Path) where
    abbrev pub keeps_line : Path → Line → Bool
    keeps_line bp l = not (is_front q (below bp l.keys))

    abbrev pub keeps_block : Block → Bool
    keeps_block b = not (is_front q b.path)

    abbrev pub keeps : Printed → Bool
    keeps s = not (is_front q s.path)

    -- the block without the lines that aren't kept
    abbrev pub trim : Block → Block
    trim b = with_lines b (filter (keeps_line b.path) b.lines)

    pub outside-is : (t : Tree) → outside mode q t ≡ filter keeps (printed mode t)
    outside-is t = filter-alike (λ s. not (is_at_or_below q s.path)) keeps (λ s. ap not (front-is q s.path)) (printed mode t)

    -- ---- one block

    pub lines-kept : (bp : Path) (ls : List Line) → AllByRecursion (IsLineOut q bp) ls → filter (keeps_line bp) ls ≡ ls
    lines-kept bp ls h = filter-all (keeps_line bp) ls (all-map (IsLineOut q bp) (λ l. keeps_line bp l ≡ true) ls (λ l e. ap not e) h)

    pub lines-dropped : (bp : Path) (ls : List Line) → AllByRecursion (IsLineUnder q bp) ls → filter (keeps_line bp) ls ≡ []
    lines-dropped bp ls h = none-left (keeps_line bp) ls (all-map (IsLineUnder q bp) (λ l. keeps_line bp l ≡ false) ls (λ l e. ap not e) h)

    trim-block : (b : Block) → is_front q b.path ≡ false → is_headed (trim b) ≡ is_headed b → block_printed mode (trim b)
        ≡ filter keeps (block_printed mode b)
    trim-block b out same =
        ap (λ z. z ++ map (printed_line mode b.path) (filter (keeps_line b.path) b.lines))
        (header-same mode b (filter (keeps_line b.path) b.lines) same
        ∙ sym (filter-all keeps (block_header mode b) (all-map (IsOut q) (λ s. keeps s
        ≡ true) (block_header mode b) (λ s e. ap not e) (header-out mode q b out))))
        ∙ ap (λ z. filter keeps (block_header mode b) ++ z) (sym (filter-image (printed_line mode b.path) keeps b.lines))
        ∙ sym (filter-append keeps (block_header mode b) (map (printed_line mode b.path) b.lines))

    drop-header : (b : Block) → is_front q b.path ≡ true → filter keeps (block_header mode b) ≡ []
    drop-header b h = by_test (is_headed b)
      where
        one_header : Printed
        one_header = record { block = b.path; path = b.path; statement = header_statement mode true (bare b) }

        dropped : keeps one_header ≡ false
        dropped = ap not h

        by_test : (c : Bool) → filter keeps (if c then one_header ∷ [] else []) ≡ []
        by_test true = if-false (keeps one_header) (one_header ∷ []) [] dropped
        by_test false = refl

    drop-block : (b : Block) → is_front q b.path ≡ true → AllByRecursion (IsLineUnder q b.path) b.lines
        → filter keeps (block_printed mode b) ≡ []
    drop-block b h under =
        filter-append keeps (block_header mode b) (map (printed_line mode b.path) b.lines)
        ∙ ap (λ z. z ++ filter keeps (map (printed_line mode b.path) b.lines)) (drop-header b h)
        ∙ filter-image (printed_line mode b.path) keeps b.lines
        ∙ ap (map (printed_line mode b.path)) (lines-dropped b.path b.lines under)

    -- ---- all blocks

    -- a kept block keeps its header, and all lines of another are dropped
    pub record IsCoherent (b : Block) : Type 0 where
      pub kept : is_headed (trim b) ≡ is_headed b
      pub dropped : is_front q b.path ≡ true → AllByRecursion (IsLineUnder q b.path) b.lines

    flat-trim : (bs : List Block) → AllByRecursion IsCoherent bs → flat_map (block_printed mode) (map trim (filter keeps_block bs))
        ≡ filter keeps (flat_map (block_printed mode) bs)
    flat-trim [] h = refl
    flat-trim (b ∷ bs) h = by_test (is_front q b.path) refl (flat-trim bs h.1)
      where
        by_test : (c : Bool) → is_front q b.path ≡ c → flat_map (block_printed mode) (map trim (filter keeps_block bs))
            ≡ filter keeps (flat_map (block_printed mode) bs)
            → flat_map (block_printed mode) (map trim (if not c then b ∷ filter keeps_block bs else filter keeps_block bs))
            ≡ filter keeps (block_printed mode b ++ flat_map (block_printed mode) bs)
        by_test true e ih =
            ih ∙ ap (λ z. z ++ filter keeps (flat_map (block_printed mode) bs)) (sym (drop-block b e (h.0.dropped e)))
            ∙ sym (filter-append keeps (block_printed mode b) (flat_map (block_printed mode) bs))
        by_test false e ih =
            ap (λ z. block_printed mode (trim b) ++ z) ih
            ∙ ap (λ z. z ++ filter keeps (flat_map (block_printed mode) bs)) (trim-block b e h.0.kept)
            ∙ sym (filter-append keeps (block_printed mode b) (flat_map (block_printed mode) bs))

    headed-trim : (bs : List Block) → AllByRecursion IsCoherent bs → filter is_headed (map trim (filter keeps_block bs))
        ≡ map trim (filter keeps_block (filter is_headed bs))
    headed-trim [] h = refl
    headed-trim (b ∷ bs) h = by_test (is_front q b.path) (is_headed b) refl refl (headed-trim bs h.1)
      where
        by_test : (c d : Bool) → is_front q b.path ≡ c → is_headed b ≡ d
            → filter is_headed (map trim (filter keeps_block bs)) ≡ map trim (filter keeps_block (filter is_headed bs))
            → filter is_headed (map trim (if not c then b ∷ filter keeps_block bs else filter keeps_block bs))
            ≡ map trim (filter keeps_block (if d then b ∷ filter is_headed bs else filter is_headed bs))
        by_test true true e f ih =
            ih ∙ ap (map trim) (sym (if-false (keeps_block b) (b
            ∷ filter keeps_block (filter is_headed bs)) (filter keeps_block (filter is_headed bs)) (ap not e)))
        by_test true false e f ih = ih
        by_test false true e f ih =
            if-true (is_headed (trim b)) (trim b ∷ filter is_headed (map trim (filter keeps_block bs)))
            (filter is_headed (map trim (filter keeps_block bs))) (h.0.kept ∙ f)
            ∙ ap (λ z. trim b ∷ z) ih
            ∙ ap (map trim) (sym (if-true (keeps_block b) (b ∷ filter keeps_block (filter is_headed bs))
            (filter keeps_block (filter is_headed bs)) (ap not e)))
        by_test false false e f ih =
            if-false (is_headed (trim b)) (trim b ∷ filter is_headed (map trim (filter keeps_block bs)))
            (filter is_headed (map trim (filter keeps_block bs))) (h.0.kept ∙ f)
            ∙ ih

    blocks-trim : (bs : List Block) → AllByRecursion IsCoherent bs → printed_blocks mode (map trim (filter keeps_block bs))
        ≡ filter keeps (printed_blocks mode bs)
    blocks-trim bs h =
        let hs : List Block = filter is_headed bs in
        ap (λ z. flat_map (block_printed mode) (sorted_by stands_first z)) (headed-trim bs h)
        ∙ ap (flat_map (block_printed mode)) (sorted-image trim stands_first (filter keeps_block hs))
        ∙ ap (λ z. flat_map (block_printed mode) (map trim z))
        (sym (filter-sorted stands_first (λ a b c. int_le-trans (place a) (place b) (place c)) (λ a b. int_le-total (place a) (place b))
        keeps_block hs))
        ∙ flat-trim (sorted_by stands_first hs) (all-sorted IsCoherent stands_first hs (all-filter IsCoherent is_headed bs h))

    all-trim : (r : Block) (bs : List Block) → is_front q r.path ≡ false → AllByRecursion IsCoherent (r ∷ bs)
        → printed_all mode (map trim (filter keeps_block (r ∷ bs))) ≡ filter keeps (printed_all mode (r ∷ bs))
    all-trim r bs out h =
        ap (λ z. printed_all mode (map trim z)) (if-true (keeps_block r) (r ∷ filter keeps_block bs) (filter keeps_block bs) (ap not out))
        ∙ ap (λ z. z ++ printed_blocks mode (map trim (filter keeps_block bs))) (trim-block r out h.0.kept)
        ∙ ap (λ z. filter keeps (block_printed mode r) ++ z) (blocks-trim bs h.1)
        ∙ sym (filter-append keeps (block_printed mode r) (printed_blocks mode bs))

    -- ---- the blocks of a steady tree

    filter-empty : (test : Line → Bool) (ls : List Line) → is_empty ls ≡ true → is_empty (filter test ls) ≡ true
    filter-empty test [] h = refl
    filter-empty test (l ∷ ls) h = absurd cc

    pub trim-headed : (b : Block) → IsSteadyBlock b → is_headed (trim b) ≡ is_headed b
    trim-headed b s =
        by_tests (is_empty b.keys) b.is_element b.fields.is_implicit (is_empty b.lines) (is_empty (filter (keeps_line b.path) b.lines))
        (is_some b.fields.position && has_own_prefix b.fields.decor.prefix) (filter-empty (keeps_line b.path) b.lines) s
      where
        by_tests : (k e i l m x : Bool) → (l ≡ true → m ≡ true) → (not (not k && (e || not (i && l))) || (x && (e || not i))) ≡ true
            → (not k && (e || not (i && m))) ≡ (not k && (e || not (i && l)))
        by_tests true e i l m x f s = refl
        by_tests false true i l m x f s = refl
        by_tests false false false l m x f s = refl
        by_tests false false true true m x f s = ap not (f refl)
        by_tests false false true false m x f s = absurd (clash (and_right x false s))
          where
            clash : false ≡ true → ⊥
            clash e = cc

    all-any : {A : Type 0} (P : A → Type 0) → ((x : A) → P x) → (xs : List A) → AllByRecursion P xs
    all-any P f [] = tt
    all-any P f (x ∷ xs) = (f x, all-any P f xs)

    under-themselves : (t : Tree) → AllByRecursion (λ (b : Block). AllByRecursion (IsLineUnder b.path b.path) b.lines) (tree_blocks mode t)
    under-themselves t = (
      lines-under mode [] [] t.slots [] refl,
      all-blocks mode (λ (b : Block). AllByRecursion (IsLineUnder b.path b.path) b.lines) (slots_walk t.slots [] [])
          (all-any (λ v. AllByRecursion (IsLineUnder (block_of mode v).path (block_of mode v).path) (block_of mode v).lines)
          (λ v. lines-under mode v.path v.path v.slots [] (front-refl v.path)) (slots_walk t.slots [] [])),
    )

    coherent : (bs : List Block) → AllByRecursion IsSteadyBlock bs
        → AllByRecursion (λ (b : Block). AllByRecursion (IsLineUnder b.path b.path) b.lines) bs → AllByRecursion IsCoherent bs
    coherent [] s u = tt
    coherent (b ∷ bs) s u = (
      record {
        kept = trim-headed b s.0;
        dropped = λ e. all-map (IsLineUnder b.path b.path) (IsLineUnder q b.path) b.lines
            (λ l d. front-through q b.path (below b.path l.keys) e d) u.0;
      },
      coherent bs s.1 u.1,
    )

    -- the print of the kept blocks
    pub tree-trim : (t : Tree) → Steady mode t → is_front q [] ≡ false
        → printed_all mode (map trim (filter keeps_block (tree_blocks mode t))) ≡ filter keeps (printed mode t)
    tree-trim t s out =
        all-trim (block_of mode (root_visit t)) (blocks mode (slots_walk t.slots [] [])) out
        (coherent (tree_blocks mode t) (steady-tree mode t s) (under-themselves t))
        ∙ ap (filter keeps) (sym (printed-tree mode t s))

    -- ---- which blocks are kept

    pub blocks-kept : (bs : List Block) → AllByRecursion (IsBlockOut q) bs → map trim (filter keeps_block bs) ≡ bs
    blocks-kept [] h = refl
    blocks-kept (b ∷ bs) h =
        ap (map trim) (if-true (keeps_block b) (b ∷ filter keeps_block bs) (filter keeps_block bs) (ap not h.0.0))
        ∙ ap (λ z. with_lines b z ∷ map trim (filter keeps_block bs)) (lines-kept b.path b.lines h.0.1)
        ∙ ap (λ z. b ∷ z) (blocks-kept bs h.1)

    pub blocks-dropped : (bs : List Block) → AllByRecursion (λ b. is_front q b.path ≡ true) bs → filter keeps_block bs ≡ []
    blocks-dropped bs h =
        none-left keeps_block bs (all-map (λ b. is_front q b.path ≡ true) (λ b. keeps_block b ≡ false) bs (λ b e. ap not e) h)

    trim-append : (xs ys : List Block) → map trim (filter keeps_block (xs ++ ys)) ≡ map trim (filter keeps_block xs)
        ++ map trim (filter keeps_block ys)
    trim-append xs ys = ap (map trim) (filter-append keeps_block xs ys) ∙ map-append trim (filter keeps_block xs) (filter keeps_block ys)

    pub spliced-kept : (front middle m back : List Block) (b : Block) → AllByRecursion (IsBlockOut q) front → is_front q b.path ≡ false
        → AllByRecursion (IsBlockOut q) middle → AllByRecursion (λ b. is_front q b.path ≡ true) m → AllByRecursion (IsBlockOut q) back
        → map trim (filter keeps_block (front ++ (b ∷ (middle ++ (m ++ back))))) ≡ front ++ (trim b ∷ (middle ++ back))
    spliced-kept front middle m back b f o d n e =
        trim-append front (b ∷ (middle ++ (m ++ back)))
        ∙ ap (λ z. z ++ map trim (filter keeps_block (b ∷ (middle ++ (m ++ back))))) (blocks-kept front f)
        ∙ ap (λ z. front ++ map trim z) (if-true (keeps_block b) (b
        ∷ filter keeps_block (middle ++ (m ++ back))) (filter keeps_block (middle ++ (m ++ back))) (ap not o))
        ∙ ap (λ z. front ++ (trim b ∷ z))
        (trim-append middle (m ++ back) ∙ ap (λ z. z ++ map trim (filter keeps_block (m ++ back))) (blocks-kept middle d)
        ∙ ap (λ z. middle ++ z)
        (trim-append m back ∙ ap (λ z. map trim z ++ map trim (filter keeps_block back)) (blocks-dropped m n) ∙ blocks-kept back e))

    pub lines-spliced : (bp : Path) (front m back : List Line) → AllByRecursion (IsLineOut q bp) front → AllByRecursion (IsLineUnder q bp) m
        → AllByRecursion (IsLineOut q bp) back → filter (keeps_line bp) (front ++ (m ++ back)) ≡ front ++ back
    lines-spliced bp front m back f n e =
        filter-append (keeps_line bp) front (m ++ back)
        ∙ ap (λ z. z ++ filter (keeps_line bp) (m ++ back)) (lines-kept bp front f)
        ∙ ap (λ z. front ++ z)
        (filter-append (keeps_line bp) m back ∙ ap (λ z. z ++ filter (keeps_line bp) back) (lines-dropped bp m n) ∙ lines-kept bp back e)
