-- A table more in a steady tree: its statements are added, and all others stay.
use Rattle.std.proofs.Common.{◌≡◌, refl, sym, ◌∙◌, ap, subst, ℤ, pos, Bool, true, false, List, [], ◌∷◌, ◌++◌, append_assoc, None}
use Rattle.std.specs.Prelude.{◌&&◌, not, filter, flat_map, map}
use Rattle.std.specs.List.{AllByRecursion}
use Rattle.std.proofs.lemmas.List.Elements.{filter-append}
use Rattle.toml_edit_model.specs.Mode.{Mode}
use Rattle.toml_edit_model.specs.Text.{is_empty}
use Rattle.toml_edit_model.specs.Paths.{Path, Step}
use Rattle.toml_edit_model.specs.Tree.{Key, Node, SlotsAreWellMade, Tree}
use Rattle.toml_edit_model.specs.HeaderOrder.{Visit, slots_walk}
use Rattle.toml_edit_model.specs.Order.{sorted_by}
use Rattle.toml_edit_model.specs.Print.{Line, below, printed, printed_table, table_lines}
use Rattle.toml_edit_model.specs.Slots.{Slot}
use Rattle.toml_edit_laws.specs.Locality.{Turn, Leads, root_visit, edited, is_at_or_below, outside}
use Rattle.toml_edit_laws.proofs.common.Each.{all-append, all-front, all-back, all-both, all-map}
use Rattle.toml_edit_laws.proofs.common.OrderLaws.{all-sorted}
use Rattle.toml_edit_laws.proofs.common.PathLaws.{is_front}
use Rattle.toml_edit_laws.proofs.common.Sorting.{filter-sorted}
use Rattle.toml_edit_laws.proofs.common.Tests.{if-true, true-false}
use Rattle.toml_edit_laws.proofs.common.Visits.{before-total, before-trans}
use Rattle.toml_edit_laws.proofs.locality.Along.{Whole, tree_blocks, whole-tree}
use Rattle.toml_edit_laws.proofs.locality.Blocks.{Block, bare, block_of, block_printed, blocks, is_headed, IsSteadyBlock}
use Rattle.toml_edit_laws.proofs.locality.Edited.{firm-visits, steady-tree}
use Rattle.toml_edit_laws.proofs.locality.Filtering.{filter-all, filter-alike, keeps, outside-is}
use Rattle.toml_edit_laws.proofs.locality.Replacing.{itself, map-itself}
use Rattle.toml_edit_laws.proofs.locality.Slots.{slots_under}
use Rattle.toml_edit_laws.proofs.locality.Sound.{Steady}
use Rattle.toml_edit_laws.proofs.locality.Splice.{LineSplice, BlockSplice}
use Rattle.toml_edit_laws.proofs.locality.Texts.{edited-framed}
use Rattle.toml_edit_laws.proofs.locality.Under.{IsBlockOut, IsBlockUnder, IsLineOut, front-is}
use Rattle.toml_edit_edit_laws.specs.HeaderAdds.{OneTableMore}
use Rattle.toml_edit_edit_laws.specs.Placing.{inside}
use Rattle.toml_edit_edit_laws.proofs.headers.Seats.{Seated, all-seats, before, last_seat, no-seat, printed-seats, seats, seats-append, shown, block_shown}
use Rattle.toml_edit_edit_laws.proofs.headers.Shown.{IsEither, IsOther, IsOwn, is_in, is_last, is_own, filter-none, one-shown, outside-shown, shown-steady}

and-false : (b : Bool) → (b && false) ≡ false
and-false true = refl
and-false false = refl

sorts : (test : Seated → Bool) (ps : List Seated) → filter test (sorted_by before ps) ≡ sorted_by before (filter test ps)
sorts =
    filter-sorted before
    (λ a b c. before-trans (a.0, bare a.1) (b.0, bare b.1) (c.0, bare c.1))
    (λ g h. before-total (g.0, bare g.1) (h.0, bare h.1))

module _ (mode : Mode) where
  steady-shown : (d : Bool) (ps : List Seated) → AllByRecursion (λ (p : Seated). IsSteadyBlock p.1) ps
      → shown mode d ps ≡ flat_map (λ (p : Seated). block_printed mode p.1) ps
  steady-shown d [] h = refl
  steady-shown d (p ∷ ps) h =
      ap (λ z. z ++ shown mode (d && is_empty (block_shown mode d p.1)) ps) (shown-steady mode d p.1 h.0)
      ∙ ap (λ z. block_printed mode p.1 ++ z) (steady-shown (d && is_empty (block_shown mode d p.1)) ps h.1)

  -- no lines, under any keys
  abbrev pub nothing_lined : List Key → List Line
  nothing_lined lk = []

  -- Blocks without a position are put into the walk below a path. The last one has a header, and those
  -- before it print nothing.
  module _ (t : Tree) (way : List Turn) (w : Visit) (g : List (Slot Node) → List (Slot Node)) (q : Path) (x : Step)
      (above : is_front (w.path ++ (x ∷ [])) q ≡ true) (implied : List Block) (last : Visit)
      (bare_ones : AllByRecursion (λ b. (is_headed b ≡ false) × (b.lines ≡ [])) implied)
      (unplaced : AllByRecursion (λ (b : Block). b.fields.position ≡ None) (implied ++ (block_of mode last ∷ [])))
      (headed : is_headed (block_of mode last) ≡ true)
      (under : AllByRecursion (IsBlockUnder q) (implied ++ (block_of mode last ∷ []))) (made : SlotsAreWellMade t.slots)
      (st : Steady mode t) (leads : Leads way (root_visit t) w)
      (edit-lines : (bp : Path) (lk : List Key) → below bp lk ≡ w.path
      → LineSplice mode q bp (nothing_lined lk) (nothing_lined lk) (table_lines mode w.slots lk)
      (table_lines mode (slots_under g w.slots) lk))
      (edit-blocks : BlockSplice mode q itself [] (implied ++ (block_of mode last ∷ [])) (blocks mode (slots_walk w.slots w.path w.keys))
      (blocks mode (slots_walk (slots_under g w.slots) w.path w.keys))) where
    abbrev u : Tree
    u = edited way g t

    abbrev m : List Block
    m = implied ++ (block_of mode last ∷ [])

    whole : Whole mode q itself w g nothing_lined nothing_lined [] m (tree_blocks mode t) (tree_blocks mode u)
    whole =
        whole-tree mode q itself w g nothing_lined nothing_lined [] m x above edit-lines edit-blocks way t made
        (firm-visits mode t st) leads

    abbrev front : List Block
    front = whole.front ++ (whole.block ∷ whole.middle)

    abbrev back : List Block
    back = whole.back

    kept-block : record whole.block { lines = whole.lines } ≡ whole.block
    kept-block = ap (λ z. record whole.block { lines = z }) (whole.changes.second ∙ sym whole.changes.first)

    old-blocks : tree_blocks mode t ≡ front ++ back
    old-blocks = whole.first ∙ sym (append_assoc whole.front (whole.block ∷ whole.middle) back)

    new-are : tree_blocks mode u ≡ front ++ (m ++ back)
    new-are =
        sym (map-itself (tree_blocks mode u)) ∙ whole.second
        ∙ map-itself (whole.front ++ (record whole.block { lines = whole.lines } ∷ (whole.middle ++ (m ++ back))))
        ∙ ap (λ b. whole.front ++ (b ∷ (whole.middle ++ (m ++ back)))) kept-block
        ∙ sym (append_assoc whole.front (whole.block ∷ whole.middle) (m ++ back))

    block-out : IsBlockOut q whole.block
    block-out =
        let c = whole.changes in (
          whole.out_path,
          subst (λ z. AllByRecursion (IsLineOut q whole.block.path) z) (sym c.first)
              (all-append (IsLineOut q whole.block.path) c.front c.back c.out_front c.out_back),
        )

    out : AllByRecursion (IsBlockOut q) (front ++ back)
    out =
        all-append (IsBlockOut q) front back
        (all-append (IsBlockOut q) whole.front (whole.block ∷ whole.middle) whole.out_front (block-out, whole.out_middle))
        whole.out_back

    old-ones : AllByRecursion (IsOther mode q) (front ++ back)
    old-ones =
        all-both (IsBlockOut q) IsSteadyBlock (front ++ back) out (subst (AllByRecursion IsSteadyBlock) old-blocks (steady-tree mode t st))

    -- ---- kinds

    other-either : (b : Block) → IsOther mode q b → IsEither mode q b
    other-either b h = (λ e. true-false (is_front q b.path) e h.0.0, λ _. h)

    own-either : (b : Block) → IsOwn mode q b → IsEither mode q b
    own-either b h = (λ _. h, λ e. true-false (is_front q b.path) h.0.0 e)

    own-ones : AllByRecursion (IsOwn mode q) m
    own-ones =
        all-append (IsOwn mode q) implied (block_of mode last ∷ [])
        (all-map (λ b. IsBlockUnder q b × ((is_headed b ≡ false) × (b.lines ≡ []))) (IsOwn mode q) implied (λ b h. (h.0, λ _. h.1.1))
        (all-both (IsBlockUnder q) (λ b. (is_headed b ≡ false) × (b.lines ≡ [])) implied
        (all-front (IsBlockUnder q) implied (block_of mode last ∷ []) under) bare_ones)) (
          (
            (all-back (IsBlockUnder q) implied (block_of mode last ∷ []) under).0,
            λ e. true-false (is_headed (block_of mode last)) headed e,
          ),
          tt,
        )

    eithers : AllByRecursion (IsEither mode q) (front ++ (m ++ back))
    eithers =
        let old = all-map (IsOther mode q) (IsEither mode q) (front ++ back) other-either old-ones in
        all-append (IsEither mode q) front (m ++ back) (all-front (IsEither mode q) front back old)
        (all-append (IsEither mode q) m back (all-map (IsOwn mode q) (IsEither mode q) m own-either own-ones)
        (all-back (IsEither mode q) front back old))

    -- ---- seats

    abbrev zero_seat : ℤ
    zero_seat = pos 0

    abbrev seen : ℤ
    seen = last_seat zero_seat front

    old-seats : seats zero_seat (tree_blocks mode t) ≡ seats zero_seat front ++ seats seen back
    old-seats = ap (seats zero_seat) old-blocks ∙ seats-append zero_seat front back

    new-seats : seats zero_seat (tree_blocks mode u) ≡ seats zero_seat front ++ (seats seen m ++ seats seen back)
    new-seats =
        ap (seats zero_seat) new-are ∙ seats-append zero_seat front (m ++ back)
        ∙ ap (λ z. seats zero_seat front ++ z)
        (seats-append seen m back ∙ ap (λ z. seats seen m ++ seats z back) (no-seat seen m unplaced))

    abbrev sorted : List Seated
    sorted = sorted_by before (seats zero_seat front ++ (seats seen m ++ seats seen back))

    new-shown : printed mode u ≡ shown mode true sorted
    new-shown = printed-seats mode u st.root ∙ ap (λ z. shown mode true (sorted_by before z)) new-seats

    all-either : AllByRecursion (λ (p : Seated). IsEither mode q p.1) sorted
    all-either =
        all-sorted (λ (p : Seated). IsEither mode q p.1) before (seats zero_seat front ++ (seats seen m ++ seats seen back))
        (subst (AllByRecursion (λ (p : Seated). IsEither mode q p.1)) new-seats
        (all-seats (IsEither mode q) zero_seat (tree_blocks mode u) (subst (AllByRecursion (IsEither mode q)) (sym new-are) eithers)))

    -- a test of the seats of the three parts
    three : (test : Seated → Bool) (x y z : List Seated) → filter test (seats zero_seat front) ≡ x → filter test (seats seen m) ≡ y
        → filter test (seats seen back) ≡ z
        → filter test (seats zero_seat front ++ (seats seen m ++ seats seen back)) ≡ x ++ (y ++ z)
    three test x y z a b c =
        filter-append test (seats zero_seat front) (seats seen m ++ seats seen back)
        ∙ ap (λ r. r ++ filter test (seats seen m ++ seats seen back)) a
        ∙ ap (λ r. x ++ r)
        (filter-append test (seats seen m) (seats seen back) ∙ ap (λ r. r ++ filter test (seats seen back)) b ∙ ap (λ r. y ++ r) c)

    others-in : (z : ℤ) (bs : List Block) → AllByRecursion (IsOther mode q) bs
        → AllByRecursion (λ (p : Seated). is_own mode q p ≡ false) (seats z bs)
    others-in z bs h = all-seats (λ b. is_front q b.path ≡ false) z bs (all-map (IsOther mode q) (λ b. is_front q b.path ≡ false) bs (λ b o. o.0.0) h)

    kept-seats : (z : ℤ) (bs : List Block) → AllByRecursion (IsOther mode q) bs
        → filter (λ p. not (is_own mode q p)) (seats z bs) ≡ seats z bs
    kept-seats z bs h =
        filter-all (λ p. not (is_own mode q p)) (seats z bs)
        (all-map (λ (p : Seated). is_own mode q p ≡ false) (λ p. not (is_own mode q p) ≡ true) (seats z bs) (λ p e. ap not e) (others-in z bs h))

    no-last : (z : ℤ) (bs : List Block) → AllByRecursion (IsOther mode q) bs → filter (is_last mode q) (seats z bs) ≡ []
    no-last z bs h =
        filter-none (is_last mode q) (seats z bs)
        (all-map (λ (p : Seated). is_own mode q p ≡ false) (λ p. is_last mode q p ≡ false) (seats z bs)
        (λ p e. ap (λ b. b && is_headed p.1) e) (others-in z bs h))

    front-ones : AllByRecursion (IsOther mode q) front
    front-ones = all-front (IsOther mode q) front back old-ones

    back-ones : AllByRecursion (IsOther mode q) back
    back-ones = all-back (IsOther mode q) front back old-ones

    own-gone : filter (λ p. not (is_own mode q p)) (seats seen m) ≡ []
    own-gone =
        filter-none (λ p. not (is_own mode q p)) (seats seen m)
        (all-seats (λ b. not (is_front q b.path) ≡ false) seen m
        (all-map (IsOwn mode q) (λ b. not (is_front q b.path) ≡ false) m (λ b o. ap not o.0.0) own-ones))

    -- ---- the statements

    all-steady : AllByRecursion (λ (p : Seated). IsSteadyBlock p.1) (sorted_by before (seats zero_seat front ++ seats seen back))
    all-steady =
        all-sorted (λ (p : Seated). IsSteadyBlock p.1) before (seats zero_seat front ++ seats seen back)
        (subst (AllByRecursion (λ (p : Seated). IsSteadyBlock p.1)) old-seats
        (all-seats IsSteadyBlock zero_seat (tree_blocks mode t) (steady-tree mode t st)))

    others-stay : outside mode q u ≡ printed mode t
    others-stay =
        outside-is mode q u ∙ ap (filter (keeps mode q)) new-shown
        ∙ outside-shown mode q true sorted all-either
        ∙ ap (flat_map (λ (p : Seated). block_printed mode p.1))
        (sorts (λ p. not (is_own mode q p)) (seats zero_seat front ++ (seats seen m ++ seats seen back))
        ∙ ap (sorted_by before)
        (three (λ p. not (is_own mode q p)) (seats zero_seat front) [] (seats seen back) (kept-seats zero_seat front front-ones) own-gone
        (kept-seats seen back back-ones)))
        ∙ sym (steady-shown true (sorted_by before (seats zero_seat front ++ seats seen back)) all-steady)
        ∙ sym (printed-seats mode t st.root ∙ ap (λ z. shown mode true (sorted_by before z)) old-seats)

    abbrev last_one : Seated
    last_one = (last_seat (last_seat seen implied) (block_of mode last ∷ []), block_of mode last)

    last-alone : filter (is_last mode q) (seats seen m) ≡ last_one ∷ []
    last-alone =
        let xs : List Block = implied in
        let z : ℤ = last_seat seen xs in
        let b : Block = block_of mode last in
        ap (filter (is_last mode q)) (seats-append seen xs (b ∷ []))
        ∙ filter-append (is_last mode q) (seats seen xs) (seats z (b ∷ []))
        ∙ ap (λ r. r ++ filter (is_last mode q) (seats z (b ∷ [])))
        (filter-none (is_last mode q) (seats seen xs)
        (all-seats (λ c. (is_front q c.path && is_headed c) ≡ false) seen xs
        (all-map (λ c. (is_headed c ≡ false) × (c.lines ≡ [])) (λ c. (is_front q c.path && is_headed c) ≡ false) xs
        (λ c h. ap (λ e. is_front q c.path && e) h.0 ∙ and-false (is_front q c.path)) bare_ones)))
        ∙ if-true (is_front q b.path && is_headed b) (last_one ∷ []) []
        (ap (λ e. e && is_headed b) (all-back (IsBlockUnder q) xs (b ∷ []) under).0.0 ∙ headed)

    own-shown : (e : Bool) × (inside mode q u ≡ printed_table mode e last)
    own-shown =
        let alone =
        sorts (is_last mode q) (seats zero_seat front ++ (seats seen m ++ seats seen back))
        ∙ ap (sorted_by before)
        (three (is_last mode q) [] (last_one ∷ []) [] (no-last zero_seat front front-ones) last-alone (no-last seen back back-ones)) in
        let r = one-shown mode q true sorted last_one all-either alone in (
          r.0,
          filter-alike (λ s. is_at_or_below q s.path) (is_in mode q) (λ s. front-is q s.path) (printed mode u)
              ∙ ap (filter (is_in mode q)) new-shown ∙ r.1,
        )

    pub one-table-more : OneTableMore mode t u q last
    one-table-more =
        record {
          others = others-stay;
          is_first = own-shown.0;
          own = own-shown.1;
          text = edited-framed mode way g t;
        }
