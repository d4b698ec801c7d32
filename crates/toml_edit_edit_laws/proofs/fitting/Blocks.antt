-- Decors that suit and elements in order, by the blocks of a steady tree.
use Rattle.std.proofs.Common.{◌≡◌, refl, sym, ◌∙◌, ap, subst, ℤ, pos, Bool, true, false, List, [], ◌∷◌}
use Rattle.std.specs.Prelude.{filter, map, if◌then◌else◌, MatchBool}
use Rattle.std.specs.List.{AllByRecursion}
use Rattle.toml_edit_model.specs.Mode.{Mode}
use Rattle.toml_edit_model.specs.Tree.{Tree}
use Rattle.toml_edit_model.specs.HeaderOrder.{Visit, PlacedVisit, walk, slots_walk, place_of, places_from, comes_before, in_header_order}
use Rattle.toml_edit_model.specs.Print.{has_header}
use Rattle.toml_edit_model.specs.Fits.{HeaderSuits, PrintedLineSuits, TableSuits, headed, none_too_late}
use Rattle.toml_edit_model.specs.Order.{sorted_by}
use Rattle.toml_edit_laws.specs.Locality.{root_visit}
use Rattle.toml_edit_laws.proofs.common.Tests.{if-false}
use Rattle.toml_edit_laws.proofs.common.Lists.{filter-image}
use Rattle.toml_edit_laws.proofs.common.OrderLaws.{all-sorted}
use Rattle.toml_edit_laws.proofs.common.Sorting.{filter-sorted}
use Rattle.toml_edit_laws.proofs.common.Visits.{before-total, before-trans, slots-below}
use Rattle.toml_edit_laws.proofs.locality.Blocks.{Block, block_of, blocks, is_headed, bare, stands_first, has_placed_header, block_at}
use Rattle.toml_edit_laws.proofs.locality.Blocks.{own-places, blocks-in_places, same-order}
use Rattle.toml_edit_laws.proofs.locality.Along.{tree_blocks}
use Rattle.toml_edit_laws.proofs.locality.Sound.{Steady}
use Rattle.toml_edit_edit_laws.proofs.fitting.Orders.{all-unsorted, stripped, late-stripped}

-- the headers of blocks, in order
abbrev pub ordered_headers : List Block → List Visit
ordered_headers bs = map bare (sorted_by stands_first (filter is_headed bs))

module _ (mode : Mode) where
  -- ---- decors

  -- the decors of a block's header and lines suit their places
  abbrev pub BlockSuits : Block → Type 0
  BlockSuits b =
      MatchBool (is_headed b) (HeaderSuits mode (bare b)) (Unit {0}) × AllByRecursion (PrintedLineSuits mode) b.lines

  to-block : (v : Visit) (p : PlacedVisit) → p.1 ≡ v → TableSuits mode p → BlockSuits (block_of mode v)
  to-block v p e h = subst (λ w. BlockSuits (block_of mode w)) e (by_test (has_header mode p.1) h.0, h.1)
    where
      by_test : (b : Bool) → MatchBool b (HeaderSuits mode p.1) (Unit {0})
          → MatchBool b (HeaderSuits mode (bare (block_of mode p.1))) (Unit {0})
      by_test true h = record { inner = h.inner; segments = h.segments; leading = h.leading; trailing = h.trailing }
      by_test false h = tt

  from-block : (p : PlacedVisit) → BlockSuits (block_of mode p.1) → TableSuits mode p
  from-block p h = (by_test (has_header mode p.1) h.0, h.1)
    where
      by_test : (b : Bool) → MatchBool b (HeaderSuits mode (bare (block_of mode p.1))) (Unit {0})
          → MatchBool b (HeaderSuits mode p.1) (Unit {0})
      by_test true h = record { inner = h.inner; segments = h.segments; leading = h.leading; trailing = h.trailing }
      by_test false h = tt

  to-blocks : (seen : ℤ) (vs : List Visit) → AllByRecursion (TableSuits mode) (places_from seen vs)
      → AllByRecursion BlockSuits (blocks mode vs)
  to-blocks seen [] h = tt
  to-blocks seen (v ∷ vs) h = by_test v.fields.is_dotted h (to-blocks seen vs) (to-blocks (place_of seen v) vs)
    where
      by_test : (b : Bool)
          → AllByRecursion (TableSuits mode) (if b then places_from seen vs else (place_of seen v, v) ∷ places_from (place_of seen v) vs)
          → (AllByRecursion (TableSuits mode) (places_from seen vs) → AllByRecursion BlockSuits (blocks mode vs))
          → (AllByRecursion (TableSuits mode) (places_from (place_of seen v) vs) → AllByRecursion BlockSuits (blocks mode vs))
          → AllByRecursion BlockSuits (if b then blocks mode vs else block_of mode v ∷ blocks mode vs)
      by_test true h f g = f h
      by_test false h f g = (to-block v (place_of seen v, v) refl h.0, g h.1)

  from-blocks : (seen : ℤ) (vs : List Visit) → AllByRecursion BlockSuits (blocks mode vs)
      → AllByRecursion (TableSuits mode) (places_from seen vs)
  from-blocks seen [] h = tt
  from-blocks seen (v ∷ vs) h = by_test v.fields.is_dotted h (from-blocks seen vs) (from-blocks (place_of seen v) vs)
    where
      by_test : (b : Bool)
          → AllByRecursion BlockSuits (if b then blocks mode vs else block_of mode v ∷ blocks mode vs)
          → (AllByRecursion BlockSuits (blocks mode vs) → AllByRecursion (TableSuits mode) (places_from seen vs))
          → (AllByRecursion BlockSuits (blocks mode vs) → AllByRecursion (TableSuits mode) (places_from (place_of seen v) vs))
          → AllByRecursion (TableSuits mode) (if b then places_from seen vs else (place_of seen v, v) ∷ places_from (place_of seen v) vs)
      by_test true h f g = f h
      by_test false h f g = (from-block (place_of seen v, v) h.0, g h.1)

  walk-blocks : (t : Tree) → Steady mode t → blocks mode (walk t) ≡ tree_blocks mode t
  walk-blocks t s =
      if-false t.root.is_dotted (blocks mode (slots_walk t.slots [] [])) (tree_blocks mode t) s.root

  pub suit-blocks : (t : Tree) → Steady mode t → AllByRecursion (TableSuits mode) (in_header_order t)
      → AllByRecursion BlockSuits (tree_blocks mode t)
  suit-blocks t s h =
      subst (AllByRecursion BlockSuits) (walk-blocks t s)
      (to-blocks (pos 0) (walk t) (all-unsorted (TableSuits mode) comes_before (places_from (pos 0) (walk t)) h))

  pub suit-tables : (t : Tree) → Steady mode t → AllByRecursion BlockSuits (tree_blocks mode t)
      → AllByRecursion (TableSuits mode) (in_header_order t)
  suit-tables t s h =
      all-sorted (TableSuits mode) comes_before (places_from (pos 0) (walk t))
      (from-blocks (pos 0) (walk t) (subst (AllByRecursion BlockSuits) (sym (walk-blocks t s)) h))

  -- ---- order

  bare-places : (ps : List PlacedVisit) → map stripped (map (λ (p : PlacedVisit). p.1) ps) ≡ map bare (map (block_at mode) ps)
  bare-places [] = refl
  bare-places (p ∷ ps) = ap (λ vs. stripped p.1 ∷ vs) (bare-places ps)

  pub order-blocks : (t : Tree) → Steady mode t → none_too_late (headed mode t) ≡ none_too_late (ordered_headers (tree_blocks mode t))
  order-blocks t s =
      let vs : List Visit = slots_walk t.slots [] [] in
      let z : ℤ = place_of (pos 0) (root_visit t) in
      let all : List PlacedVisit = places_from (pos 0) (walk t) in
      let test = has_placed_header mode in
      ap none_too_late (filter-image (λ (p : PlacedVisit). p.1) (has_header mode) (sorted_by comes_before all))
      ∙ sym (late-stripped (map (λ (p : PlacedVisit). p.1) (filter test (sorted_by comes_before all))))
      ∙ ap none_too_late
      (bare-places (filter test (sorted_by comes_before all))
      ∙ ap (λ ps. map bare (map (block_at mode) ps))
      (filter-sorted comes_before before-trans before-total test all
      ∙ ap (λ b. sorted_by comes_before (filter test (if b then places_from (pos 0) vs else (z, root_visit t) ∷ places_from z vs))) s.root)
      ∙ ap (map bare)
      (same-order mode (filter test (places_from z vs)) (own-places mode z vs (slots-below t.slots [] []) s.tables.1)
      ∙ ap (sorted_by stands_first) (blocks-in_places mode z vs)))
