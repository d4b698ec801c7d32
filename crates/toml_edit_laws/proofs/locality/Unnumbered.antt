-- What is printed doesn't depend on the numbers of elements.
use Rattle.std.proofs.Common.{◌≡◌, refl, sym, ◌∙◌, ap, ℕ, suc, Bool, true, false, List, [], ◌∷◌, ◌++◌}
use Rattle.std.specs.Prelude.{if◌then◌else◌, filter, map, flat_map}
use Rattle.std.proofs.lemmas.List.{map-append}
use Rattle.toml_edit_model.specs.Mode.{Mode}
use Rattle.toml_edit_model.specs.Paths.{Path, to_key, to_element}
use Rattle.toml_edit_model.specs.Tree.{Key, TableFields, Node, nothing, leaf, list, inline, table, tables, Items, no_items, item, Slots}
use Rattle.toml_edit_model.specs.Tree.{no_slots, slot}
use Rattle.toml_edit_model.specs.HeaderOrder.{Visit, visit_of, node_walk, items_walk, slots_walk}
use Rattle.toml_edit_model.specs.Print.{Line, Printed, printed_line, header_statement}
use Rattle.toml_edit_laws.specs.Locality.{statements}
use Rattle.toml_edit_laws.proofs.common.OrderLaws.{sorted-image}
use Rattle.toml_edit_laws.proofs.locality.Blocks.{Block, block_of, blocks, blocks-append, is_headed, bare, block_header, block_printed}
use Rattle.toml_edit_laws.proofs.locality.Blocks.{stands_first, printed_blocks}
use Rattle.toml_edit_laws.proofs.locality.Printing.{printed_all}
use Rattle.toml_edit_laws.proofs.common.Lists.{filter-image}
use Rattle.toml_edit_laws.proofs.common.Statements.{statements-append}
use Rattle.toml_edit_model.specs.Order.{sorted_by}

-- the block without its numbered path
abbrev pub unnumbered : Block → Block
unnumbered b = record b { path = [] }

module _ (mode : Mode) where
  same-lines : (p q : Path) (ls : List Line) → statements (map (printed_line mode p) ls) ≡ statements (map (printed_line mode q) ls)
  same-lines p q [] = refl
  same-lines p q (l ∷ ls) = ap (λ z. (printed_line mode q l).statement ∷ z) (same-lines p q ls)

  same-header : (b : Block) → statements (block_header mode (unnumbered b)) ≡ statements (block_header mode b)
  same-header b = by_test (is_headed b)
    where
      one_header : Path → List Printed
      one_header p = record { block = p; path = p; statement = header_statement mode true (bare b) } ∷ []

      by_test : (c : Bool) → statements (if c then one_header [] else []) ≡ statements (if c then one_header b.path else [])
      by_test true = refl
      by_test false = refl

  same-block : (b : Block) → statements (block_printed mode (unnumbered b)) ≡ statements (block_printed mode b)
  same-block b =
      statements-append (block_header mode (unnumbered b)) (map (printed_line mode []) b.lines)
      ∙ ap (λ z. z ++ statements (map (printed_line mode []) b.lines)) (same-header b)
      ∙ ap (λ z. statements (block_header mode b) ++ z) (same-lines [] b.path b.lines)
      ∙ sym (statements-append (block_header mode b) (map (printed_line mode b.path) b.lines))

  same-flat : (bs : List Block) → statements (flat_map (block_printed mode) (map unnumbered bs))
      ≡ statements (flat_map (block_printed mode) bs)
  same-flat [] = refl
  same-flat (b ∷ bs) =
      statements-append (block_printed mode (unnumbered b)) (flat_map (block_printed mode) (map unnumbered bs))
      ∙ ap (λ z. z ++ statements (flat_map (block_printed mode) (map unnumbered bs))) (same-block b)
      ∙ ap (λ z. statements (block_printed mode b) ++ z) (same-flat bs)
      ∙ sym (statements-append (block_printed mode b) (flat_map (block_printed mode) bs))

  same-blocks : (bs : List Block) → statements (printed_blocks mode (map unnumbered bs)) ≡ statements (printed_blocks mode bs)
  same-blocks bs =
      ap (λ z. statements (flat_map (block_printed mode) (sorted_by stands_first z))) (filter-image unnumbered is_headed bs)
      ∙ ap (λ z. statements (flat_map (block_printed mode) z)) (sorted-image unnumbered stands_first (filter is_headed bs))
      ∙ same-flat (sorted_by stands_first (filter is_headed bs))

  pub same-print : (bs : List Block) → statements (printed_all mode (map unnumbered bs)) ≡ statements (printed_all mode bs)
  same-print [] = refl
  same-print (r ∷ bs) =
      statements-append (block_printed mode (unnumbered r)) (printed_blocks mode (map unnumbered bs))
      ∙ ap (λ z. z ++ statements (printed_blocks mode (map unnumbered bs))) (same-block r)
      ∙ ap (λ z. statements (block_printed mode r) ++ z) (same-blocks bs)
      ∙ sym (statements-append (block_printed mode r) (printed_blocks mode bs))

  -- ---- the blocks at other paths

  pub unnumbered-append : (vs ws : List Visit) → map unnumbered (blocks mode (vs ++ ws)) ≡ map unnumbered (blocks mode vs)
      ++ map unnumbered (blocks mode ws)
  unnumbered-append vs ws = ap (map unnumbered) (blocks-append mode vs ws) ∙ map-append unnumbered (blocks mode vs) (blocks mode ws)

  same-table : (p q : Path) (ks : List Key) (b : Bool) (f : TableFields) (ss : Slots) (vs ws : List Visit) → map unnumbered (blocks mode vs)
      ≡ map unnumbered (blocks mode ws)
      → map unnumbered (blocks mode (visit_of p ks b f ss ∷ vs)) ≡ map unnumbered (blocks mode (visit_of q ks b f ss ∷ ws))
  same-table p q ks b f ss vs ws e = by_test f.is_dotted
    where
      by_test : (c : Bool) → map unnumbered (if c then blocks mode vs else block_of mode (visit_of p ks b f ss) ∷ blocks mode vs)
          ≡ map unnumbered (if c then blocks mode ws else block_of mode (visit_of q ks b f ss) ∷ blocks mode ws)
      by_test true = e
      by_test false = ap (λ z. unnumbered (block_of mode (visit_of p ks b f ss)) ∷ z) e

  mutual
    same-node : (n : Node) (p q : Path) (ks : List Key) (b : Bool) → map unnumbered (blocks mode (node_walk n p ks b))
        ≡ map unnumbered (blocks mode (node_walk n q ks b))
    same-node (table f ss) p q ks b = same-table p q ks b f ss (slots_walk ss p ks) (slots_walk ss q ks) (same-slots ss p q ks)
    same-node (tables e xs) p q ks b = same-items xs p q ks 0 0
    same-node (leaf s r d) p q ks b = refl
    same-node (list f xs) p q ks b = refl
    same-node (inline f ss) p q ks b = refl
    same-node nothing p q ks b = refl

    pub same-items : (xs : Items) (p q : Path) (ks : List Key) (n m : ℕ) → map unnumbered (blocks mode (items_walk xs p ks n))
        ≡ map unnumbered (blocks mode (items_walk xs q ks m))
    same-items no_items p q ks n m = refl
    same-items (item (table f ss) xs) p q ks n m =
        let v = visit_of (to_element p n) ks true f ss in
        let w = visit_of (to_element q m) ks true f ss in
        unnumbered-append (v ∷ slots_walk ss (to_element p n) ks) (items_walk xs p ks (suc n))
        ∙ ap (λ z. z ++ map unnumbered (blocks mode (items_walk xs p ks (suc n))))
        (same-table (to_element p n) (to_element q m) ks true f ss (slots_walk ss (to_element p n) ks) (slots_walk ss (to_element q m) ks)
        (same-slots ss (to_element p n) (to_element q m) ks))
        ∙ ap (λ z. map unnumbered (blocks mode (w ∷ slots_walk ss (to_element q m) ks)) ++ z) (same-items xs p q ks (suc n) (suc m))
        ∙ sym (unnumbered-append (w ∷ slots_walk ss (to_element q m) ks) (items_walk xs q ks (suc m)))
    same-items (item (tables e ys) xs) p q ks n m = same-items xs p q ks n m
    same-items (item (leaf s r d) xs) p q ks n m = same-items xs p q ks n m
    same-items (item (list f ys) xs) p q ks n m = same-items xs p q ks n m
    same-items (item (inline f ss) xs) p q ks n m = same-items xs p q ks n m
    same-items (item nothing xs) p q ks n m = same-items xs p q ks n m

    same-slots : (ss : Slots) (p q : Path) (ks : List Key) → map unnumbered (blocks mode (slots_walk ss p ks))
        ≡ map unnumbered (blocks mode (slots_walk ss q ks))
    same-slots no_slots p q ks = refl
    same-slots (slot k n ss) p q ks =
        unnumbered-append (node_walk n (to_key p k.name) (ks ++ (k ∷ [])) false) (slots_walk ss p ks)
        ∙ ap (λ z. z ++ map unnumbered (blocks mode (slots_walk ss p ks))) (same-node n (to_key p k.name) (to_key q k.name) (ks
        ++ (k ∷ [])) false)
        ∙ ap (λ z. map unnumbered (blocks mode (node_walk n (to_key q k.name) (ks ++ (k ∷ [])) false)) ++ z) (same-slots ss p q ks)
        ∙ sym (unnumbered-append (node_walk n (to_key q k.name) (ks ++ (k ∷ [])) false) (slots_walk ss q ks))
