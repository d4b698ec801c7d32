-- The print of a tree by its blocks, each at its place among the headers, also of tables without a position.
use Rattle.std.proofs.Common.{◌≡◌, refl, sym, ◌∙◌, ap, ℤ, pos, Bool, true, false, List, [], ◌∷◌, ◌++◌, None}
use Rattle.std.specs.Prelude.{◌&&◌, map, if◌then◌else◌, unwrap_or}
use Rattle.std.specs.List.{AllByRecursion}
use Rattle.toml_edit_model.specs.Mode.{Mode}
use Rattle.toml_edit_model.specs.Text.{is_empty}
use Rattle.toml_edit_model.specs.Tree.{Tree}
use Rattle.toml_edit_model.specs.HeaderOrder.{Visit, PlacedVisit, comes_before, place_of, places_from, slots_walk, walk}
use Rattle.toml_edit_model.specs.Order.{sorted_by}
use Rattle.toml_edit_model.specs.Print.{Printed, header_statement, printed, printed_line, printed_table, printed_tables}
use Rattle.toml_edit_laws.specs.Locality.{root_visit}
use Rattle.toml_edit_laws.proofs.common.OrderLaws.{sorted-image}
use Rattle.toml_edit_laws.proofs.locality.Along.{tree_blocks}
use Rattle.toml_edit_laws.proofs.locality.Blocks.{Block, bare, block_of, blocks, is_headed}

-- a block, and its place
abbrev pub Seated : Type 0
Seated = ℤ × Block

abbrev pub before : Seated → Seated → Bool
before p q = comes_before (p.0, bare p.1) (q.0, bare q.1)

-- the place of a block, or the one last seen
abbrev pub seat : ℤ → Block → ℤ
seat seen b = unwrap_or b.fields.position seen

abbrev pub seats : ℤ → List Block → List Seated
seats seen [] = []
seats seen (b ∷ bs) = (seat seen b, b) ∷ seats (seat seen b) bs

abbrev pub last_seat : ℤ → List Block → ℤ
last_seat seen [] = seen
last_seat seen (b ∷ bs) = last_seat (seat seen b) bs

pub seats-append : (seen : ℤ) (xs ys : List Block) → seats seen (xs ++ ys) ≡ seats seen xs ++ seats (last_seat seen xs) ys
seats-append seen [] ys = refl
seats-append seen (b ∷ xs) ys = ap (λ z. (seat seen b, b) ∷ z) (seats-append (seat seen b) xs ys)

pub all-seats : (P : Block → Type 0) (seen : ℤ) (bs : List Block) → AllByRecursion P bs → AllByRecursion (λ (p : Seated). P p.1) (seats seen bs)
all-seats P seen [] h = tt
all-seats P seen (b ∷ bs) h = (h.0, all-seats P (seat seen b) bs h.1)

-- blocks without a position have the place last seen
pub no-seat : (seen : ℤ) (bs : List Block) → AllByRecursion (λ b. b.fields.position ≡ None) bs → last_seat seen bs ≡ seen
no-seat seen [] h = refl
no-seat seen (b ∷ bs) h = ap (λ o. last_seat (unwrap_or o seen) bs) h.0 ∙ no-seat seen bs h.1

module _ (mode : Mode) where
  -- the statements of a block, of which the first to be printed has no empty line before it
  abbrev pub block_shown : Bool → Block → List Printed
  block_shown d b =
      (if is_headed b then record { block = b.path; path = b.path; statement = header_statement mode d (bare b) } ∷ [] else [])
      ++ map (printed_line mode b.path) b.lines

  abbrev pub shown : Bool → List Seated → List Printed
  shown d [] = []
  shown d (p ∷ ps) = block_shown d p.1 ++ shown (d && is_empty (block_shown d p.1)) ps

  abbrev seated : PlacedVisit → Seated
  seated p = (p.0, block_of mode p.1)

  shown-tables : (d : Bool) (ps : List PlacedVisit) → printed_tables mode d ps ≡ shown d (map seated ps)
  shown-tables d [] = refl
  shown-tables d (p ∷ ps) =
      ap (λ z. printed_table mode d p.1 ++ z) (shown-tables (d && is_empty (printed_table mode d p.1)) ps)

  seated-places : (seen : ℤ) (vs : List Visit) → map seated (places_from seen vs) ≡ seats seen (blocks mode vs)
  seated-places seen [] = refl
  seated-places seen (v ∷ vs) = by_test v.fields.is_dotted (seated-places seen vs) (seated-places (place_of seen v) vs)
    where
      by_test : (b : Bool) → map seated (places_from seen vs) ≡ seats seen (blocks mode vs)
          → map seated (places_from (place_of seen v) vs) ≡ seats (place_of seen v) (blocks mode vs)
          → map seated (if b then places_from seen vs else (place_of seen v, v) ∷ places_from (place_of seen v) vs)
          ≡ seats seen (if b then blocks mode vs else block_of mode v ∷ blocks mode vs)
      by_test true x y = x
      by_test false x y = ap (λ z. (place_of seen v, block_of mode v) ∷ z) y

  pub printed-seats : (t : Tree) → t.root.is_dotted ≡ false → printed mode t ≡ shown true (sorted_by before (seats (pos 0) (tree_blocks mode t)))
  printed-seats t root =
      let ps : List PlacedVisit = places_from (pos 0) (walk t) in
      shown-tables true (sorted_by comes_before ps)
      ∙ ap (shown true) (sym (sorted-image seated before ps))
      ∙ ap (λ z. shown true (sorted_by before z)) (seated-places (pos 0) (walk t))
      ∙ ap (λ b. shown true (sorted_by before (seats (pos 0) (if b then blocks mode (slots_walk t.slots [] [])
      else block_of mode (root_visit t) ∷ blocks mode (slots_walk t.slots [] []))))) root
