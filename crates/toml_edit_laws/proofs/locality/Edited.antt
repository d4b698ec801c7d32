-- An edited tree is steady where its one changed block is.
use Rattle.std.proofs.Common.{◌≡◌, refl, sym, ◌∙◌, ap, subst, List, [], ◌∷◌, ◌++◌}
use Rattle.std.specs.Prelude.{◌||◌, not, map}
use Rattle.std.specs.List.{AllByRecursion}
use Rattle.toml_edit_model.specs.Mode.{Mode}
use Rattle.toml_edit_model.specs.Paths.{Path}
use Rattle.toml_edit_model.specs.Tree.{Node, Key, Tree}
use Rattle.toml_edit_model.specs.HeaderOrder.{Visit, slots_walk}
use Rattle.toml_edit_model.specs.Print.{Line}
use Rattle.toml_edit_model.specs.Fits.{has_steady_header}
use Rattle.toml_edit_model.specs.Slots.{Slot, changed}
use Rattle.toml_edit_laws.specs.Locality.{Turn, root_visit, edited, StaysSteady}
use Rattle.toml_edit_laws.proofs.common.Tests.{or-true}
use Rattle.toml_edit_laws.proofs.locality.Blocks.{Block, is_headed, bare, IsSteadyBlock}
use Rattle.toml_edit_laws.proofs.locality.Sound.{Steady, SlotsAreSound, steady-blocks, steady-tables, steady-whole, slots-visits}
use Rattle.toml_edit_laws.proofs.locality.Sound.{IsSoundVisit}
use Rattle.toml_edit_laws.proofs.locality.Along.{Whole, tree_blocks, IsFirmVisit}
use Rattle.toml_edit_laws.proofs.locality.Printing.{with_lines}
use Rattle.toml_edit_laws.proofs.common.Each.{all-append, all-front, all-back, all-map}

pub all-from-map : (P : Block → Type 0) (h : Block → Block) → ((b : Block) → P (h b) → P b) → (bs : List Block)
    → AllByRecursion P (map h bs) → AllByRecursion P bs
all-from-map P h f [] a = tt
all-from-map P h f (b ∷ bs) a = (f b a.0, all-from-map P h f bs a.1)

pub all-to-map : (P : Block → Type 0) (h : Block → Block) → ((b : Block) → P b → P (h b)) → (bs : List Block) → AllByRecursion P bs
    → AllByRecursion P (map h bs)
all-to-map P h f [] a = tt
all-to-map P h f (b ∷ bs) a = (f b a.0, all-to-map P h f bs a.1)

-- a block with other lines is steady if it has a header as before
pub steady-same : (b : Block) (ls : List Line) → is_headed (with_lines b ls) ≡ is_headed b → IsSteadyBlock b
    → IsSteadyBlock (with_lines b ls)
steady-same b ls e s = ap (λ z. not z || has_steady_header (bare b)) e ∙ s

module _ (mode : Mode) where
  pub firm-visits : (t : Tree) → Steady mode t → AllByRecursion IsFirmVisit (slots_walk t.slots [] [])
  firm-visits t s = all-map IsSoundVisit IsFirmVisit (slots_walk t.slots [] []) (λ v e. e.0) (slots-visits t.slots [] [] s.sound)

  pub steady-tree : (t : Tree) → Steady mode t → AllByRecursion IsSteadyBlock (tree_blocks mode t)
  steady-tree t s = (refl, steady-blocks mode (slots_walk t.slots [] []) s.tables.1)

  module _ (q : Path) (h : Block → Block) (v : Visit) (g : List (Slot Node) → List (Slot Node)) (M N : List Key
      → List Line) (m n : List Block)
      (there : (b : Block) → IsSteadyBlock b → IsSteadyBlock (h b)) (back : (b : Block) → IsSteadyBlock (h b) → IsSteadyBlock b) where
    pub whole-steady : (way : List Turn) (t : Tree) → Steady mode t → SlotsAreSound (edited way g t).slots
        → (w : Whole mode q h v g M N m n (tree_blocks mode t) (tree_blocks mode (edited way g t)))
        → (IsSteadyBlock w.block → IsSteadyBlock (with_lines w.block w.lines)) → AllByRecursion IsSteadyBlock n
        → Steady mode (edited way g t)
    whole-steady way t s sound w changed all_n =
        let u : Tree = edited way g t in
        let c : Block = with_lines w.block w.lines in
        let old : AllByRecursion IsSteadyBlock (w.front ++ (w.block ∷ (w.middle ++ (m ++ w.back)))) =
        subst (λ z. AllByRecursion IsSteadyBlock z) w.first (steady-tree t s) in
        let rest = all-back IsSteadyBlock w.front (w.block ∷ (w.middle ++ (m ++ w.back))) old in
        let new : AllByRecursion IsSteadyBlock (w.front ++ (c ∷ (w.middle ++ (n ++ w.back)))) =
        all-append IsSteadyBlock w.front (c ∷ (w.middle ++ (n ++ w.back))) (all-front IsSteadyBlock w.front (w.block
        ∷ (w.middle ++ (m ++ w.back))) old) (
          changed rest.0,
          all-append IsSteadyBlock w.middle (n ++ w.back) (all-front IsSteadyBlock w.middle (m ++ w.back) rest.1)
              (all-append IsSteadyBlock n w.back all_n (all-back IsSteadyBlock m w.back (all-back IsSteadyBlock w.middle (m
              ++ w.back) rest.1))),
        ) in
        let all : AllByRecursion IsSteadyBlock (tree_blocks mode u) =
        all-from-map IsSteadyBlock h back (tree_blocks mode u)
        (subst (λ z. AllByRecursion IsSteadyBlock z) (sym w.second) (all-to-map IsSteadyBlock h there (w.front
        ++ (c ∷ (w.middle ++ (n ++ w.back)))) new)) in
        record {
          root = s.root;
          sound = sound;
          tables = (
            ap (λ b. b || has_steady_header (root_visit u)) (or-true u.root.is_dotted),
            steady-tables mode (slots_walk u.slots [] []) all.1,
          );
        }

  pub stays-steady : (way : List Turn) (g : List (Slot Node) → List (Slot Node)) (t : Tree) → Steady mode (edited way g t)
      → StaysSteady mode t (edited way g t)
  stays-steady way g t s = (refl, refl, steady-whole mode (edited way g t) s)
