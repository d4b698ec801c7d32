-- The printed statements with the root's prefix before the first, read in their places.
use Rattle.std.proofs.Common.{◌≡◌, refl, sym, subst, Bool, true, false, List, [], ◌∷◌, ◌++◌}
use Rattle.std.specs.Prelude.{map, if◌then◌else◌}
use Rattle.toml_edit_model.specs.Mode.{Mode}
use Rattle.toml_edit_model.specs.Text.{Text}
use Rattle.toml_edit_model.specs.Syntax.{Statement, key_line, header, without_newline}
use Rattle.toml_edit_model.specs.Paths.{Path, Context, context_after}
use Rattle.toml_edit_model.specs.Tree.{Tree}
use Rattle.toml_edit_model.specs.Print.{Printed, printed, root_prefix, add_before, document_in, open_last, leaves_open, written}
use Rattle.toml_edit_laws.specs.AcceptedPrints.{IsFitting}
use Rattle.toml_edit_laws.proofs.accepted_prints.Spots.{Spot, tree_spot}
use Rattle.toml_edit_laws.proofs.accepted_prints.Threads.{arrays_after, block_after, Threads, StandsIn, printed-thread}

-- a text before a statement
abbrev pub prefixed : Text → Statement → Statement
prefixed t (key_line f v end) = key_line (record f { leading = t ++ f.leading }) v end
prefixed t (header h end) = header (record h { leading = t ++ h.leading }) end

abbrev pub lead : Text → List Printed → List Printed
lead t [] = []
lead t (p ∷ ps) = record { block = p.block; path = p.path; statement = prefixed t p.statement } ∷ ps

pub lead-statements : (t : Text) (ps : List Printed) → map (λ (p : Printed). p.statement) (lead t ps)
    ≡ add_before t (map (λ (p : Printed). p.statement) ps)
lead-statements t [] = refl
lead-statements t (p ∷ ps) = first p.statement
  where
    first : (s : Statement) → prefixed t s ∷ map (λ (p : Printed). p.statement) ps
        ≡ add_before t (s ∷ map (λ (p : Printed). p.statement) ps)
    first (key_line f v end) = refl
    first (header h end) = refl

pub block-after : (c : Context) (s : Statement) → (context_after c s).block ≡ block_after c.arrays c.block s
block-after c (key_line f v end) = refl
block-after c (header h end) = refl

pub arrays-after : (c : Context) (s : Statement) → (context_after c s).arrays ≡ arrays_after c.arrays s
arrays-after c (key_line f v end) = refl
arrays-after c (header h end) = refl

-- threads of the arrays and the block of a context go on from those of the next
pub threads-next : (P : List Path → Path → Printed → Type 0) (c : Context) (p : Printed) (ps : List Printed)
    → Threads P c.arrays c.block (p ∷ ps)
    → Threads P (context_after c p.statement).arrays (context_after c p.statement).block ps
threads-next P c p ps h =
    subst (λ A. Threads P A (context_after c p.statement).block ps) (sym (arrays-after c p.statement))
    (subst (λ b. Threads P (arrays_after c.arrays p.statement) b ps) (sym (block-after c p.statement)) h.1)

module _ (mode : Mode) where
  module _ (K : Path → Spot) where
    first-stands : (t : Text) (A : List Path) (b block path : Path) (s : Statement)
        → StandsIn mode K A b (record { block = block; path = path; statement = s })
        → StandsIn mode K A b (record { block = block; path = path; statement = prefixed t s })
    first-stands t A b block path (key_line f v end) h = record { block = h.block; says = h.says }
    first-stands t A b block path (header k end) h = record { block = h.block; says = h.says }

    rest-threads : (t : Text) (A : List Path) (b : Path) (s : Statement) (ps : List Printed)
        → Threads (StandsIn mode K) (arrays_after A s) (block_after A b s) ps
        → Threads (StandsIn mode K) (arrays_after A (prefixed t s)) (block_after A b (prefixed t s)) ps
    rest-threads t A b (key_line f v end) ps h = h
    rest-threads t A b (header k end) ps h = h

    pub lead-threads : (t : Text) (A : List Path) (b : Path) (ps : List Printed) → Threads (StandsIn mode K) A b ps
        → Threads (StandsIn mode K) A b (lead t ps)
    lead-threads t A b [] h = tt
    lead-threads t A b (p ∷ ps) h = (first-stands t A b p.block p.path p.statement h.0, rest-threads t A b p.statement ps h.1)

  -- ---- an open end

  unended-thread : (K : Path → Spot) (A : List Path) (b block path : Path) (s : Statement)
      → StandsIn mode K A b (record { block = block; path = path; statement = s })
      → StandsIn mode K A b (record { block = block; path = path; statement = without_newline s })
  unended-thread K A b block path (key_line f v end) h = record { block = h.block; says = h.says }
  unended-thread K A b block path (header k end) h = record { block = h.block; says = h.says }

  open-threads : (K : Path → Spot) (A : List Path) (b : Path) (ps : List Printed) → Threads (StandsIn mode K) A b ps
      → Threads (StandsIn mode K) A b (open_last ps)
  open-threads K A b [] h = tt
  open-threads K A b (p ∷ []) h = (unended-thread K A b p.block p.path p.statement h.0, tt)
  open-threads K A b (p ∷ q ∷ ps) h = (h.0, open-threads K (arrays_after A p.statement) (block_after A b p.statement) (q ∷ ps) h.1)

  -- what holds of the printed statements, and with an open end, holds of those that are written
  pub written-by : (P : List Printed → Type 0) (is_open : Bool) (t : Tree) → P (printed mode t) → P (open_last (printed mode t))
      → P (written mode is_open t)
  written-by P is_open t h g = by_test (leaves_open mode is_open t)
    where
      by_test : (b : Bool) → P (if b then open_last (printed mode t) else printed mode t)
      by_test true = g
      by_test false = h

  -- The printed statements of a document are read each in the block of its table: after its header the context's block is the path of
  -- the table in the tree.
  pub printed-threads : (is_open : Bool) (t : Tree) → IsFitting mode t
      → Threads (StandsIn mode (tree_spot t.slots)) [] [] (lead (root_prefix mode t) (written mode is_open t))
  printed-threads is_open t fitting =
      let threads = printed-thread mode t fitting in
      lead-threads (tree_spot t.slots) (root_prefix mode t) [] [] (written mode is_open t)
      (written-by (Threads (StandsIn mode (tree_spot t.slots)) [] []) is_open t threads
      (open-threads (tree_spot t.slots) [] [] (printed mode t) threads))

  pub printed-statements : (is_open : Bool) (t : Tree)
      → (document_in mode is_open t).statements ≡ map (λ (p : Printed). p.statement) (lead (root_prefix mode t) (written mode is_open t))
  printed-statements is_open t = sym (lead-statements (root_prefix mode t) (written mode is_open t))
