-- The statements of a document block by block: a header and the lines after it.
use Rattle.std.proofs.Common.{◌≡◌, refl, sym, ◌∙◌, ap, ℕ, ◌+◌, Bool, true, List, [], ◌∷◌, ◌++◌, inl, inr}
use Rattle.std.specs.Prelude.{◌⊎◌, ◌||◌, not, flat_map}
use Rattle.std.specs.List.{AllByRecursion}
use Rattle.std.proofs.lemmas.Bool.{cases_Bool}
use Rattle.toml_edit_model.specs.Syntax.{Segment, Statement, key_line, header}
use Rattle.toml_edit_model.specs.Paths.{Path, Mention, Source, Placed, Context, path_start, context_after, block_of, placed_from}
use Rattle.toml_edit_model.specs.Normal.{is_line, line_before, ordered}
use Rattle.toml_edit_laws.proofs.common.OrderLaws.{sorted-alike}
use Rattle.toml_edit_laws.proofs.mentions.Placed.{placed_at}
use Rattle.toml_edit_model.specs.Order.{insert_by, sorted_by}
use Rattle.toml_edit_model.specs.Kept.{stands_before, rank}

-- ---- places

-- the path of a key line, and where it begins
abbrev pub line_path : Statement → List Segment
line_path (key_line f v end) = f.path
line_path (header h end) = []

abbrev pub place_path : Placed → List Segment
place_path s = line_path s.source.statement

abbrev pub place_start : Placed → ℕ
place_start s = s.source.start + path_start s.source.statement

-- a header, the path of the block that it opens, and the lines after it
pub record Chunk : Type 0 where
  pub head : Placed
  pub block : Path
  pub lines : List Placed

-- the lines up to the next header
abbrev pub lead_lines : Context → List Statement → List Placed
lead_lines c [] = []
lead_lines c (key_line f v end ∷ ss) = placed_at c (key_line f v end) ∷ lead_lines (context_after c (key_line f v end)) ss
lead_lines c (header h end ∷ ss) = []

abbrev pub chunks : Context → List Statement → List Chunk
chunks c [] = []
chunks c (key_line f v end ∷ ss) = chunks (context_after c (key_line f v end)) ss
chunks c (header h end ∷ ss) =
    record {
      head = placed_at c (header h end);
      block = block_of c h;
      lines = lead_lines (context_after c (header h end)) ss;
    }
    ∷ chunks (context_after c (header h end)) ss

abbrev pub chunk_places : Chunk → List Placed
chunk_places ch = ch.head ∷ ch.lines

pub placed-chunks : (c : Context) (ss : List Statement) → placed_from c ss ≡ lead_lines c ss ++ flat_map chunk_places (chunks c ss)
placed-chunks c [] = refl
placed-chunks c (key_line f v end ∷ ss) =
    ap (λ ps. placed_at c (key_line f v end) ∷ ps) (placed-chunks (context_after c (key_line f v end)) ss)
placed-chunks c (header h end ∷ ss) = ap (λ ps. placed_at c (header h end) ∷ ps) (placed-chunks (context_after c (header h end)) ss)

-- ---- in order

-- lines by their mentions alone
abbrev pub lines_before : List (List (Mention Source)) → Placed → Placed → Bool
lines_before mss a b = stands_before (rank mss) a.mentions b.mentions

abbrev pub ordered_chunk : List (List (Mention Source)) → Chunk → List Placed
ordered_chunk mss ch = ch.head ∷ sorted_by (lines_before mss) ch.lines

abbrev IsLinePlace : Placed → Type 0
IsLinePlace s = is_line s.source.statement ≡ true

leads : (c : Context) (ss : List Statement) → AllByRecursion IsLinePlace (lead_lines c ss)
leads c [] = tt
leads c (key_line f v end ∷ ss) = (refl, leads (context_after c (key_line f v end)) ss)
leads c (header h end ∷ ss) = tt

-- what goes in before the first of a list
insert-seam : {A : Type 0} (before : A → A → Bool) (a : A) (xs ys : List A) → (ys ≡ [])
    ⊎ ((y : A) × (rest : List A) × (ys ≡ y ∷ rest) × (before a y ≡ true))
    → insert_by before a (xs ++ ys) ≡ insert_by before a xs ++ ys
insert-seam before a [] ys (inl e) = rw e refl
insert-seam before a [] ys (inr h) = rw h.2 (rw h.3 refl)
insert-seam before a (x ∷ xs) ys h =
    elim (cases_Bool (before a x)) [
      | inl e ↦ rw e refl
      | inr e ↦ rw e (ap (λ zs. x ∷ zs) (insert-seam before a xs ys h))
    ]

-- the first of the chunks is a header, before which a line goes
chunk-first : (mss : List (List (Mention Source))) (s : Placed) (c : Context) (ss : List Statement)
    → (flat_map (ordered_chunk mss) (chunks c ss) ≡ [])
    ⊎ ((y : Placed) × (rest : List Placed) × (flat_map (ordered_chunk mss) (chunks c ss) ≡ y ∷ rest) × (line_before mss s y ≡ true))
chunk-first mss s c [] = inl refl
chunk-first mss s c (key_line f v end ∷ ss) = chunk-first mss s (context_after c (key_line f v end)) ss
chunk-first mss s c (header h end ∷ ss) =
    inr (
      placed_at c (header h end),
      sorted_by (lines_before mss) (lead_lines (context_after c (header h end)) ss)
          ++ flat_map (ordered_chunk mss) (chunks (context_after c (header h end)) ss),
      refl,
      refl,
    )

lines-alike : (mss : List (List (Mention Source))) (xs : List Placed) → AllByRecursion IsLinePlace xs → sorted_by (line_before mss) xs
    ≡ sorted_by (lines_before mss) xs
lines-alike mss xs h =
    sorted-alike IsLinePlace (line_before mss) (lines_before mss) (λ a b p q. ap (λ t. not t || lines_before mss a b) q) xs h

-- The lines of each block in their order, each block after its header.
pub ordered-chunks : (mss : List (List (Mention Source))) (c : Context) (ss : List Statement)
    → ordered mss (placed_from c ss) ≡ sorted_by (lines_before mss) (lead_lines c ss) ++ flat_map (ordered_chunk mss) (chunks c ss)
ordered-chunks mss c [] = refl
ordered-chunks mss c (key_line f v end ∷ ss) =
    let s : Placed = placed_at c (key_line f v end) in
    let d : Context = context_after c (key_line f v end) in
    let xs : List Placed = lead_lines d ss in
    let rest : List Placed = flat_map (ordered_chunk mss) (chunks d ss) in
    ap (insert_by (line_before mss) s) (ordered-chunks mss d ss ∙ ap (λ ys. ys ++ rest) (sym (lines-alike mss xs (leads d ss))))
    ∙ insert-seam (line_before mss) s (sorted_by (line_before mss) xs) rest (chunk-first mss s d ss)
    ∙ ap (λ ys. ys ++ rest) (lines-alike mss (s ∷ xs) (refl, leads d ss))
ordered-chunks mss c (header h end ∷ ss) =
    ap (λ ps. placed_at c (header h end) ∷ ps) (ordered-chunks mss (context_after c (header h end)) ss)
