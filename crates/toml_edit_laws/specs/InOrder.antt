-- What is computed as being in order is in order.
use Rattle.std.specs.Prelude.{◌≡◌, ◌⊎◌, ℕ, ◌<◌, true, pos, List, ◌∷◌, ◌++◌, map, AllPairs}
use Rattle.std.specs.List.Sorted.{IsPermutation}
use Rattle.toml_edit_model.specs.Syntax.{Pairs, Document, IsDocument, ArePairs}
use Rattle.toml_edit_model.specs.Paths.{Path, Mention, Source, PairSource, Placed, placed, pair_mentions}
use Rattle.toml_edit_model.specs.Roles.{may_meet_inline}
use Rattle.toml_edit_model.specs.Accepted.{all_agree, is_accepted}
use Rattle.toml_edit_model.specs.Kept.{rank}
use Rattle.toml_edit_model.specs.Order.{IsInOrder, sorted_by}
use Rattle.toml_edit_model.specs.Normal.{pair_before, is_line, ordered}
use Rattle.toml_edit_model.specs.Tree.{Tree}
use Rattle.toml_edit_model.specs.HeaderOrder.{walk, places_from, comes_before, in_header_order}

-- The tables of a tree, in the order of headers.
abbrev pub HeadersInOrder : Type 0
HeadersInOrder =
    (t : Tree) → IsInOrder comes_before (places_from (pos 0) (walk t)) (in_header_order t)

-- ---- which goes before which

-- Both mention the same paths up to where they part, and there the first has the lesser rank.
pub record IsRankedBefore {S : Type 0} (rank_of : Path → ℕ) (earlier later : List (Mention S))
    : Type 0 where
  pub shared : List Path
  pub path : Path
  pub other : Path
  pub behind_path : List Path
  pub behind_other : List Path
  pub earlier_is : map (λ m. m.path) earlier ≡ shared ++ (path ∷ behind_path)
  pub later_is : map (λ m. m.path) later ≡ shared ++ (other ∷ behind_other)
  pub less : rank_of path < rank_of other

-- The second statement is in a later block. Or it is a line of the same block, and the first is the
-- header of that block, or a line that is ranked before it.
abbrev pub GoesBefore : (Path → ℕ) → Placed → Placed → Type 0
GoesBefore rank_of s r =
    (s.source.headers < r.source.headers)
    ⊎ ((s.source.headers ≡ r.source.headers) × (is_line r.source.statement ≡ true)
    × (is_line s.source.statement ≡ true → IsRankedBefore rank_of s.mentions r.mentions))

-- The second list has the elements of the first, each before all later ones, and no other list has.
pub record IsOnlyOrder {A : Type 0} (Before : A → A → Type 0) (xs ys : List A) : Type 0 where
  pub permutation : IsPermutation xs ys
  pub sorted : AllPairs Before ys
  pub only : (zs : List A) → IsPermutation xs zs → AllPairs Before zs → zs ≡ ys

-- ---- lines and pairs

-- the mentions of each statement
abbrev pub mentions_in : Document → List (List (Mention Source))
mentions_in d = map (λ s. s.mentions) (placed d)

-- Lines put in order are the same ones. In an accepted document each statement then goes before all
-- later ones: blocks and headers stay where they are, and no two lines of a block tie.
pub record LinesInOrder : Type 0 where
  pub permutation : (mss : List (List (Mention Source))) (places : List Placed)
      → IsPermutation places (ordered mss places)
  pub sorted : (d : Document) → IsDocument d → is_accepted d ≡ true
      → IsOnlyOrder (GoesBefore (rank (mentions_in d))) (placed d)
      (ordered (mentions_in d) (placed d))

-- So are pairs. In an inline table whose pairs agree each is then ranked before all later ones, and
-- no two tie.
pub record PairsInOrder : Type 0 where
  pub permutation : (mss : List (List (Mention PairSource)))
      → IsPermutation mss (sorted_by (pair_before mss) mss)
  pub sorted : (ps : Pairs) → ArePairs ps → all_agree may_meet_inline (pair_mentions 0 ps) ≡ true
      → let mss = pair_mentions 0 ps in
      IsOnlyOrder (IsRankedBefore (rank mss)) mss (sorted_by (pair_before mss) mss)
