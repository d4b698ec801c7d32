-- The mention that the key of a path is kept from, the rank of a path, and keys spelled and spaced
-- as they are kept (TOML 1.1.0, "Keys").
use Rattle.std.specs.Prelude.{ℕ, Bool, true, nat_lt, if◌then◌else◌, List, [], ◌∷◌, map, filter, find, Option, Some, None, unwrap_or}
use Rattle.std.specs.Prelude.{option_map}
use Rattle.std.specs.List.{list_any, position_or_len}
use Rattle.std.specs.Option.{option_or}
use Rattle.toml_edit_model.specs.Syntax.{Segment}
use Rattle.toml_edit_model.specs.Paths.{Path, same_path, Mention}
use Rattle.toml_edit_model.specs.Roles.{is_header_role}

-- ---- kept keys and ranks

abbrev pub mentions_at : {S : Type 0} → List (Mention S) → Path → List (Mention S)
mentions_at ms p = filter (λ m. same_path p m.path) ms

abbrev pub first_of_list : {A : Type 0} → List A → Option A
first_of_list [] = None
first_of_list (a ∷ rest) = Some a

-- the mention that a path's kept key is from: that of its own plain header if it has one, else the
-- first
abbrev pub kept_mention : {S : Type 0} → List (Mention S) → Path → Option (Mention S)
kept_mention ms p =
    option_or (find (λ m. is_header_role m.role) (mentions_at ms p)) (first_of_list (mentions_at ms p))

-- the rank of a path: the place of the first statement, or pair, that mentions it
abbrev pub rank : {S : Type 0} → List (List (Mention S)) → Path → ℕ
rank mss p = position_or_len (λ ms. list_any (λ m. same_path p m.path) ms) mss

-- By their mentions, one line is before another: where their paths part, it has the lesser rank.
abbrev pub stands_before : {S : Type 0} → (Path → ℕ) → List (Mention S) → List (Mention S) → Bool
stands_before rank_of [] later = true
stands_before rank_of (m ∷ ms) [] = true
stands_before rank_of (m ∷ ms) (n ∷ ns) =
    if same_path m.path n.path then stands_before rank_of ms ns
    else nat_lt (rank_of m.path) (rank_of n.path)

-- ---- kept segments

-- the segments with no white space but at dots
abbrev pub unspaced_end : List Segment → List Segment
unspaced_end [] = []
unspaced_end (s ∷ []) = record s { after = [] } ∷ []
unspaced_end (s ∷ r ∷ rest) = s ∷ unspaced_end (r ∷ rest)

abbrev pub unspaced_ends : List Segment → List Segment
unspaced_ends [] = []
unspaced_ends (s ∷ rest) = unspaced_end (record s { before = [] } ∷ rest)

-- the segment of the kept mention of a mentioned path
abbrev pub kept_segment : {S : Type 0} → List (Mention S) → Mention S → Segment
kept_segment ms m = unwrap_or (option_map (λ k. k.segment) (kept_mention ms m.path)) m.segment

-- the path of a statement or pair, spelled and spaced as its kept keys
abbrev pub kept_path : {S : Type 0} → List (Mention S) → List (Mention S) → List Segment
kept_path ms own = unspaced_ends (map (kept_segment ms) own)
