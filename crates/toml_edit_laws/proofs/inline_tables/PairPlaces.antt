-- The pairs of an inline table in their places: their mentions, in the source and in normal form, and how they agree.
use Rattle.std.proofs.Common.{◌≡◌, refl, ap, ℕ, suc, ◌+◌, Bool, true, false, List, [], ◌∷◌, ◌++◌, length}
use Rattle.std.specs.Prelude.{map}
use Rattle.std.specs.List.{AllByRecursion, list_all}
use Rattle.toml_edit_model.specs.Mode.{Mode, shown_text}
use Rattle.toml_edit_model.specs.Text.{is_empty}
use Rattle.toml_edit_model.specs.Syntax.{Segment, Frame, Value, Pairs, no_pairs, pair, value_text, frame_text, ArePairs, IsSpacedSegment}
use Rattle.toml_edit_model.specs.Paths.{Mention, PairSource, line_mentions, pair_mentions}
use Rattle.toml_edit_model.specs.Accepted.{agree, all_agree}
use Rattle.toml_edit_model.specs.Normal.{shown_frame, normal_value, normal_pairs}
use Rattle.toml_edit_model.specs.TreeOf.{owned_in, Entry, entry_of, entries}
use Rattle.toml_edit_laws.proofs.common.Tests.{and_left, and_right}
use Rattle.toml_edit_laws.proofs.mentions.GatheredLines.{part_ways, AllFilled, AllPart}
use Rattle.toml_edit_laws.proofs.mentions.MentionGroups.{flat_lines}
use Rattle.toml_edit_laws.proofs.inline_tables.PairLines.{agree-parts}
use Rattle.toml_edit_laws.proofs.mentions.Placed.{filled-path}
use Rattle.toml_edit_model.specs.Roles.{may_meet_inline}

-- a pair in its inline table: where it begins in the source, and its number and place among the normal pairs
pub record PairAt : Type 0 where
  pub frame : Frame
  pub value : Value
  pub place : ℕ
  pub number : ℕ
  pub start : ℕ

abbrev pub pair_path : PairAt → List Segment
pair_path x = x.frame.path

abbrev pub entry_start : PairAt → ℕ
entry_start x = x.place + length x.frame.leading

module _ (mode : Mode) where
  abbrev pub pairs_at : Pairs → ℕ → ℕ → ℕ → List PairAt
  pairs_at no_pairs i start number = []
  pairs_at (pair f v ps) i start number =
      record { frame = f; value = v; place = i; number = number; start = start }
      ∷ pairs_at ps (i + length (frame_text f (value_text v)) + 1) (start
      + length (frame_text (shown_frame mode f) (value_text (normal_value mode v))) + 1) (suc number)

  abbrev pub pair_entry : PairAt → Entry
  pair_entry x = entry_of (owned_in mode) x.place x.frame x.value

  abbrev pub normal_source : PairAt → PairSource
  normal_source x = record { frame = shown_frame mode x.frame; value = normal_value mode x.value }

  abbrev pub normal_start : PairAt → ℕ
  normal_start x = x.start + length (shown_text mode x.frame.leading)

  -- the mentions of the normal pair
  abbrev pub normal_line : PairAt → List (Mention PairSource)
  normal_line x = line_mentions (normal_source x) (normal_start x) [] (pair_path x)

  pub entries-are : (ps : Pairs) (i start number : ℕ) → entries (owned_in mode) ps i
      ≡ flat_lines pair_entry entry_start pair_path (pairs_at ps i start number)
  entries-are no_pairs i start number = refl
  entries-are (pair f v ps) i start number =
      ap (λ ms. line_mentions (entry_of (owned_in mode) i f v) (i + length f.leading) [] f.path ++ ms)
      (entries-are ps (i + length (frame_text f (value_text v)) + 1) (start
      + length (frame_text (shown_frame mode f) (value_text (normal_value mode v))) + 1) (suc number))

  pub mentions-are : (ps : Pairs) (i start number : ℕ) → pair_mentions start (normal_pairs mode ps)
      ≡ map normal_line (pairs_at ps i start number)
  mentions-are no_pairs i start number = refl
  mentions-are (pair f v ps) i start number =
      ap (λ mss. normal_line (record { frame = f; value = v; place = i; number = number; start = start }) ∷ mss)
      (mentions-are ps (i + length (frame_text f (value_text v)) + 1) (start
      + length (frame_text (shown_frame mode f) (value_text (normal_value mode v))) + 1) (suc number))

  pub pairs-filled : (ps : Pairs) (i start number : ℕ) → ArePairs ps → AllFilled pair_path (pairs_at ps i start number)
  pairs-filled no_pairs i start number h = tt
  pairs-filled (pair f v ps) i start number h = (
    filled-path f.path h.0.1.begins,
    pairs-filled ps (i + length (frame_text f (value_text v)) + 1) (start
        + length (frame_text (shown_frame mode f) (value_text (normal_value mode v))) + 1) (suc number) h.2,
  )

  pub pairs-spaced : (ps : Pairs) (i start number : ℕ) → ArePairs ps
      → AllByRecursion (λ x. AllByRecursion IsSpacedSegment (pair_path x)) (pairs_at ps i start number)
  pairs-spaced no_pairs i start number h = tt
  pairs-spaced (pair f v ps) i start number h = (
    h.0.0.segments,
    pairs-spaced ps (i + length (frame_text f (value_text v)) + 1) (start
        + length (frame_text (shown_frame mode f) (value_text (normal_value mode v))) + 1) (suc number) h.2,
  )

  -- a pair that agrees with those after it parts ways with each
  parts-with : (f : Frame) (source : PairSource) (first : ℕ) (ps : Pairs) (i start number at at_number : ℕ) → is_empty f.path ≡ false
      → ArePairs ps
      → list_all (agree may_meet_inline (line_mentions source first [] f.path)) (pair_mentions at ps) ≡ true
      → AllByRecursion (λ y. part_ways f.path (pair_path y) ≡ true) (pairs_at ps i start number)
  parts-with f source first no_pairs i start number at at_number full h g = tt
  parts-with f source first (pair e v ps) i start number at at_number full h g =
      let here : List (Mention PairSource) = line_mentions source first [] f.path in
      let next : PairSource = record { frame = e; value = v } in
      let test : Bool = agree may_meet_inline here (line_mentions next (at + length e.leading) [] e.path) in
      let later : ℕ = at + length (frame_text e (value_text v)) + 1 in (
        agree-parts source next first (at + length e.leading) [] f.path e.path full (filled-path e.path h.0.1.begins)
            (and_left test (list_all (agree may_meet_inline here) (pair_mentions later ps)) g),
        parts-with f source first ps (i + length (frame_text e (value_text v)) + 1) (start
            + length (frame_text (shown_frame mode e) (value_text (normal_value mode v))) + 1) (suc number)
            later (suc at_number) full h.2 (and_right test (list_all (agree may_meet_inline here) (pair_mentions later ps)) g),
      )

  pub pairs-part : (ps : Pairs) (i start number at at_number : ℕ) → ArePairs ps → all_agree may_meet_inline (pair_mentions at ps) ≡ true
      → AllPart pair_path (pairs_at ps i start number)
  pairs-part no_pairs i start number at at_number h g = tt
  pairs-part (pair f v ps) i start number at at_number h g =
      let source : PairSource = record { frame = f; value = v } in
      let later : ℕ = at + length (frame_text f (value_text v)) + 1 in
      let rest : List (List (Mention PairSource)) = pair_mentions later ps in
      let test : Bool = list_all (agree may_meet_inline (line_mentions source (at + length f.leading) [] f.path)) rest in
      let next : ℕ = i + length (frame_text f (value_text v)) + 1 in
      let next_normal : ℕ = start + length (frame_text (shown_frame mode f) (value_text (normal_value mode v))) + 1 in (
        parts-with f source (at + length f.leading) ps next next_normal (suc number) later (suc at_number) (filled-path f.path h.0.1.begins)
            h.2
            (and_left test (all_agree may_meet_inline rest) g),
        pairs-part ps next next_normal (suc number) later (suc at_number) h.2 (and_right test (all_agree may_meet_inline rest) g),
      )
