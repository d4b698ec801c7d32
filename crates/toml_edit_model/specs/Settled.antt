-- Which accepted texts are settled: their lines and pairs in order, spelled by their kept keys
-- (TOML 1.1.0, "Newline" for the ends of lines).
use Rattle.std.specs.Prelude.{◌≡◌, Bool, true, false, not, ◌&&◌, ◌||◌, List, [], ◌∷◌, map, flat_map}
use Rattle.std.specs.List.{list_all}
use Rattle.toml_edit_model.specs.Order.{is_sorted_by}
use Rattle.toml_edit_model.specs.Text.{Text, newline, same_text, has_byte, carriage_return}
use Rattle.toml_edit_model.specs.Mode.{Mode, plain, exact}
use Rattle.toml_edit_model.specs.Syntax.{Segment, Frame, Value, scalar, array, inline_table, Elements, no_elements, element, Pairs}
use Rattle.toml_edit_model.specs.Syntax.{no_pairs, pair, Statement, key_line, header, Document}
use Rattle.toml_edit_model.specs.Accepted.{AcceptedAs}
use Rattle.toml_edit_model.specs.Paths.{Mention, Source, PairSource, Placed, placed, pair_mentions}
use Rattle.toml_edit_model.specs.Normal.{pair_before, is_line, line_before, opening_of, closing_of, kept_statement}
use Rattle.toml_edit_model.specs.Kept.{kept_path}

abbrev pub same_segment : Segment → Segment → Bool
same_segment s r =
    (same_text s.before r.before && same_text s.after r.after)
    && (same_text s.key r.key && same_text s.spelled r.spelled)

-- segment for segment
abbrev pub same_segments : List Segment → List Segment → Bool
same_segments [] [] = true
same_segments (s ∷ p) (r ∷ q) = same_segment s r && same_segments p q
same_segments _ _ = false

abbrev pub own_path : {S : Type 0} → List (Mention S) → List Segment
own_path ms = map (λ m. m.segment) ms

-- every segment is spelled and spaced as its kept key
abbrev pub is_kept : {S : Type 0} → List (Mention S) → List (Mention S) → Bool
is_kept ms own = same_segments (own_path own) (kept_path ms own)

abbrev pub are_settled_pairs : List (List (Mention PairSource)) → Bool
are_settled_pairs mss =
    is_sorted_by (pair_before mss) mss && list_all (is_kept (flat_map (λ ms. ms) mss)) mss

-- a line is in order with the next statement
abbrev pub has_ordered_lines : List (List (Mention Source)) → List Placed → Bool
has_ordered_lines mss places =
    is_sorted_by (λ s t. not (is_line s.source.statement) || line_before mss s t) places

abbrev pub has_no_return : Text → Bool
has_no_return t = not (has_byte carriage_return t)

-- all of the trivia is shown
abbrev pub is_shown_text : Mode → Text → Bool
is_shown_text plain t = has_no_return t
is_shown_text exact t = true

abbrev pub is_settled_end : Mode → Text → Bool
is_settled_end plain end = same_text end newline
is_settled_end exact end = true

-- ---- in a mode

module _ (mode : Mode) where
  abbrev pub is_shown_frame : Frame → Bool
  is_shown_frame f = is_shown_text mode f.leading && is_shown_text mode f.trailing

  abbrev mutual
    pub is_settled_value : Value → Bool
    is_settled_value (scalar s t) = true
    is_settled_value (array es comma t) = is_shown_text mode t && are_settled_elements es
    is_settled_value (inline_table ps comma t) =
        (is_shown_text mode t && are_settled_pairs (pair_mentions 0 ps)) && have_settled_values ps

    pub are_settled_elements : Elements → Bool
    are_settled_elements no_elements = true
    are_settled_elements (element a v es) =
        (is_shown_text mode a.before && is_shown_text mode a.after)
        && (is_settled_value v && are_settled_elements es)

    pub have_settled_values : Pairs → Bool
    have_settled_values no_pairs = true
    have_settled_values (pair f v ps) =
        is_shown_frame f && (is_settled_value v && have_settled_values ps)

  abbrev pub is_settled_statement : List (Mention Source) → Placed → Statement → Bool
  is_settled_statement ms at (key_line f v end) =
      (is_shown_frame f && is_settled_value v)
      && (is_kept ms at.mentions && is_settled_end mode end)
  is_settled_statement ms at (header h end) =
      let own = kept_statement ms at.source.path (header h end) in
      (is_shown_text mode h.leading
      && (same_text h.opening (opening_of own) && same_text h.closing (closing_of own)))
      && (is_kept ms at.mentions && is_settled_end mode end)

  -- lines and pairs in order, segments as their kept keys, no U+FEFF; in the plain mode no CR
  -- outside strings, and LF at the end
  abbrev pub is_settled_in : Document → Bool
  is_settled_in d =
      let places = placed d in
      let mss = map (λ s. s.mentions) places in
      let ms = flat_map (λ m. m) mss in
      (not d.has_mark && is_shown_text mode d.final)
      && (has_ordered_lines mss places
      && list_all (λ s. is_settled_statement ms s s.source.statement) places)

  -- A settled text is an accepted one with a settled cut: `a = 1\na = 2\n` is none.
  abbrev pub IsSettledIn : Text → Document → Type 0
  IsSettledIn t d = AcceptedAs t d × (is_settled_in d ≡ true)

-- ---- in the plain mode

unfoldable pub is_settled : Document → Bool
is_settled d = is_settled_in plain d
