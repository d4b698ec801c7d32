-- The normal form of a settled cut is that cut.
use Rattle.std.proofs.Common.{◌≡◌, refl, sym, ◌∙◌, ap, ℕ, suc, ◌+◌, Bool, true, false, List, [], ◌∷◌, length, Some, inl, inr}
use Rattle.std.specs.Prelude.{◌⊎◌, ◌==◌, ◌&&◌, ◌||◌, not, map, flat_map, if◌then◌else◌}
use Rattle.std.specs.List.{AllByRecursion, list_all}
use Rattle.toml_edit_model.specs.Mode.{Mode, plain, exact, shown_text}
use Rattle.toml_edit_model.specs.Text.{Text, newline, same_text, is_empty, has_byte, carriage_return, without_returns}
use Rattle.toml_edit_model.specs.Trivia.{IsNewline, lf, crlf}
use Rattle.toml_edit_model.specs.Syntax.{Segment, Around, Frame, Value, scalar, array, inline_table, Elements, no_elements, element, Pairs}
use Rattle.toml_edit_model.specs.Syntax.{no_pairs, pair, Statement, key_line, header, Document, value_text, frame_text, document_text}
use Rattle.toml_edit_model.specs.Syntax.{newline_after, without_newline, open_statements, begins_unspaced, IsValue, AreElements, ArePairs}
use Rattle.toml_edit_model.specs.Syntax.{IsDocument, IsStatement, AreStatements}
use Rattle.toml_edit_model.specs.Paths.{Path, to_key, Mention, Source, PairSource, Placed, Context, line_mentions, header_mentions}
use Rattle.toml_edit_model.specs.Paths.{next_start, elements_at, in_last, header_role_of, path_start, source_of, mentions_of, context_after}
use Rattle.toml_edit_model.specs.Paths.{placed_from, placed, start_context, pair_mentions}
use Rattle.toml_edit_model.specs.Normal.{line_before, is_line, ordered, has_open_end, normal_end, normal_last, kept_pair, some_of, pairs_of}
use Rattle.toml_edit_model.specs.Normal.{pair_before, ordered_pairs, shown_frame, shown_around, normal_value, normal_elements, normal_pairs}
use Rattle.toml_edit_model.specs.Normal.{kept_statement, opening_of, closing_of, normal_statement, normal_in, normal_text_in}
use Rattle.toml_edit_laws.proofs.common.Tests.{and_left, and_right, and_both, if-true, not-true, same_text-is}
use Rattle.toml_edit_laws.proofs.common.LineEnds.{IsEnd}
use Rattle.toml_edit_laws.proofs.mentions.Placed.{placed_at, source-statement}
use Rattle.toml_edit_model.specs.Order.{insert_by, sorted_by, is_sorted_by}
use Rattle.toml_edit_model.specs.Roles.{Role}
use Rattle.toml_edit_model.specs.Settled.{has_no_return, is_shown_text, is_settled_end, same_segment, same_segments, own_path, is_kept}
use Rattle.toml_edit_model.specs.Settled.{are_settled_pairs, is_shown_frame, is_settled_value, are_settled_elements, have_settled_values}
use Rattle.toml_edit_model.specs.Settled.{has_ordered_lines, is_settled_statement, is_settled_in}
use Rattle.toml_edit_model.specs.Kept.{kept_path}

-- ---- lines in order stay where they are

ordered-sorted : (mss : List (List (Mention Source))) (xs : List Placed) → has_ordered_lines mss xs ≡ true → ordered mss xs ≡ xs
ordered-sorted mss [] h = refl
ordered-sorted mss (a ∷ []) h = alone (is_line a.source.statement)
  where
    alone : (b : Bool) → (if b then a ∷ [] else a ∷ []) ≡ a ∷ []
    alone true = refl
    alone false = refl
ordered-sorted mss (a ∷ b ∷ xs) h =
    let test : Bool = not (is_line a.source.statement) || line_before mss a b in
    ap (λ ys. if is_line a.source.statement then insert_by (line_before mss) a ys else a ∷ ys)
    (ordered-sorted mss (b ∷ xs) (and_right test (has_ordered_lines mss (b ∷ xs)) h))
    ∙ by_kind (is_line a.source.statement) (and_left test (has_ordered_lines mss (b ∷ xs)) h)
  where
    by_kind : (c : Bool) → (not c || line_before mss a b) ≡ true → (if c then insert_by (line_before mss) a (b ∷ xs) else a ∷ b ∷ xs) ≡ a
        ∷ b ∷ xs
    by_kind true h = if-true (line_before mss a b) (a ∷ b ∷ xs) (b ∷ insert_by (line_before mss) a xs) h
    by_kind false h = refl

pub sorted_by-sorted : {A : Type 0} (before : A → A → Bool) (xs : List A) → is_sorted_by before xs ≡ true → sorted_by before xs ≡ xs
sorted_by-sorted before [] h = refl
sorted_by-sorted before (a ∷ []) h = refl
sorted_by-sorted before (a ∷ b ∷ xs) h =
    ap (insert_by before a) (sorted_by-sorted before (b ∷ xs) (and_right (before a b) (is_sorted_by before (b ∷ xs)) h))
    ∙ if-true (before a b) (a ∷ b ∷ xs) (b ∷ insert_by before a xs) (and_left (before a b) (is_sorted_by before (b ∷ xs)) h)

same_segment-is : (s r : Segment) → same_segment s r ≡ true → s ≡ r
same_segment-is s r h =
    let first = and_left (same_text s.before r.before && same_text s.after r.after) (same_text s.key r.key
    && same_text s.spelled r.spelled) h in
    let second = and_right (same_text s.before r.before && same_text s.after r.after) (same_text s.key r.key
    && same_text s.spelled r.spelled) h in
    let a : s.before ≡ r.before =
    same_text-is s.before r.before (and_left (same_text s.before r.before) (same_text s.after r.after) first) in
    let b : s.after ≡ r.after = same_text-is s.after r.after (and_right (same_text s.before r.before) (same_text s.after r.after) first) in
    let c : s.key ≡ r.key = same_text-is s.key r.key (and_left (same_text s.key r.key) (same_text s.spelled r.spelled) second) in
    let d : s.spelled ≡ r.spelled =
    same_text-is s.spelled r.spelled (and_right (same_text s.key r.key) (same_text s.spelled r.spelled) second) in
    ap (λ t. record s { before = t }) a ∙ ap (λ t. record r { key = s.key; spelled = s.spelled; after = t }) b
    ∙ ap (λ t. record r { spelled = s.spelled; key = t }) c ∙ ap (λ t. record r { spelled = t }) d

pub same_segments-is : (p q : List Segment) → same_segments p q ≡ true → p ≡ q
same_segments-is [] [] h = refl
same_segments-is [] (r ∷ q) h = absurd cc
same_segments-is (s ∷ p) [] h = absurd cc
same_segments-is (s ∷ p) (r ∷ q) h =
    ap (λ t. t ∷ p) (same_segment-is s r (and_left (same_segment s r) (same_segments p q) h))
    ∙ ap (λ t. r ∷ t) (same_segments-is p q (and_right (same_segment s r) (same_segments p q) h))

-- the segments of a path's mentions are the path
pub own-line : {S : Type 0} (source : S) (start : ℕ) (p : Path) (ss : List Segment) → own_path (line_mentions source start p ss) ≡ ss
own-line source start p [] = refl
own-line source start p (s ∷ []) = refl
own-line source start p (s ∷ r ∷ rest) = ap (λ ss. s ∷ ss) (own-line source (next_start start s) (to_key p s.key) (r ∷ rest))

pub own-header : {S : Type 0} (source : S) (arrays : List Path) (role : Role) (start : ℕ) (p : Path) (ss : List Segment)
    → own_path (header_mentions source arrays role start p ss) ≡ ss
own-header source arrays role start p [] = refl
own-header source arrays role start p (s ∷ []) = refl
own-header source arrays role start p (s ∷ r ∷ rest) =
    let here : Path = to_key p s.key in
    ap (λ ss. s ∷ ss) (own-header source arrays role (next_start start s) (in_last (elements_at arrays here) here) (r ∷ rest))

pub kept-pair : (all : List (Mention PairSource)) (source : PairSource) (start : ℕ) (p : Path) (ss : List Segment) → begins_unspaced ss
    ≡ true
    → kept_pair all (line_mentions source start p ss) ≡ Some (
      record source.frame {
        path =
            kept_path all (line_mentions source start p ss);
      },
      source.value,
    )
kept-pair all source start p [] h = absurd cc
kept-pair all source start p (s ∷ []) h = refl
kept-pair all source start p (s ∷ r ∷ rest) h = refl

-- pairs that are spelled as their kept keys
kept-pairs : (all : List (Mention PairSource)) (start number : ℕ) (ps : Pairs) → ArePairs ps
    → list_all (is_kept all) (pair_mentions start ps) ≡ true
    → pairs_of (some_of (map (kept_pair all) (pair_mentions start ps))) ≡ ps
kept-pairs all start number no_pairs h g = refl
kept-pairs all start number (pair f v ps) h g =
    let source : PairSource = record { frame = f; value = v } in
    let here : List (Mention PairSource) = line_mentions source (start + length f.leading) [] f.path in
    let later : ℕ = start + length (frame_text f (value_text v)) + 1 in
    let rest : List (List (Mention PairSource)) = pair_mentions later ps in
    let path_is : kept_path all here ≡ f.path =
    sym (same_segments-is (own_path here) (kept_path all here) (and_left (is_kept all here) (list_all (is_kept all) rest) g))
    ∙ own-line source (start + length f.leading) [] f.path in
    ap (λ o. pairs_of (some_of (o ∷ map (kept_pair all) rest))) (kept-pair all source (start + length f.leading) [] f.path h.0.1.begins)
    ∙ ap (λ p. pair (record f { path = p }) v (pairs_of (some_of (map (kept_pair all) rest)))) path_is
    ∙ ap (pair f v) (kept-pairs all later (suc number) ps h.2 (and_right (is_kept all here) (list_all (is_kept all) rest) g))

ordered-pairs : (ps : Pairs) → ArePairs ps → are_settled_pairs (pair_mentions 0 ps) ≡ true → ordered_pairs ps ≡ ps
ordered-pairs ps h g =
    let mss : List (List (Mention PairSource)) = pair_mentions 0 ps in
    let all : List (Mention PairSource) = flat_map (λ ms. ms) mss in
    ap (λ xs. pairs_of (some_of (map (kept_pair all) xs)))
    (sorted_by-sorted (pair_before mss) mss (and_left (is_sorted_by (pair_before mss) mss) (list_all (is_kept all) mss) g))
    ∙ kept-pairs all 0 0 ps h (and_right (is_sorted_by (pair_before mss) mss) (list_all (is_kept all) mss) g)

-- a statement in the grammar, however it ends
abbrev pub IsAny : Statement → Type 0
IsAny s = IsStatement IsEnd s

pub any-statement : (MayEnd : Text → Type 0) → ((end : Text) → MayEnd end → IsEnd end) → (s : Statement) → IsStatement MayEnd s → IsAny s
any-statement MayEnd ends (key_line f v end) h = (h.0, h.1, ends end h.2)
any-statement MayEnd ends (header h end) is = (is.0, ends end is.1)

pub any-statements : (final : Text) (ss : List Statement) → AreStatements final ss → AllByRecursion IsAny ss
any-statements final [] h = tt
any-statements final (s ∷ []) h =
    (any-statement (λ end. IsNewline end ⊎ ((end ≡ []) × (final ≡ []))) (λ end e. elim e [ inl n ↦ inl n | inr n ↦ inr n.0 ]) s h, tt)
any-statements final (s ∷ r ∷ rest) h = (any-statement IsNewline (λ end e. inl e) s h.0, any-statements final (r ∷ rest) h.1)

-- ---- texts without CRs

without-none : (t : Text) → has_no_return t ≡ true → without_returns t ≡ t
without-none [] h = refl
without-none (c ∷ t) h = by_byte (c == carriage_return) h (without-none t)
  where
    by_byte : (b : Bool) → not (b || has_byte carriage_return t) ≡ true → (has_no_return t ≡ true → without_returns t ≡ t)
        → (if not b then c ∷ without_returns t else without_returns t) ≡ c ∷ t
    by_byte true h ih = cc
    by_byte false h ih = ap (λ u. c ∷ u) (ih h)

pub without_returns-none : (mode : Mode) (t : Text) → is_shown_text mode t ≡ true → shown_text mode t ≡ t
without_returns-none plain t h = without-none t h
without_returns-none exact t h = refl

-- ---- ends

-- the statement with a newline
abbrev closed : Mode → Statement → Statement
closed mode (key_line f v end) = key_line f v (normal_end mode end)
closed mode (header h end) = header h (normal_end mode end)

newline-stays : (end : Text) → IsNewline end → normal_end exact end ≡ end
newline-stays end (lf, e) = rw e refl
newline-stays end (crlf, e) = rw e refl

closed-newline : (s : Statement) → IsStatement IsNewline s → closed exact s ≡ s
closed-newline (key_line f v end) h = ap (key_line f v) (newline-stays end h.2)
closed-newline (header k end) h = ap (header k) (newline-stays end h.1)

closed-plain : (s : Statement) → same_text (newline_after s) newline ≡ true → closed plain s ≡ s
closed-plain (key_line f v end) h = ap (key_line f v) (sym (same_text-is end newline h))
closed-plain (header k end) h = ap (header k) (sym (same_text-is end newline h))

closed-last : (final : Text) (s : Statement) → IsStatement (λ end. IsNewline end ⊎ ((end ≡ []) × (final ≡ []))) s
    → (if is_empty (newline_after s) then without_newline (closed exact s) ∷ [] else closed exact s ∷ []) ≡ s ∷ []
closed-last final (key_line f v end) (frame, value, inl (lf, e)) = rw e refl
closed-last final (key_line f v end) (frame, value, inl (crlf, e)) = rw e refl
closed-last final (key_line f v end) (frame, value, inr (e, none)) = rw e refl
closed-last final (header k end) (own, inl (lf, e)) = rw e refl
closed-last final (header k end) (own, inl (crlf, e)) = rw e refl
closed-last final (header k end) (own, inr (e, none)) = rw e refl

all-plain : (ss : List Statement) → list_all (λ s. is_settled_end plain (newline_after s)) ss ≡ true → map (closed plain) ss ≡ ss
all-plain [] h = refl
all-plain (s ∷ ss) h =
    let here : Bool = same_text (newline_after s) newline in
    let rest : Bool = list_all (λ s. is_settled_end plain (newline_after s)) ss in
    ap (λ x. x ∷ map (closed plain) ss) (closed-plain s (and_left here rest h)) ∙ ap (λ xs. s ∷ xs) (all-plain ss (and_right here rest h))

all-exact : (final : Text) (ss : List Statement) → AreStatements final ss
    → (if has_open_end ss then open_statements (map (closed exact) ss) else map (closed exact) ss) ≡ ss
all-exact final [] h = refl
all-exact final (s ∷ []) h = closed-last final s h
all-exact final (s ∷ r ∷ rest) h =
    by_test (has_open_end (r ∷ rest))
    ∙ ap (λ x. x ∷ (if has_open_end (r ∷ rest) then open_statements (map (closed exact) (r ∷ rest)) else map (closed exact) (r ∷ rest)))
    (closed-newline s h.0)
    ∙ ap (λ xs. s ∷ xs) (all-exact final (r ∷ rest) h.1)
  where
    by_test : (b : Bool)
        → (if b then closed exact s ∷ open_statements (map (closed exact) (r ∷ rest)) else closed exact s ∷ map (closed exact) (r ∷ rest))
        ≡ closed exact s ∷ (if b then open_statements (map (closed exact) (r ∷ rest)) else map (closed exact) (r ∷ rest))
    by_test true = refl
    by_test false = refl

-- closed, and the last opened where it was open, they are as they were
ends-stay : (mode : Mode) (d : Document) → IsDocument d → list_all (λ s. is_settled_end mode (newline_after s)) d.statements ≡ true
    → normal_last mode d (map (closed mode) d.statements) ≡ d.statements
ends-stay plain d h g = all-plain d.statements g
ends-stay exact d h g = all-exact d.final d.statements h.0

module _ (mode : Mode) where
  -- ---- values

  lean-frame : (f : Frame) → is_shown_frame mode f ≡ true → shown_frame mode f ≡ f
  lean-frame f h =
      ap (λ t. record f { leading = t; trailing = shown_text mode f.trailing })
      (without_returns-none mode f.leading (and_left (is_shown_text mode f.leading) (is_shown_text mode f.trailing) h))
      ∙ ap (λ t. record f { trailing = t }) (without_returns-none mode f.trailing
      (and_right (is_shown_text mode f.leading) (is_shown_text mode f.trailing) h))

  lean-around : (a : Around) → (is_shown_text mode a.before && is_shown_text mode a.after) ≡ true → shown_around mode a ≡ a
  lean-around a h =
      ap (λ t. record a { before = t; after = shown_text mode a.after })
      (without_returns-none mode a.before (and_left (is_shown_text mode a.before) (is_shown_text mode a.after) h))
      ∙ ap (λ t. record a { after = t }) (without_returns-none mode a.after
      (and_right (is_shown_text mode a.before) (is_shown_text mode a.after) h))

  mutual
    pub value-stays : (v : Value) → IsValue v → is_settled_value mode v ≡ true → normal_value mode v ≡ v
    value-stays (scalar s t) h g = refl
    value-stays (array es comma t) h g =
        ap (λ u. array (normal_elements mode es) comma u) (without_returns-none mode t
        (and_left (is_shown_text mode t) (are_settled_elements mode es) g))
        ∙ ap (λ xs. array xs comma t) (elements-stay es h.1 (and_right (is_shown_text mode t) (are_settled_elements mode es) g))
    value-stays (inline_table ps comma t) h g =
        let first : Bool = is_shown_text mode t && are_settled_pairs (pair_mentions 0 ps) in
        let both = and_left first (have_settled_values mode ps) g in
        ap (λ u. inline_table (ordered_pairs (normal_pairs mode ps)) comma u)
        (without_returns-none mode t (and_left (is_shown_text mode t) (are_settled_pairs (pair_mentions 0 ps)) both))
        ∙ ap (λ xs. inline_table (ordered_pairs xs) comma t) (pairs-stay ps h.1 (and_right first (have_settled_values mode ps) g))
        ∙ ap (λ xs. inline_table xs comma t) (ordered-pairs ps h.1
        (and_right (is_shown_text mode t) (are_settled_pairs (pair_mentions 0 ps)) both))

    pub elements-stay : (es : Elements) → AreElements es → are_settled_elements mode es ≡ true → normal_elements mode es ≡ es
    elements-stay no_elements h g = refl
    elements-stay (element a v es) h g =
        let around : Bool = is_shown_text mode a.before && is_shown_text mode a.after in
        let rest = and_right around (is_settled_value mode v && are_settled_elements mode es) g in
        ap (λ b. element b (normal_value mode v) (normal_elements mode es))
        (lean-around a (and_left around (is_settled_value mode v && are_settled_elements mode es) g))
        ∙ ap (λ w. element a w (normal_elements mode es)) (value-stays v h.2
        (and_left (is_settled_value mode v) (are_settled_elements mode es) rest))
        ∙ ap (element a v) (elements-stay es h.3 (and_right (is_settled_value mode v) (are_settled_elements mode es) rest))

    pub pairs-stay : (ps : Pairs) → ArePairs ps → have_settled_values mode ps ≡ true → normal_pairs mode ps ≡ ps
    pairs-stay no_pairs h g = refl
    pairs-stay (pair f v ps) h g =
        let rest = and_right (is_shown_frame mode f) (is_settled_value mode v && have_settled_values mode ps) g in
        ap (λ e. pair e (normal_value mode v) (normal_pairs mode ps))
        (lean-frame f (and_left (is_shown_frame mode f) (is_settled_value mode v && have_settled_values mode ps) g))
        ∙ ap (λ w. pair f w (normal_pairs mode ps)) (value-stays v h.1
        (and_left (is_settled_value mode v) (have_settled_values mode ps) rest))
        ∙ ap (pair f v) (pairs-stay ps h.2 (and_right (is_settled_value mode v) (have_settled_values mode ps) rest))

  -- ---- statements

  statement-stays : (ms : List (Mention Source)) (c : Context) (s : Statement) → IsAny s
      → is_settled_statement mode ms (placed_at c s) s ≡ true
      → normal_statement mode ms (placed_at c s) s ≡ closed mode s
  statement-stays ms c (key_line f v end) h g =
      let own : List (Mention Source) = mentions_of c (key_line f v end) in
      let first = and_left (is_shown_frame mode f && is_settled_value mode v) (is_kept ms own && is_settled_end mode end) g in
      let second = and_right (is_shown_frame mode f && is_settled_value mode v) (is_kept ms own && is_settled_end mode end) g in
      let path_is : kept_path ms own ≡ f.path =
      sym (same_segments-is (own_path own) (kept_path ms own) (and_left (is_kept ms own) (is_settled_end mode end) second))
      ∙ own-line (source_of c (key_line f v end)) (c.start + path_start (key_line f v end)) c.block f.path in
      ap (λ e. key_line (record e { path = kept_path ms own }) (normal_value mode v) (normal_end mode end))
      (lean-frame f (and_left (is_shown_frame mode f) (is_settled_value mode v) first))
      ∙ ap (λ p. key_line (record f { path = p }) (normal_value mode v) (normal_end mode end)) path_is
      ∙ ap (λ w. key_line f w (normal_end mode end)) (value-stays v h.1 (and_right (is_shown_frame mode f) (is_settled_value mode v) first))
  statement-stays ms c (header h end) is g =
      let own : List (Mention Source) = mentions_of c (header h end) in
      let from : Statement = kept_statement ms (source_of c (header h end)).path (header h end) in
      let spaces : Bool = same_text h.opening (opening_of from) && same_text h.closing (closing_of from) in
      let first = and_left (is_shown_text mode h.leading && spaces) (is_kept ms own && is_settled_end mode end) g in
      let second = and_right (is_shown_text mode h.leading && spaces) (is_kept ms own && is_settled_end mode end) g in
      let inner = and_right (is_shown_text mode h.leading) spaces first in
      let path_is : kept_path ms own ≡ h.path =
      sym (same_segments-is (own_path own) (kept_path ms own) (and_left (is_kept ms own) (is_settled_end mode end) second))
      ∙ own-header (source_of c (header h end)) c.arrays (header_role_of h) (c.start + path_start (header h end)) [] h.path in
      ap (λ t. header (record h { leading = t; opening = opening_of from; path = kept_path ms own; closing = closing_of from })
      (normal_end mode end))
      (without_returns-none mode h.leading (and_left (is_shown_text mode h.leading) spaces first))
      ∙ ap (λ t. header (record h { opening = t; path = kept_path ms own; closing = closing_of from }) (normal_end mode end))
      (sym (same_text-is h.opening (opening_of from) (and_left (same_text h.opening (opening_of from))
      (same_text h.closing (closing_of from)) inner)))
      ∙ ap (λ p. header (record h { path = p; closing = closing_of from }) (normal_end mode end)) path_is
      ∙ ap (λ t. header (record h { closing = t }) (normal_end mode end))
      (sym (same_text-is h.closing (closing_of from) (and_right (same_text h.opening (opening_of from))
      (same_text h.closing (closing_of from)) inner)))

  end-settled : (ms : List (Mention Source)) (c : Context) (s : Statement) → is_settled_statement mode ms (placed_at c s) s ≡ true
      → is_settled_end mode (newline_after s) ≡ true
  end-settled ms c (key_line f v end) g =
      let own : List (Mention Source) = mentions_of c (key_line f v end) in
      and_right (is_kept ms own) (is_settled_end mode end) (and_right (is_shown_frame mode f && is_settled_value mode v) (is_kept ms own
      && is_settled_end mode end) g)
  end-settled ms c (header h end) g =
      let own : List (Mention Source) = mentions_of c (header h end) in
      let from : Statement = kept_statement ms (source_of c (header h end)).path (header h end) in
      let spaces : Bool = same_text h.opening (opening_of from) && same_text h.closing (closing_of from) in
      and_right (is_kept ms own) (is_settled_end mode end) (and_right (is_shown_text mode h.leading && spaces) (is_kept ms own
      && is_settled_end mode end) g)

  statements-stay : (ms : List (Mention Source)) (c : Context) (ss : List Statement) → AllByRecursion IsAny ss
      → list_all (λ s. is_settled_statement mode ms s s.source.statement) (placed_from c ss) ≡ true
      → (map (λ s. normal_statement mode ms s s.source.statement) (placed_from c ss) ≡ map (closed mode) ss)
      × (list_all (λ s. is_settled_end mode (newline_after s)) ss ≡ true)
  statements-stay ms c [] h g = (refl, refl)
  statements-stay ms c (s ∷ ss) h g =
      let rest : List Placed = placed_from (context_after c s) ss in
      let more : Bool = list_all (λ t. is_settled_statement mode ms t t.source.statement) rest in
      let here : is_settled_statement mode ms (placed_at c s) s ≡ true =
      ap (is_settled_statement mode ms (placed_at c s)) (sym (source-statement c s))
      ∙ and_left (is_settled_statement mode ms (placed_at c s) (source_of c s).statement) more g in
      let others = statements-stay ms (context_after c s) ss h.1
      (and_right (is_settled_statement mode ms (placed_at c s) (source_of c s).statement) more g) in (
        ap (λ t. normal_statement mode ms (placed_at c s) t
            ∷ map (λ t. normal_statement mode ms t t.source.statement) rest) (source-statement c s)
            ∙ ap (λ t. t ∷ map (λ u. normal_statement mode ms u u.source.statement) rest) (statement-stays ms c s h.0 here)
            ∙ ap (λ ts. closed mode s ∷ ts) others.0,
        and_both (is_settled_end mode (newline_after s)) (list_all (λ t. is_settled_end mode (newline_after t)) ss)
            (end-settled ms c s here) others.1,
      )

  -- The normal form of a settled cut is the cut.
  pub settled-stays : (d : Document) → IsDocument d → is_settled_in mode d ≡ true → normal_in mode d ≡ d
  settled-stays d h g =
      let places : List Placed = placed d in
      let mss : List (List (Mention Source)) = map (λ s. s.mentions) places in
      let ms : List (Mention Source) = flat_map (λ m. m) mss in
      let lines : Bool = has_ordered_lines mss places in
      let each : Bool = list_all (λ s. is_settled_statement mode ms s s.source.statement) places in
      let first = and_left (not d.has_mark && is_shown_text mode d.final) (lines && each) g in
      let second = and_right (not d.has_mark && is_shown_text mode d.final) (lines && each) g in
      let stay = statements-stay ms (start_context d) d.statements (any-statements d.final d.statements h.0)
      (and_right lines each second) in
      ap (λ xs. record d {
        has_mark = false;
        statements =
            normal_last mode d (map (λ s. normal_statement mode ms s s.source.statement) xs);
        final = shown_text mode d.final;
      })
      (ordered-sorted mss places (and_left lines each second))
      ∙ ap (λ xs. record d { has_mark = false; statements = normal_last mode d xs; final = shown_text mode d.final }) stay.0
      ∙ ap (λ xs. record d { has_mark = false; statements = xs; final = shown_text mode d.final }) (ends-stay mode d h stay.1)
      ∙ ap (λ t. record d { has_mark = false; final = t })
      (without_returns-none mode d.final (and_right (not d.has_mark) (is_shown_text mode d.final) first))
      ∙ ap (λ b. record d { has_mark = b }) (sym (not-true d.has_mark (and_left (not d.has_mark) (is_shown_text mode d.final) first)))

  -- The normal text of a settled cut is its text.
  pub settled-text : (d : Document) → IsDocument d → is_settled_in mode d ≡ true → normal_text_in mode d ≡ document_text d
  settled-text d h g = ap document_text (settled-stays d h g)
