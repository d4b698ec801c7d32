-- The keys of a statement begin in the statement, and what a key line adds is a value.
use Rattle.std.proofs.Common.{◌≡◌, ℕ, suc, ◌+◌, ◌≤◌, ◌<◌, Bool, true, false, refl, ◌∙◌, ap, arith, List, [], ◌∷◌, ◌++◌, length, codes, Some}
use Rattle.std.specs.Prelude.{if◌then◌else◌}
use Rattle.std.proofs.lemmas.List.{length-append}
use Rattle.std.specs.List.{AllByRecursion}
use Rattle.toml_edit_model.specs.Mode.{Mode, with_return}
use Rattle.toml_edit_model.specs.Text.{Text}
use Rattle.toml_edit_model.specs.Spelling.{SpellsKey}
use Rattle.toml_edit_model.specs.Syntax.{Segment, Statement, key_line, header, Header, Frame, Value, IsStatement, IsSpelledSegment}
use Rattle.toml_edit_model.specs.Syntax.{segment_text, path_text, value_text, frame_text, statement_text, brackets_text, opening_brackets}
use Rattle.toml_edit_model.specs.Syntax.{closing_brackets}
use Rattle.toml_edit_model.specs.Paths.{Mention, Source, next_start, path_start}
use Rattle.toml_edit_model.specs.Tree.{Node}
use Rattle.toml_edit_model.specs.TreeOf.{spanned_in, key_at, span_of, value_start}
use Rattle.toml_edit_laws.specs.Building.{Builder, source_at, mentions_at, IsStatementNode}
use Rattle.toml_edit_laws.specs.AddPath.{a_table, an_element, addition_of, IsMentionOf, AreMentionsOf}
use Rattle.toml_edit_laws.specs.PlaceOrder.{raw_place, key_place}
use Rattle.toml_edit_laws.specs.InPlace.{StandWithin, IsRealAddition}
use Rattle.toml_edit_laws.proofs.building.PathMentions.{line-mentions, header-mentions}
use Rattle.toml_edit_laws.proofs.read_trees.SpansOfSpellings.{key-some}
use Rattle.toml_edit_laws.proofs.values.ValueItems.{value-item}

-- ---- a key

span-place : (k : Text) (start : ℕ) (t : Text) → SpellsKey k t → raw_place (Some (span_of start t)) ≡ start
span-place k start [] h = absurd (key-some k h)
span-place k start (c ∷ t) h = refl

some-bytes : (k t : Text) → SpellsKey k t → 0 < length t
some-bytes k [] h = absurd (key-some k h)
some-bytes k (c ∷ t) h = omega arith

-- the key of a mention begins where its segment is spelled
key-begins : (mode : Mode) (s : Source) (start : ℕ) (g : Segment) (m : Mention Source) → IsSpelledSegment g → IsMentionOf s start g m
    → key_place (key_at (spanned_in mode) m) ≡ start + length g.before
key-begins mode s start g m h is =
    ap (λ (x : Segment). raw_place (Some (span_of m.start x.spelled))) is.1 ∙ span-place g.key m.start g.spelled h ∙ is.2

segment-length : (g : Segment) → length (segment_text g) ≡ length g.before + (length g.spelled + length g.after)
segment-length g = length-append g.before (g.spelled ++ g.after) ∙ ap (λ n. length g.before + n) (length-append g.spelled g.after)

-- ---- a path

within-path : (mode : Mode) (s : Source) (low high start : ℕ) (p : List Segment) (ms : List (Mention Source))
    → AllByRecursion IsSpelledSegment p
    → AreMentionsOf s start p ms → low ≤ start → start + length (path_text p) ≤ high → StandWithin mode low high ms
within-path mode s low high start [] [] spelled are l h = tt
within-path mode s low high start [] (m ∷ ms) spelled are l h = absurd are
within-path mode s low high start (g ∷ []) [] spelled are l h = absurd are
within-path mode s low high start (g ∷ []) (m ∷ []) spelled are l h =
    let begins = key-begins mode s start g m spelled.0 are.0 in
    let size = segment-length g in
    let some = some-bytes g.key g.spelled spelled.0 in
    (omega (arith, begins, l), omega (arith, begins, size, some, h), tt)
within-path mode s low high start (g ∷ []) (m ∷ r ∷ ms) spelled are l h = absurd are
within-path mode s low high start (g ∷ f ∷ p) [] spelled are l h = absurd are
within-path mode s low high start (g ∷ f ∷ p) (m ∷ ms) spelled are l h =
    let begins = key-begins mode s start g m spelled.0 are.0 in
    let size = segment-length g in
    let some = some-bytes g.key g.spelled spelled.0 in
    let whole : length (path_text (g ∷ f ∷ p)) ≡ length (segment_text g) + suc (length (path_text (f ∷ p))) =
    length-append (segment_text g) (codes "." ++ path_text (f ∷ p)) in
    let next : next_start start g ≡ start + length (segment_text g) + 1 = refl in (
      omega (arith, begins, l),
      omega (arith, begins, size, some, whole, h),
      within-path mode s low high (next_start start g) (f ∷ p) ms spelled.1 are.3 (omega (arith, next, l)) (omega (arith, next, whole, h)),
    )

-- ---- a statement

line-length : (f : Frame) (v : Value) (end : Text) → length f.leading
    + length (path_text f.path) ≤ length (statement_text (key_line f v end))
line-length f v end =
    let behind = f.before_equals ++ (codes "=" ++ (f.after_equals ++ (value_text v ++ f.trailing))) in
    let frame = length-append f.leading (path_text f.path ++ behind) in
    let path = length-append (path_text f.path) behind in
    let whole = length-append (frame_text f (value_text v)) end in
    omega (arith, frame, path, whole)

header-length : (h : Header) (end : Text)
    → length h.leading + length (opening_brackets h.is_array) + length h.opening
    + length (path_text h.path) ≤ length (statement_text (header h end))
header-length h end =
    let behind = h.closing ++ closing_brackets h.is_array in
    let path = length-append (path_text h.path) behind in
    let opened = length-append h.opening (path_text h.path ++ behind) in
    let brackets = length-append (opening_brackets h.is_array) (h.opening ++ (path_text h.path ++ behind)) in
    let rest = length-append (brackets_text h) (h.trailing ++ end) in
    let whole = length-append h.leading (brackets_text h ++ (h.trailing ++ end)) in
    omega (arith, path, opened, brackets, rest, whole)

-- The keys of a statement begin in it.
pub statement_within : (mode : Mode) (MayEnd : Text → Type 0) (b : Builder) (s : Statement) → IsStatement MayEnd s
    → StandWithin mode b.start (b.start + length (statement_text s)) (mentions_at b s)
statement_within mode MayEnd b (key_line f v end) h =
    let start = b.start + path_start (key_line f v end) in
    let size = line-length f v end in
    within-path mode (source_at b (key_line f v end)) b.start (b.start
    + length (statement_text (key_line f v end))) start f.path (mentions_at b (key_line f v end)) h.0.1.spelled
    (line-mentions (source_at b (key_line f v end)) start [] f.path) (omega arith) (omega (arith, size))
statement_within mode MayEnd b (header h end) is =
    let start = b.start + path_start (header h end) in
    let size = header-length h end in
    within-path mode (source_at b (header h end)) b.start (b.start
    + length (statement_text (header h end))) start h.path (mentions_at b (header h end)) is.0.1.spelled
    (header-mentions (source_at b (header h end)) h start [] h.path) (omega arith) (omega (arith, size))

-- What it adds is a value, if it is a key line.
pub addition_real : (mode : Mode) (start : ℕ) (s : Statement) (n : Node) → IsStatementNode mode start s n → IsRealAddition (addition_of s n)
addition_real mode start (key_line f v end) n h =
    value-item (spanned_in mode) v (start + value_start (spanned_in mode) f) f.after_equals (with_return mode f.trailing end) n h
addition_real mode start (header h end) n is = by_array h.is_array
  where
    by_array : (x : Bool) → IsRealAddition (if x then an_element else a_table)
    by_array true = tt
    by_array false = tt
