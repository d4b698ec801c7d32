-- Where no statement is late, none of the normal form is.
use Rattle.std.proofs.Common.{◌≡◌, refl, ◌∙◌, ap, ℕ, ◌+◌, Bool, true, false, List, [], ◌∷◌, length, Option, Some, None}
use Rattle.std.specs.Prelude.{◌||◌, not, ◌==◌, map, find, flat_map, option_map, unwrap_or, if◌then◌else◌}
use Rattle.std.specs.List.{AllByRecursion}
use Rattle.std.specs.Option.{option_or}
use Rattle.toml_edit_model.specs.Order.{sorted_by}
use Rattle.toml_edit_model.specs.Text.{Text, carriage_return, without_returns}
use Rattle.toml_edit_model.specs.Mode.{Mode, plain, exact, shown_text}
use Rattle.toml_edit_model.specs.Syntax.{Segment, Value, scalar, array, inline_table, Elements, no_elements, element, Pairs, no_pairs, pair}
use Rattle.toml_edit_model.specs.Syntax.{value_text, frame_text, Statement, key_line, header, Document, open_statements}
use Rattle.toml_edit_model.specs.Version.{is_late_spelling, is_late_path, is_late_byte, is_late_trivia, is_late_value, are_late_elements}
use Rattle.toml_edit_model.specs.Version.{are_late_pairs, is_late_statement}
use Rattle.toml_edit_model.specs.Paths.{Path, same_path, to_key, Mention, PairSource, line_mentions, next_start, pair_mentions, Source}
use Rattle.toml_edit_model.specs.Paths.{Placed, placed, placed_from, Context, start_context, context_after, source_of, mentions_of}
use Rattle.toml_edit_model.specs.Paths.{header_mentions, header_role_of, path_start, elements_at, in_last}
use Rattle.toml_edit_model.specs.Normal.{pairs_of, pair_before, kept_pair, some_of, ordered_pairs, normal_value, normal_elements}
use Rattle.toml_edit_model.specs.Normal.{normal_pairs, ordered, normal_statement, has_open_end, normal_last, normal_in}
use Rattle.toml_edit_laws.proofs.common.Tests.{or-left, or-right}
use Rattle.toml_edit_laws.proofs.common.OrderLaws.{all-sorted}
use Rattle.toml_edit_laws.proofs.common.Each.{all-map, all-append, all-filter}
use Rattle.toml_edit_laws.proofs.normal_texts.Agreeing.{all-ordered}
use Rattle.toml_edit_laws.proofs.versions.Accepting.{AreEarly}
use Rattle.toml_edit_model.specs.Roles.{Role, is_header_role}
use Rattle.toml_edit_model.specs.Kept.{mentions_at, first_of_list, kept_mention, kept_segment, kept_path, unspaced_end, unspaced_ends}

or-none : (a b : Bool) → a ≡ false → b ≡ false → (a || b) ≡ false
or-none true b h g = h
or-none false b h g = g

-- ---- trivia

late-returns : (t : Text) → is_late_trivia t ≡ false → is_late_trivia (without_returns t) ≡ false
late-returns [] h = refl
late-returns (c ∷ t) h =
    by_test (not (c == carriage_return)) (or-left (is_late_byte c) (is_late_trivia t) h)
    (late-returns t (or-right (is_late_byte c) (is_late_trivia t) h))
  where
    by_test : (b : Bool) → is_late_byte c ≡ false → is_late_trivia (without_returns t) ≡ false
        → is_late_trivia (if b then c ∷ without_returns t else without_returns t) ≡ false
    by_test true e g = or-none (is_late_byte c) (is_late_trivia (without_returns t)) e g
    by_test false e g = g

late-shown : (mode : Mode) (t : Text) → is_late_trivia t ≡ false → is_late_trivia (shown_text mode t) ≡ false
late-shown plain t h = late-returns t h
late-shown exact t h = h

-- ---- kept keys

abbrev IsEarly : {S : Type 0} → Mention S → Type 0
IsEarly m = is_late_spelling m.segment.spelled ≡ false

abbrev IsEarlyOption : {S : Type 0} → Option (Mention S) → Type 0
IsEarlyOption None = Unit {0}
IsEarlyOption (Some m) = IsEarly m

find-early : {S : Type 0} (test : Mention S → Bool) (ms : List (Mention S)) → AllByRecursion IsEarly ms → IsEarlyOption (find test ms)
find-early test [] h = tt
find-early test (m ∷ ms) h = by_test (test m) (find-early test ms h.1)
  where
    by_test : (b : Bool) → IsEarlyOption (find test ms) → IsEarlyOption (if b then Some m else find test ms)
    by_test true g = h.0
    by_test false g = g

first-early : {S : Type 0} (ms : List (Mention S)) → AllByRecursion IsEarly ms → IsEarlyOption (first_of_list ms)
first-early [] h = tt
first-early (m ∷ ms) h = h.0

either-early : {S : Type 0} (a b : Option (Mention S)) → IsEarlyOption a → IsEarlyOption b → IsEarlyOption (option_or a b)
either-early (Some m) b h g = h
either-early None b h g = g

segment-early : {S : Type 0} (o : Option (Mention S)) (m : Mention S) → IsEarlyOption o → IsEarly m
    → is_late_spelling (unwrap_or (option_map (λ k. k.segment) o) m.segment).spelled ≡ false
segment-early None m h g = g
segment-early (Some k) m h g = h

kept-early : {S : Type 0} (all : List (Mention S)) (m : Mention S) → AllByRecursion IsEarly all → IsEarly m
    → is_late_spelling (kept_segment all m).spelled ≡ false
kept-early all m h g =
    let at = all-filter IsEarly (λ k. same_path m.path k.path) all h in
    segment-early (kept_mention all m.path) m
    (either-early (find (λ k. is_header_role k.role) (mentions_at all m.path)) (first_of_list (mentions_at all m.path))
    (find-early (λ k. is_header_role k.role) (mentions_at all m.path) at) (first-early (mentions_at all m.path) at)) g

bare-end-late : (ss : List Segment) → is_late_path (unspaced_end ss) ≡ is_late_path ss
bare-end-late [] = refl
bare-end-late (s ∷ []) = refl
bare-end-late (s ∷ r ∷ ss) = ap (λ b. is_late_spelling s.spelled || b) (bare-end-late (r ∷ ss))

bare-late : (ss : List Segment) → is_late_path (unspaced_ends ss) ≡ is_late_path ss
bare-late [] = refl
bare-late (s ∷ ss) = bare-end-late (record s { before = [] } ∷ ss)

own-early : {S : Type 0} (all own : List (Mention S)) → AllByRecursion IsEarly all → AllByRecursion IsEarly own
    → is_late_path (map (kept_segment all) own) ≡ false
own-early all [] h g = refl
own-early all (m ∷ own) h g =
    or-none (is_late_spelling (kept_segment all m).spelled) (is_late_path (map (kept_segment all) own)) (kept-early all m h g.0)
    (own-early all own h g.1)

pub path-early : {S : Type 0} (all own : List (Mention S)) → AllByRecursion IsEarly all → AllByRecursion IsEarly own
    → is_late_path (kept_path all own) ≡ false
path-early all own h g = bare-late (map (kept_segment all) own) ∙ own-early all own h g

-- ---- pairs

abbrev IsEarlyPair : Mention PairSource → Type 0
IsEarlyPair m =
    IsEarly m × (is_late_trivia m.source.frame.leading ≡ false) × (is_late_trivia m.source.frame.trailing ≡ false)
    × (is_late_value m.source.value ≡ false)

line-early : (source : PairSource) (start : ℕ) (p : Path) (ss : List Segment) → is_late_trivia source.frame.leading ≡ false
    → is_late_trivia source.frame.trailing ≡ false → is_late_value source.value ≡ false → is_late_path ss ≡ false
    → AllByRecursion IsEarlyPair (line_mentions source start p ss)
line-early source start p [] a b v h = tt
line-early source start p (s ∷ []) a b v h = ((or-left (is_late_spelling s.spelled) false h, a, b, v), tt)
line-early source start p (s ∷ r ∷ ss) a b v h = (
  (or-left (is_late_spelling s.spelled) (is_late_path (r ∷ ss)) h, a, b, v),
  line-early source (next_start start s) (to_key p s.key) (r ∷ ss) a b v (or-right (is_late_spelling s.spelled) (is_late_path (r ∷ ss)) h),
)

pairs-early : (ps : Pairs) (start : ℕ) → are_late_pairs ps ≡ false → AllByRecursion (AllByRecursion IsEarlyPair) (pair_mentions start ps)
pairs-early no_pairs start h = tt
pairs-early (pair f v ps) start h =
    let trivia = is_late_trivia f.leading || is_late_trivia f.trailing in
    let here = or-left (trivia || is_late_path f.path) (is_late_value v || are_late_pairs ps) h in
    let rest = or-right (trivia || is_late_path f.path) (is_late_value v || are_late_pairs ps) h in
    let around = or-left trivia (is_late_path f.path) here in (
      line-early (record { frame = f; value = v }) (start + length f.leading) [] f.path
          (or-left (is_late_trivia f.leading) (is_late_trivia f.trailing) around)
          (or-right (is_late_trivia f.leading) (is_late_trivia f.trailing) around)
          (or-left (is_late_value v) (are_late_pairs ps) rest) (or-right trivia (is_late_path f.path) here),
      pairs-early ps (start + length (frame_text f (value_text v)) + 1) (or-right (is_late_value v) (are_late_pairs ps) rest),
    )

flat-early : (mss : List (List (Mention PairSource))) → AllByRecursion (AllByRecursion IsEarlyPair) mss
    → AllByRecursion IsEarly (flat_map (λ ms. ms) mss)
flat-early [] h = tt
flat-early (ms ∷ mss) h =
    all-append IsEarly ms (flat_map (λ ms. ms) mss) (all-map IsEarlyPair IsEarly ms (λ m g. g.0) h.0) (flat-early mss h.1)

made-early : (all : List (Mention PairSource)) (mss : List (List (Mention PairSource))) → AllByRecursion IsEarly all
    → AllByRecursion (AllByRecursion IsEarlyPair) mss
    → are_late_pairs (pairs_of (some_of (map (kept_pair all) mss))) ≡ false
made-early all [] h g = refl
made-early all ([] ∷ mss) h g = made-early all mss h g.1
made-early all ((m ∷ own) ∷ mss) h g =
    let f = m.source.frame in
    let path = kept_path all (m ∷ own) in
    let rest = are_late_pairs (pairs_of (some_of (map (kept_pair all) mss))) in
    or-none ((is_late_trivia f.leading || is_late_trivia f.trailing) || is_late_path path) (is_late_value m.source.value || rest)
    (or-none (is_late_trivia f.leading || is_late_trivia f.trailing) (is_late_path path)
    (or-none (is_late_trivia f.leading) (is_late_trivia f.trailing) g.0.0.1 g.0.0.2)
    (path-early all (m ∷ own) h (all-map IsEarlyPair IsEarly (m ∷ own) (λ x e. e.0) g.0)))
    (or-none (is_late_value m.source.value) rest g.0.0.3 (made-early all mss h g.1))

ordered-early : (ps : Pairs) → are_late_pairs ps ≡ false → are_late_pairs (ordered_pairs ps) ≡ false
ordered-early ps h =
    let mss = pair_mentions 0 ps in
    let early = pairs-early ps 0 h in
    made-early (flat_map (λ ms. ms) mss) (sorted_by (pair_before mss) mss) (flat-early mss early)
    (all-sorted (AllByRecursion IsEarlyPair) (pair_before mss) mss early)

-- ---- values

module _ (mode : Mode) where
  mutual
    -- The normal form of a value is late only where the value is.
    pub value-early : (v : Value) → is_late_value v ≡ false → is_late_value (normal_value mode v) ≡ false
    value-early (scalar s t) h = h
    value-early (array es comma t) h = elements-early es h
    value-early (inline_table ps comma t) h =
        let ends = or-left (comma || is_late_trivia t) (are_late_pairs ps) h in
        or-none (comma || is_late_trivia (shown_text mode t)) (are_late_pairs (ordered_pairs (normal_pairs mode ps)))
        (or-none comma (is_late_trivia (shown_text mode t)) (or-left comma (is_late_trivia t) ends)
        (late-shown mode t (or-right comma (is_late_trivia t) ends)))
        (ordered-early (normal_pairs mode ps) (pairs-normal ps (or-right (comma || is_late_trivia t) (are_late_pairs ps) h)))

    elements-early : (es : Elements) → are_late_elements es ≡ false → are_late_elements (normal_elements mode es) ≡ false
    elements-early no_elements h = refl
    elements-early (element a v es) h =
        or-none (is_late_value (normal_value mode v)) (are_late_elements (normal_elements mode es))
        (value-early v (or-left (is_late_value v) (are_late_elements es) h))
        (elements-early es (or-right (is_late_value v) (are_late_elements es) h))

    pairs-normal : (ps : Pairs) → are_late_pairs ps ≡ false → are_late_pairs (normal_pairs mode ps) ≡ false
    pairs-normal no_pairs h = refl
    pairs-normal (pair f v ps) h =
        let trivia = is_late_trivia f.leading || is_late_trivia f.trailing in
        let here = or-left (trivia || is_late_path f.path) (is_late_value v || are_late_pairs ps) h in
        let rest = or-right (trivia || is_late_path f.path) (is_late_value v || are_late_pairs ps) h in
        let around = or-left trivia (is_late_path f.path) here in
        or-none ((is_late_trivia (shown_text mode f.leading) || is_late_trivia (shown_text mode f.trailing)) || is_late_path f.path)
        (is_late_value (normal_value mode v) || are_late_pairs (normal_pairs mode ps))
        (or-none (is_late_trivia (shown_text mode f.leading) || is_late_trivia (shown_text mode f.trailing)) (is_late_path f.path)
        (or-none (is_late_trivia (shown_text mode f.leading)) (is_late_trivia (shown_text mode f.trailing))
        (late-shown mode f.leading (or-left (is_late_trivia f.leading) (is_late_trivia f.trailing) around))
        (late-shown mode f.trailing (or-right (is_late_trivia f.leading) (is_late_trivia f.trailing) around)))
        (or-right trivia (is_late_path f.path) here))
        (or-none (is_late_value (normal_value mode v)) (are_late_pairs (normal_pairs mode ps))
        (value-early v (or-left (is_late_value v) (are_late_pairs ps) rest))
        (pairs-normal ps (or-right (is_late_value v) (are_late_pairs ps) rest)))

-- ---- statements

path-mentions : {S : Type 0} (source : S) (start : ℕ) (p : Path) (ss : List Segment) → is_late_path ss ≡ false
    → AllByRecursion IsEarly (line_mentions source start p ss)
path-mentions source start p [] h = tt
path-mentions source start p (s ∷ []) h = (or-left (is_late_spelling s.spelled) false h, tt)
path-mentions source start p (s ∷ r ∷ ss) h = (
  or-left (is_late_spelling s.spelled) (is_late_path (r ∷ ss)) h,
  path-mentions source (next_start start s) (to_key p s.key) (r ∷ ss) (or-right (is_late_spelling s.spelled) (is_late_path (r ∷ ss)) h),
)

header-path-mentions : {S : Type 0} (source : S) (arrays : List Path) (role : Role) (start : ℕ) (p : Path) (ss : List Segment)
    → is_late_path ss ≡ false
    → AllByRecursion IsEarly (header_mentions source arrays role start p ss)
header-path-mentions source arrays role start p [] h = tt
header-path-mentions source arrays role start p (s ∷ []) h = (or-left (is_late_spelling s.spelled) false h, tt)
header-path-mentions source arrays role start p (s ∷ r ∷ ss) h = (
  or-left (is_late_spelling s.spelled) (is_late_path (r ∷ ss)) h,
  header-path-mentions source arrays role (next_start start s) (in_last (elements_at arrays (to_key p s.key)) (to_key p s.key)) (r ∷ ss)
      (or-right (is_late_spelling s.spelled) (is_late_path (r ∷ ss)) h),
)

mentions-early : (c : Context) (s : Statement) → is_late_statement s ≡ false → AllByRecursion IsEarly (mentions_of c s)
mentions-early c (key_line f v end) h =
    path-mentions (source_of c (key_line f v end)) (c.start
    + path_start (key_line f v end)) c.block f.path (or-left (is_late_path f.path) (is_late_value v) h)
mentions-early c (header k end) h =
    header-path-mentions (source_of c (header k end)) c.arrays (header_role_of k) (c.start + path_start (header k end)) [] k.path h

abbrev IsEarlyPlace : Placed → Type 0
IsEarlyPlace s = AllByRecursion IsEarly s.mentions × (is_late_statement s.source.statement ≡ false)

source-early : (c : Context) (s : Statement) → is_late_statement s ≡ false → is_late_statement (source_of c s).statement ≡ false
source-early c (key_line f v end) h = h
source-early c (header k end) h = h

places-early : (c : Context) (ss : List Statement) → AreEarly ss → AllByRecursion IsEarlyPlace (placed_from c ss)
places-early c [] h = tt
places-early c (s ∷ ss) h = ((mentions-early c s h.0, source-early c s h.0), places-early (context_after c s) ss h.1)

all-of : (places : List Placed) → AllByRecursion IsEarlyPlace places
    → AllByRecursion IsEarly (flat_map (λ ms. ms) (map (λ (s : Placed). s.mentions) places))
all-of [] h = tt
all-of (s ∷ places) h = all-append IsEarly s.mentions _ h.0.0 (all-of places h.1)

open-early : (ss : List Statement) → AreEarly ss → AreEarly (open_statements ss)
open-early [] h = tt
open-early (key_line f v end ∷ []) h = h
open-early (header k end ∷ []) h = h
open-early (s ∷ r ∷ ss) h = (h.0, open-early (r ∷ ss) h.1)

module _ (mode : Mode) where
  statement-early : (all : List (Mention Source)) (at : Placed) (s : Statement) → AllByRecursion IsEarly all
      → AllByRecursion IsEarly at.mentions → is_late_statement s ≡ false
      → is_late_statement (normal_statement mode all at s) ≡ false
  statement-early all at (key_line f v end) h g e =
      or-none (is_late_path (kept_path all at.mentions)) (is_late_value (normal_value mode v)) (path-early all at.mentions h g)
      (value-early mode v (or-right (is_late_path f.path) (is_late_value v) e))
  statement-early all at (header k end) h g e = path-early all at.mentions h g

  statements-early : (all : List (Mention Source)) (places : List Placed) → AllByRecursion IsEarly all → AllByRecursion IsEarlyPlace places
      → AreEarly (map (λ (s : Placed). normal_statement mode all s s.source.statement) places)
  statements-early all [] h g = tt
  statements-early all (s ∷ places) h g = (statement-early all s s.source.statement h g.0.0 g.0.1, statements-early all places h g.1)

-- Where no statement is late, none of the normal form is.
pub normal-early : (mode : Mode) (d : Document) → AreEarly d.statements → AreEarly (normal_in mode d).statements
normal-early mode d h =
    let places = placed d in
    let mss = map (λ (s : Placed). s.mentions) places in
    let early = places-early (start_context d) d.statements h in
    last mode (map (λ (s : Placed). normal_statement mode (flat_map (λ ms. ms) mss) s s.source.statement) (ordered mss places))
    (statements-early mode (flat_map (λ ms. ms) mss) (ordered mss places) (all-of places early) (all-ordered IsEarlyPlace mss places early))
  where
    by_test : (b : Bool) (ss : List Statement) → AreEarly ss → AreEarly (if b then open_statements ss else ss)
    by_test true ss g = open-early ss g
    by_test false ss g = g

    last : (m : Mode) (ss : List Statement) → AreEarly ss → AreEarly (normal_last m d ss)
    last plain ss g = g
    last exact ss g = by_test (has_open_end d.statements) ss g
