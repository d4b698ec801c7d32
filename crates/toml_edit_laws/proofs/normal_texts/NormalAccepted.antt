-- The normal form of an accepted cut is a cut, and accepted.
use Rattle.std.proofs.Common.{◌≡◌, refl, sym, ◌∙◌, ap, subst, ℕ, ◌+◌, ◌≤◌, arith, true, false, Bool, List, [], ◌∷◌, Option, Some, None, inl}
use Rattle.std.proofs.Common.{inr}
use Rattle.std.specs.Prelude.{◌⊎◌, ◌&&◌, map, flat_map, nat_le, option_map, unwrap_or, if◌then◌else◌}
use Rattle.std.specs.List.{AllByRecursion, list_all}
use Rattle.std.proofs.lemmas.Bool.{leb-true, le-leb}
use Rattle.toml_edit_model.specs.Mode.{Mode, plain, exact, shown_text}
use Rattle.toml_edit_model.specs.Text.{Text, is_empty}
use Rattle.toml_edit_model.specs.Trivia.{IsWhiteSpace, IsNewline, lf, crlf}
use Rattle.toml_edit_model.specs.Syntax.{Segment, Value, Statement, key_line, header, Document, open_statements, begins_unspaced}
use Rattle.toml_edit_model.specs.Syntax.{IsStatement, AreStatements, IsDocument, depth, nesting_limit, is_short, has_short_keys}
use Rattle.toml_edit_model.specs.Syntax.{keeps_ranges, keeps_limits}
use Rattle.toml_edit_model.specs.Paths.{Path, Mention, Source, Placed, Context, line_mentions, header_mentions, header_role_of, path_start}
use Rattle.toml_edit_model.specs.Paths.{source_of, mentions_of, context_after, placed_from, placed, start_context}
use Rattle.toml_edit_model.specs.Accepted.{agree, has_agreeing_pairs, is_sound, is_accepted, AcceptedAs}
use Rattle.toml_edit_model.specs.Normal.{is_line, ordered, opening_of, closing_of, kept_statement, has_open_end, normal_end, normal_last}
use Rattle.toml_edit_model.specs.Normal.{normal_value, normal_statement, normal_in, normal_text_in}
use Rattle.toml_edit_laws.proofs.common.LineEnds.{IsEnd}
use Rattle.toml_edit_laws.proofs.accepted_prints.PrintedCut.{open-are}
use Rattle.toml_edit_laws.proofs.print_of_read.PrintOfRead.{open-end-final}
use Rattle.toml_edit_laws.proofs.common.Tests.{and_left, and_right, and_both}
use Rattle.toml_edit_laws.proofs.normal_texts.SettledStays.{own-line, own-header, IsAny, any-statements}
use Rattle.toml_edit_laws.proofs.normal_texts.Cores.{AreKeyed, statement-keyed, placed-keyed, kept-path-keys, kept-holds}
use Rattle.toml_edit_laws.proofs.normal_texts.Runs.{Run, placed-run, ordered-run, with_end, AreNormal, ended-run, normal-ended, last-ended}
use Rattle.toml_edit_laws.proofs.normal_texts.Lean.{lean-trivia, lean-end, lean-final, AreRightSegments, AreRightMentions, IsRightSegment}
use Rattle.toml_edit_laws.proofs.normal_texts.Lean.{both-segments, mentions-right, kept-is-path}
use Rattle.toml_edit_laws.proofs.normal_texts.Agreeing.{AreOfLine, of-line, meets-both, agree-swap, agree-alike, AgreesWith, IsSound}
use Rattle.toml_edit_laws.proofs.normal_texts.Agreeing.{from-right, to-right, all-ordered, pairs-ordered}
use Rattle.toml_edit_laws.proofs.normal_texts.RightValues.{value-right, short-keys}
use Rattle.toml_edit_laws.proofs.common.Cores.{keys_of_segments}
use Rattle.toml_edit_laws.proofs.mentions.Placed.{placed_at, own-sources, source-statement}
use Rattle.toml_edit_laws.proofs.common.Pairs.{AllPairs}
use Rattle.toml_edit_laws.proofs.mentions.Placed.{mention_lists}
use Rattle.toml_edit_laws.proofs.common.Each.{all-append, all-map}
use Rattle.toml_edit_laws.proofs.one_by_one.Together.{accepted-right, right-accepted}
use Rattle.toml_edit_model.specs.Roles.{Role, may_meet}
use Rattle.toml_edit_model.specs.Kept.{kept_mention, kept_path}

-- ---- right places

abbrev pub IsRightPlace : Placed → Type 0
IsRightPlace x = (c : Context) × (s : Statement) × (x ≡ placed_at c s) × IsAny s × (is_sound s ≡ true)

-- a mention in the grammar, of a statement in it
abbrev pub IsRightMention : Mention Source → Type 0
IsRightMention m = IsRightSegment m.segment × IsAny m.source.statement

pub own-rights : (c : Context) (s : Statement) → IsAny s → AreRightMentions (mentions_of c s)
own-rights c (key_line f v end) h =
    mentions-right (mentions_of c (key_line f v end))
    (subst AreRightSegments (sym (own-line (source_of c (key_line f v end)) (c.start + path_start (key_line f v end)) c.block f.path))
    (both-segments f.path h.0.0.segments h.0.1.spelled))
own-rights c (header e end) h =
    mentions-right (mentions_of c (header e end))
    (subst AreRightSegments (sym (own-header (source_of c (header e end)) c.arrays (header_role_of e) (c.start
    + path_start (header e end)) [] e.path))
    (both-segments e.path h.0.0.segments h.0.1.spelled))

own-right : (c : Context) (s : Statement) → IsAny s → AllByRecursion IsRightMention (mentions_of c s)
own-right c s h = each (mentions_of c s) (own-rights c s h) (own-sources c s)
  where
    each : (ms : List (Mention Source)) → AreRightMentions ms → AllByRecursion (λ m. m.source ≡ source_of c s) ms
        → AllByRecursion IsRightMention ms
    each [] g k = tt
    each (m ∷ ms) g k = ((g.0, subst IsAny (sym (source-statement c s) ∙ ap (λ o. o.statement) (sym k.0)) h), each ms g.1 k.1)

pub all-right : (c : Context) (ss : List Statement) → AllByRecursion IsAny ss
    → AllByRecursion IsRightMention (flat_map (λ m. m) (map (λ s. s.mentions) (placed_from c ss)))
all-right c [] h = tt
all-right c (s ∷ ss) h =
    all-append IsRightMention (mentions_of c s) (flat_map (λ m. m) (map (λ r. r.mentions) (placed_from (context_after c s) ss)))
    (own-right c s h.0) (all-right (context_after c s) ss h.1)

pub right-places : (c : Context) (ss : List Statement) → AllByRecursion IsAny ss → AllByRecursion IsSound (placed_from c ss)
    → AllByRecursion IsRightPlace (placed_from c ss)
right-places c [] h g = tt
right-places c (s ∷ ss) h g =
    ((c, s, refl, h.0, ap is_sound (sym (source-statement c s)) ∙ g.0), right-places (context_after c s) ss h.1 g.1)

-- ---- normal statements

filled : {S : Type 0} (source : S) (start : ℕ) (p : Path) (ss : List Segment) → begins_unspaced ss ≡ true
    → is_empty (line_mentions source start p ss) ≡ false
filled source start p [] h = absurd cc
filled source start p (s ∷ []) h = refl
filled source start p (s ∷ r ∷ rest) h = refl

filled-header : {S : Type 0} (source : S) (arrays : List Path) (role : Role) (start : ℕ) (p : Path) (ss : List Segment) → begins_unspaced ss
    ≡ true
    → is_empty (header_mentions source arrays role start p ss) ≡ false
filled-header source arrays role start p [] h = absurd cc
filled-header source arrays role start p (s ∷ []) h = refl
filled-header source arrays role start p (s ∷ r ∷ rest) h = refl

-- the white space inside the brackets of a statement in the grammar
any-spaces : (s : Statement) → IsAny s → IsWhiteSpace (opening_of s) × IsWhiteSpace (closing_of s)
any-spaces (key_line f v end) h = (refl, refl)
any-spaces (header e end) h = (h.0.0.opening, h.0.0.closing)

kept-any : (ms : List (Mention Source)) (p : Path) (s : Statement) → AllByRecursion IsRightMention ms → IsAny s
    → IsAny (kept_statement ms p s)
kept-any ms p s h g = by_kept (kept_mention ms p) refl
  where
    by_kept : (o : Option (Mention Source)) → kept_mention ms p ≡ o
        → IsAny (unwrap_or (option_map (λ (k : Mention Source). k.source.statement) o) s)
    by_kept None e = g
    by_kept (Some k) e = (kept-holds IsRightMention ms p k h e).0.1

rights : (ms : List (Mention Source)) → AllByRecursion IsRightMention ms → AreRightMentions ms
rights ms h = all-map IsRightMention (λ m. IsRightSegment m.segment) ms (λ m g. g.0) h

any-end : (final : Text) (s : Statement) → IsStatement IsNewline s → IsStatement (λ end. IsNewline end ⊎ ((end ≡ []) × (final ≡ []))) s
any-end final (key_line f v end) h = (h.0, h.1, inl h.2)
any-end final (header e end) h = (h.0, inl h.1)

all-statements : (final : Text) (ss : List Statement) → AllByRecursion (IsStatement IsNewline) ss → AreStatements final ss
all-statements final [] h = tt
all-statements final (s ∷ []) h = any-end final s h.0
all-statements final (s ∷ r ∷ rest) h = (h.0, all-statements final (r ∷ rest) h.1)

-- lines are of lines
abbrev pub HasLineRoles : Placed → Type 0
HasLineRoles x = is_line x.source.statement ≡ true → AreOfLine x.mentions

pub place-roles : (c : Context) (s : Statement) → HasLineRoles (placed_at c s)
place-roles c (key_line f v end) h = of-line (source_of c (key_line f v end)) (c.start + path_start (key_line f v end)) c.block f.path
place-roles c (header e end) h = absurd cc

pub right-roles : (x : Placed) → IsRightPlace x → HasLineRoles x
right-roles x (c, s, is, a, g) = subst HasLineRoles (sym is) (place-roles c s)

swap-lines : (x y : Placed) → IsRightPlace x → IsRightPlace y → is_line x.source.statement ≡ true → is_line y.source.statement ≡ true
    → AgreesWith x y → AgreesWith y x
swap-lines x y h g a b r = agree-swap may_meet meets-both x.mentions y.mentions (right-roles x h a) (right-roles y g b) r

each-none : (xs : List Placed) → AllByRecursion (λ y. list_all (λ (e : Placed). agree may_meet e.mentions y.mentions) [] ≡ true) xs
each-none [] = tt
each-none (x ∷ xs) = (refl, each-none xs)

abbrev pub all_in : Document → List (Mention Source)
all_in d = flat_map (λ m. m) (mention_lists (placed d))

abbrev pub in_order : Document → List Placed
in_order d = ordered (mention_lists (placed d)) (placed d)

-- ---- ends

sound-ended : (end : Text) (s : Statement) → is_sound (with_end end s) ≡ is_sound s
sound-ended end (key_line f v e) = refl
sound-ended end (header h e) = refl

normal-newline : (mode : Mode) (end : Text) → IsEnd end → IsNewline (normal_end mode end)
normal-newline plain end h = (lf, refl)
normal-newline exact end (inl (lf, e)) = subst (λ t. IsNewline (normal_end exact t)) (sym e) (lf, refl)
normal-newline exact end (inl (crlf, e)) = subst (λ t. IsNewline (normal_end exact t)) (sym e) (crlf, refl)
normal-newline exact end (inr e) = subst (λ t. IsNewline (normal_end exact t)) (sym e) (lf, refl)

last-are : (mode : Mode) (d : Document) (ss : List Statement) → IsDocument d → AllByRecursion (IsStatement IsNewline) ss
    → AreStatements (shown_text mode d.final) (normal_last mode d ss)
last-are plain d ss h g = all-statements (shown_text plain d.final) ss g
last-are exact d ss h g = by_test (has_open_end d.statements) refl
  where
    by_test : (b : Bool) → has_open_end d.statements ≡ b → AreStatements d.final (if b then open_statements ss else ss)
    by_test true e = open-are d.final ss (open-end-final d.final d.statements h.0 e) g
    by_test false e = all-statements d.final ss g

module _ (mode : Mode) where
  pub normal-right : (ms : List (Mention Source)) → AreKeyed ms → AllByRecursion IsRightMention ms → (c : Context) (s : Statement) → IsAny s
      → is_sound s ≡ true
      → IsStatement IsNewline (normal_statement mode ms (placed_at c s) s) × (is_sound (normal_statement mode ms (placed_at c s) s) ≡ true)
  normal-right ms k r c (key_line f v end) h g =
      let own : List (Mention Source) = mentions_of c (key_line f v end) in
      let parts = and_left (keeps_limits (key_line f v end) && keeps_ranges v) (has_agreeing_pairs v) g in
      let agrees = and_right (keeps_limits (key_line f v end) && keeps_ranges v) (has_agreeing_pairs v) g in
      let limits = and_left (is_short f.path && (nat_le (depth v) nesting_limit && has_short_keys v)) (keeps_ranges v) parts in
      let ranges = and_right (is_short f.path && (nat_le (depth v) nesting_limit && has_short_keys v)) (keeps_ranges v) parts in
      let deep = and_right (is_short f.path) (nat_le (depth v) nesting_limit && has_short_keys v) limits in
      let value = value-right mode v h.1 (and_right (nat_le (depth v) nesting_limit) (has_short_keys v) deep) ranges agrees in
      let low : depth (normal_value mode v) ≤ depth v = value.depth in
      let below : depth v ≤ nesting_limit =
      leb-true (depth v) nesting_limit (and_left (nat_le (depth v) nesting_limit) (has_short_keys v) deep) in
      let path = kept-is-path ms own (rights ms r) (own-rights c (key_line f v end) h)
      (filled (source_of c (key_line f v end)) (c.start + path_start (key_line f v end)) c.block f.path h.0.1.begins) in
      let same : keys_of_segments (kept_path ms own) ≡ keys_of_segments f.path =
      kept-path-keys ms own k (statement-keyed c (key_line f v end))
      ∙ ap keys_of_segments (own-line (source_of c (key_line f v end)) (c.start + path_start (key_line f v end)) c.block f.path) in
      let short : is_short (kept_path ms own) ≡ true =
      short-keys (kept_path ms own) f.path same (and_left (is_short f.path) (nat_le (depth v) nesting_limit && has_short_keys v) limits) in
      let w : Value = normal_value mode v in (
        (
          (
            record {
              leading = lean-trivia mode f.leading h.0.0.leading;
              segments = path.0;
              before_equals = h.0.0.before_equals;
              after_equals = h.0.0.after_equals;
              trailing = lean-end mode f.trailing h.0.0.trailing;
            },
            path.1,
          ),
          value.value,
          normal-newline mode end h.2,
        ),
        and_both ((is_short (kept_path ms own) && (nat_le (depth w) nesting_limit && has_short_keys w))
            && keeps_ranges w) (has_agreeing_pairs w)
            (and_both (is_short (kept_path ms own) && (nat_le (depth w) nesting_limit && has_short_keys w)) (keeps_ranges w)
            (and_both (is_short (kept_path ms own)) (nat_le (depth w) nesting_limit && has_short_keys w) short
            (and_both (nat_le (depth w) nesting_limit) (has_short_keys w) (le-leb (depth w) nesting_limit (omega arith)) value.short))
            value.ranges)
            value.agreeing,
      )
  normal-right ms k r c (header e end) h g =
      let own : List (Mention Source) = mentions_of c (header e end) in
      let from : Statement = kept_statement ms (source_of c (header e end)).path (header e end) in
      let spaces = any-spaces from (kept-any ms (source_of c (header e end)).path (header e end) r h) in
      let path = kept-is-path ms own (rights ms r) (own-rights c (header e end) h)
      (filled-header (source_of c (header e end)) c.arrays (header_role_of e) (c.start
      + path_start (header e end)) [] e.path h.0.1.begins) in
      let same : keys_of_segments (kept_path ms own) ≡ keys_of_segments e.path =
      kept-path-keys ms own k (statement-keyed c (header e end))
      ∙ ap keys_of_segments (own-header (source_of c (header e end)) c.arrays (header_role_of e) (c.start
      + path_start (header e end)) [] e.path) in
      let limits = and_left (is_short e.path) true (and_left (is_short e.path && true) true g) in
      let short : is_short (kept_path ms own) ≡ true = short-keys (kept_path ms own) e.path same limits in (
        (
          (
            record {
              leading = lean-trivia mode e.leading h.0.0.leading;
              segments = path.0;
              opening = spaces.0;
              closing = spaces.1;
              trailing = h.0.0.trailing;
            },
            path.1,
          ),
          normal-newline mode end h.1,
        ),
        and_both (is_short (kept_path ms own) && true) true (and_both (is_short (kept_path ms own)) true short refl) refl,
      )

  -- ---- lists of statements

  normal-statements : (ms : List (Mention Source)) → AreKeyed ms → AllByRecursion IsRightMention ms → (xs : List Placed)
      → AllByRecursion IsRightPlace xs
      → AllByRecursion (λ s. IsStatement IsNewline s × (is_sound s ≡ true)) (map (λ s. normal_statement mode ms s s.source.statement) xs)
  normal-statements ms k r [] h = tt
  normal-statements ms k r (x ∷ xs) h = (one h.0, normal-statements ms k r xs h.1)
    where
      one : IsRightPlace x → IsStatement IsNewline (normal_statement mode ms x x.source.statement)
          × (is_sound (normal_statement mode ms x x.source.statement) ≡ true)
      one (c, s, is, a, g) =
          let to : normal_statement mode ms x x.source.statement ≡ normal_statement mode ms (placed_at c s) s =
          ap (λ (y : Placed). normal_statement mode ms y y.source.statement) is
          ∙ ap (normal_statement mode ms (placed_at c s)) (source-statement c s) in
          subst (λ t. IsStatement IsNewline t × (is_sound t ≡ true)) (sym to) (normal-right ms k r c s a g)

  -- ---- agreement

  normal-agree : (ms : List (Mention Source)) (xs ys : List Placed) → AreNormal mode ms xs ys → AllPairs AgreesWith xs
      → AllPairs AgreesWith ys
  normal-agree ms [] [] h g = tt
  normal-agree ms [] (y ∷ ys) h g = absurd h
  normal-agree ms (x ∷ xs) [] h g = absurd h
  normal-agree ms (x ∷ xs) (y ∷ ys) h g = (each xs ys h.1 g.0, normal-agree ms xs ys h.1 g.1)
    where
      each : (us vs : List Placed) → AreNormal mode ms us vs → AllByRecursion (AgreesWith x) us → AllByRecursion (AgreesWith y) vs
      each [] [] a b = tt
      each [] (q ∷ qs) a b = absurd a
      each (p ∷ ps) [] a b = absurd a
      each (p ∷ ps) (q ∷ qs) a b =
          (agree-alike may_meet x.mentions p.mentions y.mentions q.mentions h.0.cores a.0.cores ∙ b.0, each ps qs a.1 b.1)

  sound-normal : (ms : List (Mention Source)) (xs ys : List Placed) → AreNormal mode ms xs ys
      → AllByRecursion (λ s. IsStatement IsNewline s × (is_sound s ≡ true)) (map (λ s. normal_statement mode ms s s.source.statement) xs)
      → AllByRecursion IsSound ys
  sound-normal ms [] [] h g = tt
  sound-normal ms [] (y ∷ ys) h g = absurd h
  sound-normal ms (x ∷ xs) [] h g = absurd h
  sound-normal ms (x ∷ xs) (y ∷ ys) h g = (
    ap is_sound h.0.statement ∙ sound-ended h.0.end (normal_statement mode ms x x.source.statement) ∙ g.0.1,
    sound-normal ms xs ys h.1 g.1,
  )

  -- ---- documents

  -- what is known of an accepted cut, its statements in order, and their normal forms
  pub record IsKnown (d : Document) (ms : List (Mention Source)) (xs ys : List Placed) : Type 0 where
    pub run : Run 0 [] [] xs
    pub normal_places : AreNormal mode ms xs ys
    pub right : AllByRecursion IsRightPlace xs
    pub agree : AllPairs AgreesWith xs
    pub keyed : AreKeyed ms
    pub rights : AllByRecursion IsRightMention ms

  pub known : (d : Document) → IsDocument d → is_accepted d ≡ true → IsKnown d (all_in d) (in_order d) (placed (normal_in mode d))
  known d h g =
      let parts = from-right [] (placed d) (accepted-right d g) in
      let any = any-statements d.final d.statements h.0 in
      let right = right-places (start_context d) d.statements any parts.0 in
      let run = ordered-run (mention_lists (placed d)) 0 [] [] (placed d) (placed-run (start_context d) d.statements) in
      record {
        run = run;
        normal_places =
            ended-run mode (all_in d) 0 [] [] (start_context (normal_in mode d)) (in_order d) (normal_in mode d).statements
            (placed-keyed (start_context d) d.statements) run refl refl
            (last-ended mode d (map (λ s. normal_statement mode (all_in d) s s.source.statement) (in_order d))
            (normal-ended mode (all_in d) (in_order d)));
        right = all-ordered IsRightPlace (mention_lists (placed d)) (placed d) right;
        agree = pairs-ordered AgreesWith IsRightPlace swap-lines (mention_lists (placed d)) (placed d) right parts.2;
        keyed = placed-keyed (start_context d) d.statements;
        rights = all-right (start_context d) d.statements any;
      }

  -- The normal form of an accepted cut is a cut, and accepted.
  pub normal-accepted : (d : Document) → IsDocument d → is_accepted d ≡ true → IsDocument (normal_in mode d)
      × (is_accepted (normal_in mode d) ≡ true)
  normal-accepted d h g =
      let k = known d h g in
      let ms : List (Mention Source) = all_in d in
      let xs : List Placed = in_order d in
      let each = normal-statements ms k.keyed k.rights xs k.right in (
        (
          last-are mode d (map (λ s. normal_statement mode ms s s.source.statement) xs) h
              (all-map (λ s. IsStatement IsNewline s × (is_sound s ≡ true)) (IsStatement IsNewline)
              (map (λ s. normal_statement mode ms s s.source.statement) xs) (λ s e. e.0) each),
          lean-final mode d.final h.1,
        ),
        right-accepted (normal_in mode d) (to-right [] (placed (normal_in mode d))
            (sound-normal ms xs (placed (normal_in mode d)) k.normal_places each) (each-none (placed (normal_in mode d)))
            (normal-agree ms xs (placed (normal_in mode d)) k.normal_places k.agree)),
      )

  pub normal-accepted-as : (d : Document) → IsDocument d → is_accepted d ≡ true → AcceptedAs (normal_text_in mode d) (normal_in mode d)
  normal-accepted-as d h g = (let both = normal-accepted d h g in ((both.0, refl), both.1))
