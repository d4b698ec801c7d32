-- A statement has a late part exactly where it is late.
use Rattle.std.proofs.Common.{◌≡◌, refl, ◌∙◌, ap, ℕ, suc, ◌+◌, Bool, true, false, List, [], ◌∷◌, ◌++◌, length}
use Rattle.std.specs.Prelude.{◌&&◌, ◌||◌, not, ◌==◌, if◌then◌else◌}
use Rattle.std.proofs.lemmas.Bool.Decides.{Decides-eqb}
use Rattle.toml_edit_model.specs.Text.{Text, is_empty, line_feed, carriage_return, quote, hash, backslash}
use Rattle.toml_edit_model.specs.Scalars.{Scalar, string, integer, float, boolean, datetime}
use Rattle.toml_edit_model.specs.Syntax.{Segment, Value, scalar, array, inline_table, Elements, no_elements, element, Pairs, no_pairs, pair}
use Rattle.toml_edit_model.specs.Syntax.{key_line, header, value_text, frame_text, path_text, pairs_text, comma_text}
use Rattle.toml_edit_model.specs.Version.{is_late_escape, has_late_escape, is_late_spelling, is_late_time, is_late_scalar, is_late_path}
use Rattle.toml_edit_model.specs.Version.{is_late_trivia, is_late_value, are_late_elements, are_late_pairs, Place, escape_size}
use Rattle.toml_edit_model.specs.Version.{late_escapes, late_spelling, late_scalar, late_path, Reading, nothing_yet, comment_from}
use Rattle.toml_edit_model.specs.Version.{return_at, comment_to, newline_to, hash_at, late_trivia, late_comma, late_value, late_elements}
use Rattle.toml_edit_model.specs.Version.{late_pairs}
use Rattle.toml_edit_model.specs.Paths.{next_start, path_start}
use Rattle.toml_edit_laws.specs.Versions.{LateHavePlaces}

-- ---- lists of places

none-append : (xs ys : List Place) (a b : Bool) → is_empty xs ≡ not a → is_empty ys ≡ not b → is_empty (xs ++ ys) ≡ not (a || b)
none-append [] ys true b h g = (let clash : true ≡ false = h in cc)
none-append [] ys false b h g = g
none-append (x ∷ xs) ys true b h g = refl
none-append (x ∷ xs) ys false b h g = (let clash : false ≡ true = h in cc)

one-place : (b : Bool) (p : Place) → is_empty (if b then p ∷ [] else []) ≡ not b
one-place true p = refl
one-place false p = refl

-- ---- spellings

escapes-told : (i : ℕ) (t : Text) → is_empty (late_escapes i t) ≡ not (has_late_escape t)
escapes-told i [] = refl
escapes-told i (c ∷ []) = refl
escapes-told i (c ∷ d ∷ t) = by_test (c == backslash) (escapes-told (i + 2) t) (escapes-told (i + 1) (d ∷ t))
  where
    by_test : (b : Bool) → is_empty (late_escapes (i + 2) t) ≡ not (has_late_escape t)
        → is_empty (late_escapes (i + 1) (d ∷ t)) ≡ not (has_late_escape (d ∷ t))
        → is_empty (if b then (if is_late_escape d then (i, escape_size d) ∷ [] else []) ++ late_escapes (i + 2) t
        else late_escapes (i + 1) (d ∷ t))
        ≡ not (if b then is_late_escape d || has_late_escape t else has_late_escape (d ∷ t))
    by_test true h g = none-append (if is_late_escape d then (i, escape_size d) ∷ []
        else []) (late_escapes (i + 2) t) (is_late_escape d) (has_late_escape t)
        (one-place (is_late_escape d) (i, escape_size d)) h
    by_test false h g = g

spelling-told : (i : ℕ) (t : Text) → is_empty (late_spelling i t) ≡ not (is_late_spelling t)
spelling-told i [] = refl
spelling-told i (c ∷ t) = by_test (c == quote)
  where
    by_test : (b : Bool) → is_empty (if b then late_escapes (i + 1) t else []) ≡ not (b && has_late_escape t)
    by_test true = escapes-told (i + 1) t
    by_test false = refl

scalar-told : (s : Scalar) (t : Text) (i : ℕ) → is_empty (late_scalar s t i) ≡ not (is_late_scalar s t)
scalar-told (string v) t i = spelling-told i t
scalar-told (integer z) t i = refl
scalar-told (float x) t i = refl
scalar-told (boolean b) t i = refl
scalar-told (datetime d) t i = one-place (is_late_time d.time) (i, length t)

path-told : (i : ℕ) (p : List Segment) → is_empty (late_path i p) ≡ not (is_late_path p)
path-told i [] = refl
path-told i (s ∷ p) =
    none-append (late_spelling (i + length s.before) s.spelled) (late_path (next_start i s) p) (is_late_spelling s.spelled) (is_late_path p)
    (spelling-told (i + length s.before) s.spelled) (path-told (next_start i s) p)

-- ---- trivia

-- a comment is being read
abbrev in_comment : Reading → Bool
in_comment (comment_from j) = true
in_comment _ = false

comment-told : (i : ℕ) (r : Reading) → is_empty (comment_to i r) ≡ not (in_comment r)
comment-told i nothing_yet = refl
comment-told i (comment_from j) = refl
comment-told i (return_at j) = refl

some-after : (xs ys : List Place) (p : Place) → is_empty (xs ++ (p ∷ ys)) ≡ false
some-after [] ys p = refl
some-after (x ∷ xs) ys p = refl

trivia-told : (r : Reading) (i : ℕ) (t : Text) → is_empty (late_trivia r i t) ≡ not (in_comment r || is_late_trivia t)
trivia-told r i [] = comment-told i r ∙ ap not (or-false (in_comment r))
  where
    or-false : (b : Bool) → b ≡ (b || false)
    or-false true = refl
    or-false false = refl
trivia-told r i (c ∷ t) =
    by_tests (c == line_feed) (c == carriage_return) (c == hash) (λ e. ap (λ x. x == hash) ((Decides-eqb c carriage_return).0 e))
    (trivia-told (return_at i) (suc i) t) (trivia-told (hash_at i r) (suc i) t) (trivia-told r (suc i) t)
  where
    late : Bool
    late = is_late_trivia t

    or-true : (b : Bool) → false ≡ not (b || true)
    or-true true = refl
    or-true false = refl

    hashed : (r : Reading) → in_comment (hash_at i r) ≡ true
    hashed nothing_yet = refl
    hashed (comment_from j) = refl
    hashed (return_at j) = refl

    by_tests : (l k h : Bool) → (k ≡ true → h ≡ false) → is_empty (late_trivia (return_at i) (suc i) t) ≡ not (false || late)
        → is_empty (late_trivia (hash_at i r) (suc i) t) ≡ not (in_comment (hash_at i r) || late)
        → is_empty (late_trivia r (suc i) t) ≡ not (in_comment r || late)
        → is_empty (if l then comment_to i r ++ (newline_to i r ∷ late_trivia nothing_yet (suc i) t)
        else if k then comment_to i r ++ late_trivia (return_at i) (suc i) t
        else if h then late_trivia (hash_at i r) (suc i) t
        else late_trivia r (suc i) t)
        ≡ not (in_comment r || ((l || h) || late))
    by_tests true k h apart after hash other = some-after (comment_to i r) (late_trivia nothing_yet (suc i) t) (newline_to i r)
        ∙ or-true (in_comment r)
    by_tests false true true apart after hash other = (let clash : true ≡ false = apart refl in cc)
    by_tests false true false apart after hash other =
        none-append (comment_to i r) (late_trivia (return_at i) (suc i) t) (in_comment r) late (comment-told i r) after
    by_tests false false true apart after hash other = hash ∙ ap (λ b. not (b || late)) (hashed r) ∙ or-true (in_comment r)
    by_tests false false false apart after hash other = other

-- ---- values

or-swap : (a b : Bool) → (a || b) ≡ (b || a)
or-swap true true = refl
or-swap true false = refl
or-swap false true = refl
or-swap false false = refl

comma-told : (comma : Bool) (i : ℕ) → is_empty (late_comma comma i) ≡ not comma
comma-told true i = refl
comma-told false i = refl

mutual
  pub value-told : (v : Value) (i : ℕ) → is_empty (late_value v i) ≡ not (is_late_value v)
  value-told (scalar s t) i = scalar-told s t i
  value-told (array es comma t) i = elements-told es (i + 1)
  value-told (inline_table ps comma t) i =
      let at = i + 1 + length (pairs_text ps) in
      none-append (late_pairs ps (i + 1)) _ (are_late_pairs ps) (comma || is_late_trivia t) (pairs-told ps (i + 1))
      (none-append (late_comma comma at) (late_trivia nothing_yet (at + length (comma_text comma)) t) comma (is_late_trivia t)
      (comma-told comma at) (trivia-told nothing_yet (at + length (comma_text comma)) t))
      ∙ ap not (or-swap (are_late_pairs ps) (comma || is_late_trivia t))

  elements-told : (es : Elements) (i : ℕ) → is_empty (late_elements es i) ≡ not (are_late_elements es)
  elements-told no_elements i = refl
  elements-told (element a v es) i =
      none-append (late_value v (i + length a.before)) _ (is_late_value v) (are_late_elements es) (value-told v (i + length a.before))
      (elements-told es (i + length a.before + length (value_text v) + length a.after + 1))

  pairs-told : (ps : Pairs) (i : ℕ) → is_empty (late_pairs ps i) ≡ not (are_late_pairs ps)
  pairs-told no_pairs i = refl
  pairs-told (pair f v ps) i =
      let value_at = i + length f.leading + length (path_text f.path) + length f.before_equals + 1 + length f.after_equals in
      let leading = is_late_trivia f.leading in
      let path = is_late_path f.path in
      let value = is_late_value v in
      let trailing = is_late_trivia f.trailing in
      let rest = are_late_pairs ps in
      none-append (late_trivia nothing_yet i f.leading) _ leading (path
      || (value || (trailing || rest))) (trivia-told nothing_yet i f.leading)
      (none-append (late_path (i + length f.leading) f.path) _ path (value || (trailing || rest)) (path-told (i + length f.leading) f.path)
      (none-append (late_value v value_at) _ value (trailing || rest) (value-told v value_at)
      (none-append (late_trivia nothing_yet (value_at + length (value_text v)) f.trailing) _ trailing rest
      (trivia-told nothing_yet (value_at + length (value_text v)) f.trailing)
      (pairs-told ps (i + length (frame_text f (value_text v)) + 1)))))
      ∙ ap not (regroup leading path value trailing rest)
    where
      regroup : (l p v t r : Bool) → (l || (p || (v || (t || r)))) ≡ (((l || t) || p) || (v || r))
      regroup true p v t r = refl
      regroup false true v true r = refl
      regroup false true v false r = refl
      regroup false false true true r = refl
      regroup false false true false r = refl
      regroup false false false true r = refl
      regroup false false false false r = refl

pub late-have-places : LateHavePlaces
late-have-places i (key_line f v end) =
    let value_at = i + length f.leading + length (path_text f.path) + length f.before_equals + 1 + length f.after_equals in
    none-append (late_path (i + length f.leading) f.path) (late_value v value_at) (is_late_path f.path) (is_late_value v)
    (path-told (i + length f.leading) f.path) (value-told v value_at)
late-have-places i (header h end) = path-told (i + path_start (header h end)) h.path
