-- A test that all texts of the grammar pass: a text that fails it has no cut.
use Rattle.std.specs.Prelude.{◌≡◌, refl, ◌⊎◌, ◌≤◌, ◌<◌, ℕ, zero, suc, ◌+◌, Bool, true, false, ◌||◌, ◌==◌, List, [], ◌∷◌, ◌++◌, length, map}
use Rattle.std.specs.Prelude.{codes}
use Rattle.std.proofs.Common.{sym, ap, subst, ◌∙◌, append_assoc, append-nil, inl, inr, arith}
use Rattle.std.specs.List.{list_all, AllByRecursion}
use Rattle.std.proofs.lemmas.Bool.{false≢true}
use Rattle.std.proofs.lemmas.List.{length-append}
use Rattle.toml_edit_model.specs.Text.{Text, same_text, is_empty, joined}
use Rattle.toml_edit_model.specs.Trivia.{is_blank, IsWhiteSpace, IsWholeTrivia, IsLineEnd, IsFinalTrivia, lf, crlf, IsNewline}
use Rattle.toml_edit_model.specs.Syntax.{Segment, Frame, Value, scalar, array, inline_table, Elements, no_elements, element, Pairs}
use Rattle.toml_edit_model.specs.Syntax.{no_pairs, pair, Statement, key_line, header, Document, begins_unspaced, opening_brackets}
use Rattle.toml_edit_model.specs.Syntax.{closing_brackets, brackets_text, segment_text, path_text, frame_text, comma_text, value_text}
use Rattle.toml_edit_model.specs.Syntax.{elements_text, pairs_text, statement_text, mark_text, IsSpacedSegment, IsSpelledSegment, IsPath}
use Rattle.toml_edit_model.specs.Syntax.{IsFrame, IsClose, has_elements, has_pairs, IsValue, AreElements, ArePairs, IsStatement}
use Rattle.toml_edit_model.specs.Syntax.{AreStatements, IsCut}
use Rattle.toml_edit_model.specs.Lone.{IsLoneValue, IsLonePath}
use Rattle.toml_edit_model.proofs.Machines.{after, between, trivia_next, whole_leaves, is_between, may_end, final_leaves, line_next}
use Rattle.toml_edit_model.proofs.Machines.{line_end_leaves}
use Rattle.toml_edit_model.proofs.TokenTests.{is_key, key_passes, is_scalar, scalar_passes}

-- ---- parts

-- how a text is tested that begins with a part, by a test of what follows it
abbrev pub Part : Type 0
Part = (Text → Bool) → Text → Bool

-- a beginning that passes a test, behind what was read, and then the rest
abbrev pub split : (Text → Bool) → (Text → Bool) → Text → Text → Bool
split test rest read [] = elim (test read) [ true ↦ rest [] | false ↦ false ]
split test rest read (c ∷ t) =
    elim (elim (test read) as (λ _. Bool) [ true ↦ rest (c ∷ t) | false ↦ false ]) [
      | true ↦ true
      | false ↦
          split test rest (read ++ (c ∷ [])) t
    ]

abbrev pub beginning : (Text → Bool) → Part
beginning test rest t = split test rest [] t

abbrev pub byte : ℕ → Part
byte c rest [] = false
byte c rest (b ∷ t) = elim (b == c) [ true ↦ rest t | false ↦ false ]

-- the one part or the other
abbrev pub either : Part → Part → Part
either f g rest t = elim (f rest t) [ true ↦ true | false ↦ g rest t ]

-- the part passes with this text, where no more than so many bytes are left
abbrev pub Passes : ℕ → Part → Text → Type 0
Passes k f p = (rest : Text → Bool) (u : Text) → length (p ++ u) ≤ k → rest u ≡ true → f rest (p ++ u) ≡ true

falls_back : (b other : Bool) → other ≡ true → elim b as (λ _. Bool) [ true ↦ true | false ↦ other ] ≡ true
falls_back true other h = refl
falls_back false other h = h

split_passes : (test rest : Text → Bool) (read p u : Text) → test (read ++ p) ≡ true → rest u ≡ true → split test rest read (p ++ u) ≡ true
split_passes test rest read [] [] h r = rw (sym (ap test (append-nil read)) ∙ h, r) refl
split_passes test rest read [] (c ∷ u) h r = rw (sym (ap test (append-nil read)) ∙ h, r) refl
split_passes test rest read (c ∷ p) u h r =
    falls_back _ _ (split_passes test rest (read ++ (c ∷ [])) p u (ap test (append_assoc read (c ∷ []) p) ∙ h) r)

beginning_passes : (k : ℕ) (test : Text → Bool) (p : Text) → test p ≡ true → Passes k (beginning test) p
beginning_passes k test p h rest u few r = split_passes test rest [] p u h r

shorter : (p u : Text) (k : ℕ) → length (p ++ u) ≤ k → length u ≤ k
shorter p u k few = let e : length (p ++ u) ≡ length p + length u = length-append p u in omega arith

-- one part and then another
then : (k : ℕ) (f g : Part) (p q : Text) → Passes k f p → Passes k g q → Passes k (λ rest. f (g rest)) (p ++ q)
then k f g p q one other rest u few r =
    ap (f (g rest)) (append_assoc p q u)
    ∙ one (g rest) (q ++ u) (subst (λ t. length t ≤ k) (append_assoc p q u) few)
    (other rest u (shorter p (q ++ u) k (subst (λ t. length t ≤ k) (append_assoc p q u) few)) r)

-- the same part, with this text
passes_as : (k : ℕ) (f : Part) (p q : Text) → p ≡ q → Passes k f p → Passes k f q
passes_as k f p q e h = subst (Passes k f) e h

-- behind a byte fewer are left
byte_passes : (k : ℕ) (c : ℕ) (f : Part) (p : Text) → (c == c) ≡ true → ((j : ℕ) → suc j ≡ k → Passes j f p)
    → Passes k (λ rest. byte c (f rest)) (c ∷ p)
byte_passes zero c f p same h rest u few r = absurd (omega arith)
byte_passes (suc k) c f p same h rest u few r =
    let fewer : length (p ++ u) ≤ k = omega arith in
    rw (byte, same) (h k refl rest u fewer r)

one_byte : (k : ℕ) (c : ℕ) → (c == c) ≡ true → Passes k (byte c) (c ∷ [])
one_byte k c same rest u few r = rw (byte, same) r

first_passes : (k : ℕ) (f g : Part) (p : Text) → Passes k f p → Passes k (either f g) p
first_passes k f g p h rest u few r = rw (either, h rest u few r) refl

second_passes : (k : ℕ) (f g : Part) (p : Text) → Passes k g p → Passes k (either f g) p
second_passes k f g p h rest u few r = falls_back _ _ (h rest u few r)

-- ---- trivia and newlines

abbrev white : Part
white = beginning (λ t. list_all is_blank t)

abbrev whole : Part
whole = beginning (λ t. is_between (after trivia_next between t))

abbrev line_end : Part
line_end = beginning (λ t. may_end (after line_next between t))

abbrev is_newline : Text → Bool
is_newline t = same_text t (codes "\n") || same_text t (codes "\r\n")

abbrev newline : Part
newline = beginning is_newline

white_passes : (k : ℕ) (t : Text) → IsWhiteSpace t → Passes k white t
white_passes k t h = beginning_passes k _ t h

whole_passes : (k : ℕ) (t : Text) → IsWholeTrivia t → Passes k whole t
whole_passes k t h = beginning_passes k _ t (ap is_between (whole_leaves t h))

line_end_passes : (k : ℕ) (t : Text) → IsLineEnd t → Passes k line_end t
line_end_passes k t h = beginning_passes k _ t (line_end_leaves t h)

newline_passes : (k : ℕ) (t : Text) → IsNewline t → Passes k newline t
newline_passes k t (lf, e) = passes_as k newline (codes "\n") t (sym e) (beginning_passes k is_newline (codes "\n") refl)
newline_passes k t (crlf, e) = passes_as k newline (codes "\r\n") t (sym e) (beginning_passes k is_newline (codes "\r\n") refl)

-- ---- keys

abbrev segment : Part
segment rest = white (beginning is_key (white rest))

-- at most so many segments, with dots between them
abbrev path : ℕ → Part
path zero rest t = false
path (suc n) rest t = segment (either (λ r. r) (λ r. byte 0x2E (path n r)) rest) t

segment_passes : (k : ℕ) (s : Segment) → IsSpacedSegment s → IsSpelledSegment s → Passes k segment (segment_text s)
segment_passes k s (before, behind) spelled =
    then k white (λ r. beginning is_key (white r)) s.before (s.spelled ++ s.after) (white_passes k s.before before)
    (then k (beginning is_key) white s.spelled s.after (beginning_passes k is_key s.spelled (key_passes s.key s.spelled spelled))
    (white_passes k s.after behind))

nothing_passes : (k : ℕ) → Passes k (λ r. r) []
nothing_passes k rest u few r = r

path_passes : (p : List Segment) → AllByRecursion IsSpacedSegment p → AllByRecursion IsSpelledSegment p → (is_empty p ≡ false) → (n k : ℕ)
    → k < n
    → Passes k (path n) (path_text p)
path_passes [] spaced spelled some n k enough = absurd cc
path_passes (s ∷ []) (h, hs) (g, gs) some zero k enough = absurd (omega arith)
path_passes (s ∷ []) (h, hs) (g, gs) some (suc n) k enough =
    passes_as k (path (suc n)) (segment_text s ++ []) (segment_text s) (append-nil (segment_text s))
    (then k segment (either (λ r. r) (λ r. byte 0x2E (path n r))) (segment_text s) [] (segment_passes k s h g)
    (first_passes k (λ r. r) (λ r. byte 0x2E (path n r)) [] (nothing_passes k)))
path_passes (s ∷ r ∷ rest) (h, hs) (g, gs) some zero k enough = absurd (omega arith)
path_passes (s ∷ r ∷ rest) (h, hs) (g, gs) some (suc n) k enough =
    then k segment (either (λ q. q) (λ q. byte 0x2E (path n q))) (segment_text s) (0x2E ∷ path_text (r ∷ rest)) (segment_passes k s h g)
    (second_passes k (λ q. q) (λ q. byte 0x2E (path n q)) (0x2E ∷ path_text (r ∷ rest))
    (byte_passes k 0x2E (path n) (path_text (r ∷ rest)) refl (λ j e. path_passes (r ∷ rest) hs gs refl n j (omega arith))))

-- ---- values

-- a value; what stands behind the opening bracket of an array; and of an inline table
pub data Inner : Type 0 where
  a_value : Inner
  behind_bracket : Inner
  behind_brace : Inner

-- `key = value`, and what may follow
abbrev frame : Part → ℕ → Part → Part
frame follow n value rest = whole (path n (white (byte 0x3D (white (value (follow rest))))))

-- at the end of an element: the closing bracket, or a comma and more
abbrev close : ℕ → Part → Part
close c more = either (byte c) (λ r. byte 0x2C (more r))

abbrev inner : ℕ → Inner → Part
inner zero i rest t = false
inner (suc n) a_value rest t =
    either (beginning is_scalar) (either (λ r. byte 0x5B (inner n behind_bracket r)) (λ r. byte 0x7B (inner n behind_brace r))) rest t
inner (suc n) behind_bracket rest t =
    either (λ r. whole (byte 0x5D r)) (λ r. whole (inner n a_value (whole (close 0x5D (inner n behind_bracket) r)))) rest t
inner (suc n) behind_brace rest t =
    either (λ r. whole (byte 0x7D r)) (λ r. frame whole n (inner n a_value) (close 0x7D (inner n behind_brace) r)) rest t

some_segments : (p : List Segment) → begins_unspaced p ≡ true → is_empty p ≡ false
some_segments [] e = absurd cc
some_segments (s ∷ p) e = refl

frame_passes : (follow : Part) (MayFollow : Text → Type 0) → ((j : ℕ) (t : Text) → MayFollow t → Passes j follow t)
    → (f : Frame) → IsFrame MayFollow f → (v : Text) (n : ℕ) (value : Part) (k : ℕ) → k < n → Passes k value v
    → Passes k (frame follow n value) (frame_text f v)
frame_passes follow MayFollow follows f (spaced, is_path) v n value k enough h =
    then k whole (λ r. path n (white (byte 0x3D (white (value (follow r)))))) f.leading _ (whole_passes k f.leading spaced.leading)
    (then k (path n) (λ r. white (byte 0x3D (white (value (follow r))))) (path_text f.path) _
    (path_passes f.path spaced.segments is_path.spelled (some_segments f.path is_path.begins) n k enough)
    (then k white (λ r. byte 0x3D (white (value (follow r)))) f.before_equals _ (white_passes k f.before_equals spaced.before_equals)
    (then k (byte 0x3D) (λ r. white (value (follow r))) (codes "=") _ (one_byte k 0x3D refl)
    (then k white (λ r. value (follow r)) f.after_equals _ (white_passes k f.after_equals spaced.after_equals)
    (then k value follow v f.trailing h (follows k f.trailing spaced.trailing))))))

close_ends : (k : ℕ) (c : ℕ) (more : Part) → (c == c) ≡ true → Passes k (close c more) (c ∷ [])
close_ends k c more same = first_passes k (byte c) (λ r. byte 0x2C (more r)) (c ∷ []) (one_byte k c same)

close_goes_on : (k : ℕ) (c : ℕ) (more : Part) (t : Text) → ((j : ℕ) → suc j ≡ k → Passes j more t) → Passes k (close c more) (0x2C ∷ t)
close_goes_on k c more t h = second_passes k (byte c) (λ r. byte 0x2C (more r)) (0x2C ∷ t) (byte_passes k 0x2C more t refl h)

regroup : (p q r s t : Text) → (p ++ (q ++ r)) ++ (s ++ t) ≡ (p ++ (q ++ (r ++ s))) ++ t
regroup p q r s t =
    append_assoc p (q ++ r) (s ++ t) ∙ ap (λ x. p ++ x) (append_assoc q r (s ++ t))
    ∙ sym (append_assoc p (q ++ (r ++ s)) t ∙ ap (λ x. p ++ x) (append_assoc q (r ++ s) t ∙ ap (λ x. q ++ x) (append_assoc r s t)))

-- an element with what stands round it
abbrev one_element : ℕ → Part
one_element n rest = whole (inner n a_value (whole rest))

element_passes : (before behind v : Text) (n k : ℕ) → IsWholeTrivia before → IsWholeTrivia behind → Passes k (inner n a_value) v
    → Passes k (one_element n) (before ++ (v ++ behind))
element_passes before behind v n k hb ha h =
    then k whole (λ r. inner n a_value (whole r)) before (v ++ behind) (whole_passes k before hb)
    (then k (inner n a_value) whole v behind h (whole_passes k behind ha))

-- where no comma ends a list that has elements, nothing stands there
nothing_there : (c : ℕ) (t : Text) → (true ≡ false) ⊎ (t ≡ []) → c ∷ [] ≡ t ++ (c ∷ [])
nothing_there c t (inl e) = absurd cc
nothing_there c t (inr e) = sym (ap (λ x. x ++ (c ∷ [])) e)

mutual
  value_passes : (v : Value) → IsValue v → (n k : ℕ) → k + k < n → Passes k (inner n a_value) (value_text v)
  value_passes (scalar s t) h zero k enough = absurd (omega arith)
  value_passes (array es comma t) h zero k enough = absurd (omega arith)
  value_passes (inline_table ps comma t) h zero k enough = absurd (omega arith)
  value_passes (scalar s t) h (suc n) k enough =
      first_passes k (beginning is_scalar) (either (λ r. byte 0x5B (inner n behind_bracket r)) (λ r. byte 0x7B (inner n behind_brace r))) t
      (beginning_passes k is_scalar t (scalar_passes s t h))
  value_passes (array es comma t) (closes, h) (suc n) k enough =
      second_passes k (beginning is_scalar) (either (λ r. byte 0x5B (inner n behind_bracket r)) (λ r. byte 0x7B (inner n behind_brace r)))
      (value_text (array es comma t))
      (first_passes k (λ r. byte 0x5B (inner n behind_bracket r)) (λ r. byte 0x7B (inner n behind_brace r)) (value_text (array es comma t))
      (byte_passes k 0x5B (inner n behind_bracket) (elements_text es ++ (comma_text comma ++ (t ++ codes "]"))) refl
      (λ j e. elements_pass es comma t closes h n j (omega arith))))
  value_passes (inline_table ps comma t) (closes, h) (suc n) k enough =
      second_passes k (beginning is_scalar) (either (λ r. byte 0x5B (inner n behind_bracket r)) (λ r. byte 0x7B (inner n behind_brace r)))
      (value_text (inline_table ps comma t))
      (second_passes k (λ r. byte 0x5B (inner n behind_bracket r)) (λ r. byte 0x7B (inner n behind_brace r))
      (value_text (inline_table ps comma t))
      (byte_passes k 0x7B (inner n behind_brace) (pairs_text ps ++ (comma_text comma ++ (t ++ codes "}"))) refl
      (λ j e. pairs_pass ps comma t closes h n j (omega arith))))

  elements_pass : (es : Elements) (comma : Bool) (t : Text) → IsClose (has_elements es) comma t → AreElements es → (n k : ℕ)
      → suc (k + k) < n
      → Passes k (inner n behind_bracket) (elements_text es ++ (comma_text comma ++ (t ++ codes "]")))
  elements_pass no_elements true t (whole_t, e) h n k enough = absurd cc
  elements_pass no_elements false t closes h zero k enough = absurd (omega arith)
  elements_pass no_elements false t (whole_t, e) h (suc n) k enough =
      first_passes k (λ r. whole (byte 0x5D r)) (λ r. one_element n (close 0x5D (inner n behind_bracket) r)) (t ++ codes "]")
      (then k whole (byte 0x5D) t (codes "]") (whole_passes k t whole_t) (one_byte k 0x5D refl))
  elements_pass (element a v no_elements) true t closes h zero k enough = absurd (omega arith)
  elements_pass (element a v no_elements) false t closes h zero k enough = absurd (omega arith)
  elements_pass (element a v (element b w es)) comma t closes h zero k enough = absurd (omega arith)
  elements_pass (element a v no_elements) true t (whole_t, e) (hb, ha, hv, hs) (suc n) k enough =
      second_passes k (λ r. whole (byte 0x5D r)) (λ r. one_element n (close 0x5D (inner n behind_bracket) r)) ((a.before
      ++ (value_text v ++ a.after)) ++ (0x2C ∷ (t ++ codes "]")))
      (then k (one_element n) (close 0x5D (inner n behind_bracket)) (a.before ++ (value_text v ++ a.after)) (0x2C ∷ (t ++ codes "]"))
      (element_passes a.before a.after (value_text v) n k hb ha (value_passes v hv n k (omega arith)))
      (close_goes_on k 0x5D (inner n behind_bracket) (t ++ codes "]") (λ j e. elements_pass no_elements false t (
        whole_t,
        inl refl,
      ) tt n j (omega arith))))
  elements_pass (element a v no_elements) false t (whole_t, e) (hb, ha, hv, hs) (suc n) k enough =
      second_passes k (λ r. whole (byte 0x5D r)) (λ r. one_element n (close 0x5D (inner n behind_bracket) r)) ((a.before
      ++ (value_text v ++ a.after)) ++ (t ++ codes "]"))
      (then k (one_element n) (close 0x5D (inner n behind_bracket)) (a.before ++ (value_text v ++ a.after)) (t ++ codes "]")
      (element_passes a.before a.after (value_text v) n k hb ha (value_passes v hv n k (omega arith)))
      (passes_as k (close 0x5D (inner n behind_bracket)) (codes "]") (t
      ++ codes "]") (nothing_there 0x5D t e) (close_ends k 0x5D (inner n behind_bracket) refl)))
  elements_pass (element a v (element b w es)) comma t closes (hb, ha, hv, hs) (suc n) k enough =
      let tail : Text = comma_text comma ++ (t ++ codes "]") in
      let more : Text = elements_text (element b w es) in
      second_passes k (λ r. whole (byte 0x5D r)) (λ r. one_element n (close 0x5D (inner n behind_bracket) r))
      (elements_text (element a v (element b w es)) ++ tail)
      (passes_as k (λ r. one_element n (close 0x5D (inner n behind_bracket) r)) ((a.before ++ (value_text v ++ a.after))
      ++ (0x2C ∷ (more ++ tail)))
      (elements_text (element a v (element b w es)) ++ tail) (regroup a.before (value_text v) a.after (0x2C ∷ more) tail)
      (then k (one_element n) (close 0x5D (inner n behind_bracket)) (a.before ++ (value_text v ++ a.after)) (0x2C ∷ (more ++ tail))
      (element_passes a.before a.after (value_text v) n k hb ha (value_passes v hv n k (omega arith)))
      (close_goes_on k 0x5D (inner n behind_bracket) (more
      ++ tail) (λ j e. elements_pass (element b w es) comma t closes hs n j (omega arith)))))

  pairs_pass : (ps : Pairs) (comma : Bool) (t : Text) → IsClose (has_pairs ps) comma t → ArePairs ps → (n k : ℕ) → suc (k + k) < n
      → Passes k (inner n behind_brace) (pairs_text ps ++ (comma_text comma ++ (t ++ codes "}")))
  pairs_pass no_pairs true t (whole_t, e) h n k enough = absurd cc
  pairs_pass no_pairs false t closes h zero k enough = absurd (omega arith)
  pairs_pass no_pairs false t (whole_t, e) h (suc n) k enough =
      first_passes k (λ r. whole (byte 0x7D r)) (λ r. frame whole n (inner n a_value) (close 0x7D (inner n behind_brace) r)) (t
      ++ codes "}")
      (then k whole (byte 0x7D) t (codes "}") (whole_passes k t whole_t) (one_byte k 0x7D refl))
  pairs_pass (pair f v no_pairs) true t closes h zero k enough = absurd (omega arith)
  pairs_pass (pair f v no_pairs) false t closes h zero k enough = absurd (omega arith)
  pairs_pass (pair f v (pair g w ps)) comma t closes h zero k enough = absurd (omega arith)
  pairs_pass (pair f v no_pairs) true t (whole_t, e) (hf, hv, hs) (suc n) k enough =
      second_passes k (λ r. whole (byte 0x7D r)) (λ r. frame whole n (inner n a_value) (close 0x7D (inner n behind_brace) r))
      (frame_text f (value_text v) ++ (0x2C ∷ (t ++ codes "}")))
      (then k (frame whole n (inner n a_value)) (close 0x7D (inner n behind_brace)) (frame_text f (value_text v)) (0x2C ∷ (t ++ codes "}"))
      (frame_passes whole IsWholeTrivia whole_passes f hf (value_text v) n (inner n a_value) k (omega arith)
      (value_passes v hv n k (omega arith)))
      (close_goes_on k 0x7D (inner n behind_brace) (t ++ codes "}") (λ j e. pairs_pass no_pairs false t (
        whole_t,
        inl refl,
      ) tt n j (omega arith))))
  pairs_pass (pair f v no_pairs) false t (whole_t, e) (hf, hv, hs) (suc n) k enough =
      second_passes k (λ r. whole (byte 0x7D r)) (λ r. frame whole n (inner n a_value) (close 0x7D (inner n behind_brace) r))
      (frame_text f (value_text v) ++ (t ++ codes "}"))
      (then k (frame whole n (inner n a_value)) (close 0x7D (inner n behind_brace)) (frame_text f (value_text v)) (t ++ codes "}")
      (frame_passes whole IsWholeTrivia whole_passes f hf (value_text v) n (inner n a_value) k (omega arith)
      (value_passes v hv n k (omega arith)))
      (passes_as k (close 0x7D (inner n behind_brace)) (codes "}") (t
      ++ codes "}") (nothing_there 0x7D t e) (close_ends k 0x7D (inner n behind_brace) refl)))
  pairs_pass (pair f v (pair g w ps)) comma t closes (hf, hv, hs) (suc n) k enough =
      let tail : Text = comma_text comma ++ (t ++ codes "}") in
      let more : Text = pairs_text (pair g w ps) in
      second_passes k (λ r. whole (byte 0x7D r)) (λ r. frame whole n (inner n a_value) (close 0x7D (inner n behind_brace) r))
      (pairs_text (pair f v (pair g w ps)) ++ tail)
      (passes_as k (λ r. frame whole n (inner n a_value) (close 0x7D (inner n behind_brace) r)) (frame_text f (value_text v)
      ++ (0x2C ∷ (more ++ tail)))
      (pairs_text (pair f v (pair g w ps)) ++ tail) (sym (append_assoc (frame_text f (value_text v)) (0x2C ∷ more) tail))
      (then k (frame whole n (inner n a_value)) (close 0x7D (inner n behind_brace)) (frame_text f (value_text v)) (0x2C ∷ (more ++ tail))
      (frame_passes whole IsWholeTrivia whole_passes f hf (value_text v) n (inner n a_value) k (omega arith)
      (value_passes v hv n k (omega arith)))
      (close_goes_on k 0x7D (inner n behind_brace) (more ++ tail) (λ j e. pairs_pass (pair g w ps) comma t closes hs n j (omega arith)))))

-- ---- statements

-- a path in brackets, with white space inside them
abbrev in_brackets : ℕ → Part
in_brackets n =
    either (λ r. byte 0x5B (byte 0x5B (white (path n (white (byte 0x5D (byte 0x5D r)))))))
    (λ r. byte 0x5B (white (path n (white (byte 0x5D r)))))

inside_brackets : (opening : Text) (p : List Segment) (closing end : Text) (ends : Part) (n k : ℕ) → k < n
    → IsWhiteSpace opening → AllByRecursion IsSpacedSegment p → IsPath p → IsWhiteSpace closing → Passes k ends end
    → Passes k (λ r. white (path n (white (ends r)))) (opening ++ (path_text p ++ (closing ++ end)))
inside_brackets opening p closing end ends n k enough ho hs hp hc h =
    then k white (λ r. path n (white (ends r))) opening (path_text p ++ (closing ++ end)) (white_passes k opening ho)
    (then k (path n) (λ r. white (ends r)) (path_text p) (closing
    ++ end) (path_passes p hs hp.spelled (some_segments p hp.begins) n k enough)
    (then k white ends closing end (white_passes k closing hc) h))

brackets_pass : (is_array : Bool) (opening : Text) (p : List Segment) (closing : Text) (n k : ℕ) → k < n
    → IsWhiteSpace opening → AllByRecursion IsSpacedSegment p → IsPath p → IsWhiteSpace closing
    → Passes k (in_brackets n) (opening_brackets is_array ++ (opening ++ (path_text p ++ (closing ++ closing_brackets is_array))))
brackets_pass true opening p closing n k enough ho hs hp hc =
    first_passes k (λ r. byte 0x5B (byte 0x5B (white (path n (white (byte 0x5D (byte 0x5D r)))))))
    (λ r. byte 0x5B (white (path n (white (byte 0x5D r)))))
    (0x5B ∷ 0x5B ∷ (opening ++ (path_text p ++ (closing ++ codes "]]"))))
    (byte_passes k 0x5B (λ r. byte 0x5B (white (path n (white (byte 0x5D (byte 0x5D r)))))) (0x5B
    ∷ (opening ++ (path_text p ++ (closing ++ codes "]]")))) refl
    (λ j e. byte_passes j 0x5B (λ r. white (path n (white (byte 0x5D (byte 0x5D r))))) (opening
    ++ (path_text p ++ (closing ++ codes "]]"))) refl
    (λ i f. inside_brackets opening p closing (codes "]]") (λ r. byte 0x5D (byte 0x5D r)) n i (omega arith) ho hs hp hc
    (byte_passes i 0x5D (byte 0x5D) (codes "]") refl (λ g e2. one_byte g 0x5D refl)))))
brackets_pass false opening p closing n k enough ho hs hp hc =
    second_passes k (λ r. byte 0x5B (byte 0x5B (white (path n (white (byte 0x5D (byte 0x5D r)))))))
    (λ r. byte 0x5B (white (path n (white (byte 0x5D r)))))
    (0x5B ∷ (opening ++ (path_text p ++ (closing ++ codes "]"))))
    (byte_passes k 0x5B (λ r. white (path n (white (byte 0x5D r)))) (opening ++ (path_text p ++ (closing ++ codes "]"))) refl
    (λ j e. inside_brackets opening p closing (codes "]") (byte 0x5D) n j (omega arith) ho hs hp hc (one_byte j 0x5D refl)))

-- a statement, and how it ends
abbrev statement : Part → ℕ → Part
statement ends n =
    either (λ r. frame line_end n (inner n a_value) (ends r)) (λ r. whole (in_brackets n (line_end (ends r))))

statement_passes : (MayEnd : Text → Type 0) (ends : Part) → ((j : ℕ) (t : Text) → MayEnd t → Passes j ends t)
    → (s : Statement) → IsStatement MayEnd s → (n k : ℕ) → k + k < n → Passes k (statement ends n) (statement_text s)
statement_passes MayEnd ends ended (key_line f v end) (hf, hv, he) n k enough =
    first_passes k (λ r. frame line_end n (inner n a_value) (ends r)) (λ r. whole (in_brackets n (line_end (ends r))))
    (frame_text f (value_text v) ++ end)
    (then k (frame line_end n (inner n a_value)) ends (frame_text f (value_text v)) end
    (frame_passes line_end IsLineEnd line_end_passes f hf (value_text v) n (inner n a_value) k (omega arith) (value_passes v hv n k enough))
    (ended k end he))
statement_passes MayEnd ends ended (header h end) ((spaced, is_path), he) n k enough =
    second_passes k (λ r. frame line_end n (inner n a_value) (ends r)) (λ r. whole (in_brackets n (line_end (ends r)))) (h.leading
    ++ (brackets_text h ++ (h.trailing ++ end)))
    (then k whole (λ r. in_brackets n (line_end (ends r))) h.leading (brackets_text h
    ++ (h.trailing ++ end)) (whole_passes k h.leading spaced.leading)
    (then k (in_brackets n) (λ r. line_end (ends r)) (brackets_text h) (h.trailing ++ end)
    (brackets_pass h.is_array h.opening h.path h.closing n k (omega arith) spaced.opening spaced.segments is_path spaced.closing)
    (then k line_end ends h.trailing end (line_end_passes k h.trailing spaced.trailing) (ended k end he))))

-- a statement that ends in a newline is not empty
some_newline : (t : Text) → IsNewline t → 1 ≤ length t
some_newline t (lf, e) = let n : length t ≡ 1 = ap length e in omega arith
some_newline t (crlf, e) = let n : length t ≡ 2 = ap length e in omega arith

at_most : (p q : Text) → length q ≤ length (p ++ q)
at_most p q = let e : length (p ++ q) ≡ length p + length q = length-append p q in omega arith

some_statement : (s : Statement) → IsStatement IsNewline s → 1 ≤ length (statement_text s)
some_statement (key_line f v end) (hf, hv, he) =
    let one : 1 ≤ length end = some_newline end he in
    let all : length end ≤ length (frame_text f (value_text v) ++ end) = at_most (frame_text f (value_text v)) end in
    omega arith
some_statement (header h end) (hh, he) =
    let one : 1 ≤ length end = some_newline end he in
    let first : length end ≤ length (h.trailing ++ end) = at_most h.trailing end in
    let second : length (h.trailing ++ end) ≤ length (brackets_text h ++ (h.trailing ++ end)) =
    at_most (brackets_text h) (h.trailing ++ end) in
    let third : length (brackets_text h ++ (h.trailing ++ end)) ≤ length (h.leading ++ (brackets_text h ++ (h.trailing ++ end))) =
    at_most h.leading (brackets_text h ++ (h.trailing ++ end)) in
    omega arith

-- ---- documents

-- nothing
abbrev nothing : Part
nothing rest t = rest t

nothing_is : (j : ℕ) (t : Text) → t ≡ [] → Passes j nothing t
nothing_is j t e = passes_as j nothing [] t (sym e) (nothing_passes j)

-- final trivia; or a statement and no more; or a statement and a newline and more
abbrev body : ℕ → Text → Bool
body zero t = false
body (suc n) t =
    elim (may_end (after trivia_next between t)) [
      | true ↦ true
      | false ↦ elim (statement nothing n is_empty t) [ true ↦ true | false ↦ statement newline n (body n) t ]
    ]

ends_body : (n : ℕ) (t : Text) → may_end (after trivia_next between t) ≡ true → body (suc n) t ≡ true
ends_body n t h = rw (body, h) refl

second_of_three : (a b c : Bool) → b ≡ true → elim a
    as (λ _. Bool) [ true ↦ true | false ↦ elim b as (λ _. Bool) [ true ↦ true | false ↦ c ] ] ≡ true
second_of_three true b c h = refl
second_of_three false b c h = rw h refl

third_of_three : (a b c : Bool) → c ≡ true → elim a
    as (λ _. Bool) [ true ↦ true | false ↦ elim b as (λ _. Bool) [ true ↦ true | false ↦ c ] ] ≡ true
third_of_three true b c h = refl
third_of_three false b c h = falls_back b c h

is_last : (n : ℕ) (t : Text) → statement nothing n is_empty t ≡ true → body (suc n) t ≡ true
is_last n t h = second_of_three (may_end (after trivia_next between t)) (statement nothing n is_empty t) (statement newline n (body n) t) h

goes_on : (n : ℕ) (t : Text) → statement newline n (body n) t ≡ true → body (suc n) t ≡ true
goes_on n t h = third_of_three (may_end (after trivia_next between t)) (statement nothing n is_empty t) (statement newline n (body n) t) h

-- the last statement, with and without a newline
abbrev WithoutNewline : Text → Type 0
WithoutNewline t = t ≡ []

last_statement : (s : Statement) (final : Text) → IsStatement (λ end. IsNewline end ⊎ ((end ≡ []) × (final ≡ []))) s
    → IsStatement IsNewline s ⊎ (IsStatement WithoutNewline s × (final ≡ []))
last_statement (key_line f v end) final (hf, hv, inl e) = inl (hf, hv, e)
last_statement (key_line f v end) final (hf, hv, inr (e, g)) = inr ((hf, hv, e), g)
last_statement (header h end) final (hh, inl e) = inl (hh, e)
last_statement (header h end) final (hh, inr (e, g)) = inr ((hh, e), g)

-- a statement with its newline, before a text that passes
-- twice the length of a text, and one
abbrev room : Text → ℕ
room t = suc (length t + length t)

-- a statement with its newline, before a text that passes
next_statement : (s : Statement) → IsStatement IsNewline s → (more : Text) (n : ℕ) → room (statement_text s ++ more) < suc n
    → body n more ≡ true → body (suc n) (statement_text s ++ more) ≡ true
next_statement s h more n enough passes =
    goes_on n (statement_text s ++ more)
    (statement_passes IsNewline newline newline_passes s h n (length (statement_text s ++ more)) (omega arith) (body n) more (omega arith)
    passes)

less_room : (s : Statement) → IsStatement IsNewline s → (more : Text) (n : ℕ) → room (statement_text s ++ more) < suc n → room more < n
less_room s h more n enough =
    let some : 1 ≤ length (statement_text s) = some_statement s h in
    let e : length (statement_text s ++ more) ≡ length (statement_text s) + length more = length-append (statement_text s) more in
    omega arith

final_passes : (final : Text) → IsFinalTrivia final → (n : ℕ) → room final < n → body n final ≡ true
final_passes final h zero enough = absurd (omega arith)
final_passes final h (suc n) enough = ends_body n final (final_leaves final h)

-- a statement with its newline, where the rest passes with less room
before_more : (s : Statement) → IsStatement IsNewline s → (more final : Text) (n : ℕ) → room ((statement_text s ++ more) ++ final) < suc n
    → (room (more ++ final) < n → body n (more ++ final) ≡ true) → body (suc n) ((statement_text s ++ more) ++ final) ≡ true
before_more s h more final n enough passes =
    let e : (statement_text s ++ more) ++ final ≡ statement_text s ++ (more ++ final) = append_assoc (statement_text s) more final in
    let enough_there : room (statement_text s ++ (more ++ final)) < suc n = subst (λ t. room t < suc n) e enough in
    subst (λ t. body (suc n) t ≡ true) (sym e)
    (next_statement s h (more ++ final) n enough_there (passes (less_room s h (more ++ final) n enough_there)))

-- the last statement, without a newline
at_end : (s : Statement) → IsStatement WithoutNewline s → (final : Text) → final ≡ [] → (n : ℕ)
    → room ((statement_text s ++ []) ++ final) < suc n
    → body (suc n) ((statement_text s ++ []) ++ final) ≡ true
at_end s h final none n enough =
    let e : (statement_text s ++ []) ++ final ≡ statement_text s ++ [] =
    ap (λ t. (statement_text s ++ []) ++ t) none ∙ append-nil (statement_text s ++ []) in
    let enough_there : room (statement_text s ++ []) < suc n = subst (λ t. room t < suc n) e enough in
    subst (λ t. body (suc n) t ≡ true) (sym e)
    (is_last n (statement_text s ++ [])
    (statement_passes WithoutNewline nothing nothing_is s h n (length (statement_text s ++ [])) (omega arith) is_empty [] (omega arith)
    refl))

body_passes : (ss : List Statement) (final : Text) → AreStatements final ss → IsFinalTrivia final → (n : ℕ)
    → room (joined (map statement_text ss) ++ final) < n → body n (joined (map statement_text ss) ++ final) ≡ true
body_passes [] final h hf n enough = final_passes final hf n enough
body_passes (s ∷ []) final h hf zero enough = absurd (omega arith)
body_passes (s ∷ []) final h hf (suc n) enough =
    elim (last_statement s final h) [
      | inl g ↦ before_more s g [] final n enough (λ less. final_passes final hf n less)
      | inr g ↦ at_end s g.0 final g.1 n enough
    ]
body_passes (s ∷ r ∷ rest) final h hf zero enough = absurd (omega arith)
body_passes (s ∷ r ∷ rest) final (h, hs) hf (suc n) enough =
    before_more s h (joined (map statement_text (r ∷ rest))) final n enough (λ less. body_passes (r ∷ rest) final hs hf n less)

-- a text, perhaps behind U+FEFF
abbrev pub may_be_cut : Text → Bool
may_be_cut t =
    elim (body (suc (room t)) t) [ true ↦ true | false ↦ byte 0xEF (byte 0xBB (byte 0xBF (body (suc (room t))))) t ]

document_passes : (has_mark : Bool) (t : Text) → ((n : ℕ) → room t < n → body n t ≡ true) → may_be_cut (mark_text has_mark ++ t) ≡ true
document_passes false t h = rw (h (suc (room t)) (omega arith)) refl
document_passes true t h =
    falls_back (body (suc (room (mark_text true ++ t))) (mark_text true ++ t)) (body (suc (room (mark_text true ++ t))) t)
    (h (suc (room (mark_text true ++ t))) (omega arith))

-- the text has no cut
abbrev pub HasNoCut : Text → Type 0
HasNoCut t = (d : Document) → IsCut d t → ⊥

pub no_cut : (t : Text) → may_be_cut t ≡ false → HasNoCut t
no_cut t e d ((statements, final), is) =
    false≢true (sym e ∙ ap may_be_cut (sym is)
    ∙ document_passes d.has_mark (joined (map statement_text d.statements) ++ d.final) (body_passes d.statements d.final statements final))

-- ---- one value, or one path, alone in its text

at_most_all : (p q : Text) → p ++ [] ≡ q → length (p ++ []) ≤ length q
at_most_all p q e = let n : length (p ++ []) ≡ length q = ap length e in omega arith

abbrev pub may_be_value : Text → Bool
may_be_value t = white (λ r. inner (suc (room t)) a_value (white is_empty) r) t

-- the text is no value with white space round it
abbrev pub HasNoValue : Text → Type 0
HasNoValue t = (v : Value) → IsLoneValue t v → ⊥

value_alone : (before behind : Text) (v : Value) → IsWhiteSpace before → IsWhiteSpace behind → IsValue v → (t : Text) → t ≡ before
    ++ (value_text v ++ behind)
    → may_be_value t ≡ true
value_alone before behind v hb ha hv t e =
    let whole : Text = before ++ (value_text v ++ behind) in
    let enough : length t + length t < suc (room t) = omega arith in
    subst (λ u. white (λ r. inner (suc (room t)) a_value (white is_empty) r) u ≡ true) (append-nil whole ∙ sym e)
    (then (length t) white (λ r. inner (suc (room t)) a_value (white r)) before (value_text v ++ behind) (white_passes (length t) before hb)
    (then (length t) (inner (suc (room t)) a_value) white (value_text v) behind (value_passes v hv (suc (room t)) (length t) enough)
    (white_passes (length t) behind ha))
    is_empty [] (at_most_all whole t (append-nil whole ∙ sym e)) refl)

pub no_value : (t : Text) → may_be_value t ≡ false → HasNoValue t
no_value t e v h = false≢true (sym e ∙ value_alone h.before h.after v h.white_before h.white_after h.value t h.parts)

abbrev pub may_be_path : Text → Bool
may_be_path t = white (λ r. path (suc (length t)) (white is_empty) r) t

-- the text is no path with white space round it
abbrev pub HasNoPath : Text → Type 0
HasNoPath t = (before : Text) (p : List Segment) (behind : Text) → IsLonePath t before p behind → ⊥

path_alone : (before behind : Text) (p : List Segment) → IsWhiteSpace before → IsWhiteSpace behind → AllByRecursion IsSpacedSegment p
    → IsPath p
    → (t : Text) → t ≡ before ++ (path_text p ++ behind) → may_be_path t ≡ true
path_alone before behind p hb ha hs hp t e =
    let whole : Text = before ++ (path_text p ++ behind) in
    let enough : length t < suc (length t) = omega arith in
    subst (λ u. white (λ r. path (suc (length t)) (white is_empty) r) u ≡ true) (append-nil whole ∙ sym e)
    (then (length t) white (λ r. path (suc (length t)) (white r)) before (path_text p ++ behind) (white_passes (length t) before hb)
    (then (length t) (path (suc (length t))) white (path_text p) behind
    (path_passes p hs hp.spelled (some_segments p hp.begins) (suc (length t)) (length t) enough) (white_passes (length t) behind ha))
    is_empty [] (at_most_all whole t (append-nil whole ∙ sym e)) refl)

pub no_path : (t : Text) → may_be_path t ≡ false → HasNoPath t
no_path t e before p behind h = false≢true (sym e ∙ path_alone before behind p h.white_before h.white_after h.spaced h.path t h.parts)
