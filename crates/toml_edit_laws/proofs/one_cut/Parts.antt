-- Runs, trivia, keys, scalars and dotted keys are told apart from what follows them: equal texts have equal parts.
use Rattle.std.proofs.Common.{◌≡◌, ℕ, Bool, true, false, cond, ◌==◌, ◌||◌, List, [], ◌∷◌, ◌++◌, refl, sym, ap, ◌∙◌, inl, inr, arith}
use Rattle.std.proofs.Common.{append_assoc}
use Rattle.std.specs.List.{list_all, flat_map, AllByRecursion}
use Rattle.std.proofs.lemmas.Bool.{and_parts, false≢true}
use Rattle.std.proofs.lemmas.Bool.Decides.{nat_tests}
use Rattle.std.proofs.lemmas.List.{append_cancel_right}
use Rattle.std.proofs.lemmas.Option.{same_Some}
use Rattle.toml_edit_model.specs.Text.{Text, is_empty}
use Rattle.toml_edit_model.specs.Trivia.{Each, is_blank, is_visible, Newline, lf, crlf, newline_text, comment, Piece, blank, break, remark}
use Rattle.toml_edit_model.specs.Trivia.{piece_text, IsPiece, IsWhiteSpace, IsWholeTrivia, IsFinalTrivia}
use Rattle.toml_edit_model.specs.Scalars.{Scalar}
use Rattle.toml_edit_model.specs.Spelling.{Spells, SpellsKey}
use Rattle.toml_edit_model.specs.Syntax.{Segment, path_text, IsSpacedSegment, IsSpelledSegment, ends_unspaced, IsPath}
use Rattle.toml_edit_laws.specs.reading.Runs.{first, split_while}
use Rattle.toml_edit_laws.specs.reading.Tokens.{ends_key, key_at}
use Rattle.toml_edit_laws.specs.reading.ScalarReading.{ends_scalar, scalar_at}
use Rattle.toml_edit_laws.proofs.reading.Steps.{same_parts}
use Rattle.toml_edit_laws.proofs.reading.RunLaws.{split_while-run}
use Rattle.toml_edit_laws.proofs.reading.Begins.{is_opening, Begins, key_begins, begins_not}
use Rattle.toml_edit_laws.proofs.reading.TokenLaws.{key_again, scalar_again}

-- ---- tokens

-- equal texts with equal rests have equal fronts
pub fronts : (a b r q : Text) → r ≡ q → a ++ r ≡ b ++ q → a ≡ b
fronts a b r q same e = append_cancel_right a b q (ap (λ (x : Text). a ++ x) (sym same) ∙ e)

-- a run of bytes that pass, before one that does not
pub one_run : (p : ℕ → Bool) (a b r q : Text) → Each p a → Each p b → p (first r) ≡ false → p (first q) ≡ false → a ++ r ≡ b ++ q → (a ≡ b)
    × (r ≡ q)
one_run p a b r q is also stop halt e =
    same_parts a b r q (sym (split_while-run p a r is stop) ∙ ap (split_while p) e ∙ split_while-run p b q also halt)

pub one_key : (k l s t r q : Text) → SpellsKey k s → SpellsKey l t → ends_key r ≡ true → ends_key q ≡ true → s ++ r ≡ t ++ q → (k ≡ l)
    × (s ≡ t) × (r ≡ q)
one_key k l s t r q is also stop halt e =
    let (key, rest) = same_parts k l r q (same_Some (k, r) (l, q) (sym (key_again k s r is stop) ∙ ap key_at e
    ∙ key_again l t q also halt)) in
    (key, fronts s t r q rest e, rest)

pub one_scalar : (a b : Scalar) (s t r q : Text) → Spells a s → Spells b t → ends_scalar r ≡ true → ends_scalar q ≡ true → s ++ r ≡ t ++ q
    → (a ≡ b) × (s ≡ t) × (r ≡ q)
one_scalar a b s t r q is also stop halt e =
    let (value, rest) = same_parts a b r q (same_Some (a, r) (b, q) (sym (scalar_again a s r is stop) ∙ ap scalar_at e
    ∙ scalar_again b t q also halt)) in
    (value, fronts s t r q rest e, rest)

-- ---- trivia

-- the text behind trivia, where it begins outside a comment or inside one
abbrev pub past : Bool → Text → Text
past inside [] = []
past false (c ∷ cs) = cond (is_blank c || (c == 10 || c == 13)) (past false cs) (cond (c == 35) (past true cs) (c ∷ cs))
past true (c ∷ cs) = cond (c == 10) (past false cs) (past true cs)

-- the text begins with no trivia
abbrev pub Stops : Text → Type 0
Stops t = past false t ≡ t

past_body : (body : Text) (n : Newline) (rest : Text) → Each is_visible body → past true (body ++ (newline_text n ++ rest))
    ≡ past false rest
past_body [] lf rest each = refl
past_body [] crlf rest each = refl
past_body (c ∷ body) n rest each =
    let (here, more) = and_parts (is_visible c) (list_all is_visible body) each in
    let goes : (c == 10) ≡ false = grind (arith, nat_tests) in
    rw goes (past_body body n rest more)

past_visible : (body : Text) → Each is_visible body → past true body ≡ []
past_visible [] each = refl
past_visible (c ∷ body) each =
    let (here, more) = and_parts (is_visible c) (list_all is_visible body) each in
    let goes : (c == 10) ≡ false = grind (arith, nat_tests) in
    rw goes (past_visible body more)

regroup_remark : (a b c d : Text) → ((a ++ b) ++ c) ++ d ≡ a ++ (b ++ (c ++ d))
regroup_remark a b c d = simp append_assoc

past_pieces : (ps : List Piece) (rest : Text) → AllByRecursion IsPiece ps → past false (flat_map piece_text ps ++ rest) ≡ past false rest
past_pieces [] rest each = refl
past_pieces (blank c ∷ ps) rest each = rw each.0 (past_pieces ps rest each.1)
past_pieces (break lf ∷ ps) rest each = past_pieces ps rest each.1
past_pieces (break crlf ∷ ps) rest each = past_pieces ps rest each.1
past_pieces (remark body n ∷ ps) rest each =
    ap (past false) (regroup_remark (comment body) (newline_text n) (flat_map piece_text ps) rest)
    ∙ past_body body n (flat_map piece_text ps ++ rest) each.0
    ∙ past_pieces ps rest each.1

pub past_trivia : (w rest : Text) → IsWholeTrivia w → past false (w ++ rest) ≡ past false rest
past_trivia w rest (ps, each, is) = ap (λ (x : Text). past false (x ++ rest)) is ∙ past_pieces ps rest each

-- nothing stands behind final trivia
pub past_final : (t : Text) → IsFinalTrivia t → past false t ≡ []
past_final t (w, none, whole, inl empty, is) = ap (past false) (is ∙ ap (λ (x : Text). w ++ x) empty) ∙ past_trivia w [] whole
past_final t (w, last, whole, inr (body, visible, shown), is) =
    ap (past false) (is ∙ ap (λ (x : Text). w ++ x) shown) ∙ past_trivia w (comment body) whole ∙ past_visible body visible

pub one_trivia : (w u r q : Text) → IsWholeTrivia w → IsWholeTrivia u → Stops r → Stops q → w ++ r ≡ u ++ q → (w ≡ u) × (r ≡ q)
one_trivia w u r q is also stop halt e =
    let rest : r ≡ q = sym (past_trivia w r is ∙ stop) ∙ ap (past false) e ∙ past_trivia u q also ∙ halt in
    (fronts w u r q rest e, rest)

-- what ends a scalar may have trivia before it
pub ends_pieces : (ps : List Piece) (rest : Text) → AllByRecursion IsPiece ps → ends_scalar rest ≡ true
    → ends_scalar (flat_map piece_text ps ++ rest) ≡ true
ends_pieces [] rest each h = h
ends_pieces (blank c ∷ ps) rest (white, each) h = rw white (ends_pieces ps rest each h)
ends_pieces (break lf ∷ ps) rest each h = refl
ends_pieces (break crlf ∷ ps) rest each h = refl
ends_pieces (remark body n ∷ ps) rest each h = refl

pub ends_trivia : (w rest : Text) → IsWholeTrivia w → ends_scalar rest ≡ true → ends_scalar (w ++ rest) ≡ true
ends_trivia w rest (ps, each, is) h = ap (λ (x : Text). ends_scalar (x ++ rest)) is ∙ ends_pieces ps rest each h

-- ---- with what a key or a value begins

abbrev pub opens : ℕ → Bool
opens c = is_opening c || (c == 91 || c == 123)

abbrev pub Opens : Text → Type 0
Opens t = (c : ℕ) × (cs : Text) × (t ≡ c ∷ cs) × (opens c ≡ true)

pub opens_from : (t : Text) → Begins t → Opens t
opens_from t (c, cs, e, opening) = (c, cs, e, rw opening refl)

pub opens_more : (t rest : Text) → Opens t → Opens (t ++ rest)
opens_more t rest (c, cs, e, opening) = (c, cs ++ rest, ap (λ (x : Text). x ++ rest) e, opening)

-- a byte that fails where neither can begin
pub opens_not : (p : ℕ → Bool) (t : Text) → ((c : ℕ) → opens c ≡ true → p c ≡ false) → Opens t → p (first t) ≡ false
opens_not p t apart (c, cs, e, opening) = ap (λ (x : Text). p (first x)) e ∙ apart c opening

pub opens_stops : (t : Text) → Opens t → Stops t
opens_stops t (c, cs, e, opening) =
    let no_space : (is_blank c || (c == 10 || c == 13)) ≡ false = grind (arith, nat_tests) in
    let no_comment : (c == 35) ≡ false = grind (arith, nat_tests) in
    rw (e, no_space, no_comment) refl

pub opens_unblank : (t : Text) → Opens t → is_blank (first t) ≡ false
opens_unblank t = opens_not is_blank t (λ c h. grind (arith, nat_tests))

pub opens_apart : (c : ℕ) (cs t : Text) → opens c ≡ false → Opens t → c ∷ cs ≡ t → ⊥
opens_apart c cs t none (d, ds, e, opening) same =
    let all : c ∷ cs ≡ d ∷ ds = same ∙ e in
    let is : c ≡ d = cc in
    false≢true (sym none ∙ ap opens is ∙ opening)

-- ---- dotted keys

-- what stands at the front of blanks and then of this
pub blank_first : (p : ℕ → Bool) (b rest : Text) → ((c : ℕ) → is_blank c ≡ true → p c ≡ true) → IsWhiteSpace b → p (first rest) ≡ true
    → p (first (b ++ rest)) ≡ true
blank_first p [] rest apart each h = h
blank_first p (c ∷ cs) rest apart each h = apart c (and_parts (is_blank c) (list_all is_blank cs) each).0

pub empty_nil : (t : Text) → is_empty t ≡ true → t ≡ []
empty_nil [] e = refl
empty_nil (c ∷ cs) e = absurd (false≢true e)

-- what ends a dotted key: no byte of a bare key, and no dot behind white space
pub record EndsPath (rest : Text) : Type 0 where
  pub stops : ends_key rest ≡ true
  pub undotted : (first (split_while is_blank rest).1 == 46) ≡ false

pub ends_path : (b rest : Text) (c : ℕ) → IsWhiteSpace b → ends_key (c ∷ []) ≡ true → is_blank c ≡ false → (c == 46) ≡ false
    → EndsPath (b ++ (c ∷ rest))
ends_path b rest c each key stop dot =
    record {
      stops = blank_first (λ c. ends_key (c ∷ [])) b (c ∷ rest) (λ c h. grind (arith, nat_tests)) each key;
      undotted = ap (λ (x : Text × Text). first x.1 == 46) (split_while-run is_blank b (c ∷ rest) each stop) ∙ dot;
    }

-- a dotted key behind what stands before its first segment, and then this
abbrev pub tail_text : Segment → List Segment → Text → Text
tail_text s [] rest = s.spelled ++ rest
tail_text s (r ∷ p) rest = s.spelled ++ (s.after ++ (46 ∷ (r.before ++ tail_text r p rest)))

pub regroup : (a b c d rest : Text) → a ++ (b ++ (c ++ (46 ∷ (d ++ rest)))) ≡ ((a ++ (b ++ c)) ++ (46 ∷ d)) ++ rest
regroup a b c d rest = simp append_assoc

pub regroup_last : (a b rest : Text) → (a ++ (b ++ [])) ++ rest ≡ a ++ (b ++ rest)
regroup_last a b rest = simp append_assoc

pub path_tail : (s : Segment) (p : List Segment) (rest : Text) → ends_unspaced (s ∷ p) ≡ true → path_text (s ∷ p) ++ rest ≡ s.before
    ++ tail_text s p rest
path_tail s [] rest ends = ap (λ (x : Text). (s.before ++ (s.spelled ++ x)) ++ rest) (empty_nil s.after ends)
    ∙ regroup_last s.before s.spelled rest
path_tail s (r ∷ p) rest ends =
    sym (regroup s.before s.spelled s.after (path_text (r ∷ p)) rest)
    ∙ ap (λ (x : Text). s.before ++ (s.spelled ++ (s.after ++ (46 ∷ x)))) (path_tail r p rest ends)

tail_opens : (s : Segment) (p : List Segment) (rest : Text) → SpellsKey s.key s.spelled → Opens (tail_text s p rest)
tail_opens s [] rest is = opens_more s.spelled rest (opens_from s.spelled (key_begins s.key s.spelled is))
tail_opens s (r ∷ p) rest is =
    opens_more s.spelled (s.after ++ (46 ∷ (r.before ++ tail_text r p rest))) (opens_from s.spelled (key_begins s.key s.spelled is))

-- no dot stands behind a key that ends
undotted : (rest after more : Text) → EndsPath rest → IsWhiteSpace after → rest ≡ after ++ (46 ∷ more) → ⊥
undotted rest after more ends white e =
    false≢true (sym ends.undotted ∙ ap (λ (x : Text). first (split_while is_blank x).1 == 46) e
    ∙ ap (λ (x : Text × Text). first x.1 == 46) (split_while-run is_blank after (46 ∷ more) white refl))

dot_ends : (after more : Text) → IsWhiteSpace after → ends_key (after ++ (46 ∷ more)) ≡ true
dot_ends after more white = blank_first (λ c. ends_key (c ∷ [])) after (46 ∷ more) (λ c h. grind (arith, nat_tests)) white refl

same_segment : (s t : Segment) → s.before ≡ t.before → s.key ≡ t.key → s.spelled ≡ t.spelled → s.after ≡ t.after → s ≡ t
same_segment s t before key spelled after =
    ap (λ (x : Text). record { before = x; key = s.key; spelled = s.spelled; after = s.after }) before
    ∙ ap (λ (x : Text). record { before = t.before; key = x; spelled = s.spelled; after = s.after }) key
    ∙ ap (λ (x : Text). record { before = t.before; key = t.key; spelled = x; after = s.after }) spelled
    ∙ ap (λ (x : Text). record { before = t.before; key = t.key; spelled = t.spelled; after = x }) after

-- what is known of the segments of a key
record AreSegments (s : Segment) (p : List Segment) : Type 0 where
  ends : ends_unspaced (s ∷ p) ≡ true
  spelled : AllByRecursion IsSpelledSegment (s ∷ p)
  spaced : AllByRecursion IsSpacedSegment (s ∷ p)

later : (s r : Segment) (p : List Segment) → AreSegments s (r ∷ p) → AreSegments r p
later s r p are = record { ends = are.ends; spelled = are.spelled.1; spaced = are.spaced.1 }

one_segments : (p o : List Segment) (s t : Segment) (r q : Text) → AreSegments s p → AreSegments t o → EndsPath r → EndsPath q → s.before
    ≡ t.before
    → tail_text s p r ≡ tail_text t o q → (◌≡◌ {A = List Segment} (s ∷ p) (t ∷ o)) × (r ≡ q)
one_segments [] [] s t r q are also stop halt before e =
    let (key, spelled, rest) = one_key s.key t.key s.spelled t.spelled r q are.spelled.0 also.spelled.0 stop.stops halt.stops e in (
      ap (λ (x : Segment). x ∷ []) (same_segment s t before key spelled (empty_nil s.after are.ends ∙ sym (empty_nil t.after also.ends))),
      rest,
    )
one_segments [] (u ∷ o) s t r q are also stop halt before e =
    let more = u.before ++ tail_text u o q in
    let (key, spelled, rest) =
    one_key s.key t.key s.spelled t.spelled r (t.after
    ++ (46 ∷ more)) are.spelled.0 also.spelled.0 stop.stops (dot_ends t.after more also.spaced.0.1) e in
    absurd (undotted r t.after more stop also.spaced.0.1 rest)
one_segments (v ∷ p) [] s t r q are also stop halt before e =
    let more = v.before ++ tail_text v p r in
    let (key, spelled, rest) =
    one_key s.key t.key s.spelled t.spelled (s.after ++ (46 ∷ more)) q are.spelled.0 also.spelled.0
    (dot_ends s.after more are.spaced.0.1) halt.stops e in
    absurd (undotted q s.after more halt are.spaced.0.1 (sym rest))
one_segments (v ∷ p) (u ∷ o) s t r q are also stop halt before e =
    let next = tail_text v p r in
    let also_next = tail_text u o q in
    let (key, spelled, rest) =
    one_key s.key t.key s.spelled t.spelled (s.after ++ (46 ∷ (v.before ++ next))) (t.after ++ (46 ∷ (u.before ++ also_next)))
    are.spelled.0 also.spelled.0 (dot_ends s.after (v.before ++ next) are.spaced.0.1) (dot_ends t.after (u.before
    ++ also_next) also.spaced.0.1) e in
    let (after, dots) = one_run is_blank s.after t.after (46 ∷ (v.before ++ next)) (46
    ∷ (u.before ++ also_next)) are.spaced.0.1 also.spaced.0.1 refl refl rest in
    let behind : v.before ++ next ≡ u.before ++ also_next = cc in
    let (inner, tails) = one_run is_blank v.before u.before next also_next are.spaced.1.0.0 also.spaced.1.0.0
    (opens_unblank next (tail_opens v p r are.spelled.1.0)) (opens_unblank also_next (tail_opens u o q also.spelled.1.0)) behind in
    let (same, ended) = one_segments p o v u r q (later s v p are) (later t u o also) stop halt inner tails in
    (ap (λ (x : List Segment). s ∷ x) same ∙ ap (λ (x : Segment). x ∷ u ∷ o) (same_segment s t before key spelled after), ended)

pub one_path : (p o : List Segment) (r q : Text) → IsPath p → IsPath o → AllByRecursion IsSpacedSegment p → AllByRecursion IsSpacedSegment o
    → EndsPath r → EndsPath q
    → path_text p ++ r ≡ path_text o ++ q → (p ≡ o) × (r ≡ q)
one_path [] o r q is also spaced also_spaced stop halt e = absurd (false≢true is.begins)
one_path (s ∷ p) [] r q is also spaced also_spaced stop halt e = absurd (false≢true also.begins)
one_path (s ∷ p) (t ∷ o) r q is also spaced also_spaced stop halt e =
    let before = empty_nil s.before is.begins in
    let also_before = empty_nil t.before also.begins in
    let here : path_text (s ∷ p) ++ r ≡ tail_text s p r = path_tail s p r is.ends ∙ ap (λ (x : Text). x ++ tail_text s p r) before in
    let there : path_text (t ∷ o) ++ q ≡ tail_text t o q = path_tail t o q also.ends
    ∙ ap (λ (x : Text). x ++ tail_text t o q) also_before in
    one_segments p o s t r q (record { ends = is.ends; spelled = is.spelled; spaced = spaced }) (record {
      ends = also.ends;
      spelled =
          also.spelled;
      spaced = also_spaced;
    })
    stop halt (before ∙ sym also_before) (sym here ∙ e ∙ there)

pub path_opens : (p : List Segment) (rest : Text) → IsPath p → Opens (path_text p ++ rest)
path_opens [] rest is = absurd (false≢true is.begins)
path_opens (s ∷ p) rest is =
    let (c, cs, e, opening) = tail_opens s p rest is.spelled.0 in
    (c, cs, path_tail s p rest is.ends ∙ ap (λ (x : Text). x ++ tail_text s p rest) (empty_nil s.before is.begins) ∙ e, opening)

-- a byte that fails where no key can begin
pub path_keyed : (t : ℕ → Bool) (p : List Segment) (rest : Text) → ((c : ℕ) → is_opening c ≡ true → t c ≡ false) → IsPath p
    → t (first (path_text p ++ rest)) ≡ false
path_keyed t [] rest apart is = absurd (false≢true is.begins)
path_keyed t (s ∷ p) rest apart is =
    ap (λ (x : Text). t (first x)) (path_tail s p rest is.ends ∙ ap (λ (x : Text). x ++ tail_text s p rest) (empty_nil s.before is.begins))
    ∙ tail_keyed s p is.spelled.0
  where
    tail_keyed : (s : Segment) (p : List Segment) → SpellsKey s.key s.spelled → t (first (tail_text s p rest)) ≡ false
    tail_keyed s [] spells = begins_not t s.spelled rest apart (key_begins s.key s.spelled spells)
    tail_keyed s (r ∷ p) spells =
        begins_not t s.spelled (s.after ++ (46 ∷ (r.before ++ tail_text r p rest))) apart (key_begins s.key s.spelled spells)
