-- What reads as statements are statements, and statements are read again, up to a bracket that is one too many.
use Rattle.std.proofs.Common.{◌≡◌, ℕ, zero, suc, ◌+◌, ◌-◌, ◌<◌, Bool, true, false, ◌==◌, ◌&&◌, List, [], ◌∷◌, ◌++◌, length, drop, take}
use Rattle.std.proofs.Common.{refl, sym, ap, subst, ◌∙◌, inl, inr, arith, append-nil, take_at, drop_at, eqb-true, le_refl}
use Rattle.std.specs.List.{flat_map}
use Rattle.std.proofs.lemmas.Bool.{ne_eqb, and_parts, false≢true}
use Rattle.std.proofs.lemmas.Bool.Decides.{nat_tests}
use Rattle.std.proofs.lemmas.List.{take-append-drop, length-append, nil_from_length, drop_all}
use Rattle.toml_edit_model.specs.Text.{Text}
use Rattle.toml_edit_model.specs.Trivia.{comment, piece_text, IsWholeTrivia, IsNewline, IsFinalTrivia}
use Rattle.toml_edit_model.specs.Syntax.{Statement, statement_text, AreStatements}
use Rattle.toml_edit_syntax.specs.Scanning.{scan}
use Rattle.toml_edit_syntax.specs.ValueEvents.{shortened}
use Rattle.toml_edit_syntax.specs.ValueReading.{Reading, got, deep, wrong, follow, changed, behind}
use Rattle.toml_edit_syntax.specs.Events.{statement_events, events_from}
use Rattle.toml_edit_syntax.specs.Reading.{statement_at, statements_at}
use Rattle.toml_edit_laws.proofs.reading.Steps.{chosen}
use Rattle.toml_edit_syntax.proofs.ReadingSteps.{same_got, follow_got, changed_got, behind_got, scan_again}
use Rattle.toml_edit_syntax.proofs.ShortenedLaws.{Stays, Stops, stays_then, stops_first, stops_then, Fits, cases_fits}
use Rattle.toml_edit_syntax.proofs.Outcomes.{ValueBegins, outcome, has_room, has_room_true, has_room_false, changed_outcome}
use Rattle.toml_edit_syntax.proofs.Outcomes.{behind_outcome}
use Rattle.toml_edit_syntax.proofs.TriviaLaws.{further, scan_nil, scan-pieces, scan-comment, scan_took, Outside}
use Rattle.toml_edit_laws.proofs.reading.Begins.{StartsAscii, ascii_trivia, ascii_final}
use Rattle.toml_edit_laws.proofs.one_cut.Documents.{ends_weaken, first_of, later_of, statements_then, statements_text}
use Rattle.toml_edit_laws.proofs.one_cut.Statements.{leading_of, statement_tail, leading_is, IsEnding, EndsAt}
use Rattle.toml_edit_syntax.proofs.SpanLaws.{ascii_value}
use Rattle.toml_edit_syntax.proofs.HeaderLaws.{Entry}
use Rattle.toml_edit_syntax.proofs.StatementLaws.{statement_then, tail_begins, some_statement}
use Rattle.toml_edit_syntax.proofs.StatementLaws.{statement_takes, depth_of, statement_stays, statement_stops, statement_reads}

-- ---- final trivia

-- a final trivia is scanned to its end
pub scan_final : (t : Text) → IsFinalTrivia t → (scan false t).0 ≡ length t
scan_final t (w, none, (ps, each, is), inl empty, whole) =
    let same : t ≡ flat_map piece_text ps ++ [] = whole ∙ ap (λ (x : Text). w ++ x) empty ∙ ap (λ (x : Text). x ++ []) is in
    let e = ap (λ (x : Text). scan false x) same ∙ scan-pieces ps [] each
    ∙ ap (further (length (flat_map piece_text ps))) (scan_nil false) in
    ap (λ (r : ℕ × Bool). r.0) e ∙ omega (arith, ap length same, length-append (flat_map piece_text ps) [])
scan_final t (w, last, (ps, each, is), inr (body, visible, cmt), whole) =
    let same : t ≡ flat_map piece_text ps ++ comment body = whole ∙ ap (λ (x : Text). w ++ x) cmt
    ∙ ap (λ (x : Text). x ++ comment body) is in
    let e = ap (λ (x : Text). scan false x) same ∙ scan-pieces ps (comment body) each in
    ap (λ (r : ℕ × Bool). r.0) e ∙ omega (
      arith,
      ap length same,
      length-append (flat_map piece_text ps) (comment body),
      scan-comment body visible,
    )

outside_final : (e : Bool) (t : Text) → Outside e t → IsFinalTrivia t
outside_final false t whole = (t, [], whole, inl refl, sym (append-nil t))
outside_final true t (w, body, whole, visible, parts) = (w, comment body, whole, inr (body, visible, refl), parts)

-- what is scanned to its end is a final trivia
pub final_takes : (text : Text) → length (drop (scan false text).0 text) ≡ 0 → IsFinalTrivia text
final_takes text ended =
    let n = (scan false text).0 in
    let nothing : drop n text ≡ [] = nil_from_length (drop n text) ended in
    let all : take n text ≡ text = sym (append-nil (take n text)) ∙ ap (λ (x : Text). take n text ++ x) (sym nothing)
    ∙ take-append-drop n text in
    subst IsFinalTrivia all (outside_final (scan false text).1 (take n text) (scan_took false text))

-- ---- statements

not_empty : (s : Statement) (ss : List Statement) (final : Text) → AreStatements final (s ∷ ss) → statements_text (s ∷ ss) ++ final ≡ [] → ⊥
not_empty s ss final is empty =
    let some = some_statement (λ end. IsEnding end (statements_text ss ++ final)) s (first_of s ss final is) in
    omega (
      arith,
      some,
      ap length empty,
      length-append (statements_text (s ∷ ss)) final,
      length-append (statement_text s) (statements_text ss),
    )

more_statements : (s : Statement) (ss : List Statement) (final : Text) → EndsAt (statements_text ss ++ final) s → AreStatements final ss
    → AreStatements final (s ∷ ss)
more_statements s [] final is are = is
more_statements s (r ∷ rest) final is are =
    (ends_weaken (λ end. IsEnding end (statements_text (r ∷ rest) ++ final)) IsNewline s (λ end ending. newline_of end ending) is, are)
  where
    newline_of : (end : Text) → IsEnding end (statements_text (r ∷ rest) ++ final) → IsNewline end
    newline_of end (inl newline) = newline
    newline_of end (inr (nothing, ended)) = absurd (not_empty r rest final are ended)

-- ---- what is read

abbrev pub Taken : Text → List Statement → Text → Type 0
Taken text ss final = AreStatements final ss × IsFinalTrivia final × (text ≡ statements_text ss ++ final)

taken_more : (text rest : Text) (s : Statement) (ss : List Statement) (final : Text) → Entry text s rest → Taken rest ss final
    → Taken text (s ∷ ss) final
taken_more text rest s ss final (is, parts) (are, last, whole) =
    let ends : EndsAt (statements_text ss ++ final) s = subst (λ (x : Text). EndsAt x s) whole is in
    (more_statements s ss final ends are, last, parts ∙ ap (λ (x : Text). statement_text s ++ x) whole ∙ sym (statements_then s ss final))

-- behind a statement of this text
abbrev pub then_statements : ℕ → ℕ → ℕ → Text → Statement → Text → Reading (List Statement)
then_statements n level at t s rest =
    behind (statement_events at s) (changed (λ ss. s ∷ ss) (statements_at n level (at + (length t - length rest)) rest))

-- trivia that is scanned, before the rest
pub scanned_trivia : (t : Text) → (scan false t).1 ≡ false → IsWholeTrivia (take (scan false t).0 t)
scanned_trivia t outside =
    let took : Outside (scan false t).1 (take (scan false t).0 t) = scan_took false t in
    subst (λ (b : Bool). Outside b (take (scan false t).0 t)) outside took

later_taken : (n at : ℕ) (text : Text) (ss : List Statement) (final : Text)
    → ((k : ℕ) (t : Text) (rs : List Statement) → statements_at n 0 k t ≡ got rs final → Taken t rs final) → (scan false text).1 ≡ false
    → follow (statement_at 0 at (take (scan false text).0 text) (drop (scan false text).0 text)) (then_statements n 0 at text)
    ≡ got ss final → Taken text ss final
later_taken n at text ss final later outside e =
    let len = (scan false text).0 in
    let leading = take len text in
    let (s, rest, found, g) = follow_got (statement_at 0 at leading (drop len text)) (then_statements n 0 at text) ss final e in
    let next = at + (length text - length rest) in
    let (rs, read, same) =
    changed_got (λ (rs : List Statement). s ∷ rs) (statements_at n 0 next rest) ss final
    (behind_got (statement_events at s) _ ss final g) in
    let entry : Entry text s rest =
    subst (λ (t : Text). Entry t s rest) (take-append-drop len text)
    (statement_takes at leading (drop len text) rest s (scanned_trivia text outside) found) in
    subst (λ (y : List Statement). Taken text y final) same (taken_more text rest s rs final entry (later next rest rs read))

pub statements_take : (n at : ℕ) (text : Text) (ss : List Statement) (final : Text) → statements_at n 0 at text ≡ got ss final
    → Taken text ss final
unfolding statements_at
statements_take zero at text ss final e = absurd cc
statements_take (suc n) at text ss final e =
    let len = (scan false text).0 in
    elim (chosen (length (drop len text) == 0) (got [] text) _ (got ss final) e) [
      | inl (ended, h) ↦
          let (same, rest) = same_got [] ss text final h in
          subst (λ (x : Text). Taken text ss x) rest (subst (λ (y : List Statement). Taken text y text) same (
            tt,
            final_takes text (eqb-true _ _ ended),
            refl,
          ))
      | inr (goes, h) ↦ elim (chosen (scan false text).1 wrong _ (got ss final) h) [
        | inl (inside, bad) ↦ absurd cc
        | inr (outside, g) ↦ later_taken n at text ss final (λ k t rs. statements_take n k t rs final) outside g
      ]
    ]

-- ---- where the events of statements are cut

-- the values of these statements are not too deep inside so many brackets
abbrev pub statements_fit : ℕ → List Statement → Bool
statements_fit level [] = true
statements_fit level (s ∷ ss) = has_room level (depth_of s) && statements_fit level ss

fits_from : (level d : ℕ) → has_room level d ≡ true → Fits level d
fits_from level d e = elim (cases_fits level d) [ inl big ↦ absurd (false≢true (sym (has_room_false level d big) ∙ e)) | inr fits ↦ fits ]

-- the events of statements are cut nowhere where their values are not too deep
pub statements_stay : (level at : ℕ) (ss : List Statement) → statements_fit level ss ≡ true → Stays level (events_from at ss)
statements_stay level at [] fits = λ more. refl
statements_stay level at (s ∷ ss) fits =
    let (here, later) = and_parts (has_room level (depth_of s)) (statements_fit level ss) fits in
    let next = at + length (statement_text s) in
    stays_then level (statement_events at s) (events_from next ss) (statement_stays level at s (fits_from level (depth_of s) here))
    (statements_stay level next ss later)

pub statements_stop : (level at : ℕ) (ss : List Statement) → statements_fit level ss ≡ false → Stops level (events_from at ss)
statements_stop level at [] exceeds = absurd (false≢true (sym exceeds))
statements_stop level at (s ∷ ss) exceeds =
    let next = at + length (statement_text s) in
    let here = statement_events at s in
    let later = events_from next ss in
    elim (cases_fits level (depth_of s)) [
      | inl big ↦ stops_first level here later (statement_stops level at s big)
      | inr fits ↦
          let none : statements_fit level ss ≡ false =
          sym (ap (λ (b : Bool). b && statements_fit level ss) (has_room_true level (depth_of s) fits)) ∙ exceeds in
          stops_then level here later (statement_stays level at s fits) (statements_stop level next ss none)
    ]

-- ---- statements are read again

pub scan_leading : (leading tail : Text) → IsWholeTrivia leading → ValueBegins tail
    → (scan false (leading ++ tail) ≡ (length leading, false)) × (0 < length tail)
scan_leading leading tail whole (c, cs, begins, opening) =
    (scan_again leading tail c cs whole begins (grind (arith, nat_tests)), omega (arith, ap length begins))

statements_open : (n level at : ℕ) (leading tail : Text) → scan false (leading ++ tail) ≡ (length leading, false) → 0 < length tail
    → statements_at (suc n) level at (leading ++ tail)
    ≡ follow (statement_at level at leading tail) (then_statements n level at (leading ++ tail))
unfolding statements_at
statements_open n level at leading tail scanned some =
    rw (scanned, take_at leading tail _ refl, drop_at leading tail _ refl, ne_eqb (length tail) 0 (λ e. omega (arith, e))) refl

-- a statement, from what comes of those after it
statement_outcome : (n level at : ℕ) (s : Statement) (ss : List Statement) (final rest t : Text) → t ≡ statement_text s ++ rest
    → EndsAt rest s
    → statements_at n level (at + length (statement_text s)) rest
    ≡ outcome (statements_fit level ss) ss final (shortened level (events_from (at + length (statement_text s)) ss))
    → follow (statement_at level at (leading_of s) (statement_tail s rest)) (then_statements n level at t)
    ≡ outcome (statements_fit level (s ∷ ss)) (s ∷ ss) final (shortened level (events_from at (s ∷ ss)))
statement_outcome n level at s ss final rest t parts is read =
    let next = at + length (statement_text s) in
    let here = statement_events at s in
    let later = events_from next ss in
    let d = depth_of s in
    let place : at + (length t - length rest) ≡ next = omega (arith, ap length parts, length-append (statement_text s) rest) in
    ap (λ (r : Reading Statement). follow r (then_statements n level at t)) (statement_reads level at s rest is)
    ∙ elim (cases_fits level d) [
      | inl big ↦
          let none : has_room level d ≡ false = has_room_false level d big in
          ap (λ (b : Bool). follow (outcome b s rest (shortened level here)) (then_statements n level at t)) none
          ∙ ap deep (sym (statement_stops level at s big later))
          ∙ ap (λ (b : Bool). outcome (b && statements_fit level ss) (s ∷ ss) final (shortened level (here ++ later))) (sym none)
      | inr fits ↦
          let some : has_room level d ≡ true = has_room_true level d fits in
          ap (λ (b : Bool). follow (outcome b s rest (shortened level here)) (then_statements n level at t)) some
          ∙ ap (λ (k : ℕ). behind here (changed (λ (rs : List Statement). s ∷ rs) (statements_at n level k rest))) place
          ∙ ap (λ (r : Reading (List Statement)). behind here (changed (λ (rs : List Statement). s ∷ rs) r)) read
          ∙ ap (behind here) (changed_outcome (λ (rs : List Statement). s ∷ rs) (statements_fit level ss) ss final (shortened level later))
          ∙ behind_outcome here (statements_fit level ss) (s ∷ ss) final (shortened level later)
          ∙ ap (outcome (statements_fit level ss) (s ∷ ss) final) (sym (statement_stays level at s fits later))
          ∙ ap (λ (b : Bool). outcome (b && statements_fit level ss) (s ∷ ss) final (shortened level (here ++ later))) (sym some)
    ]

pub statements_read_again : (ss : List Statement) (final : Text) (n level at : ℕ) → AreStatements final ss → IsFinalTrivia final
    → length (statements_text ss ++ final) < n
    → statements_at n level at (statements_text ss ++ final)
    ≡ outcome (statements_fit level ss) ss final (shortened level (events_from at ss))
unfolding statements_at
statements_read_again ss final zero level at are last room = absurd (omega arith)
statements_read_again [] final (suc n) level at are last room = rw (scan_final final last, drop_all (length final) final (le_refl _)) refl
statements_read_again (s ∷ ss) final (suc n) level at are last room =
    let rest = statements_text ss ++ final in
    let is = first_of s ss final are in
    let same : statements_text (s ∷ ss) ++ final ≡ leading_of s ++ statement_tail s rest = statements_then s ss final
    ∙ statement_then s rest in
    let (scanned, some) = scan_leading (leading_of s) (statement_tail s rest) (leading_is s rest is) (tail_begins s rest is) in
    let full = some_statement (λ end. IsEnding end rest) s is in
    let fits : length rest < n = omega (arith, ap length (statements_then s ss final), length-append (statement_text s) rest) in
    ap (statements_at (suc n) level at) same
    ∙ statements_open n level at (leading_of s) (statement_tail s rest) scanned some
    ∙ statement_outcome n level at s ss final rest (leading_of s ++ statement_tail s rest) (sym (statement_then s rest)) is
    (statements_read_again ss final n level (at + length (statement_text s)) (later_of s ss final are) last fits)

-- ---- statements begin with an ASCII byte

pub ascii_statement : (s : Statement) (rest : Text) → EndsAt rest s → StartsAscii (statement_text s ++ rest)
ascii_statement s rest is =
    let (c, cs, begins, opening) = tail_begins s rest is in
    let low : StartsAscii (statement_tail s rest) =
    subst StartsAscii (append-nil (statement_tail s rest)) (ascii_value (statement_tail s rest) [] (c, cs, begins, opening)) in
    rw (statement_then s rest) (ascii_trivia (leading_of s) (statement_tail s rest) (leading_is s rest is) low)

pub ascii_statements : (ss : List Statement) (final : Text) → AreStatements final ss → IsFinalTrivia final
    → StartsAscii (statements_text ss ++ final)
ascii_statements [] final are last = ascii_final final last
ascii_statements (s ∷ ss) final are last =
    rw (statements_then s ss final) (ascii_statement s (statements_text ss ++ final) (first_of s ss final are))
