-- Whole texts: what reads as a cut is one, and a cut is read again, up to a bracket that is one too many.
use Rattle.std.proofs.Common.{◌≡◌, ℕ, suc, ◌-◌, ◌<◌, Bool, true, false, cond, ◌==◌, ◌&&◌, List, [], ◌∷◌, ◌++◌, length, drop, Some, refl}
use Rattle.std.proofs.Common.{sym, ap, subst, ◌∙◌, inl, inr, arith, eqb-true, slice_index}
use Rattle.std.proofs.lemmas.Bool.{cases_Bool, and_parts, ne_eqb}
use Rattle.toml_edit_model.specs.Text.{Text}
use Rattle.toml_edit_model.specs.Trivia.{IsFinalTrivia}
use Rattle.toml_edit_model.specs.Syntax.{Statement, Document, mark_text, document_text, AreStatements, IsCut}
use Rattle.toml_edit_syntax.specs.declared.event.EventKind.TheVariants.{Final}
use Rattle.toml_edit_laws.specs.reading.Runs.{first}
use Rattle.toml_edit_syntax.specs.ValueEvents.{event, shortened}
use Rattle.toml_edit_syntax.specs.ValueReading.{got}
use Rattle.toml_edit_syntax.specs.Events.{events_from, events_of}
use Rattle.toml_edit_syntax.specs.Reading.{statements_at, is_marked, document, cut_of, events_seen, text_read}
use Rattle.toml_edit_syntax.proofs.ReadingSteps.{same_got, follow_got}
use Rattle.toml_edit_syntax.proofs.Outcomes.{outcome, follow_outcome}
use Rattle.toml_edit_syntax.proofs.ValueAgain.{outcome_same}
use Rattle.toml_edit_syntax.proofs.CutLaws.{statements_take, statements_fit, statements_stay, statements_stop}
use Rattle.toml_edit_syntax.proofs.CutLaws.{statements_read_again, ascii_statements}
use Rattle.toml_edit_laws.proofs.one_cut.Documents.{statements_text}

-- ---- the byte order mark

three : (t : Text) → (first t == 0xEF) ≡ true → (slice_index t 1 == 0xBB) ≡ true → (slice_index t 2 == 0xBF) ≡ true → t ≡ 0xEF ∷ 0xBB ∷ 0xBF
    ∷ drop 3 t
three [] a b c = absurd (omega (arith, eqb-true 0 0xEF a))
three (x ∷ []) a b c = absurd (omega (arith, eqb-true 0 0xBB b))
three (x ∷ y ∷ []) a b c = absurd (omega (arith, eqb-true 0 0xBF c))
three (x ∷ y ∷ z ∷ rest) a b c = rw (eqb-true x 0xEF a, eqb-true y 0xBB b, eqb-true z 0xBF c) refl

-- the mark, and what stands behind it
pub marks : (t rest : Text) → cond (is_marked t) (drop 3 t) t ≡ rest → t ≡ mark_text (is_marked t) ++ rest
marks t rest e =
    elim (cases_Bool (is_marked t)) [
      | inl has ↦
          let (two, third) = and_parts (first t == 0xEF && slice_index t 1 == 0xBB) (slice_index t 2 == 0xBF) has in
          let (one, second) = and_parts (first t == 0xEF) (slice_index t 1 == 0xBB) two in
          let f = rw has at e in
          rw has (three t one second third ∙ ap (λ (x : Text). 0xEF ∷ 0xBB ∷ 0xBF ∷ x) f)
      | inr none ↦ let f = rw none at e in rw none f
    ]

plain : (t : Text) → first t < 128 → is_marked t ≡ false
plain t ascii = rw (ne_eqb (first t) 0xEF (λ e. omega (arith, e))) refl

-- the statements of a cut, and its final trivia, are what is behind the mark
pub unmarked_is : (marked : Bool) (ss : List Statement) (final : Text) → AreStatements final ss → IsFinalTrivia final
    → cond (is_marked (mark_text marked ++ (statements_text ss ++ final))) (drop 3 (mark_text marked ++ (statements_text ss ++ final)))
    (mark_text marked ++ (statements_text ss ++ final)) ≡ statements_text ss ++ final
unmarked_is true ss final are last = refl
unmarked_is false ss final are last = rw (plain (statements_text ss ++ final) (ascii_statements ss final are last)) refl

-- ---- what is read

pub cut_takes : (t rest : Text) (d : Document) → cut_of 0 t ≡ got d rest → IsCut d t
unfolding cut_of
cut_takes t rest d e =
    let behind_mark = cond (is_marked t) (drop 3 t) t in
    let at = length (mark_text (is_marked t)) in
    let (ss, final, found, last) =
    follow_got (statements_at (suc (length t)) 0 at behind_mark) (λ ss final. got (document (is_marked t) ss final) []) d rest e in
    let (are, is_final, whole) = statements_take (suc (length t)) at behind_mark ss final found in
    let made : IsCut (document (is_marked t) ss final) t = ((are, is_final), sym (marks t (statements_text ss ++ final) whole)) in
    subst (λ (y : Document). IsCut y t) (same_got (document (is_marked t) ss final) d [] rest last).0 made

-- ---- a cut is read again

again : (level : ℕ) (marked : Bool) (ss : List Statement) (final : Text) → AreStatements final ss → IsFinalTrivia final
    → cut_of level (mark_text marked ++ (statements_text ss ++ final))
    ≡ outcome (statements_fit level ss) (document marked ss final) [] (shortened level (events_from (length (mark_text marked)) ss))
unfolding cut_of
again level true ss final are last =
    rw (statements_read_again ss final (suc (suc (suc (suc (length (statements_text ss ++ final)))))) level 3 are last (omega arith))
    (follow_outcome (λ rs rest. got (document true rs rest) []) (statements_fit level ss) ss final (shortened level (events_from 3 ss))
    (document true ss final) [] refl)
again level false ss final are last =
    rw (
      plain (statements_text ss ++ final) (ascii_statements ss final are last),
      statements_read_again ss final (suc (length (statements_text ss ++ final))) level 0 are last (omega arith),
    )
    (follow_outcome (λ rs rest. got (document false rs rest) []) (statements_fit level ss) ss final (shortened level (events_from 0 ss))
    (document false ss final) [] refl)

-- a document whose values are not too deep is cut nowhere
pub whole_events : (d : Document) → statements_fit 0 d.statements ≡ true → shortened 0 (events_of d) ≡ events_of d
whole_events d fits =
    statements_stay 0 (length (mark_text d.has_mark)) d.statements fits (event Final (length (document_text d) - length d.final) d.final
    ∷ [])

-- and its final trivia is no bracket
cut_events : (d : Document) → statements_fit 0 d.statements ≡ false → shortened 0 (events_from (length (mark_text d.has_mark)) d.statements)
    ≡ shortened 0 (events_of d)
cut_events d none = sym (statements_stop 0 (length (mark_text d.has_mark)) d.statements none
    (event Final (length (document_text d) - length d.final) d.final ∷ []))

pub cut_again : (level : ℕ) (t : Text) (d : Document) → IsCut d t → cut_of level t
    ≡ outcome (statements_fit level d.statements) d [] (shortened level (events_from (length (mark_text d.has_mark)) d.statements))
cut_again level t d ((are, last), whole) = ap (cut_of level) (sym whole) ∙ again level d.has_mark d.statements d.final are last

-- what a text comes to that has a cut
pub text_reads : (t : Text) (d : Document) → IsCut d t → text_read t ≡ Some (shortened 0 (events_of d))
text_reads t d is =
    let fits = statements_fit 0 d.statements in
    let es = shortened 0 (events_from (length (mark_text d.has_mark)) d.statements) in
    ap (events_seen (λ (d : Document) (_ : Text). events_of d)) (cut_again 0 t d is
    ∙ outcome_same fits d [] es (shortened 0 (events_of d)) (cut_events d)) ∙ seen fits (whole_events d)
  where
    seen : (fits : Bool) → (fits ≡ true → shortened 0 (events_of d) ≡ events_of d)
        → events_seen (λ (d : Document) (_ : Text). events_of d) (outcome fits d [] (shortened 0 (events_of d)))
        ≡ Some (shortened 0 (events_of d))
    seen true h = ap Some (sym (h refl))
    seen false h = refl
