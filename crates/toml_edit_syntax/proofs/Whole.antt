-- From what reading the rest of a text gives to what the text is.
use Rattle.std.proofs.Common.{◌≡◌, ℕ, suc, ◌-◌, Bool, cond, ◌<◌, List, [], ◌∷◌, ◌++◌, length, drop, None, refl, sym, ap, subst, ◌∙◌, arith}
use Rattle.std.proofs.lemmas.List.{length-append}
use Rattle.std.proofs.lemmas.Option.{none-some}
use Rattle.toml_edit_model.specs.Text.{Text}
use Rattle.toml_edit_model.specs.Syntax.{mark_text, Statement, Document, document_text, IsCut}
use Rattle.toml_edit_syntax.specs.declared.event.EventKind.TheVariants.{Final}
use Rattle.toml_edit_syntax.specs.declared.event.Event.{Event}
use Rattle.toml_edit_syntax.specs.declared.lexer.BatchEnd.{BatchEnd}
use Rattle.toml_edit_syntax.specs.declared.lexer.BatchEnd.TheVariants.{MoreStatements, WholeText, TooManyBrackets}
use Rattle.toml_edit_syntax.specs.declared.lexer.Stop.{Stop}
use Rattle.toml_edit_syntax.specs.declared.lexer.Stop.TheVariants as stops
use Rattle.toml_edit_syntax.specs.declared.mistake.Mistake.{Mistake}
use Rattle.toml_edit_syntax.specs.ValueEvents.{event, shortened}
use Rattle.toml_edit_syntax.specs.ValueReading.{Reading, got, deep, wrong, follow}
use Rattle.toml_edit_syntax.specs.Events.{events_from, events_of, OpensTooMany}
use Rattle.toml_edit_syntax.specs.Reading.{statements_at, is_marked, document, cut_of, events_with_final, events_seen, text_read}
use Rattle.toml_edit_syntax.specs.EventReading.{seen, preceded, without_rest}
use Rattle.toml_edit_syntax.specs.StatementReading.{rest_read}
use Rattle.toml_edit_syntax.specs.Gives.{StopsAs}
use Rattle.toml_edit_syntax.specs.Batches.{EndsWith, IsAfter, IsReached, ReadsBatch}
use Rattle.toml_edit_syntax.proofs.CutLaws.{statements_take}
use Rattle.toml_edit_syntax.proofs.DocumentLaws.{marks, cut_takes, text_reads}
use Rattle.toml_edit_syntax.proofs.EventSteps.{preceded-nil, preceded-twice}
use Rattle.toml_edit_syntax.proofs.TooManyLaws.{text_opens}

-- ---- what is left at the start

seen_follow : (marked : Bool) (r : Reading (List Statement)) (f : List Statement → Text → List Event)
    → ((ss : List Statement) (final : Text) → r ≡ got ss final → f ss final ≡ events_of (document marked ss final))
    → without_rest (seen f r) ≡ seen (λ (d : Document) (_ : Text). events_of d) (follow r (λ ss final. got (document marked ss final) []))
seen_follow marked (got ss final) f each = ap (λ (es : List Event). got es []) (each ss final refl)
seen_follow marked (deep es) f each = refl
seen_follow marked wrong f each = refl

-- the text of the statements behind a mark is what is left of the whole text
pub reached : (source rest : Text) → rest ≡ cond (is_marked source) (drop 3 source) source → IsReached source rest
unfolding cut_of
reached source rest is =
    let marked = is_marked source in
    let at = length (mark_text marked) in
    let n = suc (length source) in
    let parts = marks source rest (sym is) in
    let place : length source - length rest ≡ at = omega (arith, ap length parts, length-append (mark_text marked) rest) in
    let each : (ss : List Statement) (final : Text) → statements_at n 0 at rest ≡ got ss final
    → events_with_final (length source) at ss final ≡ events_of (document marked ss final) =
    λ ss final read.
    let (are, last, whole) = statements_take n at rest ss final read in
    let all : document_text (document marked ss final) ≡ source = ap (λ (x : Text). mark_text marked ++ x) (sym whole) ∙ sym parts in
    ap (λ (k : ℕ). events_from at ss ++ event Final (k - length final) final ∷ []) (sym (ap length all)) in
    record {
      ends = (mark_text marked, parts);
      done = [];
      turns = n;
      room = omega (arith, ap length parts, length-append (mark_text marked) rest);
      same =
          sym
          (ap without_rest (preceded-nil (rest_read n (length source) rest))
          ∙ ap (λ (k : ℕ). without_rest (seen (events_with_final (length source) k) (statements_at n 0 k rest))) place
          ∙ seen_follow marked (statements_at n 0 at rest) (events_with_final (length source) at) each
          ∙ ap (λ (x : Text). seen (λ (d : Document) (_ : Text). events_of d)
          (follow (statements_at n 0 at x) (λ ss final. got (document marked ss final) []))) is);
    }

-- ---- what reading all of it came to

module _ (t rest : Text) (r : IsReached t rest) where
  cut_by : (r : Reading Document) (es : List Event) (left : Text) → cut_of 0 t ≡ r → seen (λ (d : Document) (_ : Text). events_of d) r
      ≡ got es left → (d : Document) × IsCut d t
  cut_by (got d left) es more found e = (d, cut_takes t left d found)
  cut_by (deep ms) es more found e = absurd cc
  cut_by wrong es more found e = absurd cc

  -- a text that is read to its end has a cut
  pub has_cut : (es : List Event) (left : Text) → preceded r.done (rest_read r.turns (length t) rest) ≡ got es left → (d : Document)
      × IsCut d t
  has_cut es left e = cut_by (cut_of 0 t) es [] refl (r.same ∙ ap without_rest e)

  deep_by : (r : Reading Document) (es : List Event) → cut_of 0 t ≡ r → seen (λ (d : Document) (_ : Text). events_of d) r ≡ deep es
      → OpensTooMany t
  deep_by (got d left) es found e = absurd cc
  deep_by (deep ms) es found e = text_opens t ms found
  deep_by wrong es found e = absurd cc

  -- one that is read up to a bracket that is one too many opens as many
  pub opens_too_many : (es : List Event) → preceded r.done (rest_read r.turns (length t) rest) ≡ deep es → OpensTooMany t
  opens_too_many es e = deep_by (cut_of 0 t) es refl (r.same ∙ ap without_rest e)

  none_by : (r : Reading Document) → cut_of 0 t ≡ r → seen (λ (d : Document) (_ : Text). events_of d) r ≡ wrong → text_read t ≡ None
  none_by (got d left) found e = absurd cc
  none_by (deep ms) found e = absurd cc
  none_by wrong found e = ap (events_seen (λ (d : Document) (_ : Text). events_of d)) found

  -- and one that has a cut is read
  pub no_cut : preceded r.done (rest_read r.turns (length t) rest) ≡ wrong → (d : Document) → IsCut d t → ⊥
  no_cut e d is = none-some (shortened 0 (events_of d)) (sym (none_by (cut_of 0 t) refl (r.same ∙ ap without_rest e)) ∙ text_reads t d is)

-- ---- what comes after a batch

module _ (t before : Text) (r : IsReached t before) (old new : List Event) (nothing : old ≡ []) where
  -- behind what was read before
  joined_to : (read : Reading (List Event)) → preceded old (rest_read r.turns (length t) before) ≡ read
      → preceded r.done (rest_read r.turns (length t) before) ≡ preceded r.done read
  joined_to read e = ap (preceded r.done) (sym (preceded-nil (rest_read r.turns (length t) before))
      ∙ ap (λ (es : List Event). preceded es (rest_read r.turns (length t) before)) (sym nothing) ∙ e)

  pub after_batch : (end : BatchEnd) (rest : Text) → EndsWith t rest → (end ≡ MoreStatements → length rest < length before)
      → ((n : ℕ) → length before < n → ReadsBatch n (length t) before old new end rest) → IsAfter t before rest end
  after_batch MoreStatements rest ends shorter reads =
      let (k, room, e) = reads r.turns r.room in
      record {
        reached = λ _.
            record {
              ends = ends;
              done = r.done ++ new;
              turns = k;
              room = room;
              same = r.same ∙ ap without_rest (joined_to (preceded new (rest_read k (length t) rest)) e
                  ∙ preceded-twice r.done new (rest_read k (length t) rest));
            };
        shorter = shorter;
        cut = λ is. absurd cc;
        brackets = λ is. absurd cc;
      }
  after_batch WholeText rest ends shorter reads =
      record {
        reached = λ is. absurd cc;
        shorter = λ is. absurd cc;
        cut = λ _. has_cut t before r (r.done ++ new) rest (joined_to (got new rest) (reads r.turns r.room));
        brackets = λ is. absurd cc;
      }
  after_batch TooManyBrackets rest ends shorter reads = absurd (reads r.turns r.room)

  pub after_deep : (why : Stop) (rest : Text) → why ≡ stops.TooDeep
      → ((n : ℕ) → length before < n → StopsAs new (preceded old (rest_read n (length t) before)) why)
      → IsAfter t before rest TooManyBrackets
  after_deep why rest is reads =
      record {
        reached = λ e. absurd cc;
        shorter = λ e. absurd cc;
        cut = λ e. absurd cc;
        brackets = λ _. opens_too_many t before r (r.done ++ new)
            (joined_to (deep new) (subst (StopsAs new (preceded old (rest_read r.turns (length t) before))) is (reads r.turns r.room)));
      }

  pub no_cut_left : (why : Stop) (mistake : Mistake) (left : ℕ) → why ≡ stops.Before mistake left
      → ((n : ℕ) → length before < n → StopsAs new (preceded old (rest_read n (length t) before)) why) → (d : Document) → IsCut d t → ⊥
  no_cut_left why mistake left is reads =
      no_cut t before r (joined_to wrong (subst (StopsAs new (preceded old (rest_read r.turns (length t) before))) is
      (reads r.turns r.room)))
