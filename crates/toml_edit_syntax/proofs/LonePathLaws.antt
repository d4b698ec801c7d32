-- What reads as a lone path is one, and a lone path is read again.
use Rattle.std.proofs.Common.{◌≡◌, ℕ, ◌+◌, ◌-◌, ◌==◌, true, false, List, [], ◌∷◌, ◌++◌, length, Some, None, refl, sym, ap, subst, ◌∙◌, arith}
use Rattle.std.proofs.Common.{append-nil}
use Rattle.std.specs.List.{list_all}
use Rattle.std.proofs.lemmas.Bool.{and_parts}
use Rattle.std.proofs.lemmas.Bool.Decides.{nat_tests}
use Rattle.std.proofs.lemmas.List.{nil_from_length}
use Rattle.std.proofs.lemmas.Option.{none-some, same_Some}
use Rattle.toml_edit_model.specs.Text.{Text}
use Rattle.toml_edit_model.specs.Trivia.{is_blank, IsWhiteSpace}
use Rattle.toml_edit_model.specs.Syntax.{Segment, path_text}
use Rattle.toml_edit_laws.specs.reading.Runs.{first, split_while, Read}
use Rattle.toml_edit_laws.specs.reading.Tokens.{ends_key}
use Rattle.toml_edit_laws.proofs.reading.Begins.{StartsAscii, ascii_blank, begins_not}
use Rattle.toml_edit_laws.proofs.reading.RunLaws.{Each-run, split_while-run}
use Rattle.toml_edit_laws.proofs.reading.Steps.{split_parts}
use Rattle.toml_edit_syntax.specs.declared.event.Event.{Event}
use Rattle.toml_edit_syntax.specs.EventReading.{seen, preceded, path_read}
use Rattle.toml_edit_syntax.specs.LonePath.{ArePathEvents, IsPathText}
use Rattle.toml_edit_syntax.specs.ValueEvents.{path_events}
use Rattle.toml_edit_syntax.specs.ValueReading.{got, wrong, reading, path_at}
use Rattle.toml_edit_syntax.proofs.PathLaws.{EndsPath, path_again, path_begins, path_takes}
use Rattle.toml_edit_syntax.proofs.ReadingSteps.{same_got}
use Rattle.toml_edit_syntax.proofs.SpanLaws.{AreSpans, Cut, path_spans}

-- ---- a lone path is read again

-- white space ends a path
white_ends : (w : Text) → IsWhiteSpace w → EndsPath w
white_ends w each =
    record {
      stops = ends w each;
      undotted = ap (λ (x : Text). first (split_while is_blank x).1 == 46) (sym (append-nil w))
          ∙ ap (λ (x : Text × Text). first x.1 == 46) (split_while-run is_blank w [] each refl);
    }
  where
    ends : (w : Text) → IsWhiteSpace w → ends_key w ≡ true
    ends [] each = refl
    ends (c ∷ cs) each =
        let blank : is_blank c ≡ true = (and_parts (is_blank c) (list_all is_blank cs) each).0 in
        grind (arith, nat_tests)

module _ (t before : Text) (p : List Segment) (after : Text) (is : IsPathText t before p after) where
  pub path_split : split_while is_blank t ≡ (before, path_text p ++ after)
  path_split =
      let stop = begins_not is_blank (path_text p) after (λ c h. grind (arith, nat_tests)) (path_begins p is.path) in
      ap (split_while is_blank) is.parts ∙ split_while-run is_blank before (path_text p ++ after) is.white_before stop

  pub path_found : path_at (path_text p ++ after) ≡ Some (p, after)
  path_found = path_again p after is.path is.spaced (white_ends after is.white_after)

-- ---- what was read

-- the segments whose events these are
seen_path : (old es : List Event) (f : List Segment → List Event) (r : Read (List Segment)) (rest : Text) → old ≡ []
    → preceded old (seen (λ p _. f p) (reading r)) ≡ got es rest → (p : List Segment) × (r ≡ Some (p, rest)) × (es ≡ f p)
seen_path old es f None rest none e = absurd cc
seen_path old es f (Some (p, more)) rest none e =
    let same = same_got (old ++ f p) es more rest e in (
      p,
      ap (λ (x : Text). Some (p, x)) same.1,
      sym same.0 ∙ ap (λ (x : List Event). x ++ f p) none,
    )

seen_none : (old : List Event) (f : List Segment → List Event) (r : Read (List Segment))
    → preceded old (seen (λ p _. f p) (reading r)) ≡ wrong → r ≡ None
seen_none old f None e = refl
seen_none old f (Some (p, more)) e = absurd cc

module _ (t before start : Text) (split : ◌≡◌ {A = Text × Text} (before, start) (split_while is_blank t))
    (lens : length before + length start ≡ length t) where
  -- a path of the text begins where the white space ends
  starts : (b : Text) (p : List Segment) (a : Text) → IsPathText t b p a → (b ≡ before) × (path_at start ≡ Some (p, a))
  starts b p a is =
      let same : ◌≡◌ {A = Text × Text} (b, path_text p ++ a) (before, start) = sym (path_split t b p a is) ∙ sym split in (
        ap (λ (x : Text × Text). x.0) same,
        ap path_at (ap (λ (x : Text × Text). x.1) (sym same)) ∙ path_found t b p a is,
      )

  module _ (old es : List Event) (rest : Text) (none : old ≡ [])
      (read : preceded old (path_read (length start) (length t) [] start) ≡ got es rest) where
    -- only the white space that the path was read up to follows it
    pub then_white : (b : Text) (p : List Segment) (a : Text) → IsPathText t b p a → IsWhiteSpace rest
    then_white b p a is =
        let (q, found, events) = seen_path old es (path_events (length t - length start - 0)) (path_at start) rest none read in
        let same = same_Some (q, rest) (p, a) (sym found ∙ (starts b p a is).1) in
        subst IsWhiteSpace (sym (ap (λ (x : List Segment × Text). x.1) same)) is.white_after

    module _ (after end : Text) (behind : ◌≡◌ {A = Text × Text} (after, end) (split_while is_blank rest)) where
      -- where a path is read, what follows is white space alone
      pub not_more : (b : Text) (p : List Segment) (a : Text) → IsPathText t b p a → length end ≡ 0
      not_more b p a is =
          let white = then_white b p a is in
          ap (λ (x : Text × Text). length x.1) (behind ∙ ap (split_while is_blank) (sym (append-nil rest))
          ∙ split_while-run is_blank rest [] white refl)

      pub are_events : length end ≡ 0 → ArePathEvents t before es after
      are_events nothing =
          let (q, found, events) = seen_path old es (path_events (length t - length start - 0)) (path_at start) rest none read in
          let took = path_takes start rest q found in
          let after-is : after ≡ (split_while is_blank rest).0 = ap (λ (x : Text × Text). x.0) behind in
          let end-is : end ≡ (split_while is_blank rest).1 = ap (λ (x : Text × Text). x.1) behind in
          let rest-is : rest ≡ after = split_parts is_blank rest ∙ ap (λ (x : Text). x ++ (split_while is_blank rest).1) (sym after-is)
          ∙ ap (λ (x : Text). after ++ x) (sym end-is ∙ nil_from_length end nothing) ∙ append-nil after in
          let before-is : before ≡ (split_while is_blank t).0 = ap (λ (x : Text × Text). x.0) split in
          let start-is : start ≡ (split_while is_blank t).1 = ap (λ (x : Text × Text). x.1) split in
          let place : length t - length start - 0 ≡ length before = omega (arith, lens) in
          let whole : t ≡ before ++ start = split_parts is_blank t ∙ ap (λ (x : Text). x ++ (split_while is_blank t).1) (sym before-is)
          ∙ ap (λ (x : Text). before ++ x) (sym start-is) in
          record {
            path = q;
            is = record {
              parts = whole ∙ ap (λ (x : Text). before ++ x) (took.parts ∙ ap (λ (x : Text). path_text q ++ x) rest-is);
              path = took.path;
              spaced = took.spaced;
              white_before = subst IsWhiteSpace (sym before-is) (Each-run is_blank t);
              white_after = subst IsWhiteSpace (sym after-is) (Each-run is_blank rest);
            };
            events = events ∙ ap (λ (n : ℕ). path_events n q) place;
            only = λ b p a is.
                let s = starts b p a is in
                let same = same_Some (p, a) (q, rest) (sym s.1 ∙ found) in (
                  s.0,
                  ap (λ (x : List Segment × Text). x.0) same,
                  ap (λ (x : List Segment × Text). x.1) same ∙ rest-is,
                );
          }

  -- what is none is not read
  pub not_wrong : (old : List Event) → preceded old (path_read (length start) (length t) [] start) ≡ wrong
      → (b : Text) (p : List Segment) (a : Text) → IsPathText t b p a → ⊥
  not_wrong old read b p a is =
      none-some (p, a) (sym (seen_none old (path_events (length t - length start - 0)) (path_at start) read) ∙ (starts b p a is).1)

-- each event lies on the boundaries of characters
pub are_spans : (t before after : Text) (es : List Event) → ArePathEvents t before es after → AreSpans t es
are_spans t before after es are =
    let c : Cut t (length before) (path_text are.path ++ after) = record { before = before; parts = are.is.parts; len = refl } in
    let ascii : StartsAscii after = subst StartsAscii (append-nil after) (ascii_blank after [] are.is.white_after (omega arith)) in
    subst (AreSpans t) (sym are.events) (path_spans t after (length before) are.path are.is.path.spelled are.is.spaced ascii c)
