-- Reading statements in batches: what a turn reads, and that it reads the statements of a text.
use Rattle.std.proofs.Common.{◌≡◌, ℕ, ◌+◌, ◌-◌, ◌<◌, ◌≤◌, Bool, true, false, ◌&&◌, List, [], ◌∷◌, ◌++◌, length, take, drop, IsUtf8, refl}
use Rattle.std.proofs.Common.{sym, ap, ap₂, subst, ◌∙◌, arith, append_assoc, append-nil, inl, inr, take_at, drop_at, le_refl}
use Rattle.std.specs.Prelude.{◌||◌, Result, Ok, Err, IsErrAnd, MatchResult}
use Rattle.std.specs.List.{list_any}
use Rattle.std.proofs.lemmas.Bool.{cases_Bool}
use Rattle.std.proofs.lemmas.List.{length-append, take-append-drop, drop_all}
use Rattle.std.proofs.lemmas.List.Folds.{list_any-append}
use Rattle.toml_edit_model.specs.Text.{Text}
use Rattle.toml_edit_model.specs.Trivia.{IsWholeTrivia, IsFinalTrivia}
use Rattle.toml_edit_model.specs.Syntax.{Statement, AreStatements, statement_text}
use Rattle.toml_edit_syntax.specs.declared.event.EventKind.TheVariants.{Final}
use Rattle.toml_edit_syntax.specs.declared.event.Event.{Event}
use Rattle.toml_edit_syntax.specs.declared.lexer.BatchEnd.TheVariants.{MoreStatements, WholeText, TooManyBrackets}
use Rattle.toml_edit_syntax.specs.declared.lexer.Stop.{Stop}
use Rattle.toml_edit_syntax.specs.Scanning.{scan}
use Rattle.toml_edit_syntax.specs.ValueEvents.{event, shortened}
use Rattle.toml_edit_syntax.specs.ValueReading.{Reading, got, deep, wrong}
use Rattle.toml_edit_syntax.specs.Events.{statement_events, events_from, has_deep_value}
use Rattle.toml_edit_syntax.specs.Reading.{statement_at}
use Rattle.toml_edit_syntax.specs.EventReading.{seen, preceded}
use Rattle.toml_edit_syntax.specs.StatementReading.{statement_read}
use Rattle.toml_edit_syntax.specs.Batches.{EndsWith, IsBatch}
use Rattle.toml_edit_syntax.proofs.Outcomes.{outcome, has_room, no_room}
use Rattle.toml_edit_syntax.proofs.SpanLaws.{AreSpans, Cut, both_spans}
use Rattle.toml_edit_syntax.proofs.StatementLaws.{statement_then, tail_begins, statement_takes, depth_of}
use Rattle.toml_edit_syntax.proofs.StatementLaws.{statement_reads}
use Rattle.toml_edit_syntax.proofs.CutLaws.{statements_fit, statements_stay}
use Rattle.toml_edit_syntax.proofs.CutLaws.{scan_final, scan_leading, scanned_trivia, final_takes}
use Rattle.toml_edit_syntax.proofs.StatementSpans.{statement_spans, final_spans}
use Rattle.toml_edit_syntax.proofs.StatementDeep.{statement_stops_in}
use Rattle.toml_edit_syntax.proofs.DeepEvents.{statement_exceeds}
use Rattle.toml_edit_syntax.proofs.EventSteps.{between, event_is}
use Rattle.toml_edit_laws.proofs.reading.Begins.{ascii_final}
use Rattle.toml_edit_laws.proofs.one_cut.Documents.{first_of, later_of, statements_then, statements_text}
use Rattle.toml_edit_laws.proofs.one_cut.Statements.{leading_of, statement_tail, leading_is}

-- ---- what a turn reads is in the text

module _ (t rest leading tail : Text) (utf8 : IsUtf8 t) (ends : EndsWith t rest) (both : leading ++ tail
    ≡ rest) (trivia : IsWholeTrivia leading) where
  abbrev at : ℕ
  at = length t - length tail - length leading

  here : Cut t at (leading ++ tail)
  here =
      record {
        before = ends.0;
        parts = ends.1 ∙ ap (λ (x : Text). ends.0 ++ x) (sym both);
        len = omega (arith, ap length ends.1, length-append ends.0 rest, ap length both, length-append leading tail);
      }

  -- a statement that was read
  took_by : (r : Reading Statement) (old new : List Event) (next : Text) → statement_at 0 at leading tail ≡ r → AreSpans t old
      → preceded old (seen (λ s _. statement_events at s) r) ≡ got new next
      → AreSpans t new × EndsWith t next
  took_by (got s more) old new next found spans e =
      let new-is : old ++ statement_events at s ≡ new = cc in
      let rest-is : more ≡ next = cc in
      let (is, parts) = statement_takes at leading tail more s trivia found in
      let c : Cut t at (statement_text s ++ more) =
      record { before = here.before; parts = here.parts ∙ ap (λ (x : Text). here.before ++ x) parts; len = here.len } in (
        subst (AreSpans t) new-is (both_spans t old (statement_events at s) spans (statement_spans t more at s is c)),
        (
          here.before ++ statement_text s,
          c.parts ∙ sym (append_assoc here.before (statement_text s) more)
              ∙ ap (λ (x : Text). (here.before ++ statement_text s) ++ x) rest-is,
        ),
      )
  took_by (deep es) old new next found spans e = absurd cc
  took_by wrong old new next found spans e = absurd cc

  pub took : (old new : List Event) (next : Text) → AreSpans t old → preceded old (statement_read (length t) leading tail) ≡ got new next
      → AreSpans t new × EndsWith t next
  took old new next spans e = took_by (statement_at 0 at leading tail) old new next refl spans e

  -- one that has a bracket too many
  stopped_by : (r : Reading Statement) (old new : List Event) → statement_at 0 at leading tail ≡ r → AreSpans t old
      → preceded old (seen (λ s _. statement_events at s) r) ≡ deep new → AreSpans t new
  stopped_by (got s more) old new found spans e = absurd cc
  stopped_by (deep es) old new found spans e =
      let new-is : old ++ es ≡ new = cc in
      subst (AreSpans t) new-is (both_spans t old es spans (statement_stops_in t leading tail at es utf8 trivia here found).1)
  stopped_by wrong old new found spans e = absurd cc

  pub stopped : (old new : List Event) → AreSpans t old → preceded old (statement_read (length t) leading tail) ≡ deep new → AreSpans t new
  stopped old new spans e = stopped_by (statement_at 0 at leading tail) old new refl spans e

-- ---- the trivia before it

module _ (rest leading tail : Text) (n : ℕ) (inside : Bool) (scanned : ◌≡◌ {A = ℕ × Bool} (n, inside) (scan false rest)) (l-is : leading
    ≡ take n rest) (t-is : tail ≡ drop n rest) where
  pub leading_trivia : inside ≡ false → IsWholeTrivia leading
  leading_trivia outside =
      subst IsWholeTrivia (ap (λ (k : ℕ). take k rest) (sym (ap (λ (r : ℕ × Bool). r.0) scanned))
      ∙ sym l-is) (scanned_trivia rest (sym (ap (λ (r : ℕ × Bool). r.1) scanned) ∙ outside))

  pub both_parts : leading ++ tail ≡ rest
  both_parts = ap₂ (λ (x y : Text). x ++ y) l-is t-is ∙ take-append-drop n rest

  -- at the end of the text it is the final one
  is_final : length tail ≡ 0 → IsFinalTrivia rest
  is_final nothing = final_takes rest (ap length (ap (λ (k : ℕ). drop k rest) (sym (ap (λ (r : ℕ × Bool). r.0) scanned)) ∙ sym t-is)
      ∙ nothing)

  pub end_spans : (t : Text) (x : Event) (old new : List Event) → EndsWith t rest → length tail ≡ 0 → x
      ≡ between Final (length t - length rest) (length t) → new ≡ old ++ x ∷ [] → AreSpans t old → AreSpans t new
  end_spans t x old new (before, is) nothing x-is new-is spans =
      let at = length t - length rest in
      let c : Cut t at rest = record { before = before; parts = is; len = omega (arith, ap length is, length-append before rest) } in
      let same : event Final at rest ≡ x =
      event_is Final at at (length t) rest refl (omega (arith, ap length is, length-append before rest)) ∙ sym x-is in
      subst (AreSpans t) (sym new-is) (both_spans t old (x
      ∷ []) spans (subst (λ (e : Event). AreSpans t (e ∷ [])) same (final_spans t rest at (ascii_final rest (is_final nothing)) c)))

-- ---- what is returned

pub matches_err : {A : Type 0} (result : Result A Stop) (why : Stop) (P : A → Type 0) (Q : Stop → Type 0) → IsErrAnd result (λ y. y ≡ why)
    → Q why → MatchResult result P Q
matches_err (Ok a) why P Q h q = absurd h
matches_err (Err y) why P Q h q = subst Q (sym h) q

-- ---- the statements of a text are read again

-- what is scanned of statements is the trivia of the first
module _ (s : Statement) (more : List Statement) (final rest leading tail : Text) (n : ℕ) (inside : Bool) (are : AreStatements final (s
    ∷ more)) (is : rest ≡ statements_text (s ∷ more) ++ final)
    (scanned : ◌≡◌ {A = ℕ × Bool} (n, inside) (scan false rest)) (l-is : leading ≡ take n rest) (t-is : tail ≡ drop n rest) where
  abbrev pub behind_it : Text
  behind_it = statements_text more ++ final

  same : rest ≡ leading_of s ++ statement_tail s behind_it
  same = is ∙ statements_then s more final ∙ statement_then s behind_it

  len-is : n ≡ length (leading_of s)
  len-is =
      let ends = first_of s more final are in
      ap (λ (r : ℕ × Bool). r.0) (scanned ∙ ap (scan false) same
      ∙ (scan_leading (leading_of s) (statement_tail s behind_it) (leading_is s behind_it ends) (tail_begins s behind_it ends)).0)

  pub some_left : 0 < length tail
  some_left =
      let ends = first_of s more final are in
      let some = (scan_leading (leading_of s) (statement_tail s behind_it) (leading_is s behind_it ends)
      (tail_begins s behind_it ends)).1 in
      subst (λ (x : Text). 0 < length x) (sym (t-is ∙ ap (λ (x : Text). drop n x) same
      ∙ drop_at (leading_of s) (statement_tail s behind_it) n (sym len-is))) some

  pub reads_again : (at : ℕ) → statement_at 0 at leading tail
      ≡ outcome (has_room 0 (depth_of s)) s behind_it (shortened 0 (statement_events at s))
  reads_again at =
      ap₂ (λ (x y : Text). statement_at 0 at x y) (l-is ∙ ap (λ (x : Text). take n x) same
      ∙ take_at (leading_of s) (statement_tail s behind_it) n (sym len-is))
      (t-is ∙ ap (λ (x : Text). drop n x) same ∙ drop_at (leading_of s) (statement_tail s behind_it) n (sym len-is))
      ∙ statement_reads 0 at s behind_it (first_of s more final are)

-- the final trivia is scanned to its end
pub nothing_left : (final rest tail : Text) (n : ℕ) (inside : Bool) → IsFinalTrivia final → rest ≡ final
    → ◌≡◌ {A = ℕ × Bool} (n, inside) (scan false rest) → tail ≡ drop n rest → length tail ≡ 0
nothing_left final rest tail n inside last is scanned t-is =
    let len-is : n ≡ length final = ap (λ (r : ℕ × Bool). r.0) (scanned ∙ ap (scan false) is) ∙ scan_final final last in
    ap length (t-is ∙ ap (λ (x : Text). drop n x) is ∙ ap (λ (k : ℕ). drop k final) len-is ∙ drop_all (length final) final (le_refl _))

-- ---- a batch grows

statements_text-snoc : (ss : List Statement) (s : Statement) → statements_text (ss ++ s ∷ []) ≡ statements_text ss ++ statement_text s
statements_text-snoc [] s = append-nil (statement_text s)
statements_text-snoc (r ∷ ss) s = ap (λ (x : Text). statement_text r ++ x) (statements_text-snoc ss s)
    ∙ sym (append_assoc (statement_text r) (statements_text ss) (statement_text s))

events_from-snoc : (at next : ℕ) (ss : List Statement) (s : Statement) → at + length (statements_text ss) ≡ next
    → events_from at (ss ++ s ∷ []) ≡ events_from at ss ++ statement_events next s
events_from-snoc at next [] s place = append-nil (statement_events at s) ∙ ap (λ (k : ℕ). statement_events k s) (omega (arith, place))
events_from-snoc at next (r ∷ ss) s place =
    let behind = at + length (statement_text r) in
    ap (λ (x : List Event). statement_events at r ++ x)
    (events_from-snoc behind next ss s (omega (arith, place, length-append (statement_text r) (statements_text ss))))
    ∙ sym (append_assoc (statement_events at r) (events_from behind ss) (statement_events next s))

fit-snoc : (ss : List Statement) (s : Statement) → statements_fit 0 ss ≡ true → has_room 0 (depth_of s) ≡ true
    → statements_fit 0 (ss ++ s ∷ []) ≡ true
fit-snoc [] s fits room = rw room refl
fit-snoc (r ∷ ss) s fits room =
    elim (cases_Bool (has_room 0 (depth_of r))) [
      | inl first ↦ rw first (fit-snoc ss s (ap (λ (b : Bool). b && statements_fit 0 ss) (sym first) ∙ fits) room)
      | inr none ↦ absurd (let e : false ≡ true = ap (λ (b : Bool). b && statements_fit 0 ss) (sym none) ∙ fits in cc)
    ]

-- Of these statements and this final trivia the first are read, whose values are not too deep, and this is left.
pub record Gone (whole start : ℕ) (ss : List Statement) (final : Text) (es : List Event) (rest : Text) : Type 0 where
  pub here : List Statement
  pub ahead : List Statement
  pub parts : ss ≡ here ++ ahead
  pub fits : statements_fit 0 here ≡ true
  pub events : es ≡ events_from start here
  pub are : AreStatements final ahead
  pub left : rest ≡ statements_text ahead ++ final
  pub place : start + length (statements_text here) ≡ whole - length rest
  pub within : length rest ≤ whole

pub none_gone : (whole : ℕ) (ss : List Statement) (final t : Text) (es : List Event) → AreStatements final ss → t ≡ statements_text ss
    ++ final → es ≡ [] → length t ≤ whole → Gone whole (whole - length t) ss final es t
none_gone whole ss final t es are is nothing within =
    record {
      here = [];
      ahead = ss;
      parts = refl;
      fits = refl;
      events = nothing;
      are = are;
      left = is;
      place = omega arith;
      within =
          within;
    }

module _ (whole start : ℕ) (ss : List Statement) (final : Text) (old : List Event) (rest : Text) (g : Gone whole start ss final old rest)
    (last : IsFinalTrivia final)
    (leading tail : Text) (n : ℕ) (inside : Bool) (scanned : ◌≡◌ {A = ℕ × Bool} (n, inside) (scan false rest)) (l-is : leading
    ≡ take n rest) (t-is : tail ≡ drop n rest) where
  at_is : whole - length tail - length leading ≡ start + length (statements_text g.here)
  at_is =
      let both : leading ++ tail ≡ rest = ap₂ (λ (x y : Text). x ++ y) l-is t-is ∙ take-append-drop n rest in
      omega (arith, g.place, g.within, ap length both, length-append leading tail)

  -- nothing is left
  ended_by : (ahead : List Statement) → AreStatements final ahead → rest ≡ statements_text ahead ++ final → length tail ≡ 0 → (ahead ≡ [])
      × (rest ≡ final)
  ended_by [] are is nothing = (refl, is)
  ended_by (s ∷ more) are is nothing =
      absurd (omega (arith, some_left s more final rest leading tail n inside are is scanned l-is t-is, nothing))

  pub batch_ends : (x : Event) (new : List Event) (any : Text) → length tail ≡ 0 → x ≡ between Final (whole - length rest) whole → new ≡ old
      ++ x ∷ [] → IsBatch whole start ss final new WholeText any
  batch_ends x new any nothing x-is new-is =
      let (none, is) = ended_by g.ahead g.are g.left nothing in
      let final-is : event Final (whole - length final) final ≡ x =
      event_is Final (whole - length final) (whole - length rest) whole final (ap (λ (y : Text). whole - length y) (sym is))
      (omega (arith, g.within, ap length is)) ∙ sym x-is in
      record {
        here = g.here;
        ahead = g.ahead;
        parts = g.parts;
        events = new-is ∙ ap₂ (λ (es : List Event) (e : Event). es ++ e ∷ []) g.events (sym final-is)
            ∙ sym (statements_stay 0 start g.here g.fits (event Final (whole - length final) final ∷ []));
        left = λ e. absurd cc;
        some = λ e. absurd cc;
        none = λ e. none;
        deep = λ e. absurd cc;
      }

  -- some are
  pub more_by : (ahead : List Statement) → AreStatements final ahead → rest ≡ statements_text ahead ++ final → (length tail ≡ 0 → ⊥)
      → (s : Statement) × (more : List Statement) × (ahead ≡ s ∷ more)
  more_by [] are is some = absurd (some (nothing_left final rest tail n inside last is scanned t-is))
  more_by (s ∷ more) are is some = (s, more, refl)

  pub batch_stops : (length tail ≡ 0 → ⊥) → IsBatch whole start ss final old MoreStatements rest
  batch_stops some =
      record {
        here = g.here;
        ahead = g.ahead;
        parts = g.parts;
        events = g.events ∙ sym (append-nil (events_from start g.here)) ∙ sym (statements_stay 0 start g.here g.fits []);
        left = λ e. g.left;
        some = λ e. more_by g.ahead g.are g.left some;
        none = λ e. absurd cc;
        deep = λ e. absurd cc;
      }

  module _ (some : length tail ≡ 0 → ⊥) where
    abbrev pub s : Statement
    s = (more_by g.ahead g.are g.left some).0

    abbrev pub more : List Statement
    more = (more_by g.ahead g.are g.left some).1

    split : g.ahead ≡ s ∷ more
    split = (more_by g.ahead g.are g.left some).2

    all-are : AreStatements final (s ∷ more)
    all-are = subst (λ (x : List Statement). AreStatements final x) split g.are

    all-is : rest ≡ statements_text (s ∷ more) ++ final
    all-is = g.left ∙ ap (λ (x : List Statement). statements_text x ++ final) split

    again : statement_read whole leading tail ≡ seen (λ (r : Statement) (_ : Text). statement_events (start
        + length (statements_text g.here)) r)
        (outcome (has_room 0 (depth_of s)) s (statements_text more
        ++ final) (shortened 0 (statement_events (start + length (statements_text g.here)) s)))
    again =
        ap (λ (k : ℕ). seen (λ (r : Statement) (_ : Text). statement_events k r) (statement_at 0 k leading tail)) at_is
        ∙ ap (seen (λ (r : Statement) (_ : Text). statement_events (start + length (statements_text g.here)) r))
        (reads_again s more final rest leading tail n inside all-are all-is scanned l-is t-is _)

    more-parts : ss ≡ (g.here ++ s ∷ []) ++ more
    more-parts = g.parts ∙ ap (λ (x : List Statement). g.here ++ x) split ∙ sym (append_assoc g.here (s ∷ []) more)

    goes_by : (room : Bool) (new : List Event) (next : Text) → has_room 0 (depth_of s) ≡ room
        → preceded old (seen (λ (r : Statement) (_ : Text). statement_events (start + length (statements_text g.here)) r)
        (outcome room s (statements_text more ++ final) (shortened 0 (statement_events (start + length (statements_text g.here)) s))))
        ≡ got new next
        → Gone whole start ss final new next
    goes_by true new next room e =
        let at = start + length (statements_text g.here) in
        let new-is : old ++ statement_events at s ≡ new = cc in
        let next-is : statements_text more ++ final ≡ next = cc in
        let lens : length rest ≡ length (statement_text s) + length next = ap length (all-is ∙ statements_then s more final)
        ∙ length-append (statement_text s) (statements_text more ++ final)
        ∙ ap (λ (x : Text). length (statement_text s) + length x) next-is in
        record {
          here = g.here ++ s ∷ [];
          ahead = more;
          parts = more-parts;
          fits = fit-snoc g.here s g.fits room;
          events = sym new-is ∙ ap (λ (es : List Event). es ++ statement_events at s) g.events
              ∙ sym (events_from-snoc start at g.here s refl);
          are = later_of s more final all-are;
          left = sym next-is;
          place = omega (
            arith,
            g.place,
            g.within,
            lens,
            ap length (statements_text-snoc g.here s),
            length-append (statements_text g.here) (statement_text s),
          );
          within = omega (arith, g.within, lens);
        }
    goes_by false new next room e = absurd cc

    pub batch_goes : (new : List Event) (next : Text) → preceded old (statement_read whole leading tail) ≡ got new next
        → Gone whole start ss final new next
    batch_goes new next e = goes_by (has_room 0 (depth_of s)) new next refl (ap (preceded old) (sym again) ∙ e)

    deep_by : (room : Bool) (new : List Event) (any : Text) → has_room 0 (depth_of s) ≡ room
        → preceded old (seen (λ (r : Statement) (_ : Text). statement_events (start + length (statements_text g.here)) r)
        (outcome room s (statements_text more ++ final) (shortened 0 (statement_events (start + length (statements_text g.here)) s))))
        ≡ deep new
        → IsBatch whole start ss final new TooManyBrackets any
    deep_by true new any room e = absurd cc
    deep_by false new any room e =
        let at = start + length (statements_text g.here) in
        let es = statement_events at s in
        let new-is : old ++ shortened 0 es ≡ new = cc in
        let said : has_deep_value s ≡ true = statement_exceeds s (no_room 0 (depth_of s) room) in
        record {
          here = g.here ++ s ∷ [];
          ahead = more;
          parts = more-parts;
          events =
              sym new-is ∙ ap (λ (x : List Event). x ++ shortened 0 es) g.events ∙ sym (statements_stay 0 start g.here g.fits es)
              ∙ ap (shortened 0) (sym (events_from-snoc start at g.here s refl))
              ∙ ap (shortened 0) (sym (append-nil (events_from start (g.here ++ s ∷ []))));
          left = λ e. absurd cc;
          some = λ e. absurd cc;
          none = λ e. absurd cc;
          deep = λ e. list_any-append has_deep_value g.here (s ∷ [])
              ∙ ap (λ (b : Bool). list_any has_deep_value g.here || (b || false)) said ∙ or_true (list_any has_deep_value g.here);
        }
      where
        or_true : (x : Bool) → (x || true) ≡ true
        or_true true = refl
        or_true false = refl

    pub batch_deep : (new : List Event) (any : Text) → preceded old (statement_read whole leading tail) ≡ deep new
        → IsBatch whole start ss final new TooManyBrackets any
    batch_deep new any e = deep_by (has_room 0 (depth_of s)) new any refl (ap (preceded old) (sym again) ∙ e)
