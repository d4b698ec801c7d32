-- The walk over the statements of a document: how far it is, and its steps.
use Rattle.std.proofs.Common.{◌≡◌, ◌≤◌, ◌<◌, ℕ, suc, ◌+◌, ◌-◌, Bool, true, false, cond, ◌==◌, List, [], ◌∷◌, ◌++◌, length, map, refl, sym, ap, subst, ◌∙◌}
use Rattle.std.proofs.Common.{append_assoc, append-nil, get_or, arith, inl, inr}
use Rattle.std.specs.Prelude.{◌||◌}
use Rattle.std.specs.List.{list_any}
use Rattle.std.proofs.lemmas.Bool.{cases_Bool, false≢true}
use Rattle.std.proofs.lemmas.Bool.Decides.{nat_tests}
use Rattle.std.proofs.lemmas.List.{length-append}
use Rattle.std.proofs.lemmas.List.Folds.{list_any-append}
use Rattle.toml_edit_model.specs.Text.{Text, joined}
use Rattle.toml_edit_model.specs.Syntax.{Statement, key_line, header, Document, AreStatements, IsCut, depth, mark_text, nesting_limit, statement_text}
use Rattle.toml_edit_model.specs.Trivia.{IsFinalTrivia}
use Rattle.toml_edit_laws.proofs.common.Tests.{or-left, or-right, or-true}
use Rattle.toml_edit_syntax.specs.declared.event.Event.{Event}
use Rattle.toml_edit_syntax.specs.declared.event.EventKind.{EventKind}
use Rattle.toml_edit_syntax.specs.declared.event.EventKind.TheVariants.{Final, Leading, LineEnd, TooDeep}
use Rattle.toml_edit_syntax.specs.declared.lexer.BatchEnd.{BatchEnd}
use Rattle.toml_edit_syntax.specs.declared.lexer.BatchEnd.TheVariants.{MoreStatements, WholeText, TooManyBrackets}
use Rattle.toml_edit_syntax.specs.Batches.{IsBatch, last_events}
use Rattle.toml_edit_syntax.specs.Events.{events_from, has_deep_value, statement_events}
use Rattle.toml_edit_syntax.specs.LateEvents.{AreIn}
use Rattle.toml_edit_syntax.specs.ValueEvents.{event, opens, closes, is_too_deep, shortened}
use Rattle.toml_edit_syntax.proofs.ShortenedLaws.{Fits, Stays, stays_then}
use Rattle.toml_edit_syntax.proofs.StatementLaws.{depth_of, statement_stays}
use Rattle.toml_edit_fmt_laws.specs.Formatted.{leading_of}
use Rattle.toml_edit_fmt.specs.TextView.{HandedOn, TookAll, TookDocument, ends_deep}
use Rattle.toml_edit_fmt.proofs.StatementEvents.{parts-of}

abbrev text_of : List Statement → Text
text_of ss = joined (map statement_text ss)

texts-append : (a b : List Statement) → text_of (a ++ b) ≡ text_of a ++ text_of b
texts-append [] b = refl
texts-append (s ∷ a) b = ap (λ (x : Text). statement_text s ++ x) (texts-append a b) ∙ sym (append_assoc (statement_text s) (text_of a) (text_of b))

-- ---- statements one after another

took-both : {S : Type 0} (takes : List Event → S → S → Type 0) (start : ℕ) (a b : List Statement) (old mid new : S)
    → TookAll takes start a old mid → TookAll takes (start + length (text_of a)) b mid new → TookAll takes start (a ++ b) old new
took-both {S} takes start [] b old mid new h later =
    subst (λ (x : S). TookAll takes start b x new) h (subst (λ n. TookAll takes n b mid new) (let e : start + 0 ≡ start = omega arith in e) later)
took-both takes start (s ∷ a) b old mid new (next, first, rest) later =
    let e : start + length (statement_text s ++ text_of a) ≡ start + length (statement_text s) + length (text_of a) =
    omega (arith, length-append (statement_text s) (text_of a)) in (
      next,
      first,
      took-both takes (start + length (statement_text s)) a b next mid new rest (subst (λ n. TookAll takes n b mid new) e later),
    )

-- ---- in a batch

pub in-rest : (t : Text) (a b : List Event) → AreIn t (a ++ b) → AreIn t b
in-rest t [] b h = h
in-rest t (e ∷ a) b h = in-rest t a b h.1

-- Some of these statements were taken, and the events of the others are left, before these.
pub record Left {S : Type 0} (takes : List Event → S → S → Type 0) (start : ℕ) (ss : List Statement) (last : List Event) (old now : S)
    (rest : List Event) : Type 0 where
  pub done : List Statement
  pub left : List Statement
  pub parts : ss ≡ done ++ left
  pub took : TookAll takes start done old now
  pub rest_is : rest ≡ events_from (start + length (text_of done)) left ++ last

pub none-taken : {S : Type 0} (takes : List Event → S → S → Type 0) (start : ℕ) (ss : List Statement) (last : List Event) (old : S)
    (rest : List Event) → rest ≡ events_from start ss ++ last → Left takes start ss last old old rest
none-taken takes start ss last old rest e =
    record {
      done = [];
      left = ss;
      parts = refl;
      took = refl;
      rest_is = e ∙ ap (λ n. events_from n ss ++ last) (let e : start ≡ start + 0 = omega arith in e);
    }

module _ {S : Type 0} (takes : List Event → S → S → Type 0) (start : ℕ) (ss : List Statement) (last : List Event) (old now : S)
    (rest : List Event) where
  next-of : (done left : List Statement) (statement after : List Event) (new : S) → ss ≡ done ++ left → TookAll takes start done old now
      → rest ≡ events_from (start + length (text_of done)) left ++ last → (rest ≡ last → ⊥)
      → ((s : Statement) (at : ℕ) (more : List Event) → rest ≡ statement_events at s ++ more
      → (statement ≡ statement_events at s) × (after ≡ more))
      → takes statement now new → Left takes start ss last old new after
  next-of done [] statement after new parts took is some told takes-it = absurd (some is)
  next-of done (s ∷ left) statement after new parts took is some told takes-it =
      let at = start + length (text_of done) in
      let behind = events_from (at + length (statement_text s)) left ++ last in
      let (first, later) = told s at behind (is ∙ append_assoc (statement_events at s) (events_from (at + length (statement_text s)) left) last) in
      let there : at + length (statement_text s) ≡ start + length (text_of (done ++ (s ∷ []))) =
      omega (arith, ap length (texts-append done (s ∷ [])), length-append (text_of done) (text_of (s ∷ [])), length-append (statement_text s) []) in
      record {
        done = done ++ (s ∷ []);
        left = left;
        parts = parts ∙ sym (append_assoc done (s ∷ []) left);
        took = took-both takes start done (s ∷ []) old now new took (new, subst (λ (es : List Event). takes es now new) first takes-it, refl);
        rest_is = later ∙ ap (λ n. events_from n left ++ last) there;
      }

  -- the next one is taken
  pub next-taken : (statement after : List Event) (new : S) → Left takes start ss last old now rest → (rest ≡ last → ⊥)
      → ((s : Statement) (at : ℕ) (more : List Event) → rest ≡ statement_events at s ++ more
      → (statement ≡ statement_events at s) × (after ≡ more))
      → takes statement now new → Left takes start ss last old new after
  next-taken statement after new l = next-of l.done l.left statement after new l.parts l.took l.rest_is

  all-of : (done left : List Statement) → ss ≡ done ++ left → TookAll takes start done old now
      → rest ≡ events_from (start + length (text_of done)) left ++ last
      → ((s : Statement) (at : ℕ) (more : List Event) → rest ≡ statement_events at s ++ more → ⊥)
      → TookAll takes start ss old now × (rest ≡ last)
  all-of done [] parts took is none = (subst (λ (x : List Statement). TookAll takes start x old now) (sym (parts ∙ append-nil done)) took, is)
  all-of done (s ∷ left) parts took is none =
      let at = start + length (text_of done) in
      absurd (none s at _ (is ∙ append_assoc (statement_events at s) (events_from (at + length (statement_text s)) left) last))

  -- none is left
  pub all-taken : Left takes start ss last old now rest
      → ((s : Statement) (at : ℕ) (more : List Event) → rest ≡ statement_events at s ++ more → ⊥)
      → TookAll takes start ss old now × (rest ≡ last)
  all-taken l = all-of l.done l.left l.parts l.took l.rest_is

module _ {S : Type 0} (takes : List Event → S → S → Type 0) (takes_last : Event → S → S → Type 0) (start : ℕ) (ss : List Statement)
    (old now : S) (took : TookAll takes start ss old now) where
  pub handed-all : (last rest : List Event) → rest ≡ last → length rest < 1 → HandedOn takes takes_last start ss last old now
  handed-all [] rest same few = took
  handed-all (e ∷ es) rest same few = absurd (omega (arith, ap (λ (x : List Event). length x) same))

  pub handed-last : (last rest : List Event) (d : Event) (new : S) → rest ≡ last → 1 ≤ length rest → takes_last (get_or rest 0 d) now new
      → HandedOn takes takes_last start ss last old new
  handed-last [] rest d new same some h = absurd (omega (arith, ap (λ (x : List Event). length x) same))
  handed-last (e ∷ es) rest d new same some h =
      (now, took, subst (λ (x : Event). takes_last x now new) (ap (λ (x : List Event). get_or x 0 d) same) h)

-- ---- events up to a bracket that is one too many

pub last-deep : (es : List Event) (d : Event) → 1 ≤ length es → ends_deep es ≡ is_too_deep (get_or es (length es - 1) d).kind
last-deep [] d some = absurd (omega (arith, some))
last-deep (e ∷ []) d some = refl
last-deep (e ∷ f ∷ es) d some =
    let at : length (e ∷ f ∷ es) - 1 ≡ suc (length (f ∷ es) - 1) = omega arith in
    last-deep (f ∷ es) d (omega arith) ∙ ap (λ i. is_too_deep (get_or (e ∷ f ∷ es) i d).kind) (sym at)

pub not-deep : (k : EventKind) → (k ≡ TooDeep → ⊥) → is_too_deep k ≡ false
not-deep TooDeep n = absurd (n refl)
not-deep _ n = refl

kept : (e : Event) (xs es : List Event) → (ends_deep xs ≡ false → xs ≡ es) → ends_deep (e ∷ xs) ≡ false → ◌≡◌ {A = List Event} (e ∷ xs) (e ∷ es)
kept e [] es same h = ap (λ (x : List Event). e ∷ x) (same refl)
kept e (x ∷ xs) es same h = ap (λ (x : List Event). e ∷ x) (same h)

kept-by : (o full c : Bool) (e : Event) (level : ℕ) (es : List Event) → ((n : ℕ) → ends_deep (shortened n es) ≡ false → shortened n es ≡ es)
    → ends_deep (cond o (cond full (record e { kind = TooDeep } ∷ []) (e ∷ shortened (suc level) es)) (cond c (e ∷ shortened (level - 1) es) (e
    ∷ shortened level es))) ≡ false
    → cond o (cond full (record e { kind = TooDeep } ∷ []) (e ∷ shortened (suc level) es)) (cond c (e ∷ shortened (level - 1) es) (e
    ∷ shortened level es)) ≡ e ∷ es
kept-by true true c e level es same h = absurd cc
kept-by true false c e level es same h = kept e (shortened (suc level) es) es (same (suc level)) h
kept-by false full true e level es same h = kept e (shortened (level - 1) es) es (same (level - 1)) h
kept-by false full false e level es same h = kept e (shortened level es) es (same level) h

-- where the last one is none, all are there
all-there : (es : List Event) (level : ℕ) → ends_deep (shortened level es) ≡ false → shortened level es ≡ es
all-there [] level h = refl
all-there (e ∷ es) level h = kept-by (opens e.kind) (level == nesting_limit) (closes e.kind) e level es (all-there es) h

ends-later : (x : Event) (a : List Event) (e : Event) (rest : List Event) → ends_deep (x ∷ (a ++ (e ∷ rest))) ≡ ends_deep (a ++ (e ∷ rest))
ends-later x [] e rest = refl
ends-later x (y ∷ a) e rest = refl

behind-line : (front : List Event) (e : Event) (rest : List Event) → e.kind ≡ LineEnd → ends_deep rest ≡ false
    → ends_deep (front ++ (e ∷ rest)) ≡ false
behind-line [] e [] is h = ap is_too_deep is
behind-line [] e (r ∷ rest) is h = h
behind-line (x ∷ front) e rest is h = ends-later x front e rest ∙ behind-line front e rest is h

statements-end : (ss : List Statement) (start : ℕ) (last : List Event) → ends_deep last ≡ false → ends_deep (events_from start ss ++ last) ≡ false
statements-end [] start last h = h
statements-end (s ∷ ss) start last h =
    let p = parts-of start s in
    let front = event Leading start (leading_of s) ∷ p.inner in
    let behind = events_from (start + length (statement_text s)) ss ++ last in
    let whole = append_assoc (statement_events start s) (events_from (start + length (statement_text s)) ss) last
    ∙ ap (λ (x : List Event). x ++ behind) p.parts ∙ append_assoc front (p.last ∷ []) behind in
    ap ends_deep whole ∙ behind-line front p.last behind p.kind (statements-end ss (start + length (statement_text s)) last h)

fits : (s : Statement) → has_deep_value s ≡ false → Fits 0 (depth_of s)
fits (key_line f v end) h = λ _. let few : depth v ≤ nesting_limit = grind (arith, nat_tests) in omega (arith, few)
fits (header h end) none = λ _. omega arith

stay : (start : ℕ) (ss : List Statement) → list_any has_deep_value ss ≡ false → Stays 0 (events_from start ss)
stay start [] h = λ more. refl
stay start (s ∷ ss) h =
    stays_then 0 (statement_events start s) (events_from (start + length (statement_text s)) ss)
    (statement_stays 0 start s (fits s (or-left (has_deep_value s) (list_any has_deep_value ss) h)))
    (stay (start + length (statement_text s)) ss (or-right (has_deep_value s) (list_any has_deep_value ss) h))

last-stays : (end : BatchEnd) (whole : ℕ) (final : Text) → shortened 0 (last_events end whole final) ≡ last_events end whole final
last-stays MoreStatements whole final = refl
last-stays WholeText whole final = refl
last-stays TooManyBrackets whole final = refl

last-ends : (end : BatchEnd) (whole : ℕ) (final : Text) → ends_deep (last_events end whole final) ≡ false
last-ends MoreStatements whole final = refl
last-ends WholeText whole final = refl
last-ends TooManyBrackets whole final = refl

-- where it is one, a value is too deep
deep-here : (start : ℕ) (here : List Statement) (end : BatchEnd) (whole : ℕ) (final : Text)
    → ends_deep (shortened 0 (events_from start here ++ last_events end whole final)) ≡ true → list_any has_deep_value here ≡ true
deep-here start here end whole final h =
    elim (cases_Bool (list_any has_deep_value here)) [
      | inl is ↦ is
      | inr none ↦
          let last = last_events end whole final in
          let all = stay start here none last ∙ ap (λ (x : List Event). events_from start here ++ x) (last-stays end whole final) in
          absurd (false≢true (sym (ap ends_deep all ∙ statements-end here start last (last-ends end whole final)) ∙ h))
    ]

-- ---- batch after batch

-- Some statements of the document were taken, and the text of the others is left.
pub record Between {S : Type 0} (takes : List Event → S → S → Type 0) (d : Document) (rest : Text) (old now : S) : Type 0 where
  pub done : List Statement
  pub left : List Statement
  pub parts : d.statements ≡ done ++ left
  pub took : TookAll takes (length (mark_text d.has_mark)) done old now
  pub rest_is : rest ≡ text_of left ++ d.final

pub at-start : {S : Type 0} (takes : List Event → S → S → Type 0) (d : Document) (rest : Text) (old : S) → rest ≡ text_of d.statements
    ++ d.final → Between takes d rest old old
at-start takes d rest old e = record { done = []; left = d.statements; parts = refl; took = refl; rest_is = e }

are-left : (final : Text) (done left : List Statement) → AreStatements final (done ++ left) → AreStatements final left
are-left final [] left h = h
are-left final (s ∷ []) [] h = tt
are-left final (s ∷ []) (r ∷ left) h = h.1
are-left final (s ∷ r ∷ done) left h = are-left final (r ∷ done) left h.1

module _ {S : Type 0} (takes : List Event → S → S → Type 0) (takes_last : Event → S → S → Type 0) (t : Text) (d : Document) (cut : IsCut d t)
    (rest : Text) (old now : S) (p : Between takes d rest old now) where
  pub grammar-left : AreStatements d.final p.left
  grammar-left = are-left d.final p.done p.left (subst (AreStatements d.final) p.parts cut.0.0)

  abbrev start : ℕ
  start = length (mark_text d.has_mark) + length (text_of p.done)

  place : length t - length rest ≡ start
  place =
      let mark = mark_text d.has_mark in
      let whole = ap (λ (x : Text). length x) (sym cut.1) ∙ length-append mark (text_of d.statements ++ d.final) in
      let both = ap (λ (ss : List Statement). length (text_of ss ++ d.final)) p.parts ∙ length-append (text_of (p.done ++ p.left)) d.final in
      let parts = ap (λ (x : Text). length x) (texts-append p.done p.left) ∙ length-append (text_of p.done) (text_of p.left) in
      let later = ap (λ (x : Text). length x) p.rest_is ∙ length-append (text_of p.left) d.final in
      omega (arith, whole, both, parts, later)

  module _ (items es : List Event) (end : BatchEnd) (behind_it : Text) (same : es ≡ items)
      (told : (ss : List Statement) (final : Text) → AreStatements final ss → IsFinalTrivia final → rest ≡ text_of ss ++ final
      → IsBatch (length t) (length t - length rest) ss final items end behind_it) where
    abbrev b : IsBatch (length t) (length t - length rest) p.left d.final items end behind_it
    b = told p.left d.final grammar-left cut.0.1 p.rest_is

    abbrev last : List Event
    last = last_events end (length t) d.final

    events : es ≡ shortened 0 (events_from start b.here ++ last)
    events = same ∙ b.events ∙ ap (λ i. shortened 0 (events_from i b.here ++ last)) place

    all-parts : d.statements ≡ p.done ++ (b.here ++ b.ahead)
    all-parts = p.parts ∙ ap (λ (x : List Statement). p.done ++ x) b.parts

    deep-in : list_any has_deep_value b.here ≡ true → list_any has_deep_value d.statements ≡ true
    deep-in h =
        ap (list_any has_deep_value) all-parts ∙ list_any-append has_deep_value p.done (b.here ++ b.ahead)
        ∙ ap (λ x. list_any has_deep_value p.done || x) (list_any-append has_deep_value b.here b.ahead
        ∙ ap (λ x. x || list_any has_deep_value b.ahead) h) ∙ or-true (list_any has_deep_value p.done)

    -- a value of the document is too deep
    pub deep-events : ends_deep es ≡ true → list_any has_deep_value d.statements ≡ true
    deep-events is = deep-in (deep-here start b.here end (length t) d.final (sym (ap ends_deep events) ∙ is))

    pub deep-end : end ≡ TooManyBrackets → list_any has_deep_value d.statements ≡ true
    deep-end is = deep-in (b.deep is)

    module _ (new : S) (none : ends_deep es ≡ false) (handed : (ss : List Statement) (at : ℕ) (x : BatchEnd) (whole : ℕ) (final : Text)
        → es ≡ events_from at ss ++ last_events x whole final → HandedOn takes takes_last at ss (last_events x whole final) now new) where
      handed-as : (x : BatchEnd) → end ≡ x → HandedOn takes takes_last start b.here (last_events x (length t) d.final) now new
      handed-as x is =
          subst (λ (y : BatchEnd). HandedOn takes takes_last start b.here (last_events y (length t) d.final) now new) is
          (handed b.here start end (length t) d.final
          (events ∙ all-there (events_from start b.here ++ last) 0 (sym (ap ends_deep events) ∙ none)))

      -- the next batch begins where this one ends
      pub next-batch : end ≡ MoreStatements → Between takes d behind_it old new
      next-batch is =
          record {
            done = p.done ++ b.here;
            left = b.ahead;
            parts = all-parts ∙ sym (append_assoc p.done b.here b.ahead);
            took = took-both takes (length (mark_text d.has_mark)) p.done b.here old now new p.took (handed-as MoreStatements is);
            rest_is = b.left is;
          }

      -- or all were taken
      pub whole-document : end ≡ WholeText → TookDocument takes takes_last d old new
      whole-document is =
          let (mid, took, final) = handed-as WholeText is in
          let all = all-parts ∙ ap (λ (x : List Statement). p.done ++ (b.here ++ x)) (b.none is)
          ∙ ap (λ (x : List Statement). p.done ++ x) (append-nil b.here) in (
            mid,
            subst (λ (x : List Statement). TookAll takes (length (mark_text d.has_mark)) x old mid) (sym all)
                (took-both takes (length (mark_text d.has_mark)) p.done b.here old now mid p.took took),
            subst (λ (x : Text). takes_last (event Final (length x - length d.final) d.final) mid new) (sym cut.1) final,
          )
