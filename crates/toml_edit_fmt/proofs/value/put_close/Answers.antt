-- The end is split into its parts.
use Rattle.std.proofs.Common.{◌≡◌, refl, sym, ap, subst, ◌∙◌, arith, ℕ, ◌+◌, ◌-◌, Bool, true, false, List, [], ◌∷◌, ◌++◌, length, get_or, drop, Option, Some, None, is_some, unwrap_or}
use Rattle.std.proofs.lemmas.List.{take_rest}
use Rattle.std.specs.Borrow.{Bor}
use Rattle.toml_edit_model.specs.OwnedForm.{cut_out}
use Rattle.toml_edit_model.specs.Syntax.{IsClose, comma_text}
use Rattle.toml_edit_model.specs.Text.{Text, one}
use Rattle.toml_edit_laws.proofs.common.StandingLaws.{stands-left, stands-right, cut_out-is}
use Rattle.toml_edit_syntax.specs.declared.event.Event.{Event}
use Rattle.toml_edit_syntax.specs.declared.event.EventKind.{EventKind}
use Rattle.toml_edit_syntax.specs.declared.event.EventKind.TheVariants.{Inner}
use Rattle.toml_edit_syntax.specs.LateEvents.{AreIn}
use Rattle.toml_edit_syntax.specs.ValueEvents.{close_events, event}
use Rattle.toml_edit_fmt_laws.specs.Rules.{Rules}
use Rattle.toml_edit_fmt.specs.MemberView.{AreNext, End, text_of}
use Rattle.toml_edit_fmt.specs.PageView.{Gains, Grows, letters}
use Rattle.toml_edit_fmt.specs.RulesView.{rules_of}
use Rattle.toml_edit_fmt.specs.ValueBits.{before_last, close_bits, comma_bits, inner_bits, inner_text, last_comma_as}
use Rattle.toml_edit_fmt.specs.ValueView.{layout_of, listed, split_comma}
use Rattle.toml_edit_fmt.specs.declared.page.Page.{Page}
use Rattle.toml_edit_fmt.specs.declared.rules.Rules as code
use Rattle.toml_edit_fmt.specs.declared.value.Brackets.{Brackets}
use Rattle.toml_edit_fmt.proofs.ListLaws.{are-left, comma-in, comma-shorter, left_of, left-shorter}
use Rattle.toml_edit_fmt.proofs.PageLaws.{grows-both, grows-by}
use Rattle.toml_edit_fmt.proofs.value.put_close.Goals as goal

comma-splits : (kind : EventKind) (bracket : Text) (at : ℕ) (comma : Bool) (t : Text) (more : List Event)
    → split_comma (close_events kind bracket at comma t ++ more) ≡ (comma, event Inner (at - length t) t ∷ event kind at bracket ∷ more)
comma-splits kind bracket at true t more = refl
comma-splits kind bracket at false t more = refl

pair-parts : (a b : Bool) (xs ys : List Event) → ◌≡◌ {A = Bool × List Event} (a, xs) (b, ys) → (a ≡ b) × (xs ≡ ys)
pair-parts a b xs ys e = (ap (λ (p : Bool × List Event). p.0) e, ap (λ (p : Bool × List Event). p.1) e)

some-is : (after : Option (Bor Text)) → is_some (text_of after) ≡ is_some after
some-is None = refl
some-is (Some t) = refl

closed : (x : Brackets) (after : Option (Bor Text)) (events rest : List Event) (comma has_comma : Bool) (inner before text : Text) (p0 p1 p2 p3 : Page) (d : Event)
    → ◌≡◌ {A = Bool × List Event} (comma, rest) (split_comma events)
    → inner ≡ cut_out p0.source.now (get_or rest 0 d).span.start (get_or rest 0 d).span.end
    → before ≡ before_last (text_of after) comma
    → (IsClose (is_some after) comma inner → text ≡ inner_text (text_of after) comma inner)
    → has_comma ≡ last_comma_as (layout_of x.layout) (rules_of p0.rules) (listed (rules_of p0.rules) x) comma before
    → Grows (comma_bits (rules_of p0.rules) (listed (rules_of p0.rules) x) before has_comma) p0 p1
    → Grows (inner_bits (layout_of x.layout) (rules_of p1.rules) (listed (rules_of p1.rules) x) text) p1 p2
    → Gains (cut_out p2.source.now (get_or rest 1 d).span.start (get_or rest 1 d).span.end) p2 p3
    → (e : End) (at : ℕ) (more : List Event) → AreNext p0.source.now x.is_array events e (text_of after) [] at more
    → (left_of 2 rest ≡ more) × Grows (close_bits (rules_of p0.rules) (listed (rules_of p0.rules) x) (text_of after) e.comma e.inner e.bracket) p0 p3
closed x after events rest comma has_comma inner before text p0 p1 p2 p3 d split inner_is before_is text_is has one_grows two_grows three_gains e at more next =
    let source = p0.source.now in
    let r = rules_of p0.rules in
    let l = listed r x in
    let last = text_of after in
    let start = at + length (unwrap_or last []) + length (comma_text e.comma) in
    let close = start + length e.inner in
    let parts = pair-parts comma e.comma rest (event Inner (close - length e.inner) e.inner ∷ event e.kind close e.bracket ∷ more)
    (split ∙ ap split_comma next.events_are ∙ comma-splits e.kind e.bracket close e.comma e.inner more) in
    let ends = stands-right source _ (comma_text e.comma) (e.inner ++ e.bracket) (stands-right source at (unwrap_or last []) _ next.stands) in
    let inner_same : inner ≡ e.inner = inner_is ∙ ap (λ es. cut_out source (get_or es 0 d).span.start (get_or es 0 d).span.end) parts.1
    ∙ ap (λ n. cut_out source n (n + length e.inner)) (let same : close - length e.inner ≡ start = omega arith in same)
    ∙ cut_out-is source start e.inner (stands-left source start e.inner e.bracket ends) in
    let bracket_same : cut_out p2.source.now (get_or rest 1 d).span.start (get_or rest 1 d).span.end ≡ e.bracket =
    ap (λ es. cut_out p2.source.now (get_or es 1 d).span.start (get_or es 1 d).span.end) parts.1
    ∙ ap (λ s. cut_out s.now close (close + length e.bracket)) (two_grows.source ∙ one_grows.source)
    ∙ cut_out-is source close e.bracket (stands-right source start e.inner e.bracket ends) in
    let before_same : before ≡ before_last last e.comma = before_is ∙ ap (before_last last) parts.0 in
    let has_same : has_comma ≡ last_comma_as l.layout r l e.comma (before_last last e.comma) =
    has ∙ ap (λ k. last_comma_as l.layout r l k before) parts.0 ∙ ap (last_comma_as l.layout r l e.comma) before_same in
    let is_close : IsClose (is_some after) comma inner =
    subst (IsClose (is_some after) comma) (sym inner_same) (subst (λ k. IsClose (is_some after) k e.inner) (sym parts.0)
    (subst (λ k. IsClose k e.comma e.inner) (some-is after) next.close)) in
    let text_same : text ≡ inner_text last e.comma e.inner =
    text_is is_close ∙ ap (λ k. inner_text last k inner) parts.0 ∙ ap (inner_text last e.comma) inner_same in (
      take_rest rest 2 ∙ ap (drop 2) parts.1,
      grows-both (comma_bits r l (before_last last e.comma) (last_comma_as l.layout r l e.comma (before_last last e.comma)))
          (inner_bits l.layout r l (inner_text last e.comma e.inner) ++ one (letters e.bracket)) p0 p1 p3
          (subst (λ k. Grows (comma_bits r l (before_last last e.comma) k) p0 p1) has_same
          (subst (λ t. Grows (comma_bits r l t has_comma) p0 p1) before_same one_grows))
          (grows-both (inner_bits l.layout r l (inner_text last e.comma e.inner)) (one (letters e.bracket)) p1 p2 p3
          (subst (λ t. Grows (inner_bits l.layout r l t) p1 p2) text_same
          (subst (λ (q : code.Rules). Grows (inner_bits l.layout (rules_of q) (listed (rules_of q) x) text) p1 p2) one_grows.rules two_grows))
          (grows-by e.bracket p2 p3 (subst (λ t. Gains t p2 p3) bracket_same three_gains))),
    )

pub returns-clause-close : goal.returns-clause-close
returns-clause-close c =
    closed c.args.list.now c.args.after c.args.events.now c.split_comma-comma.result.1.now _ _ _ _ _ c.args.page.now c.put_comma.new.page c.put_inner.new.page c.put_event.new.self _
    c.split_comma-comma.ensures c.text_of.ensures c.texts_at_end.ensures.before c.texts_at_end.ensures.inner c.has_last_comma-has_comma.ensures
    c.in_ok-put_comma.ensures c.in_ok-put_inner.ensures c.in_ok-put_event.ensures

pub returns-clause-rest : goal.returns-clause-rest
returns-clause-rest c =
    let source = c.args.page.now.source.now in
    let rest = c.split_comma-comma.result.1.now in
    let split = ap (λ (p : Bool × List Event). p.1) c.split_comma-comma.ensures in
    record {
      spans = are-left source 2 rest (subst (AreIn source) (sym split) (comma-in source c.args.events.now c.requires.spans));
      shorter = omega (arith, left-shorter 2 rest, ap length split, comma-shorter c.args.events.now);
      source = c.in_ok-put_event.ensures.source ∙ c.in_ok-put_inner.ensures.source ∙ c.in_ok-put_comma.ensures.source;
      rules = c.in_ok-put_event.ensures.rules ∙ c.in_ok-put_inner.ensures.rules ∙ c.in_ok-put_comma.ensures.rules;
    }
