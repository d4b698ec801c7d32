-- The statements of a document, laid out one after another.
use Rattle.std.proofs.Common.{◌≡◌, ◌⊎◌, ℕ, ◌+◌, ◌-◌, List, [], ◌∷◌, ◌++◌, length, map, string_bytes, refl, sym, ap, ap₂, subst, ◌∙◌, append_assoc, append-nil}
use Rattle.std.proofs.Common.{inl, inr, arith}
use Rattle.std.proofs.lemmas.List.{length-append}
use Rattle.std.specs.List.{list_any}
use Rattle.std.specs.Prelude.{Bool, true, false, cond, not, ◌&&◌, ◌||◌, codes, IfErr, IfOk, Result, Ok, Err}
use Rattle.std.specs.declared.string.String.{String}
use Rattle.toml_edit_model.specs.Comments.{comments}
use Rattle.toml_edit_model.specs.Text.{Text, joined, one}
use Rattle.toml_edit_model.specs.Trivia.{IsNewline}
use Rattle.toml_edit_model.specs.Syntax.{Statement, key_line, header, Document, AreStatements, IsStatement, IsCut, document_text, mark_text}
use Rattle.toml_edit_model.specs.Syntax.{newline_after, statement_text}
use Rattle.toml_edit_laws.specs.Standing.{Stands}
use Rattle.toml_edit_laws.proofs.common.StandingLaws.{stands-left, stands-right}
use Rattle.toml_edit_laws.proofs.read_trees.MentionsStand.{final-stands, statements-stand}
use Rattle.toml_edit_syntax.specs.declared.event.EventKind.TheVariants.{Final}
use Rattle.toml_edit_syntax.specs.ValueEvents.{event}
use Rattle.toml_edit_fmt_laws.specs.Aligned.{formatted}
use Rattle.toml_edit_fmt_laws.specs.Formatted.{State, after, has_part, keys_below, leading_of, off_after, reached, start, state_after, stays}
use Rattle.toml_edit_fmt_laws.specs.Promises.{PlacesAreLaid}
use Rattle.toml_edit_fmt_laws.specs.Rules.{Rules}
use Rattle.toml_edit_fmt.specs.LayoutView.{Lays, LaysEvents, LaysLast, document_bits, final_bits, lay_bits, statements_bits}
use Rattle.toml_edit_fmt.specs.PageView.{Gains, Grows, grown, letters, parts_of, run_ended, written}
use Rattle.toml_edit_fmt.specs.RulesView.{comments_of, rules_of}
use Rattle.toml_edit_fmt.specs.StatementView.{IsOneStatement}
use Rattle.toml_edit_fmt.specs.StateView.{passed, state_of}
use Rattle.toml_edit_fmt.specs.TextView.{IsEnded, IsFormatted, IsRefused, TookAll, TookDocument}
use Rattle.toml_edit_fmt.specs.ValueBits.{statement_bits}
use Rattle.toml_edit_fmt.specs.declared.fault.FormatFault.{FormatFault}
use Rattle.toml_edit_fmt.specs.declared.fault.FormatFault.TheVariants.{Memory}
use Rattle.toml_edit_fmt.specs.declared.page.Page.{Page}
use Rattle.toml_edit_fmt.specs.declared.text.Layout.{Layout}
use Rattle.toml_edit_fmt.proofs.PageLaws.{gains-both, grows-both, grows-by}
use Rattle.toml_edit_fmt.proofs.Whole.{whole}

abbrev text_of : List Statement → Text
text_of ss = joined (map statement_text ss)

-- ---- a statement of several

may-end : (P Q : Text → Type 0) (s : Statement) → ((t : Text) → P t → Q t) → IsStatement P s → IsStatement Q s
may-end P Q (key_line f v end) more h = (h.0, h.1, more end h.2)
may-end P Q (header h end) more is = (is.0, more end is.1)

ending : (P : Text → Type 0) (s : Statement) → IsStatement P s → P (newline_after s)
ending P (key_line f v end) h = h.2
ending P (header h end) is = is.1

first-is : (final : Text) (s : Statement) (ss : List Statement) → AreStatements final (s ∷ ss) → IsOneStatement s
first-is final s [] h = may-end (λ end. IsNewline end ⊎ ((end ≡ []) × (final ≡ []))) (λ end. IsNewline end ⊎ (end ≡ [])) s (λ end e. elim e [ inl newline ↦ inl newline | inr none ↦ inr none.0 ]) h
first-is final s (r ∷ ss) h = may-end IsNewline (λ end. IsNewline end ⊎ (end ≡ [])) s (λ end e. inl e) h.0

others-are : (final : Text) (s : Statement) (ss : List Statement) → AreStatements final (s ∷ ss) → AreStatements final ss
others-are final s [] h = tt
others-are final s (r ∷ ss) h = h.1

first-ends : (t final : Text) (at : ℕ) (s : Statement) (ss : List Statement) → AreStatements final (s ∷ ss)
    → length t ≡ at + length (statement_text s ++ (text_of ss ++ final)) → IsEnded t at s
first-ends t final at s [] h size =
    elim (ending (λ end. IsNewline end ⊎ ((end ≡ []) × (final ≡ []))) s h) [
      | inl newline ↦ inl newline
      | inr (none, last) ↦ inr (
        none,
        size ∙ ap (λ (x : Text). at + length (statement_text s ++ x)) last ∙ ap (λ (x : Text). at + length x) (append-nil (statement_text s)),
      )
    ]
first-ends t final at s (r ∷ ss) h size = inl (ending IsNewline s h.0)

-- ---- one after another

-- A page that has grown by these bits, in this state.
record Grown (r : Rules) (final : Text) (at : ℕ) (ss : List Statement) (old new : Layout) : Type 0 where
  pub page : Grows (statements_bits r (state_of old.state) ss) old.page new.page
  pub state : state_of new.state ≡ state_after r (state_of old.state) ss

laid : (ss : List Statement) (r : Rules) (t final : Text) (at : ℕ) (old new : Layout) → rules_of old.page.rules ≡ r
    → old.page.source.now ≡ t → AreStatements final ss → Stands t at (text_of ss ++ final) → length t ≡ at + length (text_of ss ++ final)
    → TookAll LaysEvents at ss old new → Grown r final at ss old new
laid [] r t final at old new rules source are there size took =
    record {
      page = subst (λ (x : Layout). Grows [] old.page x.page) (sym took) (record { source = refl; rules = refl; written = refl });
      state = ap (λ (x : Layout). state_of x.state) took;
    }
laid (s ∷ ss) r t final at old new rules source are there size (mid, takes, took) =
    let behind : Text = text_of ss ++ final in
    let same = append_assoc (statement_text s) (text_of ss) final in
    let here : Stands t at (statement_text s ++ behind) = subst (Stands t at) same there in
    let long = size ∙ ap (λ (x : Text). at + length x) same in
    let ended = first-ends t final at s ss are long in
    let lays : Lays s old mid =
    takes s at (first-is final s ss are) (subst (λ (x : Text). Stands x at (statement_text s)) (sym source) (stands-left t at (statement_text s) behind here))
    refl (subst (λ (x : Text). IsEnded x at s) (sym source) ended) in
    let state = lays.state ∙ ap (λ x. after x (state_of old.state) s) rules in
    let more = laid ss r t final (at + length (statement_text s)) mid new (ap rules_of lays.page.rules ∙ rules) (ap (λ x. x.now) lays.page.source ∙ source)
    (others-are final s ss are) (stands-right t at (statement_text s) behind here)
    (let both = length-append (statement_text s) behind in omega (arith, long, both)) took in
    let first = subst (λ x. Grows (lay_bits x (state_of old.state) s) old.page mid.page) rules lays.page in
    let rest = subst (λ x. Grows (statements_bits r x ss) mid.page new.page) state more.page in
    record {
      page = grows-both (lay_bits r (state_of old.state) s) (statements_bits r (after r (state_of old.state) s) ss) old.page mid.page new.page
          first rest;
      state = more.state ∙ ap (λ x. state_after r x ss) state;
    }

-- the page of a whole document
document-laid : (d : Document) (old new : Layout) → IsCut d old.page.source.now → state_of old.state ≡ start
    → TookDocument LaysEvents LaysLast d old new → Grows (document_bits (rules_of old.page.rules) d) old.page new.page
document-laid d old new cut at-start (mid, took, last) =
    let t = old.page.source.now in
    let r = rules_of old.page.rules in
    let at = length (mark_text d.has_mark) in
    let body : Text = text_of d.statements ++ d.final in
    let there = subst (λ (x : Text). Stands x at body) cut.1 (statements-stand d) in
    let size = ap (λ (x : Text). length x) (sym cut.1) ∙ length-append (mark_text d.has_mark) body in
    let all = laid d.statements r t d.final at old mid refl refl cut.0.0 there size took in
    let source : mid.page.source.now ≡ t = ap (λ x. x.now) all.page.source in
    let end = subst (λ (x : Text). Stands x (length (document_text d) - length d.final) d.final) (cut.1 ∙ sym source) (final-stands d) in
    let final = last d.final (length (document_text d) - length d.final) end refl in
    let state = all.state ∙ ap (λ x. state_after r x d.statements) at-start in
    grows-both (statements_bits r start d.statements) (final_bits r (state_after r start d.statements) d.final) old.page mid.page new.page
    (subst (λ x. Grows (statements_bits r x d.statements) old.page mid.page) at-start all.page)
    (subst (λ x. Grows (final_bits r x d.final) mid.page new.page) state
    (subst (λ x. Grows (final_bits (rules_of x) (state_of mid.state) d.final) mid.page new.page) all.page.rules final))

-- and its text, after the mark
pub document-written : PlacesAreLaid → (d : Document) (old new : Layout) → IsCut d old.page.source.now → state_of old.state ≡ start
    → written old.page ≡ record { text = []; run = [] } → TookDocument LaysEvents LaysLast d old new
    → mark_text d.has_mark ++ run_ended (comments_of new.page.rules.comments) (parts_of new.page.run.items) (string_bytes new.page.text)
    ≡ document_text (formatted (rules_of old.page.rules) d)
document-written laws d old new cut at-start empty took =
    let r = rules_of old.page.rules in
    let g = document-laid d old new cut at-start took in
    let w = g.written ∙ ap (grown r.comments (document_bits r d)) empty in
    ap (λ x. mark_text d.has_mark ++ run_ended (comments_of x.comments) (parts_of new.page.run.items) (string_bytes new.page.text)) g.rules
    ∙ ap (λ x. mark_text d.has_mark ++ run_ended r.comments x.run x.text) w ∙ whole r d laws cut.0

pub formatted-all : {E Z : Type 0} (r : Rules) (t page : Text) (result : Result (String Z) E)
    → ((d : Document) → IsCut d t → mark_text d.has_mark ++ page ≡ document_text (formatted r d))
    → ((d : Document) → IsCut d t → IfOk result (λ s. string_bytes s ≡ mark_text d.has_mark ++ page))
    → IfOk result (λ s. IsFormatted r t (string_bytes s))
formatted-all r t page (Ok s) whole told = λ d cut. told d cut ∙ whole d cut
formatted-all r t page (Err e) whole told = tt

-- ---- one statement

passed-after : (r : Rules) (st : State) (s : Statement) → passed (reached r st (leading_of s)) s ≡ after r st s
passed-after r st s = by_test (not r.left_alone)
  where
    by_test : (b : Bool) → (let here = cond b st (record st {
      is_off = off_after st.is_off (comments (leading_of s));
      is_generated = st.is_generated || (st.is_start && list_any (has_part (codes "@generated")) (comments (leading_of s)));
    }) in passed here s ≡ record here { is_start = false; keys = keys_below st.keys s })
    by_test true = refl
    by_test false = refl

module _ (s : Statement) (old new : Layout) (st : State) (reach : st ≡ reached (rules_of old.page.rules) (state_of old.state) (leading_of s))
    (pass : state_of new.state ≡ passed st s) where
  abbrev r : Rules
  r = rules_of old.page.rules

  lays-as : (b : Bool) → stays st ≡ b
      → Grows (cond b (one (letters (statement_text s))) (statement_bits r st s ++ one (letters (newline_after s)))) old.page new.page → Lays s old new
  lays-as b is grows =
      record {
        page = subst (λ x. Grows (cond (stays x) (one (letters (statement_text s))) (statement_bits r x s ++ one (letters (newline_after s)))) old.page
            new.page) reach
            (subst (λ x. Grows (cond x (one (letters (statement_text s))) (statement_bits r st s ++ one (letters (newline_after s)))) old.page new.page)
            (sym is) grows);
        state = pass ∙ ap (λ x. passed x s) reach ∙ passed-after r (state_of old.state) s;
      }

  -- it stays, or is put anew
  pub stays-laid : (body newline : Text) (mid : Page) → stays st ≡ true → statement_text s ≡ body ++ newline → Gains body old.page mid
      → Gains newline mid new.page → Lays s old new
  stays-laid body newline mid is parts g h =
      lays-as true is (subst (λ (x : Text). Grows (one (letters x)) old.page new.page) (sym parts)
      (grows-by (body ++ newline) old.page new.page (gains-both body newline old.page mid new.page g h)))

  pub puts-laid : (mid : Page) → stays st ≡ false → Grows (statement_bits r st s) old.page mid → Gains (newline_after s) mid new.page
      → Lays s old new
  puts-laid mid is g h =
      lays-as false is (grows-both (statement_bits r st s) (one (letters (newline_after s))) old.page mid new.page g
      (grows-by (newline_after s) mid new.page h))

pub memory-refuses : {A : Type 0} (t : Text) (result : Result A FormatFault) → IfErr result (λ e. e ≡ Memory) → IfErr result (IsRefused t)
memory-refuses t (Ok a) h = tt
memory-refuses t (Err e) h = λ is. absurd (let clash = sym h ∙ is in cc)
