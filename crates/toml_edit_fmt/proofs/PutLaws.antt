-- What the parts of a statement do to a page, one after another.
use Rattle.std.proofs.Common.{◌≡◌, ◌<◌, ◌^◌, ℕ, ◌+◌, ◌-◌, List, [], ◌∷◌, ◌++◌, Option, Some, None, cond, true, length, get_or, take, drop, refl, sym, ap, subst, ◌∙◌}
use Rattle.std.proofs.Common.{arith, string_bytes}
use Rattle.std.specs.Str.{IsCharBoundary}
use Rattle.std.proofs.lemmas.List.{length-append, take_all, length-drop}
use Rattle.toml_edit_model.specs.OwnedForm.{cut_out}
use Rattle.toml_edit_model.specs.Text.{Text}
use Rattle.toml_edit_model.specs.Syntax.{Segment, Frame, Value, Header, key_line, header, path_text, statement_text, value_text}
use Rattle.toml_edit_model.specs.Trivia.{IsLineEnd}
use Rattle.toml_edit_laws.specs.Standing.{Stands}
use Rattle.toml_edit_syntax.specs.declared.event.Event.{Event}
use Rattle.toml_edit_syntax.specs.declared.event.EventKind.TheVariants.{Leading, LineEnd}
use Rattle.toml_edit_syntax.specs.Events.{header_events, statement_events}
use Rattle.toml_edit_syntax.specs.ValueEvents.{event, value_at_byte, value_events}
use Rattle.toml_edit_fmt_laws.specs.Formatted.{State, laid_frame, laid_path, used_before}
use Rattle.toml_edit_fmt_laws.specs.Laying.{columns, header_leading, last_line, leading}
use Rattle.toml_edit_fmt_laws.specs.Rules.{header_depth, line_depth}
use Rattle.toml_edit_fmt.specs.LinesView.{rest_bits}
use Rattle.toml_edit_fmt.specs.PageView.{Gains, Grows}
use Rattle.toml_edit_fmt.specs.PathView.{Handed, IfHeadNext, IfPathNext}
use Rattle.toml_edit_fmt.specs.RulesView.{comments_of, rules_of}
use Rattle.toml_edit_fmt.specs.StatementView.{IsOneStatement}
use Rattle.toml_edit_fmt.specs.ValueBits.{counted, head_text, statement_bits, value_bits}
use Rattle.toml_edit_fmt.specs.ValueView.{IfValueNext, StandsAt}
use Rattle.toml_edit_fmt.specs.declared.page.Page.{Page}
use Rattle.toml_edit_fmt.specs.declared.value.Place.{Place}
use Rattle.toml_edit_fmt.proofs.StatementLaws.{after, close-text, closing-text, counted-is, head-next, head-there, header-laid, key-at, leading-text, leading-there, line-end}
use Rattle.toml_edit_fmt.proofs.StatementLaws.{line-laid, open-text, opening-text, pair-events, path-next, path-there, text-is, trailing-text, trailing-there, used-is, value-there}

-- all from a place on
from-there : (n : ℕ) (es : List Event) → take (length es - n) (drop n es) ≡ drop n es
from-there n es = take_all (length es - n) (drop n es) (omega (arith, length-drop n es))

same-source : (a b : Page) (i : ℕ) (t : Text) → b.source ≡ a.source → Stands a.source.now i t → Stands b.source.now i t
same-source a b i t e h = subst (λ x. Stands x.now i t) (sym e) h

abbrev cut : Page → List Event → ℕ → Event → Text
cut p es i d = cut_out p.source.now (get_or es i d).span.start (get_or es i d).span.end

module _ (h : Header) (end : Text) (start : ℕ) (st : State) (depth keys : ℕ) (es rest : List Event) (p0 p1 p2 p3 p4 p5 p6 p7 : Page)
    (is : IsOneStatement (header h end)) (there : Stands p0.source.now start (statement_text (header h end))) (same : es ≡ header_events start h)
    (count : keys ≡ length h.path) (deep : depth ≡ line_depth (rules_of p0.rules) (keys - 1)) where
  -- the path, and the events behind it
  pub path-put : p3.source ≡ p0.source
      → ((p : List Segment) (at : ℕ) (more : List Event) → IfPathNext p3.source.now (take (length es - 3) (drop 3 es)) p at more
      (Handed more rest (Gains (path_text (laid_path (rules_of p3.rules) p)) p3 p4)))
      → Handed (after p0.source.now es h end start there same) rest (Gains (path_text (laid_path (rules_of p3.rules) h.path)) p3 p4)
  path-put e told =
      told h.path (key-at p0.source.now es h end start there same) (after p0.source.now es h end start there same) is.0.1
      (same-source p0 p3 _ _ e (path-there p0.source.now es h end start there same)) tt
      (from-there 3 es ∙ path-next p0.source.now es h end start there same)

  pub header-put : (lines trailing : Text) (d0 d1 d2 d3 d4 d5 : Event)
      → lines ≡ cut p0 es 0 d0 → Gains (header_leading (rules_of p0.rules) st.is_start depth lines) p0 p1
      → Gains (cut p1 es 1 d1) p1 p2 → Gains (cond p2.rules.dots [] (cut p2 es 2 d2)) p2 p3
      → ((p : List Segment) (at : ℕ) (more : List Event) → IfPathNext p3.source.now (take (length es - 3) (drop 3 es)) p at more
      (Handed more rest (Gains (path_text (laid_path (rules_of p3.rules) p)) p3 p4)))
      → Gains (cond p4.rules.dots [] (cut p4 rest 0 d3)) p4 p5 → Gains (cut p5 rest 1 d4) p5 p6 → trailing ≡ cut p6 rest 2 d5
      → Grows (rest_bits (comments_of p6.rules.comments) None trailing) p6 p7 → Grows (statement_bits (rules_of p0.rules) st (header h end)) p0 p7
  header-put lines trailing d0 d1 d2 d3 d4 d5 e0 g1 g2 g3 told g5 g6 e7 g7 =
      let t = p0.source.now in
      let two = g2.source ∙ g1.source in
      let three = g3.source ∙ two in
      let put = path-put three told in
      let path = put.1 in
      let four = path.source ∙ three in
      let five = g5.source ∙ four in
      let six = g6.source ∙ five in
      let moved : (p : Page) (x : List Event) (i : ℕ) (d : Event) → p.source ≡ p0.source → cut p x i d ≡ cut p0 x i d =
      λ p x i d e. ap (λ b. cut_out b.now (get_or x i d).span.start (get_or x i d).span.end) e in
      header-laid st h end depth lines (cut p1 es 1 d1) (cut p2 es 2 d2) (cut p4 rest 0 d3) (cut p5 rest 1 d4) trailing p0 p1 p2 p3 p4 p5 p6 p7
      (deep ∙ ap (λ n. header_depth (rules_of p0.rules) n) count) (e0 ∙ leading-text t es h end start there same d0)
      (moved p1 es 1 d1 g1.source ∙ open-text t es h end start there same d1) (moved p2 es 2 d2 two ∙ opening-text t es h end start there same d2)
      (moved p4 rest 0 d3 four ∙ closing-text t es h end start there same d3 rest put.0) (moved p5 rest 1 d4 five
      ∙ close-text t es h end start there same d4 rest put.0) (e7 ∙ moved p6 rest 2 d5 six ∙ trailing-text t es h end start there same d5 rest put.0)
      g1 g2 g3 path g5 g6 g7

module _ (f : Frame) (v : Value) (end : Text) (start : ℕ) (st : State) (depth from used : ℕ) (place : Place) (es value rest : List Event)
    (p0 p1 p2 p3 p4 : Page)
    (is : IsOneStatement (key_line f v end)) (there : Stands p0.source.now start (statement_text (key_line f v end)))
    (same : es ≡ statement_events start (key_line f v end)) (deep : depth ≡ line_depth (rules_of p0.rules) st.keys)
    (at-from : from ≡ length (string_bytes p0.text)) (place-is : place ≡ record { depth = depth; may_break = true; used = Some used })
    (fits : used < 2 ^ 64) where
  abbrev t : Text
  t = p0.source.now

  abbrev last : List Event
  last = line-end t es f v end start there same ∷ []

  abbrev from-line : Text → Text
  from-line lines = leading (rules_of p0.rules) st.is_start depth lines

  abbrev HeadTold : Type 0
  HeadTold =
      (g : Frame) (at : ℕ) (more : List Event) → IfHeadNext p1.source.now (take (length es - 1) (drop 1 es)) g at more
      (Handed more value (Gains (head_text (rules_of p1.rules) g) p1 p2))

  head-put : p1.source ≡ p0.source → HeadTold
      → Handed (value_events (value_at_byte start f) v ++ last) value (Gains (head_text (rules_of p1.rules) f) p1 p2)
  head-put e told =
      head-next p1.source.now (take (length es - 1) (drop 1 es)) f (start + length f.leading) (value_at_byte start f) v last _ refl
      (told f (start + length f.leading) (value_events (value_at_byte start f) v ++ last)) is.0.1
      (same-source p0 p1 _ _ e (head-there t es f v end start there same)) (from-there 1 es ∙ pair-events t es f v end start there same)

  lines-are : (lines : Text) (d : Event) → lines ≡ cut p0 es 0 d → lines ≡ f.leading
  lines-are lines d e =
      e ∙ text-is t (get_or es 0 d) Leading start f.leading (ap (λ (x : List Event). get_or x 0 d) same) (leading-there t es f v end start there same)

  stands : (lines : Text) → lines ≡ f.leading → Gains (from-line lines) p0 p1 → Gains (head_text (rules_of p1.rules) f) p1 p2
      → (IsCharBoundary (string_bytes p2.text) from → used ≡ columns (last_line (drop from (string_bytes p2.text))))
      → StandsAt place.depth (Some (used_before (laid_frame (rules_of p0.rules) (from-line f.leading) [] f))) place
  stands lines e g h told =
      let here = used-is IsLineEnd f (from-line f.leading) used from p0 p1 p2 is.0 at-from (subst (λ (x : Text). Gains (from-line x) p0 p1) e g) h told in
      subst (λ p. StandsAt p.depth (Some (used_before (laid_frame (rules_of p0.rules) (from-line f.leading) [] f))) p) (sym place-is)
      (record { depth_is = refl; room_is = (refl, counted-is used fits ∙ ap counted here) })

  abbrev ValueTold : Type 0
  ValueTold =
      (w : Value) (at : ℕ) (room : Option ℕ) (more : List Event) → IfValueNext p2.source.now value w at more (StandsAt place.depth room place
      → Handed more rest (Grows (value_bits (rules_of p2.rules) place.depth room w) p2 p3))

  abbrev ColumnsTold : Type 0
  ColumnsTold = IsCharBoundary (string_bytes p2.text) from → used ≡ columns (last_line (drop from (string_bytes p2.text)))

  abbrev room : Option ℕ
  room = Some (used_before (laid_frame (rules_of p0.rules) (from-line f.leading) [] f))

  module _ (lines : Text) (d0 : Event) (e0 : lines ≡ cut p0 es 0 d0) (g1 : Gains (from-line lines) p0 p1) (told : HeadTold)
      (columns-told : ColumnsTold) (value-told : ValueTold) where
    head : Handed (value_events (value_at_byte start f) v ++ last) value (Gains (head_text (rules_of p1.rules) f) p1 p2)
    head = head-put g1.source told

    source-two : p2.source ≡ p0.source
    source-two = head.1.source ∙ g1.source

    pub value-put : Handed last rest (Grows (value_bits (rules_of p2.rules) place.depth room v) p2 p3)
    value-put =
        value-told v (value_at_byte start f) room last is.1 (same-source p0 p2 _ _ source-two (value-there t es f v end start there same)) head.0
        (stands lines (lines-are lines d0 e0) g1 head.1 columns-told)

    pub line-put : (trailing : Text) (d1 : Event) → trailing ≡ cut p3 rest 0 d1
        → Grows (rest_bits (comments_of p3.rules.comments) (Some depth) trailing) p3 p4
        → Grows (statement_bits (rules_of p0.rules) st (key_line f v end)) p0 p4
    line-put trailing d1 e1 g4 =
        let put = value-put in
        let grown = subst (λ n. Grows (value_bits (rules_of p2.rules) n room v) p2 p3) (ap (λ p. p.depth) place-is) put.1 in
        let source-three = put.1.source ∙ source-two in
        let trailing-is = e1 ∙ ap (λ s. cut_out s.now (get_or rest 0 d1).span.start (get_or rest 0 d1).span.end) source-three
        ∙ text-is t (get_or rest 0 d1) LineEnd (value_at_byte start f + length (value_text v)) f.trailing
        (ap (λ (x : List Event). get_or x 0 d1) put.0) (trailing-there t es f v end start there same) in
        line-laid st f v end depth lines trailing p0 p1 p2 p3 p4 deep (lines-are lines d0 e0) trailing-is g1 head.1 grown g4
