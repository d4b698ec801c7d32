-- A statement that is laid out, part by part.
use Rattle.std.proofs.Common.{◌≡◌, ◌<◌, ◌^◌, ℕ, ◌+◌, ◌-◌, List, [], ◌∷◌, ◌++◌, Option, Some, None, cond, codes, length, get_or, take, drop, refl, sym, ap, subst, ◌∙◌}
use Rattle.std.proofs.Common.{append_assoc, arith, string_bytes}
use Rattle.std.specs.Str.{IsCharBoundary, IsUtf8}
use Rattle.std.proofs.Math.Seq.{drop-append_seam, take-append_seam}
use Rattle.std.proofs.lemmas.Bool.Decides.{nat_tests}
use Rattle.std.proofs.lemmas.List.{length-append}
use Rattle.std.proofs.lemmas.Str.{IsCharBoundary-from_take, IsUtf8-string_bytes}
use Rattle.toml_edit_model.specs.OwnedForm.{cut_out}
use Rattle.toml_edit_model.specs.Text.{Text, one}
use Rattle.toml_edit_model.specs.Syntax.{Frame, Value, scalar, array, inline_table, Header, key_line, header, IsFrame, IsPath, path_text, value_text}
use Rattle.toml_edit_model.specs.Syntax.{opening_brackets, closing_brackets, statement_text}
use Rattle.toml_edit_laws.specs.Standing.{Stands}
use Rattle.toml_edit_laws.proofs.common.StandingLaws.{cut_out-is, stands-left, stands-right}
use Rattle.toml_edit_syntax.specs.declared.event.Event.{Event}
use Rattle.toml_edit_syntax.specs.declared.event.EventKind.{EventKind}
use Rattle.toml_edit_syntax.specs.declared.event.EventKind.TheVariants.{Equals, Leading, BeforeKey, AfterKey, HeaderClose, LineEnd}
use Rattle.toml_edit_syntax.specs.Events.{header_events, header_open, statement_events}
use Rattle.toml_edit_syntax.specs.ValueEvents.{event, path_events, value_at_byte, value_events}
use Rattle.toml_edit_fmt_laws.specs.Formatted.{State, laid_frame, laid_path, used_before}
use Rattle.toml_edit_fmt_laws.specs.Laying.{columns, header_leading, last_line, leading}
use Rattle.toml_edit_fmt_laws.specs.Rules.{Rules, header_depth, line_depth}
use Rattle.toml_edit_fmt.specs.LinesView.{rest_bits}
use Rattle.toml_edit_fmt.specs.PageView.{Bit, Gains, Grows, letters}
use Rattle.toml_edit_fmt.specs.PathView.{IfHeadNext}
use Rattle.toml_edit_fmt.specs.RulesView.{comments_of, rules_of}
use Rattle.toml_edit_fmt.specs.ValueBits.{counted, head_text, header_text, statement_bits, value_bits}
use Rattle.toml_edit_fmt.specs.declared.page.Page.{Page}
use Rattle.toml_edit_fmt.proofs.HeadLaws.{head-last}
use Rattle.toml_edit_fmt.proofs.PageLaws.{gains-both, grows-both, grows-by}

-- the text of an event that is of this one
pub text-is : (source : Text) (e : Event) (kind : EventKind) (at : ℕ) (t : Text) → e ≡ event kind at t → Stands source at t
    → cut_out source e.span.start e.span.end ≡ t
text-is source e kind at t same there =
    ap (λ (x : Event). cut_out source x.span.start x.span.end) same ∙ cut_out-is source at t there

pub line-laid : (st : State) (f : Frame) (v : Value) (end : Text) (depth : ℕ) (before trailing : Text) (p0 p1 p2 p3 p4 : Page)
    → depth ≡ line_depth (rules_of p0.rules) st.keys → before ≡ f.leading → trailing ≡ f.trailing
    → Gains (leading (rules_of p0.rules) st.is_start depth before) p0 p1 → Gains (head_text (rules_of p1.rules) f) p1 p2
    → Grows (value_bits (rules_of p2.rules) depth (Some (used_before (laid_frame (rules_of p0.rules)
    (leading (rules_of p0.rules) st.is_start depth f.leading) [] f))) v) p2 p3
    → Grows (rest_bits (comments_of p3.rules.comments) (Some depth) trailing) p3 p4
    → Grows (statement_bits (rules_of p0.rules) st (key_line f v end)) p0 p4
line-laid st f v end depth before trailing p0 p1 p2 p3 p4 deep first last leads head value rest =
    let r = rules_of p0.rules in
    let two = head.rules ∙ leads.rules in
    let room : ℕ → Option ℕ = λ n. Some (used_before (laid_frame r (leading r st.is_start n f.leading) [] f)) in
    let bits : ℕ → List Bit = λ n. letters (leading r st.is_start n f.leading ++ head_text r f) ∷ (value_bits r n (room n) v ++ rest_bits r.comments (Some n) f.trailing) in
    let leads_as = subst (λ (x : Text). Gains (leading r st.is_start depth x) p0 p1) first leads in
    let head_as = subst (λ x. Gains (head_text (rules_of x) f) p1 p2) leads.rules head in
    let value_as = subst (λ x. Grows (value_bits (rules_of x) depth (room depth) v) p2 p3) two value in
    let rest_as = subst (λ x. Grows (rest_bits (comments_of x.comments) (Some depth) f.trailing) p3 p4) (value.rules ∙ two)
    (subst (λ (x : Text). Grows (rest_bits (comments_of p3.rules.comments) (Some depth) x) p3 p4) last rest) in
    subst (λ n. Grows (bits n) p0 p4) deep
    (grows-both (one (letters (leading r st.is_start depth f.leading ++ head_text r f))) (value_bits r depth (room depth) v
    ++ rest_bits r.comments (Some depth) f.trailing) p0 p2 p4
    (grows-by _ p0 p2 (gains-both _ _ p0 p1 p2 leads_as head_as))
    (grows-both (value_bits r depth (room depth) v) (rest_bits r.comments (Some depth) f.trailing) p2 p3 p4 value_as rest_as))

pub header-laid : (st : State) (h : Header) (end : Text) (depth : ℕ) (before opening inside after close trailing : Text)
    (p0 p1 p2 p3 p4 p5 p6 p7 : Page)
    → depth ≡ header_depth (rules_of p0.rules) (length h.path) → before ≡ h.leading → opening ≡ opening_brackets h.is_array → inside ≡ h.opening
    → after ≡ h.closing → close ≡ closing_brackets h.is_array → trailing ≡ h.trailing
    → Gains (header_leading (rules_of p0.rules) st.is_start depth before) p0 p1 → Gains opening p1 p2 → Gains (cond p2.rules.dots [] inside) p2 p3
    → Gains (path_text (laid_path (rules_of p3.rules) h.path)) p3 p4 → Gains (cond p4.rules.dots [] after) p4 p5 → Gains close p5 p6
    → Grows (rest_bits (comments_of p6.rules.comments) None trailing) p6 p7 → Grows (statement_bits (rules_of p0.rules) st (header h end)) p0 p7
header-laid st h end depth before opening inside after close trailing p0 p1 p2 p3 p4 p5 p6 p7 deep e0 e1 e2 e3 e4 e5 leads opens within path
    leaves closes rest =
    let r = rules_of p0.rules in
    let two = opens.rules ∙ leads.rules in
    let three = within.rules ∙ two in
    let four = path.rules ∙ three in
    let six = closes.rules ∙ leaves.rules ∙ four in
    let o = opening_brackets h.is_array in
    let i : Text = cond r.dots [] h.opening in
    let p = path_text (laid_path r h.path) in
    let a : Text = cond r.dots [] h.closing in
    let c = closing_brackets h.is_array in
    let one_as = subst (λ n. Gains (header_leading r st.is_start n h.leading) p0 p1) deep
    (subst (λ (x : Text). Gains (header_leading r st.is_start depth x) p0 p1) e0 leads) in
    let two_as = subst (λ (x : Text). Gains x p1 p2) e1 opens in
    let three_as = subst (λ x. Gains (cond x.dots [] h.opening) p2 p3) two (subst (λ (x : Text). Gains (cond p2.rules.dots [] x) p2 p3) e2 within) in
    let four_as = subst (λ x. Gains (path_text (laid_path (rules_of x) h.path)) p3 p4) three path in
    let five_as = subst (λ x. Gains (cond x.dots [] h.closing) p4 p5) four (subst (λ (x : Text). Gains (cond p4.rules.dots [] x) p4 p5) e3 leaves) in
    let six_as = subst (λ (x : Text). Gains x p5 p6) e4 closes in
    let rest_as = subst (λ x. Grows (rest_bits (comments_of x.comments) None h.trailing) p6 p7) six
    (subst (λ (x : Text). Grows (rest_bits (comments_of p6.rules.comments) None x) p6 p7) e5 rest) in
    grows-both (one (letters (header_leading r st.is_start (header_depth r (length h.path)) h.leading ++ header_text r h)))
    (rest_bits r.comments None h.trailing) p0 p6 p7
    (grows-by _ p0 p6 (gains-both _ _ p0 p1 p6 one_as (gains-both o (i ++ (p ++ (a ++ c))) p1 p2 p6 two_as
    (gains-both i (p ++ (a ++ c)) p2 p3 p6 three_as (gains-both p (a ++ c) p3 p4 p6 four_as
    (gains-both a c p4 p5 p6 five_as six_as)))))) rest_as

-- ---- the events of a line, and where its parts are

module _ (source : Text) (es : List Event) (f : Frame) (v : Value) (end : Text) (start : ℕ)
    (there : Stands source start (statement_text (key_line f v end))) (same : es ≡ statement_events start (key_line f v end)) where
  abbrev key : ℕ
  key = start + length f.leading

  abbrev value : ℕ
  value = value_at_byte start f

  abbrev pub line-end : Event
  line-end = event LineEnd (value + length (value_text v)) f.trailing

  abbrev behind-head : Text
  behind-head = value_text v ++ (f.trailing ++ end)

  abbrev head : Text
  head = path_text f.path ++ (f.before_equals ++ (codes "=" ++ f.after_equals))

  text-parts : statement_text (key_line f v end) ≡ f.leading ++ (head ++ behind-head)
  text-parts = grind (arith, append_assoc)

  pub leading-there : Stands source start f.leading
  leading-there = stands-left source start f.leading (head ++ behind-head) (subst (λ (x : Text). Stands source start x) text-parts there)

  at-key : Stands source key (head ++ behind-head)
  at-key = stands-right source start f.leading (head ++ behind-head) (subst (λ (x : Text). Stands source start x) text-parts there)

  pub head-there : Stands source key head
  head-there = stands-left source key head behind-head at-key

  at-value : Stands source value behind-head
  at-value =
      let a = length-append (path_text f.path) (f.before_equals ++ (codes "=" ++ f.after_equals)) in
      let b = length-append f.before_equals (codes "=" ++ f.after_equals) in
      let c = length-append (codes "=") f.after_equals in
      subst (λ n. Stands source n behind-head) (let e : key + length head ≡ value = omega (arith, a, b) in e)
      (stands-right source key head behind-head at-key)

  pub value-there : Stands source value (value_text v)
  value-there = stands-left source value (value_text v) (f.trailing ++ end) at-value

  pub trailing-there : Stands source (value + length (value_text v)) f.trailing
  trailing-there =
      stands-left source (value + length (value_text v)) f.trailing end (stands-right source value (value_text v) (f.trailing ++ end) at-value)

  -- the events after the first one
  pub pair-events : drop 1 es ≡ path_events key f.path
      ++ (event Equals (key + length (path_text f.path) + length f.before_equals) (codes "=") ∷ (value_events value v ++ (line-end ∷ [])))
  pair-events = ap (drop 1) same ∙ append_assoc (path_events key f.path) (_ ∷ []) (value_events value v ++ (line-end ∷ []))

-- a value comes next
pub head-next : (source : Text) (es : List Event) (f : Frame) (start at : ℕ) (v : Value) (more : List Event) (P : Type 0)
    → at ≡ start + length (path_text f.path) + length f.before_equals + 1 + length f.after_equals
    → IfHeadNext source es f start (value_events at v ++ more) P → IsPath f.path
    → Stands source start (path_text f.path ++ (f.before_equals ++ (codes "=" ++ f.after_equals)))
    → es ≡ path_events start f.path ++ (event Equals (start + length (path_text f.path) + length f.before_equals) (codes "=")
    ∷ (value_events at v ++ more)) → P
head-next source es f start at (scalar s t) more P place h path there same = h path there place same
head-next source es f start at (array vs comma t) more P place h path there same = h path there place same
head-next source es f start at (inline_table ps comma t) more P place h path there same = h path there place same

-- ---- how much of the line is used

pub seam : (t : Text) (p q : Page) → Gains t p q → IsCharBoundary (string_bytes q.text) (length (string_bytes p.text))
seam t p q g =
    let old = string_bytes p.text in
    let size = ap (λ (x : Text). length x) g.text ∙ length-append old t in
    IsCharBoundary-from_take (string_bytes q.text) (length old) (IsUtf8-string_bytes q.text) (omega (arith, size))
    (subst IsUtf8 (sym (ap (take (length old)) g.text ∙ take-append_seam old t)) (IsUtf8-string_bytes p.text))

pub used-is : (MayFollow : Text → Type 0) (f : Frame) (before : Text) (used start : ℕ) (p0 p1 p2 : Page) → IsFrame MayFollow f
    → start ≡ length (string_bytes p0.text) → Gains before p0 p1 → Gains (head_text (rules_of p1.rules) f) p1 p2
    → (IsCharBoundary (string_bytes p2.text) start → used ≡ columns (last_line (drop start (string_bytes p2.text))))
    → used ≡ used_before (laid_frame (rules_of p0.rules) before [] f)
used-is MayFollow f before used start p0 p1 p2 is place leads head told =
    let r = rules_of p0.rules in
    let old = string_bytes p0.text in
    let g = gains-both before (head_text r f) p0 p1 p2 leads (subst (λ x. Gains (head_text (rules_of x) f) p1 p2) leads.rules head) in
    told (subst (λ n. IsCharBoundary (string_bytes p2.text) n) (sym place) (seam _ p0 p2 g))
    ∙ ap (λ n. columns (last_line (drop n (string_bytes p2.text)))) place
    ∙ ap (λ (x : Text). columns (last_line (drop (length old) x))) g.text
    ∙ ap (λ (x : Text). columns (last_line x)) (drop-append_seam old (before ++ head_text r f))
    ∙ ap columns (head-last MayFollow r f before is)

pub counted-is : (n : ℕ) → n < 2 ^ 64 → ◌≡◌ {A = Option ℕ} (Some n) (counted n)
counted-is n h = grind (arith, nat_tests)

-- ---- the events of a header, and where its parts are

module _ (source : Text) (es : List Event) (h : Header) (end : Text) (start : ℕ) (there : Stands source start (statement_text (header h end)))
    (same : es ≡ header_events start h) where
  abbrev opened : Text
  opened = opening_brackets h.is_array

  abbrev closed : Text
  closed = closing_brackets h.is_array

  abbrev brackets : ℕ
  brackets = start + length h.leading

  abbrev before-key : ℕ
  before-key = brackets + length opened

  abbrev pub key-at : ℕ
  key-at = before-key + length h.opening

  abbrev after-key : ℕ
  after-key = key-at + length (path_text h.path)

  abbrev close-at : ℕ
  close-at = after-key + length h.closing

  abbrev pub after : List Event
  after =
      event AfterKey after-key h.closing ∷ event HeaderClose close-at closed ∷ event LineEnd (close-at + length closed) h.trailing ∷ []

  abbrev from-close : Text
  from-close = closed ++ (h.trailing ++ end)

  header-text : statement_text (header h end)
      ≡ h.leading ++ (opened ++ (h.opening ++ (path_text h.path ++ (h.closing ++ from-close))))
  header-text =
      let rest : Text = h.trailing ++ end in
      ap (λ (x : Text). h.leading ++ x) (append_assoc opened (h.opening ++ (path_text h.path ++ (h.closing ++ closed))) rest
      ∙ ap (λ (x : Text). opened ++ x) (append_assoc h.opening (path_text h.path ++ (h.closing ++ closed)) rest
      ∙ ap (λ (x : Text). h.opening ++ x) (append_assoc (path_text h.path) (h.closing ++ closed) rest
      ∙ ap (λ (x : Text). path_text h.path ++ x) (append_assoc h.closing closed rest))))

  at-start : Stands source start (h.leading ++ (opened ++ (h.opening ++ (path_text h.path ++ (h.closing ++ from-close)))))
  at-start = subst (λ (x : Text). Stands source start x) header-text there

  at-brackets : Stands source brackets (opened ++ (h.opening ++ (path_text h.path ++ (h.closing ++ from-close))))
  at-brackets = stands-right source start h.leading _ at-start

  at-opening : Stands source before-key (h.opening ++ (path_text h.path ++ (h.closing ++ from-close)))
  at-opening = stands-right source brackets opened _ at-brackets

  at-path : Stands source key-at (path_text h.path ++ (h.closing ++ from-close))
  at-path = stands-right source before-key h.opening _ at-opening

  at-closing : Stands source after-key (h.closing ++ from-close)
  at-closing = stands-right source key-at (path_text h.path) _ at-path

  at-close : Stands source close-at from-close
  at-close = stands-right source after-key h.closing _ at-closing

  pub path-there : Stands source key-at (path_text h.path)
  path-there = stands-left source key-at (path_text h.path) _ at-path

  pub path-next : drop 3 es ≡ path_events key-at h.path ++ after
  path-next = ap (drop 3) same

  module _ (d : Event) where
    pub leading-text : cut_out source (get_or es 0 d).span.start (get_or es 0 d).span.end ≡ h.leading
    leading-text = text-is source _ Leading start h.leading (ap (λ (x : List Event). get_or x 0 d) same) (stands-left source start h.leading _ at-start)

    pub open-text : cut_out source (get_or es 1 d).span.start (get_or es 1 d).span.end ≡ opened
    open-text =
        text-is source _ (header_open h.is_array) brackets opened (ap (λ (x : List Event). get_or x 1 d) same) (stands-left source brackets opened _ at-brackets)

    pub opening-text : cut_out source (get_or es 2 d).span.start (get_or es 2 d).span.end ≡ h.opening
    opening-text =
        text-is source _ BeforeKey before-key h.opening (ap (λ (x : List Event). get_or x 2 d) same) (stands-left source before-key h.opening _ at-opening)

    module _ (rest : List Event) (is : rest ≡ after) where
      pub closing-text : cut_out source (get_or rest 0 d).span.start (get_or rest 0 d).span.end ≡ h.closing
      closing-text =
          text-is source _ AfterKey after-key h.closing (ap (λ (x : List Event). get_or x 0 d) is) (stands-left source after-key h.closing _ at-closing)

      pub close-text : cut_out source (get_or rest 1 d).span.start (get_or rest 1 d).span.end ≡ closed
      close-text =
          text-is source _ HeaderClose close-at closed (ap (λ (x : List Event). get_or x 1 d) is) (stands-left source close-at closed _ at-close)

      pub trailing-text : cut_out source (get_or rest 2 d).span.start (get_or rest 2 d).span.end ≡ h.trailing
      trailing-text =
          text-is source _ LineEnd (close-at + length closed) h.trailing (ap (λ (x : List Event). get_or x 2 d) is)
          (stands-left source (close-at + length closed) h.trailing end (stands-right source close-at closed (h.trailing ++ end) at-close))
