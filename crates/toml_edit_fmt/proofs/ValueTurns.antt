-- A value is written after its first event.
use Rattle.std.proofs.Common.{◌≡◌, refl, sym, ap, subst, ◌∙◌, arith, ℕ, ◌+◌, ◌-◌, ◌≤◌, Bool, true, false, List, ◌++◌, codes, length, get_or, drop}
use Rattle.std.proofs.Common.{Option, None, Result, IfOk}
use Rattle.std.specs.Borrow.{Bor}
use Rattle.std.proofs.lemmas.List.{take_rest}
use Rattle.toml_edit_model.specs.OwnedForm.{cut_out}
use Rattle.toml_edit_model.specs.Syntax.{Value, scalar, array, inline_table, Elements, Pairs, IsValue, has_elements, has_pairs, value_text}
use Rattle.toml_edit_model.specs.Text.{Text, one}
use Rattle.toml_edit_laws.specs.Standing.{Stands}
use Rattle.toml_edit_laws.proofs.common.StandingLaws.{stands-left, cut_out-is}
use Rattle.toml_edit_syntax.specs.declared.event.Event.{Event}
use Rattle.toml_edit_syntax.specs.declared.event.EventKind.{EventKind}
use Rattle.toml_edit_syntax.specs.declared.event.EventKind.TheVariants.{ArrayOpen, InlineTableOpen, Scalar}
use Rattle.toml_edit_syntax.specs.ValueEvents.{event, value_events}
use Rattle.toml_edit_fmt_laws.specs.Rules.{Rules}
use Rattle.toml_edit_fmt_laws.specs.Formatted as laws
use Rattle.toml_edit_fmt.specs.PageView.{Gains, Grows, letters}
use Rattle.toml_edit_fmt.specs.PathView.{Handed}
use Rattle.toml_edit_fmt.specs.RulesView.{rules_of}
use Rattle.toml_edit_fmt.specs.MeasureView.{IfArrayNext, IfInlineNext}
use Rattle.toml_edit_fmt.specs.MemberView.{AreNext, End, Member, members_bits}
use Rattle.toml_edit_fmt.specs.ValueBits.{Listed, edge_text, elements_bits, pairs_bits, value_bits}
use Rattle.toml_edit_fmt.specs.ValueView.{IsArrayLaid, IsInlineLaid, StandsAt, has_space, layout_of, listed}
use Rattle.toml_edit_fmt.specs.declared.page.Page.{Page}
use Rattle.toml_edit_fmt.specs.declared.rules.Rules as code
use Rattle.toml_edit_fmt.specs.declared.value.Brackets.{Brackets}
use Rattle.toml_edit_fmt.specs.declared.value.Place.{Place}
use Rattle.toml_edit_fmt.proofs.ListLaws.{if-ok, left_of}
use Rattle.toml_edit_fmt.proofs.MemberLaws as law
use Rattle.toml_edit_fmt.proofs.PageLaws.{grows-as, grows-both, grows-by}

-- ---- the first event

abbrev pub kind_of : Value → EventKind
kind_of (scalar s t) = Scalar
kind_of (array es comma t) = ArrayOpen
kind_of (inline_table ps comma t) = InlineTableOpen

abbrev pub front : Value → Text
front (scalar s t) = t
front (array es comma t) = codes "["
front (inline_table ps comma t) = codes "{"

pub some-first : (start : ℕ) (v : Value) (more : List Event) → 1 ≤ length (value_events start v ++ more)
some-first start (scalar s t) more = omega arith
some-first start (array es comma t) more = omega arith
some-first start (inline_table ps comma t) more = omega arith

pub first-kind : (d : Event) (start : ℕ) (v : Value) (more events : List Event) → events ≡ value_events start v ++ more
    → (get_or events 0 d).kind ≡ kind_of v
first-kind d start (scalar s t) more events e = ap (λ es. (get_or es 0 d).kind) e
first-kind d start (array es comma t) more events e = ap (λ es. (get_or es 0 d).kind) e
first-kind d start (inline_table ps comma t) more events e = ap (λ es. (get_or es 0 d).kind) e

first-text : (d : Event) (source : Text) (start : ℕ) (v : Value) (more events : List Event) → Stands source start (value_text v)
    → events ≡ value_events start v ++ more
    → cut_out source (get_or events 0 d).span.start (get_or events 0 d).span.end ≡ front v
first-text d source start (scalar s t) more events stands e =
    ap (λ es. cut_out source (get_or es 0 d).span.start (get_or es 0 d).span.end) e ∙ cut_out-is source start t stands
first-text d source start (array es comma t) more events stands e =
    ap (λ es. cut_out source (get_or es 0 d).span.start (get_or es 0 d).span.end) e
    ∙ cut_out-is source start (codes "[") (stands-left source start (codes "[") _ stands)
first-text d source start (inline_table ps comma t) more events stands e =
    ap (λ es. cut_out source (get_or es 0 d).span.start (get_or es 0 d).span.end) e
    ∙ cut_out-is source start (codes "{") (stands-left source start (codes "{") _ stands)

pub first-added : (d : Event) (start : ℕ) (v : Value) (more events : List Event) (a b : Page) → Stands a.source.now start (value_text v)
    → events ≡ value_events start v ++ more
    → Gains (cut_out a.source.now (get_or events 0 d).span.start (get_or events 0 d).span.end) a b → Grows (one (letters (front v))) a b
first-added d start v more events a b stands e g =
    grows-by (front v) a b (subst (λ t. Gains t a b) (first-text d a.source.now start v more events stands e) g)

pub scalar-put : (d : Event) (start depth : ℕ) (room : Option ℕ) (v : Value) (more events : List Event) (a b : Page)
    → ((get_or events 0 d).kind ≡ ArrayOpen → ⊥) → ((get_or events 0 d).kind ≡ InlineTableOpen → ⊥)
    → Stands a.source.now start (value_text v) → events ≡ value_events start v ++ more
    → Gains (cut_out a.source.now (get_or events 0 d).span.start (get_or events 0 d).span.end) a b
    → Handed more (left_of 1 events) (Grows (value_bits (rules_of a.rules) depth room v) a b)
scalar-put d start depth room (scalar s t) more events a b other another stands e g =
    (take_rest events 1 ∙ ap (drop 1) e, first-added d start (scalar s t) more events a b stands e g)
scalar-put d start depth room (array es comma t) more events a b other another stands e g =
    absurd (other (first-kind d start (array es comma t) more events e))
scalar-put d start depth room (inline_table ps comma t) more events a b other another stands e g =
    absurd (another (first-kind d start (inline_table ps comma t) more events e))

-- ---- arrays and inline tables

abbrev list_of : Rules → laws.Layout → ℕ → Bool → Bool → Listed
list_of r layout depth has_any is_array =
    record { layout = layout; depth = depth; edge = edge_text has_any (has_space r is_array); has_any = has_any }

listed-as : (r : Rules) (x : Brackets) (layout : laws.Layout) (depth : ℕ) (has_any is_array : Bool) → layout_of x.layout ≡ layout
    → x.depth ≡ depth → x.has_any ≡ has_any → x.is_array ≡ is_array → listed r x ≡ list_of r layout depth has_any is_array
listed-as r x layout depth has_any is_array l d h a =
    ap (λ k. list_of r k x.depth x.has_any x.is_array) l ∙ ap (λ k. list_of r layout k x.has_any x.is_array) d
    ∙ ap (λ k. list_of r layout depth k x.is_array) h ∙ ap (list_of r layout depth has_any) a

module _ {E : Type 0} (d : Event) (place : Place) (x : Brackets) (events : List Event) (result : Result (Bor (List Event)) E) (a b c : Page)
    (gains : Gains (cut_out a.source.now (get_or events 0 d).span.start (get_or events 0 d).span.end) a b)
    (adds : (e : End) (ms : List Member) (at : ℕ) (more : List Event) → AreNext b.source.now x.is_array (left_of 1 events) e None ms at more
    → IfOk result (λ rest. Handed more rest.now (Grows (members_bits (rules_of b.rules) (listed (rules_of b.rules) x) e None ms) b c)))
    (depth_is : x.depth ≡ place.depth) where
  pub array-put : (is_array : x.is_array ≡ true)
      → ((es : Elements) (comma : Bool) (t : Text) (start : ℕ) (room : Option ℕ) (more : List Event)
      → IfArrayNext b.source.now (left_of 1 events) es comma t start more (StandsAt place.depth room place
      → IsArrayLaid (rules_of b.rules) place.depth room es comma t x))
      → (get_or events 0 d).kind ≡ ArrayOpen
      → (v : Value) (start : ℕ) (room : Option ℕ) (more : List Event) → IsValue v → Stands a.source.now start (value_text v)
      → events ≡ value_events start v ++ more → StandsAt place.depth room place
      → IfOk result (λ rest. Handed more rest.now (Grows (value_bits (rules_of a.rules) place.depth room v) a c))
  array-put is_array laid kind (scalar s t) start room more is stands e there =
      absurd (let no : Scalar ≡ ArrayOpen = sym (first-kind d start (scalar s t) more events e) ∙ kind in cc)
  array-put is_array laid kind (inline_table ps comma t) start room more is stands e there =
      absurd (let no : InlineTableOpen ≡ ArrayOpen = sym (first-kind d start (inline_table ps comma t) more events e) ∙ kind in cc)
  array-put is_array laid kind (array es comma t) start room more is stands e there =
      let r = rules_of a.rules in
      let rest_is = take_rest events 1 ∙ ap (drop 1) e in
      let stands_b = subst (λ s. Stands s.now start (value_text (array es comma t))) (sym gains.source) stands in
      let is_laid = laid es comma t start room more is.1 stands_b rest_is there in
      let end = law.array_end comma t in
      let layout = laws.array_layout r place.depth room es comma t in
      let layout_is : layout_of x.layout ≡ layout =
      is_laid.layout ∙ ap (λ (q : code.Rules). laws.array_layout (rules_of q) place.depth room es comma t) gains.rules in
      let l = list_of r layout place.depth (has_elements es) true in
      let same : members_bits (rules_of b.rules) (listed (rules_of b.rules) x) end None (law.of_elements es)
      ≡ elements_bits r l None comma t es =
      ap (λ (q : code.Rules). members_bits (rules_of q) (listed (rules_of q) x) end None (law.of_elements es)) gains.rules
      ∙ ap (λ y. members_bits r y end None (law.of_elements es))
      (listed-as r x layout place.depth (has_elements es) true layout_is depth_is is_laid.any is_array)
      ∙ law.elements-bits r l end None es refl in
      let next = law.array-next b.source.now start es comma t more is stands_b in
      if-ok result _ _ (λ rest h. (
        h.0,
        grows-both (one (letters (codes "["))) (elements_bits r l None comma t es) a b c
            (first-added d start (array es comma t) more events a b stands e gains) (grows-as _ _ b c same h.1),
      ))
      (adds end (law.of_elements es) (start + 1) more
      (subst (λ k. AreNext b.source.now k (left_of 1 events) end None (law.of_elements es) (start + 1) more) (sym is_array)
      (subst (λ es'. AreNext b.source.now true es' end None (law.of_elements es) (start + 1) more) (sym rest_is) next)))

  pub inline-put : (is_inline : x.is_array ≡ false)
      → ((ps : Pairs) (comma : Bool) (t : Text) (start : ℕ) (more : List Event)
      → IfInlineNext b.source.now (left_of 1 events) ps comma t start more (IsInlineLaid (rules_of b.rules) place.depth ps comma t x))
      → (get_or events 0 d).kind ≡ InlineTableOpen
      → (v : Value) (start : ℕ) (room : Option ℕ) (more : List Event) → IsValue v → Stands a.source.now start (value_text v)
      → events ≡ value_events start v ++ more → StandsAt place.depth room place
      → IfOk result (λ rest. Handed more rest.now (Grows (value_bits (rules_of a.rules) place.depth room v) a c))
  inline-put is_inline laid kind (scalar s t) start room more is stands e there =
      absurd (let no : Scalar ≡ InlineTableOpen = sym (first-kind d start (scalar s t) more events e) ∙ kind in cc)
  inline-put is_inline laid kind (array es comma t) start room more is stands e there =
      absurd (let no : ArrayOpen ≡ InlineTableOpen = sym (first-kind d start (array es comma t) more events e) ∙ kind in cc)
  inline-put is_inline laid kind (inline_table ps comma t) start room more is stands e there =
      let r = rules_of a.rules in
      let rest_is = take_rest events 1 ∙ ap (drop 1) e in
      let stands_b = subst (λ s. Stands s.now start (value_text (inline_table ps comma t))) (sym gains.source) stands in
      let is_laid = laid ps comma t start more is.1 stands_b rest_is in
      let end = law.inline_end comma t in
      let layout = laws.inline_layout r ps t in
      let layout_is : layout_of x.layout ≡ layout =
      is_laid.layout ∙ ap (λ (q : code.Rules). laws.inline_layout (rules_of q) ps t) gains.rules in
      let l = list_of r layout place.depth (has_pairs ps) false in
      let same : members_bits (rules_of b.rules) (listed (rules_of b.rules) x) end None (law.of_pairs ps)
      ≡ pairs_bits r l None comma t ps =
      ap (λ (q : code.Rules). members_bits (rules_of q) (listed (rules_of q) x) end None (law.of_pairs ps)) gains.rules
      ∙ ap (λ y. members_bits r y end None (law.of_pairs ps))
      (listed-as r x layout place.depth (has_pairs ps) false layout_is depth_is is_laid.any is_inline)
      ∙ law.pairs-bits r l end None ps refl in
      let next = law.inline-next b.source.now start ps comma t more is stands_b in
      if-ok result _ _ (λ rest h. (
        h.0,
        grows-both (one (letters (codes "{"))) (pairs_bits r l None comma t ps) a b c
            (first-added d start (inline_table ps comma t) more events a b stands e gains) (grows-as _ _ b c same h.1),
      ))
      (adds end (law.of_pairs ps) (start + 1) more
      (subst (λ k. AreNext b.source.now k (left_of 1 events) end None (law.of_pairs ps) (start + 1) more) (sym is_inline)
      (subst (λ es'. AreNext b.source.now false es' end None (law.of_pairs ps) (start + 1) more) (sym rest_is) next)))
