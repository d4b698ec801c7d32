-- Reading a value by its events: which comes first, and what the parts of an array come to.
use Rattle.std.proofs.Common.{◌≡◌, ℕ, suc, ◌+◌, ◌-◌, ◌<◌, ◌≤◌, Bool, false, ◌⊎◌, List, [], ◌∷◌, ◌++◌, length, refl, sym, ap, ◌∙◌, subst}
use Rattle.std.proofs.Common.{append_assoc, arith, Option, Some, None, inl, inr, codes}
use Rattle.std.specs.Prelude.{Contains}
use Rattle.std.proofs.lemmas.Bool.Decides.{eqb_tells, nat_tests}
use Rattle.toml_edit_model.specs.Text.{Text}
use Rattle.toml_edit_model.specs.Syntax.{Value, scalar, array, inline_table, Elements, Pairs, value_text, depth, nesting_limit}
use Rattle.toml_edit_model.specs.Faults.{Fault, fault, recursion_limit, deep_bracket, value_faults, elements_faults}
use Rattle.toml_edit_error.specs.Report.{Report, fault_of}
use Rattle.toml_edit_error.specs.Fault.{IfToml}
use Rattle.toml_edit_error.specs.declared.toml_error.ParseFault.{ParseFault}
use Rattle.toml_edit_error.specs.declared.toml_error.ParseFault.TheVariants.{Toml, Memory}
use Rattle.toml_edit_syntax.specs.declared.event.Event.{Event}
use Rattle.toml_edit_syntax.specs.declared.event.EventKind as kinds
use Rattle.toml_edit_syntax.specs.declared.event.EventKind.TheVariants.{Scalar, ArrayOpen, ArrayClose, InlineTableOpen, InlineTableClose}
use Rattle.toml_edit_syntax.specs.declared.event.EventKind.TheVariants.{TooDeep}
use Rattle.toml_edit_syntax.specs.declared.event.Span.{Span}
use Rattle.toml_edit_syntax.specs.ValueEvents.{event, value_events, elements_events, pairs_events, close_events, shortened}
use Rattle.toml_edit_syntax.specs.Events.{exceeds_depth}
use Rattle.toml_edit_parser.specs.declared.events.Close.{Close}
use Rattle.toml_edit_parser.specs.ValueRead.{split_first, NamesOne}

pub mapped : (e : ParseFault) (P Q : Report → Type 0) → ((r : Report) → P r → Q r) → IfToml e P → IfToml e Q
mapped (Toml r) P Q f h = f r h
mapped Memory P Q f h = tt

-- what names one of some faults names one of more
pub named : (source : Text) (fs gs : List Fault) (e : ParseFault) → ((f : Fault) → Contains fs f → Contains gs f)
    → IfToml e (NamesOne source fs) → IfToml e (NamesOne source gs)
named source fs gs e more h = mapped e (NamesOne source fs) (NamesOne source gs) (λ r is. (is.0, more (fault_of r) is.1)) h

pub same_parts : (a b : Event) (x y : List Event) → ◌≡◌ {A = Option (Event × List Event)} (Some (a, x)) (Some (b, y)) → (a ≡ b) × (x ≡ y)
same_parts a b x y e =
    let f : ◌≡◌ {A = Event × List Event} (a, x) (b, y) = cc in
    (ap (λ (p : Event × List Event). p.0) f, ap (λ (p : Event × List Event). p.1) f)

pub same_spans : (a b : Span) (x y : List Event) → ◌≡◌ {A = Option (Span × List Event)} (Some (a, x)) (Some (b, y)) → (a ≡ b) × (x ≡ y)
same_spans a b x y e =
    let f : ◌≡◌ {A = Span × List Event} (a, x) (b, y) = cc in
    (ap (λ (p : Span × List Event). p.0) f, ap (λ (p : Span × List Event). p.1) f)

pub same_closes : (a b : Close) (x y : List Event) → ◌≡◌ {A = Option (Close × List Event)} (Some (a, x)) (Some (b, y)) → (a ≡ b) × (x ≡ y)
same_closes a b x y e =
    let f : ◌≡◌ {A = Close × List Event} (a, x) (b, y) = cc in
    (ap (λ (p : Close × List Event). p.0) f, ap (λ (p : Close × List Event). p.1) f)

-- ---- the depth of a value

pub within_depth : (v : Value) → depth v ≤ nesting_limit → exceeds_depth v ≡ false
within_depth v h = grind (arith, nat_tests)

-- ---- the first event of a value

abbrev Opens : kinds.EventKind → ℕ → ℕ → Text → List Event → Event → List Event → Type 0
Opens kind start level bracket inner first rest =
    ((level ≡ nesting_limit) × (first ≡ record (event kind start bracket) { kind = TooDeep }))
    ⊎ ((level < nesting_limit) × (first ≡ event kind start bracket) × (rest ≡ shortened (suc level) inner))

abbrev array_end : ℕ → Elements → Bool → Text → List Event
array_end start es comma t = close_events ArrayClose (codes "]") (start + length (value_text (array es comma t)) - 1) comma t

abbrev inline_end : ℕ → Pairs → Bool → Text → List Event
inline_end start ps comma t = close_events InlineTableClose (codes "}") (start + length (value_text (inline_table ps comma t)) - 1) comma t

abbrev pub HeadOf : Value → ℕ → ℕ → List Event → Event → List Event → Type 0
HeadOf (scalar s t) start level more first rest = (first ≡ event Scalar start t) × (rest ≡ shortened level more)
HeadOf (array es comma t) start level more first rest =
    Opens ArrayOpen start level (codes "[") (elements_events (start + 1) es ++ (array_end start es comma t ++ more)) first rest
HeadOf (inline_table ps comma t) start level more first rest =
    Opens InlineTableOpen start level (codes "{") (pairs_events (start + 1) ps ++ (inline_end start ps comma t ++ more)) first rest

room : (level : ℕ) → level ≤ nesting_limit → (level ≡ nesting_limit → ⊥) → level < nesting_limit
room level below apart = omega arith

opens_array : (start level : ℕ) (inner ends more events : List Event) (first : Event) (rest : List Event) → level ≤ nesting_limit
    → events ≡ shortened level (event ArrayOpen start (codes "[") ∷ ((inner ++ ends) ++ more)) → Some (first, rest) ≡ split_first events
    → Opens ArrayOpen start level (codes "[") (inner ++ (ends ++ more)) first rest
opens_array start level inner ends more events first rest below e f =
    let g = f ∙ ap split_first e in
    elim (eqb_tells level nesting_limit) [
      | inl (full, same) ↦
          let h : ◌≡◌ {A = Option (Event × List Event)} (Some (first, rest))
          (Some (record (event ArrayOpen start (codes "[")) { kind = TooDeep }, [])) = rw full at g in
          inl (same, (same_parts _ _ _ _ h).0)
      | inr (open_here, apart) ↦
          let h : ◌≡◌ {A = Option (Event × List Event)} (Some (first, rest)) (Some (
            event ArrayOpen start (codes "["),
            shortened (suc level) ((inner ++ ends) ++ more),
          )) = rw open_here at g in
          let p = same_parts _ _ _ _ h in
          inr (room level below apart, p.0, p.1 ∙ ap (shortened (suc level)) (append_assoc inner ends more))
    ]

opens_inline : (start level : ℕ) (inner ends more events : List Event) (first : Event) (rest : List Event) → level ≤ nesting_limit
    → events ≡ shortened level (event InlineTableOpen start (codes "{") ∷ ((inner ++ ends) ++ more)) → Some (first, rest)
    ≡ split_first events
    → Opens InlineTableOpen start level (codes "{") (inner ++ (ends ++ more)) first rest
opens_inline start level inner ends more events first rest below e f =
    let g = f ∙ ap split_first e in
    elim (eqb_tells level nesting_limit) [
      | inl (full, same) ↦
          let h : ◌≡◌ {A = Option (Event × List Event)} (Some (first, rest))
          (Some (record (event InlineTableOpen start (codes "{")) { kind = TooDeep }, [])) = rw full at g in
          inl (same, (same_parts _ _ _ _ h).0)
      | inr (open_here, apart) ↦
          let h : ◌≡◌ {A = Option (Event × List Event)} (Some (first, rest)) (Some (
            event InlineTableOpen start (codes "{"),
            shortened (suc level) ((inner ++ ends) ++ more),
          )) = rw open_here at g in
          let p = same_parts _ _ _ _ h in
          inr (room level below apart, p.0, p.1 ∙ ap (shortened (suc level)) (append_assoc inner ends more))
    ]

pub head_of : (v : Value) (start level : ℕ) (more events : List Event) (first : Event) (rest : List Event) → level ≤ nesting_limit
    → events ≡ shortened level (value_events start v ++ more) → Some (first, rest) ≡ split_first events
    → HeadOf v start level more first rest
head_of (scalar s t) start level more events first rest below e f =
    same_parts first (event Scalar start t) rest (shortened level more) (f ∙ ap split_first e)
head_of (array es comma t) start level more events first rest below e f =
    opens_array start level (elements_events (start + 1) es) (array_end start es comma t) more events first rest below e f
head_of (inline_table ps comma t) start level more events first rest below e f =
    opens_inline start level (pairs_events (start + 1) ps) (inline_end start ps comma t) more events first rest below e f

pub some_event : (v : Value) (start level : ℕ) (more events : List Event) → level ≤ nesting_limit → events
    ≡ shortened level (value_events start v ++ more) → None ≡ split_first events → ⊥
some_event (scalar s t) start level more events below e f = let g = f ∙ ap split_first e in absurd cc
some_event (array es comma t) start level more events below e f =
    let g = f ∙ ap split_first e in
    elim (eqb_tells level nesting_limit) [
      | inl (full, same) ↦ let h = rw full at g in absurd cc
      | inr (below, apart) ↦ let h =
          rw below at g in absurd cc
    ]
some_event (inline_table ps comma t) start level more events below e f =
    let g = f ∙ ap split_first e in
    elim (eqb_tells level nesting_limit) [
      | inl (full, same) ↦ let h = rw full at g in absurd cc
      | inr (below, apart) ↦ let h =
          rw below at g in absurd cc
    ]

-- a value has an event
pub no_event : (v : Value) (start level : ℕ) (more events : List Event) (P : Type 0) → level ≤ nesting_limit → events
    ≡ shortened level (value_events start v ++ more)
    → None ≡ split_first events → P
no_event v start level more events P below e f = absurd (some_event v start level more events below e f)

-- ---- a bracket that is one too many

pub here : (f : Fault) (gs : List Fault) → Contains (f ∷ gs) f
here f gs = (0, omega arith, refl)

deep : (level start : ℕ) (gs : List Fault) → level ≡ nesting_limit
    → Contains (deep_bracket level start ++ gs) (fault recursion_limit start 1)
deep level start gs same =
    subst (λ n. Contains (deep_bracket n start ++ gs) (fault recursion_limit start 1)) (sym same) (here (fault recursion_limit start 1) gs)

abbrev limit_at : ℕ → ℕ → Fault
limit_at i j = record { message = recursion_limit; span = Some (i, j) }

deep_report : (source : Text) (start level : ℕ) (gs : List Fault) (first : Event) (bracket : Text) (kind : kinds.EventKind) (r : Report)
    → length bracket ≡ 1 → level ≡ nesting_limit
    → first ≡ record (event kind start bracket) { kind = TooDeep }
    → r ≡ record { message = codes "recursion limit"; span = Some (first.span.start, first.span.end); input = source }
    → NamesOne source (deep_bracket level start ++ gs) r
deep_report source start level gs first bracket kind r one same is e =
    let at : fault_of r ≡ fault recursion_limit start 1 =
    ap fault_of e ∙ ap (λ (x : Event). limit_at x.span.start x.span.end) is ∙ ap (λ n. limit_at start (start + n)) one in
    (ap (λ x. x.input) e, subst (Contains (deep_bracket level start ++ gs)) (sym at) (deep level start gs same))

pub too_deep : (source : Text) (v : Value) (start level : ℕ) (more : List Event) (first : Event) (rest : List Event) (e : ParseFault)
    → (first.kind ≡ Scalar → ⊥) → (first.kind ≡ ArrayOpen → ⊥) → (first.kind ≡ InlineTableOpen → ⊥) → HeadOf v start level more first rest
    → IfToml e (λ r. r ≡ record { message = codes "recursion limit"; span = Some (first.span.start, first.span.end); input = source })
    → IfToml e (NamesOne source (value_faults v start level))
too_deep source (scalar s t) start level more first rest e ns na ni head h = absurd (ns (ap (λ (x : Event). x.kind) head.0))
too_deep source (array es comma t) start level more first rest e ns na ni (inl head) h =
    mapped e _ _ (λ r is. deep_report source start level (elements_faults es (start + 1) (suc level)) first (codes "[") ArrayOpen r refl
    head.0 head.1 is) h
too_deep source (array es comma t) start level more first rest e ns na ni (inr head) h = absurd (na (ap (λ (x : Event). x.kind) head.1))
too_deep source (inline_table ps comma t) start level more first rest e ns na ni (inl head) h =
    mapped e _ _ (λ r is. deep_report source start level _ first (codes "{") InlineTableOpen r refl head.0 head.1 is) h
too_deep source (inline_table ps comma t) start level more first rest e ns na ni (inr head) h =
    absurd (ni (ap (λ (x : Event). x.kind) head.1))
