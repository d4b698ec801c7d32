-- The first key of a path, by its events.
use Rattle.std.proofs.Common.{◌≡◌, ◌<◌, ℕ, ◌+◌, ◌-◌, List, [], ◌∷◌, length, sym, ap, subst, ◌∙◌, arith, Option, Some, None}
use Rattle.toml_edit_model.specs.Text.{Text}
use Rattle.toml_edit_model.specs.Spelling.{SpellsKey}
use Rattle.toml_edit_model.specs.Syntax.{Segment, segment_text, path_text}
use Rattle.toml_edit_model.specs.OwnedForm.{cut_out}
use Rattle.toml_edit_model.specs.Tree.{Raw, owned, Decor, unset, Key}
use Rattle.toml_edit_model.specs.TreeOf.{span_of}
use Rattle.toml_edit_laws.specs.Standing.{Stands}
use Rattle.toml_edit_laws.proofs.values.ValueFaults.{is_empty-nil}
use Rattle.toml_edit_error.specs.Fault.{IfToml}
use Rattle.toml_edit_error.specs.declared.toml_error.ParseFault.{ParseFault}
use Rattle.toml_edit_syntax.specs.declared.event.Event.{Event}
use Rattle.toml_edit_syntax.specs.declared.event.Span.{Span}
use Rattle.toml_edit_syntax.specs.declared.event.EventKind.TheVariants.{Key as key_kind, BeforeDot, AfterDot}
use Rattle.toml_edit_syntax.specs.Events.{IsSpanOf}
use Rattle.toml_edit_syntax.specs.ValueEvents.{event, path_events}
use Rattle.toml_edit_parser.specs.declared.key.KeyPath.{KeyPath}
use Rattle.toml_edit_parser.specs.PairRead.{IsEndOfPath, PathView, key_with, leaf_of, path_of, split_dot}
use Rattle.toml_edit_parser.specs.PathRead.{IsFirstKey, IsPathFrom, segment_key}
use Rattle.toml_edit_parser.specs.ValueRead.{AreIn, span_at, spanned_raw, split_first}
use Rattle.toml_edit_parser.proofs.ArrayLaws.{spanned_raw-is}
use Rattle.toml_edit_parser.proofs.EntryLaws.{key-spelled, same_dots}
use Rattle.toml_edit_parser.proofs.ReadLaws.{same_parts}
use Rattle.toml_edit_parser.proofs.SpellingLaws.{spelled-some, span_of-some}

abbrev with_spelling : Decor → Segment → Raw → Raw → Raw → Key
with_spelling own s spelling before after =
    record { name = s.key; spelling = Some spelling; leaf = own; dotted = record { prefix = Some before; suffix = Some after } }

back : (start n : ℕ) → start ≡ start + n - n
back start n = omega arith

key_is : (own : Decor) (start : ℕ) (s : Segment) (name : Text) (at : Span) (before after : Raw) → (s.spelled ≡ [] → ⊥) → name ≡ s.key
    → at ≡ span_at (start + length s.before) s.spelled → before ≡ span_of start s.before → after
    ≡ span_of (start + length s.before + length s.spelled) s.after
    → key_with name at own before after ≡ segment_key own start s
key_is own start s name at before after some named spelled left right =
    let place = start + length s.before in
    ap (λ (t : Text). key_with t at own before after) named
    ∙ ap (λ (x : Span). key_with s.key x own before after) spelled
    ∙ ap (λ (r : Raw). with_spelling own s r before after) (sym (span_of-some place s.spelled some))
    ∙ ap (λ (r : Raw). with_spelling own s (span_of place s.spelled) r after) (left
    ∙ ap (λ (j : ℕ). span_of j s.before) (back start (length s.before)))
    ∙ ap (λ (r : Raw). with_spelling own s (span_of place s.spelled) (span_of (place - length s.before) s.before) r) right

-- the name is that of the text at a span
abbrev pub Told : Text → Span → Text → Type 0
Told source at name = (k : Text) → SpellsKey k (cut_out source at.start at.end) → name ≡ k

-- what was read of a path
pub record Seen (source : Text) (own : Decor) (p : List Segment) (start : ℕ) (path : KeyPath) (first : Event) (rest : List Event) : Type 0
  where
    pub are : IsEndOfPath p
    pub stands : Stands source start (path_text p)
    pub at : IsPathFrom own start p path
    pub split : Some (first, rest) ≡ split_first path.events.now

one_event : (source : Text) (own : Decor) (start : ℕ) (s : Segment) (path : KeyPath) (first : Event) (rest : List Event)
    → Seen source own (s ∷ []) start path first rest → (first ≡ event key_kind (start + length s.before) s.spelled) × (rest ≡ [])
one_event source own start s path first rest f = same_parts first _ rest _ (f.split ∙ ap split_first f.at.2)

-- the events after the first key
abbrev behind_dot : ℕ → Segment → Segment → List Segment → List Event
behind_dot start s r more =
    let dot = start + length (segment_text s) in
    event BeforeDot (start + length s.before + length s.spelled) s.after ∷ event AfterDot (dot + 1) r.before
    ∷ path_events (dot + 1) (r ∷ more)

more_events : (source : Text) (own : Decor) (start : ℕ) (s r : Segment) (more : List Segment) (path : KeyPath) (first : Event)
    (rest : List Event)
    → Seen source own (s ∷ r ∷ more) start path first rest → (first ≡ event key_kind (start + length s.before) s.spelled)
    × (rest ≡ behind_dot start s r more)
more_events source own start s r more path first rest f = same_parts first _ rest _ (f.split ∙ ap split_first f.at.2)

-- the name of the first key can't be refused
pub name-refused : (source : Text) (own : Decor) (p : List Segment) (start : ℕ) (path : KeyPath) (first : Event) (rest : List Event)
    (err : ParseFault)
    → Seen source own p start path first rest
    → ((k : Text) → SpellsKey k (cut_out source first.span.start first.span.end) → IfToml err (λ r. ⊥)) → IfToml err (λ r. ⊥)
name-refused source own [] start path first rest err f told = absurd (let g = f.are.some in cc)
name-refused source own (s ∷ []) start path first rest err f told =
    told s.key (key-spelled source s [] start first f.are f.stands (one_event source own start s path first rest f).0)
name-refused source own (s ∷ r ∷ more) start path first rest err f told =
    told s.key (key-spelled source s (r ∷ more) start first f.are f.stands (more_events source own start s r more path first rest f).0)

-- the last key of a path
pub last-read : (source : Text) (own : Decor) (p : List Segment) (start : ℕ) (path : KeyPath) (first : Event) (rest : List Event)
    (name : Text) (k : Key)
    → Seen source own p start path first rest → Told source first.span name → None ≡ split_dot path rest
    → k ≡ key_with name first.span (leaf_of path) (spanned_raw path.before) (owned [])
    → IsFirstKey own start p (record { key = k; span = first.span; rest = None })
last-read source own [] start path first rest name k f told none is = absurd (let g = f.are.some in cc)
last-read source own (s ∷ []) start path first rest name k f told none is =
    let e = one_event source own start s path first rest f in
    let at : first.span ≡ span_at (start + length s.before) s.spelled = ap (λ (x : Event). x.span) e.0 in
    let place = start + length s.before + length s.spelled in (
      at,
      is
          ∙ ap (λ (d : Decor). key_with name first.span d (spanned_raw path.before) (owned [])) f.at.0
          ∙ key_is own start s name first.span (spanned_raw path.before) (owned []) (spelled-some s.key s.spelled f.are.spelled.0)
          (told s.key (key-spelled source s [] start first f.are f.stands e.0)) at (ap spanned_raw f.at.1 ∙ spanned_raw-is start s.before)
          (sym (ap (span_of place) (is_empty-nil s.after f.are.ends))),
    )
last-read source own (s ∷ r ∷ more) start path first rest name k f told none is =
    let e = more_events source own start s r more path first rest f in
    absurd (let g = none ∙ ap (split_dot path) e.1 in cc)

-- the events after a dot lie in the text where those before it do, and are fewer
pub behind-dot-in : (t : Text) (path : KeyPath) (after : Span) (inside : KeyPath) (rest : List Event)
    → ◌≡◌ {A = Option (Span × PathView)} (Some (after, path_of inside)) (split_dot path rest) → AreIn t rest
    → AreIn t inside.events.now × (length inside.events.now < length rest)
behind-dot-in t path after inside [] dot h = absurd cc
behind-dot-in t path after inside (a ∷ []) dot h = absurd cc
behind-dot-in t path after inside (a ∷ b ∷ es) dot h =
    let dots = same_dots after a.span (path_of inside) _ dot in (
      subst (AreIn t) (sym (ap (λ (v : PathView). v.events) dots.1)) h.1.1,
      let n = ap (λ (v : PathView). length v.events) dots.1 in omega arith,
    )

-- so do the texts on both sides of the dot, and those around the path stay
pub after-dot-in : (t : Text) (path : KeyPath) (after : Span) (inside : KeyPath) (rest : List Event)
    → ◌≡◌ {A = Option (Span × PathView)} (Some (after, path_of inside)) (split_dot path rest) → AreIn t rest
    → IsSpanOf t after × IsSpanOf t inside.before × (inside.prefix ≡ path.prefix) × (inside.suffix ≡ path.suffix)
after-dot-in t path after inside [] dot h = absurd cc
after-dot-in t path after inside (a ∷ []) dot h = absurd cc
after-dot-in t path after inside (a ∷ b ∷ es) dot h =
    let dots = same_dots after a.span (path_of inside) _ dot in (
      subst (IsSpanOf t) (sym dots.0) h.0,
      subst (IsSpanOf t) (sym (ap (λ (v : PathView). v.before) dots.1)) h.1.0,
      ap (λ (v : PathView). v.prefix) dots.1,
      ap (λ (v : PathView). v.suffix) dots.1,
    )

abbrev decor_in : PathView → Decor
decor_in p = record { prefix = Some (spanned_raw p.prefix); suffix = Some (spanned_raw p.suffix) }

-- a key that a path passes through, and the path after its dot
pub passed-read : (source : Text) (own : Decor) (p : List Segment) (start : ℕ) (path : KeyPath) (first : Event) (rest : List Event)
    (name : Text) (k : Key)
    (after : Span) (inside : KeyPath) → Seen source own p start path first rest → Told source first.span name
    → ◌≡◌ {A = Option (Span × PathView)} (Some (after, path_of inside)) (split_dot path rest)
    → k ≡ key_with name first.span unset (spanned_raw path.before) (spanned_raw after)
    → IsFirstKey own start p (record { key = k; span = first.span; rest = Some inside })
passed-read source own [] start path first rest name k after inside f told dot is = absurd (let g = f.are.some in cc)
passed-read source own (s ∷ []) start path first rest name k after inside f told dot is =
    let e = one_event source own start s path first rest f in
    absurd (let g = dot ∙ ap (split_dot path) e.1 in cc)
passed-read source own (s ∷ r ∷ more) start path first rest name k after inside f told dot is =
    let e = more_events source own start s r more path first rest f in
    let at : first.span ≡ span_at (start + length s.before) s.spelled = ap (λ (x : Event). x.span) e.0 in
    let dots = same_dots after _ (path_of inside) _ (dot ∙ ap (split_dot path) e.1) in
    let place = start + length s.before + length s.spelled in (
      at,
      (
        is
            ∙ key_is unset start s name first.span (spanned_raw path.before) (spanned_raw after)
            (spelled-some s.key s.spelled f.are.spelled.0)
            (told s.key (key-spelled source s (r ∷ more) start first f.are f.stands e.0)) at (ap spanned_raw f.at.1
            ∙ spanned_raw-is start s.before)
            (ap spanned_raw dots.0 ∙ spanned_raw-is place s.after),
        (ap decor_in dots.1 ∙ f.at.0, ap (λ (v : PathView). v.before) dots.1, ap (λ (v : PathView). v.events) dots.1),
      ),
    )
