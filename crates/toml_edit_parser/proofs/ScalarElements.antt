-- An element that is a scalar.
use Rattle.std.proofs.Common.{◌≡◌, ℕ, ◌+◌, true, false, List, ◌∷◌, [], ◌++◌, length, Some, refl, sym, ap, ◌∙◌, subst, inl, inr}
use Rattle.std.specs.Prelude.{Contains}
use Rattle.std.proofs.lemmas.Bool.Decides.{eqb_tells}
use Rattle.toml_edit_model.specs.Mode.{Mode}
use Rattle.toml_edit_model.specs.Text.{Text}
use Rattle.toml_edit_model.specs.Scalars as scalars
use Rattle.toml_edit_model.specs.Spelling.{Spells, is_in_range}
use Rattle.toml_edit_model.specs.Syntax.{Around, Value, scalar, array, inline_table, IsValue, value_text, nesting_limit}
use Rattle.toml_edit_model.specs.Faults.{Fault, fault, range_message, out_of_range}
use Rattle.toml_edit_model.specs.Tree.{Raw, Decor, Node, span, unset, leaf}
use Rattle.toml_edit_model.specs.TreeOf.{spanned_form, spanned_in, IsValueNode}
use Rattle.toml_edit_laws.specs.Standing.{Stands}
use Rattle.toml_edit_laws.proofs.common.StandingLaws.{cut_out-is}
use Rattle.toml_edit_error.specs.Report.{Report, fault_of}
use Rattle.toml_edit_error.specs.Fault.{IfToml}
use Rattle.toml_edit_error.specs.declared.toml_error.ParseFault.{ParseFault}
use Rattle.toml_edit_syntax.specs.declared.event.Event.{Event}
use Rattle.toml_edit_syntax.specs.declared.event.EventKind.TheVariants.{After, LineEnd}
use Rattle.toml_edit_syntax.specs.declared.event.Span.{Span}
use Rattle.toml_edit_syntax.specs.ValueEvents.{event, value_events, shortened}
use Rattle.toml_edit_tree.specs.declared.item.Item.{Item}
use Rattle.toml_edit_tree.specs.View.{item_view, items_view}
use Rattle.toml_edit_parser.specs.StatementParts.{IsLineValue, suffix_span}
use Rattle.toml_edit_parser.specs.ValueRead.{span_at, spanned_raw, split_first, split_scalar, NamesOne, AddsElement}
use Rattle.toml_edit_parser.proofs.ArrayLaws.{spanned_raw-is}
use Rattle.toml_edit_parser.proofs.HeadLaws.{no_fault, one_fault, scalar_node}
use Rattle.toml_edit_parser.proofs.ReadFits.{fits-item}
use Rattle.toml_edit_parser.proofs.ReadLaws.{same_parts, same_spans, mapped}
use Rattle.toml_edit_parser.proofs.SpellingLaws.{scalar-some}
use Rattle.toml_edit_model.specs.OwnedForm.{cut_out, RawFits, NodeFits, ItemsFit}

-- the events of an element after the text before it
abbrev pub element_tail : ℕ → ℕ → Value → Text → List Event → List Event
element_tail level at v after more = shortened level (value_events at v ++ (event After (at + length (value_text v)) after ∷ more))

-- An element that begins with a scalar is one.
pub scalar_element : (source : Text) (v : Value) (at level : ℕ) (after : Text) (more tail : List Event) (place : Span) (behind : List Event)
    (R : Value → Type 0)
    → Some (place, behind) ≡ split_scalar tail → tail ≡ element_tail level at v after more → IsValue v → Stands source at (value_text v)
    → ((s : scalars.Scalar) (t : Text) → Spells s t → Stands source at t → place ≡ span_at at t
    → behind ≡ shortened level (event After (at + length t) after ∷ more) → R (scalar s t))
    → R v
scalar_element source (scalar s t) at level after more tail place behind R e is spells stands f =
    let p = same_spans place (span_at at t) behind (shortened level (event After (at + length t) after ∷ more)) (e ∙ ap split_scalar is) in
    f s t spells stands p.0 p.1
scalar_element source (array es comma t) at level after more tail place behind R e is spells stands f =
    let g = e ∙ ap split_scalar is in
    elim (eqb_tells level nesting_limit) [
      | inl (full, same) ↦ let h = rw full at g in absurd cc
      | inr (below, apart) ↦ let h =
          rw below at g in absurd cc
    ]
scalar_element source (inline_table ps comma t) at level after more tail place behind R e is spells stands f =
    let g = e ∙ ap split_scalar is in
    elim (eqb_tells level nesting_limit) [
      | inl (full, same) ↦ let h = rw full at g in absurd cc
      | inr (below, apart) ↦ let h =
          rw below at g in absurd cc
    ]

-- So is a value that begins with a scalar, whatever events follow it.
pub scalar_first : (source : Text) (v : Value) (at : ℕ) (es : ℕ
    → List Event) (tail : List Event) (place : Span) (behind : List Event) (R : Value → Type 0)
    → Some (place, behind) ≡ split_scalar tail → tail ≡ shortened 0 (value_events at v ++ es (at + length (value_text v))) → IsValue v
    → Stands source at (value_text v)
    → ((s : scalars.Scalar) (t : Text) → Spells s t → Stands source at t → place ≡ span_at at t → behind ≡ shortened 0 (es (at + length t))
    → R (scalar s t))
    → R v
scalar_first source (scalar s t) at es tail place behind R e is spells stands f =
    let p = same_spans place (span_at at t) behind (shortened 0 (es (at + length t))) (e ∙ ap split_scalar is) in
    f s t spells stands p.0 p.1
scalar_first source (array xs comma t) at es tail place behind R e is spells stands f = absurd (let g = e ∙ ap split_scalar is in cc)
scalar_first source (inline_table ps comma t) at es tail place behind R e is spells stands f = absurd (let g = e ∙ ap split_scalar is in cc)

-- ---- what its place says

pub place_cut : (source : Text) (place : Span) (at : ℕ) (t : Text) → place ≡ span_at at t → Stands source at t
    → cut_out source place.start place.end ≡ t
place_cut source place at t is stands = ap (λ (p : Span). cut_out source p.start p.end) is ∙ cut_out-is source at t stands

abbrev fault_from : Span → Text → Fault
fault_from p m = record { message = m; span = Some (p.start, p.end) }

pub scalar_refusal : (source : Text) (s : scalars.Scalar) (t : Text) (at : ℕ) (place : Span) (message : Text) (e : ParseFault)
    → place ≡ span_at at t → is_in_range s t ≡ false → message ≡ range_message s
    → IfToml e (λ r. r ≡ record { message = message; span = Some (place.start, place.end); input = source })
    → IfToml e (NamesOne source (out_of_range s t at))
scalar_refusal source s t at place message e is past told h =
    mapped e _ _ (λ r known.
    let named : fault_of r ≡ fault (range_message s) at (length t) =
    ap fault_of known ∙ ap (fault_from place) told ∙ ap (λ (p : Span). fault_from p (range_message s)) is in
    (ap (λ (x : Report). x.input) known, subst (Contains (out_of_range s t at)) (sym named) (one_fault s t at past))) h

-- ---- what is put

-- the decor that is put
abbrev put_decor : Span → Span → Decor
put_decor a b = record { prefix = Some (spanned_raw a); suffix = Some (spanned_raw b) }

pub scalar_added : (a : Around) (s : scalars.Scalar) (t : Text) (start level : ℕ) (more : List Event) (old new : List Item)
    (before place : Span)
    (first : Event) (events rest : List Event) (x : Item) (d : Decor)
    → Spells s t → before ≡ span_at start a.before → place ≡ span_at (start + length a.before) t
    → events ≡ shortened level (event After (start + length a.before + length t) a.after ∷ more) → Some (first, rest) ≡ split_first events
    → is_in_range s t ≡ true → item_view x ≡ leaf s (Some (span place.start place.end)) d → d ≡ put_decor before first.span
    → new ≡ old ++ x ∷ []
    → AddsElement a (scalar s t) start level more old new rest
scalar_added a s t start level more old new before place first events rest x d spells before_is place_is events_are split fits view decor
    put =
    let at = start + length a.before in
    let end = at + length t in
    let p = same_parts first (event After end a.after) rest (shortened level more) (split ∙ ap split_first events_are) in
    let after_is : first.span ≡ span_at end a.after = ap (λ (e : Event). e.span) p.0 in
    let spelling = λ (q : Span). leaf s (Some (span q.start q.end)) d in
    let known =
    view ∙ ap spelling place_is ∙ ap (leaf s (Some (span at end))) (
    decor ∙ ap (λ (q : Span). put_decor q first.span) before_is ∙ ap (put_decor (span_at start a.before)) after_is
    ∙ ap (λ r. record { prefix = Some r; suffix = Some (spanned_raw (span_at end a.after)) }) (spanned_raw-is start a.before)
    ∙ ap (λ r. record { prefix = Some (spanned_form.raw start a.before); suffix = Some r }) (spanned_raw-is end a.after)
    ) in
    record {
      faultless = no_fault s t at fits;
      rest_is = p.1;
      added = x;
      items = put;
      node = subst (λ n. IsValueNode spanned_form (scalar s t) start a.before a.after n) (sym known)
          (scalar_node s t at at (leaf s (Some (span at end)) unset) (scalar-some s t spells) refl refl start a.before a.after refl);
    }

-- the value of a key line, and the text that is counted to its suffix
pub scalar_put : (mode : Mode) (source : Text) (s : scalars.Scalar) (t : Text) (start : ℕ) (before : Span) (after suffix : Text)
    (more : List Event) (place : Span) (first : Event)
    (events rest : List Event) (x : Item) (d : Decor)
    → Spells s t → place ≡ span_at start t → events ≡ shortened 0 (event LineEnd (start + length t) after ∷ more) → Some (first, rest)
    ≡ split_first events
    → suffix_span mode source (span_at (start + length t) after) ≡ span_at (start + length t) suffix
    → is_in_range s t ≡ true → item_view x ≡ leaf s (Some (span place.start place.end)) d → d
    ≡ put_decor before (suffix_span mode source first.span)
    → IsLineValue mode (scalar s t) start before suffix more (item_view x) rest
scalar_put mode source s t start before after suffix more place first events rest x d spells place_is events_are split counted fits view
    decor =
    let end = start + length t in
    let p = same_parts first (event LineEnd end after) rest (shortened 0 more) (split ∙ ap split_first events_are) in
    let after_is : suffix_span mode source first.span ≡ span_at end suffix = ap (λ (e : Event). suffix_span mode source e.span) p.0
    ∙ counted in
    let spelling = λ (q : Span). leaf s (Some (span q.start q.end)) d in
    record {
      faultless = no_fault s t start fits;
      node = λ i b here same.
          let known =
          view ∙ ap spelling place_is ∙ ap (leaf s (Some (span start end))) (
          decor ∙ ap (λ (q : Span). put_decor q (suffix_span mode source first.span)) same ∙ ap (put_decor (span_at i b)) after_is
          ∙ ap (λ r. record { prefix = Some r; suffix = Some (spanned_raw (span_at end suffix)) }) (spanned_raw-is i b)
          ∙ ap (λ r. record { prefix = Some (spanned_form.raw i b); suffix = Some r }) (spanned_raw-is end suffix)
          ) in
          subst (λ n. IsValueNode (spanned_in mode) (scalar s t) i b suffix n) (sym known)
          (scalar_node s t start start (leaf s (Some (span start end)) unset) (scalar-some s t spells) refl refl i b suffix here);
      rest_is = p.1;
    }

-- ---- it fits

pub scalar_fits : (t : Text) (xs ys : List Item) (x : Item) (s : scalars.Scalar) (i j : ℕ) (d : Decor) (a b : Raw)
    → item_view x ≡ leaf s (Some (span i j)) d → RawFits t (span i j) → d ≡ record { prefix = Some a; suffix = Some b } → RawFits t a
    → RawFits t b
    → ys ≡ xs ++ x ∷ [] → ItemsFit t (items_view xs) → ItemsFit t (items_view ys)
scalar_fits t xs ys x s i j d a b view spelling decor before after put fit =
    let known = view ∙ ap (leaf s (Some (span i j))) decor in
    let P : Node → Type 0 = λ n. NodeFits t n in
    let Q : List Item → Type 0 = λ zs. ItemsFit t (items_view zs) in
    subst Q (sym put) (fits-item t xs x fit (subst P (sym known) (spelling, (before, after))))
