-- A value that begins with a scalar, and one that begins with the bracket of an array.
use Rattle.std.proofs.Common.{◌≡◌, ℕ, suc, ◌+◌, ◌-◌, ◌<◌, Bool, true, false, ◌++◌, List, [], length, refl, sym, ap, ◌∙◌, subst, Some, inl}
use Rattle.std.proofs.Common.{inr, codes}
use Rattle.std.specs.Prelude.{Contains}
use Rattle.toml_edit_model.specs.Text.{Text}
use Rattle.toml_edit_model.specs.Scalars as scalars
use Rattle.toml_edit_model.specs.Spelling.{Spells, is_in_range}
use Rattle.toml_edit_model.specs.Syntax.{Value, scalar, array, inline_table, Elements, Pairs, IsValue, AreElements, ArePairs, value_text}
use Rattle.toml_edit_model.specs.Syntax.{nesting_limit}
use Rattle.toml_edit_model.specs.Faults.{fault, range_message, out_of_range, value_faults}
use Rattle.toml_edit_model.specs.Tree.{span, unset, Node, leaf}
use Rattle.toml_edit_model.specs.TreeOf.{spanned_form, decor_at, IsValueNode}
use Rattle.toml_edit_model.specs.Conversions.{with_decor}
use Rattle.toml_edit_laws.specs.Standing.{Stands}
use Rattle.toml_edit_laws.proofs.common.StandingLaws.{cut_out-is}
use Rattle.toml_edit_error.specs.Report.{fault_of}
use Rattle.toml_edit_error.specs.Fault.{IfToml}
use Rattle.toml_edit_error.specs.declared.toml_error.ParseFault.{ParseFault}
use Rattle.toml_edit_syntax.specs.declared.event.Event.{Event}
use Rattle.toml_edit_syntax.specs.declared.event.EventKind.TheVariants.{Scalar, ArrayOpen, ArrayClose, InlineTableOpen, InlineTableClose}
use Rattle.toml_edit_syntax.specs.ValueEvents.{event, elements_events, pairs_events, close_events, shortened}
use Rattle.toml_edit_parser.specs.ValueRead.{NamesOne, IsRead}
use Rattle.toml_edit_parser.proofs.ReadLaws.{HeadOf, mapped, here}
use Rattle.toml_edit_parser.proofs.SpellingLaws.{scalar-some, span_of-some}
use Rattle.toml_edit_model.specs.OwnedForm.{cut_out}

-- ---- scalars

scalar_cut : (source : Text) (first : Event) (start : ℕ) (t : Text) → first ≡ event Scalar start t → Stands source start t
    → cut_out source first.span.start first.span.end ≡ t
scalar_cut source first start t is stands = ap (λ (e : Event). cut_out source e.span.start e.span.end) is ∙ cut_out-is source start t stands

scalar_end : (first : Event) (start : ℕ) (t : Text) → first ≡ event Scalar start t → first.span.end ≡ first.span.start + length t
scalar_end first start t is = ap (λ (e : Event). e.span.end) is ∙ sym (ap (λ (e : Event). e.span.start + length t) is)

pub no_fault : (s : scalars.Scalar) (t : Text) (start : ℕ) → is_in_range s t ≡ true → out_of_range s t start ≡ []
no_fault s t start e = rw e refl

pub one_fault : (s : scalars.Scalar) (t : Text) (start : ℕ) → is_in_range s t ≡ false
    → Contains (out_of_range s t start) (fault (range_message s) start (length t))
one_fault s t start e = rw e (here (fault (range_message s) start (length t)) [])

pub scalar_node : (s : scalars.Scalar) (t : Text) (start at : ℕ) (n : Node) → (t ≡ [] → ⊥) → at ≡ start → n
    ≡ leaf s (Some (span at (at + length t))) unset
    → (i : ℕ) (before after : Text) → start ≡ i + length before
    → IsValueNode spanned_form (scalar s t) i before after (with_decor (decor_at spanned_form i before (start + length t) after) n)
scalar_node s t start at n some same is i before after e =
    subst (λ m. IsValueNode spanned_form (scalar s t) i before after
    (with_decor (decor_at spanned_form i before (start + length t) after) m)) (sym is) (
      refl,
      ap (λ j. Some (span j (j + length t))) (same ∙ e) ∙ sym (ap Some (span_of-some (i + length before) t some)),
      ap (λ j. decor_at spanned_form i before (j + length t) after) e,
    )

pub scalar_read : (source : Text) (v : Value) (start level : ℕ) (more : List Event) (first : Event) (rest : List Event) (n : Node)
    → first.kind ≡ Scalar
    → HeadOf v start level more first rest → IsValue v → Stands source start (value_text v)
    → ((s : scalars.Scalar) (t : Text) → cut_out source first.span.start first.span.end ≡ t → first.span.end ≡ first.span.start + length t
    → Spells s t
    → (n ≡ leaf s (Some (span first.span.start (first.span.start + length t))) unset) × (is_in_range s t ≡ true))
    → IsRead v start level more n rest
scalar_read source (scalar s t) start level more first rest n kind head is stands told =
    let h = told s t (scalar_cut source first start t head.0 stands) (scalar_end first start t head.0) is in
    record {
      faultless = no_fault s t start h.1;
      rest_is = head.1;
      node = scalar_node s t start first.span.start n (scalar-some s t is) (ap (λ (e : Event). e.span.start) head.0) h.0;
    }
scalar_read source (array es comma t) start level more first rest n kind (inl head) is stands told = let f =
    ap (λ (e : Event). e.kind) head.1 in absurd cc
scalar_read source (array es comma t) start level more first rest n kind (inr head) is stands told = let f =
    ap (λ (e : Event). e.kind) head.1 in absurd cc
scalar_read source (inline_table ps comma t) start level more first rest n kind (inl head) is stands told = let f =
    ap (λ (e : Event). e.kind) head.1 in absurd cc
scalar_read source (inline_table ps comma t) start level more first rest n kind (inr head) is stands told = let f =
    ap (λ (e : Event). e.kind) head.1 in absurd cc

pub scalar_refused : (source : Text) (v : Value) (start level : ℕ) (more : List Event) (first : Event) (rest : List Event) (e : ParseFault)
    → first.kind ≡ Scalar
    → HeadOf v start level more first rest → IsValue v → Stands source start (value_text v)
    → ((s : scalars.Scalar) (t : Text) → cut_out source first.span.start first.span.end ≡ t → first.span.end ≡ first.span.start + length t
    → Spells s t
    → IfToml e (λ r. (r.input ≡ source) × (is_in_range s t ≡ false) × (fault_of r ≡ fault (range_message s) first.span.start (length t))))
    → IfToml e (NamesOne source (value_faults v start level))
scalar_refused source (scalar s t) start level more first rest e kind head is stands told =
    let h = told s t (scalar_cut source first start t head.0 stands) (scalar_end first start t head.0) is in
    mapped e _ _ (λ r p. (
      p.0,
      subst (Contains (out_of_range s t start))
          (sym (p.2 ∙ ap (λ j. fault (range_message s) j (length t)) (ap (λ (x : Event). x.span.start) head.0))) (one_fault s t start p.1),
    )) h
scalar_refused source (array es comma t) start level more first rest e kind (inl head) is stands told = let f =
    ap (λ (x : Event). x.kind) head.1 in absurd cc
scalar_refused source (array es comma t) start level more first rest e kind (inr head) is stands told = let f =
    ap (λ (x : Event). x.kind) head.1 in absurd cc
scalar_refused source (inline_table ps comma t) start level more first rest e kind (inl head) is stands told = let f =
    ap (λ (x : Event). x.kind) head.1 in absurd cc
scalar_refused source (inline_table ps comma t) start level more first rest e kind (inr head) is stands told = let f =
    ap (λ (x : Event). x.kind) head.1 in absurd cc

-- ---- arrays

-- A value that begins with the bracket of an array is one.
pub array_opened : (source : Text) (v : Value) (start level : ℕ) (more : List Event) (first : Event) (rest : List Event) (R : Value
    → Type 0) → first.kind ≡ ArrayOpen
    → HeadOf v start level more first rest → IsValue v → Stands source start (value_text v)
    → ((es : Elements) (comma : Bool) (t : Text) → AreElements es → Stands source start (value_text (array es comma t))
    → level < nesting_limit → first.span.start ≡ start
    → rest ≡ shortened (suc level) (elements_events (start + 1) es
    ++ (close_events ArrayClose (codes "]") (start + length (value_text (array es comma t)) - 1) comma t ++ more))
    → R (array es comma t))
    → R v
array_opened source (scalar s t) start level more first rest R kind head is stands f = let g = ap (λ (e : Event). e.kind) head.0 in
    absurd cc
array_opened source (array es comma t) start level more first rest R kind (inl head) is stands f = let g =
    ap (λ (e : Event). e.kind) head.1 in absurd cc
array_opened source (array es comma t) start level more first rest R kind (inr head) is stands f =
    f es comma t is.1 stands head.0 (ap (λ (e : Event). e.span.start) head.1) head.2
array_opened source (inline_table ps comma t) start level more first rest R kind (inl head) is stands f = let g =
    ap (λ (e : Event). e.kind) head.1 in absurd cc
array_opened source (inline_table ps comma t) start level more first rest R kind (inr head) is stands f = let g =
    ap (λ (e : Event). e.kind) head.1 in absurd cc

-- ---- inline tables

-- A value that begins with the brace of an inline table is one.
pub inline_opened : (source : Text) (v : Value) (start level : ℕ) (more : List Event) (first : Event) (rest : List Event) (R : Value
    → Type 0) → first.kind ≡ InlineTableOpen
    → HeadOf v start level more first rest → IsValue v → Stands source start (value_text v)
    → ((ps : Pairs) (comma : Bool) (t : Text) → ArePairs ps → Stands source start (value_text (inline_table ps comma t))
    → level < nesting_limit → first.span.start ≡ start
    → rest ≡ shortened (suc level) (pairs_events (start + 1) ps
    ++ (close_events InlineTableClose (codes "}") (start + length (value_text (inline_table ps comma t)) - 1) comma t ++ more))
    → R (inline_table ps comma t))
    → R v
inline_opened source (scalar s t) start level more first rest R kind head is stands f = let g = ap (λ (e : Event). e.kind) head.0 in
    absurd cc
inline_opened source (array es comma t) start level more first rest R kind (inl head) is stands f = let g =
    ap (λ (e : Event). e.kind) head.1 in absurd cc
inline_opened source (array es comma t) start level more first rest R kind (inr head) is stands f = let g =
    ap (λ (e : Event). e.kind) head.1 in absurd cc
inline_opened source (inline_table ps comma t) start level more first rest R kind (inl head) is stands f = let g =
    ap (λ (e : Event). e.kind) head.1 in absurd cc
inline_opened source (inline_table ps comma t) start level more first rest R kind (inr head) is stands f =
    f ps comma t is.1 stands head.0 (ap (λ (e : Event). e.span.start) head.1) head.2
