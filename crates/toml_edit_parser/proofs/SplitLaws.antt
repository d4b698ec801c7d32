-- The parts of a list of events lie in the text where the list does, and are shorter.
use Rattle.std.proofs.Common.{◌≡◌, ◌<◌, List, [], ◌∷◌, length, sym, ap, subst, arith, Option, Some, None, inl, inr}
use Rattle.std.proofs.lemmas.Bool.{cases_Bool}
use Rattle.toml_edit_model.specs.Text.{Text}
use Rattle.toml_edit_syntax.specs.declared.event.Event.{Event}
use Rattle.toml_edit_syntax.specs.declared.event.Span.{Span}
use Rattle.toml_edit_syntax.specs.Events.{IsSpanOf}
use Rattle.toml_edit_parser.specs.ValueRead.{AreIn, split_first, split_before, is_before, split_scalar, is_scalar}
use Rattle.toml_edit_parser.proofs.ReadLaws.{same_parts, same_spans}

-- the first event
pub first_in : (t : Text) (es : List Event) (first : Event) (rest : List Event) → Some (first, rest) ≡ split_first es → AreIn t es
    → IsSpanOf t first.span × AreIn t rest × (length rest < length es)
first_in t [] first rest e h = absurd cc
first_in t (x ∷ es) first rest e h =
    let p = same_parts first x rest es e in (
      subst (λ (y : Event). IsSpanOf t y.span) (sym p.0) h.0,
      subst (AreIn t) (sym p.1) h.1,
      let n =
          ap (λ (ys : List Event). length ys) p.1 in omega arith,
    )

-- the text before an element
pub before_in : (t : Text) (es : List Event) (before : Span) (rest : List Event) → Some (before, rest) ≡ split_before es → AreIn t es
    → IsSpanOf t before × AreIn t rest × (length rest < length es)
before_in t [] before rest e h = absurd cc
before_in t (x ∷ es) before rest e h =
    elim (cases_Bool (is_before x.kind)) [
      | inl is ↦
          let f : ◌≡◌ {A = Option (Span × List Event)} (Some (before, rest)) (Some (x.span, es)) = rw is at e in
          let p = same_spans before x.span rest es f in
          (subst (IsSpanOf t) (sym p.0) h.0, subst (AreIn t) (sym p.1) h.1, let n = ap (λ (ys : List Event). length ys) p.1 in omega arith)
      | inr is ↦ let f : ◌≡◌ {A = Option (Span × List Event)} (Some (before, rest)) None = rw is at e in absurd cc
    ]

-- a scalar
pub scalar_in : (t : Text) (es : List Event) (scalar : Span) (rest : List Event) → Some (scalar, rest) ≡ split_scalar es → AreIn t es
    → IsSpanOf t scalar × AreIn t rest × (length rest < length es)
scalar_in t [] scalar rest e h = absurd cc
scalar_in t (x ∷ es) scalar rest e h =
    elim (cases_Bool (is_scalar x.kind)) [
      | inl is ↦
          let f : ◌≡◌ {A = Option (Span × List Event)} (Some (scalar, rest)) (Some (x.span, es)) = rw is at e in
          let p = same_spans scalar x.span rest es f in
          (subst (IsSpanOf t) (sym p.0) h.0, subst (AreIn t) (sym p.1) h.1, let n = ap (λ (ys : List Event). length ys) p.1 in omega arith)
      | inr is ↦ let f : ◌≡◌ {A = Option (Span × List Event)} (Some (scalar, rest)) None = rw is at e in absurd cc
    ]
