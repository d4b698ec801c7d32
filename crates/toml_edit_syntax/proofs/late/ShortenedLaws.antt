-- What is found before a bracket that is one too many is found where none is cut off, and where there is none, nothing is cut off.
use Rattle.std.proofs.Common.{◌≡◌, refl, sym, ap, ◌∙◌, ℕ, suc, ◌-◌, Bool, true, false, ◌==◌, List, [], ◌∷◌, ◌++◌, Option, Some, None, inl}
use Rattle.std.proofs.Common.{inr}
use Rattle.std.specs.Option.{option_or}
use Rattle.std.proofs.lemmas.Bool.{cases_Bool, or_parts}
use Rattle.toml_edit_model.specs.Text.{Text}
use Rattle.toml_edit_model.specs.Syntax.{nesting_limit}
use Rattle.toml_edit_model.specs.OwnedForm.{cut_out}
use Rattle.toml_edit_syntax.specs.declared.event.EventKind.{EventKind}
use Rattle.toml_edit_syntax.specs.declared.event.EventKind.TheVariants.{ArrayOpen, InlineTableOpen}
use Rattle.toml_edit_syntax.specs.declared.event.Event.{Event}
use Rattle.toml_edit_syntax.specs.declared.event.Span.{Span}
use Rattle.toml_edit_syntax.specs.ValueEvents.{opens, closes, shortened, is_too_deep, are_deep}
use Rattle.toml_edit_syntax.specs.LateEvents.{is_in_inline_table, late_in_kind, is_line_end, late_in_events}

opens_outside : (k : EventKind) (s : Span) (es : List Event) → opens k ≡ true → is_in_inline_table (record { kind = k; span = s } ∷ es)
    ≡ false
opens_outside ArrayOpen s es h = refl
opens_outside InlineTableOpen s es h = refl
opens_outside _ s es h = absurd (let clash : false ≡ true = h in cc)

own_on : (e : Event) (xs ys : List Event) → is_in_inline_table xs ≡ is_in_inline_table ys → is_in_inline_table (e ∷ xs)
    ≡ is_in_inline_table (e ∷ ys)
own_on e xs ys h = rw h refl

same_own : (level : ℕ) (es : List Event) → is_in_inline_table (shortened level es) ≡ is_in_inline_table es
same_own level [] = refl
same_own level (e ∷ es) =
    elim (cases_Bool (opens e.kind)) [
      | inl opening ↦ elim (cases_Bool (level == nesting_limit)) [
        | inl full ↦ rw (opening, full) (sym (opens_outside e.kind e.span es opening))
        | inr room ↦ rw (opening, room) (own_on e (shortened (suc level) es) es (same_own (suc level) es))
      ]
      | inr other ↦ elim (cases_Bool (closes e.kind)) [
        | inl closing ↦ rw (other, closing) (own_on e (shortened (level - 1) es) es (same_own (level - 1) es))
        | inr neither ↦ rw (other, neither) (own_on e (shortened level es) es (same_own level es))
      ]
    ]

or_later : (o x y : Option Span) (s : Span) → (x ≡ Some s → y ≡ Some s) → option_or o x ≡ Some s → option_or o y ≡ Some s
or_later None x y s later h = later h
or_later (Some z) x y s later h = h

kept : (source : Text) (e : Event) (xs ys : List Event) (s : Span) → is_in_inline_table xs ≡ is_in_inline_table ys
    → (late_in_events source xs ≡ Some s → late_in_events source ys ≡ Some s)
    → late_in_events source (e ∷ xs) ≡ Some s → late_in_events source (e ∷ ys) ≡ Some s
kept source e xs ys s own later h =
    elim (cases_Bool (is_line_end e.kind)) [
      | inl end ↦ let f : ◌≡◌ {A = Option Span} None (Some s) = rw end at h in absurd cc
      | inr other ↦
          let part = late_in_kind e.kind e.span (cut_out source e.span.start e.span.end) in
          let f : option_or (part (is_in_inline_table xs)) (late_in_events source xs) ≡ Some s = rw other at h in
          let g : option_or (part (is_in_inline_table ys)) (late_in_events source xs) ≡ Some s =
          ap (λ (b : Bool). option_or (part b) (late_in_events source xs)) (sym own) ∙ f in
          rw other (or_later (part (is_in_inline_table ys)) (late_in_events source xs) (late_in_events source ys) s later g)
    ]

pub found_whole : (source : Text) (level : ℕ) (es : List Event) (s : Span) → late_in_events source (shortened level es) ≡ Some s
    → late_in_events source es ≡ Some s
found_whole source level [] s h = h
found_whole source level (e ∷ es) s h =
    elim (cases_Bool (opens e.kind)) [
      | inl opening ↦ elim (cases_Bool (level == nesting_limit)) [
        | inl full ↦ let f : ◌≡◌ {A = Option Span} None (Some s) = rw (opening, full) at h in absurd cc
        | inr room ↦ kept source e (shortened (suc level) es) es s (same_own (suc level) es) (found_whole source (suc level) es s)
            (rw (opening, room) at h)
      ]
      | inr other ↦ elim (cases_Bool (closes e.kind)) [
        | inl closing ↦ kept source e (shortened (level - 1) es) es s (same_own (level - 1) es) (found_whole source (level - 1) es s)
            (rw (other, closing) at h)
        | inr neither ↦ kept source e (shortened level es) es s (same_own level es) (found_whole source level es s) (rw (
          other,
          neither,
        ) at h)
      ]
    ]

-- none of these is cut off
pub record Stays (level : ℕ) (es more : List Event) : Type 0 where
  pub behind : ℕ
  pub same : shortened level (es ++ more) ≡ es ++ shortened behind more

stays_on : (level next : ℕ) (e : Event) (es more : List Event) → ((xs : List Event) → shortened level (e ∷ xs) ≡ e ∷ shortened next xs)
    → Stays next es more → Stays level (e ∷ es) more
stays_on level next e es more step h = record { behind = h.behind; same = step (es ++ more) ∙ ap (λ (xs : List Event). e ∷ xs) h.same }

shallow_on : (level next : ℕ) (e : Event) (es : List Event) → ((xs : List Event) → shortened level (e ∷ xs) ≡ e ∷ shortened next xs)
    → are_deep (shortened level (e ∷ es)) ≡ false → are_deep (shortened next es) ≡ false
shallow_on level next e es step h =
    (or_parts (is_too_deep e.kind) (are_deep (shortened next es)) (sym (ap are_deep (step es)) ∙ h)).1

pub shallow_stays : (level : ℕ) (es more : List Event) → are_deep (shortened level es) ≡ false → Stays level es more
shallow_stays level [] more h = record { behind = level; same = refl }
shallow_stays level (e ∷ es) more h =
    elim (cases_Bool (opens e.kind)) [
      | inl opening ↦ elim (cases_Bool (level == nesting_limit)) [
        | inl full ↦ let f : true ≡ false = rw (opening, full) at h in absurd cc
        | inr room ↦
            let step : (xs : List Event) → shortened level (e ∷ xs) ≡ e ∷ shortened (suc level) xs = λ xs. rw (opening, room) refl in
            stays_on level (suc level) e es more step (shallow_stays (suc level) es more (shallow_on level (suc level) e es step h))
      ]
      | inr other ↦ elim (cases_Bool (closes e.kind)) [
        | inl closing ↦
            let step : (xs : List Event) → shortened level (e ∷ xs) ≡ e ∷ shortened (level - 1) xs = λ xs. rw (other, closing) refl in
            stays_on level (level - 1) e es more step (shallow_stays (level - 1) es more (shallow_on level (level - 1) e es step h))
        | inr neither ↦
            let step : (xs : List Event) → shortened level (e ∷ xs) ≡ e ∷ shortened level xs = λ xs. rw (other, neither) refl in
            stays_on level level e es more step (shallow_stays level es more (shallow_on level level e es step h))
      ]
    ]
