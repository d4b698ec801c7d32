-- What is left of events once some are taken.
use Rattle.std.proofs.Common.{◌≡◌, sym, ap, subst, arith, ℕ, zero, suc, ◌-◌, ◌≤◌, Bool, true, false, if◌then◌else◌, List, [], ◌∷◌, length, take, drop}
use Rattle.std.proofs.Common.{Option, Some, None, Result, Ok, Err, IfOk}
use Rattle.std.proofs.lemmas.List.{take_rest, length-drop}
use Rattle.toml_edit_model.specs.Text.{Text}
use Rattle.toml_edit_syntax.specs.declared.event.Event.{Event}
use Rattle.toml_edit_syntax.specs.declared.event.Span.{Span}
use Rattle.toml_edit_syntax.specs.LateEvents.{AreIn}
use Rattle.toml_edit_parser.specs.ValueRead.{is_comma}
use Rattle.toml_edit_fmt.specs.ValueView.{is_of_member, split_comma, split_member}

pub if-ok : {T E : Type 0} (r : Result T E) (P Q : T → Type 0) → ((x : T) → P x → Q x) → IfOk r P → IfOk r Q
if-ok (Ok x) P Q f h = f x h
if-ok (Err e) P Q f h = h

abbrev pub left_of : ℕ → List Event → List Event
left_of n es = take (length es - n) (drop n es)

are-dropped : (t : Text) (n : ℕ) (es : List Event) → AreIn t es → AreIn t (drop n es)
are-dropped t zero es h = h
are-dropped t (suc n) [] h = h
are-dropped t (suc n) (e ∷ es) h = are-dropped t n es h.1

pub are-left : (t : Text) (n : ℕ) (es : List Event) → AreIn t es → AreIn t (left_of n es)
are-left t n es h = subst (AreIn t) (sym (take_rest es n)) (are-dropped t n es h)

pub left-shorter : (n : ℕ) (es : List Event) → length (left_of n es) ≤ length es
left-shorter n es = omega (arith, ap length (take_rest es n), length-drop n es)

pub some-parts : (a b : Span) (xs ys : List Event) → ◌≡◌ {A = Option (Span × List Event)} (Some (a, xs)) (Some (b, ys)) → (a ≡ b) × (xs ≡ ys)
some-parts a b xs ys e =
    let same : ◌≡◌ {A = Span × List Event} (a, xs) (b, ys) = cc in
    (ap (λ (p : Span × List Event). p.0) same, ap (λ (p : Span × List Event). p.1) same)

pub member-shorter : (es : List Event) (before : Span) (member : List Event) → split_member es ≡ Some (before, member) → length member ≤ length es
member-shorter [] before member e = absurd cc
member-shorter (x ∷ xs) before member e = by_kind (is_of_member x.kind) e
  where
    by_kind : (b : Bool) → if◌then◌else◌ {A = Option (Span × List Event)} b (Some (x.span, xs)) None ≡ Some (before, member) → length member ≤ suc (length xs)
    by_kind true e = omega (arith, ap length (some-parts x.span before xs member e).1)
    by_kind false e = absurd cc

pub comma-shorter : (es : List Event) → length (split_comma es).1 ≤ length es
comma-shorter [] = omega arith
comma-shorter (x ∷ xs) = by_kind (is_comma x.kind)
  where
    by_kind : (b : Bool) → length (if◌then◌else◌ {A = Bool × List Event} b (true, xs) (false, x ∷ xs)).1 ≤ suc (length xs)
    by_kind true = omega arith
    by_kind false = omega arith

pub comma-in : (t : Text) (es : List Event) → AreIn t es → AreIn t (split_comma es).1
comma-in t [] h = h
comma-in t (x ∷ xs) h = by_kind (is_comma x.kind)
  where
    by_kind : (b : Bool) → AreIn t (if◌then◌else◌ {A = Bool × List Event} b (true, xs) (false, x ∷ xs)).1
    by_kind true = h.1
    by_kind false = h
