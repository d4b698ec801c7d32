-- The first of some places, as a span.
use Rattle.std.proofs.Common.{◌≡◌, refl, ap, subst, ℕ, ◌+◌, ◌-◌, List, [], ◌∷◌, ◌++◌, arith, Option, Some, None}
use Rattle.std.specs.Option.{option_or}
use Rattle.toml_edit_model.specs.Version.{Place}
use Rattle.toml_edit_syntax.specs.declared.event.Span.{Span}
use Rattle.toml_edit_syntax.specs.LateSpellings.{span_from}
use Rattle.toml_edit_syntax.specs.LateEvents.{NamesLate}

abbrev pub first_of : List Place → Option Span
first_of [] = None
first_of (p ∷ ps) = Some (span_from p.0 p.1)

pub or_again : (a b c : Option Span) → option_or (option_or a b) c ≡ option_or a (option_or b c)
or_again None b c = refl
or_again (Some x) b c = refl

pub first-append : (xs ys : List Place) → first_of (xs ++ ys) ≡ option_or (first_of xs) (first_of ys)
first-append [] ys = refl
first-append (x ∷ xs) ys = refl

same_span : (x s : Span) → ◌≡◌ {A = Option Span} (Some x) (Some s) → x ≡ s
same_span x s e = cc

pub first_named : (ps : List Place) (s : Span) → first_of ps ≡ Some s → NamesLate ps s
first_named [] s e = absurd cc
first_named (p ∷ ps) s e =
    let size : p.1 ≡ p.0 + p.1 - p.0 = omega arith in
    subst (λ (x : Span). NamesLate (p ∷ ps) x) (same_span (span_from p.0 p.1) s e) (0, omega arith, ap (λ (n : ℕ). (p.0, n)) size)

pub first_none : (ps : List Place) → first_of ps ≡ None → ps ≡ []
first_none [] e = refl
first_none (p ∷ ps) e = absurd cc
