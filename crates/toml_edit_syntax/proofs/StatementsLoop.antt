-- The loop over statements, a turn at a time.
use Rattle.std.proofs.Common.{◌≡◌, ℕ, suc, ◌+◌, ◌-◌, ◌<◌, ◌≤◌, Bool, true, false, List, [], ◌∷◌, ◌++◌, length, take, drop, Option, Some}
use Rattle.std.proofs.Common.{None, refl, sym, ap, ◌∙◌, arith, append_assoc}
use Rattle.std.proofs.lemmas.Bool.{ne_eqb}
use Rattle.std.proofs.lemmas.List.{length-append, take-append-drop}
use Rattle.toml_edit_model.specs.Text.{Text}
use Rattle.toml_edit_model.specs.Syntax.{Statement, statement_text}
use Rattle.toml_edit_syntax.specs.declared.event.EventKind.TheVariants.{Final}
use Rattle.toml_edit_syntax.specs.declared.event.Event.{Event}
use Rattle.toml_edit_syntax.specs.Scanning.{scan}
use Rattle.toml_edit_syntax.specs.ValueEvents.{event}
use Rattle.toml_edit_syntax.specs.ValueReading.{Reading, got, deep, wrong, follow}
use Rattle.toml_edit_syntax.specs.Events.{statement_events, events_from}
use Rattle.toml_edit_syntax.specs.Reading.{statement_at, statements_at, events_with_final, events_seen}
use Rattle.toml_edit_syntax.specs.EventReading.{seen, preceded}
use Rattle.toml_edit_syntax.specs.StatementReading.{statement_read, rest_read}
use Rattle.toml_edit_syntax.proofs.StatementLaws.{statement_takes}
use Rattle.toml_edit_syntax.proofs.CutLaws.{then_statements, scanned_trivia}
use Rattle.toml_edit_syntax.proofs.EventSteps.{between, event_is, followed, preceded-nil, seen_behind}
use Rattle.toml_edit_syntax.proofs.ItemLoop.{one_less}

-- the events of all parts, or of those up to a bracket that is one too many
abbrev pub given : Reading (List Event) → Option (List Event)
given (got es rest) = Some es
given (deep es) = Some es
given wrong = None

given_seen : {A : Type 0} (events : A → Text → List Event) (r : Reading A) → events_seen events r ≡ given (seen events r)
given_seen events (got a rest) = refl
given_seen events (deep es) = refl
given_seen events wrong = refl

-- where nothing stood before, what was added is what reading gives
pub given_from : {A : Type 0} (events : A → Text → List Event) (r : Reading A) (old : List Event) (result : Reading (List Event)) → old ≡ []
    → preceded old (seen events r) ≡ result → events_seen events r ≡ given result
given_from events r old result nothing e = given_seen events r
    ∙ ap given (sym (preceded-nil (seen events r)) ∙ ap (λ (es : List Event). preceded es (seen events r)) (sym nothing) ∙ e)

module _ (whole : ℕ) (t : Text) (fits : length t ≤ whole) where
  abbrev len : ℕ
  len = (scan false t).0

  abbrev at : ℕ
  at = whole - length t

  rest_ends : (m : ℕ) → length (drop len t) ≡ 0 → rest_read (suc m) whole t ≡ got (between Final (whole - length t) whole ∷ []) t
  unfolding statements_at
  rest_ends m ended = rw ended (ap (λ (e : Event). got (e ∷ []) t) (event_is Final _ at whole t refl (omega (arith, fits))))

  rest_stops : (m : ℕ) → (length (drop len t) ≡ 0 → ⊥) → (scan false t).1 ≡ true → rest_read (suc m) whole t ≡ wrong
  unfolding statements_at
  rest_stops m some inside = rw (ne_eqb (length (drop len t)) 0 some, inside) refl

  rest_open : (m : ℕ) → (length (drop len t) ≡ 0 → ⊥) → (scan false t).1 ≡ false
      → rest_read (suc m) whole t ≡ seen (events_with_final whole at)
      (follow (statement_at 0 at (take len t) (drop len t)) (then_statements m 0 at t))
  unfolding statements_at
  rest_open m some outside = rw (ne_eqb (length (drop len t)) 0 some, outside) refl

  by_statement : (m : ℕ) → (scan false t).1 ≡ false → (r : Reading Statement) → statement_at 0 at (take len t) (drop len t) ≡ r
      → seen (events_with_final whole at) (follow r (then_statements m 0 at t))
      ≡ followed (seen (λ s _. statement_events at s) r) (rest_read m whole)
  by_statement m outside wrong found = refl
  by_statement m outside (deep es) found = refl
  by_statement m outside (got s rest) found =
      let (is, parts) = statement_takes at (take len t) (drop len t) rest s (scanned_trivia t outside) found in
      let here = statement_events at s in
      let next = at + (length t - length rest) in
      let lens : length (statement_text s) + length rest ≡ length t =
      omega (arith, ap length (sym (take-append-drop len t) ∙ parts), length-append (statement_text s) rest) in
      let place : at + length (statement_text s) ≡ next = omega (arith, lens) in
      let next-is : next ≡ whole - length rest = omega (arith, lens, fits) in
      seen_behind here (λ ss. s ∷ ss) (events_with_final whole at) (events_with_final whole next) (statements_at m 0 next rest)
      (λ ss final _. append_assoc here (events_from (at + length (statement_text s)) ss) (event Final (whole - length final) final ∷ [])
      ∙ ap (λ (n : ℕ). here ++ (events_from n ss ++ event Final (whole - length final) final ∷ [])) place)
      ∙ ap (λ (n : ℕ). preceded here (seen (events_with_final whole n) (statements_at m 0 n rest))) next-is

  module _ (k : ℕ) (room : length t < k) (inside : Bool) (n : ℕ) (leading tail : Text)
      (scanned : ◌≡◌ {A = ℕ × Bool} (n, inside) (scan false t)) (l-is : leading ≡ take n t) (t-is : tail ≡ drop n t) where
    len-is : len ≡ n
    len-is = sym (ap (λ (r : ℕ × Bool). r.0) scanned)

    inside-is : (scan false t).1 ≡ inside
    inside-is = sym (ap (λ (r : ℕ × Bool). r.1) scanned)

    tail-is : drop len t ≡ tail
    tail-is = ap (λ (x : ℕ). drop x t) len-is ∙ sym t-is

    leading-is : take len t ≡ leading
    leading-is = ap (λ (x : ℕ). take x t) len-is ∙ sym l-is

    pub ends : length tail ≡ 0 → rest_read k whole t ≡ got (between Final (whole - length t) whole ∷ []) t
    ends nothing =
        let (m, is) = one_less k (omega arith) in
        ap (λ (x : ℕ). rest_read x whole t) is ∙ rest_ends m (ap length tail-is ∙ nothing)

    pub stops_inside : (length tail ≡ 0 → ⊥) → inside ≡ true → rest_read k whole t ≡ wrong
    stops_inside some within =
        let (m, is) = one_less k (omega arith) in
        ap (λ (x : ℕ). rest_read x whole t) is ∙ rest_stops m (λ e. some (ap length (sym tail-is) ∙ e)) (inside-is ∙ within)

    pub turns : (length tail ≡ 0 → ⊥) → inside ≡ false → (m : ℕ) × (length t ≤ m)
        × (rest_read k whole t ≡ followed (statement_read whole leading tail) (rest_read m whole))
    turns some outside =
        let (m, is) = one_less k (omega arith) in
        let out = inside-is ∙ outside in
        let both : leading ++ tail ≡ t = ap (λ (x : Text). x ++ tail) (sym leading-is) ∙ ap (λ (x : Text). take len t ++ x) (sym tail-is)
        ∙ take-append-drop len t in
        let lens : length leading + length tail ≡ length t = omega (arith, ap length both, length-append leading tail) in
        let place : at ≡ whole - length tail - length leading = omega (arith, lens) in
        let seen_at = λ (a : ℕ) (x y : Text). followed (seen (λ s _. statement_events a s) (statement_at 0 a x y)) (rest_read m whole) in (
          m,
          omega (arith, is),
          ap (λ (x : ℕ). rest_read x whole t) is ∙ rest_open m (λ e. some (ap length (sym tail-is) ∙ e)) out
              ∙ by_statement m out (statement_at 0 at (take len t) (drop len t)) refl
              ∙ ap (λ (x : Text). seen_at at x (drop len t)) leading-is ∙ ap (seen_at at leading) tail-is
              ∙ ap (λ (a : ℕ). seen_at a leading tail) place,
        )
