-- The event of a scalar.
use Rattle.std.proofs.Common.{◌≡◌, ℕ, ◌-◌, ◌<◌, ◌≤◌, [], ◌∷◌, length, Option, Some, refl, ap, ◌∙◌, arith}
use Rattle.std.specs.Prelude.{option_map}
use Rattle.std.proofs.lemmas.List.{length-append, length-take-le}
use Rattle.toml_edit_model.specs.Text.{Text}
use Rattle.toml_edit_model.specs.Scalars.{Scalar}
use Rattle.toml_edit_syntax.specs.declared.event.EventKind.TheVariants as kinds
use Rattle.toml_edit_syntax.specs.declared.event.Event.{Event}
use Rattle.toml_edit_laws.specs.reading.ScalarReading.{scalar_at}
use Rattle.toml_edit_syntax.specs.Scanning.{front}
use Rattle.toml_edit_syntax.specs.ValueEvents.{event, value_events}
use Rattle.toml_edit_syntax.specs.ValueReading.{got, lone_scalar}
use Rattle.toml_edit_syntax.specs.EventReading.{seen, scalar_read}
use Rattle.toml_edit_laws.proofs.common.OptionSteps.{map_some}
use Rattle.toml_edit_laws.proofs.reading.TokenLaws.{scalar_takes, scalar-some}
use Rattle.toml_edit_syntax.proofs.EventSteps.{between, event_is}

module _ (whole : ℕ) (t rest : Text) (fits : length t ≤ whole) (within : length rest ≤ length t)
    (found : option_map (λ (p : Scalar × Text). p.1) (scalar_at t) ≡ Some rest) where
  pub scalar_found : scalar_read whole t ≡ got (between kinds.Scalar (whole - length t) (whole - length rest) ∷ []) rest
  scalar_found =
      let (p, is, same) = map_some (scalar_at t) (λ (p : Scalar × Text). p.1) rest found in
      let len : length (front t rest) ≡ length t - length rest = length-take-le (length t - length rest) t (omega arith) in
      ap (λ (r : Option (Scalar × Text)). seen (λ v _. value_events (whole - length t) v) (lone_scalar t r)) is
      ∙ ap (λ (x : Text). got (event kinds.Scalar (whole - length t) (front t x) ∷ []) x) same
      ∙ ap (λ (e : Event). got (e ∷ []) rest) (event_is kinds.Scalar _ _ _ (front t rest) refl (omega (arith, fits, within, len)))

  pub scalar_shorter : length rest < length t
  scalar_shorter =
      let (p, is, same) = map_some (scalar_at t) (λ (p : Scalar × Text). p.1) rest found in
      let (spelled, spells, parts) = scalar_takes t p.1 p.0 is in
      let some : 0 < length spelled = not_empty spelled (scalar-some p.0 spelled spells) in
      omega (arith, ap length parts, length-append spelled p.1, ap length same)
    where
      not_empty : (s : Text) → (s ≡ [] → ⊥) → 0 < length s
      not_empty [] h = absurd (h refl)
      not_empty (c ∷ cs) h = omega arith
