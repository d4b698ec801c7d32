-- Where a key or a scalar ends, by what is spelled there.
use Rattle.std.proofs.Common.{◌≡◌, ◌++◌, true, Option, Some, None, sym, ap, ◌∙◌}
use Rattle.std.specs.Prelude.{option_map, IfSome}
use Rattle.toml_edit_model.specs.Text.{Text}
use Rattle.toml_edit_model.specs.Scalars.{Scalar}
use Rattle.toml_edit_model.specs.Spelling.{SpellsKey, Spells}
use Rattle.toml_edit_laws.specs.reading.Tokens.{key_at, ends_key}
use Rattle.toml_edit_laws.specs.reading.ScalarReading.{scalar_at, ends_scalar}
use Rattle.toml_edit_laws.proofs.common.OptionSteps.{map_some}
use Rattle.toml_edit_laws.proofs.reading.TokenLaws.{key_takes, key_again, scalar_takes, scalar_again}

module _ {R : Type 0} (f : R → Text) (t : Text) where
  pub key_found : (o : Option R) → option_map f o ≡ option_map (λ p. p.1) (key_at t)
      → IfSome o (λ r. (k : Text) × (spelled : Text) × SpellsKey k spelled × (t ≡ spelled ++ f r))
  key_found None e = tt
  key_found (Some r) e =
      let (p, is, same) = map_some (key_at t) (λ (p : Text × Text). p.1) (f r) (sym e) in
      let (spelled, spells, parts) = key_takes t (f r) p.0 (is ∙ ap (λ (x : Text). Some (p.0, x)) same) in
      (p.0, spelled, spells, parts)

  pub key_only : (o : Option R) → option_map f o ≡ option_map (λ p. p.1) (key_at t)
      → (k spelled rest : Text) → SpellsKey k spelled → ends_key rest ≡ true → t ≡ spelled ++ rest → option_map f o ≡ Some rest
  key_only o e k spelled rest spells stop parts =
      e ∙ ap (λ x. option_map (λ (p : Text × Text). p.1) (key_at x)) parts
      ∙ ap (option_map (λ (p : Text × Text). p.1)) (key_again k spelled rest spells stop)

  pub scalar_found : (o : Option R) → option_map f o ≡ option_map (λ p. p.1) (scalar_at t)
      → IfSome o (λ r. (x : Scalar) × (spelled : Text) × Spells x spelled × (t ≡ spelled ++ f r))
  scalar_found None e = tt
  scalar_found (Some r) e =
      let (p, is, same) = map_some (scalar_at t) (λ (p : Scalar × Text). p.1) (f r) (sym e) in
      let (spelled, spells, parts) = scalar_takes t (f r) p.0 (is ∙ ap (λ (x : Text). Some (p.0, x)) same) in
      (p.0, spelled, spells, parts)

  pub scalar_only : (o : Option R) → option_map f o ≡ option_map (λ p. p.1) (scalar_at t)
      → (x : Scalar) (spelled rest : Text) → Spells x spelled → ends_scalar rest ≡ true → t ≡ spelled ++ rest → option_map f o ≡ Some rest
  scalar_only o e x spelled rest spells stop parts =
      e ∙ ap (λ y. option_map (λ (p : Scalar × Text). p.1) (scalar_at y)) parts
      ∙ ap (option_map (λ (p : Scalar × Text). p.1)) (scalar_again x spelled rest spells stop)
