-- A word is read by one try after the other: as an integer in range, as a float, as a date or a time.
use Rattle.std.proofs.Common.{◌≡◌, true, [], Option, Some, None, if◌then◌else◌, refl, sym, ap, ◌∙◌, ◌++◌, ◌⊎◌, inl, inr, append-nil, drop}
use Rattle.std.proofs.Common.{take, take-append-drop}
use Rattle.std.specs.Prelude.{option_map}
use Rattle.toml_edit_model.specs.Text.{Text}
use Rattle.toml_edit_model.specs.Scalars.{Scalar, float, datetime, Datetime}
use Rattle.toml_edit_laws.specs.reading.Runs.{first, is_word_byte}
use Rattle.toml_edit_laws.specs.reading.Tokens.{whole, ranged}
use Rattle.toml_edit_laws.specs.reading.FloatReading.{is_float_text}
use Rattle.toml_edit_laws.specs.reading.DatetimeReading.{datetime_of}
use Rattle.toml_edit_laws.specs.reading.ScalarReading.{scalar_at, word_scalar, word_len}
use Rattle.std.proofs.lemmas.Option.{none-some}
use Rattle.toml_edit_laws.proofs.common.OptionSteps.{map_some}
use Rattle.toml_edit_laws.proofs.reading.FloatLaws.{float_takes}
use Rattle.toml_edit_laws.proofs.reading.DatetimeLaws.{datetime_takes}
use Rattle.toml_edit_laws.proofs.reading.TokenLaws.{scalar_again, word_takes, float_word, date_word}
use Rattle.toml_edit_laws.proofs.reading.Steps.{guard_some}
use Rattle.toml_edit_token.proofs.Decoding.{whole_some}

either_option : {A : Type 0} (o : Option A) → ((a : A) × (o ≡ Some a)) ⊎ (o ≡ None)
either_option (Some a) = inl (a, refl)
either_option None = inr refl

-- what begins as a word is read whole as one
pub word_whole : (t : Text) → is_word_byte (first t) ≡ true → whole (scalar_at t) ≡ word_scalar t
unfolding scalar_at
word_whole t begins =
    elim (either_option (word_scalar t)) [
      | inl (s, found) ↦ ap whole (ap scalar_at (sym (append-nil t)) ∙ scalar_again s t [] (word_takes t s found) refl) ∙ sym found
      | inr none ↦ elim (either_option (whole (scalar_at t))) [
        | inl (s, found) ↦
            let n = word_len t in
            let read : option_map (λ (w : Scalar). (w, drop n t)) (word_scalar (take n t)) ≡ Some (s, []) =
            rw begins at (whole_some (scalar_at t) s found) in
            let (w, is, same) = map_some (word_scalar (take n t)) (λ (w : Scalar). (w, drop n t)) (s, []) read in
            let rest : drop n t ≡ [] = ap (λ (p : Scalar × Text). p.1) same in
            let all : take n t ≡ t = sym (append-nil (take n t)) ∙ ap (λ (x : Text). take n t ++ x) (sym rest) ∙ take-append-drop n t in
            absurd (none-some s (sym none ∙ ap word_scalar (sym all) ∙ is ∙ ap Some (ap (λ (p : Scalar × Text). p.0) same)))
        | inr nothing ↦ nothing ∙ sym none
      ]
    ]

-- a float
pub word_float : (t f : Text) (o : Option Text) → o ≡ (if is_float_text t then Some t else None) → o ≡ Some f → Some (float f)
    ≡ ranged t (word_scalar t)
word_float t f o same is =
    let (float_is, text) = guard_some (is_float_text t) t f (sym same ∙ is) in
    ap (λ (x : Text). Some (float x)) (sym text) ∙ sym (ap (ranged t) (float_word t (float_takes t float_is)))

-- a date or a time
pub word_date : (t : Text) (d : Datetime) → Some (datetime d) ≡ ranged t (option_map (λ d. datetime d) (datetime_of t)) → Some (datetime d)
    ≡ ranged t (word_scalar t)
word_date t d h =
    let read = λ (o : Option Datetime). ranged t (option_map (λ d. datetime d) o) in
    elim (either_option (datetime_of t)) [
      | inl (e, at) ↦ h ∙ ap read at ∙ sym (ap (ranged t) (date_word t e (datetime_takes t e at)))
      | inr none ↦ absurd (none-some (datetime d) (sym (h ∙ ap read none)))
    ]
