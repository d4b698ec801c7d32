-- Whole texts: what is decoded is spelled, and what is spelled is decoded.
use Rattle.std.proofs.Common.{◌≡◌, ℤ, Bool, true, false, cond, List, [], ◌∷◌, Option, Some, None, Result, Ok, Err, refl, sym, ap, subst}
use Rattle.std.proofs.Common.{◌∙◌, inl, inr, append-nil}
use Rattle.std.specs.Prelude.{option_map, IfOk, IfSome, IsSomeAnd, MatchOption}
use Rattle.std.specs.Result.{result_ok}
use Rattle.std.proofs.lemmas.Bool.{cases_Bool}
use Rattle.toml_edit_model.specs.Text.{Text, is_empty}
use Rattle.toml_edit_model.specs.Scalars as scalars
use Rattle.toml_edit_model.specs.Scalars.{fits_integer}
use Rattle.toml_edit_model.specs.Spelling.{SpellsKey, Spells, SpellsDatetime, is_in_range, SpellsInRange}
use Rattle.toml_edit_laws.specs.reading.DatetimeReading.{datetime_of}
use Rattle.toml_edit_token.specs.Decoded.{IsSpelling}
use Rattle.toml_edit_laws.specs.reading.Runs.{Read}
use Rattle.toml_edit_laws.specs.reading.Tokens.{key_at, whole, ranged, fitting, integer_of}
use Rattle.toml_edit_laws.specs.reading.ScalarReading.{scalar_at}
use Rattle.toml_edit_laws.proofs.common.OptionSteps.{bind_some, map_some}
use Rattle.toml_edit_laws.proofs.reading.Steps.{guard_some}
use Rattle.toml_edit_laws.proofs.reading.NumberLaws.{integer_takes, integer_again}
use Rattle.toml_edit_laws.proofs.reading.DatetimeLaws.{datetime_takes, datetime_again}
use Rattle.toml_edit_laws.proofs.reading.TokenLaws.{key_takes, key_again, scalar_takes, scalar_again}

-- what holds of the value in an `Ok`
pub if_ok_map : {A E : Type 0} (r : Result A E) (P Q : A → Type 0) → ((a : A) → P a → Q a) → IfOk r P → IfOk r Q
if_ok_map (Ok a) P Q f h = f a h
if_ok_map (Err e) P Q f h = tt

-- a list that tests as empty
empty_is : {A : Type 0} (xs : List A) → is_empty xs ≡ true → xs ≡ []
empty_is [] h = refl
empty_is (x ∷ xs) h = absurd cc

-- a whole text leaves nothing
pub whole_some : {A : Type 0} (r : Read A) (a : A) → whole r ≡ Some a → r ≡ Some (a, [])
whole_some {A} r a e =
    let (p, found, rest) = bind_some r (λ (p : A × Text). cond (is_empty p.1) (Some p.0) None) a e in
    let (none, same) = guard_some (is_empty p.1) p.0 a rest in
    found ∙ ap (λ (x : A). Some (x, p.1)) same ∙ ap (λ (x : Text). Some (a, x)) (empty_is p.1 none)

module _ {S : Type 0} (f : S → Text) (t : Text) where
  -- a key that was decoded is spelled by the text
  pub key_found : (o : Option S) → option_map f o ≡ whole (key_at t) → IfSome o (λ s. SpellsKey (f s) t)
  key_found None e = tt
  key_found (Some s) e =
      let (spelled, spells, parts) = key_takes t [] (f s) (whole_some (key_at t) (f s) (sym e)) in
      rw (parts ∙ append-nil spelled) spells

  -- a key that the text spells is decoded
  pub key_only : (o : Option S) → option_map f o ≡ whole (key_at t) → (k : Text) → SpellsKey k t → IsSomeAnd o (λ s. k ≡ f s)
  key_only o e k spells =
      let found : key_at t ≡ Some (k, []) = ap key_at (sym (append-nil t)) ∙ key_again k t [] spells refl in
      let (s, is, same) = map_some o f k (e ∙ rw found refl) in
      rw is (sym same)

-- a text that spells a scalar is read whole as that
scalar_whole : (t : Text) (s : scalars.Scalar) → Spells s t → scalar_at t ≡ Some (s, [])
scalar_whole t s spells = ap scalar_at (sym (append-nil t)) ∙ scalar_again s t [] spells refl

-- a text that spells a scalar in range is read as that
pub scalar_known : (t : Text) (s : scalars.Scalar) → IsSpelling t s → ranged t (whole (scalar_at t)) ≡ Some s
scalar_known t s h =
    ap (λ (r : Read scalars.Scalar). ranged t (whole r)) (scalar_whole t s h.spells) ∙ ap (λ (b : Bool). cond b (Some s) None) h.in_range

module _ {S : Type 0} (f : S → scalars.Scalar) (t : Text) where
  -- what is left of the range test
  in_range : (o : Option scalars.Scalar) (s : scalars.Scalar) → ranged t o ≡ Some s → (o ≡ Some s) × (is_in_range s t ≡ true)
  in_range o s e =
      let (r, is, rest) = bind_some o (λ (r : scalars.Scalar). cond (is_in_range r t) (Some r) None) s e in
      let (fits, same) = guard_some (is_in_range r t) r s rest in
      (is ∙ ap Some same, ap (λ (x : scalars.Scalar). is_in_range x t) (sym same) ∙ fits)

  -- a scalar that was decoded is spelled by the text, and in range
  pub scalar_found : (o : Option S) → option_map f o ≡ ranged t (whole (scalar_at t)) → IfSome o (λ s. IsSpelling t (f s))
  scalar_found None e = tt
  scalar_found (Some s) e =
      let (read, fits) = in_range (whole (scalar_at t)) (f s) (sym e) in
      let (spelled, spells, parts) = scalar_takes t [] (f s) (whole_some (scalar_at t) (f s) read) in
      let same : t ≡ spelled = parts ∙ append-nil spelled in
      record { spells = rw same spells; in_range = fits }

  -- a scalar that the text spells is decoded, unless it is out of range
  pub scalar_only : (o : Option S) → option_map f o ≡ ranged t (whole (scalar_at t)) → (s : scalars.Scalar) → Spells s t
      → MatchOption o (is_in_range s t ≡ false) (λ x. s ≡ f x)
  scalar_only o e s spells =
      let known : option_map f o ≡ cond (is_in_range s t) (Some s) None = e ∙ rw (scalar_whole t s spells) refl in
      elim (cases_Bool (is_in_range s t)) [
        | inl fits ↦ let (x, is, same) = map_some o f s (known ∙ rw fits refl) in rw is (sym same)
        | inr past ↦ none_known o (known ∙ rw past refl) past
      ]
    where
      none_known : (o : Option S) → option_map f o ≡ None → is_in_range s t ≡ false → MatchOption o (is_in_range s t ≡ false) (λ x. s ≡ f x)
      none_known None e past = past
      none_known (Some x) e past = absurd cc

module _ (t : Text) where
  read_range : (s : scalars.Scalar) (b : Bool) → is_in_range s t ≡ b → ranged t (Some s) ≡ cond b (Some s) None
  read_range s b e = ap (λ (x : Bool). cond x (Some s) None) e

  out_of_range : (o : Option scalars.Datetime) → datetime_of t ≡ o → ((d : scalars.Datetime) → SpellsInRange (scalars.datetime d) t → ⊥)
      → None ≡ ranged t (option_map (λ d. scalars.datetime d) o)
  out_of_range None e none = refl
  out_of_range (Some d) e none =
      elim (cases_Bool (is_in_range (scalars.datetime d) t)) [
        | inl fits ↦ absurd (none d (datetime_takes t d e, fits))
        | inr past ↦ sym (read_range (scalars.datetime d) false past)
      ]

  -- a date or a time that was read is what the text reads as
  pub datetime_read : {D E : Type 0} (view : D → scalars.Datetime) (r : Result D E)
      → IfOk r (λ d. SpellsInRange (scalars.datetime (view d)) t)
      → ((d : scalars.Datetime) → SpellsDatetime d t → is_in_range (scalars.datetime d) t ≡ true → option_map view (result_ok r) ≡ Some d)
      → option_map (λ d. scalars.datetime (view d)) (result_ok r) ≡ ranged t (option_map (λ d. scalars.datetime d) (datetime_of t))
  datetime_read view (Ok d) (spells, fits) only =
      sym (ap (λ (o : Option scalars.Datetime). ranged t (option_map (λ d. scalars.datetime d) o)) (datetime_again t (view d) spells)
      ∙ read_range (scalars.datetime (view d)) true fits)
  datetime_read {D} view (Err e) found only =
      out_of_range (datetime_of t) refl (λ d is. absurd (cc (only d is.0 is.1)))

-- what fits was read
fitting_is : (o : Option ℤ) (z : ℤ) → fitting o ≡ Some z → (o ≡ Some z) × (fits_integer z ≡ true)
fitting_is o z e =
    let (y, is, rest) = bind_some o (λ (y : ℤ). cond (fits_integer y) (Some y) None) z e in
    let (fits, same) = guard_some (fits_integer y) y z rest in
    (is ∙ ap Some same, ap fits_integer (sym same) ∙ fits)

-- an integer that was decoded is spelled by the text, and in range
pub integer_found : (t : Text) (o : Option ℤ) → o ≡ fitting (integer_of t) → IfSome o (λ z. IsSpelling t (scalars.integer z))
integer_found t None e = tt
integer_found t (Some z) e =
    let (read, fits) = fitting_is (integer_of t) z (sym e) in
    record { spells = integer_takes t z read; in_range = fits }

-- what an integer that was decoded spells is that integer alone
pub integer_only : (t : Text) (o : Option ℤ) → o ≡ fitting (integer_of t) → (s : scalars.Scalar) → Spells s t
    → MatchOption o ((z : ℤ) → s ≡ scalars.integer z → is_in_range s t ≡ false) (λ z. s ≡ scalars.integer z)
integer_only t None e s spells = λ z same.
    let again : integer_of t ≡ Some z = integer_again t z (subst (λ (x : scalars.Scalar). Spells x t) same spells) in
    let none : cond (fits_integer z) (Some z) None ≡ None = sym (e ∙ ap fitting again) in
    elim (cases_Bool (fits_integer z)) [
      | inl fits ↦ absurd cc
      | inr past ↦ ap (λ (x : scalars.Scalar). is_in_range x t) same ∙ past
    ]
integer_only t (Some z) e s spells =
    let (read, fits) = fitting_is (integer_of t) z (sym e) in
    let own : scalar_at t ≡ Some (s, []) = ap scalar_at (sym (append-nil t)) ∙ scalar_again s t [] spells refl in
    let other : scalar_at t ≡ Some (scalars.integer z, []) =
    ap scalar_at (sym (append-nil t)) ∙ scalar_again (scalars.integer z) t [] (integer_takes t z read) refl in
    let both : ◌≡◌ {A = Option (scalars.Scalar × Text)} (Some (s, [])) (Some (scalars.integer z, [])) = sym own ∙ other in
    let pair : ◌≡◌ {A = scalars.Scalar × Text} (s, []) (scalars.integer z, []) = cc in
    ap (λ (x : scalars.Scalar × Text). x.0) pair
