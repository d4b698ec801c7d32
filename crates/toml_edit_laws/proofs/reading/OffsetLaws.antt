-- An offset that was read is spelled so, and one that is spelled is read again.
use Rattle.std.proofs.Common.{◌≡◌, ◌≢◌, ℕ, ◌+◌, ◌*◌, ◌<◌, Bool, true, ◌&&◌, ◌==◌, nat_lt, List, [], ◌∷◌, ◌++◌, take, drop, Some, refl, sym}
use Rattle.std.proofs.Common.{ap, subst, ◌∙◌, inl, inr, eqb-true}
use Rattle.std.specs.Prelude.{ℤ, pos, neg_ℤ}
use Rattle.std.specs.Str.Parse.{digits_value}
use Rattle.std.proofs.lemmas.Bool.{or_cases}
use Rattle.std.proofs.lemmas.Option.{some_pair_parts}
use Rattle.toml_edit_model.specs.Scalars.{Offset, zulu, shift}
use Rattle.toml_edit_model.specs.Spelling.{Sign, plus, minus, unsigned, signed, sign_text, clock_text, SpellsOffset}
use Rattle.toml_edit_laws.specs.Offsets.{OneOffset}
use Rattle.toml_edit_laws.specs.reading.DatetimeReading.{OffsetParts, clock_at, offset_at, shift_parts, is_zulu}
use Rattle.toml_edit_laws.proofs.reading.Steps.{chosen, same_parts}
use Rattle.toml_edit_laws.proofs.common.OptionSteps.{map_some, guard_read}
use Rattle.toml_edit_laws.proofs.reading.FieldLaws.{clock_takes, clock_again}
use Rattle.toml_edit_laws.proofs.reading.TimeLaws.{EndsTime}
use Rattle.toml_edit_laws.proofs.spellings.OffsetLaws.{two-value}

-- ---- an offset's own range

-- the hours and minutes of an offset's text are those of a day
abbrev pub own_range : Offset → List ℕ → Bool
own_range zulu text = true
own_range (shift z) text = nat_lt (digits_value 10 (take 2 (drop 1 text))) 24 && nat_lt (digits_value 10 (drop 3 (drop 1 text))) 60

-- the range of an offset that hours and minutes write
clock_range : (c h m : ℕ) (z : ℤ) → h < 100 → m < 100 → own_range (shift z) (c ∷ clock_text h m) ≡ (nat_lt h 24 && nat_lt m 60)
clock_range c h m z lh lm = rw (two-value h lh, two-value m lm) refl

-- ---- reading

-- the offset is spelled by the text at the front, and its range is known
abbrev TakesOffset : List ℕ → OffsetParts → List ℕ → Type 0
TakesOffset t o rest = (text : List ℕ) × SpellsOffset o.offset text × (t ≡ text ++ rest) × (o.is_real ≡ own_range o.offset text)

zulu_takes : (c : ℕ) (more : List ℕ) → is_zulu c ≡ true → TakesOffset (c ∷ more) (record { offset = zulu; is_real = true }) more
zulu_takes c more h =
    elim (or_cases (c == 90) (c == 122) h) [
      | inl big ↦ (90 ∷ [], inl refl, ap (λ (x : ℕ). x ∷ more) (eqb-true c 90 big), refl)
      | inr small ↦ (122 ∷ [], inr refl, ap (λ (x : ℕ). x ∷ more) (eqb-true c 122 small), refl)
    ]

plus_takes : (t : List ℕ) (h m : ℕ) (rest : List ℕ) → clock_at t ≡ Some ((h, m), rest)
    → TakesOffset (43 ∷ t) (shift_parts (pos (60 * h + m)) h m) rest
plus_takes t h m rest e =
    let (lh, lm, text) = clock_takes t h m rest e in (
      43 ∷ clock_text h m,
      (plus, h, m, (λ x. cc), lh, lm, refl, refl),
      ap (λ (x : List ℕ). 43 ∷ x) text,
      sym (clock_range 43 h m (pos (60 * h + m)) lh lm),
    )

minus_takes : (t : List ℕ) (h m : ℕ) (rest : List ℕ) → clock_at t ≡ Some ((h, m), rest)
    → TakesOffset (45 ∷ t) (shift_parts (neg_ℤ (pos (60 * h + m))) h m) rest
minus_takes t h m rest e =
    let (lh, lm, text) = clock_takes t h m rest e in (
      45 ∷ clock_text h m,
      (minus, h, m, (λ x. cc), lh, lm, refl, refl),
      ap (λ (x : List ℕ). 45 ∷ x) text,
      sym (clock_range 45 h m (neg_ℤ (pos (60 * h + m))) lh lm),
    )

-- along equations of what was read
takes_along : (t : List ℕ) (o p : OffsetParts) (r rest : List ℕ) → o ≡ p → r ≡ rest → TakesOffset t o r → TakesOffset t p rest
takes_along t o p r rest eo er h = subst (λ (x : OffsetParts). TakesOffset t x rest) eo (subst (λ (x : List ℕ). TakesOffset t o x) er h)

pub offset_takes : (t : List ℕ) (o : OffsetParts) (rest : List ℕ) → offset_at t ≡ Some (o, rest) → TakesOffset t o rest
unfolding offset_at
offset_takes [] o rest e = absurd cc
offset_takes (c ∷ more) o rest e =
    elim (chosen (is_zulu c) _ _ (Some (o, rest)) e) [
      | inl (z, f) ↦ let (same, tail) = some_pair_parts (record { offset = zulu; is_real = true }) o more rest f in
          takes_along (c ∷ more) (record { offset = zulu; is_real = true }) o more rest same tail (zulu_takes c more z)
      | inr (_, f) ↦ elim (chosen (c == 43) _ _ (Some (o, rest)) f) [
        | inl (p, g) ↦
            let (clock, found, same) = map_some (clock_at more) _ (o, rest) g in
            let (eo, tail) = same_parts (shift_parts (pos (60 * clock.0.0 + clock.0.1)) clock.0.0 clock.0.1) o clock.1 rest same in
            subst (λ (x : ℕ). TakesOffset (x ∷ more) o rest) (sym (eqb-true c 43 p)) (takes_along (43
            ∷ more) _ o clock.1 rest eo tail (plus_takes more clock.0.0 clock.0.1 clock.1 found))
        | inr (_, g) ↦
            let (m, h) = guard_read (c == 45) _ (o, rest) g in
            let (clock, found, same) = map_some (clock_at more) _ (o, rest) h in
            let (eo, tail) = same_parts (shift_parts (neg_ℤ (pos (60 * clock.0.0 + clock.0.1))) clock.0.0 clock.0.1) o clock.1 rest same in
            subst (λ (x : ℕ). TakesOffset (x ∷ more) o rest) (sym (eqb-true c 45 m)) (takes_along (45
            ∷ more) _ o clock.1 rest eo tail (minus_takes more clock.0.0 clock.0.1 clock.1 found))
      ]
    ]

-- ---- reading again

-- what an offset and the range of its text are read as
abbrev pub offset_parts : Offset → Bool → OffsetParts
offset_parts o real = record { offset = o; is_real = real }

shift_again : (s : Sign) (h m : ℕ) → s ≢ unsigned → h < 100 → m < 100
    → offset_at (sign_text s ++ clock_text h m) ≡ Some (shift_parts (signed s (60 * h + m)) h m, [])
unfolding offset_at
shift_again plus h m some lh lm = rw (clock_again h m [] lh lm) refl
shift_again minus h m some lh lm = rw (clock_again h m [] lh lm) refl
shift_again unsigned h m some lh lm = absurd (some refl)

pub sign_range : (s : Sign) (h m : ℕ) (z : ℤ) → s ≢ unsigned → h < 100 → m < 100 → own_range (shift z) (sign_text s ++ clock_text h m)
    ≡ (nat_lt h 24 && nat_lt m 60)
sign_range plus h m z some lh lm = clock_range 43 h m z lh lm
sign_range minus h m z some lh lm = clock_range 45 h m z lh lm
sign_range unsigned h m z some lh lm = absurd (some refl)

pub offset_again : (o : Offset) (text : List ℕ) → SpellsOffset o text → offset_at text ≡ Some (offset_parts o (own_range o text), [])
unfolding offset_at
offset_again zulu text (inl e) = rw e refl
offset_again zulu text (inr e) = rw e refl
offset_again (shift z) text (s, h, m, some, lh, lm, value, same) =
    rw (same, value) (shift_again s h m some lh lm ∙ ap (λ (b : Bool). Some (offset_parts (shift (signed s (60 * h + m))) b, []))
    (sym (sign_range s h m (signed s (60 * h + m)) some lh lm)))

-- an offset ends a time
sign_ends : (s : Sign) (h m : ℕ) → s ≢ unsigned → EndsTime (sign_text s ++ clock_text h m)
sign_ends plus h m some = refl
sign_ends minus h m some = refl
sign_ends unsigned h m some = absurd (some refl)

pub offset_ends : (o : Offset) (text : List ℕ) → SpellsOffset o text → EndsTime text
offset_ends zulu text (inl e) = rw e refl
offset_ends zulu text (inr e) = rw e refl
offset_ends (shift z) text (s, h, m, some, lh, lm, value, same) = rw same (sign_ends s h m some)

-- A text spells at most one offset: that which is read from it.
pub one-offset : OneOffset
one-offset o p t h g =
    let both : Some (offset_parts o (own_range o t), []) ≡ Some (offset_parts p (own_range p t), []) = sym (offset_again o t h)
    ∙ offset_again p t g in
    ap (λ (q : OffsetParts). q.offset) (some_pair_parts (offset_parts o (own_range o t)) (offset_parts p (own_range p t)) [] [] both).0
