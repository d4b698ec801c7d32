-- The loop of a basic string, a turn at a time.
use Rattle.std.proofs.Common.{◌≡◌, ◌≢◌, ℕ, zero, suc, ◌+◌, ◌^◌, ◌<◌, ◌≤◌, false, cond, ◌==◌, List, [], ◌∷◌, ◌++◌, length, drop, Some, None}
use Rattle.std.proofs.Common.{refl, sym, ap, ◌∙◌, inl, inr, arith, append_assoc, encode_utf8}
use Rattle.std.specs.Prelude.{option_and_then}
use Rattle.std.proofs.lemmas.Bool.{cases_Bool, eq-eqb, ne_eqb}
use Rattle.std.specs.List.{prefix_len}
use Rattle.toml_edit_model.specs.Spelling.{is_plain}
use Rattle.toml_edit_laws.specs.reading.Runs.{first, split_while, Read}
use Rattle.toml_edit_laws.specs.reading.Tokens.{prepend, basic_at, escape_at}
use Rattle.toml_edit_laws.proofs.reading.StringLaws.{basic_plain}

-- nothing before what was read
pub prepend-nil : (r : Read (List ℕ)) → prepend [] r ≡ r
prepend-nil None = refl
prepend-nil (Some p) = refl

-- two texts before what was read
pub prepend-prepend : (xs ys : List ℕ) (r : Read (List ℕ)) → prepend xs (prepend ys r) ≡ prepend (xs ++ ys) r
prepend-prepend xs ys None = refl
prepend-prepend xs ys (Some p) = rw (append_assoc xs ys p.0)

-- what follows the plain bytes
abbrev pub tail : ℕ → List ℕ → Read (List ℕ)
tail n text =
    cond (first text == 34) (Some ([], drop 1 text))
    (cond (first text == 92) (option_and_then (λ e. prepend (encode_utf8 e.0) (basic_at n e.1)) (escape_at (drop 1 text))) None)

-- behind the plain bytes stands the closing quote, an escape, or what is no string
pub basic_tail : (n : ℕ) (text : List ℕ) → is_plain (first text) ≡ false → basic_at (suc n) text ≡ tail n text
unfolding basic_at
basic_tail n text h = rw h

-- the plain bytes at the front are taken as they are
pub basic_run : (text : List ℕ) (n : ℕ) → length text < n
    → let parts = split_while is_plain text in
    (m : ℕ) × (length parts.1 ≤ m) × (basic_at n text ≡ prepend parts.0 (tail m parts.1))
basic_run text zero h = absurd (omega arith)
basic_run [] (suc n) h = (n, omega arith, basic_tail n [] refl ∙ sym (prepend-nil _))
basic_run (c ∷ cs) (suc n) h =
    elim (cases_Bool (is_plain c)) [
      | inl itself ↦
          let (m, room, more) = basic_run cs n (omega arith) in
          let k = prefix_len is_plain cs in
          let next : 1 + k ≡ suc k = omega arith in
          rw (itself, next) (m, room, basic_plain n c cs itself ∙ ap (prepend (c ∷ [])) more ∙ prepend-prepend (c ∷ []) _ _)
      | inr other ↦ rw other (n, omega arith, basic_tail n (c ∷ cs) other ∙ sym (prepend-nil _))
    ]

-- the loop has read `out`, and goes on at `rest`
abbrev pub HasRead : ℕ → List ℕ → List ℕ → List ℕ → Type 0
HasRead n s out rest = (m : ℕ) × (length rest < m) × (basic_at n s ≡ prepend out (basic_at m rest))

module _ (n : ℕ) (s out rest plain after : List ℕ) (h : HasRead n s out rest) (parts : (plain, after) ≡ split_while is_plain rest) where
  -- one turn, up to the byte that stops the plain bytes
  turn : (m : ℕ) × (length after ≤ m) × (basic_at n s ≡ prepend (out ++ plain) (tail m after))
  turn =
      let (m, room, loop) = h in
      let (k, fits, run) = basic_run rest m room in
      let front : plain ≡ (split_while is_plain rest).0 = ap (λ p. p.0) parts in
      let back : after ≡ (split_while is_plain rest).1 = ap (λ p. p.1) parts in
      (k, rw back fits, loop ∙ ap (prepend out) run ∙ prepend-prepend out _ _ ∙ rw (← front, ← back) refl)

  -- the closing quote
  pub turn_ends : first after ≡ 34 → basic_at n s ≡ Some (out ++ plain ++ [], drop 1 after)
  turn_ends e =
      let (m, fits, whole) = turn in
      whole ∙ rw (eq-eqb (first after) 34 e) refl

  -- neither a quote nor an escape
  pub turn_fails : first after ≢ 34 → first after ≢ 92 → basic_at n s ≡ None
  turn_fails quote escape =
      let (m, fits, whole) = turn in
      whole ∙ rw (ne_eqb (first after) 34 quote, ne_eqb (first after) 92 escape) refl

  -- a backslash with no escape behind it
  pub turn_bad : first after ≢ 34 → first after ≡ 92 → escape_at (drop 1 after) ≡ None → basic_at n s ≡ None
  turn_bad quote escape none =
      let (m, fits, whole) = turn in
      whole ∙ rw (ne_eqb (first after) 34 quote, eq-eqb (first after) 92 escape, none) refl

  -- an escape, with which the loop goes on
  pub turn_goes : (c : ℕ) (next : List ℕ) → first after ≢ 34 → first after ≡ 92 → escape_at (drop 1 after) ≡ Some (c, next)
      → (m : ℕ) × (length after ≤ m) × (basic_at n s ≡ prepend ((out ++ plain) ++ encode_utf8 c) (basic_at m next))
  turn_goes c next quote escape some =
      let (m, fits, whole) = turn in
      (m, fits, whole ∙ rw (ne_eqb (first after) 34 quote, eq-eqb (first after) 92 escape, some) (prepend-prepend (out ++ plain) _ _))

-- less than eight hex digits fit 28 bits
pub hex_room : (i : ℕ) → i < 8 → 16 ^ i ≤ 2 ^ 28
hex_room zero h = omega arith
hex_room (suc zero) h = omega arith
hex_room (suc (suc zero)) h = omega arith
hex_room (suc (suc (suc zero))) h = omega arith
hex_room (suc (suc (suc (suc zero)))) h = omega arith
hex_room (suc (suc (suc (suc (suc zero))))) h = omega arith
hex_room (suc (suc (suc (suc (suc (suc zero)))))) h = omega arith
hex_room (suc (suc (suc (suc (suc (suc (suc zero))))))) h = omega arith
hex_room (suc (suc (suc (suc (suc (suc (suc (suc i)))))))) h = absurd (omega arith)
