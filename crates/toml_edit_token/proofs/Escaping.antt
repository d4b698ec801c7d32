-- A text is escaped run by run of the bytes that stay as they are.
use Rattle.std.proofs.Common.{◌≡◌, ℕ, suc, ◌<◌, Bool, true, false, ◌==◌, List, [], ◌∷◌, ◌++◌, length, drop, refl, sym, ap, ◌∙◌, inl, inr}
use Rattle.std.proofs.Common.{arith, one-add, add-zero, get_or-drop, append_assoc, append-nil, subst}
use Rattle.std.proofs.lemmas.Bool.{cases_Bool, ne_eqb}
use Rattle.std.proofs.lemmas.Bool.Decides.{nat_tests}
use Rattle.std.proofs.lemmas.List.{length-drop, nil_from_length}
use Rattle.std.proofs.lemmas.List.Sums.{prefix_len_stops}
use Rattle.std.specs.List.{prefix_len, list_all}
use Rattle.toml_edit_model.specs.Spelling.{is_plain}
use Rattle.toml_edit_model.specs.DefaultSpelling.{escaped_byte, escaped}
use Rattle.toml_edit_laws.specs.reading.Runs.{first, split_while}

-- nothing follows a run where all bytes pass
pub all_from_run : (p : ℕ → Bool) (t : List ℕ) → (length (split_while p t).1 == 0) ≡ list_all p t
all_from_run p [] = refl
all_from_run p (c ∷ cs) =
    elim (cases_Bool (p c)) [
      | inl here ↦ rw (here, one-add) (all_from_run p cs)
      | inr other ↦ rw other (ne_eqb (suc (length cs)) 0 (omega arith))
    ]

-- the byte behind a run does not pass
pub stop_from_run : (p : ℕ → Bool) (t : List ℕ) → 0 < length (split_while p t).1 → p (first (split_while p t).1) ≡ false
stop_from_run p t some =
    let n = prefix_len p t in
    let within : n < length t = omega (arith, some, length-drop n t) in
    ap p (rw (get_or-drop n t 0 0, add-zero) refl) ∙ prefix_len_stops p t 0 within

-- a plain byte is written as it is
plain_byte : (many_lines : Bool) (c : ℕ) → is_plain c ≡ true → escaped_byte many_lines c ≡ c ∷ []
plain_byte many_lines c h = grind (arith, nat_tests)

-- a run of plain bytes stays as it is
pub escaped_run : (many_lines : Bool) (t : List ℕ) → escaped many_lines t ≡ (split_while is_plain t).0
    ++ escaped many_lines (split_while is_plain t).1
escaped_run many_lines [] = refl
escaped_run many_lines (c ∷ cs) =
    elim (cases_Bool (is_plain c)) [
      | inl here ↦ rw (here, one-add) (rw (plain_byte many_lines c here) (ap (λ (x : List ℕ). c ∷ x) (escaped_run many_lines cs)))
      | inr other ↦ rw other refl
    ]

-- the byte behind the run of a turn is not plain
pub turn_stops : (rest plain after : List ℕ) → (plain, after) ≡ split_while is_plain rest → 0 < length after → is_plain (first after)
    ≡ false
turn_stops rest plain after parts some =
    let back : after ≡ (split_while is_plain rest).1 = ap (λ p. p.1) parts in
    ap (λ (x : List ℕ). is_plain (first x)) back ∙ stop_from_run is_plain rest (subst (λ (x : List ℕ). 0 < length x) back some)

-- the first byte, and then the others
escaped_first : (many_lines : Bool) (t : List ℕ) → 0 < length t → escaped many_lines t ≡ escaped_byte many_lines (first t)
    ++ escaped many_lines (drop 1 t)
escaped_first many_lines [] some = absurd (omega arith)
escaped_first many_lines (c ∷ cs) some = refl

-- a byte that isn't plain is ASCII
pub escaped_ascii : (c : ℕ) → is_plain c ≡ false → c < 128
escaped_ascii c h = grind (arith, nat_tests)

-- one turn, where `done` was written for what stands before `rest`
module _ (many_lines : Bool) (text done rest plain after : List ℕ) (known : done ++ escaped many_lines rest
    ≡ escaped many_lines text) (parts : (plain, after) ≡ split_while is_plain rest) where
  -- behind the run
  turn : (done ++ plain) ++ escaped many_lines after ≡ escaped many_lines text
  turn =
      let front : plain ≡ (split_while is_plain rest).0 = ap (λ p. p.0) parts in
      let back : after ≡ (split_while is_plain rest).1 = ap (λ p. p.1) parts in
      append_assoc done plain (escaped many_lines after)
      ∙ ap (λ (x : List ℕ). done ++ x) (rw (front, back) (sym (escaped_run many_lines rest))) ∙ known

  -- where nothing follows, the text is written
  pub turn_ends : length after ≡ 0 → done ++ plain ≡ escaped many_lines text
  turn_ends none = sym (append-nil (done ++ plain)) ∙ ap (λ (x : List ℕ). (done ++ plain)
      ++ escaped many_lines x) (sym (nil_from_length after none)) ∙ turn

  -- otherwise the byte behind the run is written, and what follows it is left
  pub turn_goes : 0 < length after → ((done ++ plain) ++ escaped_byte many_lines (first after)) ++ escaped many_lines (drop 1 after)
      ≡ escaped many_lines text
  turn_goes some =
      append_assoc (done ++ plain) (escaped_byte many_lines (first after)) (escaped many_lines (drop 1 after))
      ∙ ap (λ (x : List ℕ). (done ++ plain) ++ x) (sym (escaped_first many_lines after some)) ∙ turn
