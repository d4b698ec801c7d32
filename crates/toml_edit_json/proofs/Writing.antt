-- A text is written run by run of the bytes that stay as they are.
use Rattle.std.proofs.Common.{◌≡◌, ℕ, ◌<◌, Bool, false, List, [], ◌∷◌, ◌++◌, length, drop, refl, sym, ap, ◌∙◌, inl, inr}
use Rattle.std.proofs.Common.{arith, one-add, add-zero, get_or-drop, append_assoc, append-nil, subst}
use Rattle.std.proofs.lemmas.Bool.{cases_Bool}
use Rattle.std.proofs.lemmas.Bool.Decides.{nat_tests}
use Rattle.std.proofs.lemmas.List.{length-drop, nil_from_length}
use Rattle.std.proofs.lemmas.List.Sums.{prefix_len_stops}
use Rattle.toml_edit_laws.proofs.reading.RunLaws.{IsCharBoundary-wide_run}
use Rattle.std.specs.Str.{IsCharBoundary}
use Rattle.std.specs.List.{prefix_len}
use Rattle.toml_edit_laws.specs.reading.Runs.{first, split_while}
use Rattle.toml_edit_json.specs.Texts.{is_kept, written, written_byte}
use Rattle.toml_edit_json.specs.declared.runs.Form.{Form}
use Rattle.toml_edit_json.specs.declared.runs.Form.TheVariants.{Quoted, Number}

-- the byte behind a run does not pass
stop_from_run : (p : ℕ → Bool) (t : List ℕ) → 0 < length (split_while p t).1 → p (first (split_while p t).1) ≡ false
stop_from_run p t some =
    let n = prefix_len p t in
    let within : n < length t = omega (arith, some, length-drop n t) in
    ap p (rw (get_or-drop n t 0 0, add-zero) refl) ∙ prefix_len_stops p t 0 within

-- a byte that is written in another way is ASCII
pub other_ascii : (form : Form) (b : ℕ) → is_kept form b ≡ false → b < 128
other_ascii Quoted b h = grind (arith, nat_tests)
other_ascii Number b h = grind (arith, nat_tests)

module _ (form : Form) where
  -- a run ends where a character does
  pub boundary_run : (t : List ℕ) → IsCharBoundary t (prefix_len (is_kept form) t)
  boundary_run t = IsCharBoundary-wide_run (is_kept form) t (other_ascii form)

  -- a run stays as it is
  written_run : (t : List ℕ) → written form t ≡ (split_while (is_kept form) t).0 ++ written form (split_while (is_kept form) t).1
  written_run [] = refl
  written_run (c ∷ cs) =
      elim (cases_Bool (is_kept form c)) [
        | inl here ↦ rw (here, one-add) (ap (λ (x : List ℕ). c ∷ x) (written_run cs))
        | inr other ↦ rw other (rw other refl)
      ]

  -- the byte behind the run of a turn does not stay
  pub turn_stops : (rest plain after : List ℕ) → (plain, after) ≡ split_while (is_kept form) rest → 0 < length after
      → is_kept form (first after) ≡ false
  turn_stops rest plain after parts some =
      let back : after ≡ (split_while (is_kept form) rest).1 = ap (λ p. p.1) parts in
      ap (λ (x : List ℕ). is_kept form (first x)) back
      ∙ stop_from_run (is_kept form) rest (subst (λ (x : List ℕ). 0 < length x) back some)

  -- the first byte, and then the others
  written_first : (t : List ℕ) → 0 < length t → written form t ≡ written_byte form (first t) ++ written form (drop 1 t)
  written_first [] some = absurd (omega arith)
  written_first (c ∷ cs) some = refl

-- one turn, where `done` was written for what stands before `rest`
module _ (form : Form) (text done rest plain after : List ℕ) (known : done ++ written form rest ≡ written form text)
    (parts : (plain, after) ≡ split_while (is_kept form) rest) where
  -- behind the run
  turn : (done ++ plain) ++ written form after ≡ written form text
  turn =
      let front : plain ≡ (split_while (is_kept form) rest).0 = ap (λ p. p.0) parts in
      let back : after ≡ (split_while (is_kept form) rest).1 = ap (λ p. p.1) parts in
      append_assoc done plain (written form after)
      ∙ ap (λ (x : List ℕ). done ++ x) (rw (front, back) (sym (written_run form rest))) ∙ known

  -- where nothing follows, the text is written
  pub turn_ends : length after ≡ 0 → done ++ plain ≡ written form text
  turn_ends none = sym (append-nil (done ++ plain)) ∙ ap (λ (x : List ℕ). (done ++ plain)
      ++ written form x) (sym (nil_from_length after none)) ∙ turn

  -- otherwise the byte behind the run is written, and what follows it is left
  pub turn_goes : 0 < length after → ((done ++ plain) ++ written_byte form (first after)) ++ written form (drop 1 after)
      ≡ written form text
  turn_goes some =
      append_assoc (done ++ plain) (written_byte form (first after)) (written form (drop 1 after))
      ∙ ap (λ (x : List ℕ). (done ++ plain) ++ x) (sym (written_first form after some)) ∙ turn
