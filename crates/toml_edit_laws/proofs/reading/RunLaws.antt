-- Runs of bytes: where they end, and how they are found again.
use Rattle.std.proofs.Common.{◌≡◌, ℕ, zero, suc, ◌<◌, Bool, true, false, List, [], ◌∷◌, ◌++◌, length, get_or, IsUtf8, refl, sym, subst, ◌∙◌}
use Rattle.std.proofs.Common.{inl, inr, arith, add-one, one-add, take_at, drop_at}
use Rattle.std.proofs.lemmas.Bool.{cases_lt, cases_Bool, and_parts}
use Rattle.std.proofs.lemmas.List.{get_or_past}
use Rattle.std.proofs.lemmas.List.Folds.{length-prefix_len}
use Rattle.std.proofs.lemmas.List.Sums.{prefix_len-le-length, prefix_len_passes, prefix_len_stops}
use Rattle.std.proofs.lemmas.Str.{IsCharBoundary-start, IsCharBoundary-end, IsCharBoundary-before_ascii, IsCharBoundary-after_ascii}
use Rattle.std.specs.List.{prefix_len, list_all}
use Rattle.std.specs.Str.{IsCharBoundary}
use Rattle.toml_edit_model.specs.Trivia.{Each}
use Rattle.toml_edit_laws.specs.reading.Runs.{first, split_while}

-- a byte that is not 0 was read inside the text
pub within_from_byte : (xs : List ℕ) (i : ℕ) → 0 < get_or xs i 0 → i < length xs
within_from_byte xs i h = elim (cases_lt i (length xs)) [ inl within ↦ within | inr past ↦ absurd (omega (arith, get_or_past xs i 0 past)) ]

after_ascii_run : (p : ℕ → Bool) (bs : List ℕ) (n : ℕ) → prefix_len p bs ≡ n → IsUtf8 bs → ((c : ℕ) → p c ≡ true → c < 128)
    → IsCharBoundary bs n
after_ascii_run p bs zero e utf8 ascii = IsCharBoundary-start bs utf8
after_ascii_run p bs (suc k) e utf8 ascii =
    rw (← add-one) (IsCharBoundary-after_ascii bs k utf8 (omega (arith, prefix_len-le-length p bs))
    (ascii _ (prefix_len_passes p bs k 0 (omega arith))))

-- a run of ASCII bytes ends where a character does
pub IsCharBoundary-ascii_run : (p : ℕ → Bool) (bs : List ℕ) → IsUtf8 bs → ((c : ℕ) → p c ≡ true → c < 128)
    → IsCharBoundary bs (prefix_len p bs)
IsCharBoundary-ascii_run p bs = after_ascii_run p bs _ refl

-- and so does a run that only an ASCII byte stops
pub IsCharBoundary-wide_run : (p : ℕ → Bool) (bs : List ℕ) → ((c : ℕ) → p c ≡ false → c < 128) → IsCharBoundary bs (prefix_len p bs)
IsCharBoundary-wide_run p bs ascii =
    elim (cases_lt (prefix_len p bs) (length bs)) [
      | inl within ↦ IsCharBoundary-before_ascii bs _ within (ascii _ (prefix_len_stops p bs 0 within))
      | inr past ↦ subst (IsCharBoundary bs) (omega (arith, prefix_len-le-length p bs)) (IsCharBoundary-end bs)
    ]

-- a run is found again in front of a byte that does not pass
pub prefix_len-run : (p : ℕ → Bool) (run rest : List ℕ) → Each p run → p (first rest) ≡ false → prefix_len p (run ++ rest) ≡ length run
prefix_len-run p [] [] all stop = refl
prefix_len-run p [] (c ∷ rest) all stop = rw stop
prefix_len-run p (c ∷ run) rest all stop =
    let (here, more) = and_parts (p c) (list_all p run) all in
    rw here (omega (arith, prefix_len-run p run rest more stop))

pub split_while-run : (p : ℕ → Bool) (run rest : List ℕ) → Each p run → p (first rest) ≡ false → split_while p (run ++ rest) ≡ (run, rest)
split_while-run p run rest all stop = rw (prefix_len-run p run rest all stop, take_at run rest _ refl, drop_at run rest _ refl)

-- what is found passes
pub Each-run : (p : ℕ → Bool) (text : List ℕ) → Each p (split_while p text).0
Each-run p [] = refl
Each-run p (c ∷ cs) =
    elim (cases_Bool (p c)) [
      | inl here ↦ rw (here, one-add) (rw here (Each-run p cs))
      | inr other ↦ rw other refl
    ]

-- a run that is longer than 0 holds a byte
pub run_some : (p : ℕ → Bool) (text : List ℕ) → (prefix_len p text ≡ 0 → ⊥) → length (split_while p text).0 ≡ 0 → ⊥
run_some p text some none = some (sym (length-prefix_len p text) ∙ none)
