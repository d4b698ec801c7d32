-- The words of a line.
use Rattle.std.proofs.Common.{◌≡◌, ◌≤◌, ◌<◌, ◌==◌, ◌++◌, refl, sym, ap, subst, cond, Bool, true, false, ◌&&◌, ◌||◌, ℕ, zero, suc, [], ◌∷◌, drop, length, get_or, take, Option, Some, None, arith}
use Rattle.std.proofs.lemmas.Bool.{eqb-true}
use Rattle.std.specs.Prelude.{IsCharBoundary, is_none}
use Rattle.toml_edit_model.specs.Text.{Text}
use Rattle.toml_edit_model.specs.Trivia.{is_blank}
use Rattle.toml_edit_edits.specs.LineWords.{quoting, word_from}

module _ (mark : Option ℕ) (escaped : Bool) where
  -- the next byte is one of the word
  goes : (b : ℕ) (t : Text) → (is_none mark && is_blank b) ≡ false
      → word_from mark escaped (b ∷ t) ≡ b ∷ word_from (quoting mark escaped b).0 (quoting mark escaped b).1 t
  goes b t other = ap (λ is. cond is [] (b ∷ word_from (quoting mark escaped b).0 (quoting mark escaped b).1 t)) other

  ends : (b : ℕ) (t : Text) → (is_none mark && is_blank b) ≡ true → word_from mark escaped (b ∷ t) ≡ []
  ends b t is = ap (λ is. cond is [] (b ∷ word_from (quoting mark escaped b).0 (quoting mark escaped b).1 t)) is

  pub word-goes : (line : Text) (at b : ℕ) → at < length line → b ≡ get_or line at 0 → (is_none mark && is_blank b) ≡ false
      → take at line ++ word_from mark escaped (drop at line)
      ≡ take (suc at) line ++ word_from (quoting mark escaped b).0 (quoting mark escaped b).1 (drop (suc at) line)
  word-goes [] at b within is other = absurd (omega (arith, within))
  word-goes (x ∷ line) zero b within is other =
      subst (λ y. word_from mark escaped (y ∷ line) ≡ y ∷ word_from (quoting mark escaped b).0 (quoting mark escaped b).1 line) is (goes b line other)
  word-goes (x ∷ line) (suc at) b within is other = ap (λ l. x ∷ l) (word-goes line at b (omega (arith, within)) is other)

  pub word-ends : (line : Text) (at b : ℕ) → at < length line → b ≡ get_or line at 0 → (is_none mark && is_blank b) ≡ true
      → take at line ++ word_from mark escaped (drop at line) ≡ take at line
  word-ends [] at b within is blank = absurd (omega (arith, within))
  word-ends (x ∷ line) zero b within is blank = subst (λ y. word_from mark escaped (y ∷ line) ≡ []) is (ends b line blank)
  word-ends (x ∷ line) (suc at) b within is blank = ap (λ l. x ∷ l) (word-ends line at b (omega (arith, within)) is blank)

-- ---- the place behind a word

-- a blank is a character of one byte
low : (b : ℕ) (is_space is_tab : Bool) → (b == 32) ≡ is_space → (b == 9) ≡ is_tab → (is_space || is_tab) ≡ true → b < 128
low b true is_tab e f is = let s = eqb-true b 32 e in omega (arith, s)
low b false true e f is = let s = eqb-true b 9 f in omega (arith, s)
low b false false e f is = absurd (let no : false ≡ true = is in cc)

blank-low : (mark : Option ℕ) (b : ℕ) → (is_none mark && is_blank b) ≡ true → b < 128
blank-low None b is = low b (b == 32) (b == 9) refl refl is
blank-low (Some q) b is = absurd (let no : false ≡ true = is in cc)

-- The word is in front, and a blank follows it, if anything does.
abbrev pub IsFront : Text → Text → Type 0
IsFront w t = (take (length w) t ≡ w) × (length w ≤ length t) × (length w < length t → get_or t (length w) 0 < 128)

front-by : (mark : Option ℕ) (escaped : Bool) (b : ℕ) (t : Text) (is : Bool) → (is_none mark && is_blank b) ≡ is
    → IsFront (word_from (quoting mark escaped b).0 (quoting mark escaped b).1 t) t → IsFront (word_from mark escaped (b ∷ t)) (b ∷ t)
front-by mark escaped b t true is more =
    subst (λ w. IsFront w (b ∷ t)) (sym (ends mark escaped b t is)) (refl, omega arith, λ less. blank-low mark b is)
front-by mark escaped b t false is more =
    subst (λ w. IsFront w (b ∷ t)) (sym (goes mark escaped b t is))
    (ap (λ l. b ∷ l) more.0, omega (arith, more.1), λ less. more.2 (omega (arith, less)))

pub is-front : (mark : Option ℕ) (escaped : Bool) (t : Text) → IsFront (word_from mark escaped t) t
is-front mark escaped [] = (refl, omega arith, λ less. absurd (omega (arith, less)))
is-front mark escaped (b ∷ t) =
    front-by mark escaped b t (is_none mark && is_blank b) refl (is-front (quoting mark escaped b).0 (quoting mark escaped b).1 t)

pub boundary : (mark : Option ℕ) (escaped : Bool) (t : Text) → IsCharBoundary t (length (word_from mark escaped t))
boundary mark escaped t =
    let f = is-front mark escaped t in (f.1, λ less high. absurd (let low = f.2 less in omega (arith, low, high)))
