-- The words of a text, one after another.
use Rattle.std.proofs.Common.{◌≡◌, ◌≢◌, ◌<◌, refl, sym, ap, ◌∙◌, cond, ℕ, suc, List, [], ◌∷◌, ◌++◌, length, get_or, map, arith, append_assoc, append-nil, Bor}
use borrow.Author.Tests.{ne_eqb}
use Rattle.toml_edit_model.specs.Text.{Text}
use Rattle.toml_edit_c.specs.Split.{with_byte, words_in}

abbrev pub now_of : Bor Text → Text
now_of w = w.now

-- no byte of the text is zero
abbrev pub HasNoZero : Text → Type 0
HasNoZero t = (i : ℕ) → i < length t → get_or t i 0 ≢ 0

-- a byte that is not zero is one of the first word
begun : (b : ℕ) (t : Text) → b ≢ 0 → words_in (b ∷ t) ≡ with_byte b (words_in t)
begun b t other = ap (λ is. cond is ([] ∷ words_in t) (with_byte b (words_in t))) (ne_eqb b 0 other)

tail : (b : ℕ) (t : Text) → HasNoZero (b ∷ t) → HasNoZero t
tail b t none i within = none (suc i) (omega arith)

pub cut : (w rest : Text) → HasNoZero w → words_in (w ++ (0 ∷ rest)) ≡ w ∷ words_in rest
cut [] rest none = refl
cut (b ∷ w) rest none = begun b (w ++ (0 ∷ rest)) (none 0 (omega arith)) ∙ ap (with_byte b) (cut w rest (tail b w none))

pub last : (w : Text) → HasNoZero w → 0 < length w → words_in w ≡ w ∷ []
last [] none some = absurd (omega arith)
last (b ∷ []) none some = begun b [] (none 0 (omega arith))
last (b ∷ (c ∷ w)) none some = begun b (c ∷ w) (none 0 (omega arith)) ∙ ap (with_byte b) (last (c ∷ w) (tail b (c ∷ w) none) (omega arith))

map-append : (ws vs : List (Bor Text)) → map now_of (ws ++ vs) ≡ map now_of ws ++ map now_of vs
map-append [] vs = refl
map-append (w ∷ ws) vs = ap (λ l. w.now ∷ l) (map-append ws vs)

-- a word goes from the rest to those that are read
pub pushed : (ws vs : List (Bor Text)) (s : Bor Text) (w : Text) (rest : List Text) (all : List Text) → vs ≡ ws ++ (s ∷ [])
    → s.now ≡ w → map now_of ws ++ (w ∷ rest) ≡ all → map now_of vs ++ rest ≡ all
pushed ws vs s w rest all is word before =
    ap (λ l. map now_of l ++ rest) is ∙ ap (λ l. l ++ rest) (map-append ws (s ∷ [])) ∙ append_assoc (map now_of ws) (s.now ∷ []) rest
    ∙ ap (λ x. map now_of ws ++ (x ∷ rest)) word ∙ before

-- the last word
pub ended : (ws vs : List (Bor Text)) (s : Bor Text) (rest : Text) (all : List Text) → HasNoZero rest → 0 < length rest
    → vs ≡ ws ++ (s ∷ []) → s.now ≡ rest → map now_of ws ++ words_in rest ≡ all → map now_of vs ≡ all
ended ws vs s rest all none some is word before =
    sym (append-nil (map now_of vs))
    ∙ pushed ws vs s rest [] all is word (ap (λ l. map now_of ws ++ l) (sym (last rest none some)) ∙ before)

-- no more words
pub no-more : (ws : List (Bor Text)) (rest : Text) (all : List Text) → length rest ≡ 0 → map now_of ws ++ words_in rest ≡ all
    → map now_of ws ≡ all
no-more ws [] all none before = sym (append-nil (map now_of ws)) ∙ before
no-more ws (b ∷ rest) all none before = absurd (omega arith)
