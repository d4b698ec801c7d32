-- A spelling that begins with a byte of a bare key is the name.
use Rattle.std.proofs.Common.{◌≡◌, ℕ, zero, suc, ◌+◌, ◌-◌, List, [], ◌∷◌, take, drop, get_or, sym, ap, subst, ◌∙◌, inl, inr, arith}
use Rattle.std.proofs.lemmas.List.{get_or-drop}
use Rattle.std.specs.Prelude.{true, false}
use Rattle.toml_edit_model.specs.Text.{Text, quote, apostrophe}
use Rattle.toml_edit_model.specs.Spelling.{SpellsKey, is_bare_byte}
use Rattle.toml_edit_model.specs.OwnedForm.{cut_out}

head_of : (n : ℕ) (l rest : List ℕ) (q : ℕ) → take n l ≡ q ∷ rest → get_or l 0 0 ≡ q
head_of zero l rest q e = absurd cc
head_of (suc n) [] rest q e = absurd cc
head_of (suc n) (x ∷ xs) rest q e = cc

-- a text that is cut out begins with the byte at the cut
begins : (n i : ℕ) (s rest : List ℕ) (q : ℕ) → take n (drop i s) ≡ q ∷ rest → get_or s i 0 ≡ q
begins n i s rest q e =
    let here : i ≡ i + 0 = omega arith in
    ap (λ k. get_or s k 0) here ∙ sym (get_or-drop i s 0 0) ∙ head_of n (drop i s) rest q e

-- a text that begins bare is the only name that it spells
pub bare_is_name : (source k : Text) (i j : ℕ) → is_bare_byte (get_or source i 0) ≡ true
    → SpellsKey k (cut_out source i j) → k ≡ cut_out source i j
bare_is_name source k i j bare (inl (is, same)) = same
bare_is_name source k i j bare (inr (inl (parts, are, value, text))) =
    let quoted : false ≡ true = subst (λ b. is_bare_byte b ≡ true) (begins (j - i) i source _ quote text) bare in absurd cc
bare_is_name source k i j bare (inr (inr (is, text))) =
    let quoted : false ≡ true = subst (λ b. is_bare_byte b ≡ true) (begins (j - i) i source _ apostrophe text) bare in absurd cc
