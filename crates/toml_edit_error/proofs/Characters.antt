-- The characters of a text are counted by the bytes that begin one.
use Rattle.std.proofs.Common.{◌≡◌, refl, sym, ap, ◌∙◌, ℕ, suc, ◌+◌, ◌/◌, ◌%◌, ◌<◌, ◌≤◌, true, false, cond, not, [], ◌∷◌, ◌++◌, List, length}
use Rattle.std.proofs.Common.{IsUtf8, inl, inr, arith, lt-ltb, le-ltb}
use Rattle.std.specs.Str.{chars}
use Rattle.std.proofs.lemmas.Bool.{cond-true, cond-false, cases_lt}
use Rattle.std.proofs.lemmas.Bool.Decides.{nat_tests}
use Rattle.std.proofs.lemmas.Str.{encode_ascii, encodes-chars}
use Rattle.std.proofs.lemmas.List.Sums.{sum_by-append, sum_by-cons}
use lib.Utf8.{encode, encodes}
use Rattle.toml_edit_model.specs.Text.{Text}
use Rattle.toml_edit_model.specs.Excerpt.{is_continuation, characters}

low : (c : ℕ) → c < 128 → is_continuation c ≡ false
low c h = grind (arith, nat_tests)

high : (c : ℕ) → 192 ≤ c → is_continuation c ≡ false
high c h = grind (arith, nat_tests)

pub continues : (c : ℕ) → 128 ≤ c → c < 192 → is_continuation c ≡ true
continues c h l = grind (arith, nat_tests)

pub begins : (c : ℕ) → (128 ≤ c → 192 ≤ c) → is_continuation c ≡ false
begins c h = elim (cases_lt c 128) [ inl l ↦ low c l | inr g ↦ high c (h g) ]

next : (n : ℕ) → is_continuation (128 + n % 64) ≡ true
next n = continues (128 + n % 64) (omega arith) (omega arith)

counted : (c : ℕ) (t : Text) → is_continuation c ≡ false → characters (c ∷ t) ≡ suc (characters t)
counted c t h =
    let one : cond {A = ℕ} (not (is_continuation c)) 1 0 ≡ 1 = ap (λ b. cond {A = ℕ} (not b) 1 0) h in
    let more : 1 + characters t ≡ suc (characters t) = omega arith in
    sum_by-cons (λ x. cond {A = ℕ} (not (is_continuation x)) 1 0) c t ∙ ap (λ n. n + characters t) one ∙ more

passed : (c : ℕ) (t : Text) → is_continuation c ≡ true → characters (c ∷ t) ≡ characters t
passed c t h =
    let none : cond {A = ℕ} (not (is_continuation c)) 1 0 ≡ 0 = ap (λ b. cond {A = ℕ} (not b) 1 0) h in
    let same : 0 + characters t ≡ characters t = omega arith in
    sum_by-cons (λ x. cond {A = ℕ} (not (is_continuation x)) 1 0) c t ∙ ap (λ n. n + characters t) none ∙ same

encode_two : (c : ℕ) → 128 ≤ c → c < 0x800 → encode c ≡ (192 + c / 64) ∷ (128 + c % 64) ∷ []
unfolding encode
encode_two c l h = cond-false _ _ _ (le-ltb c 128 l) ∙ cond-true _ _ _ (lt-ltb c 2048 h)

encode_three : (c : ℕ) → 0x800 ≤ c → c < 0x1_0000 → encode c ≡ (224 + c / 4096) ∷ (128 + (c / 64) % 64) ∷ (128 + c % 64) ∷ []
unfolding encode
encode_three c l h =
    cond-false _ _ _ (le-ltb c 128 (omega arith)) ∙ cond-false _ _ _ (le-ltb c 2048 l) ∙ cond-true _ _ _ (lt-ltb c 65536 h)

encode_four : (c : ℕ) → 0x1_0000 ≤ c
    → encode c ≡ (240 + c / 262144) ∷ (128 + (c / 4096) % 64) ∷ (128 + (c / 64) % 64) ∷ (128 + c % 64) ∷ []
unfolding encode
encode_four c l =
    cond-false _ _ _ (le-ltb c 128 (omega arith)) ∙ cond-false _ _ _ (le-ltb c 2048 (omega arith)) ∙ cond-false _ _ _ (le-ltb c 65536 l)

one_of_two : (a b : ℕ) → 192 ≤ a → characters (a ∷ (128 + b % 64) ∷ []) ≡ 1
one_of_two a b h = counted a ((128 + b % 64) ∷ []) (high a h) ∙ ap suc (passed (128 + b % 64) [] (next b))

one_of_three : (a b c : ℕ) → 192 ≤ a → characters (a ∷ (128 + b % 64) ∷ (128 + c % 64) ∷ []) ≡ 1
one_of_three a b c h =
    counted a ((128 + b % 64) ∷ (128 + c % 64) ∷ []) (high a h)
    ∙ ap suc (passed (128 + b % 64) ((128 + c % 64) ∷ []) (next b) ∙ passed (128 + c % 64) [] (next c))

one_of_four : (a b c d : ℕ) → 192 ≤ a → characters (a ∷ (128 + b % 64) ∷ (128 + c % 64) ∷ (128 + d % 64) ∷ []) ≡ 1
one_of_four a b c d h =
    counted a ((128 + b % 64) ∷ (128 + c % 64) ∷ (128 + d % 64) ∷ []) (high a h)
    ∙ ap suc (passed (128 + b % 64) ((128 + c % 64) ∷ (128 + d % 64) ∷ []) (next b) ∙ passed (128 + c % 64) ((128 + d % 64) ∷ []) (next c)
    ∙ passed (128 + d % 64) [] (next d))

-- a character is one
one_character : (c : ℕ) → characters (encode c) ≡ 1
one_character c = elim (cases_lt c 128) [
  | inl a ↦ ap characters (encode_ascii c a) ∙ counted c [] (low c a)
  | inr b ↦ elim (cases_lt c 0x800) [
    | inl a ↦ ap characters (encode_two c b a) ∙ one_of_two (192 + c / 64) c (omega arith)
    | inr d ↦ elim (cases_lt c 0x1_0000) [
      | inl a ↦ ap characters (encode_three c d a) ∙ one_of_three (224 + c / 4096) (c / 64) c (omega arith)
      | inr e ↦ ap characters (encode_four c e) ∙ one_of_four (240 + c / 262144) (c / 4096) (c / 64) c (omega arith)
    ]
  ]
]

characters-encodes : (cs : List ℕ) → characters (encodes cs) ≡ length cs
characters-encodes [] = refl
characters-encodes (c ∷ cs) =
    let apart : characters (encode c ++ encodes cs) ≡ characters (encode c) + characters (encodes cs) =
    sum_by-append _ (encode c) (encodes cs) in
    let one : characters (encode c) ≡ 1 = one_character c in
    let others : characters (encodes cs) ≡ length cs = characters-encodes cs in
    omega (arith, apart, one, others)

pub characters-chars : (t : Text) → IsUtf8 t → length (chars t) ≡ characters t
characters-chars t u = sym (characters-encodes (chars t)) ∙ ap characters (encodes-chars t u)
