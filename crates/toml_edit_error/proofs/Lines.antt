-- The lines of a text, by its newlines.
use Rattle.std.proofs.Common.{◌≡◌, refl, sym, ap, ◌∙◌, ℕ, suc, ◌+◌, ◌-◌, ◌<◌, ◌≤◌, ◌==◌, Bool, true, false, cond, not, [], ◌∷◌, ◌++◌}
use Rattle.std.proofs.Common.{length, take, drop, get_or, reverse, count_by, Some, None, ◌⊎◌, inl, inr, arith, append_assoc}
use Rattle.std.proofs.lemmas.Bool.{cases_lt}
use Rattle.std.proofs.lemmas.List.{get_or-reverse, get_or-drop, length-reverse, length-drop, take_all, take-append-drop, drop_more}
use Rattle.std.proofs.lemmas.List.Sums.{sum_by-append, sum_by-cons, prefix_len_is, prefix_len_passes, prefix_len_stops}
use Rattle.memchr.specs.Find.{IsFirstByte, IsLastByte, is_byte}
use Rattle.toml_edit_model.specs.Text.{Text, line_feed}
use Rattle.toml_edit_model.specs.Excerpt.{first_line, last_line_size, line_at}

-- a byte that ends no line
abbrev pub inside : ℕ → Bool
inside c = not (c == line_feed)

abbrev pub newlines : Text → ℕ
newlines t = count_by (λ c. c == line_feed) t

abbrev pub last_line : Text → Text
last_line t = drop (length t - last_line_size t) t

-- no newline stands in the text
abbrev pub IsOneLine : Text → Type 0
IsOneLine t = (k : ℕ) → k < length t → inside (get_or t k 0) ≡ true

is_inside : (b : Bool) → ¬ (b ≡ true) → not b ≡ true
is_inside true h = absurd (h refl)
is_inside false h = refl

is_end : (b : Bool) → b ≡ true → not b ≡ false
is_end true h = refl
is_end false h = cc

ends : (b : Bool) → not b ≡ false → b ≡ true
ends true h = refl
ends false h = cc

either : (b : Bool) → (not b ≡ true) ⊎ (not b ≡ false)
either true = inr refl
either false = inl refl

-- the first line of a text, byte by byte
first_line-inside : (c : ℕ) (t : Text) → inside c ≡ true → first_line (c ∷ t) ≡ c ∷ first_line t
first_line-inside c t h = grind (arith, h)

first_line-end : (c : ℕ) (t : Text) → inside c ≡ false → first_line (c ∷ t) ≡ []
first_line-end c t h = grind (arith, h)

newlines-inside : (c : ℕ) (t : Text) → inside c ≡ true → newlines (c ∷ t) ≡ newlines t
newlines-inside c t h = grind (arith, h)

newlines-end : (c : ℕ) (t : Text) → inside c ≡ false → newlines (c ∷ t) ≡ suc (newlines t)
newlines-end c t h =
    let one : cond {A = ℕ} (c == line_feed) 1 0 ≡ 1 = ap (λ b. cond {A = ℕ} b 1 0) (ends (c == line_feed) h) in
    let more : 1 + newlines t ≡ suc (newlines t) = omega arith in
    sum_by-cons (λ x. cond {A = ℕ} (x == line_feed) 1 0) c t ∙ ap (λ n. n + newlines t) one ∙ more

-- the later lines of a text are those behind its first byte
line_at-inside : (n c : ℕ) (t : Text) → inside c ≡ true → line_at (suc n) (c ∷ t) ≡ line_at (suc n) t
line_at-inside n c t h = ap (λ l. line_at n (drop (suc (length l)) (c ∷ t))) (first_line-inside c t h)

line_at-end : (n c : ℕ) (t : Text) → inside c ≡ false → line_at (suc n) (c ∷ t) ≡ line_at n t
line_at-end n c t h = ap (λ l. line_at n (drop (suc (length l)) (c ∷ t))) (first_line-end c t h)

tail_of : (c : ℕ) (t : Text) → IsOneLine (c ∷ t) → IsOneLine t
tail_of c t one k h = one (suc k) (omega arith)

pub newlines-one : (t : Text) → IsOneLine t → newlines t ≡ 0
newlines-one [] one = refl
newlines-one (c ∷ t) one = newlines-inside c t (one 0 (omega arith)) ∙ newlines-one t (tail_of c t one)

pub first_line-append : (x y : Text) → IsOneLine x → first_line (x ++ y) ≡ x ++ first_line y
first_line-append [] y one = refl
first_line-append (c ∷ x) y one =
    first_line-inside c (x ++ y) (one 0 (omega arith)) ∙ ap (λ l. c ∷ l) (first_line-append x y (tail_of c x one))

-- behind a newline the next line begins
line_at-past : (x : Text) (e : ℕ) (y : Text) → inside e ≡ false → line_at (suc (newlines x)) (x ++ e ∷ y) ≡ first_line y
line_at-past [] e y h = line_at-end 0 e y h
line_at-past (c ∷ x) e y h = elim (either (c == line_feed)) [
  | inl i ↦ ap (λ n. line_at (suc n) (c ∷ (x ++ e ∷ y))) (newlines-inside c x i) ∙ line_at-inside (newlines x) c (x ++ e ∷ y) i
      ∙ line_at-past x e y h
  | inr f ↦ ap (λ n. line_at (suc n) (c ∷ (x ++ e ∷ y))) (newlines-end c x f) ∙ line_at-end (suc (newlines x)) c (x ++ e ∷ y) f
      ∙ line_at-past x e y h
]

-- a text that is a newline with one line behind it
split_content : (x : Text) (e : ℕ) (b y : Text) → inside e ≡ false → IsOneLine b → line_at (newlines (x ++ e ∷ b)) ((x ++ e ∷ b) ++ y) ≡ b
    ++ first_line y
split_content x e b y h one =
    let apart : newlines (x ++ e ∷ b) ≡ newlines x + newlines (e ∷ b) = sum_by-append _ x (e ∷ b) in
    let here : newlines (e ∷ b) ≡ suc (newlines b) = newlines-end e b h in
    let none : newlines b ≡ 0 = newlines-one b one in
    let count : newlines (x ++ e ∷ b) ≡ suc (newlines x) = omega (arith, apart, here, none) in
    ap (λ n. line_at n ((x ++ e ∷ b) ++ y)) count
    ∙ ap (λ t. line_at (suc (newlines x)) t) (append_assoc x (e ∷ b) y)
    ∙ line_at-past x e (b ++ y) h
    ∙ first_line-append b y one

-- what stands behind the last newline, by places from the end
last_inside : (t : Text) (k : ℕ) → length t - last_line_size t ≤ k → k < length t → inside (get_or t k 0) ≡ true
last_inside t k h l =
    let place : length t - 1 - (length t - 1 - k) ≡ k = omega arith in
    let same : get_or (reverse t) (length t - 1 - k) 0 ≡ get_or t (length t - 1 - (length t - 1 - k)) 0 =
    get_or-reverse t (length t - 1 - k) 0 (omega arith) in
    let passes : inside (get_or (reverse t) (length t - 1 - k) 0) ≡ true =
    prefix_len_passes inside (reverse t) (length t - 1 - k) 0 (omega (arith, length-reverse t)) in
    sym (ap inside (same ∙ ap (λ j. get_or t j 0) place)) ∙ passes

last_stops : (t : Text) → last_line_size t < length t → inside (get_or t (length t - 1 - last_line_size t) 0) ≡ false
last_stops t h =
    let bound : last_line_size t < length (reverse t) = omega (arith, length-reverse t) in
    sym (ap inside (get_or-reverse t (last_line_size t) 0 h)) ∙ prefix_len_stops inside (reverse t) 0 bound

whole_content : (h y : Text) → length h ≤ last_line_size h → line_at (newlines h) (h ++ y) ≡ last_line h ++ first_line y
whole_content h y le =
    let one : IsOneLine h = λ k l. last_inside h k (omega arith) l in
    let all : last_line h ≡ h = ap (λ n. drop n h) (let z : length h - last_line_size h ≡ 0 = omega arith in z) in
    ap (λ n. line_at n (h ++ y)) (newlines-one h one) ∙ first_line-append h y one ∙ ap (λ l. l ++ first_line y) (sym all)

cut_content : (h y : Text) → last_line_size h < length h → line_at (newlines h) (h ++ y) ≡ last_line h ++ first_line y
cut_content h y lt =
    let k : ℕ = length h - 1 - last_line_size h in
    let stop : inside (get_or h k 0) ≡ false = last_stops h lt in
    let from : k + 1 ≡ length h - last_line_size h = omega arith in
    let b : Text = drop (k + 1) h in
    let one : IsOneLine b = λ j l. ap inside (get_or-drop (k + 1) h j 0)
    ∙ last_inside h (k + 1 + j) (omega arith) (omega (arith, length-drop (k + 1) h)) in
    let whole : h ≡ take k h ++ (get_or h k 0 ∷ b) = sym (take-append-drop k h) ∙ ap (λ d. take k h ++ d) (drop_more h k 0 (omega arith)) in
    ap (λ t. line_at (newlines t) (t ++ y)) whole
    ∙ split_content (take k h) (get_or h k 0) b y stop one
    ∙ ap (λ n. drop n h ++ first_line y) from

pub last_line-one : (h : Text) → IsOneLine (last_line h)
last_line-one h =
    let b : ℕ = length h - last_line_size h in
    λ j l. ap inside (get_or-drop b h j 0) ∙ last_inside h (b + j) (omega arith) (omega (arith, length-drop b h))

-- a line that is cut in two: what stands before the cut behind the last newline, and after it before the first
pub line_at-cut : (h y : Text) → line_at (newlines h) (h ++ y) ≡ last_line h ++ first_line y
line_at-cut h y = elim (cases_lt (last_line_size h) (length h)) [ inl lt ↦ cut_content h y lt | inr le ↦ whole_content h y le ]

-- what a search for a newline tells of the last line
pub last_line-some : (t : Text) (n : ℕ) → IsLastByte (is_byte line_feed) t (Some n) → last_line_size t ≡ length t - (n + 1)
last_line-some t n found =
    prefix_len_is inside (reverse t) (length t - (n + 1)) 0 (omega (arith, length-reverse t))
    (λ k h.
    let same : get_or (reverse t) k 0 ≡ get_or t (length t - 1 - k) 0 = get_or-reverse t k 0 (omega arith) in
    ap inside same ∙ is_inside _ (found.0.after (length t - 1 - k) (omega (arith, found.0.high)) (omega (arith, found.0.high))))
    (λ h.
    let high : n < length t = found.0.high in
    let place : length t - 1 - (length t - (n + 1)) ≡ n = omega (arith, high) in
    let same : get_or (reverse t) (length t - (n + 1)) 0 ≡ get_or t (length t - 1 - (length t - (n + 1))) 0 =
    get_or-reverse t (length t - (n + 1)) 0 (omega (arith, high)) in
    ap inside (same ∙ ap (λ j. get_or t j 0) place) ∙ is_end _ found.1)

pub last_line-none : (t : Text) → IsLastByte (is_byte line_feed) t None → last_line_size t ≡ length t
last_line-none t none =
    prefix_len_is inside (reverse t) (length t) 0 (omega (arith, length-reverse t))
    (λ k h.
    let same : get_or (reverse t) k 0 ≡ get_or t (length t - 1 - k) 0 = get_or-reverse t k 0 h in
    ap inside same ∙ is_inside _ (none (length t - 1 - k) (omega arith) (omega arith)))
    (λ h. absurd (omega (arith, length-reverse t)))

-- and of the first
pub first_line-some : (t : Text) (n : ℕ) → IsFirstByte (is_byte line_feed) t (Some n) → first_line t ≡ take n t
first_line-some t n found =
    let high : n < length t = found.0.high in
    ap (λ k. take k t) (prefix_len_is inside t n 0 (omega arith)
    (λ k h. is_inside _ (found.0.before k (omega arith) h))
    (λ h. is_end _ found.1))

pub first_line-none : (t : Text) → IsFirstByte (is_byte line_feed) t None → first_line t ≡ t
first_line-none t none =
    ap (λ k. take k t) (prefix_len_is inside t (length t) 0 (omega arith)
    (λ k h. is_inside _ (none k (omega arith) h))
    (λ h. absurd (omega arith)))
    ∙ take_all (length t) t (omega arith)
