-- What a text ends in, told by its last two bytes, and what is held back of it.
use Rattle.std.proofs.Common.{◌≡◌, ℕ, suc, ◌+◌, ◌-◌, ◌<◌, ◌≤◌, ◌⊎◌, inl, inr, Bool, true, false, [], ◌∷◌, ◌++◌, length, get_or, take}
use Rattle.std.proofs.Common.{refl, sym, ap, subst, ◌∙◌, arith, append-nil, length-append, IsUtf8, IsCharBoundary}
use Rattle.std.specs.Prelude.{◌==◌}
use Rattle.std.proofs.lemmas.Bool.{eqb-true}
use Rattle.std.proofs.lemmas.Str.{IsCharBoundary-at_seam}
use Rattle.toml_edit_model.specs.Text.{Text, carriage_return, line_feed}
use Rattle.toml_edit.specs.declared.tail.Tail.{Tail}
use Rattle.toml_edit.specs.declared.tail.Tail.TheVariants.{Nothing, Return, Feed, Both}
use Rattle.toml_edit.specs.Tails.{after_feed, tail_step, tail_after, tail_text}
use Rattle.toml_edit_syntax.specs.Batches.{EndsWith}

pub after-append : (h : Tail) (x y : Text) → tail_after h (x ++ y) ≡ tail_after (tail_after h x) y
after-append h [] y = refl
after-append h (c ∷ x) y = after-append (tail_step h c) x y

-- a byte is a carriage return, a line feed, or ends in nothing
pub record IsOther (a : ℕ) : Type 0 where
  pub step : (h : Tail) → tail_step h a ≡ Nothing

kind_by : (a : ℕ) (p q : Bool) → (a == carriage_return) ≡ p → (a == line_feed) ≡ q → (a ≡ carriage_return) ⊎ ((a ≡ line_feed) ⊎ IsOther a)
kind_by a true q e f = inl (eqb-true _ _ e)
kind_by a false true e f = inr (inl (eqb-true _ _ f))
kind_by a false false e f = inr (inr (record { step = λ h. rw (e, f) refl }))

pub kind : (a : ℕ) → (a ≡ carriage_return) ⊎ ((a ≡ line_feed) ⊎ IsOther a)
kind a = kind_by a (a == carriage_return) (a == line_feed) refl refl

-- ---- the last two bytes tell

feed-feed : (h : Tail) → after_feed (after_feed h) ≡ Feed
feed-feed Nothing = refl
feed-feed Return = refl
feed-feed Feed = refl
feed-feed Both = refl

step-feed : (h : Tail) (a : ℕ) → (a ≡ carriage_return) ⊎ ((a ≡ line_feed) ⊎ IsOther a) → after_feed (tail_step h a)
    ≡ after_feed (tail_step Nothing a)
step-feed h a (inl e) = rw e refl
step-feed h a (inr (inl e)) = rw e (feed-feed h)
step-feed h a (inr (inr o)) = ap after_feed (o.step h ∙ sym (o.step Nothing))

two-steps-by : (h : Tail) (a b : ℕ) → (b ≡ carriage_return) ⊎ ((b ≡ line_feed) ⊎ IsOther b) → tail_step (tail_step h a) b
    ≡ tail_step (tail_step Nothing a) b
two-steps-by h a b (inl e) = rw e refl
two-steps-by h a b (inr (inl e)) = rw e (step-feed h a (kind a))
two-steps-by h a b (inr (inr o)) = o.step (tail_step h a) ∙ sym (o.step (tail_step Nothing a))

two-steps : (h : Tail) (a b : ℕ) → tail_step (tail_step h a) b ≡ tail_step (tail_step Nothing a) b
two-steps h a b = two-steps-by h a b (kind b)

pub last-two : (h : Tail) (t : Text) → 2 ≤ length t → tail_step (tail_step Nothing (get_or t (length t - 2) 0)) (get_or t (length t - 1) 0)
    ≡ tail_after h t
last-two h [] le = absurd (omega arith)
last-two h (a ∷ []) le = absurd (omega arith)
last-two h (a ∷ b ∷ []) le = sym (two-steps h a b)
last-two h (a ∷ b ∷ c ∷ t) le =
    let i : length (a ∷ b ∷ c ∷ t) - 2 ≡ suc (length t) = omega arith in
    let j : length (a ∷ b ∷ c ∷ t) - 1 ≡ suc (suc (length t)) = omega arith in
    let k : length t ≡ length (b ∷ c ∷ t) - 2 = omega arith in
    let l : suc (length t) ≡ length (b ∷ c ∷ t) - 1 = omega arith in
    ap (λ n. tail_step (tail_step Nothing (get_or (a ∷ b ∷ c ∷ t) n 0)) (get_or (a ∷ b ∷ c ∷ t) (length (a ∷ b ∷ c ∷ t) - 1) 0)) i
    ∙ ap (λ n. tail_step (tail_step Nothing (get_or (b ∷ c ∷ t) (length t) 0)) (get_or (a ∷ b ∷ c ∷ t) n 0)) j
    ∙ ap (λ n. tail_step (tail_step Nothing (get_or (b ∷ c ∷ t) n 0)) (get_or (b ∷ c ∷ t) (suc (length t)) 0)) k
    ∙ ap (λ n. tail_step (tail_step Nothing (get_or (b ∷ c ∷ t) (length (b ∷ c ∷ t) - 2) 0)) (get_or (b ∷ c ∷ t) n 0)) l
    ∙ last-two (tail_step h a) (b ∷ c ∷ t) (omega arith)

-- ---- a text and its tail

pub tail-short : (h : Tail) → length (tail_text h) ≤ 2
tail-short Nothing = omega arith
tail-short Return = omega arith
tail-short Feed = omega arith
tail-short Both = omega arith

-- the text ends in its tail
abbrev pub EndsIn : Text → Text → Type 0
EndsIn t end = t ≡ take (length t - length end) t ++ end

feed-alone : (h : Tail) → length (tail_text (after_feed h)) ≤ 1 → after_feed h ≡ Feed
feed-alone Nothing le = refl
feed-alone Return le = absurd (omega arith)
feed-alone Feed le = refl
feed-alone Both le = refl

one-ends : (h : Tail) (a : ℕ) → (a ≡ carriage_return) ⊎ ((a ≡ line_feed) ⊎ IsOther a) → length (tail_text (tail_step h a)) ≤ 1
    → EndsIn (a ∷ []) (tail_text (tail_step h a))
one-ends h a (inl e) le = rw e refl
one-ends h a (inr (inl e)) le =
    let f : tail_step h a ≡ Feed = ap (tail_step h) e ∙ feed-alone h (subst (λ c. length (tail_text (tail_step h c)) ≤ 1) e le) in
    rw (f, e) refl
one-ends h a (inr (inr o)) le = rw (o.step h) refl

two-ends-feed : (h : Tail) (a : ℕ) → (a ≡ carriage_return) ⊎ ((a ≡ line_feed) ⊎ IsOther a)
    → EndsIn (a ∷ line_feed ∷ []) (tail_text (after_feed (tail_step h a)))
two-ends-feed h a (inl e) = rw e refl
two-ends-feed h a (inr (inl e)) = rw (e, feed-feed h) refl
two-ends-feed h a (inr (inr o)) = rw (o.step h) refl

two-ends : (h : Tail) (a b : ℕ) → (b ≡ carriage_return) ⊎ ((b ≡ line_feed) ⊎ IsOther b)
    → EndsIn (a ∷ b ∷ []) (tail_text (tail_step (tail_step h a) b))
two-ends h a b (inl e) = rw e refl
two-ends h a b (inr (inl e)) = rw e (two-ends-feed h a (kind a))
two-ends h a b (inr (inr o)) = rw (o.step (tail_step h a)) refl

none-ends : (h : Tail) → length (tail_text h) ≤ 0 → EndsIn [] (tail_text h)
none-ends Nothing le = refl
none-ends Return le = absurd (omega arith)
none-ends Feed le = absurd (omega arith)
none-ends Both le = absurd (omega arith)

pub tail-ends : (h : Tail) (t : Text) → length (tail_text (tail_after h t)) ≤ length t → EndsIn t (tail_text (tail_after h t))
tail-ends h [] le = none-ends h le
tail-ends h (a ∷ []) le = one-ends h a (kind a) le
tail-ends h (a ∷ b ∷ []) le = two-ends h a b (kind b)
tail-ends h (a ∷ b ∷ c ∷ t) le =
    let end = tail_text (tail_after (tail_step h a) (b ∷ c ∷ t)) in
    let short : length end ≤ 2 = tail-short (tail_after (tail_step h a) (b ∷ c ∷ t)) in
    let more : suc (length (b ∷ c ∷ t) - length end) ≡ length (a ∷ b ∷ c ∷ t) - length end = omega arith in
    ap (λ u. a ∷ u) (tail-ends (tail_step h a) (b ∷ c ∷ t) (omega arith)) ∙ ap (λ n. take n (a ∷ b ∷ c ∷ t) ++ end) more

-- no character is cut before it
pub cut-at : (t end : Text) → IsUtf8 end → EndsIn t end → length end ≤ length t → IsCharBoundary t (length t - length end)
cut-at t end utf8 e le =
    let front = take (length t - length end) t in
    let both : length t ≡ length front + length end = ap length e ∙ length-append front end in
    let at : length front ≡ length t - length end = omega arith in
    subst (IsCharBoundary t) at (IsCharBoundary-at_seam t front end e utf8)

-- a tail that is longer than the text is what was held with it
one-joined : (h : Tail) (a : ℕ) → (a ≡ carriage_return) ⊎ ((a ≡ line_feed) ⊎ IsOther a) → 1 < length (tail_text (tail_step h a))
    → tail_text h ++ (a ∷ []) ≡ tail_text (tail_step h a)
one-joined h a (inl e) lt = absurd (omega (arith, subst (λ c. 1 < length (tail_text (tail_step h c))) e lt))
one-joined Return a (inr (inl e)) lt = rw e refl
one-joined Nothing a (inr (inl e)) lt = absurd (omega (arith, subst (λ c. 1 < length (tail_text (tail_step Nothing c))) e lt))
one-joined Feed a (inr (inl e)) lt = absurd (omega (arith, subst (λ c. 1 < length (tail_text (tail_step Feed c))) e lt))
one-joined Both a (inr (inl e)) lt = absurd (omega (arith, subst (λ c. 1 < length (tail_text (tail_step Both c))) e lt))
one-joined h a (inr (inr o)) lt = absurd (omega (arith, subst (λ x. 1 < length (tail_text x)) (o.step h) lt))

pub tail-joined : (h : Tail) (t : Text) → length t < length (tail_text (tail_after h t)) → tail_text h ++ t ≡ tail_text (tail_after h t)
tail-joined h [] lt = append-nil (tail_text h)
tail-joined h (a ∷ []) lt = one-joined h a (kind a) lt
tail-joined h (a ∷ b ∷ t) lt =
    let short = tail-short (tail_after (tail_step (tail_step h a) b) t) in
    absurd (omega arith)

-- ---- a newline at the end

feed-held : (h : Tail) → EndsWith (tail_text (after_feed h)) (line_feed ∷ [])
feed-held Nothing = ([], refl)
feed-held Return = (carriage_return ∷ [], refl)
feed-held Feed = ([], refl)
feed-held Both = ([], refl)

-- a line feed at the end is held back
pub feed-is-held : (h : Tail) (x : Text) → EndsWith (tail_text (tail_after h (x ++ line_feed ∷ []))) (line_feed ∷ [])
feed-is-held h x = subst (λ t. EndsWith (tail_text t) (line_feed ∷ [])) (sym (after-append h x (line_feed ∷ [])))
    (feed-held (tail_after h x))

-- so is a carriage return before it
pub both-are-held : (h : Tail) (x : Text) → EndsWith (tail_text (tail_after h (x ++ carriage_return ∷ line_feed ∷ []))) (carriage_return
    ∷ line_feed ∷ [])
both-are-held h x = subst (λ t. EndsWith (tail_text t) (carriage_return ∷ line_feed ∷ []))
    (sym (after-append h x (carriage_return ∷ line_feed ∷ []))) ([], refl)

-- nothing at the end is held back
pub none-is-held : (t : Text) → EndsWith t []
none-is-held t = (t, sym (append-nil t))
