-- The mentions of one key line or pair.
use Rattle.std.proofs.Common.{◌≡◌, ◌⊎◌, ℕ, refl, sym, ap, subst, ◌∙◌, inl, inr, true, false, Bool, List, [], ◌∷◌, ◌++◌, append_assoc}
use Rattle.std.specs.Prelude.{◌||◌, not}
use Rattle.std.proofs.lemmas.List.{append_cancel_left}
use Rattle.toml_edit_model.specs.Syntax.{Segment}
use Rattle.toml_edit_model.specs.Paths.{Step, at_key, Path, same_path, to_key, Mention, line_mentions, next_start}
use Rattle.toml_edit_model.specs.Accepted.{agree}
use Rattle.toml_edit_laws.proofs.common.Members.{Among, passes-among}
use Rattle.toml_edit_laws.proofs.common.PathLaws.{same_path-refl}
use Rattle.toml_edit_model.specs.Roles.{Role, dotted_role, value_role}

-- ---- the segments of a key

-- the mention is of a key that lies below the path
pub below : {S : Type 0} (source : S) (i : ℕ) (p : Path) (ss : List Segment) (m : Mention S) → Among m (line_mentions source i p ss)
    → (s : Step) × (q : Path) × (m.path ≡ p ++ (s ∷ q))
below source i p [] m h = elim h [ ]
below source i p (s ∷ []) m (inl e) = (at_key s.key, [], ap (λ n. n.path) e)
below source i p (s ∷ []) m (inr h) = elim h [ ]
below source i p (s ∷ r ∷ rest) m (inl e) = (at_key s.key, [], ap (λ n. n.path) e)
below source i p (s ∷ r ∷ rest) m (inr h) =
    let lower = below source (next_start i s) (to_key p s.key) (r ∷ rest) m h in
    (at_key s.key, lower.0 ∷ lower.1, lower.2 ∙ append_assoc p (at_key s.key ∷ []) (lower.0 ∷ lower.1))

pub line-source : {S : Type 0} (source : S) (i : ℕ) (p : Path) (ss : List Segment) (m : Mention S) → Among m (line_mentions source i p ss)
    → m.source ≡ source
line-source source i p [] m h = elim h [ ]
line-source source i p (s ∷ []) m (inl e) = ap (λ n. n.source) e
line-source source i p (s ∷ []) m (inr h) = elim h [ ]
line-source source i p (s ∷ r ∷ rest) m (inl e) = ap (λ n. n.source) e
line-source source i p (s ∷ r ∷ rest) m (inr h) = line-source source (next_start i s) (to_key p s.key) (r ∷ rest) m h

pub line-role : {S : Type 0} (source : S) (i : ℕ) (p : Path) (ss : List Segment) (m : Mention S) → Among m (line_mentions source i p ss)
    → (m.role ≡ dotted_role) ⊎ (m.role ≡ value_role)
line-role source i p [] m h = elim h [ ]
line-role source i p (s ∷ []) m (inl e) = inr (ap (λ n. n.role) e)
line-role source i p (s ∷ []) m (inr h) = elim h [ ]
line-role source i p (s ∷ r ∷ rest) m (inl e) = inl (ap (λ n. n.role) e)
line-role source i p (s ∷ r ∷ rest) m (inr h) = line-role source (next_start i s) (to_key p s.key) (r ∷ rest) m h

-- its path ends in its own key
pub line-named : {S : Type 0} (source : S) (i : ℕ) (p : Path) (ss : List Segment) (m : Mention S) → Among m (line_mentions source i p ss)
    → (q : Path) × (m.path ≡ q ++ (at_key m.segment.key ∷ []))
line-named source i p [] m h = elim h [ ]
line-named source i p (s ∷ []) m (inl e) = (p, ap (λ n. n.path) e ∙ ap (λ n. p ++ (at_key n.segment.key ∷ [])) (sym e))
line-named source i p (s ∷ []) m (inr h) = elim h [ ]
line-named source i p (s ∷ r ∷ rest) m (inl e) = (p, ap (λ n. n.path) e ∙ ap (λ n. p ++ (at_key n.segment.key ∷ [])) (sym e))
line-named source i p (s ∷ r ∷ rest) m (inr h) = line-named source (next_start i s) (to_key p s.key) (r ∷ rest) m h

-- each path on the way to it is mentioned too
no-rest : (x s : Step) (q r : Path) → x ∷ [] ≡ s ∷ (q ++ r) → (x ∷ []) ≡ s ∷ q
no-rest x s [] r e = cc
no-rest x s (t ∷ q) r e = absurd cc

pub line-closed : {S : Type 0} (source : S) (i : ℕ) (p : Path) (ss : List Segment) (m : Mention S) → Among m (line_mentions source i p ss)
    → (s : Step) (q r : Path) → m.path ≡ p ++ (s ∷ (q ++ r)) → (n : Mention S) × Among n (line_mentions source i p ss)
    × (n.path ≡ p ++ (s ∷ q))
line-closed source i p [] m h s q r e = elim h [ ]
line-closed source i p (a ∷ []) m (inl g) s q r e =
    let only = no-rest (at_key a.key) s q r (append_cancel_left p _ _ (ap (λ n. n.path) (sym g) ∙ e)) in
    (_, inl refl, ap (λ x. p ++ x) only)
line-closed source i p (a ∷ []) m (inr h) s q r e = elim h [ ]
line-closed source i p (a ∷ b ∷ rest) m (inl g) s q r e =
    let only = no-rest (at_key a.key) s q r (append_cancel_left p _ _ (ap (λ n. n.path) (sym g) ∙ e)) in
    (_, inl refl, ap (λ x. p ++ x) only)
line-closed source i p (a ∷ b ∷ rest) m (inr h) s [] r e =
    let lower = below source (next_start i a) (to_key p a.key) (b ∷ rest) m h in
    let same : at_key a.key ∷ (lower.0 ∷ lower.1) ≡ s ∷ r =
    append_cancel_left p _ _ (sym (append_assoc p (at_key a.key ∷ []) (lower.0 ∷ lower.1)) ∙ sym lower.2 ∙ e) in
    let head : at_key a.key ≡ s = cc in
    (_, inl refl, ap (λ x. p ++ (x ∷ [])) head)
line-closed source i p (a ∷ b ∷ rest) m (inr h) s (t ∷ q) r e =
    let lower = below source (next_start i a) (to_key p a.key) (b ∷ rest) m h in
    let same : at_key a.key ∷ (lower.0 ∷ lower.1) ≡ s ∷ (t ∷ (q ++ r)) =
    append_cancel_left p _ _ (sym (append_assoc p (at_key a.key ∷ []) (lower.0 ∷ lower.1)) ∙ sym lower.2 ∙ e) in
    let head : at_key a.key ≡ s = cc in
    let there : m.path ≡ to_key p a.key ++ (t ∷ (q ++ r)) =
    e ∙ ap (λ x. p ++ (x ∷ (t ∷ (q ++ r)))) (sym head) ∙ sym (append_assoc p (at_key a.key ∷ []) (t ∷ (q ++ r))) in
    let found = line-closed source (next_start i a) (to_key p a.key) (b ∷ rest) m h t q r there in
    (found.0, inr found.1, found.2 ∙ append_assoc p (at_key a.key ∷ []) (t ∷ q) ∙ ap (λ x. p ++ (x ∷ (t ∷ q))) head)

-- nothing else is mentioned at the value's path or below it
pub line-alone : {S : Type 0} (source : S) (i : ℕ) (p : Path) (ss : List Segment) (m n : Mention S)
    → Among m (line_mentions source i p ss) → Among n (line_mentions source i p ss) → m.role ≡ value_role
    → (r : Path) → n.path ≡ m.path ++ r → n ≡ m
line-alone source i p [] m n h g v r e = elim h [ ]
line-alone source i p (s ∷ []) m n (inl a) (inl b) v r e = b ∙ sym a
line-alone source i p (s ∷ []) m n (inl a) (inr g) v r e = elim g [ ]
line-alone source i p (s ∷ []) m n (inr h) g v r e = elim h [ ]
line-alone source i p (s ∷ t ∷ rest) m n (inl a) g v r e = absurd (clash (sym (ap (λ k. k.role) a) ∙ v))
  where
    clash : dotted_role ≡ value_role → ⊥
    clash x = cc
line-alone source i p (s ∷ t ∷ rest) m n (inr h) (inl b) v r e =
    let lower = below source (next_start i s) (to_key p s.key) (t ∷ rest) m h in
    let far : p ++ (at_key s.key ∷ []) ≡ p ++ (at_key s.key ∷ (lower.0 ∷ (lower.1 ++ r))) =
    ap (λ k. k.path) (sym b) ∙ e ∙ ap (λ x. x ++ r) lower.2 ∙ append_assoc (to_key p s.key) (lower.0 ∷ lower.1) r
    ∙ append_assoc p (at_key s.key ∷ []) (lower.0 ∷ (lower.1 ++ r)) in
    absurd (clash (lower.0 ∷ (lower.1 ++ r)) lower.0 (lower.1 ++ r) refl (append_cancel_left p _ _ far))
  where
    clash : (x : Path) (y : Step) (z : Path) → x ≡ y ∷ z → at_key s.key ∷ [] ≡ at_key s.key ∷ x → ⊥
    clash x y z a b = cc
line-alone source i p (s ∷ t ∷ rest) m n (inr h) (inr g) v r e =
    line-alone source (next_start i s) (to_key p s.key) (t ∷ rest) m n h g v r e

-- a key begins with its first segment
line-first : {S : Type 0} (source : S) (i : ℕ) (p : Path) (s : Segment) (rest : List Segment)
    → (n : Mention S) × Among n (line_mentions source i p (s ∷ rest)) × (n.path ≡ to_key p s.key)
line-first source i p s [] = (_, inl refl, refl)
line-first source i p s (r ∷ rest) = (_, inl refl, refl)

-- a dotted key has something below it
pub line-shows : {S : Type 0} (source : S) (i : ℕ) (p : Path) (ss : List Segment) (m : Mention S)
    → Among m (line_mentions source i p ss) → m.role ≡ dotted_role
    → (n : Mention S) × (s : Step) × (r : Path) × Among n (line_mentions source i p ss) × (n.path ≡ m.path ++ (s ∷ r))
line-shows source i p [] m h d = elim h [ ]
line-shows source i p (s ∷ []) m (inl e) d = absurd (clash (sym (ap (λ k. k.role) e) ∙ d))
  where
    clash : value_role ≡ dotted_role → ⊥
    clash x = cc
line-shows source i p (s ∷ []) m (inr h) d = elim h [ ]
line-shows source i p (s ∷ r ∷ rest) m (inl e) d =
    let lower = line-first source (next_start i s) (to_key p s.key) r rest in
    (lower.0, at_key r.key, [], inr lower.1, lower.2 ∙ ap (λ k. k.path ++ (at_key r.key ∷ [])) (sym e))
line-shows source i p (s ∷ r ∷ rest) m (inr h) d =
    let lower = line-shows source (next_start i s) (to_key p s.key) (r ∷ rest) m h d in
    (lower.0, lower.1, lower.2, inr lower.3, lower.4)

-- ---- the same key from another byte and of another source

pub twin : {S T : Type 0} (source : S) (other : T) (i j : ℕ) (p : Path) (ss : List Segment) (m : Mention S)
    → Among m (line_mentions source i p ss)
    → (n : Mention T) × Among n (line_mentions other j p ss) × (n.path ≡ m.path) × (n.role ≡ m.role)
twin source other i j p [] m h = elim h [ ]
twin source other i j p (s ∷ []) m (inl e) = (_, inl refl, sym (ap (λ k. k.path) e), sym (ap (λ k. k.role) e))
twin source other i j p (s ∷ []) m (inr h) = elim h [ ]
twin source other i j p (s ∷ r ∷ rest) m (inl e) = (_, inl refl, sym (ap (λ k. k.path) e), sym (ap (λ k. k.role) e))
twin source other i j p (s ∷ r ∷ rest) m (inr h) =
    let lower = twin source other (next_start i s) (next_start j s) (to_key p s.key) (r ∷ rest) m h in
    (lower.0, inr lower.1, lower.2, lower.3)

-- ---- agreement

passes : (a b : Bool) → (not a || b) ≡ true → a ≡ true → b ≡ true
passes true b h e = h
passes false b h e = absurd cc

-- where mentions agree, those that meet may
pub agree-may : {S : Type 0} (may : Role → Role → Bool) (ms ns : List (Mention S)) (m n : Mention S) → agree may ms ns ≡ true
    → Among m ms → Among n ns → m.path ≡ n.path → may m.role n.role ≡ true
agree-may may ms ns m n h a b e =
    passes (same_path m.path n.path) (may m.role n.role)
    (passes-among (λ k. not (same_path m.path k.path) || may m.role k.role) n ns (passes-among _ m ms h a) b)
    (subst (λ q. same_path m.path q ≡ true) e (same_path-refl m.path))
