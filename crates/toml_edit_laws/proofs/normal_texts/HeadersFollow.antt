-- The blocks of headers, one after another: none is too late.
use Rattle.std.proofs.Common.{◌≡◌, refl, sym, ap, subst, ℕ, zero, suc, ◌<◌, ◌≤◌, arith, Bool, true, false, List, [], ◌∷◌, ◌++◌}
use Rattle.std.proofs.Common.{append_assoc, length}
use Rattle.std.specs.Prelude.{◌&&◌, ◌||◌, filter, if◌then◌else◌}
use Rattle.std.specs.List.{AllByRecursion}
use Rattle.std.proofs.lemmas.Bool.{ltb-true, or_from}
use Rattle.toml_edit_model.specs.Text.{one}
use Rattle.toml_edit_model.specs.Syntax.{Segment, Header, Statement, key_line, header}
use Rattle.toml_edit_model.specs.Paths.{at_key, at_element, Path, same_step, same_path, to_key, to_element, elements_at, in_last}
use Rattle.toml_edit_model.specs.Paths.{header_path, Context, block_of, arrays_with, context_after}
use Rattle.toml_edit_model.specs.Fits.{is_below, is_after_element}
use Rattle.toml_edit_laws.proofs.common.Tests.{and_left, and_right, append-nil, false-by}
use Rattle.toml_edit_laws.proofs.common.PathLaws.{same_step-is, same_path-refl}
use Rattle.toml_edit_laws.proofs.print_of_read.Chunks.{Chunk, chunks}
use Rattle.toml_edit_laws.proofs.common.Pairs.{AllPairs}

-- ---- numbers on a path

-- each number is below the count of elements there
abbrev IsUnder : List Path → Path → Path → Type 0
IsUnder arrays p [] = Unit {0}
IsUnder arrays p (at_key k ∷ q) = IsUnder arrays (to_key p k) q
IsUnder arrays p (at_element n ∷ q) = (n < elements_at arrays p) × IsUnder arrays (to_element p n) q

-- each number is that of the last element, or the next
abbrev IsOver : List Path → Path → Path → Type 0
IsOver arrays p [] = Unit {0}
IsOver arrays p (at_key k ∷ q) = IsOver arrays (to_key p k) q
IsOver arrays p (at_element n ∷ q) = (elements_at arrays p ≤ suc n) × IsOver arrays (to_element p n) q

-- it ends in the number of the next element
abbrev EndsNew : List Path → Path → Path → Type 0
EndsNew arrays p [] = ⊥
EndsNew arrays p (at_key k ∷ q) = EndsNew arrays (to_key p k) q
EndsNew arrays p (at_element n ∷ []) = elements_at arrays p ≤ n
EndsNew arrays p (at_element n ∷ s ∷ q) = EndsNew arrays (to_element p n) (s ∷ q)

abbrev Grows : List Path → List Path → Type 0
Grows arrays more = (p : Path) → elements_at arrays p ≤ elements_at more p

under-more : (arrays more : List Path) (p q : Path) → Grows arrays more → IsUnder arrays p q → IsUnder more p q
under-more arrays more p [] g h = tt
under-more arrays more p (at_key k ∷ q) g h = under-more arrays more (to_key p k) q g h
under-more arrays more p (at_element n ∷ q) g h =
    let a : n < elements_at arrays p = h.0 in
    let b : elements_at arrays p ≤ elements_at more p = g p in
    (omega arith, under-more arrays more (to_element p n) q g h.1)

-- ---- one step more

under-key : (arrays : List Path) (p q : Path) (k : List ℕ) → IsUnder arrays p q → IsUnder arrays p (q ++ (at_key k ∷ []))
under-key arrays p [] k h = tt
under-key arrays p (at_key l ∷ q) k h = under-key arrays (to_key p l) q k h
under-key arrays p (at_element n ∷ q) k h = (h.0, under-key arrays (to_element p n) q k h.1)

over-key : (arrays : List Path) (p q : Path) (k : List ℕ) → IsOver arrays p q → IsOver arrays p (q ++ (at_key k ∷ []))
over-key arrays p [] k h = tt
over-key arrays p (at_key l ∷ q) k h = over-key arrays (to_key p l) q k h
over-key arrays p (at_element n ∷ q) k h = (h.0, over-key arrays (to_element p n) q k h.1)

under-element : (arrays : List Path) (p q : Path) (n : ℕ) → IsUnder arrays p q → n < elements_at arrays (p ++ q)
    → IsUnder arrays p (q ++ (at_element n ∷ []))
under-element arrays p [] n h g = (subst (λ r. n < elements_at arrays r) (append-nil p) g, tt)
under-element arrays p (at_key l ∷ q) n h g =
    under-element arrays (to_key p l) q n h (subst (λ r. n < elements_at arrays r) (sym (append_assoc p (one (at_key l)) q)) g)
under-element arrays p (at_element i ∷ q) n h g = (
  h.0,
  under-element arrays (to_element p i) q n h.1
      (subst (λ r. n < elements_at arrays r) (sym (append_assoc p (one (at_element i)) q)) g),
)

over-element : (arrays : List Path) (p q : Path) (n : ℕ) → IsOver arrays p q → elements_at arrays (p ++ q) ≤ suc n
    → IsOver arrays p (q ++ (at_element n ∷ []))
over-element arrays p [] n h g = (subst (λ r. elements_at arrays r ≤ suc n) (append-nil p) g, tt)
over-element arrays p (at_key l ∷ q) n h g =
    over-element arrays (to_key p l) q n h (subst (λ r. elements_at arrays r ≤ suc n) (sym (append_assoc p (one (at_key l)) q)) g)
over-element arrays p (at_element i ∷ q) n h g = (
  h.0,
  over-element arrays (to_element p i) q n h.1
      (subst (λ r. elements_at arrays r ≤ suc n) (sym (append_assoc p (one (at_element i)) q)) g),
)

ends-element : (arrays : List Path) (p q : Path) (n : ℕ) → elements_at arrays (p ++ q) ≤ n → EndsNew arrays p (q ++ (at_element n ∷ []))
ends-element arrays p [] n g = subst (λ r. elements_at arrays r ≤ n) (append-nil p) g
ends-element arrays p (at_key l ∷ q) n g =
    ends-element arrays (to_key p l) q n (subst (λ r. elements_at arrays r ≤ n) (sym (append_assoc p (one (at_key l)) q)) g)
ends-element arrays p (at_element i ∷ []) n g =
    subst (λ r. elements_at arrays r ≤ n) refl g
ends-element arrays p (at_element i ∷ t ∷ q) n g =
    ends-element arrays (to_element p i) (t ∷ q) n (subst (λ r. elements_at arrays r ≤ n)
    (sym (append_assoc p (one (at_element i)) (t ∷ q))) g)

-- ---- the path of a header

last-numbers : (arrays : List Path) (p : Path) (n : ℕ) → elements_at arrays p ≡ n → IsUnder arrays [] p × IsOver arrays [] p
    → IsUnder arrays [] (in_last n p) × IsOver arrays [] (in_last n p)
last-numbers arrays p zero e h = h
last-numbers arrays p (suc n) e h =
    (under-element arrays [] p n h.0 (omega arith), over-element arrays [] p n h.1 (omega arith))

path-numbers : (arrays : List Path) (p : Path) (ss : List Segment) → IsUnder arrays [] p × IsOver arrays [] p
    → IsUnder arrays [] (header_path arrays p ss) × IsOver arrays [] (header_path arrays p ss)
path-numbers arrays p [] h = h
path-numbers arrays p (s ∷ []) h = (under-key arrays [] p s.key h.0, over-key arrays [] p s.key h.1)
path-numbers arrays p (s ∷ r ∷ rest) h =
    let here : Path = to_key p s.key in
    path-numbers arrays (in_last (elements_at arrays here) here) (r ∷ rest)
    (last-numbers arrays here (elements_at arrays here) refl (under-key arrays [] p s.key h.0, over-key arrays [] p s.key h.1))

one-more : (arrays : List Path) (p : Path) → Grows arrays (p ∷ arrays)
one-more arrays p q = by_test (same_path q p)
  where
    by_test : (b : Bool) → elements_at arrays q ≤ length (if b then p ∷ filter (same_path q) arrays else filter (same_path q) arrays)
    by_test true = omega arith
    by_test false = omega arith

after-grows : (c : Context) (s : Statement) → Grows c.arrays (context_after c s).arrays
after-grows c (key_line f v end) p = omega arith
after-grows c (header h end) p = by_kind h.is_array
  where
    by_kind : (b : Bool) → elements_at c.arrays p ≤ elements_at (if b then header_path c.arrays [] h.path ∷ c.arrays else c.arrays) p
    by_kind true = one-more c.arrays (header_path c.arrays [] h.path) p
    by_kind false = omega arith

-- what a header's block is
record IsBlockOf (c : Context) (h : Header) : Type 0 where
  pub under : IsUnder (arrays_with c h) [] (block_of c h)
  pub over : IsOver c.arrays [] (block_of c h)
  pub ends : h.is_array ≡ true → EndsNew c.arrays [] (block_of c h)

block-numbers : (c : Context) (h : Header) → IsBlockOf c h
block-numbers c h = record { under = by_under h.is_array; over = by_over h.is_array; ends = by_ends h.is_array }
  where
    p : Path
    p = header_path c.arrays [] h.path

    n : ℕ
    n = elements_at c.arrays p

    both : IsUnder c.arrays [] p × IsOver c.arrays [] p
    both = path-numbers c.arrays [] h.path (tt, tt)

    counted : elements_at (p ∷ c.arrays) p ≡ suc n
    counted = ap (λ b. length (if b then p ∷ filter (same_path p) c.arrays else filter (same_path p) c.arrays)) (same_path-refl p)

    by_under : (b : Bool) → IsUnder (if b then p ∷ c.arrays else c.arrays) [] (if b then to_element p n else p)
    by_under true = under-element (p ∷ c.arrays) [] p n (under-more c.arrays (p ∷ c.arrays) [] p (one-more c.arrays p) both.0)
        (let e : elements_at (p ∷ c.arrays) p ≡ suc n = counted in omega arith)
    by_under false = both.0

    by_over : (b : Bool) → IsOver c.arrays [] (if b then to_element p n else p)
    by_over true = over-element c.arrays [] p n both.1 (omega arith)
    by_over false = both.1

    by_ends : (b : Bool) → b ≡ true → EndsNew c.arrays [] (if b then to_element p n else p)
    by_ends true e = ends-element c.arrays [] p n (omega arith)
    by_ends false e = absurd cc

-- ---- none is too late

after-clash : (arrays more : List Path) (p q r : Path) → Grows arrays more → IsUnder arrays p q → IsOver more p r → is_after_element q r
    ≡ true → ⊥
after-clash arrays more p [] r g h o e = cc
after-clash arrays more p (at_key k ∷ q) [] g h o e = absurd cc
after-clash arrays more p (at_key k ∷ q) (at_element m ∷ r) g h o e = absurd cc
after-clash arrays more p (at_key k ∷ q) (at_key l ∷ r) g h o e =
    let same : at_key k ≡ at_key l =
    same_step-is (at_key k) (at_key l) (and_left (same_step (at_key k) (at_key l)) (is_after_element q r) e) in
    after-clash arrays more (to_key p k) q r g h (subst (λ s. IsOver more (p ++ (s ∷ [])) r) (sym same) o)
    (and_right (same_step (at_key k) (at_key l)) (is_after_element q r) e)
after-clash arrays more p (at_element n ∷ []) [] g h o e = absurd cc
after-clash arrays more p (at_element n ∷ []) (at_key l ∷ r) g h o e = absurd cc
after-clash arrays more p (at_element n ∷ []) (at_element m ∷ r) g h o e =
    let a : n < elements_at arrays p = h.0 in
    let b : elements_at arrays p ≤ elements_at more p = g p in
    let c : elements_at more p ≤ suc m = o.0 in
    let d : m < n = ltb-true m n e in
    omega arith
after-clash arrays more p (at_element n ∷ s ∷ q) [] g h o e = absurd cc
after-clash arrays more p (at_element n ∷ s ∷ q) (at_key l ∷ r) g h o e = absurd cc
after-clash arrays more p (at_element n ∷ s ∷ q) (at_element m ∷ r) g h o e =
    let same : at_element n ≡ at_element m =
    same_step-is (at_element n) (at_element m) (and_left (same_step (at_element n) (at_element m)) (is_after_element (s ∷ q) r) e) in
    after-clash arrays more (to_element p n) (s ∷ q) r g h.1 (subst (λ t. IsOver more (p ++ (t ∷ [])) r) (sym same) o.1)
    (and_right (same_step (at_element n) (at_element m)) (is_after_element (s ∷ q) r) e)

below-clash : (arrays more : List Path) (p q r : Path) → Grows arrays more → IsUnder arrays p q → EndsNew more p r → is_below r q ≡ true → ⊥
below-clash arrays more p q [] g h o e = o
below-clash arrays more p [] (t ∷ r) g h o e = absurd cc
below-clash arrays more p (at_element n ∷ q) (at_key l ∷ r) g h o e = absurd cc
below-clash arrays more p (at_key k ∷ q) (at_element m ∷ r) g h o e = absurd cc
below-clash arrays more p (at_key k ∷ q) (at_key l ∷ r) g h o e =
    let same : at_key l ≡ at_key k = same_step-is (at_key l) (at_key k) (and_left (same_step (at_key l) (at_key k)) (is_below r q) e) in
    below-clash arrays more (to_key p k) q r g h (subst (λ s. EndsNew more (p ++ (s ∷ [])) r) same o)
    (and_right (same_step (at_key l) (at_key k)) (is_below r q) e)
below-clash arrays more p (at_element n ∷ q) (at_element m ∷ []) g h o e =
    let same : at_element m ≡ at_element n =
    same_step-is (at_element m) (at_element n) (and_left (same_step (at_element m) (at_element n)) (is_below [] q) e) in
    let is : m ≡ n = cc in
    let a : n < elements_at arrays p = h.0 in
    let b : elements_at arrays p ≤ elements_at more p = g p in
    let c : elements_at more p ≤ m = o in
    omega arith
below-clash arrays more p (at_element n ∷ q) (at_element m ∷ t ∷ r) g h o e =
    let same : at_element m ≡ at_element n =
    same_step-is (at_element m) (at_element n) (and_left (same_step (at_element m) (at_element n)) (is_below (t ∷ r) q) e) in
    below-clash arrays more (to_element p n) q (t ∷ r) g h.1 (subst (λ s. EndsNew more (p ++ (s ∷ [])) (t ∷ r)) same o)
    (and_right (same_step (at_element m) (at_element n)) (is_below (t ∷ r) q) e)

-- ---- chunks

abbrev pub is_element_header : Statement → Bool
is_element_header (key_line f v end) = false
is_element_header (header h end) = h.is_array

abbrev pub is_element_chunk : Chunk → Bool
is_element_chunk ch = is_element_header ch.head.source.statement

abbrev pub too_late : Bool → Path → Bool → Path → Bool
too_late e p f q = (f && is_below q p) || (e && is_after_element p q)

abbrev pub NotLate : Chunk → Chunk → Type 0
NotLate a b = too_late (is_element_chunk a) a.block (is_element_chunk b) b.block ≡ false

not-late : (e : Bool) (b : Path) (arrays : List Path) (c : Context) (h : Header) → IsUnder arrays [] b → Grows arrays c.arrays
    → too_late e b h.is_array (block_of c h) ≡ false
not-late e b arrays c h u g =
    let block = block-numbers c h in
    or_from (h.is_array && is_below (block_of c h) b) (e && is_after_element b (block_of c h))
    (false-by (h.is_array && is_below (block_of c h) b) (λ x.
    below-clash arrays c.arrays [] b (block_of c h) g u (block.ends (and_left h.is_array (is_below (block_of c h) b) x))
    (and_right h.is_array (is_below (block_of c h) b) x)))
    (false-by (e && is_after_element b (block_of c h)) (λ x.
    after-clash arrays c.arrays [] b (block_of c h) g u block.over (and_right e (is_after_element b (block_of c h)) x)))

later-chunks : (e : Bool) (b : Path) (arrays : List Path) (c : Context) (ss : List Statement) → IsUnder arrays [] b → Grows arrays c.arrays
    → AllByRecursion (λ ch. too_late e b (is_element_chunk ch) ch.block ≡ false) (chunks c ss)
later-chunks e b arrays c [] u g = tt
later-chunks e b arrays c (key_line f v end ∷ ss) u g = later-chunks e b arrays (context_after c (key_line f v end)) ss u g
later-chunks e b arrays c (header h end ∷ ss) u g = (
  not-late e b arrays c h u g,
  later-chunks e b arrays (context_after c (header h end)) ss u
      (λ p. let x : elements_at arrays p ≤ elements_at c.arrays p = g p in
      let y : elements_at c.arrays p ≤ elements_at (context_after c (header h end)).arrays p = after-grows c (header h end) p in
      omega arith),
)

-- Headers stand one after another, none too late.
pub chunks-follow : (c : Context) (ss : List Statement) → AllPairs NotLate (chunks c ss)
chunks-follow c [] = tt
chunks-follow c (key_line f v end ∷ ss) = chunks-follow (context_after c (key_line f v end)) ss
chunks-follow c (header h end ∷ ss) = (
  later-chunks h.is_array (block_of c h) (arrays_with c h) (context_after c (header h end)) ss (block-numbers c h).under (λ p. omega arith),
  chunks-follow (context_after c (header h end)) ss,
)
