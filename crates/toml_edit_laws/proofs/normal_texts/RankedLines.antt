-- The lines of an accepted document and the pairs of an inline table, put in order, are ranked one before another.
use Rattle.std.proofs.Common.{◌≡◌, refl, sym, ◌∙◌, ap, subst, ℕ, suc, ◌<◌, true, arith, List, [], ◌∷◌, ◌++◌, length, inl, inr}
use Rattle.std.specs.Prelude.{AllPairs, slice_index_or}
use Rattle.std.specs.List.{AllByRecursion}
use Rattle.std.specs.List.Sorted.{IsPermutation}
use Rattle.std.proofs.lemmas.Bool.{cases_Bool, ltb-true}
use Rattle.std.proofs.lemmas.List.Elements.{All-from_recursion}
use Rattle.std.proofs.lemmas.List.Kept.{AllPairs-cons}
use Rattle.std.proofs.lemmas.List.Sorted.{IsPermutation-sym, Contains-permutation}
use Rattle.toml_edit_model.specs.Syntax.{Document, IsDocument}
use Rattle.toml_edit_model.specs.Paths.{Path, same_path, Mention, Placed, placed, pair_mentions}
use Rattle.toml_edit_model.specs.Accepted.{is_accepted}
use Rattle.toml_edit_model.specs.Kept.{rank}
use Rattle.toml_edit_model.specs.Normal.{pair_before, line_before, ordered}
use Rattle.toml_edit_model.specs.Order.{sorted_by}
use Rattle.toml_edit_model.specs.Roles.{may_meet_inline}
use Rattle.toml_edit_laws.specs.InOrder.{IsRankedBefore, GoesBefore, IsOnlyOrder, LinesInOrder, PairsInOrder}
use Rattle.toml_edit_laws.proofs.common.InOrder.{kept-lines, kept-sorted}
use Rattle.toml_edit_laws.proofs.common.Members.{Among, all-among, from-contained, to-contained}
use Rattle.toml_edit_laws.proofs.common.PathLaws.{same_path-is}
use Rattle.toml_edit_laws.proofs.common.Pairs.{AllPairs as PairsByRecursion, pairs-map}
use Rattle.toml_edit_laws.proofs.mentions.Placed.{mention_lists}
use Rattle.toml_edit_laws.proofs.normal_texts.Agreeing.{all_agree-pairs}
use Rattle.toml_edit_laws.proofs.normal_texts.LineOrder.{lines_ordered, ranked, Before, in-order}
use Rattle.toml_edit_laws.proofs.normal_texts.LinePaths.{strict}
use Rattle.toml_edit_laws.proofs.normal_texts.NormalSettled.{are-placed}
use Rattle.toml_edit_laws.proofs.normal_texts.OrderedPairs.{mentions-of}
use Rattle.toml_edit_laws.proofs.normal_texts.PlacedLines.{lined_at, block_at, told_at, base_at, keys_told, ordered-lines, line-test}
use Rattle.toml_edit_laws.proofs.normal_texts.PlacedLines.{paths-mentions, text-at}
use Rattle.toml_edit_laws.proofs.normal_texts.SettledValues.{paths, place_of, rank-is, Told, a_line, one_block, no_base, keys_in, Framed}
use Rattle.toml_edit_laws.proofs.normal_texts.SettledValues.{each-framed, sorted-lines, text-of, pair-test}

-- ---- each two

from-recursion : {A : Type 0} (R : A → A → Type 0) (xs : List A) → PairsByRecursion R xs → AllPairs R xs
from-recursion R [] h = λ i j d less within. absurd (let none : j < 0 = within in omega arith)
from-recursion R (x ∷ xs) h = AllPairs-cons R x xs (All-from_recursion (R x) xs h.0) (from-recursion R xs h.1)

each-to : {A : Type 0} (P : A → Type 0) (xs : List A) → ((j : ℕ) (d : A) → j < length xs → P (slice_index_or xs j d)) → AllByRecursion P xs
each-to P [] f = tt
each-to P (x ∷ xs) f = (f 0 x (omega arith), each-to P xs (λ j d within. f (suc j) d (omega arith)))

to-recursion : {A : Type 0} (R : A → A → Type 0) (xs : List A) → AllPairs R xs → PairsByRecursion R xs
to-recursion R [] h = tt
to-recursion R (x ∷ xs) h = (
  each-to (R x) xs (λ j d within. h 0 (suc j) d (omega arith) (omega arith)),
  to-recursion R xs (λ i j d less within. h (suc i) (suc j) d (omega arith) (omega arith)),
)

-- ---- one order

module _ {A : Type 0} (R : A → A → Type 0) (one_way : (x y : A) → R x y → R y x → ⊥) where
  -- the others of a list, in the others of one with the same elements
  rest-among : (x : A) (xs ys : List A) → AllByRecursion (R x) xs → ((a : A) → Among a (x ∷ xs) → Among a (x ∷ ys)) → (a : A) → Among a xs
      → Among a ys
  rest-among x xs ys h into a m =
      elim (into a (inr m)) [
        | inl e ↦ (let itself : R x x = subst (R x) e (all-among (R x) a xs h m) in absurd (one_way x x itself itself))
        | inr n ↦ n
      ]

  same-order : (xs ys : List A) → PairsByRecursion R xs → PairsByRecursion R ys → ((a : A) → Among a xs → Among a ys)
      → ((a : A) → Among a ys → Among a xs)
      → xs ≡ ys
  same-order [] [] h g into back = refl
  same-order [] (y ∷ ys) h g into back = absurd (back y (inl refl))
  same-order (x ∷ xs) [] h g into back = absurd (into x (inl refl))
  same-order (x ∷ xs) (y ∷ ys) h g into back =
      let first : x ≡ y =
      elim (into x (inl refl)) [
        | inl e ↦ e
        | inr m ↦ elim (back y (inl refl)) [
          | inl e ↦ sym e
          | inr n ↦ absurd (one_way x y (all-among (R x) y xs h.0 n) (all-among (R y) x ys g.0 m))
        ]
      ] in
      let go : (a : A) → Among a (x ∷ xs) → Among a (x ∷ ys) = λ a m. subst (λ z. Among a (z ∷ ys)) (sym first) (into a m) in
      let come : (a : A) → Among a (x ∷ ys) → Among a (x ∷ xs) = λ a m. back a (subst (λ z. Among a (z ∷ ys)) first m) in
      ap (λ z. z ∷ xs) first
      ∙ ap (λ zs. y ∷ zs)
      (same-order xs ys h.1 g.1 (rest-among x xs ys h.0 go)
      (rest-among x ys xs (subst (λ z. AllByRecursion (R z) ys) (sym first) g.0) come))

  moved : (xs ys : List A) → IsPermutation xs ys → (a : A) → Among a xs → Among a ys
  moved xs ys p a m = from-contained a ys (Contains-permutation xs ys a p (to-contained a xs m))

  only-order : (xs ys : List A) → IsPermutation xs ys → PairsByRecursion R ys → IsOnlyOrder R xs ys
  only-order xs ys p h =
      record {
        permutation = p;
        sorted = from-recursion R ys h;
        only =
            λ zs q g.
            same-order zs ys (to-recursion R zs g) h (λ a m. moved xs ys p a (moved zs xs (IsPermutation-sym xs zs q) a m))
            (λ a m. moved xs zs q a (moved ys xs (IsPermutation-sym xs ys p) a m));
      }

-- ---- where two part

ranked-before : {S : Type 0} (r u : Path → ℕ) → ((q : Path) → u q ≡ r q) → (ms ns : List (Mention S))
    → strict r (paths ms) (paths ns) ≡ true → IsRankedBefore u ms ns
ranked-before r u same [] ns h = absurd cc
ranked-before r u same (m ∷ ms) [] h = absurd cc
ranked-before r u same (m ∷ ms) (n ∷ ns) h =
    elim (cases_Bool (same_path m.path n.path)) [
      | inl e ↦
          let rest = ranked-before r u same ms ns (let f = rw e at h in f) in
          record {
            shared = m.path ∷ rest.shared;
            path = rest.path;
            other = rest.other;
            behind_path = rest.behind_path;
            behind_other = rest.behind_other;
            earlier_is = ap (λ ps. m.path ∷ ps) rest.earlier_is;
            later_is =
                ap (λ ps. n.path ∷ ps) rest.later_is
                ∙ ap (λ p. p ∷ (rest.shared ++ (rest.other ∷ rest.behind_other))) (sym (same_path-is m.path n.path e));
            less = rest.less;
          }
      | inr e ↦
          let first : r m.path < r n.path = ltb-true (r m.path) (r n.path) (let f = rw e at h in f) in
          record {
            shared = [];
            path = m.path;
            other = n.path;
            behind_path = paths ms;
            behind_other = paths ns;
            earlier_is = refl;
            later_is = refl;
            less = subst (λ a. a < u n.path) (sym (same m.path)) (subst (λ b. r m.path < b) (sym (same n.path)) first);
          }
    ]

-- neither goes before the other where each does
parts-clash : (u : Path → ℕ) (s t : List Path) (p o i j : Path) (ps os is js : List Path) → s ++ (p ∷ ps) ≡ t ++ (j ∷ js) → s ++ (o ∷ os)
    ≡ t ++ (i ∷ is)
    → u p < u o → u i < u j → ⊥
parts-clash u [] [] p o i j ps os is js e f h g =
    let a : u p ≡ u j = (let same : p ≡ j = cc in ap u same) in
    let b : u o ≡ u i = (let same : o ≡ i = cc in ap u same) in
    omega arith
parts-clash u [] (q ∷ t) p o i j ps os is js e f h g =
    let a : u p ≡ u q = (let same : p ≡ q = cc in ap u same) in
    let b : u o ≡ u q = (let same : o ≡ q = cc in ap u same) in
    omega arith
parts-clash u (q ∷ s) [] p o i j ps os is js e f h g =
    let a : u q ≡ u j = (let same : q ≡ j = cc in ap u same) in
    let b : u q ≡ u i = (let same : q ≡ i = cc in ap u same) in
    omega arith
parts-clash u (q ∷ s) (r ∷ t) p o i j ps os is js e f h g =
    let rest : s ++ (p ∷ ps) ≡ t ++ (j ∷ js) = cc in
    let more : s ++ (o ∷ os) ≡ t ++ (i ∷ is) = cc in
    parts-clash u s t p o i j ps os is js rest more h g

ranked-one-way : {S : Type 0} (u : Path → ℕ) (ms ns : List (Mention S)) → IsRankedBefore u ms ns → IsRankedBefore u ns ms → ⊥
ranked-one-way u ms ns h g =
    parts-clash u h.shared g.shared h.path h.other g.path g.other h.behind_path h.behind_other g.behind_path g.behind_other
    (sym h.earlier_is ∙ g.later_is) (sym h.later_is ∙ g.earlier_is) h.less g.less

-- ---- lines

goes-one-way : (u : Path → ℕ) (x y : Placed) → GoesBefore u x y → GoesBefore u y x → ⊥
goes-one-way u x y (inl a) (inl b) = omega arith
goes-one-way u x y (inl a) (inr b) = (let e : y.source.headers ≡ x.source.headers = b.0 in omega arith)
goes-one-way u x y (inr a) (inl b) = (let e : x.source.headers ≡ y.source.headers = a.0 in omega arith)
goes-one-way u x y (inr a) (inr b) = ranked-one-way u x.mentions y.mentions (a.2 b.1) (b.2 a.1)

rank-of-places : (places : List Placed) (q : Path) → rank (mention_lists places) q
    ≡ ranked lined_at block_at told_at base_at keys_told places q
rank-of-places places q = rank-is (mention_lists places) q ∙ ap (λ ps. place_of ps q) (paths-mentions places)

goes-before : (places : List Placed) (x y : Placed)
    → Before lined_at block_at told_at base_at keys_told (ranked lined_at block_at told_at base_at keys_told places) x y
    → GoesBefore (rank (mention_lists places)) x y
goes-before places x y (inl a) = inl a
goes-before places x y (inr a) =
    inr (
      a.0,
      a.1,
      λ l.
          ranked-before (ranked lined_at block_at told_at base_at keys_told places) (rank (mention_lists places)) (rank-of-places places)
          x.mentions y.mentions (a.2 l),
    )

lines-ranked : (d : Document) → IsDocument d → is_accepted d ≡ true
    → PairsByRecursion (GoesBefore (rank (mention_lists (placed d)))) (ordered (mention_lists (placed d)) (placed d))
lines-ranked d h g =
    let places : List Placed = placed d in
    let mss = mention_lists places in
    let old = are-placed d h g in
    let each = in-order lined_at block_at told_at base_at keys_told (line_before mss) places (line-test mss places refl)
    (text-at places old.run old.right old.agree) in
    subst (PairsByRecursion (GoesBefore (rank mss))) (sym (ordered-lines mss places))
    (pairs-map (Before lined_at block_at told_at base_at keys_told (ranked lined_at block_at told_at base_at keys_told places))
    (GoesBefore (rank mss)) (lines_ordered lined_at (line_before mss) places) (goes-before places) each)

pub lines-in-order : LinesInOrder
lines-in-order =
    record {
      permutation = kept-lines;
      sorted =
          λ d h g.
          let mss = mention_lists (placed d) in
          only-order (GoesBefore (rank mss)) (goes-one-way (rank mss)) (placed d) (ordered mss (placed d)) (kept-lines mss (placed d))
          (lines-ranked d h g);
    }

-- ---- pairs

pair-ranked : (mss : List Told) (m n : Told)
    → Before a_line one_block paths no_base keys_in (ranked a_line one_block paths no_base keys_in mss) m n → IsRankedBefore (rank mss) m n
pair-ranked mss m n (inl a) = absurd (omega arith)
pair-ranked mss m n (inr a) = ranked-before (ranked a_line one_block paths no_base keys_in mss) (rank mss) (rank-is mss) m n (a.2 refl)

pub pairs-in-order : PairsInOrder
pairs-in-order =
    record {
      permutation = λ mss. kept-sorted (pair_before mss) mss;
      sorted =
          λ ps h g.
          let mss : List Told = pair_mentions 0 ps in
          let test = pair_before mss in
          let text = text-of mss (mentions-of Framed 0 0 ps h (each-framed ps h)) (all_agree-pairs may_meet_inline mss g) in
          only-order (IsRankedBefore (rank mss)) (ranked-one-way (rank mss)) mss (sorted_by test mss) (kept-sorted test mss)
          (subst (PairsByRecursion (IsRankedBefore (rank mss))) (sym (sorted-lines test mss))
          (pairs-map (Before a_line one_block paths no_base keys_in (ranked a_line one_block paths no_base keys_in mss))
          (IsRankedBefore (rank mss))
          (lines_ordered a_line test mss) (pair-ranked mss) (in-order a_line one_block paths no_base keys_in test mss
          (pair-test mss mss refl) text)));
    }
