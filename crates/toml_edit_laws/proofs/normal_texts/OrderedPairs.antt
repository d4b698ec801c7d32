-- What holds of the pairs of an inline table holds of its ordered pairs, whose mentions say the same.
use Rattle.std.proofs.Common.{◌≡◌, refl, sym, ◌∙◌, ap, subst, ℕ, suc, ◌+◌, Bool, true, false, List, [], ◌∷◌, length, Some, inl, inr}
use Rattle.std.specs.Prelude.{map, flat_map}
use Rattle.std.specs.List.{AllByRecursion}
use Rattle.std.proofs.lemmas.Bool.{cases_Bool}
use Rattle.toml_edit_model.specs.Text.{is_empty}
use Rattle.toml_edit_model.specs.Syntax.{Frame, Value, Pairs, no_pairs, pair, value_text, frame_text, begins_unspaced, has_pairs, ArePairs}
use Rattle.toml_edit_model.specs.Paths.{Mention, PairSource, line_mentions, pair_mentions}
use Rattle.toml_edit_model.specs.Accepted.{agree}
use Rattle.toml_edit_model.specs.Normal.{pair_before, kept_pair, some_of, pairs_of, ordered_pairs}
use Rattle.toml_edit_laws.proofs.common.OrderLaws.{all-sorted}
use Rattle.toml_edit_laws.proofs.normal_texts.SettledStays.{own-line, kept-pair}
use Rattle.toml_edit_laws.proofs.normal_texts.Cores.{line-cores, AreKeyed, IsKeyed, line-keyed, kept-path-keys}
use Rattle.toml_edit_laws.proofs.normal_texts.Agreeing.{agree-alike}
use Rattle.toml_edit_laws.proofs.common.Cores.{cores, keys_of_segments, line_cores}
use Rattle.toml_edit_laws.proofs.common.Pairs.{AllPairs}
use Rattle.toml_edit_laws.proofs.common.Each.{all-append}
use Rattle.toml_edit_model.specs.Order.{insert_by, sorted_by}
use Rattle.toml_edit_model.specs.Roles.{Role}
use Rattle.toml_edit_model.specs.Kept.{kept_path}

-- ---- each pair

abbrev pub EachPair : (Frame → Value → Type 0) → Pairs → Type 0
EachPair R no_pairs = Unit {0}
EachPair R (pair f v ps) = R f v × EachPair R ps

abbrev pub source_at : ℕ → Frame → Value → PairSource
source_at n f v = record { frame = f; value = v }

-- these are the mentions of a pair, of which this holds
abbrev pub IsMentionOf : (Frame → Value → Type 0) → List (Mention PairSource) → Type 0
IsMentionOf Q ms =
    (f : Frame) × (v : Value) × (n : ℕ) × (start : ℕ) × (ms ≡ line_mentions (source_at n f v) start [] f.path)
    × (begins_unspaced f.path ≡ true) × Q f v

pub mentions-of : (Q : Frame → Value → Type 0) (start number : ℕ) (ps : Pairs) → ArePairs ps → EachPair Q ps
    → AllByRecursion (IsMentionOf Q) (pair_mentions start ps)
mentions-of Q start number no_pairs h g = tt
mentions-of Q start number (pair f v ps) h g = (
  (f, v, number, start + length f.leading, refl, h.0.1.begins, g.0),
  mentions-of Q (start + length (frame_text f (value_text v)) + 1) (suc number) ps h.2 g.1,
)

-- the pair of such mentions, spelled as its kept keys
abbrev pub spelled : List (Mention PairSource) → ℕ → ℕ → Frame → Value → Frame
spelled all n start f v = record f { path = kept_path all (line_mentions (source_at n f v) start [] f.path) }

pub kept-each : (Q R : Frame → Value → Type 0) (all : List (Mention PairSource))
    → ((f : Frame) (v : Value) (n start : ℕ) → begins_unspaced f.path ≡ true → Q f v → R (spelled all n start f v) v)
    → (mss : List (List (Mention PairSource))) → AllByRecursion (IsMentionOf Q) mss
    → EachPair R (pairs_of (some_of (map (kept_pair all) mss)))
kept-each Q R all h [] g = tt
kept-each Q R all h (ms ∷ mss) g =
    let f : Frame = g.0.0 in
    let v : Value = g.0.1 in
    let is : kept_pair all ms ≡ Some (spelled all g.0.2 g.0.3 f v, v) =
    ap (kept_pair all) g.0.4 ∙ kept-pair all (source_at g.0.2 f v) g.0.3 [] f.path g.0.5 in
    subst (λ o. EachPair R (pairs_of (some_of (o ∷ map (kept_pair all) mss)))) (sym is)
    (h f v g.0.2 g.0.3 g.0.5 g.0.6, kept-each Q R all h mss g.1)

-- What holds of each pair, spelled anew, holds of each ordered pair.
pub ordered-each : (Q R : Frame → Value → Type 0) (ps : Pairs) → ArePairs ps
    → ((f : Frame) (v : Value) (n start : ℕ) → begins_unspaced f.path ≡ true → Q f v
    → R (spelled (flat_map (λ ms. ms) (pair_mentions 0 ps)) n start f v) v)
    → EachPair Q ps → EachPair R (ordered_pairs ps)
ordered-each Q R ps h f g =
    let mss : List (List (Mention PairSource)) = pair_mentions 0 ps in
    kept-each Q R (flat_map (λ ms. ms) mss) f (sorted_by (pair_before mss) mss)
    (all-sorted (IsMentionOf Q) (pair_before mss) mss (mentions-of Q 0 0 ps h g))

-- ---- what the ordered pairs mention

pub mentions-keyed : (start number : ℕ) (ps : Pairs) → AreKeyed (flat_map (λ ms. ms) (pair_mentions start ps))
mentions-keyed start number no_pairs = tt
mentions-keyed start number (pair f v ps) =
    all-append IsKeyed (line_mentions (source_at number f v) (start + length f.leading) [] f.path)
    (flat_map (λ ms. ms) (pair_mentions (start + length (frame_text f (value_text v)) + 1) ps))
    (line-keyed (source_at number f v) (start + length f.leading) [] f.path)
    (mentions-keyed (start + length (frame_text f (value_text v)) + 1) (suc number) ps)

-- these mentions and those are of one pair each: what is said there and how it is spelled
abbrev pub AreSpelled : List (Mention PairSource) → List (List (Mention PairSource)) → List (List (Mention PairSource)) → Type 0
AreSpelled all [] [] = Unit {0}
AreSpelled all [] (n ∷ ns) = ⊥
AreSpelled all (m ∷ ms) [] = ⊥
AreSpelled all (m ∷ ms) (n ∷ ns) = ((cores n ≡ cores m) × (map (λ x. x.segment) n ≡ kept_path all m)) × AreSpelled all ms ns

spelled-from : (Q : Frame → Value → Type 0) (all : List (Mention PairSource)) (start number : ℕ) (mss : List (List (Mention PairSource)))
    → AreKeyed all
    → AllByRecursion (IsMentionOf Q) mss → AreSpelled all mss (pair_mentions start (pairs_of (some_of (map (kept_pair all) mss))))
spelled-from Q all start number [] k g = tt
spelled-from Q all start number (ms ∷ mss) k g =
    let f : Frame = g.0.0 in
    let v : Value = g.0.1 in
    let own : List (Mention PairSource) = line_mentions (source_at g.0.2 f v) g.0.3 [] f.path in
    let to : Frame = spelled all g.0.2 g.0.3 f v in
    let is : kept_pair all ms ≡ Some (to, v) = ap (kept_pair all) g.0.4 ∙ kept-pair all (source_at g.0.2 f v) g.0.3 [] f.path g.0.5 in
    let same : keys_of_segments to.path ≡ keys_of_segments f.path =
    kept-path-keys all own k (line-keyed (source_at g.0.2 f v) g.0.3 [] f.path)
    ∙ ap keys_of_segments (own-line (source_at g.0.2 f v) g.0.3 [] f.path) in
    let said : cores (line_mentions (source_at number to v) (start + length to.leading) [] to.path) ≡ cores ms =
    line-cores (source_at number to v) (start + length to.leading) [] to.path ∙ ap (line_cores []) same
    ∙ sym (line-cores (source_at g.0.2 f v) g.0.3 [] f.path) ∙ ap cores (sym g.0.4) in
    let shown : map (λ x. x.segment) (line_mentions (source_at number to v) (start + length to.leading) [] to.path) ≡ kept_path all ms =
    own-line (source_at number to v) (start + length to.leading) [] to.path ∙ ap (kept_path all) (sym g.0.4) in
    subst (λ o. AreSpelled all (ms ∷ mss) (pair_mentions start (pairs_of (some_of (o ∷ map (kept_pair all) mss))))) (sym is)
    ((said, shown), spelled-from Q all (start + length (frame_text to (value_text v)) + 1) (suc number) mss k g.1)

-- The mentions of the ordered pairs say what those of the pairs in order do, spelled as their kept keys.
pub ordered-spelled : (ps : Pairs) → ArePairs ps
    → AreSpelled (flat_map (λ ms. ms) (pair_mentions 0 ps)) (sorted_by (pair_before (pair_mentions 0 ps)) (pair_mentions 0 ps))
    (pair_mentions 0 (ordered_pairs ps))
ordered-spelled ps h =
    let mss : List (List (Mention PairSource)) = pair_mentions 0 ps in
    spelled-from (λ f v. Unit {0}) (flat_map (λ ms. ms) mss) 0 0 (sorted_by (pair_before mss) mss) (mentions-keyed 0 0 ps)
    (all-sorted (IsMentionOf (λ f v. Unit {0})) (pair_before mss) mss (mentions-of (λ f v. Unit {0}) 0 0 ps h (each ps)))
  where
    each : (qs : Pairs) → EachPair (λ f v. Unit {0}) qs
    each no_pairs = tt
    each (pair f v qs) = (tt, each qs)

-- ---- pairs are there where they were

is_empty-insert : {A : Type 0} (before : A → A → Bool) (a : A) (xs : List A) → is_empty (insert_by before a xs) ≡ false
is_empty-insert before a [] = refl
is_empty-insert before a (x ∷ xs) = elim (cases_Bool (before a x)) [ inl e ↦ rw e refl | inr e ↦ rw e refl ]

pub has-ordered : (ps : Pairs) → ArePairs ps → has_pairs (ordered_pairs ps) ≡ has_pairs ps
has-ordered no_pairs h = refl
has-ordered (pair f v ps) h =
    let mss : List (List (Mention PairSource)) = pair_mentions 0 (pair f v ps) in
    some-left (flat_map (λ ms. ms) mss) (sorted_by (pair_before mss) mss) (pair_mentions 0 (ordered_pairs (pair f v ps)))
    (ordered_pairs (pair f v ps))
    (is_empty-insert (pair_before mss) (line_mentions (source_at 0 f v) (0 + length f.leading) [] f.path)
    (sorted_by (pair_before mss) (pair_mentions (0 + length (frame_text f (value_text v)) + 1) ps)))
    refl (ordered-spelled (pair f v ps) h)
  where
    some-left : (all : List (Mention PairSource)) (ms ns : List (List (Mention PairSource))) (qs : Pairs) → is_empty ms ≡ false → ns
        ≡ pair_mentions 0 qs → AreSpelled all ms ns → has_pairs qs ≡ true
    some-left all [] ns qs e is g = absurd cc
    some-left all (m ∷ ms) [] qs e is g = absurd g
    some-left all (m ∷ ms) (n ∷ ns) no_pairs e is g = absurd cc
    some-left all (m ∷ ms) (n ∷ ns) (pair a b qs) e is g = refl

-- ---- agreement

pub spelled-agree : (may : Role → Role → Bool) (all : List (Mention PairSource)) (ms ns : List (List (Mention PairSource)))
    → AreSpelled all ms ns
    → AllPairs (λ a b. agree may a b ≡ true) ms → AllPairs (λ a b. agree may a b ≡ true) ns
spelled-agree may all [] [] h g = tt
spelled-agree may all [] (n ∷ ns) h g = absurd h
spelled-agree may all (m ∷ ms) [] h g = absurd h
spelled-agree may all (m ∷ ms) (n ∷ ns) h g = (each ms ns h.1 g.0, spelled-agree may all ms ns h.1 g.1)
  where
    each : (xs ys : List (List (Mention PairSource))) → AreSpelled all xs ys → AllByRecursion (λ x. agree may m x ≡ true) xs
        → AllByRecursion (λ y. agree may n y ≡ true) ys
    each [] [] a b = tt
    each [] (y ∷ ys) a b = absurd a
    each (x ∷ xs) [] a b = absurd a
    each (x ∷ xs) (y ∷ ys) a b = (agree-alike may m x n y h.0.0 a.0.0 ∙ b.0, each xs ys a.1 b.1)
