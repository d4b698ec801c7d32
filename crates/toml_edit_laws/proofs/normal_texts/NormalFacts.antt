-- The normal form of an accepted cut means the same.
use Rattle.std.proofs.Common.{◌≡◌, refl, sym, ◌∙◌, ap, subst, ℕ, suc, ◌+◌, Bool, true, false, List, [], ◌∷◌, ◌++◌, length, inl, inr}
use Rattle.std.specs.Prelude.{◌⊎◌, ◌&&◌, Contains, nat_le, map, flat_map, if◌then◌else◌}
use Rattle.std.specs.List.{AllByRecursion}
use Rattle.std.proofs.lemmas.Bool.{cases_Bool}
use Rattle.std.proofs.lemmas.List.Elements.{Contains-append_left, Contains-append_right, Contains-append_cases}
use Rattle.toml_edit_model.specs.Mode.{Mode, plain, exact}
use Rattle.toml_edit_model.specs.Text.{Text}
use Rattle.toml_edit_model.specs.Syntax.{begins_unspaced, keeps_limits, is_short, depth, nesting_limit, has_short_keys}
use Rattle.toml_edit_model.specs.Syntax.{elements_have_short_keys, pairs_have_short_keys, keeps_ranges, elements_keep_ranges}
use Rattle.toml_edit_model.specs.Syntax.{pairs_keep_ranges, Segment, Frame, Value, scalar, array, inline_table, Elements, no_elements}
use Rattle.toml_edit_model.specs.Syntax.{element, Pairs, no_pairs, pair, Statement, key_line, header, Document, open_statements, value_text}
use Rattle.toml_edit_model.specs.Syntax.{frame_text, IsValue, AreElements, ArePairs, IsDocument}
use Rattle.toml_edit_model.specs.Paths.{Path, to_key, to_element, Mention, PairSource, Source, Placed, Context, line_mentions}
use Rattle.toml_edit_model.specs.Paths.{pair_mentions, elements_at, header_path, path_start, source_of, mentions_of, context_after}
use Rattle.toml_edit_model.specs.Paths.{placed_from, placed, start_context}
use Rattle.toml_edit_model.specs.Accepted.{is_accepted, is_sound, all_agree, has_agreeing_pairs, elements_have_agreeing_pairs}
use Rattle.toml_edit_model.specs.Accepted.{pairs_have_agreeing_pairs}
use Rattle.toml_edit_model.specs.Meaning.{Fact, fact, a_table, an_array, SameFacts, below_keys, value_facts, elements_facts, pairs_facts}
use Rattle.toml_edit_model.specs.Meaning.{tables_along, element_header_facts, statement_facts, facts_from, meaning}
use Rattle.toml_edit_model.specs.Normal.{pair_before, kept_pair, some_of, pairs_of, ordered_pairs, is_line, line_before, ordered}
use Rattle.toml_edit_model.specs.Normal.{normal_value, normal_elements, normal_pairs, has_open_end, normal_last, normal_statement}
use Rattle.toml_edit_model.specs.Normal.{normal_in}
use Rattle.toml_edit_laws.proofs.common.Tests.{and_left, and_right}
use Rattle.toml_edit_laws.proofs.common.OrderLaws.{all-sorted}
use Rattle.toml_edit_laws.proofs.normal_texts.SettledStays.{own-line, IsAny}
use Rattle.toml_edit_laws.proofs.normal_texts.Cores.{AreKeyed, line-keyed, statement-keyed, kept-path-keys}
use Rattle.toml_edit_laws.proofs.normal_texts.Runs.{Run, AreAlike, normal-place, not-before}
use Rattle.toml_edit_laws.proofs.normal_texts.OrderedPairs.{source_at, mentions-keyed}
use Rattle.toml_edit_laws.proofs.normal_texts.RightValues.{normal-pairs-right}
use Rattle.toml_edit_laws.proofs.normal_texts.NormalAccepted.{IsRightPlace, known, all_in, in_order}
use Rattle.toml_edit_laws.proofs.common.Cores.{keys_of_segments}
use Rattle.toml_edit_laws.proofs.mentions.Placed.{placed_at, source-statement}
use Rattle.toml_edit_laws.proofs.mentions.Placed.{mention_lists}
use Rattle.toml_edit_laws.proofs.common.Each.{all-map}
use Rattle.toml_edit_laws.proofs.accepted_prints.OpenEnds.{facts-open}
use Rattle.toml_edit_model.specs.Order.{insert_by, sorted_by}
use Rattle.toml_edit_model.specs.Roles.{may_meet_inline}
use Rattle.toml_edit_model.specs.Settled.{own_path}
use Rattle.toml_edit_model.specs.Kept.{kept_path}

-- ---- the same facts

same_facts-refl : (fs : List Fact) → SameFacts fs fs
same_facts-refl fs f = (λ h. h, λ h. h)

same_facts-append : (fs gs hs ks : List Fact) → SameFacts fs gs → SameFacts hs ks → SameFacts (fs ++ hs) (gs ++ ks)
same_facts-append fs gs hs ks first second f = (
  λ h. either gs ks (λ c. (first f).0 c) (λ c. (second f).0 c) (Contains-append_cases fs hs f h),
  λ h. either fs hs (λ c. (first f).1 c) (λ c. (second f).1 c) (Contains-append_cases gs ks f h),
)
  where
    either : {A B : Type 0} (xs ys : List Fact) → (A → Contains xs f) → (B → Contains ys f) → A ⊎ B → Contains (xs ++ ys) f
    either xs ys a b (inl x) = Contains-append_left xs ys f (a x)
    either xs ys a b (inr y) = Contains-append_right xs ys f (b y)

pub same-through : (fs gs hs : List Fact) → SameFacts fs gs → SameFacts gs hs → SameFacts fs hs
same-through fs gs hs h g f = (λ c. (g f).0 ((h f).0 c), λ c. (h f).1 ((g f).1 c))

pub same-is : (fs gs : List Fact) → fs ≡ gs → SameFacts fs gs
same-is fs gs e = subst (SameFacts fs) e (same_facts-refl fs)

same-after : (fs gs hs : List Fact) → SameFacts gs hs → SameFacts (fs ++ gs) (fs ++ hs)
same-after fs gs hs h = same_facts-append fs fs gs hs (same_facts-refl fs) h

-- two parts change places
same-swap : (fs gs hs : List Fact) → SameFacts (fs ++ (gs ++ hs)) (gs ++ (fs ++ hs))
same-swap fs gs hs f = (swap fs gs hs f, swap gs fs hs f)
  where
    swap : (xs ys zs : List Fact) (f : Fact) → Contains (xs ++ (ys ++ zs)) f → Contains (ys ++ (xs ++ zs)) f
    swap xs ys zs f c =
        elim (Contains-append_cases xs (ys ++ zs) f c) [
          | inl a ↦ Contains-append_right ys (xs ++ zs) f (Contains-append_left xs zs f a)
          | inr b ↦
              elim (Contains-append_cases ys zs f b) [
                | inl a ↦ Contains-append_left ys (xs ++ zs) f a
                | inr a ↦ Contains-append_right ys (xs ++ zs) f (Contains-append_right xs zs f a)
              ]
        ]

-- ---- keys

abbrev below : Path → List Text → (Path → List Fact) → List Fact
below p [] last = last p
below p (k ∷ []) last = last (to_key p k)
below p (k ∷ l ∷ rest) last = fact (to_key p k) a_table ∷ below (to_key p k) (l ∷ rest) last

below-is : (p : Path) (ss : List Segment) (last : Path → List Fact) → below_keys p ss last ≡ below p (keys_of_segments ss) last
below-is p [] last = refl
below-is p (s ∷ []) last = refl
below-is p (s ∷ r ∷ rest) last = ap (λ fs. fact (to_key p s.key) a_table ∷ fs) (below-is (to_key p s.key) (r ∷ rest) last)

below-alike : (p : Path) (ss rs : List Segment) (last : Path → List Fact) → keys_of_segments ss ≡ keys_of_segments rs → below_keys p ss last
    ≡ below_keys p rs last
below-alike p ss rs last e = below-is p ss last ∙ ap (λ ks. below p ks last) e ∙ sym (below-is p rs last)

below-same : (p : Path) (ss : List Segment) (one other : Path → List Fact) → ((q : Path) → SameFacts (one q) (other q))
    → SameFacts (below_keys p ss one) (below_keys p ss other)
below-same p [] one other h = h p
below-same p (s ∷ []) one other h = h (to_key p s.key)
below-same p (s ∷ r ∷ rest) one other h =
    same-after (fact (to_key p s.key) a_table ∷ []) (below_keys (to_key p s.key) (r ∷ rest) one) (below_keys (to_key p s.key) (r
    ∷ rest) other)
    (below-same (to_key p s.key) (r ∷ rest) one other h)

-- ---- lists in another order

insert-facts : {A : Type 0} (f : A → List Fact) (before : A → A → Bool) (a : A) (xs : List A)
    → SameFacts (flat_map f (insert_by before a xs)) (f a ++ flat_map f xs)
insert-facts f before a [] = same_facts-refl (f a ++ [])
insert-facts f before a (x ∷ xs) =
    elim (cases_Bool (before a x)) [
      | inl e ↦ rw e (same_facts-refl (f a ++ (f x ++ flat_map f xs)))
      | inr e ↦
          rw e
          (same-through (f x ++ flat_map f (insert_by before a xs)) (f x ++ (f a ++ flat_map f xs)) (f a ++ (f x ++ flat_map f xs))
          (same-after (f x) (flat_map f (insert_by before a xs)) (f a ++ flat_map f xs) (insert-facts f before a xs))
          (same-swap (f x) (f a) (flat_map f xs)))
    ]

sorted-facts : {A : Type 0} (f : A → List Fact) (before : A → A → Bool) (xs : List A)
    → SameFacts (flat_map f (sorted_by before xs)) (flat_map f xs)
sorted-facts f before [] = same_facts-refl []
sorted-facts f before (x ∷ xs) =
    same-through (flat_map f (insert_by before x (sorted_by before xs))) (f x ++ flat_map f (sorted_by before xs)) (f x ++ flat_map f xs)
    (insert-facts f before x (sorted_by before xs))
    (same-after (f x) (flat_map f (sorted_by before xs)) (flat_map f xs) (sorted-facts f before xs))

-- ---- values

-- the facts of a pair, by its mentions
abbrev mention_facts : Path → List (Mention PairSource) → List Fact
mention_facts p [] = []
mention_facts p (m ∷ own) = below_keys p (own_path (m ∷ own)) (value_facts m.source.value)

line-facts : (p : Path) (n start : ℕ) (f : Frame) (v : Value) (ss : List Segment) → begins_unspaced ss ≡ true
    → mention_facts p (line_mentions (source_at n f v) start [] ss) ≡ below_keys p ss (value_facts v)
line-facts p n start f v [] h = absurd cc
line-facts p n start f v (s ∷ []) h = refl
line-facts p n start f v (s ∷ r ∷ rest) h =
    ap (λ ss. below_keys p ss (value_facts v)) (own-line (source_at n f v) start [] (s ∷ r ∷ rest))

pairs-facts : (p : Path) (start number : ℕ) (ps : Pairs) → ArePairs ps → flat_map (mention_facts p) (pair_mentions start ps)
    ≡ pairs_facts ps p
pairs-facts p start number no_pairs h = refl
pairs-facts p start number (pair f v ps) h =
    let next : ℕ = start + length (frame_text f (value_text v)) + 1 in
    ap (λ fs. fs ++ flat_map (mention_facts p) (pair_mentions next ps)) (line-facts p number (start
    + length f.leading) f v f.path h.0.1.begins)
    ∙ ap (λ fs. below_keys p f.path (value_facts v) ++ fs) (pairs-facts p next (suc number) ps h.2)

kept-facts : (p : Path) (all : List (Mention PairSource)) (mss : List (List (Mention PairSource))) → AreKeyed all
    → AllByRecursion AreKeyed mss
    → pairs_facts (pairs_of (some_of (map (kept_pair all) mss))) p ≡ flat_map (mention_facts p) mss
kept-facts p all [] h g = refl
kept-facts p all ([] ∷ mss) h g = kept-facts p all mss h g.1
kept-facts p all ((m ∷ own) ∷ mss) h g =
    ap (λ fs. fs ++ pairs_facts (pairs_of (some_of (map (kept_pair all) mss))) p)
    (below-alike p (kept_path all (m ∷ own)) (own_path (m ∷ own)) (value_facts m.source.value) (kept-path-keys all (m ∷ own) h g.0))
    ∙ ap (λ fs. below_keys p (own_path (m ∷ own)) (value_facts m.source.value) ++ fs) (kept-facts p all mss h g.1)

each-keyed : (start number : ℕ) (ps : Pairs) → AllByRecursion AreKeyed (pair_mentions start ps)
each-keyed start number no_pairs = tt
each-keyed start number (pair f v ps) = (
  line-keyed (source_at number f v) (start + length f.leading) [] f.path,
  each-keyed (start + length (frame_text f (value_text v)) + 1) (suc number) ps,
)

ordered-facts : (p : Path) (ps : Pairs) → ArePairs ps → SameFacts (pairs_facts (ordered_pairs ps) p) (pairs_facts ps p)
ordered-facts p ps h =
    let mss : List (List (Mention PairSource)) = pair_mentions 0 ps in
    let all : List (Mention PairSource) = flat_map (λ ms. ms) mss in
    let sorted : List (List (Mention PairSource)) = sorted_by (pair_before mss) mss in
    subst (λ fs. SameFacts fs (pairs_facts ps p)) (sym
    (kept-facts p all sorted (mentions-keyed 0 0 ps) (all-sorted AreKeyed (pair_before mss) mss (each-keyed 0 0 ps))))
    (subst (SameFacts (flat_map (mention_facts p) sorted)) (pairs-facts p 0 0 ps h) (sorted-facts (mention_facts p) (pair_before mss) mss))

-- facts depend on the arrays and the block alone
statement-alike : (c d : Context) (s : Statement) → AreAlike c d → (statement_facts d s ≡ statement_facts c s)
    × AreAlike (context_after c s) (context_after d s)
statement-alike c d (key_line f v end) h =
    (ap (λ b. tables_along [] b ++ below_keys b f.path (value_facts v)) h.1, h)
statement-alike c d (header e end) h =
    let path_is : header_path d.arrays [] e.path ≡ header_path c.arrays [] e.path = ap (λ a. header_path a [] e.path) h.0 in (
      ap (λ a. let p = header_path a [] e.path in if e.is_array then element_header_facts p (elements_at a p) else tables_along [] p) h.0,
      (
        ap (λ a. if e.is_array then header_path a [] e.path ∷ a else a) h.0,
        ap (λ a. let p = header_path a [] e.path in if e.is_array then to_element p (elements_at a p) else p) h.0,
      ),
    )

facts-alike : (c d : Context) (ss : List Statement) → AreAlike c d → facts_from d ss ≡ facts_from c ss
facts-alike c d [] h = refl
facts-alike c d (s ∷ ss) h =
    let one = statement-alike c d s h in
    ap (λ fs. fs ++ facts_from (context_after d s) ss) one.0
    ∙ ap (λ fs. statement_facts c s ++ fs) (facts-alike (context_after c s) (context_after d s) ss one.1)

line-alike : (c : Context) (s : Statement) → is_line s ≡ true → AreAlike c (context_after c s)
line-alike c (key_line f v end) h = (refl, refl)
line-alike c (header e end) h = absurd cc

abbrev statements : List Placed → List Statement
statements xs = map (λ x. x.source.statement) xs

-- after a line the facts are those without it
after-line : (c : Context) (s : Statement) (ss : List Statement) → is_line s ≡ true → facts_from (context_after c s) ss ≡ facts_from c ss
after-line c s ss h = facts-alike c (context_after c s) ss (line-alike c s h)

insert-line : (mss : List (List (Mention Source))) (c : Context) (x : Placed) (ys : List Placed) → is_line x.source.statement ≡ true
    → SameFacts (facts_from c (statements (insert_by (line_before mss) x ys))) (statement_facts c x.source.statement
    ++ facts_from c (statements ys))
insert-line mss c x [] h = same_facts-refl (statement_facts c x.source.statement ++ [])
insert-line mss c x (y ∷ ys) h =
    let s : Statement = x.source.statement in
    let t : Statement = y.source.statement in
    elim (cases_Bool (line_before mss x y)) [
      | inl e ↦ rw e (same-is (facts_from c (s ∷ t ∷ statements ys)) (statement_facts c s
          ++ facts_from c (t ∷ statements ys)) (ap (λ fs. statement_facts c s ++ fs) (after-line c s (t ∷ statements ys) h)))
      | inr e ↦
          let is : is_line t ≡ true = not-before mss x y e in
          let rest : List Placed = insert_by (line_before mss) x ys in
          rw e
          (same-through (statement_facts c t ++ facts_from (context_after c t) (statements rest)) (statement_facts c t
          ++ (statement_facts c s ++ facts_from c (statements ys)))
          (statement_facts c s ++ (statement_facts c t ++ facts_from (context_after c t) (statements ys)))
          (same-after (statement_facts c t) (facts_from (context_after c t) (statements rest)) (statement_facts c s
          ++ facts_from c (statements ys))
          (subst (λ fs. SameFacts fs (statement_facts c s ++ facts_from c (statements ys))) (sym (after-line c t (statements rest) is))
          (insert-line mss c x ys h)))
          (subst (λ fs. SameFacts (statement_facts c t ++ (statement_facts c s ++ facts_from c (statements ys))) (statement_facts c s
          ++ (statement_facts c t ++ fs)))
          (sym (after-line c t (statements ys) is)) (same-swap (statement_facts c t) (statement_facts c s) (facts_from c (statements ys)))))
    ]

-- lines in order have the facts of the lines
ordered-same : (mss : List (List (Mention Source))) (c : Context) (xs : List Placed)
    → SameFacts (facts_from c (statements (ordered mss xs))) (facts_from c (statements xs))
ordered-same mss c [] = same_facts-refl []
ordered-same mss c (x ∷ xs) =
    let s : Statement = x.source.statement in
    elim (cases_Bool (is_line s)) [
      | inl e ↦
          rw e
          (same-through (facts_from c (statements (insert_by (line_before mss) x (ordered mss xs)))) (statement_facts c s
          ++ facts_from c (statements (ordered mss xs)))
          (statement_facts c s ++ facts_from (context_after c s) (statements xs))
          (insert-line mss c x (ordered mss xs) e)
          (same-after (statement_facts c s) (facts_from c (statements (ordered mss xs))) (facts_from (context_after c s) (statements xs))
          (subst (SameFacts (facts_from c (statements (ordered mss xs)))) (sym (after-line c s (statements xs) e))
          (ordered-same mss c xs))))
      | inr e ↦
          rw e
          (same-after (statement_facts c s) (facts_from (context_after c s) (statements (ordered mss xs)))
          (facts_from (context_after c s) (statements xs))
          (ordered-same mss (context_after c s) xs))
    ]

own-statements : (c : Context) (ss : List Statement) → statements (placed_from c ss) ≡ ss
own-statements c [] = refl
own-statements c (s ∷ ss) = ap (λ t. t ∷ statements (placed_from (context_after c s) ss)) (source-statement c s)
    ∙ ap (λ ts. s ∷ ts) (own-statements (context_after c s) ss)

-- ---- the last statement left open

last-facts : (mode : Mode) (c : Context) (d : Document) (ss : List Statement) → facts_from c (normal_last mode d ss) ≡ facts_from c ss
last-facts plain c d ss = refl
last-facts exact c d ss = by_test (has_open_end d.statements)
  where
    by_test : (b : Bool) → facts_from c (if b then open_statements ss else ss) ≡ facts_from c ss
    by_test true = facts-open c ss
    by_test false = refl

module _ (mode : Mode) where
  -- values whose inline tables are in the grammar before their pairs are put in order
  abbrev mutual
    pub IsRight : Value → Type 0
    IsRight (scalar s t) = Unit {0}
    IsRight (array es comma t) = AreRight es
    IsRight (inline_table ps comma t) = ArePairs (normal_pairs mode ps) × ArePairsRight ps

    pub AreRight : Elements → Type 0
    AreRight no_elements = Unit {0}
    AreRight (element a v es) = IsRight v × AreRight es

    pub ArePairsRight : Pairs → Type 0
    ArePairsRight no_pairs = Unit {0}
    ArePairsRight (pair f v ps) = IsRight v × ArePairsRight ps

  mutual
    pub value-is-right : (v : Value) → IsValue v → has_short_keys v ≡ true → keeps_ranges v ≡ true → has_agreeing_pairs v ≡ true → IsRight v
    value-is-right (scalar s t) h a b c = tt
    value-is-right (array es comma t) h a b c = elements-are-right es h.1 a b c
    value-is-right (inline_table ps comma t) h a b c =
        let rest = and_right (all_agree may_meet_inline (pair_mentions 0 ps)) (pairs_have_agreeing_pairs ps) c in
        (normal-pairs-right mode ps h.1 a b rest, pairs-are-right ps h.1 a b rest)

    elements-are-right : (es : Elements) → AreElements es → elements_have_short_keys es ≡ true → elements_keep_ranges es ≡ true
        → elements_have_agreeing_pairs es ≡ true → AreRight es
    elements-are-right no_elements h a b c = tt
    elements-are-right (element e v es) h a b c = (
      value-is-right v h.2 (and_left (has_short_keys v) (elements_have_short_keys es) a)
          (and_left (keeps_ranges v) (elements_keep_ranges es) b)
          (and_left (has_agreeing_pairs v) (elements_have_agreeing_pairs es) c),
      elements-are-right es h.3 (and_right (has_short_keys v) (elements_have_short_keys es) a)
          (and_right (keeps_ranges v) (elements_keep_ranges es) b)
          (and_right (has_agreeing_pairs v) (elements_have_agreeing_pairs es) c),
    )

    pairs-are-right : (ps : Pairs) → ArePairs ps → pairs_have_short_keys ps ≡ true → pairs_keep_ranges ps ≡ true
        → pairs_have_agreeing_pairs ps ≡ true → ArePairsRight ps
    pairs-are-right no_pairs h a b c = tt
    pairs-are-right (pair f v ps) h a b c =
        let short = and_right (is_short f.path) (has_short_keys v && pairs_have_short_keys ps) a in (
          value-is-right v h.1 (and_left (has_short_keys v) (pairs_have_short_keys ps) short)
              (and_left (keeps_ranges v) (pairs_keep_ranges ps) b)
              (and_left (has_agreeing_pairs v) (pairs_have_agreeing_pairs ps) c),
          pairs-are-right ps h.2 (and_right (has_short_keys v) (pairs_have_short_keys ps) short)
              (and_right (keeps_ranges v) (pairs_keep_ranges ps) b)
              (and_right (has_agreeing_pairs v) (pairs_have_agreeing_pairs ps) c),
        )

  mutual
    pub value-facts : (v : Value) (p : Path) → IsRight v → SameFacts (value_facts (normal_value mode v) p) (value_facts v p)
    value-facts (scalar s t) p h = same_facts-refl (value_facts (scalar s t) p)
    value-facts (array es comma t) p h =
        same-after (fact p an_array ∷ []) (elements_facts (normal_elements mode es) p 0) (elements_facts es p 0) (elements-same es p 0 h)
    value-facts (inline_table ps comma t) p h =
        same-after (fact p a_table ∷ []) (pairs_facts (ordered_pairs (normal_pairs mode ps)) p) (pairs_facts ps p)
        (same-through (pairs_facts (ordered_pairs (normal_pairs mode ps)) p) (pairs_facts (normal_pairs mode ps) p) (pairs_facts ps p)
        (ordered-facts p (normal_pairs mode ps) h.0) (pairs-same ps p h.1))

    elements-same : (es : Elements) (p : Path) (n : ℕ) → AreRight es
        → SameFacts (elements_facts (normal_elements mode es) p n) (elements_facts es p n)
    elements-same no_elements p n h = same_facts-refl []
    elements-same (element a v es) p n h =
        same_facts-append (value_facts (normal_value mode v) (to_element p n)) (value_facts v (to_element p n))
        (elements_facts (normal_elements mode es) p (suc n)) (elements_facts es p (suc n))
        (value-facts v (to_element p n) h.0) (elements-same es p (suc n) h.1)

    pairs-same : (ps : Pairs) (p : Path) → ArePairsRight ps → SameFacts (pairs_facts (normal_pairs mode ps) p) (pairs_facts ps p)
    pairs-same no_pairs p h = same_facts-refl []
    pairs-same (pair f v ps) p h =
        same_facts-append (below_keys p f.path (value_facts (normal_value mode v))) (below_keys p f.path (value_facts v))
        (pairs_facts (normal_pairs mode ps) p) (pairs_facts ps p)
        (below-same p f.path (value_facts (normal_value mode v)) (value_facts v) (λ q. value-facts v q h.0)) (pairs-same ps p h.1)

  -- ---- spelled as their kept keys

  abbrev HasRightValue : Statement → Type 0
  HasRightValue (key_line f v end) = IsRight v
  HasRightValue (header e end) = Unit {0}

  sound-value : (s : Statement) → IsAny s → is_sound s ≡ true → HasRightValue s
  sound-value (key_line f v end) h g =
      let parts = and_left (keeps_limits (key_line f v end) && keeps_ranges v) (has_agreeing_pairs v) g in
      let agrees = and_right (keeps_limits (key_line f v end) && keeps_ranges v) (has_agreeing_pairs v) g in
      let limits = and_left (is_short f.path && (nat_le (depth v) nesting_limit && has_short_keys v)) (keeps_ranges v) parts in
      let ranges = and_right (is_short f.path && (nat_le (depth v) nesting_limit && has_short_keys v)) (keeps_ranges v) parts in
      let deep = and_right (is_short f.path) (nat_le (depth v) nesting_limit && has_short_keys v) limits in
      value-is-right v h.1 (and_right (nat_le (depth v) nesting_limit) (has_short_keys v) deep) ranges agrees
  sound-value (header e end) h g = tt

  has-right : (x : Placed) → IsRightPlace x → HasRightValue x.source.statement
  has-right x (c, s, is, a, g) =
      subst HasRightValue (sym (ap (λ (y : Placed). y.source.statement) is ∙ source-statement c s)) (sound-value s a g)

  normal-one : (ms : List (Mention Source)) (c d : Context) (s : Statement) → AreAlike c d → AreKeyed ms → HasRightValue s
      → SameFacts (statement_facts d (normal_statement mode ms (placed_at c s) s)) (statement_facts c s)
  normal-one ms c d (key_line f v end) h g r =
      let own : List (Mention Source) = mentions_of c (key_line f v end) in
      let same : keys_of_segments (kept_path ms own) ≡ keys_of_segments f.path =
      kept-path-keys ms own g (statement-keyed c (key_line f v end))
      ∙ ap keys_of_segments (own-line (source_of c (key_line f v end)) (c.start + path_start (key_line f v end)) c.block f.path) in
      let w : Value = normal_value mode v in
      subst (λ b. SameFacts (tables_along [] b ++ below_keys b (kept_path ms own) (value_facts w)) (tables_along [] c.block
      ++ below_keys c.block f.path (value_facts v))) (sym h.1)
      (same-after (tables_along [] c.block) (below_keys c.block (kept_path ms own) (value_facts w))
      (below_keys c.block f.path (value_facts v))
      (subst (λ fs. SameFacts fs (below_keys c.block f.path (value_facts v)))
      (sym (below-alike c.block (kept_path ms own) f.path (value_facts w) same))
      (below-same c.block f.path (value_facts w) (value_facts v) (λ q. value-facts v q r))))
  normal-one ms c d (header e end) h g r =
      let to : Statement = normal_statement mode ms (placed_at c (header e end)) (header e end) in
      let path_is : header_path d.arrays [] (kept_path ms (mentions_of c (header e end))) ≡ header_path c.arrays [] e.path =
      (normal-place mode ms c d (header e end) h g).0.path in
      same-is (statement_facts d to) (statement_facts c (header e end))
      (ap (λ p. if e.is_array then element_header_facts p (elements_at d.arrays p) else tables_along [] p) path_is
      ∙ ap (λ a. if e.is_array then element_header_facts (header_path c.arrays [] e.path) (elements_at a (header_path c.arrays [] e.path))
      else tables_along [] (header_path c.arrays [] e.path)) h.0)

  normal-all : (ms : List (Mention Source)) (n : ℕ) (arrays : List Path) (block : Path) (c d : Context) (xs : List Placed) → AreKeyed ms
      → Run n arrays block xs
      → AllByRecursion (λ x. HasRightValue x.source.statement) xs → c.arrays ≡ arrays → c.block ≡ block → AreAlike c d
      → SameFacts (facts_from d (map (λ s. normal_statement mode ms s s.source.statement) xs)) (facts_from c (statements xs))
  normal-all ms n arrays block c d [] g r v e f h = same_facts-refl []
  normal-all ms n arrays block c d (x ∷ xs) g (b, s, is, m, a, k, rest) v e f h =
      let alike : AreAlike b d = (h.0 ∙ e ∙ sym a, h.1 ∙ f ∙ sym k) in
      let same : AreAlike b c = (e ∙ sym a, f ∙ sym k) in
      let first = normal-place mode ms b d s alike g in
      let one = statement-alike b c s same in
      let st : x.source.statement ≡ s = ap (λ (y : Placed). y.source.statement) is ∙ source-statement b s in
      let to : normal_statement mode ms x x.source.statement ≡ normal_statement mode ms (placed_at b s) s =
      ap (λ (y : Placed). normal_statement mode ms y y.source.statement) is
      ∙ ap (normal_statement mode ms (placed_at b s)) (source-statement b s) in
      let n_s : Statement = normal_statement mode ms (placed_at b s) s in
      let back : AreAlike (context_after c s) (context_after d n_s) = (first.1.0 ∙ sym one.1.0, first.1.1 ∙ sym one.1.1) in
      subst (λ t. SameFacts (facts_from d (t ∷ map (λ s. normal_statement mode ms s s.source.statement) xs))
      (facts_from c (statements (x ∷ xs)))) (sym to)
      (subst (λ t. SameFacts (facts_from d (n_s ∷ map (λ s. normal_statement mode ms s s.source.statement) xs)) (facts_from c (t
      ∷ statements xs))) (sym st)
      (same_facts-append (statement_facts d n_s) (statement_facts c s)
      (facts_from (context_after d n_s) (map (λ s. normal_statement mode ms s s.source.statement) xs))
      (facts_from (context_after c s) (statements xs))
      (subst (SameFacts (statement_facts d n_s)) (sym one.0) (normal-one ms b d s alike g (subst HasRightValue st v.0)))
      (normal-all ms (context_after b s).headers (context_after b s).arrays (context_after b s).block (context_after c s)
      (context_after d n_s) xs g rest v.1 one.1.0 one.1.1 back)))

  -- ---- documents

  -- The normal form of an accepted cut means the same.
  pub normal-means : (d : Document) → IsDocument d → is_accepted d ≡ true → SameFacts (meaning (normal_in mode d)) (meaning d)
  unfolding meaning
  normal-means d h g =
      let k = known mode d h g in
      let ms : List (Mention Source) = all_in d in
      let xs : List Placed = in_order d in
      let c : Context = start_context d in
      let new : List Statement = map (λ s. normal_statement mode ms s s.source.statement) xs in
      subst (λ fs. SameFacts (fact [] a_table ∷ fs) (fact [] a_table ∷ facts_from c d.statements))
      (sym (last-facts mode (start_context (normal_in mode d)) d new))
      (same-after (fact [] a_table ∷ []) (facts_from (start_context (normal_in mode d)) new) (facts_from c d.statements)
      (same-through (facts_from (start_context (normal_in mode d)) new) (facts_from c (statements xs)) (facts_from c d.statements)
      (normal-all ms 0 [] [] c (start_context (normal_in mode d)) xs k.keyed k.run
      (all-map IsRightPlace (λ x. HasRightValue x.source.statement) xs has-right k.right) refl refl (refl, refl))
      (subst (λ ss. SameFacts (facts_from c (statements xs)) (facts_from c ss)) (own-statements c d.statements)
      (ordered-same (mention_lists (placed d)) c (placed d)))))
