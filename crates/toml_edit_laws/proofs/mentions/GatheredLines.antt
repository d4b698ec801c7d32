-- Lines below one path, by their first keys: in their order, those of one key stand together.
use Rattle.std.proofs.Common.{◌≡◌, refl, sym, ◌∙◌, ap, subst, ℕ, arith, Bool, true, false, List, [], ◌∷◌, ◌++◌, inl, inr}
use Rattle.std.specs.Prelude.{◌&&◌, ◌||◌, not, nat_lt, filter, map, flat_map, if◌then◌else◌}
use Rattle.std.specs.List.{AllByRecursion}
use Rattle.std.proofs.lemmas.Bool.{cases_Bool, ltb-true, le-ltb, not-true}
use Rattle.toml_edit_model.specs.Text.{Text, same_text, is_empty}
use Rattle.toml_edit_model.specs.Syntax.{Segment}
use Rattle.toml_edit_model.specs.Paths.{at_key, Path, to_key}
use Rattle.toml_edit_laws.specs.FlatTree.{is_among}
use Rattle.toml_edit_laws.proofs.common.Tests.{same_text-refl, same_text-is, same_text-swap, true-false}
use Rattle.toml_edit_laws.proofs.common.OrderLaws.{filter-twice, sorted-alike, sorted-parts}
use Rattle.toml_edit_laws.proofs.common.Each.{all-filter, all_pass, all-map}
use Rattle.toml_edit_model.specs.Order.{sorted_by}

-- ---- keys one by one

abbrev pub first_key : List Segment → Text
first_key [] = []
first_key (s ∷ rest) = s.key

abbrev pub rest_of : List Segment → List Segment
rest_of [] = []
rest_of (s ∷ rest) = rest

-- the first key is this one
abbrev pub has_first : Text → List Segment → Bool
has_first k [] = false
has_first k (s ∷ rest) = same_text k s.key

-- the first keys are these
abbrev pub begins_with : List Text → List Segment → Bool
begins_with [] ss = true
begins_with (k ∷ q) ss = has_first k ss && begins_with q (rest_of ss)

-- neither is a part at the front of the other
abbrev pub part_ways : List Segment → List Segment → Bool
part_ways [] rs = false
part_ways (s ∷ ss) [] = false
part_ways (s ∷ ss) (r ∷ rs) = if same_text s.key r.key then part_ways ss rs else true

-- The keys of one line come before those of another: where they part, by the ranks of the paths below this one.
abbrev pub keys_before : (Path → ℕ) → Path → List Segment → List Segment → Bool
keys_before rank_of p [] rs = true
keys_before rank_of p (s ∷ ss) [] = true
keys_before rank_of p (s ∷ ss) (r ∷ rs) =
    if same_text s.key r.key then keys_before rank_of (to_key p s.key) ss rs
    else nat_lt (rank_of (to_key p s.key)) (rank_of (to_key p r.key))

abbrev pub steps : List Text → Path
steps q = map at_key q

pub first-is : (k : Text) (ss : List Segment) → is_empty ss ≡ false → has_first k ss ≡ same_text k (first_key ss)
first-is k [] h = absurd cc
first-is k (s ∷ ss) h = refl

pub first-same : (k : Text) (ss : List Segment) → has_first k ss ≡ true → k ≡ first_key ss
first-same k [] h = absurd cc
first-same k (s ∷ ss) h = same_text-is k s.key h

-- ---- lines

-- the lines of a key
abbrev pub group : {X : Type 0} → Text → (X → List Segment) → List X → List X
group k path_of xs = filter (λ x. has_first k (path_of x)) xs

abbrev pub rests : {X : Type 0} → (X → List Segment) → X → List Segment
rests path_of x = rest_of (path_of x)

abbrev pub AllFilled : {X : Type 0} → (X → List Segment) → List X → Type 0
AllFilled path_of xs = AllByRecursion (λ x. is_empty (path_of x) ≡ false) xs

-- no line's keys are a part of another's
abbrev pub AllPart : {X : Type 0} → (X → List Segment) → List X → Type 0
AllPart path_of [] = Unit {0}
AllPart path_of (x ∷ xs) = AllByRecursion (λ y. part_ways (path_of x) (path_of y) ≡ true) xs × AllPart path_of xs

-- ---- one key down

part-filter : {X : Type 0} (path_of : X → List Segment) (test : X → Bool) (xs : List X) → AllPart path_of xs
    → AllPart path_of (filter test xs)
part-filter path_of test [] h = tt
part-filter path_of test (x ∷ xs) h =
    elim (cases_Bool (test x)) [
      | inl e ↦ rw e (all-filter (λ y. part_ways (path_of x) (path_of y) ≡ true) test xs h.0, part-filter path_of test xs h.1)
      | inr e ↦ rw e (part-filter path_of test xs h.1)
    ]

part-below : (k : Text) (ss rs : List Segment) → has_first k ss ≡ true → has_first k rs ≡ true → part_ways ss rs
    ≡ part_ways (rest_of ss) (rest_of rs)
part-below k [] rs h g = absurd cc
part-below k (s ∷ ss) [] h g = absurd cc
part-below k (s ∷ ss) (r ∷ rs) h g =
    let same : s.key ≡ r.key = sym (same_text-is k s.key h) ∙ same_text-is k r.key g in
    rw (ap (λ t. same_text s.key t) (sym same) ∙ same_text-refl s.key) refl

parts-below : {X : Type 0} (k : Text) (path_of : X → List Segment) (xs : List X) → AllByRecursion (λ x. has_first k (path_of x) ≡ true) xs
    → AllPart path_of xs → AllPart (rests path_of) xs
parts-below k path_of [] h g = tt
parts-below {X = X} k path_of (x ∷ xs) h g = (both xs h.1 g.0, parts-below k path_of xs h.1 g.1)
  where
    both : (ys : List X) → AllByRecursion (λ y. has_first k (path_of y) ≡ true) ys
        → AllByRecursion (λ y. part_ways (path_of x) (path_of y) ≡ true) ys
        → AllByRecursion (λ y. part_ways (rests path_of x) (rests path_of y) ≡ true) ys
    both [] h2 g2 = tt
    both (y ∷ ys) h2 g2 = (sym (part-below k (path_of x) (path_of y) h.0 h2.0) ∙ g2.0, both ys h2.1 g2.1)

-- the tests of a group
pub group_pass : {X : Type 0} (k : Text) (path_of : X → List Segment) (xs : List X)
    → AllByRecursion (λ x. has_first k (path_of x) ≡ true) (group k path_of xs)
group_pass k path_of [] = tt
group_pass k path_of (x ∷ xs) =
    elim (cases_Bool (has_first k (path_of x))) [
      | inl e ↦ rw e (e, group_pass k path_of xs)
      | inr e ↦ rw e (group_pass k path_of xs)
    ]

pub group-part : {X : Type 0} (k : Text) (path_of : X → List Segment) (xs : List X) → AllPart path_of xs
    → AllPart (rests path_of) (group k path_of xs)
group-part k path_of xs h =
    parts-below k path_of (group k path_of xs) (group_pass k path_of xs) (part-filter path_of (λ x. has_first k (path_of x)) xs h)

-- a line that ends at its first key is alone in its group
pub alone : {X : Type 0} (path_of : X → List Segment) (x : X) (more : List X) → AllPart path_of (x ∷ more) → path_of x ≡ [] → more ≡ []
alone path_of x [] h e = refl
alone path_of x (y ∷ more) h e = absurd (true-false (part_ways (path_of x) (path_of y)) h.0.0 (rw e refl))

-- where the first line goes on, all of its group do
part-filled : (ss rs : List Segment) → part_ways ss rs ≡ true → is_empty rs ≡ false
part-filled [] rs h = absurd cc
part-filled (s ∷ ss) [] h = absurd cc
part-filled (s ∷ ss) (r ∷ rs) h = refl

pub go_on : {X : Type 0} (path_of : X → List Segment) (x : X) (more : List X) → AllPart path_of (x ∷ more) → is_empty (path_of x) ≡ false
    → AllFilled path_of (x ∷ more)
go_on path_of x more h e = (
  e,
  all-map (λ y. part_ways (path_of x) (path_of y) ≡ true) (λ y. is_empty (path_of y)
      ≡ false) more (λ y g. part-filled (path_of x) (path_of y) g) h.0,
)

-- in a group the rests of the keys are compared
comes-below : (rank_of : Path → ℕ) (p : Path) (k : Text) (ss rs : List Segment) → has_first k ss ≡ true → has_first k rs ≡ true
    → keys_before rank_of p ss rs ≡ keys_before rank_of (to_key p k) (rest_of ss) (rest_of rs)
comes-below rank_of p k [] rs h g = absurd cc
comes-below rank_of p k (s ∷ ss) [] h g = absurd cc
comes-below rank_of p k (s ∷ ss) (r ∷ rs) h g =
    let first : k ≡ s.key = same_text-is k s.key h in
    let same : s.key ≡ r.key = sym first ∙ same_text-is k r.key g in
    rw (ap (λ t. same_text s.key t) (sym same) ∙ same_text-refl s.key) (ap (λ t. keys_before rank_of (to_key p t) ss rs) (sym first))

pub group-sorted : {X : Type 0} (rank_of : Path → ℕ) (p : Path) (k : Text) (path_of : X → List Segment) (xs : List X)
    → sorted_by (λ x y. keys_before rank_of p (path_of x) (path_of y)) (group k path_of xs)
    ≡ sorted_by (λ x y. keys_before rank_of (to_key p k) (rests path_of x) (rests path_of y)) (group k path_of xs)
group-sorted rank_of p k path_of xs =
    sorted-alike (λ x. has_first k (path_of x) ≡ true) (λ x y. keys_before rank_of p (path_of x) (path_of y))
    (λ x y. keys_before rank_of (to_key p k) (rests path_of x) (rests path_of y))
    (λ x y h g. comes-below rank_of p k (path_of x) (path_of y) h g) (group k path_of xs) (group_pass k path_of xs)

-- ---- key by key

less-not : (m n : ℕ) → nat_lt m n ≡ true → nat_lt n m ≡ false
less-not m n h = le-ltb n m (let less = ltb-true m n h in omega arith)

-- a line of one key comes before those whose key is first mentioned later
pub comes-first : (rank_of : Path → ℕ) (p : Path) (k : Text) (ss rs : List Segment) → is_empty rs ≡ false
    → has_first k ss ≡ true → has_first k rs ≡ false
    → nat_lt (rank_of (to_key p k)) (rank_of (to_key p (first_key rs))) ≡ true
    → (keys_before rank_of p ss rs ≡ true) × (keys_before rank_of p rs ss ≡ false)
comes-first rank_of p k [] rs full h g less = absurd cc
comes-first rank_of p k (s ∷ ss) [] full h g less = absurd cc
comes-first rank_of p k (s ∷ ss) (r ∷ rs) full h g less =
    let first : k ≡ s.key = same_text-is k s.key h in
    let other : same_text s.key r.key ≡ false = ap (λ t. same_text t r.key) (sym first) ∙ g in
    let here : nat_lt (rank_of (to_key p s.key)) (rank_of (to_key p r.key)) ≡ true =
    ap (λ t. nat_lt (rank_of (to_key p t)) (rank_of (to_key p r.key))) (sym first) ∙ less in
    (rw other here, rw (same_text-swap r.key s.key) (rw other (less-not (rank_of (to_key p s.key)) (rank_of (to_key p r.key)) here)))

-- what holds of these keys holds of one among them
among-has : (P : Text → Type 0) (keys : List Text) (k : Text) → AllByRecursion P keys → is_among k keys ≡ true → P k
among-has P [] k h g = absurd cc
among-has P (l ∷ keys) k h g =
    elim (cases_Bool (same_text k l)) [
      | inl e ↦ subst P (sym (same_text-is k l e)) h.0
      | inr e ↦ among-has P keys k h.1 (ap (λ b. b || is_among k keys) (sym e) ∙ g)
    ]

among-rest : (k l : Text) (keys : List Text) → same_text k l ≡ false → is_among l (k ∷ keys) ≡ true → is_among l keys ≡ true
among-rest k l keys e h = ap (λ b. b || is_among l keys) (sym (same_text-swap l k ∙ e)) ∙ h

-- The keys are distinct, and those that lines have stand in the order of their ranks.
abbrev pub AreInOrder : (Text → Type 0) → (Path → ℕ) → Path → List Text → Type 0
AreInOrder IsUsed rank_of p [] = Unit {0}
AreInOrder IsUsed rank_of p (k ∷ keys) =
    AllByRecursion (λ l. (same_text k l ≡ false) × (IsUsed k → IsUsed l → nat_lt (rank_of (to_key p k)) (rank_of (to_key p l)) ≡ true)) keys
    × AreInOrder IsUsed rank_of p keys

-- the line has one of these keys, which is used
abbrev pub IsKeyed : {X : Type 0} → (Text → Type 0) → List Text → (X → List Segment) → X → Type 0
IsKeyed IsUsed keys path_of x = (is_empty (path_of x) ≡ false) × (is_among (first_key (path_of x)) keys ≡ true)
    × IsUsed (first_key (path_of x))

none-keyed : {X : Type 0} (IsUsed : Text → Type 0) (path_of : X → List Segment) (xs : List X)
    → AllByRecursion (IsKeyed IsUsed [] path_of) xs → xs ≡ []
none-keyed IsUsed path_of [] h = refl
none-keyed IsUsed path_of (x ∷ xs) h = (let clash : false ≡ true = h.0.1 in absurd cc)

-- a group is that of the lines without another key's
other-group : {X : Type 0} (path_of : X → List Segment) (k l : Text) (xs : List X) → same_text k l ≡ false → AllFilled path_of xs
    → group l path_of (filter (λ x. not (has_first k (path_of x))) xs) ≡ group l path_of xs
other-group {X = X} path_of k l xs apart full =
    filter-twice (λ x. is_empty (path_of x) ≡ false) (λ x. not (has_first k (path_of x))) (λ x. has_first l (path_of x))
    (λ x. has_first l (path_of x)) both xs full
  where
    both : (x : X) → is_empty (path_of x) ≡ false → (not (has_first k (path_of x)) && has_first l (path_of x)) ≡ has_first l (path_of x)
    both x e =
        elim (cases_Bool (has_first k (path_of x))) [
          | inl here ↦
              rw here
              (sym (first-is l (path_of x) e ∙ ap (same_text l) (sym (first-same k (path_of x) here)) ∙ same_text-swap l k ∙ apart))
          | inr here ↦ rw here refl
        ]

other-groups : {X : Type 0} (path_of : X → List Segment) (before : X → X → Bool) (k : Text) (keys : List Text) (xs : List X)
    → AllByRecursion (λ l. same_text k l ≡ false) keys → AllFilled path_of xs
    → flat_map (λ l. sorted_by before (group l path_of (filter (λ x. not (has_first k (path_of x))) xs))) keys
    ≡ flat_map (λ l. sorted_by before (group l path_of xs)) keys
other-groups path_of before k [] xs h full = refl
other-groups path_of before k (l ∷ keys) xs h full =
    ap (λ ys. sorted_by before ys ++ flat_map (λ j. sorted_by before (group j path_of (filter (λ x. not (has_first k (path_of x))) xs)))
    keys)
    (other-group path_of k l xs h.0 full)
    ∙ ap (λ ys. sorted_by before (group l path_of xs) ++ ys) (other-groups path_of before k keys xs h.1 full)

-- Lines in their order are those of the first key, then those of the next.
pub gathered-by : {X : Type 0} (IsUsed : Text → Type 0) (rank_of : Path → ℕ) (p : Path) (path_of : X
    → List Segment) (keys : List Text) (xs : List X)
    → AreInOrder IsUsed rank_of p keys → AllByRecursion (IsKeyed IsUsed keys path_of) xs
    → sorted_by (λ x y. keys_before rank_of p (path_of x) (path_of y)) xs
    ≡ flat_map (λ k. sorted_by (λ x y. keys_before rank_of p (path_of x) (path_of y)) (group k path_of xs)) keys
gathered-by IsUsed rank_of p path_of [] xs h keyed =
    ap (sorted_by (λ x y. keys_before rank_of p (path_of x) (path_of y))) (none-keyed IsUsed path_of xs keyed)
gathered-by {X = X} IsUsed rank_of p path_of (k ∷ keys) xs h keyed =
    sorted-parts (IsKeyed IsUsed (k ∷ keys) path_of) (λ x. has_first k (path_of x)) before apart xs keyed
    ∙ ap (λ ys. sorted_by before (group k path_of xs) ++ ys)
    (gathered-by IsUsed rank_of p path_of keys others h.1
    (all-map (λ x. IsKeyed IsUsed (k ∷ keys) path_of x × (not (has_first k (path_of x)) ≡ true)) (IsKeyed IsUsed keys path_of) others
    (λ x g. (
      g.0.0,
      among-rest k (first_key (path_of x)) keys (sym (first-is k (path_of x) g.0.0)
          ∙ not-true (has_first k (path_of x)) g.1) g.0.1,
      g.0.2,
    ))
    (all_pass (IsKeyed IsUsed (k ∷ keys) path_of) (λ x. not (has_first k (path_of x))) xs keyed))
    ∙ other-groups path_of before k keys xs
    (all-map (λ l. (same_text k l ≡ false) × (IsUsed k → IsUsed l → nat_lt (rank_of (to_key p k)) (rank_of (to_key p l)) ≡ true))
    (λ l. same_text k l ≡ false) keys (λ l g. g.0) h.0)
    (all-map (IsKeyed IsUsed (k ∷ keys) path_of) (λ x. is_empty (path_of x) ≡ false) xs (λ x g. g.0) keyed))
  where
    before : X → X → Bool
    before x y = keys_before rank_of p (path_of x) (path_of y)

    others : List X
    others = filter (λ x. not (has_first k (path_of x))) xs

    apart : (a b : X) → IsKeyed IsUsed (k ∷ keys) path_of a → IsKeyed IsUsed (k ∷ keys) path_of b
        → has_first k (path_of a) ≡ true → has_first k (path_of b) ≡ false
        → (before a b ≡ true) × (before b a ≡ false)
    apart a b is_a is_b in_a out_b =
        let among : is_among (first_key (path_of b)) keys ≡ true =
        among-rest k (first_key (path_of b)) keys (sym (first-is k (path_of b) is_b.0) ∙ out_b) is_b.1 in
        let is_later =
        among-has (λ l. (same_text k l ≡ false) × (IsUsed k → IsUsed l → nat_lt (rank_of (to_key p k)) (rank_of (to_key p l)) ≡ true))
        keys (first_key (path_of b)) h.0 among in
        comes-first rank_of p k (path_of a) (path_of b) is_b.0 in_a out_b
        (is_later.1 (subst IsUsed (sym (first-same k (path_of a) in_a)) is_a.2) is_b.2)
