-- The first lines of keys: lines in their order are gathered in the order in which their keys are first mentioned.
use Rattle.std.proofs.Common.{◌≡◌, refl, sym, ◌∙◌, ap, subst, ℕ, Bool, true, false, List, [], ◌∷◌, ◌++◌, append_assoc, inl, inr}
use Rattle.std.specs.Prelude.{◌||◌, nat_lt, map, flat_map, if◌then◌else◌}
use Rattle.std.specs.List.{AllByRecursion}
use Rattle.std.proofs.lemmas.Bool.{cases_Bool}
use Rattle.std.proofs.lemmas.List.Elements.{filter-append}
use Rattle.std.proofs.lemmas.List.Folds.{flat_map-map, list_any-append}
use Rattle.toml_edit_model.specs.Text.{Text, same_text, one, is_empty}
use Rattle.toml_edit_model.specs.Syntax.{Segment}
use Rattle.toml_edit_model.specs.Paths.{at_key, Path, to_key}
use Rattle.toml_edit_laws.specs.FlatTree.{is_among}
use Rattle.toml_edit_laws.proofs.common.Tests.{or-left, or-right, and-true, or-false, same_text-refl, same_text-is, same_text-swap}
use Rattle.toml_edit_laws.proofs.common.Tests.{true-false, false-by}
use Rattle.toml_edit_laws.proofs.common.OrderLaws.{none-left, passes_first, first-filter, first-alike}
use Rattle.toml_edit_laws.proofs.mentions.GatheredLines.{first_key, has_first, begins_with, steps, first-is, keys_before, group, rests}
use Rattle.toml_edit_laws.proofs.mentions.GatheredLines.{AllFilled, AreInOrder, IsKeyed, gathered-by}
use Rattle.toml_edit_laws.proofs.common.Each.{all-both, all-append, all-map}
use Rattle.toml_edit_model.specs.Order.{sorted_by}

-- the first line of each key that isn't among these
abbrev pub leaders : {X : Type 0} → List Text → (X → List Segment) → List X → List X
leaders seen path_of [] = []
leaders seen path_of (x ∷ xs) =
    if is_among (first_key (path_of x)) seen then leaders seen path_of xs
    else x ∷ leaders (seen ++ one (first_key (path_of x))) path_of xs

-- the ranks of the paths below this one are in the order of their first mentions in these lines
abbrev pub AreRanked : {X : Type 0} → (Path → ℕ) → Path → (X → List Segment) → List X → Type 0
AreRanked rank_of p path_of xs =
    (k : Text) (q : List Text) (l : Text) (r : List Text)
    → nat_lt (rank_of (p ++ steps (k ∷ q))) (rank_of (p ++ steps (l ∷ r)))
    ≡ passes_first (λ x. begins_with (k ∷ q) (path_of x)) (λ x. begins_with (l ∷ r) (path_of x)) xs

-- the line is the first of its key
abbrev pub Leads : {X : Type 0} → (X → List Segment) → List X → X → Type 0
Leads {X} path_of xs x = (more : List X) × (group (first_key (path_of x)) path_of xs ≡ x ∷ more)

pub group-ranked : {X : Type 0} (rank_of : Path → ℕ) (p : Path) (path_of : X → List Segment) (xs : List X) (k : Text)
    → AreRanked rank_of p path_of xs → AreRanked rank_of (to_key p k) (rests path_of) (group k path_of xs)
group-ranked rank_of p path_of xs k h a q b r =
    ap (λ u. nat_lt (rank_of u) (rank_of (to_key p k ++ steps (b ∷ r)))) (append_assoc p (one (at_key k)) (steps (a ∷ q)))
    ∙ ap (λ u. nat_lt (rank_of (p ++ steps (k ∷ a ∷ q))) (rank_of u)) (append_assoc p (one (at_key k)) (steps (b ∷ r)))
    ∙ h k (a ∷ q) k (b ∷ r)
    ∙ first-filter (λ x. has_first k (path_of x)) (λ x. begins_with (a ∷ q) (rests path_of x)) (λ x. begins_with (b ∷ r) (rests path_of x))
    xs

-- ---- keys that were seen

-- the first test passes at x, and the second neither there nor before
pub first-at : {A : Type 0} (test other : A → Bool) (xs : List A) (x : A) (more : List A)
    → AllByRecursion (λ y. (test y ≡ false) × (other y ≡ false)) xs → test x ≡ true → other x ≡ false
    → passes_first test other (xs ++ (x ∷ more)) ≡ true
first-at test other [] x more h e g = rw e (rw g refl)
first-at test other (y ∷ xs) x more h e g = rw h.0.0 (rw h.0.1 (first-at test other xs x more h.1 e g))

-- the key of the line is among these
abbrev IsSeen : {X : Type 0} → List Text → (X → List Segment) → X → Type 0
IsSeen seen path_of x = is_among (first_key (path_of x)) seen ≡ true

among-same : (k l : Text) (seen : List Text) → is_among k seen ≡ false → is_among l seen ≡ true → same_text k l ≡ false
among-same k l seen h g =
    false-by (same_text k l) (λ e. true-false (is_among l seen) g (subst (λ t. is_among t seen ≡ false) (same_text-is k l e) h))

is_among-one : (k l : Text) (seen : List Text) → is_among l (seen ++ one k) ≡ (is_among l seen || same_text k l)
is_among-one k l seen =
    list_any-append (same_text l) seen (one k) ∙ ap (λ b. is_among l seen || b) (or-false (same_text l k) ∙ same_text-swap l k)

-- the tests of two keys that weren't seen fail at the lines whose keys were
fails-before : {X : Type 0} (path_of : X → List Segment) (k l : Text) (seen : List Text) (xs : List X) → is_among k seen ≡ false
    → is_among l seen ≡ false
    → AllFilled path_of xs → AllByRecursion (IsSeen seen path_of) xs
    → AllByRecursion (λ y. (has_first k (path_of y) ≡ false) × (has_first l (path_of y) ≡ false)) xs
fails-before path_of k l seen [] h g full old = tt
fails-before path_of k l seen (y ∷ xs) h g full old = (
  (
    first-is k (path_of y) full.0 ∙ among-same k (first_key (path_of y)) seen h old.0,
    first-is l (path_of y) full.0
        ∙ among-same l (first_key (path_of y)) seen g old.0,
  ),
  fails-before path_of k l seen xs h g full.1 old.1,
)

still-seen : {X : Type 0} (path_of : X → List Segment) (k : Text) (seen : List Text) (xs : List X) → AllByRecursion (IsSeen seen path_of) xs
    → AllByRecursion (IsSeen (seen ++ one k) path_of) xs
still-seen path_of k seen xs h =
    all-map (IsSeen seen path_of) (IsSeen (seen ++ one k) path_of) xs
    (λ y g. is_among-one k (first_key (path_of y)) seen ∙ ap (λ b. b || same_text k (first_key (path_of y))) g) h

now-seen : (k : Text) (seen : List Text) → is_among k (seen ++ one k) ≡ true
now-seen k seen = is_among-one k k seen ∙ rw (same_text-refl k) (either (is_among k seen))
  where
    either : (b : Bool) → (b || true) ≡ true
    either true = refl
    either false = refl

-- ---- key by key

abbrev pub leader_keys : {X : Type 0} → List Text → (X → List Segment) → List X → List Text
leader_keys seen path_of xs = map (λ x. first_key (path_of x)) (leaders seen path_of xs)

-- the keys of the leaders are new
new-keys : {X : Type 0} (seen : List Text) (path_of : X → List Segment) (xs : List X)
    → AllByRecursion (λ l. is_among l seen ≡ false) (leader_keys seen path_of xs)
new-keys seen path_of [] = tt
new-keys seen path_of (x ∷ xs) =
    let k : Text = first_key (path_of x) in
    elim (cases_Bool (is_among k seen)) [
      | inl e ↦ rw e (new-keys seen path_of xs)
      | inr e ↦
          rw e (
            e,
            all-map (λ l. is_among l (seen ++ one k) ≡ false) (λ l. is_among l seen ≡ false) (leader_keys (seen ++ one k) path_of xs)
                (λ l g. or-left (is_among l seen) (same_text k l) (sym (is_among-one k l seen) ∙ g)) (new-keys (seen ++ one k) path_of xs),
          )
    ]

-- the line has one of the keys that were seen, or of these
abbrev IsLed : {X : Type 0} → List Text → List Text → (X → List Segment) → X → Type 0
IsLed seen keys path_of x = (is_among (first_key (path_of x)) seen || is_among (first_key (path_of x)) keys) ≡ true

either : (a b c : Bool) → ((a || b) || c) ≡ (a || (b || c))
either true b c = refl
either false b c = refl

one-led : (t k : Text) (seen keys : List Text) → (is_among t (seen ++ one k) || is_among t keys) ≡ true
    → (is_among t seen || is_among t (k ∷ keys)) ≡ true
one-led t k seen keys h =
    sym (either (is_among t seen) (same_text t k) (is_among t keys))
    ∙ ap (λ b. (is_among t seen || b) || is_among t keys) (same_text-swap t k)
    ∙ ap (λ b. b || is_among t keys) (sym (is_among-one k t seen)) ∙ h

-- each line has one of the leaders' keys, unless its key was seen
led : {X : Type 0} (seen : List Text) (path_of : X → List Segment) (xs : List X)
    → AllByRecursion (IsLed seen (leader_keys seen path_of xs) path_of) xs
led seen path_of [] = tt
led seen path_of (x ∷ xs) =
    let k : Text = first_key (path_of x) in
    elim (cases_Bool (is_among k seen)) [
      | inl e ↦
          let is : leader_keys seen path_of (x ∷ xs) ≡ leader_keys seen path_of xs = rw e refl in
          subst (λ ks. AllByRecursion (IsLed seen ks path_of) (x ∷ xs)) (sym is)
          (ap (λ b. b || is_among k (leader_keys seen path_of xs)) e, led seen path_of xs)
      | inr e ↦
          let later : List Text = leader_keys (seen ++ one k) path_of xs in
          let is : leader_keys seen path_of (x ∷ xs) ≡ k ∷ later = rw e refl in
          subst (λ ks. AllByRecursion (IsLed seen ks path_of) (x ∷ xs)) (sym is) (
            one-led k k seen later (ap (λ b. b || is_among k later) (now-seen k seen)),
            all-map (IsLed (seen ++ one k) later path_of) (IsLed seen (k ∷ later) path_of) xs
                (λ y g. one-led (first_key (path_of y)) k seen later g)
                (led (seen ++ one k) path_of xs),
          )
    ]

module _ {X : Type 0} (rank_of : Path → ℕ) (p : Path) (path_of : X → List Segment) where
  -- the next key is mentioned before another that wasn't seen
  earlier-key : (all seen_before : List X) (x : X) (later : List X) (seen : List Text) (l : Text)
      → all ≡ seen_before ++ (x ∷ later) → AllFilled path_of all → AllFilled path_of seen_before → is_empty (path_of x) ≡ false
      → AllByRecursion (IsSeen seen path_of) seen_before → is_among (first_key (path_of x)) seen ≡ false → is_among l seen ≡ false
      → same_text (first_key (path_of x)) l ≡ false → AreRanked rank_of p path_of all
      → nat_lt (rank_of (to_key p (first_key (path_of x)))) (rank_of (to_key p l)) ≡ true
  earlier-key all seen_before x later seen l is full full_before full_x old new other apart ranked =
      let k : Text = first_key (path_of x) in
      ranked k [] l []
      ∙ first-alike (λ y. is_empty (path_of y) ≡ false) (λ y. begins_with (one k) (path_of y)) (λ y. begins_with (one l) (path_of y))
      (λ y. has_first k (path_of y)) (λ y. has_first l (path_of y)) (λ y e. (
        and-true (has_first k (path_of y)),
        and-true (has_first l (path_of y)),
      )) all full
      ∙ ap (passes_first (λ y. has_first k (path_of y)) (λ y. has_first l (path_of y))) is
      ∙ first-at (λ y. has_first k (path_of y)) (λ y. has_first l (path_of y)) seen_before x later
      (fails-before path_of k l seen seen_before new other full_before old)
      (first-is k (path_of x) full_x ∙ same_text-refl k) (first-is l (path_of x) full_x ∙ same_text-swap l k ∙ apart)

  keys-ordered : (all seen_before : List X) (xs : List X) (seen : List Text)
      → all ≡ seen_before ++ xs → AllFilled path_of all → AllFilled path_of seen_before → AllFilled path_of xs
      → AllByRecursion (IsSeen seen path_of) seen_before
      → AreRanked rank_of p path_of all → AreInOrder (λ k. Unit {0}) rank_of p (leader_keys seen path_of xs)
  keys-ordered all seen_before [] seen is full full_before full_xs old ranked = tt
  keys-ordered all seen_before (x ∷ xs) seen is full full_before full_xs old ranked =
      let k : Text = first_key (path_of x) in
      let here : all ≡ (seen_before ++ one x) ++ xs = is ∙ sym (append_assoc seen_before (one x) xs) in
      let full_here : AllFilled path_of (seen_before ++ one x) =
      all-append (λ y. is_empty (path_of y) ≡ false) seen_before (one x) full_before (full_xs.0, tt) in
      elim (cases_Bool (is_among k seen)) [
        | inl e ↦
            rw e
            (keys-ordered all (seen_before ++ one x) xs seen here full full_here full_xs.1
            (all-append (IsSeen seen path_of) seen_before (one x) old (e, tt)) ranked)
        | inr e ↦
            rw e (
              all-map (λ l. is_among l (seen ++ one k) ≡ false)
                  (λ l. (same_text k l ≡ false) × (Unit {0} → Unit {0} → nat_lt (rank_of (to_key p k)) (rank_of (to_key p l)) ≡ true))
                  (leader_keys (seen ++ one k) path_of xs)
                  (λ l g.
                  let neither : (is_among l seen || same_text k l) ≡ false = sym (is_among-one k l seen) ∙ g in
                  let apart : same_text k l ≡ false = or-right (is_among l seen) (same_text k l) neither in
                  let new : is_among l seen ≡ false = or-left (is_among l seen) (same_text k l) neither in
                  (apart, λ _ _. earlier-key all seen_before x xs seen l is full full_before full_xs.0 old e new apart ranked))
                  (new-keys (seen ++ one k) path_of xs),
              keys-ordered all (seen_before ++ one x) xs (seen ++ one k) here full full_here full_xs.1
                  (all-append (IsSeen (seen ++ one k) path_of) seen_before (one x) (still-seen path_of k seen seen_before old)
                  (now-seen k seen, tt)) ranked,
            )
      ]

  -- Lines in their order are those of the first key mentioned, then those of the next.
  pub gathered : (xs : List X) → AllFilled path_of xs → AreRanked rank_of p path_of xs
      → sorted_by (λ x y. keys_before rank_of p (path_of x) (path_of y)) xs
      ≡ flat_map (λ x. sorted_by (λ y z. keys_before rank_of p (path_of y) (path_of z)) (group (first_key (path_of x)) path_of xs))
      (leaders [] path_of xs)
  gathered xs full ranked =
      gathered-by (λ k. Unit {0}) rank_of p path_of (leader_keys [] path_of xs) xs (keys-ordered xs [] xs [] refl full tt full tt ranked)
      (all-map (λ x. (is_empty (path_of x) ≡ false) × (is_among (first_key (path_of x)) (leader_keys [] path_of xs) ≡ true))
      (IsKeyed (λ k. Unit {0}) (leader_keys [] path_of xs) path_of) xs (λ x g. (g.0, g.1, tt))
      (all-both (λ x. is_empty (path_of x) ≡ false) (λ x. is_among (first_key (path_of x)) (leader_keys [] path_of xs)
      ≡ true) xs full (led [] path_of xs)))
      ∙ flat_map-map (λ k. sorted_by (λ y z. keys_before rank_of p (path_of y) (path_of z)) (group k path_of xs))
      (λ x. first_key (path_of x)) (leaders [] path_of xs)

leading-from : {X : Type 0} (path_of : X → List Segment) (all seen_before : List X) (xs : List X) (seen : List Text)
    → all ≡ seen_before ++ xs → AllFilled path_of seen_before → AllFilled path_of xs → AllByRecursion (IsSeen seen path_of) seen_before
    → AllByRecursion (λ x. (is_empty (path_of x) ≡ false) × Leads path_of all x) (leaders seen path_of xs)
leading-from path_of all seen_before [] seen is full_before full_xs old = tt
leading-from path_of all seen_before (x ∷ xs) seen is full_before full_xs old =
    let k : Text = first_key (path_of x) in
    let here : all ≡ (seen_before ++ one x) ++ xs = is ∙ sym (append_assoc seen_before (one x) xs) in
    let full_here : AllFilled path_of (seen_before ++ one x) =
    all-append (λ y. is_empty (path_of y) ≡ false) seen_before (one x) full_before (full_xs.0, tt) in
    elim (cases_Bool (is_among k seen)) [
      | inl e ↦
          rw e
          (leading-from path_of all (seen_before ++ one x) xs seen here full_here full_xs.1
          (all-append (IsSeen seen path_of) seen_before (one x) old (e, tt)))
      | inr e ↦
          rw e (
            (
              full_xs.0,
              (
                group k path_of xs,
                ap (group k path_of) is
                    ∙ filter-append (λ y. has_first k (path_of y)) seen_before (x ∷ xs)
                    ∙ ap (λ ys. ys ++ group k path_of (x ∷ xs))
                    (none-left (λ y. has_first k (path_of y)) seen_before
                    (all-map (λ y. (has_first k (path_of y) ≡ false) × (has_first k (path_of y) ≡ false)) (λ y. has_first k (path_of y)
                    ≡ false) seen_before (λ y h. h.0)
                    (fails-before path_of k k seen seen_before e e full_before old)))
                    ∙ rw (first-is k (path_of x) full_xs.0 ∙ same_text-refl k) refl,
              ),
            ),
            leading-from path_of all (seen_before ++ one x) xs (seen ++ one k) here full_here full_xs.1
                (all-append (IsSeen (seen ++ one k) path_of) seen_before (one x) (still-seen path_of k seen seen_before old)
                (now-seen k seen, tt)),
          )
    ]

-- Each leader is the first line of its key.
pub leading : {X : Type 0} (path_of : X → List Segment) (xs : List X) → AllFilled path_of xs
    → AllByRecursion (λ x. (is_empty (path_of x) ≡ false) × Leads path_of xs x) (leaders [] path_of xs)
leading path_of xs full = leading-from path_of xs [] xs [] refl tt full tt
