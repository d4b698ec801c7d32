-- The ranks of the paths of a document, and the order in which its mentions come.
use Rattle.std.proofs.Common.{◌≡◌, refl, sym, ◌∙◌, ap, subst, ℕ, ◌+◌, Bool, true, false, List, [], ◌∷◌, ◌++◌, append_assoc, inl, inr}
use Rattle.std.specs.Prelude.{◌&&◌, ◌||◌, nat_lt, flat_map, if◌then◌else◌}
use Rattle.std.specs.List.{AllByRecursion, list_any}
use Rattle.std.proofs.lemmas.Bool.{cases_Bool}
use Rattle.std.proofs.lemmas.List.Folds.{flat_map-map}
use Rattle.toml_edit_model.specs.Text.{Text, same_text, one}
use Rattle.toml_edit_model.specs.Syntax.{Segment, Statement, key_line, header, Document}
use Rattle.toml_edit_model.specs.Paths.{Step, at_key, Path, same_step, same_path, to_key, path_start, header_role_of, Mention, next_start}
use Rattle.toml_edit_model.specs.Paths.{line_mentions, elements_at, in_last, header_mentions, header_path, keys_of, Placed, Context}
use Rattle.toml_edit_model.specs.Paths.{context_after, mentions_of, source_of, placed_from, start_context, placed, all_mentions}
use Rattle.toml_edit_laws.proofs.common.Tests.{true-false, false-by}
use Rattle.toml_edit_laws.proofs.common.OrderLaws.{passes_first, place-first}
use Rattle.toml_edit_laws.proofs.common.PathLaws.{same_step-is, same_step-refl, same_path-is, is_front, front-refl, front-key, front-more}
use Rattle.toml_edit_laws.proofs.common.PathLaws.{front-through, front-keys, in_last-front}
use Rattle.toml_edit_laws.proofs.mentions.Placed.{mention_lists}
use Rattle.toml_edit_laws.proofs.common.Each.{all-map}
use Rattle.toml_edit_model.specs.Roles.{Role}
use Rattle.toml_edit_model.specs.Kept.{rank}
use Rattle.toml_edit_model.specs.TableMentions.{inside, under}

-- the mention is of the path
abbrev pub is_at : {S : Type 0} → Path → Mention S → Bool
is_at q m = same_path q m.path

-- Two paths that part at their last keys are ranked as they are first mentioned. The ranks are of the paths from p on.
abbrev pub RanksFollow : {S : Type 0} → (Path → ℕ) → Path → List (Mention S) → Type 0
RanksFollow rank_of p ms =
    (q : Path) (k l : Text) → same_text k l ≡ false → passes_first (is_at (to_key q k)) (is_at (to_key q l)) ms ≡ true
    → nat_lt (rank_of (p ++ to_key q k)) (rank_of (p ++ to_key q l)) ≡ true

-- ---- one step down

first-inside : {S : Type 0} (s : Step) (q r : Path) (m : Mention S) (p : Path) (ms ns : List (Mention S))
    → passes_first (is_at q) (is_at r) ms ≡ passes_first (is_at (s ∷ q)) (is_at (s ∷ r)) ns
    → passes_first (is_at q) (is_at r) (inside s m p ++ ms) ≡ passes_first (is_at (s ∷ q)) (is_at (s ∷ r)) ((record m { path = p }) ∷ ns)
first-inside s q r m [] ms ns h = h
first-inside s q r m (t ∷ p) ms ns h =
    elim (cases_Bool (same_step t s)) [
      | inl e ↦
          let same : same_step s t ≡ true = ap (same_step s) (same_step-is t s e) ∙ same_step-refl s in
          rw (e, same) (ap (λ b. if same_path r p then false else (if same_path q p then true else b)) h)
      | inr e ↦
          let apart : same_step s t ≡ false =
          false-by (same_step s t) (λ g. true-false (same_step t s) (ap (same_step t) (same_step-is s t g) ∙ same_step-refl t) e) in
          rw (e, apart) h
    ]

first-under : {S : Type 0} (s : Step) (q r : Path) (ms : List (Mention S))
    → passes_first (is_at q) (is_at r) (under s ms) ≡ passes_first (is_at (s ∷ q)) (is_at (s ∷ r)) ms
first-under s q r [] = refl
first-under s q r (m ∷ ms) = first-inside s q r m m.path (under s ms) ms (first-under s q r ms)

pub under-follow : {S : Type 0} (rank_of : Path → ℕ) (p : Path) (s : Step) (ms : List (Mention S)) → RanksFollow rank_of p ms
    → RanksFollow rank_of (p ++ one s) (under s ms)
under-follow rank_of p s ms h q k l apart first =
    ap (λ u. nat_lt (rank_of u) (rank_of ((p ++ one s) ++ to_key q l))) (append_assoc p (one s) (to_key q k))
    ∙ ap (λ u. nat_lt (rank_of (p ++ to_key (s ∷ q) k)) (rank_of u)) (append_assoc p (one s) (to_key q l))
    ∙ h (s ∷ q) k l apart (sym (first-under s (to_key q k) (to_key q l) ms) ∙ first)

-- ---- ranks are places of first mentions

-- no element passes one test, or none the other
abbrev NotBoth : {A : Type 0} → (A → Bool) → (A → Bool) → List A → Type 0
NotBoth test other xs = (list_any test xs && list_any other xs) ≡ false

first-append : {A : Type 0} (test other : A → Bool) (xs ys : List A) → NotBoth test other xs
    → passes_first test other (xs ++ ys) ≡ (if list_any other xs then false
    else (if list_any test xs then true else passes_first test other ys))
first-append test other [] ys h = refl
first-append test other (x ∷ xs) ys h =
    by_tests (test x) (other x) (list_any test xs) (list_any other xs) (passes_first test other ys) (passes_first test other (xs ++ ys)) h
    (first-append test other xs ys)
  where
    by_tests : (a b c d e f : Bool) → ((a || c) && (b || d)) ≡ false
        → ((c && d) ≡ false → f ≡ (if d then false else (if c then true else e)))
        → (if b then false else (if a then true else f)) ≡ (if b || d then false else (if a || c then true else e))
    by_tests a true c d e f h ih = refl
    by_tests true false c true e f h ih = cc
    by_tests true false c false e f h ih = refl
    by_tests false false c d e f h ih = ih h

first-joined : {A : Type 0} (test other : A → Bool) (xss : List (List A)) → AllByRecursion (NotBoth test other) xss
    → passes_first test other (flat_map (λ xs. xs) xss) ≡ passes_first (list_any test) (list_any other) xss
first-joined test other [] h = refl
first-joined test other (xs ∷ xss) h =
    first-append test other xs (flat_map (λ ys. ys) xss) h.0
    ∙ ap (λ b. if list_any other xs then false else (if list_any test xs then true else b)) (first-joined test other xss h.1)

-- the mentions are of one path and those that it goes on from
abbrev pub AreAlong : {S : Type 0} → Path → List (Mention S) → Type 0
AreAlong p ms = AllByRecursion (λ m. is_front m.path p ≡ true) ms

along-at : {S : Type 0} (p q : Path) (ms : List (Mention S)) → AreAlong p ms → list_any (is_at q) ms ≡ true → is_front q p ≡ true
along-at p q [] h g = absurd cc
along-at p q (m ∷ ms) h g =
    elim (cases_Bool (same_path q m.path)) [
      | inl e ↦ subst (λ r. is_front r p ≡ true) (sym (same_path-is q m.path e)) h.0
      | inr e ↦ along-at p q ms h.1 (ap (λ b. b || list_any (is_at q) ms) (sym e) ∙ g)
    ]

-- so they aren't of two paths that part
one-of-two : {S : Type 0} (p q : Path) (k l : Text) (ms : List (Mention S)) → same_text k l ≡ false → AreAlong p ms
    → NotBoth (is_at (to_key q k)) (is_at (to_key q l)) ms
one-of-two p q k l ms apart h = by_tests (list_any (is_at (to_key q k)) ms) (list_any (is_at (to_key q l)) ms) refl refl
  where
    by_tests : (a b : Bool) → list_any (is_at (to_key q k)) ms ≡ a → list_any (is_at (to_key q l)) ms ≡ b → (a && b) ≡ false
    by_tests false b e g = refl
    by_tests true false e g = refl
    by_tests true true e g =
        true-false (same_text k l) (front-keys q p k l (along-at p (to_key q k) ms h e) (along-at p (to_key q l) ms h g)) apart

-- each list of mentions is along some path
abbrev pub AllAlong : {S : Type 0} → List (List (Mention S)) → Type 0
AllAlong mss = AllByRecursion (λ ms. (p : Path) × AreAlong p ms) mss

pub ranks-follow : {S : Type 0} (mss : List (List (Mention S))) → AllAlong mss → RanksFollow (rank mss) [] (flat_map (λ ms. ms) mss)
ranks-follow {S = S} mss h q k l apart first =
    place-first (list_any (is_at (to_key q k))) (list_any (is_at (to_key q l))) mss
    ∙ sym (first-joined (is_at (to_key q k)) (is_at (to_key q l)) mss
    (all-map (λ ms. (p : Path) × AreAlong p ms) (NotBoth (is_at (to_key q k)) (is_at (to_key q l))) mss
    (λ ms g. one-of-two g.0 q k l ms apart g.1) h))
    ∙ first

-- ---- the mentions of a statement

-- the mentions of a line are along its path
pub line-along : {S : Type 0} (source : S) (start : ℕ) (p : Path) (ss : List Segment)
    → AreAlong (p ++ keys_of ss) (line_mentions source start p ss)
line-along source start p [] = tt
line-along source start p (s ∷ []) = (front-key p s.key [], tt)
line-along {S = S} source start p (s ∷ r ∷ rest) = (
  front-key p s.key (keys_of (r ∷ rest)),
  subst (λ q. AreAlong q (line_mentions source (next_start start s) (to_key p s.key) (r ∷ rest)))
      (append_assoc p (one (at_key s.key)) (keys_of (r ∷ rest)))
      (line-along source (next_start start s) (to_key p s.key) (r ∷ rest)),
)

front-header : (arrays : List Path) (p : Path) (ss : List Segment) → is_front p (header_path arrays p ss) ≡ true
front-header arrays p [] = front-refl p
front-header arrays p (s ∷ []) = front-more p (one (at_key s.key))
front-header arrays p (s ∷ r ∷ rest) =
    let here : Path = to_key p s.key in
    let next : Path = in_last (elements_at arrays here) here in
    front-through p here (header_path arrays next (r ∷ rest)) (front-more p (one (at_key s.key)))
    (front-through here next (header_path arrays next (r ∷ rest)) (in_last-front (elements_at arrays here) here)
    (front-header arrays next (r ∷ rest)))

-- and those of a header
pub header-along : {S : Type 0} (source : S) (arrays : List Path) (role : Role) (start : ℕ) (p : Path) (ss : List Segment)
    → AreAlong (header_path arrays p ss) (header_mentions source arrays role start p ss)
header-along source arrays role start p [] = tt
header-along source arrays role start p (s ∷ []) = (front-refl (to_key p s.key), tt)
header-along source arrays role start p (s ∷ r ∷ rest) =
    let here : Path = to_key p s.key in
    let next : Path = in_last (elements_at arrays here) here in (
      front-through here next (header_path arrays next (r ∷ rest)) (in_last-front (elements_at arrays here) here)
          (front-header arrays next (r ∷ rest)),
      header-along source arrays role (next_start start s) next (r ∷ rest),
    )

statement-along : (c : Context) (s : Statement) → (p : Path) × AreAlong p (mentions_of c s)
statement-along c (key_line f v end) =
    (c.block ++ keys_of f.path, line-along (source_of c (key_line f v end)) (c.start + path_start (key_line f v end)) c.block f.path)
statement-along c (header h end) = (
  header_path c.arrays [] h.path,
  header-along (source_of c (header h end)) c.arrays (header_role_of h) (c.start
      + path_start (header h end)) [] h.path,
)

placed-along : (c : Context) (ss : List Statement) → AllAlong (mention_lists (placed_from c ss))
placed-along c [] = tt
placed-along c (s ∷ ss) = (statement-along c s, placed-along (context_after c s) ss)

-- In a document paths that part are ranked as they are first mentioned.
pub document-follow : (d : Document) → RanksFollow (rank (mention_lists (placed d))) [] (all_mentions d)
document-follow d =
    subst (RanksFollow (rank (mention_lists (placed d))) []) (flat_map-map (λ ms. ms) (λ (s : Placed). s.mentions) (placed d))
    (ranks-follow (mention_lists (placed d)) (placed-along (start_context d) d.statements))
