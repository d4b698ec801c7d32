-- The mentions of lines below one path: those under a key, and those that keys are kept from.
use Rattle.std.proofs.Common.{◌≡◌, refl, sym, ◌∙◌, ap, ℕ, Bool, true, false, List, [], ◌∷◌, ◌++◌, append_assoc, inl, inr}
use Rattle.std.specs.Prelude.{◌&&◌, ◌||◌, not, filter, flat_map, if◌then◌else◌}
use Rattle.std.specs.List.{AllByRecursion}
use Rattle.std.proofs.lemmas.Bool.{cases_Bool}
use Rattle.std.proofs.lemmas.List.Elements.{filter-append}
use Rattle.std.proofs.lemmas.List.Folds.{list_any-append}
use Rattle.toml_edit_model.specs.Text.{Text, same_text, one, is_empty}
use Rattle.toml_edit_model.specs.Syntax.{Segment}
use Rattle.toml_edit_model.specs.Paths.{Step, at_key, Path, same_path, to_key, Mention, mention_of, next_start, line_mentions}
use Rattle.toml_edit_laws.specs.FlatTree.{is_among}
use Rattle.toml_edit_laws.proofs.common.Tests.{and-true, or-false, append-nil, same_text-is, same_text-swap}
use Rattle.toml_edit_laws.proofs.mentions.GatheredLines.{first_key, rest_of, has_first, group, rests, AllFilled}
use Rattle.toml_edit_laws.proofs.mentions.Leaders.{leaders}
use Rattle.toml_edit_laws.proofs.mentions.SomeAt.{under-append}
use Rattle.toml_edit_laws.proofs.common.Each.{all-append}
use Rattle.toml_edit_laws.proofs.common.Lists.{not_empty-last}
use Rattle.toml_edit_model.specs.Roles.{Role, dotted_role, value_role, is_header_role, any_role}
use Rattle.toml_edit_model.specs.TableMentions.{inside, under, some_at, is_single, is_slot, kept_from, kept}

-- the role of the first mention of a line, by what follows it
abbrev pub first_role : List Segment → Role
first_role [] = value_role
first_role (s ∷ rest) = dotted_role

-- where the rest of the keys begins
abbrev pub below_start : ℕ → List Segment → ℕ
below_start start [] = start
below_start start (s ∷ rest) = next_start start s

-- the first mention of a line whose keys begin in this table
abbrev pub first_mention : {S : Type 0} → S → ℕ → List Segment → List (Mention S)
first_mention source start [] = []
first_mention source start (s ∷ rest) = mention_of source start (one (at_key s.key)) (first_role rest) s ∷ []

-- the mentions of keys below the table itself
abbrev pub lower : {S : Type 0} → List (Mention S) → List (Mention S)
lower ms = filter (λ m. not (is_empty m.path)) ms

-- ---- the table's own mentions make no difference

pub under-lower : {S : Type 0} (s : Step) (ms : List (Mention S)) → under s ms ≡ under s (lower ms)
under-lower s [] = refl
under-lower {S = S} s (m ∷ ms) = by_path m.path (under-lower s ms)
  where
    by_path : (p : Path) → under s ms ≡ under s (lower ms) → under s ((record m { path = p }) ∷ ms)
        ≡ under s (lower ((record m { path = p }) ∷ ms))
    by_path [] ih = ih
    by_path (t ∷ p) ih = ap (λ ns. inside s (record m { path = t ∷ p }) (t ∷ p) ++ ns) ih

at-lower : {S : Type 0} (test : Role → Bool) (s : Step) (q : Path) (ms : List (Mention S)) → some_at test (s ∷ q) ms
    ≡ some_at test (s ∷ q) (lower ms)
at-lower test s q [] = refl
at-lower {S = S} test s q (m ∷ ms) = by_path m.path (at-lower test s q ms)
  where
    by_path : (p : Path) → some_at test (s ∷ q) ms ≡ some_at test (s ∷ q) (lower ms)
        → some_at test (s ∷ q) ((record m { path = p }) ∷ ms) ≡ some_at test (s ∷ q) (lower ((record m { path = p }) ∷ ms))
    by_path [] ih = ih
    by_path (t ∷ p) ih = ap (λ b. (same_path (t ∷ p) (s ∷ q) && test m.role) || b) ih

pub lower-append : {S : Type 0} (ms ns : List (Mention S)) → lower (ms ++ ns) ≡ lower ms ++ lower ns
lower-append ms ns = filter-append (λ m. not (is_empty m.path)) ms ns

kept-lower-from : {S : Type 0} (before ms : List (Mention S)) → kept_from before ms ≡ kept_from (lower before) (lower ms)
kept-lower-from before [] = refl
kept-lower-from {S = S} before (m ∷ ms) = by_path m.path (λ p. kept-lower-from (before ++ one (record m { path = p })) ms)
  where
    by_path : (p : Path)
        → ((p : Path) → kept_from (before ++ one (record m { path = p })) ms
        ≡ kept_from (lower (before ++ one (record m { path = p }))) (lower ms))
        → kept_from before ((record m { path = p }) ∷ ms) ≡ kept_from (lower before) (lower ((record m { path = p }) ∷ ms))
    by_path [] ih = ih [] ∙ ap (λ b. kept_from b (lower ms)) (lower-append before (one (record m { path = [] }))
        ∙ append-nil (lower before))
    by_path (t ∷ p) ih =
        let n : Mention S = record m { path = t ∷ p } in
        ap (λ b. if b then n ∷ kept_from (before ++ one n) ms else kept_from (before ++ one n) ms)
        (ap (λ b. is_single (t ∷ p) && (is_header_role m.role || (not b && not (some_at is_header_role (t ∷ p) ms))))
        (at-lower any_role t p before)
        ∙ ap (λ b. is_single (t ∷ p) && (is_header_role m.role || (not (some_at any_role (t ∷ p) (lower before)) && not b)))
        (at-lower is_header_role t p ms))
        ∙ ap (λ ks. if is_slot (lower before) n (lower ms) then n ∷ ks else ks)
        (ih (t ∷ p) ∙ ap (λ b. kept_from b (lower ms)) (lower-append before (one n)))

pub kept-lower : {S : Type 0} (ms : List (Mention S)) → kept ms ≡ kept (lower ms)
kept-lower ms = kept-lower-from [] ms

-- ---- under a key

-- a line whose paths begin with a key
under-line : {S : Type 0} (source : S) (start : ℕ) (k l : Text) (p : Path) (ss : List Segment)
    → under (at_key k) (line_mentions source start (at_key l ∷ p) ss) ≡ (if same_text l k then line_mentions source start p ss else [])
under-line source start k l p [] = elim (cases_Bool (same_text l k)) [ inl e ↦ rw e refl | inr e ↦ rw e refl ]
under-line source start k l p (s ∷ []) =
    elim (cases_Bool (same_text l k)) [ inl e ↦ rw e refl | inr e ↦ rw e refl ]
under-line source start k l p (s ∷ r ∷ rest) =
    ap (λ ms. (if same_text l k then mention_of source start (to_key p s.key) dotted_role s ∷ [] else []) ++ ms)
    (under-line source (next_start start s) k l (to_key p s.key) (r ∷ rest))
    ∙ elim (cases_Bool (same_text l k)) [ inl e ↦ rw e refl | inr e ↦ rw e refl ]

pub lower-line : {S : Type 0} (source : S) (start : ℕ) (p : Path) (ss : List Segment) → lower (line_mentions source start p ss)
    ≡ line_mentions source start p ss
lower-line source start p [] = refl
lower-line source start p (s ∷ []) = rw (not_empty-last p (at_key s.key)) refl
lower-line source start p (s ∷ r ∷ rest) =
    rw (not_empty-last p (at_key s.key))
    (ap (λ ms. mention_of source start (to_key p s.key) dotted_role s
    ∷ ms) (lower-line source (next_start start s) (to_key p s.key) (r ∷ rest)))

-- under a key stand the rests of the lines that begin with it
below-line : {S : Type 0} (source : S) (start : ℕ) (k : Text) (ss : List Segment)
    → lower (under (at_key k) (line_mentions source start [] ss))
    ≡ (if has_first k ss then line_mentions source (below_start start ss) [] (rest_of ss) else [])
below-line source start k [] = refl
below-line source start k (s ∷ []) =
    rw (same_text-swap s.key k) (elim (cases_Bool (same_text k s.key)) [ inl e ↦ rw e refl | inr e ↦ rw e refl ])
below-line source start k (s ∷ r ∷ rest) =
    ap (λ ms. lower (inside (at_key k) (mention_of source start (one (at_key s.key)) dotted_role s) (one (at_key s.key)) ++ ms))
    (under-line source (next_start start s) k s.key [] (r ∷ rest))
    ∙ rw (same_text-swap s.key k) (elim (cases_Bool (same_text k s.key)) [
      | inl e ↦
          rw e (lower-line source (next_start start s) [] (r ∷ rest))
      | inr e ↦ rw e refl
    ])

-- the lines of a table, as far as their keys begin in it
abbrev pub flat_lines : {S X : Type 0} → (X → S) → (X → ℕ) → (X → List Segment) → List X → List (Mention S)
flat_lines source start path_of xs = flat_map (λ x. line_mentions (source x) (start x) [] (path_of x)) xs

-- Under a key stand the rests of the lines of its group.
pub below-lines : {S X : Type 0} (source : X → S) (start : X → ℕ) (path_of : X → List Segment) (k : Text) (xs : List X)
    → lower (under (at_key k) (flat_lines source start path_of xs))
    ≡ flat_lines source (λ x. below_start (start x) (path_of x)) (rests path_of) (group k path_of xs)
below-lines source start path_of k [] = refl
below-lines source start path_of k (x ∷ xs) =
    ap lower (under-append (at_key k) (line_mentions (source x) (start x) [] (path_of x)) (flat_lines source start path_of xs))
    ∙ lower-append (under (at_key k) (line_mentions (source x) (start x) [] (path_of x)))
    (under (at_key k) (flat_lines source start path_of xs))
    ∙ ap (λ ms. ms ++ lower (under (at_key k) (flat_lines source start path_of xs))) (below-line (source x) (start x) k (path_of x))
    ∙ ap (λ ms. (if has_first k (path_of x) then line_mentions (source x) (below_start (start x) (path_of x)) [] (rest_of (path_of x))
    else []) ++ ms)
    (below-lines source start path_of k xs)
    ∙ elim (cases_Bool (has_first k (path_of x))) [ inl e ↦ rw e refl | inr e ↦ rw e refl ]

-- ---- kept mentions

-- no mention is of a header
abbrev pub NoHeaders : {S : Type 0} → List (Mention S) → Type 0
NoHeaders ms = AllByRecursion (λ m. is_header_role m.role ≡ false) ms

pub line-headers : {S : Type 0} (source : S) (start : ℕ) (p : Path) (ss : List Segment) → NoHeaders (line_mentions source start p ss)
line-headers source start p [] = tt
line-headers source start p (s ∷ []) = (refl, tt)
line-headers source start p (s ∷ r ∷ rest) = (refl, line-headers source (next_start start s) (to_key p s.key) (r ∷ rest))

pub lines-headers : {S X : Type 0} (source : X → S) (start : X → ℕ) (path_of : X → List Segment) (xs : List X)
    → NoHeaders (flat_lines source start path_of xs)
lines-headers source start path_of [] = tt
lines-headers {S = S} source start path_of (x ∷ xs) =
    all-append (λ (m : Mention S). is_header_role m.role
    ≡ false) (line_mentions (source x) (start x) [] (path_of x)) (flat_lines source start path_of xs)
    (line-headers (source x) (start x) [] (path_of x)) (lines-headers source start path_of xs)

no-header-at : {S : Type 0} (p : Path) (ms : List (Mention S)) → NoHeaders ms → some_at is_header_role p ms ≡ false
no-header-at p [] h = refl
no-header-at p (m ∷ ms) h = rw h.0 (ap (λ b. (same_path m.path p && false) || b) (no-header-at p ms h.1) ∙ none (same_path m.path p))
  where
    none : (b : Bool) → ((b && false) || false) ≡ false
    none true = refl
    none false = refl

-- longer paths are of no slots here
not-single : (k : Text) (p : Path) (s : Step) → is_single (at_key k ∷ (p ++ one s)) ≡ false
not-single k [] s = refl
not-single k (t ∷ p) s = refl

long-path : (k l : Text) (p : Path) (s : Step) → same_path (at_key l ∷ (p ++ one s)) (one (at_key k)) ≡ false
long-path k l [] s = none (same_text l k)
  where
    none : (b : Bool) → (b && false) ≡ false
    none true = refl
    none false = refl
long-path k l (t ∷ p) s = none (same_text l k)
  where
    none : (b : Bool) → (b && false) ≡ false
    none true = refl
    none false = refl

skip-longer : {S : Type 0} (source : S) (start : ℕ) (k : Text) (p : Path) (ss : List Segment) (before more : List (Mention S))
    → kept_from before (line_mentions source start (at_key k ∷ p) ss ++ more)
    ≡ kept_from (before ++ line_mentions source start (at_key k ∷ p) ss) more
skip-longer source start k p [] before more = ap (λ b. kept_from b more) (sym (append-nil before))
skip-longer source start k p (s ∷ []) before more = rw (not-single k p (at_key s.key)) refl
skip-longer {S = S} source start k p (s ∷ r ∷ rest) before more =
    let m : Mention S = mention_of source start (at_key k ∷ to_key p s.key) dotted_role s in
    rw (not-single k p (at_key s.key))
    (skip-longer source (next_start start s) k (to_key p s.key) (r ∷ rest) (before ++ one m) more
    ∙ ap (λ b. kept_from b more)
    (append_assoc before (one m) (line_mentions source (next_start start s) (at_key k ∷ to_key p s.key) (r ∷ rest))))

none-longer : {S : Type 0} (source : S) (start : ℕ) (k l : Text) (p : Path) (ss : List Segment)
    → some_at any_role (one (at_key k)) (line_mentions source start (at_key l ∷ p) ss) ≡ false
none-longer source start k l p [] = refl
none-longer source start k l p (s ∷ []) = rw (long-path k l p (at_key s.key)) refl
none-longer source start k l p (s ∷ r ∷ rest) =
    rw (long-path k l p (at_key s.key)) (none-longer source (next_start start s) k l (to_key p s.key) (r ∷ rest))

-- the first mention of a line, and the others
pub line-from : {S : Type 0} (source : S) (start : ℕ) (p : Path) (s : Segment) (rest : List Segment)
    → line_mentions source start p (s ∷ rest)
    ≡ mention_of source start (to_key p s.key) (first_role rest) s ∷ line_mentions source (next_start start s) (to_key p s.key) rest
line-from source start p s [] = refl
line-from source start p s (r ∷ rest) = refl

plain-role : (rest : List Segment) → is_header_role (first_role rest) ≡ false
plain-role [] = refl
plain-role (s ∷ rest) = refl

line-at : {S : Type 0} (source : S) (start : ℕ) (k : Text) (s : Segment) (rest : List Segment)
    → some_at any_role (one (at_key k)) (line_mentions source start [] (s ∷ rest)) ≡ same_text k s.key
line-at source start k s rest =
    ap (some_at any_role (one (at_key k))) (line-from source start [] s rest)
    ∙ ap (λ b. ((same_text s.key k && true) && true) || b) (none-longer source (next_start start s) k s.key [] rest)
    ∙ or-false ((same_text s.key k && true) && true)
    ∙ and-true (same_text s.key k && true)
    ∙ and-true (same_text s.key k)
    ∙ same_text-swap s.key k

-- a line gives a slot where its first key wasn't mentioned
kept-line : {S : Type 0} (source : S) (start : ℕ) (s : Segment) (rest : List Segment) (before more : List (Mention S)) → NoHeaders more
    → kept_from before (line_mentions source start [] (s ∷ rest) ++ more)
    ≡ (if some_at any_role (one (at_key s.key)) before then kept_from (before ++ line_mentions source start [] (s ∷ rest)) more
    else mention_of source start (one (at_key s.key)) (first_role rest) s
    ∷ kept_from (before ++ line_mentions source start [] (s ∷ rest)) more)
kept-line {S = S} source start s rest before more h =
    let m : Mention S = mention_of source start (one (at_key s.key)) (first_role rest) s in
    let longer : List (Mention S) = line_mentions source (next_start start s) (one (at_key s.key)) rest in
    let none : some_at is_header_role (one (at_key s.key)) (longer ++ more) ≡ false =
    no-header-at (one (at_key s.key)) (longer ++ more)
    (all-append (λ (n : Mention S). is_header_role n.role
    ≡ false) longer more (line-headers source (next_start start s) (one (at_key s.key)) rest) h) in
    let after : kept_from (before ++ one m) (longer ++ more) ≡ kept_from (before ++ line_mentions source start [] (s ∷ rest)) more =
    skip-longer source (next_start start s) s.key [] rest (before ++ one m) more
    ∙ ap (λ b. kept_from b more) (append_assoc before (one m) longer ∙ ap (λ ms. before ++ ms) (sym (line-from source start [] s rest))) in
    let seen : Bool = some_at any_role (one (at_key s.key)) before in
    ap (λ ms. kept_from before (ms ++ more)) (line-from source start [] s rest)
    ∙ by_tests (is_header_role (first_role rest)) seen (some_at is_header_role (one (at_key s.key)) (longer ++ more))
    (kept_from (before ++ one m) (longer ++ more)) (m ∷ kept_from (before ++ one m) (longer ++ more)) (plain-role rest) none
    ∙ ap (λ ks. if seen then ks else m ∷ ks) after
  where
    by_tests : {A : Type 0} (a b c : Bool) (x y : A) → a ≡ false → c ≡ false → (if a || (not b && not c) then y else x)
        ≡ (if b then x else y)
    by_tests true b c x y e g = cc
    by_tests false b true x y e g = cc
    by_tests false true false x y e g = refl
    by_tests false false false x y e g = refl

-- these keys, and no others, were mentioned
abbrev AreSeen : {S : Type 0} → List (Mention S) → List Text → Type 0
AreSeen before seen = (k : Text) → some_at any_role (one (at_key k)) before ≡ is_among k seen

more-seen : {S : Type 0} (source : S) (start : ℕ) (s : Segment) (rest : List Segment) (before : List (Mention S)) (seen : List Text)
    → AreSeen before seen
    → AreSeen (before ++ line_mentions source start [] (s ∷ rest)) (seen ++ one s.key)
more-seen {S = S} source start s rest before seen h k =
    list_any-append (λ (m : Mention S). same_path m.path (one (at_key k))
    && any_role m.role) before (line_mentions source start [] (s ∷ rest))
    ∙ ap (λ b. b || some_at any_role (one (at_key k)) (line_mentions source start [] (s ∷ rest))) (h k)
    ∙ ap (λ b. is_among k seen || b) (line-at source start k s rest ∙ sym (or-false (same_text k s.key)))
    ∙ sym (list_any-append (same_text k) seen (one s.key))

-- a key that was mentioned before adds none
seen-again : (k l : Text) (seen : List Text) → is_among k seen ≡ true → is_among l (seen ++ one k) ≡ is_among l seen
seen-again k l seen h =
    list_any-append (same_text l) seen (one k)
    ∙ elim (cases_Bool (same_text l k)) [
      | inl e ↦ rw (e, ap (λ t. is_among t seen) (same_text-is l k e) ∙ h) refl
      | inr e ↦ rw e (or-false (is_among l seen))
    ]

through-if : {A B : Type 0} (f : A → B) (b : Bool) (x y : A) → f (if b then x else y) ≡ (if b then f x else f y)
through-if f true x y = refl
through-if f false x y = refl

kept-from-lines : {S X : Type 0} (source : X → S) (start : X → ℕ) (path_of : X
    → List Segment) (before : List (Mention S)) (seen : List Text) (xs : List X)
    → AreSeen before seen → AllFilled path_of xs
    → kept_from before (flat_lines source start path_of xs)
    ≡ flat_map (λ x. first_mention (source x) (start x) (path_of x)) (leaders seen path_of xs)
kept-from-lines source start path_of before seen [] h full = refl
kept-from-lines {S = S} {X = X} source start path_of before seen (x ∷ xs) h full =
    by_keys (path_of x) full.0 (λ b t g. kept-from-lines source start path_of b t xs g full.1)
    ∙ sym (through-if first_mentions (is_among (first_key (path_of x)) seen) (leaders seen path_of xs) (x
    ∷ leaders (seen ++ one (first_key (path_of x))) path_of xs))
  where
    first_mentions : List X → List (Mention S)
    first_mentions ys = flat_map (λ y. first_mention (source y) (start y) (path_of y)) ys

    by_keys : (ss : List Segment) → is_empty ss ≡ false
        → ((b : List (Mention S)) (t : List Text) → AreSeen b t → kept_from b (flat_lines source start path_of xs)
        ≡ first_mentions (leaders t path_of xs))
        → kept_from before (line_mentions (source x) (start x) [] ss ++ flat_lines source start path_of xs)
        ≡ (if is_among (first_key ss) seen then first_mentions (leaders seen path_of xs)
        else first_mention (source x) (start x) ss ++ first_mentions (leaders (seen ++ one (first_key ss)) path_of xs))
    by_keys [] e ih = absurd cc
    by_keys (s ∷ rest) e ih =
        let line : List (Mention S) = line_mentions (source x) (start x) [] (s ∷ rest) in
        let here : AreSeen (before ++ line) (seen ++ one s.key) = more-seen (source x) (start x) s rest before seen h in
        kept-line (source x) (start x) s rest before (flat_lines source start path_of xs) (lines-headers source start path_of xs)
        ∙ rw (h s.key) (elim (cases_Bool (is_among s.key seen)) [
          | inl g ↦ rw g (ih (before ++ line) seen (λ k. here k ∙ seen-again s.key k seen g))
          | inr g ↦ rw g (ap (λ ms. mention_of (source x) (start x) (one (at_key s.key)) (first_role rest) s
              ∷ ms) (ih (before ++ line) (seen ++ one s.key) here))
        ])

-- The slots of a table of lines are those of the first mentions of their leaders.
pub kept-lines : {S X : Type 0} (source : X → S) (start : X → ℕ) (path_of : X → List Segment) (xs : List X) → AllFilled path_of xs
    → kept (flat_lines source start path_of xs) ≡ flat_map (λ x. first_mention (source x) (start x) (path_of x)) (leaders [] path_of xs)
kept-lines source start path_of xs full = kept-from-lines source start path_of [] [] xs (λ k. refl) full
