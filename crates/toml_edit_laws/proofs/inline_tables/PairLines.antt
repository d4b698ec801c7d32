-- The mentions of two lines or pairs: which stands before the other, and when they agree.
use Rattle.std.proofs.Common.{◌≡◌, refl, sym, ◌∙◌, ap, subst, ℕ, Bool, true, false, List, [], ◌∷◌, ◌++◌, inl, inr}
use Rattle.std.specs.Prelude.{◌||◌, not, nat_lt, map, if◌then◌else◌}
use Rattle.std.specs.List.{AllByRecursion, list_all}
use Rattle.std.proofs.lemmas.Bool.{cases_Bool}
use Rattle.toml_edit_model.specs.Text.{Text, same_text, is_empty}
use Rattle.toml_edit_model.specs.Syntax.{Segment}
use Rattle.toml_edit_model.specs.Paths.{Path, same_path, to_key, Mention, mention_of, next_start, line_mentions}
use Rattle.toml_edit_model.specs.Accepted.{agree}
use Rattle.toml_edit_laws.proofs.common.Tests.{true-false, false-by, and_left, and_right, and_both, same_text-is}
use Rattle.toml_edit_laws.proofs.common.OrderLaws.{sorted-alike, sorted-image}
use Rattle.toml_edit_laws.proofs.common.PathLaws.{same_path-key}
use Rattle.toml_edit_laws.proofs.mentions.GatheredLines.{part_ways, keys_before}
use Rattle.toml_edit_laws.proofs.mentions.MentionGroups.{line-from, first_role, lower, lower-append, lower-line, flat_lines}
use Rattle.toml_edit_model.specs.Order.{sorted_by}
use Rattle.toml_edit_model.specs.Roles.{Role, dotted_role, value_role, may_meet_inline}
use Rattle.toml_edit_model.specs.Kept.{stands_before}

-- ---- the order of lines

-- Mentions of lines stand in the order of their keys.
pub stands-comes : {S : Type 0} (rank_of : Path → ℕ) (source other : S) (start next : ℕ) (p : Path) (ss rs : List Segment)
    → stands_before rank_of (line_mentions source start p ss) (line_mentions other next p rs) ≡ keys_before rank_of p ss rs
stands-comes rank_of source other start next p [] rs = refl
stands-comes rank_of source other start next p (s ∷ []) [] = refl
stands-comes rank_of source other start next p (s ∷ t ∷ ss) [] = refl
stands-comes {S = S} rank_of source other start next p (s ∷ ss) (r ∷ rs) =
    let first : Mention S = mention_of source start (to_key p s.key) (first_role ss) s in
    let more : List (Mention S) = line_mentions source (next_start start s) (to_key p s.key) ss in
    let later : Text → List (Mention S) = λ k. line_mentions other (next_start next r) (to_key p k) rs in
    ap (λ ms. stands_before rank_of ms (line_mentions other next p (r ∷ rs))) (line-from source start p s ss)
    ∙ ap (stands_before rank_of (first ∷ more)) (line-from other next p r rs)
    ∙ ap (λ b. if b then stands_before rank_of more (later r.key) else nat_lt (rank_of (to_key p s.key)) (rank_of (to_key p r.key)))
    (same_path-key p s.key r.key)
    ∙ elim (cases_Bool (same_text s.key r.key)) [
      | inl e ↦
          rw e
          (ap (λ k. stands_before rank_of more (later k)) (sym (same_text-is s.key r.key e))
          ∙ stands-comes rank_of source other (next_start start s) (next_start next r) (to_key p s.key) ss rs)
      | inr e ↦ rw e refl
    ]

-- Lines sorted by their mentions are sorted by their keys.
pub sorted-mentions : {S X : Type 0} (rank_of : Path → ℕ) (source : X → S) (start : X → ℕ) (p : Path) (path_of : X
    → List Segment) (xs : List X)
    → sorted_by (stands_before rank_of) (map (λ x. line_mentions (source x) (start x) p (path_of x)) xs)
    ≡ map (λ x. line_mentions (source x) (start x) p (path_of x)) (sorted_by (λ x y. keys_before rank_of p (path_of x) (path_of y)) xs)
sorted-mentions {S = S} {X = X} rank_of source start p path_of xs =
    sorted-image line (stands_before rank_of) xs
    ∙ ap (map line)
    (sorted-alike (λ x. Unit {0}) (λ x y. stands_before rank_of (line x) (line y)) (λ x y. keys_before rank_of p (path_of x) (path_of y))
    (λ x y h g. stands-comes rank_of (source x) (source y) (start x) (start y) p (path_of x) (path_of y)) xs (each xs))
  where
    line : X → List (Mention S)
    line x = line_mentions (source x) (start x) p (path_of x)

    each : (ys : List X) → AllByRecursion (λ x. Unit {0}) ys
    each [] = tt
    each (y ∷ ys) = (tt, each ys)

-- ---- agreement

abbrev agrees : {S : Type 0} → Mention S → Mention S → Bool
agrees m n = not (same_path m.path n.path) || may_meet_inline m.role n.role

-- all but the first of both agree
agree-rest : {S : Type 0} (m n : Mention S) (ms ns : List (Mention S)) → agree may_meet_inline (m ∷ ms) (n ∷ ns) ≡ true
    → agree may_meet_inline ms ns ≡ true
agree-rest {S = S} m n ms ns h = each ms (and_right (list_all (agrees m) (n ∷ ns)) (agree may_meet_inline ms (n ∷ ns)) h)
  where
    each : (xs : List (Mention S)) → agree may_meet_inline xs (n ∷ ns) ≡ true → agree may_meet_inline xs ns ≡ true
    each [] g = refl
    each (x ∷ xs) g =
        and_both (list_all (agrees x) ns) (agree may_meet_inline xs ns)
        (and_right (agrees x n) (list_all (agrees x) ns) (and_left (list_all (agrees x) (n ∷ ns)) (agree may_meet_inline xs (n ∷ ns)) g))
        (each xs (and_right (list_all (agrees x) (n ∷ ns)) (agree may_meet_inline xs (n ∷ ns)) g))

agree-first : {S : Type 0} (m n : Mention S) (ms ns : List (Mention S)) → agree may_meet_inline (m ∷ ms) (n ∷ ns) ≡ true → agrees m n ≡ true
agree-first m n ms ns h =
    and_left (agrees m n) (list_all (agrees m) ns) (and_left (list_all (agrees m) (n ∷ ns)) (agree may_meet_inline ms (n ∷ ns)) h)

meet-first : {S : Type 0} (source other : S) (start next : ℕ) (p : Path) (s r : Segment) (a b : Role) → same_text s.key r.key ≡ true
    → agrees (mention_of source start (to_key p s.key) a s) (mention_of other next (to_key p r.key) b r) ≡ true → may_meet_inline a b ≡ true
meet-first source other start next p s r a b e h = rw (same_path-key p s.key r.key, e) at h

-- where roles may not meet, keys differ
differ-first : {S : Type 0} (source other : S) (start next : ℕ) (p : Path) (s r : Segment) (a b : Role) (ms ns : List (Mention S))
    → may_meet_inline a b ≡ false
    → agree may_meet_inline (mention_of source start (to_key p s.key) a s ∷ ms) (mention_of other next (to_key p r.key) b r ∷ ns) ≡ true
    → same_text s.key r.key ≡ false
differ-first source other start next p s r a b ms ns clash h =
    false-by (same_text s.key r.key)
    (λ e.
    true-false (may_meet_inline a b)
    (meet-first source other start next p s r a b e
    (agree-first (mention_of source start (to_key p s.key) a s) (mention_of other next (to_key p r.key) b r) ms ns h)) clash)

-- Pairs that agree part ways.
pub agree-parts : {S : Type 0} (source other : S) (start next : ℕ) (p : Path) (ss rs : List Segment) → is_empty ss ≡ false → is_empty rs
    ≡ false
    → agree may_meet_inline (line_mentions source start p ss) (line_mentions other next p rs) ≡ true → part_ways ss rs ≡ true
agree-parts source other start next p [] rs e g h = absurd cc
agree-parts source other start next p (s ∷ ss) [] e g h = absurd cc
agree-parts source other start next p (s ∷ []) (r ∷ []) e g h =
    rw (differ-first source other start next p s r value_role value_role [] [] refl h) refl
agree-parts source other start next p (s ∷ []) (r ∷ q ∷ rs) e g h =
    rw (differ-first source other start next p s r value_role dotted_role [] (line_mentions other (next_start next r) (to_key p r.key) (q
    ∷ rs)) refl h) refl
agree-parts source other start next p (s ∷ t ∷ ss) (r ∷ []) e g h =
    rw (differ-first source other start next p s r dotted_role value_role (line_mentions source (next_start start s) (to_key p s.key) (t
    ∷ ss)) [] refl h) refl
agree-parts {S = S} source other start next p (s ∷ t ∷ ss) (r ∷ q ∷ rs) e g h =
    let more : List (Mention S) = line_mentions source (next_start start s) (to_key p s.key) (t ∷ ss) in
    let later : Text → List (Mention S) = λ k. line_mentions other (next_start next r) (to_key p k) (q ∷ rs) in
    elim (cases_Bool (same_text s.key r.key)) [
      | inl x ↦
          rw x
          (agree-parts source other (next_start start s) (next_start next r) (to_key p s.key) (t ∷ ss) (q ∷ rs) refl refl
          (subst (λ k. agree may_meet_inline more (later k) ≡ true) (sym (same_text-is s.key r.key x))
          (agree-rest (mention_of source start (to_key p s.key) dotted_role s) (mention_of other next (to_key p r.key) dotted_role r) more
          (later r.key) h)))
      | inr x ↦ rw x refl
    ]

-- lines whose keys begin in the table have no mentions of the table itself
pub lower-lines : {S X : Type 0} (source : X → S) (start : X → ℕ) (path_of : X → List Segment) (xs : List X)
    → lower (flat_lines source start path_of xs) ≡ flat_lines source start path_of xs
lower-lines source start path_of [] = refl
lower-lines source start path_of (x ∷ xs) =
    lower-append (line_mentions (source x) (start x) [] (path_of x)) (flat_lines source start path_of xs)
    ∙ ap (λ ms. ms ++ lower (flat_lines source start path_of xs)) (lower-line (source x) (start x) [] (path_of x))
    ∙ ap (λ ms. line_mentions (source x) (start x) [] (path_of x) ++ ms) (lower-lines source start path_of xs)
