-- After a header that agrees with the statements before it another may come, and the table or element that it opens is there.
use Rattle.std.proofs.Common.{◌≡◌, ◌<◌, refl, sym, ◌∙◌, ap, subst, ℕ, zero, suc, ◌+◌, arith, Bool, true, false, List, [], ◌∷◌, ◌++◌}
use Rattle.std.proofs.Common.{append_assoc, length, length-append, inl, inr}
use Rattle.std.specs.Prelude.{◌&&◌, ◌||◌, not, if◌then◌else◌}
use Rattle.std.specs.List.{list_any}
use Rattle.std.proofs.lemmas.Bool.{cases_Bool, or_from}
use Rattle.std.proofs.lemmas.List.Folds.{list_any-append}
use Rattle.toml_edit_model.specs.Text.{is_empty}
use Rattle.toml_edit_model.specs.Syntax.{Segment}
use Rattle.toml_edit_model.specs.Paths.{Step, at_key, at_element, Path, same_step, to_key, to_element, Mention, Source, mention_of}
use Rattle.toml_edit_model.specs.Paths.{next_start, elements_at, in_last, passing_role, header_mentions, header_path}
use Rattle.toml_edit_model.specs.Accepted.{agree}
use Rattle.toml_edit_laws.proofs.common.Tests.{or-left, or-right, false-by, true-false, same_text-refl}
use Rattle.toml_edit_laws.proofs.common.PathLaws.{same_step-refl, same_step-swap}
use Rattle.toml_edit_laws.proofs.mentions.GatherLaws.{all_deeper, under-deeper, own-deeper}
use Rattle.toml_edit_laws.proofs.inline_tables.AgreeLaws.{agree-apart}
use Rattle.toml_edit_laws.proofs.inline_tables.InlineBuild.{path_of}
use Rattle.toml_edit_laws.proofs.adding.HeaderPaths.{paths_under, elements-under, header-deeper, own-header, path-deeper}
use Rattle.toml_edit_laws.proofs.adding.HeaderReady.{AreArrayed, ArePassed, AreReadyPaths, some_at-own, no-arrays}
use Rattle.toml_edit_laws.proofs.adding.HeaderOwn.{arrays-append, first-more, paths-own, arrayed-passed, passed-more, count-passed}
use Rattle.toml_edit_laws.proofs.adding.HeaderAdded.{from_here}
use Rattle.toml_edit_laws.proofs.adding.HeaderSteps.{HasStep, IsOpen, has-more, has-path, lift-step, agree-under, agree-rest, agree-own}
use Rattle.toml_edit_laws.proofs.mentions.SomeAt.{under-append, some_at-under, own_mention}
use Rattle.toml_edit_laws.proofs.mentions.RoleTests.{opening_role, is_through_role}
use Rattle.toml_edit_model.specs.Roles.{Role, dotted_role, implied_role, header_role, array_role, value_role, continued_role, may_meet}
use Rattle.toml_edit_model.specs.Roles.{is_header_role, is_array_role}
use Rattle.toml_edit_model.specs.Kept.{first_of_list}
use Rattle.toml_edit_model.specs.TableMentions.{under, own, roles, array_headers, some_at}

-- ---- the path of a header, and its block

-- the paths of the headers in double brackets with that of one header more
abbrev pub with_path : Bool → Path → List Path → List Path
with_path is_array p paths = if is_array then p ∷ paths else paths

-- the table of a header, or its element
abbrev pub block_at : Bool → List Path → Path → Path
block_at is_array paths p = if is_array then to_element p (elements_at paths p) else p

with-there : (is_array : Bool) (s : Step) (p : Path) (paths : List Path) → paths_under s (with_path is_array (s ∷ p) paths)
    ≡ with_path is_array p (paths_under s paths)
with-there true s p paths = ap (λ b. (if b then p ∷ [] else []) ++ paths_under s paths) (same_step-refl s)
with-there false s p paths = refl

with-away : (is_array : Bool) (s t : Step) (p : Path) (paths : List Path) → same_step s t ≡ false → paths_under t paths
    ≡ paths_under t (with_path is_array (s ∷ p) paths)
with-away true s t p paths h = sym (ap (λ b. (if b then p ∷ [] else []) ++ paths_under t paths) (same_step-swap t s ∙ h))
with-away false s t p paths h = refl

with-here : (is_array : Bool) (s : Step) (p : Path) (paths : List Path) → elements_at paths []
    ≡ elements_at (with_path is_array (s ∷ p) paths) []
with-here true s p paths = refl
with-here false s p paths = refl

pub block-deeper : (is_array : Bool) (paths : List Path) (s : Step) (p : Path) → block_at is_array paths (s ∷ p) ≡ s
    ∷ block_at is_array (paths_under s paths) p
block-deeper true paths s p = ap (λ n. s ∷ to_element p n) (sym (elements-under s p paths))
block-deeper false paths s p = refl

-- ---- one step up

-- the conditions hold with the path of a header, and its block is there
abbrev pub Keeps : Bool → List Path → Path → List (Mention Source) → Type 0
Keeps is_array paths p all = AreReadyPaths (with_path is_array p paths) all × IsOpen (block_at is_array paths p) all

step-keeps : (is_array : Bool) (s : Step) (paths : List Path) (p : Path) (us below : List (Mention Source))
    → HasStep s (us ++ all_deeper s below) → AreReadyPaths paths us
    → Keeps is_array (paths_under s paths) p (under s us ++ below) → Keeps is_array paths (s ∷ p) (us ++ all_deeper s below)
step-keeps is_array s paths p us below has h k =
    let there : under s us ++ below ≡ under s (us ++ all_deeper s below) =
    sym (under-append s us (all_deeper s below) ∙ ap (λ xs. under s us ++ xs) (under-deeper s below)) in (
      lift-step s paths (with_path is_array (s ∷ p) paths) us below has (λ t e. with-away is_array s t p paths e)
          (with-here is_array s p paths) h
          (subst (λ ps. AreReadyPaths ps (under s us ++ below)) (sym (with-there is_array s p paths)) k.0),
      subst (λ q. IsOpen q (us ++ all_deeper s below)) (sym (block-deeper is_array paths s p))
          (has, subst (IsOpen (block_at is_array (paths_under s paths) p)) there k.1),
    )

-- ---- the last key

-- neither a header in double brackets nor one that goes on
abbrev is_other : Role → Bool
is_other r = not (is_array_role r || is_through_role r)

header-other : (r : Role) → is_other r ≡ false → is_header_role r ≡ false
header-other dotted_role h = refl
header-other implied_role h = refl
header-other header_role h = absurd cc
header-other array_role h = refl
header-other value_role h = refl
header-other continued_role h = refl

no-headers : (rs : List Role) → list_any is_other rs ≡ false → list_any is_header_role rs ≡ false
no-headers [] h = refl
no-headers (r ∷ rs) h =
    or_from (is_header_role r) (list_any is_header_role rs) (header-other r (or-left (is_other r) (list_any is_other rs) h))
    (no-headers rs (or-right (is_other r) (list_any is_other rs) h))

none-left : (rs : List Role) → list_any is_array_role rs ≡ false → list_any is_through_role rs ≡ false → list_any is_other rs ≡ false → rs
    ≡ []
none-left [] a t o = refl
none-left (dotted_role ∷ rs) a t o = absurd cc
none-left (implied_role ∷ rs) a t o = absurd cc
none-left (header_role ∷ rs) a t o = absurd cc
none-left (array_role ∷ rs) a t o = absurd cc
none-left (value_role ∷ rs) a t o = absurd cc
none-left (continued_role ∷ rs) a t o = absurd cc

-- Another element: all at its path are of an array.
arrayed-more : (rs : List Role) → AreArrayed rs → ArePassed rs → list_any is_other rs ≡ false → AreArrayed (rs ++ (array_role ∷ []))
arrayed-more rs arrayed passed none e = (
  elim (cases_Bool (list_any is_array_role rs)) [
    | inl h ↦ first-more rs (array_role ∷ []) array_role (arrayed h).0
    | inr h ↦
        let unpassed : list_any is_through_role rs ≡ false =
        false-by (list_any is_through_role rs) (λ t. true-false (list_any is_array_role rs) (passed t) h) in
        ap (λ xs. first_of_list (xs ++ (array_role ∷ []))) (none-left rs h unpassed none)
  ],
  list_any-append is_header_role rs (array_role ∷ []) ∙ or_from (list_any is_header_role rs) false (no-headers rs none) refl,
)

-- a plain header: none at its path is of an array
arrayed-headed : (rs : List Role) → list_any is_array_role rs ≡ false → AreArrayed (rs ++ (header_role ∷ []))
arrayed-headed rs none e =
    true-false (list_any is_array_role (rs ++ (header_role ∷ []))) e
    (list_any-append is_array_role rs (header_role ∷ []) ∙ or_from (list_any is_array_role rs) false none refl)

-- what a header's last key may meet
abbrev MayHead : Bool → List Role → Type 0
MayHead is_array rs = (if is_array then list_any is_other rs else list_any is_array_role rs) ≡ false

last-keeps : (is_array : Bool) (source : Source) (start : ℕ) (g : Segment) (paths : List Path) (us : List (Mention Source))
    → AreReadyPaths paths us
    → MayHead is_array (roles us) → Keeps is_array paths [] (us ++ (own_mention source start (opening_role is_array) g ∷ []))
last-keeps true source start g paths us h may =
    let o = own_mention source start array_role g in
    let longer : length (array_headers (us ++ (o ∷ []))) ≡ length (array_headers us) + 1 = ap length (arrays-append us (o ∷ []))
    ∙ length-append (array_headers us) (o ∷ []) in
    let was : elements_at paths [] ≡ length (array_headers us) = (h []).counted in
    let count : suc (elements_at paths []) ≡ length (array_headers (us ++ (o ∷ []))) = omega arith in
    let fits : elements_at paths [] < length (array_headers (us ++ (o ∷ []))) = omega arith in (
      paths-own source start array_role g paths ([] ∷ paths) us (λ s. refl) count (arrayed-more (roles us) (h []).arrayed (h []).passed may)
          (passed-more (roles us) (array_role ∷ []) refl (h []).passed) h,
      (fits, tt),
    )
last-keeps false source start g paths us h may = (
  paths-own source start header_role g paths paths us (λ s. refl) (count-passed source start header_role g paths us refl h)
      (arrayed-headed (roles us) may) (passed-more (roles us) (header_role ∷ []) refl (h []).passed) h,
  tt,
)

off-array : (r q : Role) → is_other r ≡ true → is_array_role q ≡ true → may_meet r q ≡ false
off-array r dotted_role h g = absurd cc
off-array r implied_role h g = absurd cc
off-array r header_role h g = absurd cc
off-array r value_role h g = absurd cc
off-array r continued_role h g = absurd cc
off-array dotted_role array_role h g = refl
off-array implied_role array_role h g = refl
off-array header_role array_role h g = refl
off-array array_role array_role h g = absurd cc
off-array value_role array_role h g = refl
off-array continued_role array_role h g = absurd cc

off-header : (r q : Role) → is_array_role r ≡ true → is_header_role q ≡ true → may_meet r q ≡ false
off-header dotted_role q h g = absurd cc
off-header implied_role q h g = absurd cc
off-header header_role q h g = absurd cc
off-header value_role q h g = absurd cc
off-header continued_role q h g = absurd cc
off-header array_role header_role h g = refl
off-header array_role dotted_role h g = absurd cc
off-header array_role implied_role h g = absurd cc
off-header array_role array_role h g = absurd cc
off-header array_role value_role h g = absurd cc
off-header array_role continued_role h g = absurd cc

-- where it agrees
last-agrees : (is_array : Bool) (source : Source) (start : ℕ) (g : Segment) (ms : List (Mention Source))
    → agree may_meet ms (mention_of source start (to_key [] g.key) (opening_role is_array) g ∷ []) ≡ true
    → MayHead is_array (roles (under (at_key g.key) ms))
last-agrees true source start g ms h =
    let p : Path = at_key g.key ∷ [] in
    let ns = mention_of source start p array_role g ∷ [] in
    let here : some_at is_array_role p ns ≡ true = ap (λ b. ((b && true) && true) || false) (same_text-refl g.key) in
    sym (some_at-own is_other (under (at_key g.key) ms)) ∙ some_at-under is_other (at_key g.key) [] ms
    ∙ false-by (some_at is_other p ms) (λ seen. true-false (some_at is_array_role p ns) here
    (agree-apart may_meet is_other is_array_role p ms ns off-array h seen))
last-agrees false source start g ms h =
    let p : Path = at_key g.key ∷ [] in
    let ns = mention_of source start p header_role g ∷ [] in
    let here : some_at is_header_role p ns ≡ true = ap (λ b. ((b && true) && true) || false) (same_text-refl g.key) in
    sym (some_at-own is_array_role (under (at_key g.key) ms)) ∙ some_at-under is_array_role (at_key g.key) [] ms
    ∙ false-by (some_at is_array_role p ms) (λ seen. true-false (some_at is_header_role p ns) here
    (agree-apart may_meet is_array_role is_header_role p ms ns off-header h seen))

-- ---- a whole path

pass-keeps : (is_array : Bool) (source : Source) (paths : List Path) (start : ℕ) (g h : Segment) (rest : List Segment)
    (ms : List (Mention Source)) → AreReadyPaths paths ms
    → ((deeper : List Path) (xs : List (Mention Source)) → AreReadyPaths deeper xs
    → agree may_meet xs (from_here is_array source deeper (next_start start g) (h ∷ rest)) ≡ true
    → Keeps is_array deeper (header_path deeper [] (h ∷ rest)) (xs ++ from_here is_array source deeper (next_start start g) (h ∷ rest)))
    → agree may_meet ms (from_here is_array source paths start (g ∷ h ∷ rest)) ≡ true
    → Keeps is_array paths (header_path paths [] (g ∷ h ∷ rest)) (ms ++ from_here is_array source paths start (g ∷ h ∷ rest))
pass-keeps is_array source paths start g h rest ms ready on agreed = by_count (elements_at paths (at_key g.key ∷ [])) refl agreed
  where
    k : Step
    k = at_key g.key

    from_count : ℕ → List (Mention Source)
    from_count n =
        mention_of source start (k ∷ []) (passing_role n) g
        ∷ header_mentions source paths (opening_role is_array) (next_start start g) (in_last n (k ∷ [])) (h ∷ rest)

    below : List Path → List (Mention Source)
    below deeper = from_here is_array source deeper (next_start start g) (h ∷ rest)

    us : List (Mention Source)
    us = under k ms

    inside : AreReadyPaths (paths_under k paths) us
    inside = λ p. ready (k ∷ p)

    by_count : (n : ℕ) → elements_at paths (k ∷ []) ≡ n → agree may_meet ms (from_count n) ≡ true
        → Keeps is_array paths (header_path paths (in_last n (k ∷ [])) (h ∷ rest)) (ms ++ from_count n)
    by_count zero count e =
        let deeper = paths_under k paths in
        let o = own_mention source start implied_role g in
        let m = mention_of source start (k ∷ []) implied_role g in
        let lines = header-deeper source paths (opening_role is_array) (next_start start g) k [] (h ∷ rest) in
        let with_own : AreReadyPaths deeper (us ++ (o ∷ [])) =
        paths-own source start implied_role g deeper deeper us (λ s. refl) (count-passed source start implied_role g deeper us refl inside)
        (arrayed-passed (roles us) (implied_role ∷ []) refl refl (inside []).arrayed) (passed-more (roles us) (implied_role
        ∷ []) refl (inside []).passed) inside in
        let agrees : agree may_meet (us ++ (o ∷ [])) (below deeper) ≡ true =
        agree-own may_meet source start implied_role g us (below deeper)
        (own-header source deeper (opening_role is_array) (next_start start g) (h ∷ rest))
        (sym (agree-under may_meet k ms (below deeper)) ∙ agree-rest may_meet ms m (all_deeper k (below deeper))
        (ap (λ xs. agree may_meet ms (m ∷ xs)) (sym lines) ∙ e)) in
        subst (λ xs. Keeps is_array paths (header_path paths (k ∷ []) (h ∷ rest)) (ms ++ (m ∷ xs))) (sym lines)
        (subst (λ q. Keeps is_array paths q (ms ++ path_of source start implied_role g (below deeper)))
        (sym (path-deeper paths k [] (h ∷ rest)))
        (step-keeps is_array k paths (header_path deeper [] (h ∷ rest)) ms (o
        ∷ below deeper) (has-path source start implied_role g (below deeper) ms) ready
        (subst (Keeps is_array deeper (header_path deeper [] (h ∷ rest))) (append_assoc us (o ∷ []) (below deeper)) (on deeper (us
        ++ (o ∷ [])) with_own agrees))))
    by_count (suc n) count e =
        let t = at_element n in
        let inner = paths_under k paths in
        let deeper = paths_under t inner in
        let o = own_mention source start continued_role g in
        let m = mention_of source start (k ∷ []) continued_role g in
        let deep = all_deeper t (below deeper) in
        let lines =
        header-deeper source paths (opening_role is_array) (next_start start g) k (t ∷ []) (h ∷ rest)
        ∙ ap (all_deeper k) (header-deeper source inner (opening_role is_array) (next_start start g) t [] (h ∷ rest)) in
        let path = path-deeper paths k (t ∷ []) (h ∷ rest) ∙ ap (λ q. k ∷ q) (path-deeper inner t [] (h ∷ rest)) in
        let many : length (array_headers us) ≡ suc n = sym (inside []).counted ∙ elements-under k [] paths ∙ count in
        let some : list_any is_array_role (roles us) ≡ true =
        elim (cases_Bool (list_any is_array_role (roles us))) [
          | inl i ↦ i
          | inr i ↦ (let clash : suc n ≡ zero = sym many ∙ ap length (no-arrays (own us) i) in absurd cc)
        ] in
        let with_own : AreReadyPaths inner (us ++ (o ∷ [])) =
        paths-own source start continued_role g inner inner us (λ s. refl) (count-passed source start continued_role g inner us refl inside)
        (arrayed-passed (roles us) (continued_role ∷ []) refl refl (inside []).arrayed)
        (λ _. list_any-append is_array_role (roles us) (continued_role ∷ []) ∙ ap (λ b. b || false) some) inside in
        let agrees : agree may_meet (under t (us ++ (o ∷ []))) (below deeper) ≡ true =
        sym (agree-under may_meet t (us ++ (o ∷ [])) (below deeper))
        ∙ agree-own may_meet source start continued_role g us deep (own-deeper t (below deeper))
        (sym (agree-under may_meet k ms deep) ∙ agree-rest may_meet ms m (all_deeper k deep)
        (ap (λ xs. agree may_meet ms (m ∷ xs)) (sym lines) ∙ e)) in
        let there : n < length (array_headers us) = omega arith in
        let element : Keeps is_array inner (t ∷ header_path deeper [] (h ∷ rest)) ((us ++ (o ∷ [])) ++ deep) =
        step-keeps is_array t inner (header_path deeper [] (h ∷ rest)) (us ++ (o ∷ [])) (below deeper)
        (has-more t (us ++ (o ∷ [])) deep (has-more t us (o ∷ []) there)) with_own
        (on deeper (under t (us ++ (o ∷ []))) (λ p. with_own (t ∷ p)) agrees) in
        subst (λ xs. Keeps is_array paths (header_path paths (k ∷ t ∷ []) (h ∷ rest)) (ms ++ (m ∷ xs))) (sym lines)
        (subst (λ q. Keeps is_array paths q (ms ++ path_of source start continued_role g deep)) (sym path)
        (step-keeps is_array k paths (t ∷ header_path deeper [] (h ∷ rest)) ms (o
        ∷ deep) (has-path source start continued_role g deep ms) ready
        (subst (Keeps is_array inner (t ∷ header_path deeper [] (h ∷ rest))) (append_assoc us (o ∷ []) deep) element)))

pub header-keeps : (is_array : Bool) (source : Source) (paths : List Path) (start : ℕ) (segments : List Segment)
    (ms : List (Mention Source)) → is_empty segments ≡ false
    → AreReadyPaths paths ms → agree may_meet ms (from_here is_array source paths start segments) ≡ true
    → Keeps is_array paths (header_path paths [] segments) (ms ++ from_here is_array source paths start segments)
header-keeps is_array source paths start [] ms keyed h e = absurd cc
header-keeps is_array source paths start (g ∷ []) ms keyed h e =
    step-keeps is_array (at_key g.key) paths [] ms (own_mention source start (opening_role is_array) g
    ∷ []) (has-path source start (opening_role is_array) g [] ms) h
    (last-keeps is_array source start g (paths_under (at_key g.key) paths) (under (at_key g.key) ms) (λ p. h (at_key g.key ∷ p))
    (last-agrees is_array source start g ms e))
header-keeps is_array source paths start (g ∷ x ∷ rest) ms keyed h e =
    pass-keeps is_array source paths start g x rest ms h (λ deeper xs r a. header-keeps is_array source deeper (next_start start g) (x
    ∷ rest) xs refl r a) e
