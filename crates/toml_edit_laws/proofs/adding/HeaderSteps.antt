-- The conditions for a header hold of a table where they hold of what is mentioned below one of its keys or elements.
use Rattle.std.proofs.Common.{◌≡◌, ◌≤◌, ◌<◌, refl, sym, ◌∙◌, ap, subst, ℕ, ◌+◌, arith, Bool, true, false, List, [], ◌∷◌, ◌++◌, append_assoc}
use Rattle.std.proofs.Common.{length, length-append, inl, inr}
use Rattle.std.specs.Prelude.{◌&&◌, ◌||◌, not, filter, map, find}
use Rattle.std.specs.List.{list_all}
use Rattle.std.proofs.lemmas.Bool.{cases_Bool}
use Rattle.std.proofs.lemmas.List.Elements.{filter-append}
use Rattle.toml_edit_model.specs.Text.{is_empty}
use Rattle.toml_edit_model.specs.Syntax.{Segment}
use Rattle.toml_edit_model.specs.Paths.{Step, at_key, at_element, Path, same_step, same_path, to_key, Mention, Source, mention_of}
use Rattle.toml_edit_model.specs.Paths.{line_mentions, next_start, elements_at}
use Rattle.toml_edit_model.specs.Accepted.{agree}
use Rattle.toml_edit_model.specs.Faults.{clash, first_clash}
use Rattle.toml_edit_laws.proofs.common.Tests.{append-nil, and_right}
use Rattle.toml_edit_laws.proofs.mentions.GatherLaws.{all_deeper, under-deeper, under-other, own-deeper, own-first}
use Rattle.toml_edit_laws.proofs.inline_tables.AgreeLaws.{agree-first, agree-clash, both_deeper, clash-deeper}
use Rattle.toml_edit_laws.proofs.inline_tables.PairMentions.{lines-deeper}
use Rattle.toml_edit_laws.proofs.inline_tables.InlineBuild.{path_of, under-all}
use Rattle.toml_edit_laws.proofs.adding.HeaderPaths.{paths_under}
use Rattle.toml_edit_laws.proofs.adding.HeaderReady.{paths_from, AreArrayed, ArePassed, IsReadyAt, AreReadyPaths}
use Rattle.toml_edit_laws.proofs.adding.HeaderOwn.{arrays-append, paths-own, arrayed-passed, passed-more, count-passed}
use Rattle.toml_edit_laws.proofs.common.PathLaws.{same_step-is}
use Rattle.toml_edit_laws.proofs.mentions.SomeAt.{under-append, own_mention}
use Rattle.toml_edit_laws.proofs.common.Agreement.{agree-append}
use Rattle.toml_edit_laws.proofs.common.OptionSteps.{is_none-map, is_none}
use Rattle.toml_edit_laws.proofs.common.Lists.{left-empty, right-empty}
use Rattle.toml_edit_laws.specs.KeptKeys.{under_path}
use Rattle.toml_edit_model.specs.Roles.{Role, dotted_role, value_role, is_array_role}
use Rattle.toml_edit_model.specs.TableMentions.{under, own, roles, array_headers}

-- ---- steps that are there

-- the key is mentioned, or there is such an element
abbrev pub HasStep : Step → List (Mention Source) → Type 0
HasStep (at_key k) us = own (under (at_key k) us) ≡ [] → ⊥
HasStep (at_element i) us = i < length (array_headers us)

-- so is each on a path
abbrev pub IsOpen : Path → List (Mention Source) → Type 0
IsOpen [] us = Unit {0}
IsOpen (s ∷ p) us = HasStep s us × IsOpen p (under s us)

own-append : {S : Type 0} (xs ys : List (Mention S)) → own (xs ++ ys) ≡ own xs ++ own ys
own-append {S} xs ys = filter-append (λ (m : Mention S). is_empty m.path) xs ys

-- later mentions take none away
pub has-more : (s : Step) (us more : List (Mention Source)) → HasStep s us → HasStep s (us ++ more)
has-more (at_key k) us more h =
    λ e. h (left-empty (own (under (at_key k) us)) (own (under (at_key k) more))
    (sym (own-append (under (at_key k) us) (under (at_key k) more)) ∙ ap own (sym (under-append (at_key k) us more)) ∙ e))
has-more (at_element i) us more h =
    let longer : length (array_headers (us ++ more)) ≡ length (array_headers us) + length (array_headers more) =
    ap length (arrays-append us more) ∙ length-append (array_headers us) (array_headers more) in
    let fits : i < length (array_headers us) = h in
    omega arith

pub open-more : (p : Path) (us more : List (Mention Source)) → IsOpen p us → IsOpen p (us ++ more)
open-more [] us more h = tt
open-more (s ∷ p) us more h =
    (has-more s us more h.0, subst (IsOpen p) (sym (under-append s us more)) (open-more p (under s us) (under s more) h.1))

-- a key is there once it is mentioned
pub has-path : (source : Source) (start : ℕ) (role : Role) (g : Segment) (below ms : List (Mention Source))
    → HasStep (at_key g.key) (ms ++ path_of source start role g below)
has-path source start role g below ms =
    λ e.
    let us = under (at_key g.key) ms in
    let o = own_mention source start role g in
    let all : own ((us ++ (o ∷ [])) ++ below) ≡ [] = ap own (under-all source start role g below ms) ∙ e in
    let front : own (us ++ (o ∷ [])) ≡ [] = left-empty (own (us ++ (o ∷ []))) (own below) (sym (own-append (us ++ (o ∷ [])) below) ∙ all) in
    let last : o ∷ [] ≡ [] = right-empty (own us) (o ∷ []) (sym (own-append us (o ∷ [])) ∙ front) in
    absurd cc

-- ---- the conditions one step up

pub lift-step : (s : Step) (paths after : List Path) (us below : List (Mention Source)) → HasStep s (us ++ all_deeper s below)
    → ((t : Step) → same_step s t ≡ false → paths_under t paths ≡ paths_under t after) → elements_at paths [] ≡ elements_at after []
    → AreReadyPaths paths us → AreReadyPaths (paths_under s after) (under s us ++ below) → AreReadyPaths after (us ++ all_deeper s below)
lift-step s paths after us below has away count h deep = at_path
  where
    all : List (Mention Source)
    all = us ++ all_deeper s below

    there : under s us ++ below ≡ under s all
    there = sym (under-append s us (all_deeper s below) ∙ ap (λ xs. under s us ++ xs) (under-deeper s below))

    apart : (t : Step) → same_step s t ≡ false → under t us ≡ under t all
    apart t e = sym (under-append t us (all_deeper s below) ∙ ap (λ xs. under t us ++ xs) (under-other s t below e)
        ∙ append-nil (under t us))

    owns : own us ≡ own all
    owns = sym (own-append us (all_deeper s below) ∙ ap (λ xs. own us ++ xs) (own-deeper s below) ∙ append-nil (own us))

    headers : array_headers us ≡ array_headers all
    headers = ap (filter (λ (m : Mention Source). is_array_role m.role)) owns

    given : roles us ≡ roles all
    given = ap (map (λ (m : Mention Source). m.role)) owns

    at_path : (p : Path) → IsReadyAt (paths_from p after) (under_path p all)
    at_path [] =
        record {
          counted = sym count ∙ (h []).counted ∙ ap length headers;
          keyed = λ k e.
              elim (cases_Bool (same_step s (at_key k))) [
                | inl i ↦ absurd (subst (λ t. HasStep t all) (same_step-is s (at_key k) i) has e)
                | inr i ↦ sym (apart (at_key k) i) ∙ (h []).keyed k (ap own (apart (at_key k) i) ∙ e)
              ];
          numbered = λ n e.
              elim (cases_Bool (same_step s (at_element n))) [
                | inl i ↦ (let here : n < length (array_headers all) = subst (λ t. HasStep t all) (same_step-is s (at_element n) i) has in
                    absurd (omega arith))
                | inr i ↦ sym (apart (at_element n) i) ∙ (h []).numbered n (subst (λ xs. length xs ≤ n) (sym headers) e)
              ];
          arrayed = subst AreArrayed given (h []).arrayed;
          passed = subst ArePassed given (h []).passed;
        }
    at_path (t ∷ p) =
        elim (cases_Bool (same_step s t)) [
          | inl i ↦
              subst (λ x. IsReadyAt (paths_from p (paths_under x after)) (under_path p (under x all))) (same_step-is s t i)
              (subst (λ xs. IsReadyAt (paths_from p (paths_under s after)) (under_path p xs)) there (deep p))
          | inr i ↦
              subst (λ ps. IsReadyAt (paths_from p ps) (under_path p (under t all))) (away t i)
              (subst (λ xs. IsReadyAt (paths_from p (paths_under t paths)) (under_path p xs)) (apart t i) (h (t ∷ p)))
        ]

-- ---- a key line keeps them

-- in its own table
line-here : (source : Source) (start : ℕ) (segments : List Segment) (paths : List Path) (ms : List (Mention Source))
    → AreReadyPaths paths ms
    → AreReadyPaths paths (ms ++ line_mentions source start [] segments)
line-here source start [] paths ms h = subst (AreReadyPaths paths) (sym (append-nil ms)) h
line-here source start (g ∷ []) paths ms h =
    let deeper = paths_under (at_key g.key) paths in
    let us = under (at_key g.key) ms in
    let inside : AreReadyPaths deeper us = λ p. h (at_key g.key ∷ p) in
    lift-step (at_key g.key) paths paths ms (own_mention source start value_role g
    ∷ []) (has-path source start value_role g [] ms) (λ t e. refl) refl h
    (paths-own source start value_role g deeper deeper us (λ s. refl) (count-passed source start value_role g deeper us refl inside)
    (arrayed-passed (roles us) (value_role ∷ []) refl refl (inside []).arrayed) (passed-more (roles us) (value_role
    ∷ []) refl (inside []).passed) inside)
line-here source start (g ∷ h ∷ rest) paths ms ready =
    let deeper = paths_under (at_key g.key) paths in
    let us = under (at_key g.key) ms in
    let o = own_mention source start dotted_role g in
    let below = line_mentions source (next_start start g) [] (h ∷ rest) in
    let inside : AreReadyPaths deeper us = λ p. ready (at_key g.key ∷ p) in
    let with_own : AreReadyPaths deeper (us ++ (o ∷ [])) =
    paths-own source start dotted_role g deeper deeper us (λ s. refl) (count-passed source start dotted_role g deeper us refl inside)
    (arrayed-passed (roles us) (dotted_role ∷ []) refl refl (inside []).arrayed) (passed-more (roles us) (dotted_role
    ∷ []) refl (inside []).passed) inside in
    subst (λ xs. AreReadyPaths paths (ms ++ (mention_of source start (to_key [] g.key) dotted_role g ∷ xs)))
    (sym (lines-deeper source (next_start start g) (at_key g.key) [] (h ∷ rest)))
    (lift-step (at_key g.key) paths paths ms (o ∷ below) (has-path source start dotted_role g below ms) (λ t e. refl) refl ready
    (subst (AreReadyPaths deeper) (append_assoc us (o ∷ []) below) (line-here source (next_start start g) (h ∷ rest) deeper (us
    ++ (o ∷ [])) with_own)))

-- in a table that is there
pub line-keeps : (source : Source) (start : ℕ) (block : Path) (segments : List Segment) (paths : List Path) (ms : List (Mention Source))
    → AreReadyPaths paths ms → IsOpen block ms → AreReadyPaths paths (ms ++ line_mentions source start block segments)
line-keeps source start [] segments paths ms h is_open = line-here source start segments paths ms h
line-keeps source start (s ∷ p) segments paths ms h is_open =
    subst (λ xs. AreReadyPaths paths (ms ++ xs)) (sym (lines-deeper source start s p segments))
    (lift-step s paths paths ms (line_mentions source start p segments)
    (has-more s ms (all_deeper s (line_mentions source start p segments)) is_open.0) (λ t e. refl) refl h
    (line-keeps source start p segments (paths_under s paths) (under s ms) (λ q. h (s ∷ q)) is_open.1))

-- ---- what agrees

pub agree-under : {S : Type 0} (may : Role → Role → Bool) (s : Step) (ms below : List (Mention S)) → agree may ms (all_deeper s below)
    ≡ agree may (under s ms) below
agree-under may s ms below =
    agree-clash may ms (all_deeper s below)
    ∙ ap is_none (clash-deeper may s ms below)
    ∙ is_none-map (both_deeper s) (first_clash may (under s ms) below)
    ∙ sym (agree-clash may (under s ms) below)

pub agree-rest : {S : Type 0} (may : Role → Role → Bool) (ms : List (Mention S)) (m : Mention S) (rest : List (Mention S))
    → agree may ms (m ∷ rest) ≡ true → agree may ms rest ≡ true
agree-rest may ms m rest h = and_right (is_none (find (clash may m) ms)) (agree may ms rest) (sym (agree-first may ms m rest) ∙ h)

-- a table's own mention meets none below it
off-own : {S : Type 0} (may : Role → Role → Bool) (r : Role) (below : List (Mention S)) → own below ≡ []
    → list_all (λ n. not (same_path [] n.path) || may r n.role) below ≡ true
off-own may r [] h = refl
off-own {S} may r (n ∷ below) h = by_path n.path (own-first n below h).0 (off-own may r below (own-first n below h).1)
  where
    by_path : (p : Path) → is_empty p ≡ false → list_all (λ (k : Mention S). not (same_path [] k.path) || may r k.role) below ≡ true
        → ((not (same_path [] p) || may r n.role) && list_all (λ (k : Mention S). not (same_path [] k.path) || may r k.role) below) ≡ true
    by_path [] e ih = absurd cc
    by_path (s ∷ p) e ih = ih

pub agree-own : (may : Role → Role → Bool) (source : Source) (start : ℕ) (role : Role) (g : Segment) (us below : List (Mention Source))
    → own below ≡ []
    → agree may us below ≡ true → agree may (us ++ (own_mention source start role g ∷ [])) below ≡ true
agree-own may source start role g us below none h =
    agree-append may us (own_mention source start role g ∷ []) below
    ∙ ap (λ b. b && agree may (own_mention source start role g ∷ []) below) h
    ∙ ap (λ b. b && true) (off-own may role below none)
