-- The mention that a slot's key is kept from is the kept mention of the slot's path, one step down or many.
use Rattle.std.proofs.Common.{◌≡◌, refl, sym, ◌∙◌, ap, subst, Bool, true, false, List, [], ◌∷◌, ◌++◌, append_assoc, Option, Some, None, inl}
use Rattle.std.proofs.Common.{inr}
use Rattle.std.specs.Prelude.{◌⊎◌, ◌&&◌, ◌||◌, find, option_map, if◌then◌else◌}
use Rattle.std.specs.List.{AllByRecursion}
use Rattle.std.specs.Option.{option_or as either, option_or}
use Rattle.std.proofs.lemmas.Bool.{cases_Bool}
use Rattle.std.proofs.lemmas.List.Elements.{filter-append}
use Rattle.std.proofs.lemmas.List.Folds.{find-append}
use Rattle.toml_edit_model.specs.Text.{one}
use Rattle.toml_edit_model.specs.Syntax.{Segment}
use Rattle.toml_edit_model.specs.Paths.{Step, Path, same_step, same_path, Mention}
use Rattle.toml_edit_laws.proofs.common.OptionSteps.{map-or, map-twice}
use Rattle.toml_edit_laws.proofs.common.Tests.{and-true, or-left, or-right, true-false}
use Rattle.toml_edit_laws.proofs.common.PathLaws.{same_path-is, same_path-refl, same_path-swap, same_step-swap}
use Rattle.toml_edit_laws.proofs.mentions.KeptPaths.{kept_in}
use Rattle.toml_edit_laws.proofs.mentions.KeptOrder.{HaveOneHeader, slot-parts}
use Rattle.toml_edit_laws.proofs.mentions.SomeAt.{some_at-append}
use Rattle.toml_edit_model.specs.Roles.{Role, is_header_role, any_role}
use Rattle.toml_edit_model.specs.Kept.{mentions_at, first_of_list, kept_mention}
use Rattle.toml_edit_model.specs.TableMentions.{inside, under, some_at, is_slot, kept_from, kept}

-- ---- one step down

-- what a kept mention tells: its segment and its source
abbrev pub told : {S : Type 0} → Mention S → Segment × S
told m = (m.segment, m.source)

-- the first mention of a path in such a role
abbrev told_at : {S : Type 0} → (Role → Bool) → List (Mention S) → Path → Option (Segment × S)
told_at test ms p = option_map told (find (λ m. test m.role) (mentions_at ms p))

told-under : {S : Type 0} (test : Role → Bool) (s : Step) (q : Path) (ms : List (Mention S)) → told_at test (under s ms) q
    ≡ told_at test ms (s ∷ q)
told-under test s q [] = refl
told-under {S = S} test s q (m ∷ ms) = by_path m.path (told-under test s q ms)
  where
    by_path : (p : Path) → told_at test (under s ms) q ≡ told_at test ms (s ∷ q)
        → told_at test (inside s m p ++ under s ms) q ≡ told_at test ((record m { path = p }) ∷ ms) (s ∷ q)
    by_path [] ih = ih
    by_path (t ∷ p) ih =
        elim (cases_Bool (same_step t s)) [
          | inl e ↦
              rw (e, same_step-swap s t ∙ e)
              (elim (cases_Bool (same_path q p)) [
                | inl g ↦
                    rw g
                    (elim (cases_Bool (test m.role)) [
                      | inl r ↦ rw r refl
                      | inr r ↦ rw r ih
                    ])
                | inr g ↦ rw g ih
              ])
          | inr e ↦ rw (e, same_step-swap s t ∙ e) ih
        ]

-- the first is the first in any role
first-found : {S : Type 0} (ms : List (Mention S)) → first_of_list ms ≡ find (λ m. any_role m.role) ms
first-found [] = refl
first-found (m ∷ ms) = refl

pub kept-under : {S : Type 0} (s : Step) (q : Path) (ms : List (Mention S))
    → option_map told (kept_mention (under s ms) q) ≡ option_map told (kept_mention ms (s ∷ q))
kept-under {S = S} s q ms =
    map-or told (find (λ (m : Mention S). is_header_role m.role) (mentions_at (under s ms) q)) (first_of_list (mentions_at (under s ms) q))
    ∙ ap (λ o. option_or o (option_map told (first_of_list (mentions_at (under s ms) q)))) (told-under is_header_role s q ms)
    ∙ ap (option_or (told_at is_header_role ms (s ∷ q)))
    (ap (option_map told) (first-found (mentions_at (under s ms) q)) ∙ told-under any_role s q ms
    ∙ sym (ap (option_map told) (first-found (mentions_at ms (s ∷ q)))))
    ∙ sym (map-or told (find (λ (m : Mention S). is_header_role m.role) (mentions_at ms (s ∷ q))) (first_of_list (mentions_at ms (s ∷ q))))

-- The kept segments below a step are those of the longer paths.
pub under-kept : {S : Type 0} (s : Step) (q : Path) (ms : List (Mention S)) → kept_in (under s ms) q ≡ kept_in ms (s ∷ q)
under-kept s q ms =
    sym (map-twice told (λ t. t.0) (kept_mention (under s ms) q)) ∙ ap (option_map (λ t. t.0)) (kept-under s q ms)
    ∙ map-twice told (λ t. t.0) (kept_mention ms (s ∷ q))

-- the statement that the kept key of a path is from
abbrev pub kept_source : {S : Type 0} → List (Mention S) → Path → Option S
kept_source ms p = option_map (λ m. m.source) (kept_mention ms p)

pub under-source : {S : Type 0} (s : Step) (q : Path) (ms : List (Mention S)) → kept_source (under s ms) q ≡ kept_source ms (s ∷ q)
under-source s q ms =
    sym (map-twice told (λ t. t.1) (kept_mention (under s ms) q)) ∙ ap (option_map (λ t. t.1)) (kept-under s q ms)
    ∙ map-twice told (λ t. t.1) (kept_mention ms (s ∷ q))

-- ---- slots

no-header-there : {S : Type 0} (q : Path) (ms : List (Mention S)) → some_at is_header_role q ms ≡ false
    → find (λ m. is_header_role m.role) (mentions_at ms q) ≡ None
no-header-there q [] h = refl
no-header-there q (m ∷ ms) h =
    let here : (same_path m.path q && is_header_role m.role) ≡ false =
    or-left (same_path m.path q && is_header_role m.role) (some_at is_header_role q ms) h in
    let later = no-header-there q ms (or-right (same_path m.path q && is_header_role m.role) (some_at is_header_role q ms) h) in
    elim (cases_Bool (same_path q m.path)) [
      | inl e ↦
          let plain : is_header_role m.role ≡ false = sym (ap (λ b. b && is_header_role m.role) (same_path-swap m.path q ∙ e)) ∙ here in
          rw (e, plain) later
      | inr e ↦ rw e later
    ]

nothing-there : {S : Type 0} (q : Path) (ms : List (Mention S)) → some_at any_role q ms ≡ false → mentions_at ms q ≡ []
nothing-there q [] h = refl
nothing-there q (m ∷ ms) h =
    let here : same_path q m.path ≡ false =
    same_path-swap q m.path ∙ sym (and-true (same_path m.path q)) ∙ or-left (same_path m.path q && true) (some_at any_role q ms) h in
    rw here (nothing-there q ms (or-right (same_path m.path q && true) (some_at any_role q ms) h))

-- before a header of a path there is no other
headers-before : {S : Type 0} (before : List (Mention S)) (m : Mention S) (after : List (Mention S)) → HaveOneHeader (before ++ (m ∷ after))
    → is_header_role m.role ≡ true → some_at is_header_role m.path before ≡ false
headers-before [] m after h is = refl
headers-before {S = S} (x ∷ before) m after h is =
    by_tests (same_path x.path m.path) (is_header_role x.role) refl refl (headers-before before m after h.1 is)
  where
    here : some_at is_header_role m.path (m ∷ after) ≡ true
    here = rw (same_path-refl m.path, is) refl

    by_tests : (a b : Bool) → same_path x.path m.path ≡ a → is_header_role x.role ≡ b → some_at is_header_role m.path before ≡ false
        → ((a && b) || some_at is_header_role m.path before) ≡ false
    by_tests false b e g ih = ih
    by_tests true false e g ih = ih
    by_tests true true e g ih =
        true-false (some_at is_header_role m.path (m ∷ after)) here
        (or-right (some_at is_header_role m.path before) (some_at is_header_role m.path (m ∷ after))
        (sym (some_at-append is_header_role m.path before (m ∷ after))
        ∙ subst (λ q. some_at is_header_role q (before ++ (m ∷ after)) ≡ false) (same_path-is x.path m.path e) (h.0 g)))

slot-kept : {S : Type 0} (before : List (Mention S)) (m : Mention S) (after : List (Mention S)) → HaveOneHeader (before ++ (m ∷ after))
    → is_slot before m after ≡ true → kept_mention (before ++ (m ∷ after)) m.path ≡ Some m
slot-kept {S = S} before m after h e =
    ap first_kept
    (filter-append (λ (n : Mention S). same_path m.path n.path) before (m ∷ after)
    ∙ ap (λ b. earlier ++ (if b then m ∷ later else later)) (same_path-refl m.path))
    ∙ by_role (is_header_role m.role) refl (slot-parts before m after e).1
  where
    is_header : Mention S → Bool
    is_header n = is_header_role n.role

    earlier : List (Mention S)
    earlier = mentions_at before m.path

    later : List (Mention S)
    later = mentions_at after m.path

    first_kept : List (Mention S) → Option (Mention S)
    first_kept ns = option_or (find is_header ns) (first_of_list ns)

    by_role : (b : Bool) → is_header_role m.role ≡ b
        → ((is_header_role m.role ≡ true) ⊎ ((some_at any_role m.path before ≡ false) × (some_at is_header_role m.path after ≡ false)))
        → first_kept (earlier ++ (m ∷ later)) ≡ Some m
    by_role true r own =
        ap (λ o. option_or o (first_of_list (earlier ++ (m ∷ later))))
        (find-append is_header earlier (m ∷ later)
        ∙ ap (λ o. either o (find is_header (m ∷ later))) (no-header-there m.path before (headers-before before m after h r))
        ∙ ap (λ b. if b then Some m else find is_header later) r)
    by_role false r (inl g) = true-false (is_header_role m.role) g r
    by_role false r (inr g) =
        ap (λ ns. first_kept (ns ++ (m ∷ later))) (nothing-there m.path before g.0)
        ∙ ap (λ o. option_or o (Some m)) (ap (λ b. if b then Some m else find is_header later) r ∙ no-header-there m.path after g.1)

kept-from-mentions : {S : Type 0} (all before ms : List (Mention S)) → all ≡ before ++ ms → HaveOneHeader all
    → AllByRecursion (λ m. kept_mention all m.path ≡ Some m) (kept_from before ms)
kept-from-mentions all before [] is h = tt
kept-from-mentions {S = S} all before (m ∷ ms) is h =
    let later : AllByRecursion (λ (n : Mention S). kept_mention all n.path ≡ Some n) (kept_from (before ++ one m) ms) =
    kept-from-mentions all (before ++ one m) ms (is ∙ sym (append_assoc before (one m) ms)) h in
    elim (cases_Bool (is_slot before m ms)) [
      | inl e ↦ rw e (ap (λ ns. kept_mention ns m.path) is ∙ slot-kept before m ms (subst HaveOneHeader is h) e, later)
      | inr e ↦ rw e later
    ]

-- A slot's mention is the kept mention of its path.
pub kept-mentions : {S : Type 0} (ms : List (Mention S)) → HaveOneHeader ms
    → AllByRecursion (λ m. kept_mention ms m.path ≡ Some m) (kept ms)
kept-mentions ms h = kept-from-mentions ms [] ms refl h
