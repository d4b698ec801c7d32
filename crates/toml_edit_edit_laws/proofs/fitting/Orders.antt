-- What holds of a list that is sorted, filtered or stripped of what isn't asked for.
use Rattle.std.proofs.Common.{◌≡◌, refl, ◌∙◌, ap, Bool, true, false, List, [], ◌∷◌}
use Rattle.std.specs.Prelude.{◌&&◌, not, filter, map, if◌then◌else◌}
use Rattle.std.specs.List.{AllByRecursion, list_all}
use Rattle.std.proofs.lemmas.List.Folds.{list_all-map}
use Rattle.toml_edit_model.specs.Tree.{no_slots}
use Rattle.toml_edit_model.specs.HeaderOrder.{Visit, visit_of}
use Rattle.toml_edit_model.specs.Fits.{is_too_late, none_too_late}
use Rattle.toml_edit_model.specs.Order.{sorted_by}
use Rattle.toml_edit_laws.proofs.common.Tests.{and_left, and_right, and_both}
use Rattle.toml_edit_laws.proofs.common.Each.{all-filter, all-of}
use Rattle.toml_edit_laws.proofs.common.Sorting.{all-inserted}
use Rattle.toml_edit_laws.proofs.locality.Sound.{of-all}

pub all-unsorted : {A : Type 0} (P : A → Type 0) (before : A → A → Bool) (xs : List A) → AllByRecursion P (sorted_by before xs)
    → AllByRecursion P xs
all-unsorted P before [] h = tt
all-unsorted P before (x ∷ xs) h =
    let g = all-inserted P before x (sorted_by before xs) h in
    (g.0, all-unsorted P before xs g.1)

passes-filter : {A : Type 0} (p test : A → Bool) (xs : List A) → list_all p xs ≡ true → list_all p (filter test xs) ≡ true
passes-filter p test xs h = of-all p (filter test xs) (all-filter (λ x. p x ≡ true) test xs (all-of p xs h))

pub passes-alike : {A : Type 0} (P : A → Type 0) (first second : A → Bool) (xs : List A) → ((x : A) → P x → first x ≡ second x)
    → AllByRecursion P xs → list_all first xs ≡ list_all second xs
passes-alike P first second [] f h = refl
passes-alike P first second (x ∷ xs) f h =
    ap (λ b. b && list_all first xs) (f x h.0) ∙ ap (λ b. second x && b) (passes-alike P first second xs f h.1)

-- none is too late among fewer
pub late-filter : (test : Visit → Bool) (vs : List Visit) → none_too_late vs ≡ true → none_too_late (filter test vs) ≡ true
late-filter test [] h = refl
late-filter test (v ∷ vs) h =
    by_test (test v) (late-filter test vs (and_right (list_all in_time vs) (none_too_late vs) h))
  where
    in_time : Visit → Bool
    in_time w = not (is_too_late v w)

    by_test : (b : Bool) → none_too_late (filter test vs) ≡ true → none_too_late (if b then v ∷ filter test vs else filter test vs) ≡ true
    by_test true ih =
        and_both (list_all in_time (filter test vs)) (none_too_late (filter test vs))
        (passes-filter in_time test vs (and_left (list_all in_time vs) (none_too_late vs) h)) ih
    by_test false ih = ih

-- a table without its slots
abbrev pub stripped : Visit → Visit
stripped v = visit_of v.path v.keys v.is_element v.fields no_slots

pub late-stripped : (vs : List Visit) → none_too_late (map stripped vs) ≡ none_too_late vs
late-stripped [] = refl
late-stripped (v ∷ vs) =
    ap (λ b. b && none_too_late (map stripped vs)) (list_all-map (λ w. not (is_too_late (stripped v) w)) stripped vs)
    ∙ ap (λ b. list_all (λ w. not (is_too_late v w)) vs && b) (late-stripped vs)
