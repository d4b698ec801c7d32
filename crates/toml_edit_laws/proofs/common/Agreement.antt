-- Whether mentions agree with others, taken apart by appended lists.
use Rattle.std.proofs.Common.{Bool, List, ◌≡◌, ◌++◌, false, true, refl, ap, ◌∙◌, ◌∷◌, []}
use Rattle.toml_edit_model.specs.Accepted.{agree}
use Rattle.toml_edit_model.specs.Paths.{same_path, Mention}
use Rattle.toml_edit_model.specs.Roles.{Role}
use Rattle.std.proofs.lemmas.List.Folds.{list_all-append}
use Rattle.std.specs.List.{list_all}
use Rattle.std.specs.Prelude.{not, ◌&&◌, ◌||◌}

-- all agree, each with those before it
pub agree-append : {S : Type 0} (may : Role → Role → Bool) (xs ys later : List (Mention S)) → agree may (xs ++ ys) later
    ≡ (agree may xs later && agree may ys later)
agree-append may xs ys later = list_all-append (λ m. list_all (λ n. not (same_path m.path n.path) || may m.role n.role) later) xs ys

pub and-swap-inner : (a b c d : Bool) → ((a && b) && (c && d)) ≡ ((a && c) && (b && d))
and-swap-inner true true c d = refl
and-swap-inner true false true d = refl
and-swap-inner true false false d = refl
and-swap-inner false b c d = refl

pub agree-all : {S : Type 0} (may : Role → Role → Bool) (xs ys : List (Mention S)) (mss : List (List (Mention S)))
    → list_all (agree may (xs ++ ys)) mss ≡ (list_all (agree may xs) mss && list_all (agree may ys) mss)
agree-all may xs ys [] = refl
agree-all may xs ys (ms ∷ mss) =
    ap (λ b. b && list_all (agree may (xs ++ ys)) mss) (agree-append may xs ys ms)
    ∙ ap (λ b. (agree may xs ms && agree may ys ms) && b) (agree-all may xs ys mss)
    ∙ and-swap-inner (agree may xs ms) (agree may ys ms) (list_all (agree may xs) mss) (list_all (agree may ys) mss)
