-- The first faulty statement and its faults, computed for examples: contracts speak of
-- IsFirstFaulty and IsFirstFault.
use Rattle.std.specs.Prelude.{ℕ, zero, suc, Bool, not, ◌&&◌, if◌then◌else◌, List, [], ◌∷◌, length, take, drop}
use Rattle.toml_edit_model.specs.Syntax.{Document}
use Rattle.toml_edit_model.specs.Version.{Version}
use Rattle.toml_edit_model.specs.Paths.{Placed, placed}
use Rattle.toml_edit_model.specs.Accepted.{are_right_in}
use Rattle.toml_edit_model.specs.Faults.{Fault, faults_of}

-- so many statements are right, and one more are not
abbrev pub are_right_up_to : Version → List Placed → ℕ → Bool
are_right_up_to version places n =
    are_right_in version (take n places) && not (are_right_in version (take (suc n) places))

-- the faults of the statement after so many
abbrev pub faults_behind : Version → List Placed → ℕ → List Fault
faults_behind version places n = of_first (drop n places)
  where
    of_first : List Placed → List Fault
    of_first [] = []
    of_first (s ∷ rest) = faults_of version (take n places) s

-- of the first n numbers, up to the one that passes
abbrev pub first_faults_from : Version → List Placed → ℕ → ℕ → List Fault
first_faults_from version places n zero = []
first_faults_from version places n (suc more) =
    if are_right_up_to version places n then faults_behind version places n
    else first_faults_from version places (suc n) more

abbrev pub first_faults_of : Version → Document → List Fault
first_faults_of version d = first_faults_from version (placed d) 0 (length (placed d))
