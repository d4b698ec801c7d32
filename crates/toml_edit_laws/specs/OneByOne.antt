-- Statements gone through one by one, each after those before it: what is accepted so, the first
-- that isn't right, and its faults.
use Rattle.std.specs.Prelude.{◌≡◌, ◌↔◌, Bool, true, false, ◌&&◌, List, [], ◌∷◌, ◌++◌, Contains}
use Rattle.std.specs.List.{list_all}
use Rattle.toml_edit_model.specs.Syntax.{Document}
use Rattle.toml_edit_model.specs.Version.{Version, v1_1, is_of_version}
use Rattle.toml_edit_model.specs.Paths.{Placed, placed}
use Rattle.toml_edit_model.specs.Accepted.{agree, is_sound, is_accepted_in, IsFirstFaultyIn, IsFirstFaulty}
use Rattle.toml_edit_model.specs.Faults.{Fault, faults_of, IsFirstFaultIn}
use Rattle.toml_edit_model.specs.Roles.{may_meet}

-- the statement is sound and agrees with each earlier one
abbrev pub is_right_after : List Placed → Placed → Bool
is_right_after earlier s =
    is_sound s.source.statement && list_all (λ e. agree may_meet e.mentions s.mentions) earlier

module _ (version : Version) where
  -- the statement is one of the version too
  abbrev pub is_right_in : List Placed → Placed → Bool
  is_right_in earlier s = is_of_version version s.source.statement && is_right_after earlier s

  -- each is right after those before it
  abbrev pub all_right_in : List Placed → List Placed → Bool
  all_right_in earlier [] = true
  all_right_in earlier (s ∷ rest) = is_right_in earlier s && all_right_in (earlier ++ (s ∷ [])) rest

-- that, in TOML 1.1
abbrev pub all_right_after : List Placed → List Placed → Bool
all_right_after earlier places = all_right_in v1_1 earlier places

-- the faults of the first statement that has any, after the earlier ones
unfoldable pub first_faults : List Placed → List Placed → List Fault
first_faults earlier [] = []
first_faults earlier (s ∷ rest) =
    or_later (faults_of v1_1 earlier s) (first_faults (earlier ++ (s ∷ [])) rest)
  where
    or_later : List Fault → List Fault → List Fault
    or_later [] later = later
    or_later (f ∷ fs) later = f ∷ fs

-- A document is accepted if each of its statements is right after those before it, and only then.
abbrev pub OneByOne : Version → Type 0
OneByOne version = (d : Document) → is_accepted_in version d ≡ all_right_in version [] (placed d)

-- Where it isn't accepted there is a first faulty statement, and never two.
pub record FirstFaulty (version : Version) (d : Document) : Type 0 where
  pub some : is_accepted_in version d ≡ false
      → (earlier : List Placed) × (s : Placed) × IsFirstFaultyIn version d earlier s
  pub refused : (earlier : List Placed) (s : Placed) → IsFirstFaultyIn version d earlier s
      → is_accepted_in version d ≡ false
  pub one : (earlier others : List Placed) (s r : Placed) → IsFirstFaultyIn version d earlier s
      → IsFirstFaultyIn version d others r
      → (others ≡ earlier) × (r ≡ s)

-- The faults that are found one by one are those of the first faulty statement, which has one.
pub record FirstFaults (d : Document) : Type 0 where
  pub faults : (earlier : List Placed) (s : Placed) → IsFirstFaulty d earlier s
      → first_faults [] (placed d) ≡ faults_of v1_1 earlier s
  pub some : (earlier : List Placed) (s : Placed) → IsFirstFaulty d earlier s
      → (f : Fault) × Contains (faults_of v1_1 earlier s) f
  pub named : (f : Fault) → Contains (first_faults [] (placed d)) f ↔ IsFirstFaultIn v1_1 d f

abbrev pub FaultsOfFirst : Type 0
FaultsOfFirst = (d : Document) → FirstFaults d
