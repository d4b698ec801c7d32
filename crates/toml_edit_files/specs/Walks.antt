-- The files that a command is given: those that it names, and those below folders.
use Rattle.std.specs.Prelude.{◌≡◌, ◌⊎◌, ℕ, zero, suc, nat_eq, Bool, true, false, not, ◌||◌, if◌then◌else◌, MatchBool, List, [], ◌∷◌, ◌++◌, map, filter, Option, codes, string_bytes}
use Rattle.std.specs.List.{ends_with, list_any, starts_with}
use Rattle.file_replace.specs.Events.{Text, Call, Event, listed, no_folder, done, failed, more}
use Rattle.toml_edit_files.specs.Folders.{is_stream}
use Rattle.toml_edit_files.specs.declared.walk.Place.{Place}
use Rattle.toml_edit_files.specs.declared.walk.Place.TheVariants.{Folder, Other, Unknown}
use Rattle.toml_edit_files.specs.declared.walk.TheConstants.{DEPTH}

-- ---- names

-- the name of what has this name in a folder
abbrev pub inside : Text → Text → Text
inside folder name =
    if ends_with nat_eq folder (codes "/") then folder ++ name else folder ++ (codes "/" ++ name)

-- those that a walk goes on with: no name in the folder that begins with a dot
abbrev pub below : Text → List Text → List Text
below folder names = map (inside folder) (filter (λ n. not (starts_with nat_eq n (codes "."))) names)

abbrev pub is_toml : Text → Bool
is_toml name = ends_with nat_eq name (codes ".toml")

-- ---- files

module _ (Finds : Text → List Event → List Text → Type 0) where
  -- the files of names, one after another, and what is asked for them
  abbrev pub FindsEach : List Text → List Event → List Text → Type 0
  FindsEach [] es files = (es ≡ []) × (files ≡ [])
  FindsEach (name ∷ names) es files =
      (first : List Event) × (rest : List Event) × (found : List Text) × (others : List Text)
      × Finds name first found × FindsEach names rest others × (es ≡ first ++ rest)
      × (files ≡ found ++ others)

-- What is no folder is a file if it is named, or ends with `.toml`. What a folder holds may not be
-- known: its name stays, at which the command fails.
abbrev pub FindsFile : Bool → Text → List Event → List Text → Type 0
FindsFile is_named name es files =
    ((es ≡ done (no_folder name) ∷ [])
    × (files ≡ (if is_named || is_toml name then name ∷ [] else [])))
    ⊎ ((es ≡ failed (no_folder name) ∷ []) × (files ≡ name ∷ []))

-- The files of a folder are those of the names in it. A folder that is too deep is not walked: its
-- name stays.
abbrev pub Finds : ℕ → Bool → Text → List Event → List Text → Type 0
Finds zero is_named name es files =
    FindsFile is_named name es files
    ⊎ ((names : List Text) × (es ≡ done (listed name names) ∷ []) × (files ≡ name ∷ []))
Finds (suc depth) is_named name es files =
    FindsFile is_named name es files
    ⊎ ((names : List Text) × (rest : List Event) × (es ≡ done (listed name names) ∷ rest)
    × FindsEach (Finds depth false) (below name names) rest files)

-- of a name that a call has, where `-` is standard input
abbrev pub FindsNamed : Text → List Event → List Text → Type 0
FindsNamed name es files =
    MatchBool (is_stream name) ((es ≡ []) × (files ≡ name ∷ [])) (Finds DEPTH true name es files)

-- ---- finding them

-- a folder is among what was asked about
abbrev pub is_listing : Call → Bool
is_listing (listed name names) = true
is_listing _ = false

abbrev pub walks : List Event → Bool
walks es = list_any (λ e. is_listing e.call) es

-- files that are found like this are put behind others
abbrev pub FindsMore : (List Event → List Text → Type 0) → Bool → Option (List Event) → Option (List Event)
    → List Text → List Text → Type 0
FindsMore Found is_walked old new before after =
    (es : List Event) × (files : List Text) × Found es files × (is_walked ≡ walks es)
    × (new ≡ more es old) × (after ≡ before ++ files)

-- what is found where a folder is asked about
abbrev pub LooksAt : Text → Place → Option (List Event) → Option (List Event) → Type 0
LooksAt name (Folder paths) old new =
    (names : List Text) × (map string_bytes paths.items ≡ below name names)
    × (new ≡ more (done (listed name names) ∷ []) old)
LooksAt name Other old new = new ≡ more (done (no_folder name) ∷ []) old
LooksAt name Unknown old new = new ≡ more (failed (no_folder name) ∷ []) old
