-- What the words of a command say.
use Rattle.std.specs.Prelude.{◌≡◌, ◌⊎◌, if◌then◌else◌, List, [], ◌∷◌, map, codes, String, string_bytes}
use Rattle.std.specs.Global.{Global}
use Rattle.toml_edit_model.specs.Text.{Text, same_text}
use Rattle.toml_edit_model.specs.Mode.{Mode, plain, exact}
use Rattle.toml_edit_model.specs.Version.{Version, v1_0, v1_1}
use Rattle.toml_edit_model.specs.Tree.{Node}
use Rattle.toml_edit_words.specs.Spelled.{SpellsPath, SpellsValue}

-- what is done to a document that is read; a path is a list of the texts of its keys
pub data Action : Type 0 where
  printing : Action
  getting : List Text → Action
  setting : List Text → Node → Action
  removing : List Text → Action

-- ---- the mode and the version

-- what words ask for: the mode that the input is read in, the version of TOML that texts are read
-- as, and what is left of the words, the command
pub record Request : Type 0 where
  pub mode : Mode
  pub version : Version
  pub command : List Text

-- TOML 1.0 by the word `strict` in front, and TOML 1.1 without it
abbrev pub asked_in : Mode → List Text → Request
asked_in mode [] = record { mode = mode; version = v1_1; command = [] }
asked_in mode (w ∷ ws) =
    if same_text w (codes "strict") then record { mode = mode; version = v1_0; command = ws }
    else record { mode = mode; version = v1_1; command = w ∷ ws }

-- the exact mode by the word `exact` in front of that, and the plain mode without it
abbrev pub asked : List Text → Request
asked [] = asked_in plain []
asked (w ∷ ws) = if same_text w (codes "exact") then asked_in exact ws else asked_in plain (w ∷ ws)

-- what the words of a call ask for
abbrev pub request : List (String Global) → Request
request words = asked (map string_bytes words)

-- ---- the commands

abbrev pub IsPrint : List Text → Type 0
IsPrint ws = ws ≡ codes "print" ∷ []

abbrev pub IsGet : List Text → Text → Type 0
IsGet ws path = ws ≡ codes "get" ∷ path ∷ []

abbrev pub IsSet : List Text → Text → Text → Type 0
IsSet ws path value = ws ≡ codes "set" ∷ path ∷ value ∷ []

abbrev pub IsRemove : List Text → Text → Type 0
IsRemove ws path = ws ≡ codes "remove" ∷ path ∷ []

-- the words are a command with this as its PATH
abbrev pub TakesPath : List Text → Text → Type 0
TakesPath ws path = IsGet ws path ⊎ ((value : Text) × IsSet ws path value) ⊎ IsRemove ws path

-- the words are a command, whatever its PATH and VALUE are
abbrev pub IsCommand : List Text → Type 0
IsCommand ws = IsPrint ws ⊎ ((path : Text) × TakesPath ws path)

-- ---- what they say

abbrev pub Says : Request → Action → Type 0
Says q printing = IsPrint q.command
Says q (getting names) = (path : Text) × IsGet q.command path × SpellsPath path names
Says q (setting names n) =
    (path : Text) × (value : Text) × IsSet q.command path value × SpellsPath path names
    × SpellsValue q.version value n
Says q (removing names) = (path : Text) × IsRemove q.command path × SpellsPath path names

-- the words are a command, its PATH is a path, and its VALUE a value
abbrev pub SaysAction : Request → Type 0
SaysAction q = (a : Action) × Says q a
