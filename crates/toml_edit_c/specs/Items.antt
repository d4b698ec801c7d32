-- The item at a path, and the texts that are given of it.
use Rattle.std.specs.Prelude.{◌≡◌, ◌⊎◌, ℕ, List, [], ◌∷◌, None, Some}
use Rattle.toml_edit_model.specs.Mode.{Mode}
use Rattle.toml_edit_model.specs.Text.{Text}
use Rattle.toml_edit_model.specs.Tree.{Node, Tree}
use Rattle.toml_edit_model.specs.Version.{Version}
use Rattle.toml_edit_edit_laws.specs.Commands.{item_at, root_item}
use Rattle.toml_edit_words.specs.Spelled.{SpellsPath}
use Rattle.toml_edit_command.specs.Written.{Held, IsHeldOf}
use Rattle.toml_edit_items.specs.Below.{table_keys}
use Rattle.toml_edit_json.specs.Values.{json_text}
use Rattle.toml_edit_c.specs.Asks.{options_by}
use Rattle.toml_edit_c.specs.Made.{MayStopPath, StopsReadingBy}
use Rattle.toml_edit_c.specs.declared.answer.Stop.{Stop}
use Rattle.toml_edit_c.specs.declared.answer.Stop.TheVariants.{Memory, NoSuchPath, WrongKind}

-- this is held of the text by the flags
abbrev pub IsHeldBy : ℕ → Text → Held → Type 0
IsHeldBy flags text h =
    (how : Mode × Version) × (options_by flags ≡ Some how) × IsHeldOf how.0 how.1 text h

-- the item is at the path, or is the root under the empty path
abbrev pub IsItemAt : Text → Tree → Node → Type 0
IsItemAt [] t n = n ≡ root_item t
IsItemAt (c ∷ cs) t n = (names : List Text) × SpellsPath (c ∷ cs) names × (item_at names t ≡ Some n)

-- an item of this property is at the path in what is held of the text
abbrev pub HasItem : ℕ → Text → Text → (Node → Type 0) → Type 0
HasItem flags text path Is =
    (h : Held) × IsHeldBy flags text h × (n : Node) × IsItemAt path h.tree n × Is n

-- the JSON text of the item at the path
abbrev pub IsJsonBy : ℕ → Text → Text → Text → Type 0
IsJsonBy flags text path x = HasItem flags text path (λ n. x ≡ json_text n)

-- the keys of a table, one a line
abbrev pub AreKeysOf : Text → Node → Type 0
AreKeysOf x n = table_keys n ≡ Some x

-- those of the table at the path
abbrev pub AreKeysBy : ℕ → Text → Text → Text → Type 0
AreKeysBy flags text path x = HasItem flags text path (AreKeysOf x)

-- ---- what stops it

-- the path is none, or nothing is at it, or memory ran out
abbrev pub StopsItem : Text → Tree → Stop → Type 0
StopsItem [] t stop = ⊥
StopsItem (c ∷ cs) t stop =
    MayStopPath (c ∷ cs) stop
    ⊎ ((stop ≡ NoSuchPath)
    × ((names : List Text) × SpellsPath (c ∷ cs) names × (item_at names t ≡ None)))

-- so it is in what is held of the text, or the text cannot be read
abbrev pub StopsItemBy : ℕ → Text → Text → Stop → Type 0
StopsItemBy flags text path stop =
    StopsReadingBy flags text stop
    ⊎ ((h : Held) × IsHeldBy flags text h × StopsItem path h.tree stop)

-- the item is no table, or memory ran out
abbrev pub StopsKeysOf : Node → Stop → Type 0
StopsKeysOf n stop = (stop ≡ Memory) ⊎ ((stop ≡ WrongKind) × (table_keys n ≡ None))

-- so is the item at the path, or there is none
abbrev pub StopsKeysBy : ℕ → Text → Text → Stop → Type 0
StopsKeysBy flags text path stop =
    StopsItemBy flags text path stop ⊎ HasItem flags text path (λ n. StopsKeysOf n stop)
