-- What a word spells.
use Rattle.std.specs.Prelude.{◌≡◌, true, List, map}
use Rattle.toml_edit_model.specs.Lone.{IsLonePath, IsLoneValue, IsLoneItem, is_accepted_value_in}
use Rattle.toml_edit_model.specs.Syntax.{Segment, Value}
use Rattle.toml_edit_model.specs.Text.{Text}
use Rattle.toml_edit_model.specs.Tree.{Node}
use Rattle.toml_edit_model.specs.Version.{Version}

-- the text is a lone path, and these are the texts of its keys
abbrev pub SpellsPath : Text → List Text → Type 0
SpellsPath t names =
    (before : Text) × (p : List Segment) × (after : Text) × IsLonePath t before p after
    × (names ≡ map (λ s. s.key) p)

abbrev pub IsNoPath : Text → Type 0
IsNoPath t = (names : List Text) → SpellsPath t names → ⊥

-- the text is a lone value of the version, within limits and ranges, and this is its item
abbrev pub SpellsValue : Version → Text → Node → Type 0
SpellsValue version t n =
    (v : Value) × IsLoneValue t v × (is_accepted_value_in version v ≡ true) × IsLoneItem v n

abbrev pub IsNoValue : Version → Text → Type 0
IsNoValue version t = (n : Node) → SpellsValue version t n → ⊥
