-- What is set or removed at a path that a text spells.
use Rattle.std.specs.Prelude.{◌≡◌, List}
use Rattle.toml_edit.specs.edits.Commands.{done, remove_at, set_at}
use Rattle.toml_edit.specs.model.Keys.{names}
use Rattle.toml_edit.specs.model.Text.{Text}
use Rattle.toml_edit.specs.model.Tree.{Key, Node, Tree}
use Rattle.toml_edit.specs.parser.ReadKeys.{AreLoneKeys}

-- the value is set at the path, as `set_at` defines it
abbrev pub IsSetAt : Text → Node → Tree → Tree → Type 0
IsSetAt path value old new =
    (keys : List Key) × AreLoneKeys path keys × (set_at keys value old ≡ done new)

-- the item at the path is removed, as `remove_at` defines it
abbrev pub IsRemovedAt : Text → Tree → Tree → Type 0
IsRemovedAt path old new =
    (keys : List Key) × AreLoneKeys path keys × (remove_at (names keys) old ≡ done new)
