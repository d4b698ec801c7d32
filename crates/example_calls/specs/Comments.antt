-- Comments above keys.
use Rattle.std.specs.Prelude.{◌++◌, List, Some, codes}
use Rattle.std.specs.Option.{option_map_or}
use Rattle.toml_edit.specs.model.Slots.{Slot, changed_at, on_key, place}
use Rattle.toml_edit.specs.model.Text.{Text, newline}
use Rattle.toml_edit.specs.model.Tree.{Key, Node, Raw, owned}

-- a key with this before it, where it ends a path
abbrev pub with_prefix : Raw → Key → Key
with_prefix p k = record k { leaf = record k.leaf { prefix = Some p } }

-- the slots with this comment above the key of the name, if there is one
abbrev pub commented : Text → Text → List (Slot Node) → List (Slot Node)
commented t comment es =
    option_map_or (λ at. changed_at at (on_key (with_prefix (owned (codes "# " ++ comment ++ newline)))) es) (place t es) es
