-- Paths and values that programs give to the library.
use Rattle.std.specs.Borrow.{Bor}
use Rattle.std.specs.Prelude.{List, None, map}
use Rattle.toml_edit.specs.model.Keys.{new_key}
use Rattle.toml_edit.specs.model.Scalars.{string}
use Rattle.toml_edit.specs.model.Text.{Text}
use Rattle.toml_edit.specs.model.Tree.{Key, Node, leaf, unset}

-- a path of names
abbrev pub keys_of : List (Bor Text) → List Key
keys_of path = map (λ name. new_key name.now) path

-- a string in its default spelling
abbrev pub string_node : Text → Node
string_node x = leaf (string x) None unset
