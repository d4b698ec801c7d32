-- The values that programs put into documents.
use Rattle.std.specs.Prelude.{true, None, List, [], ◌∷◌, codes}
use Rattle.toml_edit.specs.model.Keys.{new_key}
use Rattle.toml_edit.specs.model.Scalars.{boolean, string}
use Rattle.toml_edit.specs.model.Text.{Text}
use Rattle.toml_edit.specs.model.Tree.{Key, Node, leaf, unset}

-- the path `package.version`
abbrev pub version_path : List Key
version_path = new_key (codes "package") ∷ new_key (codes "version") ∷ []

-- a string, and a boolean, in their default spellings
abbrev pub string_node : Text → Node
string_node x = leaf (string x) None unset

abbrev pub flag_node : Node
flag_node = leaf (boolean true) None unset
