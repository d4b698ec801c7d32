-- The names of a table.
use Rattle.std.specs.Prelude.{List, ◌++◌, flat_map}
use Rattle.toml_edit.specs.model.Text.{Text, newline}
use Rattle.toml_edit.specs.model.Tree.{Node}

-- each name with a newline after it
abbrev pub name_lines : List (Text × Node) → Text
name_lines ps = flat_map (λ p. p.0 ++ newline) ps
