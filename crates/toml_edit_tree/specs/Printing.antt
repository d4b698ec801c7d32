-- The text of a value, the lines of an item, and the keys before them.
use Rattle.std.specs.Prelude.{true, false, List, [], ◌∷◌, ◌++◌}
use Rattle.toml_edit_model.specs.Text.{Text}
use Rattle.toml_edit_model.specs.Syntax.{value_text}
use Rattle.toml_edit_model.specs.Mode.{Mode}
use Rattle.toml_edit_model.specs.Tree.{Key, Node}
use Rattle.toml_edit_model.specs.Print.{Line, is_line_node, dotted_lines}
use Rattle.toml_edit_model.specs.Print.{line_of, lines_inside, value_of}
use Rattle.toml_edit_tree.specs.declared.encode.Path as paths

-- the keys from the outermost in
abbrev pub keys_on : paths.Path → List Key
keys_on paths.Root = []
keys_on (paths.Under' p up key) = keys_on up ++ (key.now ∷ [])

-- ---- in a mode

module _ (mode : Mode) where
  -- the text of a value, without its decor
  abbrev pub node_text : Node → Text
  node_text n = value_text (value_of mode n)

  -- the lines of an item with these keys
  abbrev pub lines_of_item : Node → List Key → List Line
  lines_of_item n ks =
      elim (is_line_node n) [
        | true ↦ line_of ks n (value_of mode n)
        | false ↦ lines_inside mode n ks
      ]

  -- the lines of an item of a table, with these keys
  abbrev pub lines_in_table : Node → List Key → List Line
  lines_in_table n ks =
      elim (is_line_node n) [
        | true ↦ line_of ks n (value_of mode n)
        | false ↦ dotted_lines mode n ks
      ]
