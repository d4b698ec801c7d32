-- What a contract sees of a document that is laid out for its print.
use Rattle.std.specs.Prelude.{false}
use Rattle.toml_edit_model.specs.Print.{print_in}
use Rattle.toml_edit_model.specs.Text.{Text}
use Rattle.toml_edit_repr.specs.Modes.{mode_of}
use Rattle.toml_edit_tree.specs.View.{tree_view}
use Rattle.toml_edit.specs.declared.open_end.Laid.{Laid}

-- its text, with a newline after each statement
abbrev pub closed_text : Laid → Text
closed_text l = print_in (mode_of l.mode) false (tree_view l.root.now l.trailing.now)

-- its text
abbrev pub laid_text : Laid → Text
laid_text l = print_in (mode_of l.mode) l.open_end (tree_view l.root.now l.trailing.now)
