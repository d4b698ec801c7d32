-- What a contract sees of the headers of a document, and of the walk that finds them.
use Rattle.std.specs.Prelude.{[], ◌∷◌, ◌++◌, map}
use Rattle.toml_edit_model.specs.Mode.{Mode}
use Rattle.toml_edit_model.specs.Print.{segments}
use Rattle.toml_edit_model.specs.Syntax.{path_text}
use Rattle.toml_edit_model.specs.Text.{Text}
use Rattle.toml_edit_model.specs.Tree.{Key}
use Rattle.toml_edit_laws.specs.PrintByVisits.{Headed, Walked, headed, inside_brackets}
use Rattle.toml_edit_tree.specs.Printing.{keys_on}
use Rattle.toml_edit_tree.specs.View.{fields_view, table_slots}
use Rattle.toml_edit_tree.specs.declared.encode.Path.{Path}
use Rattle.toml_edit.specs.declared.headers.Header.{Header}
use Rattle.toml_edit.specs.declared.headers.Walk.{Walk}

abbrev pub header_view : Header → Headed
header_view h =
    headed h.place (keys_on h.path.now ++ (h.key.now ∷ [])) h.is_element (fields_view h.table.now)
    (table_slots h.table.now)

-- what is inside the brackets of the header of this key below this path
abbrev pub keys_in_brackets : Mode → Path → Key → Text
keys_in_brackets mode path key =
    inside_brackets mode key.leaf (path_text (segments mode (keys_on path ++ (key ∷ []))))

abbrev pub walk_view : Walk → Walked
walk_view w = record { tables = map header_view w.headers.items; seen = w.seen }
