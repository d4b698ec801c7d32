-- Setting a value, with headers for the tables that are missing or without.
use Rattle.std.specs.Prelude.{Bool, true, false, if◌then◌else◌, List}
use Rattle.toml_edit_model.specs.Tree.{Key, Node, is_value_node}
use Rattle.toml_edit_edit_laws.specs.CommandLaws.{made_below}
use Rattle.toml_edit_edit_laws.specs.Commands.{Answer, set_below}
use Rattle.toml_edit_edit_laws.specs.Headed.{headed_below, set_headed_below}

abbrev pub set_by : Bool → Node → List Key → Node → Answer Node
set_by true v path n = set_headed_below v path n
set_by false v path n = set_below v path n

-- what is made above a value below new keys
abbrev pub made_by : Bool → List Key → Node → Node
made_by true path v = headed_below path v
made_by false path v = made_below path v

-- whether tables that are missing in an item get headers
abbrev pub headers_in : Bool → Node → Bool
headers_in headers n = if is_value_node n then false else headers
