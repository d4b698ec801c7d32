-- Parts of the text of a value. Only private clauses cite them.
use Rattle.std.specs.Prelude.{Bool, if◌then◌else◌, [], ◌++◌, codes}
use Rattle.json.specs.Print.{print_from, quoted}
use Rattle.json.specs.Tree.{items_tokens, members_tokens}
use Rattle.toml_edit_model.specs.Text.{Text}
use Rattle.toml_edit_model.specs.Tree.{Key, Node, Items, Slots}
use Rattle.toml_edit_json.specs.Values.{json_items, json_members, json_text}

abbrev pub comma_after : Bool → Text
comma_after value = if value then codes "," else []

-- what follows in an array, after a value or none, with its bracket
abbrev pub items_text : Bool → Items → Text
items_text after_value xs = print_from after_value (items_tokens (json_items xs))

abbrev pub slots_text : Bool → Slots → Text
slots_text after_value ss = print_from after_value (members_tokens (json_members ss))

abbrev pub pair_text : Key → Node → Text
pair_text k n = quoted k.name ++ (codes ":" ++ json_text n)
