-- How integers are spelled, and a value that a text spells.
use Rattle.std.specs.Prelude.{◌≡◌, List, Option, None}
use Rattle.toml_edit.specs.model.Scalars.{integer}
use Rattle.toml_edit.specs.model.Slots.{Slot, inserted}
use Rattle.toml_edit.specs.model.Text.{Text}
use Rattle.toml_edit.specs.model.Tree.{Node, Raw, leaf}
use Rattle.toml_edit.specs.parser.LoneValue.{IsLoneItemReading}

-- the spelling of an integer, if it has its own
abbrev pub integer_spelling : Node → Option Raw
integer_spelling (leaf (integer z) spelling d) = spelling
integer_spelling n = None

-- an integer with the default spelling; all else as it is
abbrev pub in_decimal : Node → Node
in_decimal (leaf (integer z) spelling d) = leaf (integer z) None d
in_decimal n = n

-- the value that the text spells was inserted under the name, and the other slots stay
abbrev pub SetsRead : Text → Text → List (Slot Node) → List (Slot Node) → Type 0
SetsRead t text old new = (x : Node) × IsLoneItemReading text x × (new ≡ inserted t x old)
