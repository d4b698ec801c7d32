-- What a text is refused with that is not in the grammar, and which messages there are.
use Rattle.std.specs.Prelude.{List, [], ◌∷◌, ◌++◌, map, codes, Contains, IsSome}
use Rattle.toml_edit_model.specs.Text.{Text}
use Rattle.toml_edit_model.specs.Faults.{Fault, duplicate_key, cannot_extend, recursion_limit, needs_message}
use Rattle.toml_edit_model.specs.Version.{Version, v1_0, v1_1}

-- the messages for a text that is not in the grammar
abbrev pub syntax_messages : List Text
syntax_messages =
    codes "unexpected character" ∷ codes "expected a key" ∷ codes "expected ="
    ∷ codes "expected a value" ∷ codes "expected a newline"
    ∷ codes "unclosed string" ∷ codes "unclosed array" ∷ codes "unclosed inline table"
    ∷ codes "unclosed header"
    ∷ codes "invalid escape" ∷ codes "invalid number" ∷ codes "invalid date-time"
    ∷ codes "control character" ∷ codes "carriage return without line feed" ∷ []

-- One of them, and the place that it marks. Which one, and which place, is not said.
pub record IsSyntaxFault (f : Fault) : Type 0 where
  pub message : Contains syntax_messages f.message
  pub span : IsSome f.span

-- the kinds of values, as messages name them
abbrev pub type_names : List Text
type_names =
    codes "string" ∷ codes "integer" ∷ codes "float" ∷ codes "boolean" ∷ codes "datetime"
    ∷ codes "array" ∷ codes "inline table" ∷ []

-- the messages of faults of a text that is in the grammar
abbrev pub fault_messages : List Text
fault_messages =
    (duplicate_key ∷ codes "integer number overflowed" ∷ codes "invalid date-time"
    ∷ recursion_limit ∷ [])
    ++ map cannot_extend type_names

-- those messages in a version of the grammar
abbrev pub fault_messages_in : Version → List Text
fault_messages_in v1_0 = needs_message ∷ fault_messages
fault_messages_in v1_1 = fault_messages
