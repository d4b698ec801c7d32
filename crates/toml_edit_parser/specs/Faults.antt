-- What an error says of what is wrong.
use Rattle.std.specs.Prelude.{codes}
use Rattle.toml_edit_model.specs.Faults.{cannot_extend, duplicate_key, needs_message, recursion_limit}
use Rattle.toml_edit_model.specs.Text.{Text}
use Rattle.toml_edit_parser.specs.declared.fault.Fault.{Fault}
use Rattle.toml_edit_parser.specs.declared.fault.Fault.TheVariants as faults

abbrev pub fault_message : Fault → Text
fault_message faults.DuplicateKey = duplicate_key
fault_message faults.ExtendsString = cannot_extend (codes "string")
fault_message faults.ExtendsInteger = cannot_extend (codes "integer")
fault_message faults.ExtendsFloat = cannot_extend (codes "float")
fault_message faults.ExtendsBoolean = cannot_extend (codes "boolean")
fault_message faults.ExtendsDatetime = cannot_extend (codes "datetime")
fault_message faults.ExtendsArray = cannot_extend (codes "array")
fault_message faults.ExtendsInlineTable = cannot_extend (codes "inline table")
fault_message faults.RecursionLimit = recursion_limit
fault_message faults.NeedsLaterVersion = needs_message
fault_message faults.Malformed = codes "unexpected character"
