-- What is known between two statements, as the definitions have it.
use Rattle.std.specs.Prelude.{Bool, true, false}
use Rattle.toml_edit_model.specs.Syntax.{Statement, key_line, header}
use Rattle.toml_edit_fmt_laws.specs.Formatted as laws
use Rattle.toml_edit_fmt_laws.specs.Formatted.{keys_below}
use Rattle.toml_edit_fmt.specs.declared.state.State as code

abbrev pub state_of : code.State → laws.State
state_of s =
    record {
      is_start = s.is_start;
      keys = s.keys;
      is_off = s.is_off;
      is_generated = s.is_generated;
    }

abbrev pub is_header : Statement → Bool
is_header (header h end) = true
is_header (key_line f v end) = false

-- the state after a statement, where what is before it was reached
abbrev pub passed : laws.State → Statement → laws.State
passed st s = record st { is_start = false; keys = keys_below st.keys s }
