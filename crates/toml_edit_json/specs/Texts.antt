-- What stands in JSON for the bytes of a text.
use Rattle.std.specs.Prelude.{ℕ, ◌==◌, nat_lt, Bool, not, ◌&&◌, if◌then◌else◌, [], flat_map}
use Rattle.json.specs.Print.{escape_byte}
use Rattle.toml_edit_model.specs.Text.{Text, one}
use Rattle.toml_edit_json.specs.declared.runs.Form.{Form}
use Rattle.toml_edit_json.specs.declared.runs.Form.TheVariants.{Quoted, Number}

-- the bytes that are written as they are
abbrev pub is_kept : Form → ℕ → Bool
is_kept Quoted b = not (nat_lt b 0x20) && (not (b == 0x22) && not (b == 0x5C))
is_kept Number b = not (b == 0x5F) && not (b == 0x2B)

-- what is written for another one
abbrev pub other_byte : Form → ℕ → Text
other_byte Quoted b = escape_byte b
other_byte Number b = []

abbrev pub written_byte : Form → ℕ → Text
written_byte form b = if is_kept form b then one b else other_byte form b

abbrev pub written : Form → Text → Text
written form t = flat_map (written_byte form) t
