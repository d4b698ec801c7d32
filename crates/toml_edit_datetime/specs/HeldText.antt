-- The text that is held, in place or not.
use Rattle.std.specs.Prelude.{string_bytes}
use Rattle.toml_edit_model.specs.Text.{Text}
use Rattle.toml_edit_datetime.specs.declared.float_text.HeldText as code
use Rattle.toml_edit_datetime.specs.declared.float_text.HeldText.TheVariants.{Short, Long}

abbrev pub held_text : code.HeldText → Text
held_text (Short t) = t.bytes
held_text (Long s) = string_bytes s
