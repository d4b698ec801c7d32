-- Which bytes are of a class.
use Rattle.std.specs.Prelude.{ℕ, Bool}
use Rattle.toml_edit_model.specs.Trivia.{is_blank, is_visible}
use Rattle.toml_edit_model.specs.Spelling.{is_plain, is_literal, is_bare_byte}
use Rattle.toml_edit_laws.specs.reading.Runs.{is_word_byte}
use Rattle.toml_edit_token.specs.declared.run.Class.{Class}
use Rattle.toml_edit_token.specs.declared.run.Class.TheVariants.{Blank, Visible, Plain, Literal, Bare, Word}

-- whether a byte is of the class
abbrev pub class_test : Class → ℕ → Bool
class_test Blank = is_blank
class_test Visible = is_visible
class_test Plain = is_plain
class_test Literal = is_literal
class_test Bare = is_bare_byte
class_test Word = is_word_byte
