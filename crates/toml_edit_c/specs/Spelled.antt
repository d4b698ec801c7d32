-- The default spellings of strings and keys.
use Rattle.std.specs.Prelude.{◌≡◌, ◌⊎◌, IsUtf8}
use Rattle.toml_edit_model.specs.DefaultSpelling.{default_spelling, key_spelling}
use Rattle.toml_edit_model.specs.Scalars.{string}
use Rattle.toml_edit_model.specs.Text.{Text}
use Rattle.toml_edit_c.specs.declared.answer.Stop.{Stop}
use Rattle.toml_edit_c.specs.declared.answer.Stop.TheVariants.{Memory, NotUtf8}

abbrev pub IsStringSpelling : Text → Text → Type 0
IsStringSpelling text x = IsUtf8 text × (x ≡ default_spelling (string text))

abbrev pub IsKeySpelling : Text → Text → Type 0
IsKeySpelling name x = IsUtf8 name × (x ≡ key_spelling name)

-- it is not UTF-8, or memory ran out
abbrev pub StopsSpelling : Text → Stop → Type 0
StopsSpelling text stop = (stop ≡ Memory) ⊎ ((stop ≡ NotUtf8) × (¬ (IsUtf8 text)))
