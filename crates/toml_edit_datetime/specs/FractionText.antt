-- The digits of a fraction of a second.
use Rattle.std.specs.Prelude.{ℕ}
use Rattle.toml_edit_model.specs.Text.{Text}
use Rattle.toml_edit_model.specs.DefaultSpelling.{fraction_digits}

-- the digits of nanoseconds, up to the last that isn't 0
unfoldable pub fraction_text : ℕ → Text
fraction_text n = fraction_digits 9 n
