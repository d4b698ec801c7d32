-- What a scalar of the code stands for.
use Rattle.std.specs.Prelude.{◌≡◌, true, string_bytes}
use Rattle.toml_edit_model.specs.Text.{Text}
use Rattle.toml_edit_model.specs.Scalars as scalars
use Rattle.toml_edit_model.specs.Spelling.{Spells, is_in_range}
use Rattle.toml_edit_token.specs.declared.decode.Scalar as code
use Rattle.toml_edit_token.specs.declared.decode.Scalar.TheVariants.{String, Integer, Float, Boolean, Datetime}
use Rattle.toml_edit_datetime.specs.DatetimeView.{datetime_view}

abbrev pub scalar_view : code.Scalar → scalars.Scalar
scalar_view (String s) = scalars.string (string_bytes s)
scalar_view (Integer z) = scalars.integer z
scalar_view (Float x) = scalars.float x
scalar_view (Boolean b) = scalars.boolean b
scalar_view (Datetime d) = scalars.datetime (datetime_view d)

-- the text spells the scalar, which is in range
pub record IsSpelling (t : Text) (s : scalars.Scalar) : Type 0 where
  pub spells : Spells s t
  pub in_range : is_in_range s t ≡ true
