-- Where the comment of a line is.
use Rattle.std.specs.Prelude.{◌≡◌, ℕ, ◌+◌, ◌<◌, drop, slice_index, take, take_while, length, Option, Some, None}
use Rattle.toml_edit_model.specs.Text.{Text, hash}
use Rattle.toml_edit_model.specs.Trivia.{is_blank}
use Rattle.toml_edit_model.specs.Comments.{body_in}

-- the `#` is at this place, after white space alone and before the comment
pub record HasHashAt (l : Text) (at : ℕ) : Type 0 where
  pub within : at < length l
  pub byte : slice_index l at ≡ hash
  pub white : take_while is_blank l ≡ take at l
  pub body : body_in l ≡ Some (drop (at + 1) l)

-- or the line has no comment
abbrev pub IsHashPlace : Text → Option ℕ → Type 0
IsHashPlace l (Some at) = HasHashAt l at
IsHashPlace l None = body_in l ≡ None
