-- How a string of several lines is walked through, piece by piece.
use Rattle.std.specs.Prelude.{◌≡◌, ℕ, ◌<◌, [], length, encode_utf8, Option, Some, None, if◌then◌else◌}
use Rattle.toml_edit_model.specs.Text.{Text, quote, apostrophe}
use Rattle.toml_edit_token.specs.declared.block_string.Form.{Form}
use Rattle.toml_edit_token.specs.declared.block_string.Form.TheVariants.{Basic, Literal}
use Rattle.toml_edit_token.specs.declared.block_string.Piece.{Piece}
use Rattle.toml_edit_token.specs.declared.block_string.Piece.TheVariants.{Own, Escaped, Last}
use Rattle.toml_edit_token.specs.declared.run.Class.{Class}
use Rattle.toml_edit_token.specs.declared.run.Class.TheVariants as class
use Rattle.toml_edit_laws.specs.reading.Runs.{Read}
use Rattle.toml_edit_laws.specs.reading.Tokens.{prepend}
use Rattle.toml_edit_laws.specs.reading.BlockReading.{has_three, inside, literal_part_at, basic_part_at, parts_at}

-- the quote that delimits the form
abbrev pub delimiter_of : Form → ℕ
delimiter_of Basic = quote
delimiter_of Literal = apostrophe

-- the bytes that stand for themselves in the form
abbrev pub class_of : Form → Class
class_of Basic = class.Plain
class_of Literal = class.Literal

-- the part of a line at the front
abbrev pub part_of : Form → Text → Read Text
part_of Basic = basic_part_at
part_of Literal = literal_part_at

-- a string of the form after its opening, in at most n parts
abbrev pub form_at : Form → ℕ → Text → Read Text
form_at f n t = parts_at (part_of f) (delimiter_of f) n t

-- the form of the string that opens, and the text after its opening
unfoldable pub opening_at : Text → Option (Form × Text)
opening_at t =
    if has_three quote t then Some (Basic, inside t)
    else if has_three apostrophe t then Some (Literal, inside t)
    else None

-- the character that an escape stands for, or nothing
abbrev pub escaped_text : Option ℕ → Text
escaped_text None = []
escaped_text (Some c) = encode_utf8 c

-- what was read says these bytes before what the rest says
abbrev pub GoesOn : Form → Read Text → Text → Text → Type 0
GoesOn f r bytes rest = (m : ℕ) × (length rest < m) × (r ≡ prepend bytes (form_at f m rest))

-- what was read begins with the piece, and goes on with the rest
abbrev pub ReadsPiece : Form → Read Text → Piece → Text → Type 0
ReadsPiece f r (Own own) rest = GoesOn f r own.now rest
ReadsPiece f r (Escaped c) rest = GoesOn f r (escaped_text c) rest
ReadsPiece f r (Last own) rest = r ≡ Some (own.now, rest)
