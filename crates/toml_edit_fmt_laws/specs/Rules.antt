-- What a formatter is asked for. A rule that is off leaves the places as they are that it is about.
use Rattle.std.specs.Prelude.{ℕ, Bool, true, false, ◌-◌, if◌then◌else◌, ◌∷◌, Option, Some}
use Rattle.std.specs.List.{repeat}
use Rattle.toml_edit_model.specs.Text.{Text, carriage_return, newline, one, space}

-- how lines and headers begin: as they do, without white space, or further in for each key of their
-- header
pub data Indentation : Type 0 where
  as_it_is : Indentation
  flush : Indentation
  by_depth : Indentation

-- what is before a comment after something on its line: what was, so many spaces, or as many as bring
-- the comments of neighbours into one column, that many after the longest
pub data Comments : Type 0 where
  as_they_are : Comments
  apart : ℕ → Comments
  aligned : ℕ → Comments

-- an array has several lines never, if it has, or if it has comments; the last two also where it is
-- too wide
pub data Arrays : Type 0 where
  arrays_stay : Arrays
  kept : Arrays
  collapsed : Arrays

-- a comma after the last of several lines is there if it was, always, or where a comment is before it
pub data Commas : Type 0 where
  commas_stay : Commas
  always : Commas
  never : Commas

pub record Rules : Type 0 where
  pub equals : Bool
  pub dots : Bool
  pub comments : Comments
  -- the most empty lines in a row
  pub blank_lines : Option ℕ
  pub indentation : Indentation
  -- the spaces of a unit of indentation
  pub unit : ℕ
  pub arrays : Arrays
  -- several scalars on a line stay there
  pub rows : Bool
  pub commas : Commas
  -- a space inside of the brackets on one line
  pub bracket_space : Bool
  pub brace_space : Bool
  pub width : Option ℕ
  pub inline_tables : Bool
  -- new lines end in CR LF
  pub returns : Bool
  -- keys are bare where they can be
  pub keys : Bool
  -- comments may say that statements, or all of a text, stay
  pub left_alone : Bool

-- each rule as it is unless asked otherwise
abbrev pub default_rules : Rules
default_rules =
    record {
      equals = true;
      dots = true;
      comments = apart 1;
      blank_lines = Some 1;
      indentation = flush;
      unit = 2;
      arrays = kept;
      rows = true;
      commas = always;
      bracket_space = false;
      brace_space = true;
      width = Some 80;
      inline_tables = true;
      returns = false;
      keys = false;
      left_alone = true;
    }

abbrev pub spaces : ℕ → Text
spaces n = repeat n (one space)

-- so many units
abbrev pub units : Rules → ℕ → Text
units r n = repeat n (spaces r.unit)

-- how far the lines below a header of so many keys are in, and the header
abbrev pub depth_as : Indentation → ℕ → ℕ
depth_as by_depth keys = keys
depth_as as_it_is keys = 0
depth_as flush keys = 0

abbrev pub line_depth : Rules → ℕ → ℕ
line_depth r = depth_as r.indentation

abbrev pub header_depth : Rules → ℕ → ℕ
header_depth r keys = line_depth r (keys - 1)

-- the newline of a line that is made
abbrev pub made_newline : Rules → Text
made_newline r = if r.returns then carriage_return ∷ newline else newline
