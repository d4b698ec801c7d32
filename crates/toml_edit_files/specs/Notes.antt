-- Messages to standard error.
use Rattle.std.specs.Prelude.{◌≡◌, ◌++◌, codes, drop, if◌then◌else◌, nat_eq}
use Rattle.std.specs.List.{starts_with}
use Rattle.toml_edit_model.specs.Text.{Text, newline}

-- the name that they begin with
abbrev pub program : Text
program = codes "tomlfile: "

abbrev pub note_text : Text → Text
note_text said = program ++ said ++ newline

-- a message without that name
abbrev pub unnamed : Text → Text
unnamed t = if starts_with nat_eq t program then drop 10 t else t

abbrev pub IsNote : Text → Type 0
IsNote t = ∥ ((said : Text) × (t ≡ note_text said)) ∥₁
