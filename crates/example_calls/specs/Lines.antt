-- A line that is added to an array.
use Rattle.std.specs.Prelude.{◌-◌, ◌==◌, ◌++◌, List, [], ◌∷◌, Option, None, Some, codes, if◌then◌else◌, length, option_and_then}
use Rattle.std.specs.Option.{option_or, unwrap_or}
use Rattle.std.specs.Str.{trim_end}
use Rattle.toml_edit.specs.model.ArrayCalls.{pushed, value_at}
use Rattle.toml_edit.specs.model.Conversions.{with_decor}
use Rattle.toml_edit.specs.model.Scalars.{string}
use Rattle.toml_edit.specs.model.Slots.{changed_at}
use Rattle.toml_edit.specs.model.Text.{Text, newline}
use Rattle.toml_edit.specs.model.Tree.{ArrayFields, Node, Raw, leaf, node_decor, owned}
use Rattle.toml_edit.specs.repr.Views.{text_of}
use Rattle.toml_edit.specs.tree.Casts.{both_sides}

-- the text of a side of a decor, which is empty if it is unset or a span
abbrev pub side_text : Option Raw → Text
side_text side = unwrap_or (option_and_then text_of side) []

-- the text after the last newline
abbrev pub after_newline : Text → Option Text
after_newline [] = None
after_newline (b ∷ t) = option_or (after_newline t) (if b == 0x0A then Some t else None)

-- that text, or four spaces if there is none
abbrev pub indent_of : Text → Text
indent_of t = unwrap_or (after_newline t) (codes "    ")

-- what is after a value, or else a trailing text
abbrev pub suffix_or : Raw → Option Node → Option Raw
suffix_or trailing None = Some trailing
suffix_or trailing (Some last) = (node_decor last).suffix

-- what is after the last value, or after the comma that follows it
abbrev pub after_last : ArrayFields → Option Node → Option Raw
after_last f last = if f.comma then Some f.trailing else suffix_or f.trailing last

abbrev pub before_last : Option Node → Option Raw
before_last None = None
before_last (Some last) = (node_decor last).prefix

-- what is before a new line: the comment after the last value, and the indentation of that
abbrev pub line_prefix : ArrayFields → Option Node → Text
line_prefix f last = trim_end (side_text (after_last f last)) ++ newline ++ indent_of (side_text (before_last last))

-- a value with nothing between it and the comma
abbrev pub without_suffix : Node → Node
without_suffix n = with_decor (record (node_decor n) { suffix = Some (owned []) }) n

-- the values with a string on a line of its own
abbrev pub with_line : Text → ArrayFields → List Node → List Node
with_line t f xs =
    let at = length xs - 1 in
    pushed (leaf (string t) None (both_sides (owned (line_prefix f (value_at at xs))) (owned [])))
    (if f.comma then xs else changed_at at without_suffix xs)
