-- The order of strings.
use Rattle.std.specs.Cmp.Lexicographic.{slice_cmp}
use Rattle.std.specs.Option.{option_cmp}
use Rattle.std.specs.Ordering.{is_lt, nat_cmp}
use Rattle.std.specs.Prelude.{Bool}
use Rattle.toml_edit.specs.model.Tree.{Node}
use Rattle.toml_edit.specs.tree.Casts.{text_in}

-- by their bytes, and what is no string comes first
abbrev pub string_lt : Node → Node → Bool
string_lt m n = is_lt (option_cmp (slice_cmp nat_cmp) (text_in m) (text_in n))
