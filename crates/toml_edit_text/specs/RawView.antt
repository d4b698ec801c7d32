-- What a contract sees of the inside of a `RawString`.
use Rattle.std.specs.Prelude.{[], Option, Some, None}
use Rattle.toml_edit_model.specs.Tree as tree
use Rattle.toml_edit_text.specs.Packed.{Packed, held, span, unset}

abbrev pub raw_view : Packed → tree.Raw
raw_view (held t) = tree.owned t
raw_view (span i j) = tree.span i j
raw_view unset = tree.owned []

abbrev pub IsSet : Packed → Type 0
IsSet (held t) = Unit {0}
IsSet (span i j) = Unit {0}
IsSet unset = ⊥

-- what a side is
abbrev pub side_view : Packed → Option tree.Raw
side_view (held t) = Some (tree.owned t)
side_view (span i j) = Some (tree.span i j)
side_view unset = None
