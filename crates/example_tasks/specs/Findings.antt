-- Empty strings, and where they are.
use Rattle.std.specs.Prelude.{◌++◌, ℕ, suc, List, flat_map, Option, Some, codes, decimal, if◌then◌else◌}
use Rattle.std.specs.declared.ops.Range.{Range}
use Rattle.toml_edit.specs.model.Excerpt.{position_in}
use Rattle.toml_edit.specs.model.Text.{Text, is_empty}
use Rattle.toml_edit.specs.model.Tree.{Node}
use Rattle.toml_edit.specs.tree.Casts.{text_in}
use Rattle.toml_edit.specs.tree.ItemParts.{item_span}

-- the line and the column at which a span begins, and what was found there
abbrev pub line_at : Text → Text → Range ℕ → Text
line_at source key r =
    decimal (suc (position_in source r.start).line)
    ++ (codes ":" ++ (decimal (suc (position_in source r.start).column) ++ (codes ": " ++ (key ++ codes " is empty\n"))))

-- nothing, unless the text is there and empty, and has a span
abbrev pub finding : Text → Text → Option Text → Option (Range ℕ) → Text
finding source key (Some t) (Some r) = if is_empty t then line_at source key r else codes ""
finding source key _ _ = codes ""

abbrev pub findings : Text → List (Text × Node) → Text
findings source ps = flat_map (λ p. finding source p.0 (text_in p.1) (item_span p.1)) ps
