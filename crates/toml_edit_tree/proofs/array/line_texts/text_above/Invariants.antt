-- The lines that are added, and those of the rest, are those of the whole text.
use Rattle.std.proofs.Common.{◌≡◌, ◌++◌, filter, string_bytes, length}
use Rattle.std.specs.Prelude.{flat_map}
use denote.Text.{Utf8}
use denote.Shadow.{shadow}
use Rattle.toml_edit_model.specs.Comments.{lines}
use Rattle.toml_edit_tree.specs.ArrayLines.{is_kept, moved, text_above}
use Rattle.toml_edit_tree.proofs.array.line_texts.text_above.Given as goal

abbrev pub invariant-lines : goal.invariant-lines
invariant-lines l =
    shadow (Utf8 l.rest)
    × (string_bytes l.above ++ flat_map (moved l.fn.newline l.fn.indent) (filter is_kept (lines l.rest))
    ≡ text_above l.fn.newline l.fn.indent l.fn.decor)

abbrev pub decreases-lines : goal.decreases-lines
decreases-lines l = length l.rest
