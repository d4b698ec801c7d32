-- The lines that are added, and those of the rest, are those of the whole text.
use Rattle.std.proofs.Common.{◌≡◌, ◌++◌, filter, not, string_bytes, length}
use Rattle.std.specs.Prelude.{flat_map}
use denote.Text.{Utf8}
use denote.Shadow.{shadow}
use Rattle.toml_edit_model.specs.Comments.{lines}
use Rattle.toml_edit_model.specs.Text.{is_empty}
use Rattle.toml_edit_tree.specs.ArrayLines.{line_words, moved, text_after}
use Rattle.toml_edit_tree.proofs.array.line_texts.text_after.Given as goal

abbrev pub invariant-lines : goal.invariant-lines
invariant-lines l =
    shadow (Utf8 l.rest)
    × (string_bytes l.below ++ flat_map (moved l.fn.newline l.fn.indent) (filter (λ t. not (is_empty (line_words t))) (lines l.rest))
    ≡ text_after l.fn.newline l.fn.indent l.fn.decor)

abbrev pub decreases-lines : goal.decreases-lines
decreases-lines l = length l.rest
