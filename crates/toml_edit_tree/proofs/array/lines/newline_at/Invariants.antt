-- None of the gaps up to here has a newline.
use Rattle.std.proofs.Common.{◌≡◌, ◌∷◌, ◌++◌, [], Some, drop}
use Rattle.toml_edit_model.specs.Comments.{side_text}
use Rattle.toml_edit_tree.specs.ArrayLines.{last_suffix, newline_in, prefixes}
use Rattle.toml_edit_tree.specs.Elements.{array_fields, items_of}
use Rattle.toml_edit_tree.proofs.array.lines.newline_at.Given as goal

abbrev pub invariant-loop-at : goal.invariant-loop-at
invariant-loop-at l =
    let ends = last_suffix (array_fields l.array) (items_of l.array) ∷ side_text (Some (array_fields l.array).trailing) ∷ [] in
    newline_in (prefixes (items_of l.array) ++ ends) ≡ newline_in (drop l.at (prefixes (items_of l.array)) ++ ends)
