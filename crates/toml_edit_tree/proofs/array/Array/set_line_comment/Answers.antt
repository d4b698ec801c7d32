-- There is a value at the place.
use Rattle.toml_edit_tree.specs.Elements.{items_of}
use Rattle.toml_edit_tree.proofs.LineCommentLaws.{value-inside}
use Rattle.toml_edit_tree.proofs.array.Array.set_line_comment.Goals as goal

pub gap_commented-requires-clause-place : goal.gap_commented-requires-clause-place
gap_commented-requires-clause-place c = value-inside (items_of c.args.self.now) c.args.at c.requires.value

pub put_gap_after-requires : goal.put_gap_after-requires
put_gap_after-requires c = value-inside (items_of c.args.self.now) c.args.at c.requires.value
