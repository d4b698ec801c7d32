-- The text of a side, or the empty one.
use Rattle.std.proofs.Common.{refl}
use Rattle.std.specs.Option.{option_copied}
use Rattle.toml_edit_repr.proofs.CommentCalls.{side-text}
use Rattle.toml_edit_repr.proofs.comments.text_of_side.Goals as goal

pub returns : goal.returns
returns c = side-text (option_copied c.args.side) c.side_text.result _ c.unwrap_or.result c.side_text.ensures c.unwrap_or.ensures refl
