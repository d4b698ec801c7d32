-- The comments of the prefix's lines are those of its pieces.
use Rattle.std.proofs.Common.{ap, ◌∙◌}
use Rattle.toml_edit_model.specs.Comments.{comments, side_text}
use Rattle.toml_edit_repr.proofs.CommentBodies.{are-bodies}
use Rattle.toml_edit_repr.proofs.repr.Decor.comments_before.Goals as goal

pub returns-clause-pieces : goal.returns-clause-pieces
returns-clause-pieces c =
    are-bodies (side_text c.args.self.now.prefix) (comments c.text_of_side.result.now) (ap comments (c.text_of_side.ensures
    ∙ ap side_text c.prefix.ensures))
