-- What an iterator over comments has left.
use Rattle.std.specs.Prelude.{List}
use Rattle.toml_edit_model.specs.Text.{Text}
use Rattle.toml_edit_model.specs.Comments.{comments}
use Rattle.toml_edit_repr.specs.declared.comments.Comments.{Comments}

abbrev pub comments_left : Comments → List Text
comments_left it = comments it.rest.now
