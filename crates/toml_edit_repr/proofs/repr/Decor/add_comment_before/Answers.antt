-- The prefix suits its place as before.
use Rattle.std.proofs.Common.{ap, sym, ◌∙◌, string_bytes}
use Rattle.std.specs.Prelude.{Ok}
use Rattle.toml_edit_model.specs.Comments.{side_text}
use Rattle.toml_edit_repr.proofs.CommentCalls.{prefix-set, add-suits}
use Rattle.toml_edit_repr.proofs.repr.Decor.add_comment_before.Goals as goal

pub returns-clause-suits : goal.returns-clause-suits
returns-clause-suits c =
    add-suits c.args.comment.now c.args.self.now c.set_prefix.new.self (Ok tt) (
      sym c.is_comment.ensures ∙ c.if-not-is_comment.false,
      prefix-set c.args.self.now c.set_prefix.new.self c.args.comment.now c.text_of_side.result.now (string_bytes c.in_ok-prefix.prefix)
          c.in_ok-raw.raw c.set_prefix.ensures c.in_ok-raw.ensures.ok c.in_ok-prefix.ensures
          (c.text_of_side.ensures ∙ ap side_text c.prefix.ensures),
    )
