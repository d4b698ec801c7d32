-- The suffix suits its place as before.
use Rattle.std.proofs.Common.{Some, None}
use Rattle.toml_edit_repr.proofs.CommentCalls.{set-suits, set-inside}
use Rattle.toml_edit_repr.proofs.repr.Decor.set_comment_after.Goals as goal

pub returns-in-Some-clause-suits : goal.returns-in-Some-clause-suits
returns-in-Some-clause-suits c =
    set-suits (Some c.in-Some.comment.now) c.args.self.now c.put_comment_after.new.self c.put_comment_after.result
    c.put_comment_after.ensures

pub returns-in-None-clause-suits : goal.returns-in-None-clause-suits
returns-in-None-clause-suits c =
    set-suits None c.args.self.now c.remove_comment_after.new.self c.remove_comment_after.result c.remove_comment_after.ensures

pub returns-in-Some-clause-inside : goal.returns-in-Some-clause-inside
returns-in-Some-clause-inside c =
    set-inside (Some c.in-Some.comment.now) c.args.self.now c.put_comment_after.new.self c.put_comment_after.result
    c.put_comment_after.ensures

pub returns-in-None-clause-inside : goal.returns-in-None-clause-inside
returns-in-None-clause-inside c =
    set-inside None c.args.self.now c.remove_comment_after.new.self c.remove_comment_after.result c.remove_comment_after.ensures
