-- What is left of the suffix, if it had a comment.
use Rattle.std.proofs.Common.{◌≡◌, true, false, not, refl, ap, sym, ◌∙◌, Some}
use Rattle.std.specs.Prelude.{is_some}
use Rattle.toml_edit_model.specs.Comments.{after_first_line, first_comment, side_text}
use Rattle.toml_edit_model.specs.Text.{Text}
use Rattle.toml_edit_model.specs.Tree.{Raw, Decor}
use Rattle.toml_edit_repr.proofs.CommentCalls.{copied-some, nothing-removed, comment-removed}
use Rattle.toml_edit_repr.proofs.repr.Decor.remove_comment_after.Goals as goal

pub returns-then-is_none : goal.returns-then-is_none
returns-then-is_none c =
    let text : c.text_of_side-text.result.now ≡ side_text c.args.self.now.suffix = c.text_of_side-text.ensures
    ∙ ap side_text c.suffix.ensures in
    let none : is_some (first_comment (side_text c.args.self.now.suffix)) ≡ false =
    ap (λ (t : Text). is_some (first_comment t)) (sym text) ∙ ap is_some (sym c.first_comment.ensures)
    ∙ copied-some c.first_comment.result ∙ c.is_none.ensures ∙ ap not c.if-is_none.true in
    (refl, nothing-removed c.args.self.now none)

pub returns : goal.returns
returns c =
    let old : Decor = c.args.self.now in
    let text : c.text_of_side-text.result.now ≡ side_text old.suffix = c.text_of_side-text.ensures ∙ ap side_text c.suffix.ensures in
    let some : is_some (first_comment (side_text old.suffix)) ≡ true =
    ap (λ (t : Text). is_some (first_comment t)) (sym text) ∙ ap is_some (sym c.first_comment.ensures)
    ∙ copied-some c.first_comment.result ∙ c.is_none.ensures ∙ ap not c.if-is_none.false in (
      refl,
      c.set_suffix.ensures ∙ ap (λ (r : Raw). record old { suffix = Some r }) c.in_ok-suffix.ensures.ok
          ∙ comment-removed old c.split_first_line.result.1.now some (c.split_first_line.ensures.after ∙ ap after_first_line text),
    )
