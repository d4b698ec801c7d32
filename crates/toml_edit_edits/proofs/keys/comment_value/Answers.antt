-- The value has another decor.
use Rattle.std.proofs.Common.{◌≡◌, ◌∙◌, ap, refl, sym, true}
use Rattle.std.specs.Prelude.{Ok}
use Rattle.toml_edit_model.specs.Comments.{with_comment_after}
use Rattle.toml_edit_model.specs.Tree.{is_value_node}
use Rattle.toml_edit_repr.specs.Comments.{may_stand}
use Rattle.toml_edit_tree.specs.View.{value_view}
use Rattle.toml_edit_tree.specs.declared.item.Item.TheVariants as items
use Rattle.toml_edit_tree.proofs.TurnLaws.{value-node}
use Rattle.toml_edit_tree.proofs.ViewLaws.{decorated-view, view-Value}
use Rattle.toml_edit_edits.specs.Effects.{body_of}
use Rattle.toml_edit_edits.proofs.OutcomeLaws.{comment-made}
use Rattle.toml_edit_edits.proofs.keys.comment_value.Goals as goal

pub returns : goal.returns
returns c =
    let v = c.args.value.now in
    let d = c.set_comment_after.new.self in
    let put = c.in_ok-set_comment_after.ensures.changes in
    let value : is_value_node (value_view v) ≡ true = ap is_value_node (sym (view-Value v)) ∙ value-node (items.Value v) v refl in
    comment-made c.args.text.now (value_view v) d value (ap may_stand (sym c.body_of.ensures) ∙ put.0)
    (put.1 ∙ ap (λ b. with_comment_after b c.decor_mut.result.now) c.body_of.ensures
    ∙ ap (with_comment_after (body_of c.args.text.now)) c.decor_mut.ensures.decor)
    ∙ ap (λ n. Ok n) (sym (decorated-view d v))
