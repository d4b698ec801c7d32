-- What is put is a boolean.
use Rattle.std.proofs.Common.{[], ◌∷◌, inl, refl, subst, sym}
use Rattle.toml_edit.specs.DocumentView.{tree_owned}
use Rattle.toml_edit.specs.Edited.{EditsBy, IsPlainValue}
use Rattle.toml_edit.specs.edits.PathEdits.{sets}
use Rattle.toml_edit.specs.model.Keys.{new_key}
use Rattle.toml_edit.specs.model.Tree.{Key, Node}
use Rattle.toml_edit.specs.tree.View.{value_view}
use Rattle.example_calls.proofs.edits.add_flag.Goals as goal

pub returns : goal.returns
returns c =
    let d = c.args.document.now in
    let new = c.set_at.new.self in
    let set = c.in_ok-set_at.ensures.edits (subst (λ (n : Node). IsPlainValue n (tree_owned new)) (sym c.from.ensures) (refl, inl (tt, tt)))
    (c.may_put.ensures.0 c.if-not-may_put.false) in
    subst (λ (n : Node). EditsBy (sets (new_key c.args.name.now ∷ []) n) d new) c.from.ensures
    (subst (λ (k : Key). EditsBy (sets (k ∷ []) (value_view c.from.result)) d new) c.in_ok-from_text.ensures set)
