-- What is put is a string.
use Rattle.std.proofs.Common.{inl, refl, subst, sym}
use Rattle.toml_edit.specs.Edited.{EditsBy, IsPlainValue}
use Rattle.toml_edit.specs.DocumentView.{tree_owned}
use Rattle.toml_edit.specs.edits.PathEdits.{sets}
use Rattle.toml_edit.specs.model.Tree.{Node}
use Rattle.example_calls.proofs.edits.replace.Goals as goal

pub returns : goal.returns
returns c =
    let is = c.in_ok-string.ensures in
    let new = c.replace_at.new.self in
    subst (λ (n : Node). EditsBy (sets c.args.path.now n) c.args.document.now new) is
    (c.in_ok-replace_at.ensures.edits (subst (λ (n : Node). IsPlainValue n (tree_owned new)) (sym is) (refl, inl (tt, tt))))
