-- What is put is well made, and its path is that of the name.
use Rattle.std.proofs.Common.{◌≡◌, ◌∙◌, [], ◌∷◌, List, false, true, inl, inr, refl, sym}
use Rattle.std.specs.Borrow.{Bor}
use Rattle.toml_edit.specs.model.Lists.{items_from}
use Rattle.toml_edit.specs.model.Text.{Text}
use Rattle.toml_edit.specs.model.Tree.{ItemsAreWellMade}
use Rattle.example_proofs.specs.Dependencies.{strings}
use Rattle.example_proofs.proofs.add_dependency.add_at.Goals as goal

strings-made : (xs : List (Bor Text)) → ItemsAreWellMade (items_from (strings xs))
strings-made [] = tt
strings-made (x ∷ xs) = ((tt, tt), strings-made xs)

pub returns-clause-edits : goal.returns-clause-edits
returns-clause-edits c = λ text tree edited.
    let set = c.in_ok-set_at.ensures.edits (rw c.in_ok-dependency.ensures (refl, inl (refl, tt, (tt, tt), (refl, tt, strings-made c.args.features.now, tt)))) (c.may_put.ensures.0 c.if-not-may_put.false) text tree [] edited in
    rw (c.as_slice-path.ensures.value ∙ c.in_ok-keys.ensures) at (rw c.in_ok-dependency.ensures at (c.if-not-move_at.ensures.edits refl text tree _ set))

pub returns-then-not-may_put-clause-fails : goal.returns-then-not-may_put-clause-fails
returns-then-not-may_put-clause-fails c = inl (λ may. absurd (let no : false ≡ true = sym c.if-not-may_put.true ∙ c.may_put.ensures.1 (rw (c.as_slice-path.ensures.value ∙ c.in_ok-keys.ensures) may) in cc))

pub returns-then-not-move_at-clause-fails : goal.returns-then-not-move_at-clause-fails
returns-then-not-move_at-clause-fails c = let path = c.as_slice-path.ensures.value ∙ c.in_ok-keys.ensures in
    inr (rw (rw path at (rw c.in_ok-dependency.ensures at c.in_ok-set_at.ensures.changes)) (rw path at c.if-not-move_at.ensures.moves).0)
