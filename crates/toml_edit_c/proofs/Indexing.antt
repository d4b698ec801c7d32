-- An index has a low status.
use Rattle.std.proofs.Common.{◌≤◌, List, ℕ, arith, inl, inr}
use Rattle.toml_edit_index.specs.declared.node.Node.{Node}
use Rattle.toml_edit_model.specs.Text.{Text}
use Rattle.toml_edit_c.specs.Indexes.{HoldsIndex}
use Rattle.toml_edit_c.specs.declared.answer.Answer.{Answer}

pub index-low : (answer : Answer) (nodes_old nodes_new : List Node) (names_old names_new : List ℕ) (nodes : List Node) (names : Text)
    → HoldsIndex answer nodes_old nodes_new names_old names_new nodes names → answer.status ≤ 1
index-low answer nodes_old nodes_new names_old names_new nodes names holds =
    elim holds.1 [ inl done ↦ omega (arith, done.0) | inr short ↦ omega (arith, short.0) ]
