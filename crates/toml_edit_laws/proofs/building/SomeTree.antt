-- An accepted document has a tree over its text: the one that is built.
use Rattle.std.proofs.Common.{ℕ, ◌+◌, List, [], ◌∷◌, length}
use Rattle.toml_edit_model.specs.Mode.{Mode, with_return}
use Rattle.toml_edit_model.specs.Syntax.{Statement, key_line, header, statement_text, mark_text}
use Rattle.toml_edit_model.specs.Accepted.{is_accepted}
use Rattle.toml_edit_model.specs.Tree.{Node, nothing, Tree}
use Rattle.toml_edit_model.specs.TreeOf.{spanned_in, value_start, IsTreeOf}
use Rattle.toml_edit_laws.specs.Building.{first_builder, built_tree, IsStatementNode, AreStatementNodes, Outcome, run, Ends, HasTree}
use Rattle.toml_edit_laws.proofs.common.Tests.{true-false}
use Rattle.toml_edit_laws.proofs.values.SomeNode.{one_item}
use Rattle.toml_edit_laws.proofs.building.Run.{run_ends}

module _ (mode : Mode) where
  -- statements have items
  record HasNodes (start : ℕ) (ss : List Statement) : Type 0 where
    pub nodes : List Node
    pub are : AreStatementNodes mode start ss nodes

  statement-node : (start : ℕ) (s : Statement) → (n : Node) × IsStatementNode mode start s n
  statement-node start (key_line f v end) =
      let found = one_item (spanned_in mode) v (start + value_start (spanned_in mode) f) f.after_equals (with_return mode f.trailing end) in
      (found.0, found.1)
  statement-node start (header x end) = (nothing, tt)

  some-nodes : (start : ℕ) (ss : List Statement) → HasNodes start ss
  some-nodes start [] = record { nodes = []; are = tt }
  some-nodes start (s ∷ ss) =
      let first = statement-node start s in
      let later = some-nodes (start + length (statement_text s)) ss in
      record { nodes = first.0 ∷ later.nodes; are = (λ e. first.1, later.are) }

  -- The run over these items ends with a tree.
  pub some_tree : HasTree mode
  some_tree d h accepted =
      let found = some-nodes (length (mark_text d.has_mark)) d.statements in
      by_outcome (run mode (first_builder d.has_mark) d.statements found.nodes) (run_ends mode d found.nodes h found.are)
    where
      by_outcome : (o : Outcome) → Ends mode d o → (tree : Tree) × IsTreeOf (spanned_in mode) d tree
      by_outcome (b, []) e = (built_tree mode d b, e.1)
      by_outcome (b, s ∷ rest) e = true-false (is_accepted d) accepted e.refused
