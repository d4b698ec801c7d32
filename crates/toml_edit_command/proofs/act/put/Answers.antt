-- The keys are set as their names.
use Rattle.std.proofs.Common.{subst}
use Rattle.toml_edit.specs.DocumentView.{tree_owned}
use Rattle.toml_edit_edit_laws.specs.Commands.{set_at}
use Rattle.toml_edit_paths.specs.Changes.{Changes}
use Rattle.toml_edit_tree.specs.View.{value_view}
use Rattle.toml_edit_command.proofs.act.put.Goals as goal

pub returns-clause-changes : goal.returns-clause-changes
returns-clause-changes c =
    subst (λ p. Changes (set_at p (value_view c.args.value) (tree_owned c.args.document.now)) (tree_owned c.args.document.now)
    (tree_owned c.set_at.new.self) c.set_at.result) c.reset_keys.ensures c.set_at.ensures.changes
