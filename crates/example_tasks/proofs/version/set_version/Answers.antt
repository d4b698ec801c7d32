-- The keys of the path are those that were parsed.
use Rattle.std.proofs.Common.{◌≡◌, None, sym, ◌∙◌}
use Rattle.toml_edit.specs.DocumentView.{tree_owned}
use Rattle.toml_edit.specs.edits.Commands.{done, set_at}
use Rattle.toml_edit.specs.model.Scalars.{string}
use Rattle.toml_edit.specs.model.Tree.{leaf, unset}
use Rattle.example_tasks.proofs.version.set_version.Goals as goal

pub returns-clause-set : goal.returns-clause-set
returns-clause-set c =
    let meant : set_at c.in_ok-path.path.items (leaf (string c.args.version.now) None unset) (tree_owned c.args.document.now)
    ≡ done (tree_owned c.set_at.new.self) =
    (λ i. set_at (sym c.deref-2.ensures.value i) (sym c.in_ok-string.ensures i) (tree_owned c.args.document.now))
    ∙ c.in_ok-set_at.ensures.changes in
    (c.in_ok-path.path.items, c.in_ok-path.ensures.keys, meant)
