-- What the root taken alone prints.
use Rattle.std.proofs.Common.{ap, subst}
use Rattle.std.specs.Prelude.{[]}
use Rattle.toml_edit_model.specs.Tree.{owned, Tree}
use Rattle.toml_edit.specs.DocumentView.{mode_read, source, tree_read}
use Rattle.toml_edit.specs.Documents.{PrintsMeaningOf}
use Rattle.toml_edit.proofs.RootLaws.{tree-under}
use Rattle.toml_edit.proofs.TakenLaws.{root-prints}
use Rattle.toml_edit.proofs.document.Document.into_table.Goals as goal

pub returns-clause-print : goal.returns-clause-print
returns-clause-print g c =
    λ printed d accepted is.
    subst (PrintsMeaningOf printed d)
    (ap (λ (x : Tree). record x { trailing = owned [] })
    (tree-under c.args.self.root c.table_of.result c.args.self.trailing c.table_of.ensures))
    (root-prints (mode_read c.args.self) (source c.args.self) d (tree_read c.args.self) accepted is printed)
