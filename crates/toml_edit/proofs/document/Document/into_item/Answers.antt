-- What the root taken alone prints.
use Rattle.toml_edit.specs.DocumentView.{mode_read, source, tree_read}
use Rattle.toml_edit.proofs.TakenLaws.{root-prints}
use Rattle.toml_edit.proofs.document.Document.into_item.Goals as goal

pub returns-clause-print : goal.returns-clause-print
returns-clause-print g c =
    λ printed d accepted is. root-prints (mode_read c.args.self) (source c.args.self) d (tree_read c.args.self) accepted is printed
