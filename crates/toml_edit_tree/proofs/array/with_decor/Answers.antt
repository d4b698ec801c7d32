-- The value with another decor.
use Rattle.toml_edit_tree.proofs.ViewLaws.{decorated-view}
use Rattle.toml_edit_tree.proofs.array.with_decor.Goals as goal

pub returns : goal.returns
returns c = decorated-view c.args.decor c.args.value
