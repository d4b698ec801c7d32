-- One more element is seen as such.
use Rattle.std.proofs.Common.{ap, ◌∙◌}
use Rattle.toml_edit_tree.specs.View.{items_view}
use Rattle.toml_edit_tree.proofs.ContainerLaws.{items-more}
use Rattle.toml_edit_tree.proofs.array_of_tables.push_element.Goals as goal

pub returns : goal.returns
returns c = ap items_view c.in_ok-push.ensures.items ∙ items-more c.args.items.now.items c.args.element
