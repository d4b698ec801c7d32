-- What is below it, and then the item itself.
use Rattle.std.proofs.Common.{ap, ◌∙◌}
use Rattle.toml_edit_tree.specs.Converting.{in_new_form}
use Rattle.toml_edit_tree.specs.View.{item_view}
use Rattle.toml_edit_tree.proofs.ConvertLaws.{made-inside}
use Rattle.toml_edit_tree.proofs.item.Item.make_value.Goals as goal

pub returns : goal.returns
returns c = c.renew.ensures ∙ ap in_new_form c.make_inside.ensures ∙ made-inside (item_view c.args.self.now)
