use Rattle.std.proofs.Common.{ap, ◌∙◌}
use Rattle.toml_edit_tree.specs.View.{slots_view}
use Rattle.toml_edit_parser.proofs.SlotLaws.{slots_view-append}
use Rattle.toml_edit_parser.proofs.slots.push_item.Goals as goal

pub returns-in-Ok : goal.returns-in-Ok
returns-in-Ok c = ap slots_view c.in-Ok.ensures.slots ∙ slots_view-append c.args.slots.now _
