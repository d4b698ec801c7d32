use Rattle.std.proofs.Common.{ap, ◌∙◌}
use Rattle.toml_edit_tree.specs.View.{slots_view}
use Rattle.toml_edit_parser.proofs.SlotLaws.{replaced-view}
use Rattle.toml_edit_parser.proofs.document.last_key.put_slot.Goals as goal

pub returns : goal.returns
returns c = ap slots_view c.replace-past.ensures.slots ∙ replaced-view (record { key = c.args.key; item = c.args.item }) c.args.slots.now
