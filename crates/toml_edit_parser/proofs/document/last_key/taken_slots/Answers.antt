use Rattle.std.proofs.Common.{ap, ◌∙◌}
use Rattle.toml_edit_tree.specs.View.{slots_view}
use Rattle.toml_edit_parser.proofs.document.last_key.taken_slots.Goals as goal

pub returns : goal.returns
returns c = ap slots_view c.replace.ensures.value ∙ c.slots_mut.ensures.slots
