-- Nothing is held before the first statement.
use Rattle.std.proofs.Common.{ap, refl}
use Rattle.toml_edit_tree.specs.View.{slots_view}
use Rattle.toml_edit_parser.proofs.LoopLaws.{held_first}
use Rattle.toml_edit_parser.proofs.document.building.Building.new.Goals as goal

pub returns : goal.returns
returns c = λ m. held_first m _ (ap slots_view c.new.ensures) (ap slots_view c.with_room.ensures) c.new-2.ensures.items refl
