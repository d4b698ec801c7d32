-- A slot by its name.
use Rattle.std.proofs.Common.{◌∙◌}
use Rattle.toml_edit_slots.proofs.SlotLaws.{place-position}
use Rattle.toml_edit_slots.proofs.index.find_place.Goals as goal

pub returns-in-None : goal.returns-in-None
returns-in-None g c = c.walk.ensures ∙ place-position c.args.name.now c.args.entries.now
