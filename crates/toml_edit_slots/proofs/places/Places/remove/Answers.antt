-- A name, taken out.
use Rattle.std.proofs.Common.{None}
use Rattle.std.proofs.lemmas.Map.Text.{btree_map_updates_text}
use Rattle.toml_edit_slots.proofs.PlacesLaws.{own-other, place-other}
use Rattle.toml_edit_slots.proofs.places.Places.remove.Goals as goal

pub returns-else-is_none-clause-own : goal.returns-else-is_none-clause-own
returns-else-is_none-clause-own c =
    let m = c.args.self.now in
    let u = c.args.name.now in
    let ns = c.remove.new.self in
    own-other m ns u None (btree_map_updates_text u m.names ns None c.remove.ensures.updates)

pub returns-else-is_none-clause-others : goal.returns-else-is_none-clause-others
returns-else-is_none-clause-others c t other apart =
    let m = c.args.self.now in
    let u = c.args.name.now in
    let ns = c.remove.new.self in
    place-other m ns u None (btree_map_updates_text u m.names ns None c.remove.ensures.updates) t other
