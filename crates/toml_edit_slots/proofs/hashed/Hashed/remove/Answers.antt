-- A name, taken out.
use Rattle.std.proofs.Common.{None}
use Rattle.std.proofs.lemmas.Map.Text.{hash_map_updates_text}
use Rattle.toml_edit_slots.proofs.hashed.Hashed.remove.Goals as goal

pub returns-then-is_some : goal.returns-then-is_some
returns-then-is_some c t =
    hash_map_updates_text c.args.name.now c.args.self.now.places c.swap_remove.new.self None c.swap_remove.ensures.updates t
