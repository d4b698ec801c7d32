-- Another place of a name.
use Rattle.std.proofs.Common.{Some}
use Rattle.std.proofs.lemmas.Map.Text.{hash_map_updates_text}
use Rattle.toml_edit_slots.proofs.hashed.Hashed.set.Goals as goal

pub returns-in-Some : goal.returns-in-Some
returns-in-Some c t =
    let at = c.args.at in
    hash_map_updates_text c.args.name.now c.args.self.now.places (c.get_mut.follows.lender at) (Some at)
    ((c.get_mut.follows.holds at).3 c.requires) t
