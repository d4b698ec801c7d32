-- Another place of a name.
use Rattle.std.proofs.Common.{◌≡◌, Some, true, is_some, refl, sym, ap}
use Rattle.std.proofs.lemmas.Map.Text.{btree_map_updates_text}
use Rattle.toml_edit_slots.specs.SlotIndex.{is_own}
use Rattle.toml_edit_slots.proofs.PlacesLaws.{own-put, place-other, place-put}
use Rattle.toml_edit_slots.proofs.places.Places.set.Goals as goal

pub returns-in-Some : goal.returns-in-Some
returns-in-Some c =
    let m = c.args.self.now in
    let u = c.args.name.now in
    let at = c.args.at in
    let ns = c.get_mut.follows.lender at in
    let own : is_own m u ≡ true = ap is_some (sym c.in-Some.ensures.value) in
    let put = btree_map_updates_text u m.names ns (Some at) ((c.get_mut.follows.holds at).3 own) in
    record {
      place = place-put m ns u (Some at) put at refl;
      own = own-put m ns u (Some at) put at refl own;
      others =
          λ t other apart. place-other m ns u (Some at) put t other;
    }
