-- The place of the slot of an entry, whose item may be made.
use Rattle.std.proofs.Common.{option_map, sym, ap}
use Rattle.toml_edit_laws.proofs.slots.Places.{lookup_slot-none, none_at}
use Rattle.toml_edit_table_like.specs.Entries.{entry_key, IsViewOf}
use Rattle.toml_edit_table_like.proofs.EntryLaws.{found-leaves, found-or-else}
use Rattle.toml_edit_table_like.proofs.entry.TableLikeEntry.find_or_add_with.Goals as goal

pub default-requires : goal.default-requires
default-requires g c =
    let e = c.args.self.now in
    let name = (entry_key e).name in
    let es = g.T.HasSlots.slots_of e.table.now in
    c.requires (ap (λ o. option_map (λ s. s.item) o) (lookup_slot-none name es (none_at name es (sym c.in-None.ensures.there))))

pub returns-in-Some-clause-item : goal.returns-in-Some-clause-item
returns-in-Some-clause-item g c =
    let e = c.args.self.now in
    found-or-else g.T.HasSlots e.table.now (entry_key e) c.in-Some.at (sym c.in-Some.ensures.place) c.in-Some.ensures.within
    (IsViewOf (goal.F-post g c.args.default))

pub returns-in-Some-clause-leaves : goal.returns-in-Some-clause-leaves
returns-in-Some-clause-leaves g c =
    let e = c.args.self.now in
    found-leaves g.T.HasSlots e.table.now (entry_key e) c.find.ensures.apart
