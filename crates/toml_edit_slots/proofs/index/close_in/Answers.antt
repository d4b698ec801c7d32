-- A place that goes.
use Rattle.std.proofs.Common.{subst}
use Rattle.toml_edit_slots.specs.Slots.{names}
use Rattle.toml_edit_slots.specs.Hashed.{IsHashed}
use Rattle.toml_edit_slots.specs.SlotIndex.{IsIndex, IsIndexOf}
use Rattle.toml_edit_slots.proofs.SlotLaws.{place-within}
use Rattle.toml_edit_slots.proofs.IndexLaws.{place_in-is}
use Rattle.toml_edit_slots.proofs.HashedLaws.{hashed-closed}
use Rattle.toml_edit_slots.proofs.PlacesLaws.{right-left, texts-left}
use Rattle.toml_edit_slots.proofs.index.close_in.Goals as goal

pub move_down-requires-clause-gap : goal.move_down-requires-clause-gap
move_down-requires-clause-gap g c = place-within c.args.name.now c.args.entries.now c.args.gap c.requires.gap

pub move_down-requires-clause-names : goal.move_down-requires-clause-names
move_down-requires-clause-names g c =
    let us = names c.args.entries.now in
    let u = c.args.name.now in
    let is : IsIndexOf c.in-Sorted.places us = subst (λ x. IsIndex x us) c.in-Sorted.is c.requires.indexed in
    texts-left us c.requires.apart c.in-Sorted.places c.remove-in-Sorted.new.self c.args.gap u (place_in-is u us c.args.gap c.requires.gap)
    is
    c.remove-in-Sorted.ensures.own c.remove-in-Sorted.ensures.others

pub move_down-requires-clause-before : goal.move_down-requires-clause-before
move_down-requires-clause-before g c =
    let us = names c.args.entries.now in
    let u = c.args.name.now in
    let is : IsIndexOf c.in-Sorted.places us = subst (λ x. IsIndex x us) c.in-Sorted.is c.requires.indexed in
    right-left us c.requires.apart c.in-Sorted.places c.remove-in-Sorted.new.self c.args.gap u (place_in-is u us c.args.gap c.requires.gap)
    is
    c.remove-in-Sorted.ensures.own c.remove-in-Sorted.ensures.others

pub returns-in-Hashed : goal.returns-in-Hashed
returns-in-Hashed g c =
    let us = names c.args.entries.now in
    let is : IsHashed c.in-Hashed.hashed us = subst (λ x. IsIndex x us) c.in-Hashed.is c.requires.indexed in
    hashed-closed us c.requires.apart c.in-Hashed.hashed c.remove.new.self c.close_gap.new.self c.args.gap c.args.name.now c.requires.gap is
    c.remove.ensures c.close_gap.ensures
