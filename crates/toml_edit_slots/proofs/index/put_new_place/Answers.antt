-- A place after the others, in a map.
use Rattle.std.proofs.Common.{◌≡◌, None, Some, rules, subst}
use Rattle.toml_edit_slots.specs.Hashed.{IsHashed, IsPutAt, place_of}
use Rattle.toml_edit_slots.specs.SlotIndex.{IsIndex}
use Rattle.toml_edit_slots.specs.Slots.{names}
use Rattle.toml_edit_slots.proofs.HashedLaws.{hashed-back, hashed-new}
use Rattle.toml_edit_slots.proofs.index.put_new_place.Goals as goal

pub returns-in-Ok-None-clause-ok : goal.returns-in-Ok-None-clause-ok
returns-in-Ok-None-clause-ok g c =
    let es = c.args.entries.now in
    let u = c.args.name.now in
    let m = c.in-Hashed.hashed in
    let is : IsHashed m (names es) = subst (λ x. IsIndex x (names es)) c.in-Hashed.is c.requires.indexed in
    let none : place_of m u ≡ None = search rules in
    hashed-new es m c.insert.new.self u is none c.in-Ok-None.ensures.ok

pub returns-in-Ok-Some-clause-ok : goal.returns-in-Ok-Some-clause-ok
returns-in-Ok-Some-clause-ok g c =
    let es = c.args.entries.now in
    let u = c.args.name.now in
    let m = c.in-Hashed.hashed in
    let there = c.in-Ok-Some.there in
    let is : IsHashed m (names es) = subst (λ x. IsIndex x (names es)) c.in-Hashed.is c.requires.indexed in
    let some : place_of m u ≡ Some there = search rules in
    let n = c.insert.new.self in
    let o = c.set.new.self in
    hashed-back es m n o u _ there is some c.in-Ok-Some.ensures.ok (subst (λ k. IsPutAt k u n o) c.in-Ok-Some.there-is c.set.ensures)
