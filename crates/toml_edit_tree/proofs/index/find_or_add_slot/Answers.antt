-- The place of a key's slot, which may be new.
use Rattle.std.proofs.Common.{◌≡◌, rules, sym, ◌∙◌}
use Rattle.std.proofs.lemmas.Cmp.{nat_list_eq_equiv}
use Rattle.toml_edit_model.specs.Keys.{new_key}
use Rattle.toml_edit_tree.specs.declared.item.Item.TheVariants as items
use Rattle.toml_edit_tree.proofs.IndexedLaws.{added, has-none, item-new, item-there, leaves, made-new, made-there, place-last, put-added}
use Rattle.toml_edit_tree.proofs.IndexedLaws.{put-here}
use Rattle.toml_edit_tree.proofs.TableEntryLaws.{apart-first, place-shown}
use Rattle.toml_edit_tree.proofs.index.find_or_add_slot.Goals as goal

pub returns-in_err-key-in-None-clause-leaves : goal.returns-in_err-key-in-None-clause-leaves
returns-in_err-key-in-None-clause-leaves c =
    leaves c.args.key.now c.args.slots.now (apart-first c.args.slots.now c.as_slice.ensures.apart)

pub returns-in_err-key-in-None-clause-present : goal.returns-in_err-key-in-None-clause-present
returns-in_err-key-in-None-clause-present c h =
    absurd (let gone = has-none c.args.key.now c.args.slots.now (sym c.in-None.ensures.place) in let is = h in cc)

pub returns-in-Some-clause-made : goal.returns-in-Some-clause-made
returns-in-Some-clause-made c = made-there c.args.key.now c.args.slots.now c.in-Some.at (sym c.in-Some.ensures.place)

pub returns-in-Some-clause-place : goal.returns-in-Some-clause-place
returns-in-Some-clause-place c = place-shown c.args.key.now c.args.slots.now ∙ sym c.in-Some.ensures.place

pub returns-in-Some-clause-item : goal.returns-in-Some-clause-item
returns-in-Some-clause-item c =
    item-there c.args.key.now c.args.slots.now c.in-Some.at (sym c.in-Some.ensures.place) c.in-Some.ensures.within

pub returns-in-Some-clause-rest : goal.returns-in-Some-clause-rest
returns-in-Some-clause-rest c w = put-here c.args.key.now c.args.slots.now c.in-Some.at (sym c.in-Some.ensures.place) w

pub returns-in-Some-clause-leaves : goal.returns-in-Some-clause-leaves
returns-in-Some-clause-leaves c = leaves c.args.key.now c.args.slots.now (apart-first c.args.slots.now c.as_slice.ensures.apart)

pub returns-in-Ok-clause-made : goal.returns-in-Ok-clause-made
returns-in-Ok-clause-made c =
    let k = c.args.key.now in
    let es = c.args.slots.now in
    let left : c.push.new.self ≡ added k es = search rules in
    rw left (made-new k es (sym c.in-None.ensures.place))

pub returns-in-Ok-clause-place : goal.returns-in-Ok-clause-place
returns-in-Ok-clause-place c =
    let k = c.args.key.now in
    let es = c.args.slots.now in
    let left : c.push.new.self ≡ added k es = search rules in
    rw (left, c.len-at.ensures) (place-shown k (added k es)
    ∙ place-last k (record { key = new_key k; item = items.None }) es (nat_list_eq_equiv.refl k) (sym c.in-None.ensures.place))

pub returns-in-Ok-clause-item : goal.returns-in-Ok-clause-item
returns-in-Ok-clause-item c =
    let k = c.args.key.now in
    let es = c.args.slots.now in
    let left : c.push.new.self ≡ added k es = search rules in
    rw (left, c.len-at.ensures) (item-new k es (sym c.in-None.ensures.place))

pub returns-in-Ok-clause-rest : goal.returns-in-Ok-clause-rest
returns-in-Ok-clause-rest c w =
    let k = c.args.key.now in
    let es = c.args.slots.now in
    let left : c.push.new.self ≡ added k es = search rules in
    rw (left, c.len-at.ensures) (put-added k es (sym c.in-None.ensures.place) w)

pub returns-in-Ok-clause-leaves : goal.returns-in-Ok-clause-leaves
returns-in-Ok-clause-leaves c = leaves c.args.key.now c.args.slots.now (apart-first c.args.slots.now c.as_slice.ensures.apart)

pub returns-in-Err-clause-leaves : goal.returns-in-Err-clause-leaves
returns-in-Err-clause-leaves c = leaves c.args.key.now c.args.slots.now (apart-first c.args.slots.now c.as_slice.ensures.apart)

pub returns-in-Err-clause-present : goal.returns-in-Err-clause-present
returns-in-Err-clause-present c h =
    absurd (let gone = has-none c.args.key.now c.args.slots.now (sym c.in-None.ensures.place) in let is = h in cc)
