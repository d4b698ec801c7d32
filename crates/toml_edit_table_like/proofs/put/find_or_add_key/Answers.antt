-- The place of a key's slot, which may be new.
use Rattle.std.proofs.Common.{◌≡◌, Some, None, [], ◌∷◌, ◌++◌, option_map, rules, sym, ap, ◌∙◌}
use Rattle.toml_edit_slots.specs.Slots.{place}
use Rattle.toml_edit_table_like.proofs.PutLaws.{has-none, item-gone, item-last, item-there, put-gone, put-leaves, put-there, with_item-last}
use Rattle.toml_edit_table_like.proofs.ShownLaws.{apart-first}
use Rattle.toml_edit_tree.specs.View.{item_view}
use Rattle.toml_edit_table_like.proofs.put.find_or_add_key.Goals as goal

pub returns-in_default-clause-leaves : goal.returns-in_default-clause-leaves
returns-in_default-clause-leaves c =
    put-leaves c.args.key.now c.args.slots.now (apart-first c.args.slots.now c.as_slice.ensures.apart)

pub returns-in_default-clause-present : goal.returns-in_default-clause-present
returns-in_default-clause-present c h =
    let none : place c.args.key.now.name c.args.slots.now ≡ None = ap (λ u. place u c.args.slots.now) (sym c.get.ensures.name)
    ∙ sym c.in-None.ensures.place in
    absurd (let gone = has-none c.args.key.now c.args.slots.now none in let is = h in cc)

pub returns-in-Some-clause-item : goal.returns-in-Some-clause-item
returns-in-Some-clause-item c =
    let at : place c.args.key.now.name c.args.slots.now ≡ Some c.in-Some.at = ap (λ u. place u c.args.slots.now) (sym c.get.ensures.name)
    ∙ sym c.in-Some.ensures.place in
    item-there c.args.key.now c.args.slots.now c.in-Some.at at c.in-Some.ensures.within (item_view c.args.item)

pub returns-in-Some-clause-rest : goal.returns-in-Some-clause-rest
returns-in-Some-clause-rest c =
    let at : place c.args.key.now.name c.args.slots.now ≡ Some c.in-Some.at = ap (λ u. place u c.args.slots.now) (sym c.get.ensures.name)
    ∙ sym c.in-Some.ensures.place in
    put-there c.args.key.now c.args.slots.now c.in-Some.at at

pub returns-in-Some-clause-leaves : goal.returns-in-Some-clause-leaves
returns-in-Some-clause-leaves c = put-leaves c.args.key.now c.args.slots.now (apart-first c.args.slots.now c.as_slice.ensures.apart)

pub returns-in-Ok-push-clause-item : goal.returns-in-Ok-push-clause-item
returns-in-Ok-push-clause-item c =
    let k = c.args.key.now in
    let es = c.args.slots.now in
    let none : place k.name es ≡ None = ap (λ u. place u c.args.slots.now) (sym c.get.ensures.name) ∙ sym c.in-None.ensures.place in
    let left : c.push.new.self ≡ es ++ record { key = k; item = c.args.item } ∷ [] = search rules in
    rw (left, c.len-at.ensures) (ap (option_map item_view) (item-last es (record { key = k; item = c.args.item }))
    ∙ item-gone k es none (item_view c.args.item))

pub returns-in-Ok-push-clause-rest : goal.returns-in-Ok-push-clause-rest
returns-in-Ok-push-clause-rest c w =
    let k = c.args.key.now in
    let es = c.args.slots.now in
    let none : place k.name es ≡ None = ap (λ u. place u c.args.slots.now) (sym c.get.ensures.name) ∙ sym c.in-None.ensures.place in
    let left : c.push.new.self ≡ es ++ record { key = k; item = c.args.item } ∷ [] = search rules in
    rw (left, c.len-at.ensures) (with_item-last es (record { key = k; item = c.args.item }) w ∙ put-gone k es none w)

pub returns-in-Ok-push-clause-leaves : goal.returns-in-Ok-push-clause-leaves
returns-in-Ok-push-clause-leaves c =
    put-leaves c.args.key.now c.args.slots.now (apart-first c.args.slots.now c.as_slice.ensures.apart)

pub returns-in-Err-clause-leaves : goal.returns-in-Err-clause-leaves
returns-in-Err-clause-leaves c = put-leaves c.args.key.now c.args.slots.now (apart-first c.args.slots.now c.as_slice.ensures.apart)

pub returns-in-Err-clause-present : goal.returns-in-Err-clause-present
returns-in-Err-clause-present c h =
    let none : place c.args.key.now.name c.args.slots.now ≡ None = ap (λ u. place u c.args.slots.now) (sym c.get.ensures.name)
    ∙ sym c.in-None.ensures.place in
    absurd (let gone = has-none c.args.key.now c.args.slots.now none in let is = h in cc)
