-- A place behind the others, if the name is new.
use Rattle.std.proofs.Common.{◌≡◌, None, sym, subst, ◌∙◌}
use Rattle.toml_edit_slots.specs.Slots.{names, place}
use Rattle.toml_edit_slots.specs.SlotIndex.{IsIndex, IsIndexed}
use Rattle.toml_edit_slots.proofs.SlotLaws.{place-position}
use Rattle.toml_edit_slots.proofs.NewLaws.{err_too, with_text-new, with_text-there}
use Rattle.toml_edit_slots.proofs.index.add_new_place.Goals as goal

pub returns-in-Some-walk-clause-place : goal.returns-in-Some-walk-clause-place
returns-in-Some-walk-clause-place g c = c.in-Some-walk.ensures ∙ place-position c.args.name.now c.args.entries.now

pub returns-in-Some-walk-clause-ok : goal.returns-in-Some-walk-clause-ok
returns-in-Some-walk-clause-ok g c =
    let us = names c.args.entries.now in
    subst (IsIndexed c.args.index.now)
    (sym (with_text-there c.args.name.now us c.in-Some-walk.at (sym (c.in-Some-walk.ensures
    ∙ place-position c.args.name.now c.args.entries.now))))
    c.requires.indexed

pub index_with-requires-clause-new : goal.index_with-requires-clause-new
index_with-requires-clause-new g c = sym (c.in-None.ensures ∙ place-position c.args.name.now c.args.entries.now)

pub returns-in_err-index_with-in-None-clause-new :
    goal.returns-in_err-index_with-in-None-clause-new
returns-in_err-index_with-in-None-clause-new g c =
    err_too c.from_residual.result (sym (c.in-None.ensures ∙ place-position c.args.name.now c.args.entries.now))

pub returns-in_ok-index_with-in-None-clause-place :
    goal.returns-in_ok-index_with-in-None-clause-place
returns-in_ok-index_with-in-None-clause-place g c = c.in-None.ensures ∙ place-position c.args.name.now c.args.entries.now

pub returns-in_ok-index_with-in-None-clause-ok : goal.returns-in_ok-index_with-in-None-clause-ok
returns-in_ok-index_with-in-None-clause-ok g c =
    let us = names c.args.entries.now in
    let new : place c.args.name.now c.args.entries.now ≡ None =
    sym (c.in-None.ensures ∙ place-position c.args.name.now c.args.entries.now) in
    subst (IsIndex c.in_ok-index_with-in-None.field-0.value) (sym (with_text-new c.args.name.now us new)) c.in_ok-index_with-in-None.ensures

pub returns-else-entries-ge-FEW-clause-place : goal.returns-else-entries-ge-FEW-clause-place
returns-else-entries-ge-FEW-clause-place g c = c.in-None.ensures ∙ place-position c.args.name.now c.args.entries.now
