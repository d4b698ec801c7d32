-- A slot by its name.
use Rattle.std.proofs.Common.{◌≡◌, Some, None, true, false, rules, sym, ap, ◌∙◌}
use Rattle.toml_edit_slots.specs.Slots.{names}
use Rattle.toml_edit_slots.specs.SlotIndex.{noted_place, stands_at}
use Rattle.toml_edit_slots.proofs.PlacesLaws.{is-there, not-there, other-there}
use Rattle.toml_edit_slots.proofs.places.Places.find.Goals as goal

pub returns-in_err-at : goal.returns-in_err-at
returns-in_err-at g c =
    let none : noted_place c.args.self.now c.args.name.now ≡ None = search rules in
    rw c.from_residual.ensures (sym (not-there (names c.args.entries.now) c.args.self.now c.args.name.now c.requires.indexed none))

pub returns-then-is_named_at : goal.returns-then-is_named_at
returns-then-is_named_at g c =
    let us = names c.args.entries.now in
    let u = c.args.name.now in
    let stands : stands_at us c.in_ok-at.at u ≡ true = sym (ap (stands_at us c.in_ok-at.at) c.as_bytes.ensures.value)
    ∙ sym c.is_named_at.ensures ∙ c.if-is_named_at.true in
    sym (is-there us u c.in_ok-at.at c.requires.apart stands)

pub returns-else-is_named_at : goal.returns-else-is_named_at
returns-else-is_named_at g c =
    let us = names c.args.entries.now in
    let u = c.args.name.now in
    let at = c.in_ok-at.at in
    let noted : noted_place c.args.self.now u ≡ Some at = sym c.in_ok-at.ensures in
    let stands : stands_at us at u ≡ false = sym (ap (stands_at us at) c.as_bytes.ensures.value) ∙ sym c.is_named_at.ensures
    ∙ c.if-is_named_at.false in
    sym (other-there us c.args.self.now u at c.requires.indexed noted stands)
