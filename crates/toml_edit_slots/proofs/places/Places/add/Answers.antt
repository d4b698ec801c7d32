-- A place after the others, if the name is new.
use Rattle.std.proofs.Common.{◌≡◌, Some, None, true, false, is_some, length, sym, ap, subst, ◌∙◌}
use Rattle.toml_edit_slots.specs.Slots.{names, place_in}
use Rattle.toml_edit_slots.specs.SlotIndex.{IsIndexOf, IsNotedAt, noted_place, stands_at}
use Rattle.toml_edit_slots.proofs.IndexLaws.{length-names}
use Rattle.toml_edit_slots.proofs.NewLaws.{err_too, with_text-new, with_text-there}
use Rattle.toml_edit_slots.proofs.PlacesLaws.{index-more, index-same, is-there, not-there, other-there}
use Rattle.toml_edit_slots.proofs.places.Places.add.Goals as goal

pub returns-in_err-at-clause-new : goal.returns-in_err-at-clause-new
returns-in_err-at-clause-new g c =
    err_too c.from_residual.result (not-there (names c.args.entries.now) c.args.self.now c.args.name.now c.requires.indexed
    c.in_err-at.ensures.absent)

pub returns-then-is_named_at-clause-place : goal.returns-then-is_named_at-clause-place
returns-then-is_named_at-clause-place g c =
    let us = names c.args.entries.now in
    let at = c.in-Some.at in
    let stands : stands_at us at c.args.name.now ≡ true = sym (ap (stands_at us at) c.as_bytes.ensures.value) ∙ sym c.is_named_at.ensures
    ∙ c.if-is_named_at.true in
    sym (is-there us c.args.name.now at c.requires.apart stands)

pub returns-then-is_named_at-clause-ok : goal.returns-then-is_named_at-clause-ok
returns-then-is_named_at-clause-ok g c =
    let us = names c.args.entries.now in
    let u = c.args.name.now in
    let at = c.in-Some.at in
    let m = c.args.self.now in
    let n = c.note.new.self in
    let noted : noted_place m u ≡ Some at = sym c.in_ok-at.ensures.there ∙ c.in-Some.is in
    let stands : stands_at us at u ≡ true = sym (ap (stands_at us at) c.as_bytes.ensures.value) ∙ sym c.is_named_at.ensures
    ∙ c.if-is_named_at.true in
    subst (IsIndexOf n) (sym (with_text-there u us at (is-there us u at c.requires.apart stands)))
    (index-same us m n (c.note.ensures.present (ap is_some noted)) c.requires.indexed)

pub returns-in_err-note_itself-clause-new : goal.returns-in_err-note_itself-clause-new
returns-in_err-note_itself-clause-new g c =
    let us = names c.args.entries.now in
    let u = c.args.name.now in
    let at = c.in-Some.at in
    let noted : noted_place c.args.self.now u ≡ Some at = sym c.in_ok-at.ensures.there ∙ c.in-Some.is in
    let stands : stands_at us at u ≡ false = sym (ap (stands_at us at) c.as_bytes.ensures.value) ∙ sym c.is_named_at.ensures
    ∙ c.if-is_named_at.false in
    err_too c.from_residual-in_err-note_itself.result (other-there us c.args.self.now u at c.requires.indexed noted stands)

pub returns-in_ok-note_itself-clause-place : goal.returns-in_ok-note_itself-clause-place
returns-in_ok-note_itself-clause-place g c =
    let us = names c.args.entries.now in
    let u = c.args.name.now in
    let at = c.in-Some.at in
    let noted : noted_place c.args.self.now u ≡ Some at = sym c.in_ok-at.ensures.there ∙ c.in-Some.is in
    let stands : stands_at us at u ≡ false = sym (ap (stands_at us at) c.as_bytes.ensures.value) ∙ sym c.is_named_at.ensures
    ∙ c.if-is_named_at.false in
    sym (other-there us c.args.self.now u at c.requires.indexed noted stands)

pub returns-in_ok-note_itself-clause-ok : goal.returns-in_ok-note_itself-clause-ok
returns-in_ok-note_itself-clause-ok g c =
    let us = names c.args.entries.now in
    let u = c.args.name.now in
    let at = c.in-Some.at in
    let m = c.args.self.now in
    let mid = c.note.new.self in
    let n = c.note_itself.new.self in
    let noted : noted_place m u ≡ Some at = sym c.in_ok-at.ensures.there ∙ c.in-Some.is in
    let stands : stands_at us at u ≡ false = sym (ap (stands_at us at) c.as_bytes.ensures.value) ∙ sym c.is_named_at.ensures
    ∙ c.if-is_named_at.false in
    let new : place_in u us ≡ None = other-there us m u at c.requires.indexed noted stands in
    let put : IsNotedAt (length us) u mid n =
    subst (λ k. IsNotedAt k u mid n) (sym (length-names c.args.entries.now)) c.in_ok-note_itself.ensures.ok in
    subst (IsIndexOf n) (sym (with_text-new u us new))
    (index-more us mid n u new (index-same us m mid (c.note.ensures.present (ap is_some noted)) c.requires.indexed) put)

pub returns-in_default-clause-place : goal.returns-in_default-clause-place
returns-in_default-clause-place g c =
    let none : noted_place c.args.self.now c.args.name.now ≡ None = sym c.in_ok-at.ensures.there ∙ c.in_default.is in
    sym (not-there (names c.args.entries.now) c.args.self.now c.args.name.now c.requires.indexed none)

pub returns-in_default-clause-ok : goal.returns-in_default-clause-ok
returns-in_default-clause-ok g c =
    let us = names c.args.entries.now in
    let u = c.args.name.now in
    let m = c.args.self.now in
    let n = c.note.new.self in
    let none : noted_place m u ≡ None = sym c.in_ok-at.ensures.there ∙ c.in_default.is in
    let new : place_in u us ≡ None = not-there us m u c.requires.indexed none in
    let put : IsNotedAt (length us) u m n =
    subst (λ k. IsNotedAt k u m n) (sym (length-names c.args.entries.now)) (c.in_ok-at.ensures.new none) in
    subst (IsIndexOf n) (sym (with_text-new u us new)) (index-more us m n u new c.requires.indexed put)
