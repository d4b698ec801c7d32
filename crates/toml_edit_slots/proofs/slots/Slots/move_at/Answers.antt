-- A slot at another place.
use Rattle.std.proofs.Common.{◌≡◌, ◌<◌, IsPermutation, arith, length, subst, sym, ◌∙◌, ap}
use Rattle.toml_edit_slots.specs.InPlace.{moved}
use Rattle.toml_edit_slots.specs.SlotIndex.{IsIndexed, MayIndex}
use Rattle.toml_edit_slots.specs.Slots.{AreApart, names}
use Rattle.toml_edit_slots.proofs.IndexLaws.{length-names}
use Rattle.toml_edit_slots.proofs.KeptLaws.{apart-permuted, length-permuted, may_index, place-permuted}
use Rattle.toml_edit_slots.proofs.MoveLaws.{moved-permutes, moved-same}
use Rattle.toml_edit_slots.proofs.slots.Slots.move_at.Goals as goal

pub index_those-requires-clause-apart : goal.index_those-requires-clause-apart
index_those-requires-clause-apart g c =
    let es = c.self.inside.entries.items in
    let fs = c.move_element.new.elements.items in
    let within : c.args.from < length es = subst (λ l. c.args.from < length l) (sym c.self.view_is) c.requires.from in
    let same : IsPermutation es fs =
    subst (IsPermutation es) (sym c.move_element.ensures) (moved-permutes es c.args.from c.args.to within) in
    subst AreApart (sym c.deref.ensures.value) (apart-permuted es fs same c.self.invariant.0)

pub index_those-requires-clause-named : goal.index_those-requires-clause-named
index_those-requires-clause-named g c =
    let es = c.self.inside.entries.items in
    let fs = c.move_element.new.elements.items in
    let within : c.args.from < length es = subst (λ l. c.args.from < length l) (sym c.self.view_is) c.requires.from in
    let same : IsPermutation es fs =
    subst (IsPermutation es) (sym c.move_element.ensures) (moved-permutes es c.args.from c.args.to within) in
    subst (λ l. MayIndex c.self.inside.index (names l)) (sym c.deref.ensures.value)
    (may_index c.self.inside.index (names es) (names fs) c.self.invariant.1
    (omega (arith, length-names es, length-names fs, length-permuted es fs same))
    (λ t there. sym (place-permuted es fs same t) ∙ there))

pub invariant_of-self : goal.invariant_of-self
invariant_of-self g c =
    let es = c.self.inside.entries.items in
    let fs = c.move_element.new.elements.items in
    let within : c.args.from < length es = subst (λ l. c.args.from < length l) (sym c.self.view_is) c.requires.from in
    let same : IsPermutation es fs =
    subst (IsPermutation es) (sym c.move_element.ensures) (moved-permutes es c.args.from c.args.to within) in (
      apart-permuted es fs same c.self.invariant.0,
      subst (λ l. IsIndexed c.index_those.new.index (names l)) c.deref.ensures.value
          c.index_those.ensures,
    )

pub invariant_of-self-else-from-to : goal.invariant_of-self-else-from-to
invariant_of-self-else-from-to g c =
    let es = c.self.inside.entries.items in
    let fs = c.move_element.new.elements.items in
    let within : c.args.from < length es = subst (λ l. c.args.from < length l) (sym c.self.view_is) c.requires.from in
    let same : fs ≡ es =
    c.move_element.ensures ∙ ap (λ to. moved c.args.from to es) (sym c.if-from-to.false) ∙ moved-same es c.args.from within in
    (subst AreApart (sym same) c.self.invariant.0, subst (λ l. IsIndexed c.self.inside.index (names l)) (sym same) c.self.invariant.1)
