-- The places of slots, one by one.
use Rattle.std.proofs.Common.{◌≡◌, ◌+◌, ◌<◌, Some, suc, get_or, length, take, ap, sym, subst, ◌∙◌, arith}
use Rattle.std.proofs.lemmas.Option.{slice_get-get_or}
use Rattle.std.specs.List.{IsDistinct, slice_get}
use Rattle.toml_edit_model.specs.Text.{same_text}
use Rattle.toml_edit_slots.specs.Slots.{names}
use Rattle.toml_edit_slots.specs.SlotIndex.{IsIndexOf, with_text}
use Rattle.toml_edit_slots.proofs.IndexLaws.{distinct-taken, length-names, names-get, names-take, take-all, take-new, take-next}
use Rattle.toml_edit_slots.proofs.NewLaws.{with_text-new}
use Rattle.toml_edit_slots.proofs.index.places_with.Goals as goal

pub add-requires-clause-apart : goal.add-requires-clause-apart
add-requires-clause-apart g c =
    let es = c.args.entries.now in
    subst (IsDistinct same_text) (sym (names-take es c.loop-at.at)) (distinct-taken (names es) c.loop-at.at c.requires.apart)

pub add-requires-clause-indexed : goal.add-requires-clause-indexed
add-requires-clause-indexed g c = subst (IsIndexOf c.loop-at.places) (sym (names-take c.args.entries.now c.loop-at.at)) c.loop-at.invariant

pub loop-at-preserved : goal.loop-at-preserved
loop-at-preserved g c =
    let es = c.args.entries.now in
    let us = names es in
    let at = c.loop-at.at in
    let s = c.index-entries-at.result in
    let x = c.get.result.now in
    let within : at < length es = omega arith in
    let here : slice_get us at ≡ Some x = names-get es at (get_or es at s) (slice_get-get_or es at s within)
    ∙ ap Some (sym c.get.ensures.name) in
    let one : suc at ≡ at + 1 = omega arith in
    let is : with_text x (names (take at es)) ≡ take (at + 1) us =
    ap (with_text x) (names-take es at) ∙ with_text-new x (take at us) (take-new us at x here c.requires.apart)
    ∙ sym (take-next us at x here) ∙ ap (λ k. take k us) one in
    subst (IsIndexOf c.add.new.self) is c.in_ok-add.ensures.ok

pub add-requires-2-clause-indexed : goal.add-requires-2-clause-indexed
add-requires-2-clause-indexed g c =
    let us = names c.args.entries.now in
    subst (IsIndexOf c.loop-at.places) (take-all us c.loop-at.at (omega (arith, length-names c.args.entries.now))) c.loop-at.invariant
