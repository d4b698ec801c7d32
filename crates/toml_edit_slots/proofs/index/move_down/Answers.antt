-- The places after a gap, one by one.
use Rattle.std.proofs.Common.{◌≡◌, ◌<◌, ◌-◌, ◌+◌, Some, get_or, length, remove, sym, ap, subst, ◌∙◌, arith}
use Rattle.std.proofs.lemmas.Option.{slice_get-get_or, slice_get_within}
use Rattle.std.specs.List.{slice_get}
use Rattle.toml_edit_slots.specs.Slots.{names}
use Rattle.toml_edit_slots.specs.SlotIndex.{IsRightBefore}
use Rattle.toml_edit_slots.proofs.IndexLaws.{distinct-removed, long-removed, length-names, name-behind}
use Rattle.toml_edit_slots.proofs.PlacesLaws.{right-more, texts-set}
use Rattle.toml_edit_slots.proofs.index.move_down.Goals as goal

pub returns : goal.returns
returns g c k t there =
    let es = c.args.entries.now in
    let gap = c.args.gap in
    let within = slice_get_within (remove (names es) gap) k t there in
    let long = long-removed (names es) gap (omega (arith, length-names es, c.requires.gap)) in
    c.loop-at.invariant.2 k t (omega (arith, within, long, length-names es, c.loop-at.invariant.0)) there

pub set-requires : goal.set-requires
set-requires g c =
    let es = c.args.entries.now in
    let at = c.loop-at.at in
    let s = c.index-entries-at.result in
    let x = c.get.result.now in
    let us = remove (names es) c.args.gap in
    let within : at < length es = omega arith in
    let here : slice_get us (at - 1) ≡ Some x =
    name-behind es c.args.gap at (get_or es at s) c.loop-at.invariant.0 (slice_get-get_or es at s within)
    ∙ ap Some (sym c.get.ensures.name) in
    c.loop-at.invariant.1.noted (at - 1) x here

pub loop-at-preserved : goal.loop-at-preserved
loop-at-preserved g c =
    let es = c.args.entries.now in
    let at = c.loop-at.at in
    let s = c.index-entries-at.result in
    let x = c.get.result.now in
    let m = c.loop-at.places in
    let n = c.set.new.self in
    let us = remove (names es) c.args.gap in
    let apart = distinct-removed (names es) c.args.gap c.requires.apart in
    let within : at < length es = omega arith in
    let here : slice_get us (at - 1) ≡ Some x =
    name-behind es c.args.gap at (get_or es at s) c.loop-at.invariant.0 (slice_get-get_or es at s within)
    ∙ ap Some (sym c.get.ensures.name) in
    let more : at - 1 + 1 ≡ at + 1 - 1 = omega (arith, c.loop-at.invariant.0) in (
      omega (arith, c.loop-at.invariant.0),
      texts-set us apart m n (at - 1) x here c.set.ensures c.loop-at.invariant.1,
      subst (λ k. IsRightBefore k n us) more (right-more us apart m n (at - 1) x here c.set.ensures c.loop-at.invariant.1
          c.loop-at.invariant.2),
    )
