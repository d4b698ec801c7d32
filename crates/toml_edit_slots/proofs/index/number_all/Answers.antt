-- The places, one by one.
use Rattle.std.proofs.Common.{◌≡◌, ◌<◌, Some, is_some, get_or, length, sym, ap, ◌∙◌, arith}
use Rattle.std.proofs.lemmas.Option.{slice_get-get_or}
use Rattle.std.specs.List.{slice_get}
use Rattle.toml_edit_slots.specs.Slots.{names}
use Rattle.toml_edit_slots.proofs.HashedLaws.{hashed-more, names-put}
use Rattle.toml_edit_slots.proofs.IndexLaws.{names-get, place_in-own}
use Rattle.toml_edit_slots.proofs.index.number_all.Goals as goal

pub returns : goal.returns
returns g c k t below there = c.loop-at.invariant.1 k t (omega (arith, below)) there

pub set-requires : goal.set-requires
set-requires g c =
    let es = c.args.entries.now in
    let us = names es in
    let at = c.loop-at.at in
    let s = c.index-entries-at.result in
    let x = c.get.result.now in
    let within : at < length es = omega arith in
    let here : slice_get us at ≡ Some x = names-get es at (get_or es at s) (slice_get-get_or es at s within)
    ∙ ap Some (sym c.get.ensures.name) in
    c.loop-at.invariant.0 x (ap is_some (place_in-own us at x here c.requires.apart))

pub loop-at-preserved : goal.loop-at-preserved
loop-at-preserved g c =
    let es = c.args.entries.now in
    let us = names es in
    let at = c.loop-at.at in
    let s = c.index-entries-at.result in
    let x = c.get.result.now in
    let m = c.loop-at.hashed in
    let n = c.set.new.self in
    let within : at < length es = omega arith in
    let here : slice_get us at ≡ Some x = names-get es at (get_or es at s) (slice_get-get_or es at s within)
    ∙ ap Some (sym c.get.ensures.name) in
    let apart = c.requires.apart in (
      names-put us apart m n at x here c.set.ensures c.loop-at.invariant.0,
      hashed-more us apart m n at x here c.set.ensures c.loop-at.invariant.1,
    )
