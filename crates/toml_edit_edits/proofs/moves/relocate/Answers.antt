-- Each way to the end of a move.
use Rattle.std.proofs.Common.{◌≡◌, ◌∙◌, ◌++◌, ap, refl, sym, subst, inr, rules}
use Rattle.toml_edit_model.specs.Keys.{names}
use Rattle.toml_edit_model.specs.Text.{Text, one}
use Rattle.toml_edit.specs.DocumentView.{tree_owned}
use Rattle.std.specs.Prelude.{Ok, Err}
use Rattle.toml_edit_edit_laws.specs.Commands.{no_such_path, remove_at}
use Rattle.toml_edit_paths.specs.Changes.{Changes}
use Rattle.toml_edit_edits.specs.Effects.{changed_at}
use Rattle.toml_edit_edits.specs.Moves.{carried, moved, moved_beside, put_in, slot_at}
use Rattle.toml_edit_edits.specs.Slots.{shown_slot}
use Rattle.toml_edit_edits.specs.Outcomes.{Makes}
use Rattle.toml_edit_edits.proofs.OutcomeLaws.{err-means, names-last}
use Rattle.toml_edit_edits.proofs.MoveLaws.{is-inside, is-beside, never-refused, not-found, not-put, put-and-removed, same-path, starts-path}
use Rattle.toml_edit_edits.proofs.moves.relocate.Goals as goal

pub returns-then-eq-clause-makes : goal.returns-then-eq-clause-makes
returns-then-eq-clause-makes c =
    let t = tree_owned c.args.document.now in
    let w = tree_owned c.move_beside.new.document in
    let p = c.in-Some-Some in
    let above = names p.above.now in
    let from-is : names c.args.from.now ≡ above ++ one p.last.now.name = ap names p.ensures.cases.0 ∙ names-last p.above.now p.last.now in
    let to-is : names c.args.to.now ≡ names p.target.now ++ one p.name.now.name = ap names p.ensures'.cases.0 ∙ names-last p.target.now p.name.now in
    subst (λ m. Makes m t w c.move_beside.result)
    (sym (is-beside above p.last.now.name (names p.target.now) p.name.now.name t (names c.args.from.now) (names c.args.to.now) from-is to-is
    (sym (same-path p.above.now p.target.now) ∙ sym c.eq.ensures ∙ c.if-eq.true)))
    (subst (λ (k : Text). Makes (moved_beside above k p.name.now.name t) t w c.move_beside.result) c.get.ensures.name
    (subst (λ (k : Text). Makes (moved_beside above c.get.result.now k t) t w c.move_beside.result) c.get-then-eq.ensures.name c.move_beside.ensures.makes))

pub returns-then-starts_with-clause-makes : goal.returns-then-starts_with-clause-makes
returns-then-starts_with-clause-makes c =
    let t = tree_owned c.args.document.now in
    let p = c.in-Some-Some in
    let above = names p.above.now in
    let from-is : names c.args.from.now ≡ above ++ one p.last.now.name = ap names p.ensures.cases.0 ∙ names-last p.above.now p.last.now in
    let to-is : names c.args.to.now ≡ names p.target.now ++ one p.name.now.name = ap names p.ensures'.cases.0 ∙ names-last p.target.now p.name.now in (
      inr (is-inside above p.last.now.name (names p.target.now) p.name.now.name t (names c.args.from.now) (names c.args.to.now) from-is to-is
          (sym (same-path p.above.now p.target.now) ∙ sym c.eq.ensures ∙ c.if-eq.false)
          (sym (starts-path c.args.to.now c.args.from.now) ∙ sym c.starts_with.ensures.value ∙ c.if-starts_with.true)),
      refl,
    )

pub returns-in_err-slot-clause-makes : goal.returns-in_err-slot-clause-makes
returns-in_err-slot-clause-makes c =
    let t = tree_owned c.args.document.now in
    let p = c.in-Some-Some in
    let above = names p.above.now in
    let target = names p.target.now in
    let from = names c.args.from.now in
    let to = names c.args.to.now in
    let from-is : from ≡ above ++ one p.last.now.name = ap names p.ensures.cases.0 ∙ names-last p.above.now p.last.now in
    let to-is : to ≡ target ++ one p.name.now.name = ap names p.ensures'.cases.0 ∙ names-last p.target.now p.name.now in
    let other = sym (same-path p.above.now p.target.now) ∙ sym c.eq.ensures ∙ c.if-eq.false in
    let outside = sym (starts-path c.args.to.now c.args.from.now) ∙ sym c.starts_with.ensures.value ∙ c.if-starts_with.false in
    let fault = c.in_err-slot.field-0.0 in
    let told : c.from_residual.result ≡ Err fault = search rules in
    subst (λ r. Makes (moved from to t) t t r) (sym told) (
      err-means (moved from to t) fault (slot_at above c.get-2.result.now t ≡ Err fault)
          (λ h. not-found from to above target p.last.now.name p.name.now.name t from-is to-is other outside
          fault (ap (λ (k : Text). slot_at above k t) (sym c.get-2.ensures.name) ∙ h)) c.in_err-slot.ensures,
      refl,
    )

pub returns-in_err-put_slot-clause-makes : goal.returns-in_err-put_slot-clause-makes
returns-in_err-put_slot-clause-makes c =
    let t = tree_owned c.args.document.now in
    let p = c.in-Some-Some in
    let above = names p.above.now in
    let target = names p.target.now in
    let from = names c.args.from.now in
    let to = names c.args.to.now in
    let from-is : from ≡ above ++ one p.last.now.name = ap names p.ensures.cases.0 ∙ names-last p.above.now p.last.now in
    let to-is : to ≡ target ++ one p.name.now.name = ap names p.ensures'.cases.0 ∙ names-last p.target.now p.name.now in
    let other = sym (same-path p.above.now p.target.now) ∙ sym c.eq.ensures ∙ c.if-eq.false in
    let outside = sym (starts-path c.args.to.now c.args.from.now) ∙ sym c.starts_with.ensures.value ∙ c.if-starts_with.false in
    let found = c.in_ok-slot.ensures in
    let s = shown_slot c.in_ok-slot.slot in
    let there : slot_at above p.last.now.name t ≡ Ok found.0 = ap (λ (k : Text). slot_at above k t) (sym c.get-2.ensures.name) ∙ found.1 in
    let is : s ≡ carried p.name.now.name found.0 = found.2 ∙ ap (λ (u : Text). carried u found.0) c.get-3.ensures.name in
    let fault = c.in_err-put_slot.field-0.0 in
    let told : c.from_residual-in_err-put_slot.result ≡ Err fault = search rules in
    subst (λ r. Makes (moved from to t) t (tree_owned c.put_slot.new.document) r) (sym told) (
      err-means (moved from to t) fault (changed_at (put_in s) target t ≡ Err fault)
          (not-put from to above target p.last.now.name p.name.now.name t from-is to-is other outside found.0 s there is fault)
          c.in_err-put_slot.ensures.makes.0,
      c.in_err-put_slot.ensures.makes.1,
    )

pub returns-in-Ok-clause-makes : goal.returns-in-Ok-clause-makes
returns-in-Ok-clause-makes c =
    let t = tree_owned c.args.document.now in
    let p = c.in-Some-Some in
    let above = names p.above.now in
    let target = names p.target.now in
    let from = names c.args.from.now in
    let to = names c.args.to.now in
    let from-is : from ≡ above ++ one p.last.now.name = ap names p.ensures.cases.0 ∙ names-last p.above.now p.last.now in
    let to-is : to ≡ target ++ one p.name.now.name = ap names p.ensures'.cases.0 ∙ names-last p.target.now p.name.now in
    let other = sym (same-path p.above.now p.target.now) ∙ sym c.eq.ensures ∙ c.if-eq.false in
    let outside = sym (starts-path c.args.to.now c.args.from.now) ∙ sym c.starts_with.ensures.value ∙ c.if-starts_with.false in
    let found = c.in_ok-slot.ensures in
    let s = shown_slot c.in_ok-slot.slot in
    let there : slot_at above p.last.now.name t ≡ Ok found.0 = ap (λ (k : Text). slot_at above k t) (sym c.get-2.ensures.name) ∙ found.1 in
    let is : s ≡ carried p.name.now.name found.0 = found.2 ∙ ap (λ (u : Text). carried u found.0) c.get-3.ensures.name in
    put-and-removed from to above target p.last.now.name p.name.now.name t from-is to-is other outside found.0 s there is
    (tree_owned c.put_slot.new.document) (tree_owned c.remove_at.new.self) c.in_ok-put_slot.ensures.makes c.in-Ok.ensures.changes

pub returns-in-Err-clause-makes : goal.returns-in-Err-clause-makes
returns-in-Err-clause-makes c =
    let t = tree_owned c.args.document.now in
    let p = c.in-Some-Some in
    let above = names p.above.now in
    let target = names p.target.now in
    let from = names c.args.from.now in
    let to = names c.args.to.now in
    let from-is : from ≡ above ++ one p.last.now.name = ap names p.ensures.cases.0 ∙ names-last p.above.now p.last.now in
    let to-is : to ≡ target ++ one p.name.now.name = ap names p.ensures'.cases.0 ∙ names-last p.target.now p.name.now in
    let other = sym (same-path p.above.now p.target.now) ∙ sym c.eq.ensures ∙ c.if-eq.false in
    let outside = sym (starts-path c.args.to.now c.args.from.now) ∙ sym c.starts_with.ensures.value ∙ c.if-starts_with.false in
    let found = c.in_ok-slot.ensures in
    let s = shown_slot c.in_ok-slot.slot in
    let there : slot_at above p.last.now.name t ≡ Ok found.0 = ap (λ (k : Text). slot_at above k t) (sym c.get-2.ensures.name) ∙ found.1 in
    let is : s ≡ carried p.name.now.name found.0 = found.2 ∙ ap (λ (u : Text). carried u found.0) c.get-3.ensures.name in
    let w = tree_owned c.put_slot.new.document in
    let kept = subst (λ e. Changes (remove_at from w) w (tree_owned c.remove_at.new.self) (Err e)) c.in-Err.ensures.fault c.in-Err.ensures.changes in
    absurd (never-refused from to above target p.last.now.name p.name.now.name t from-is to-is other outside found.0 s there is w no_such_path
    c.in_ok-put_slot.ensures.makes kept.0)
