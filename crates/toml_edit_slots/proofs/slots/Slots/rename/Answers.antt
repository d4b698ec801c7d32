-- Another name for a slot.
use Rattle.std.proofs.Common.{ap, sym, subst, ◌≡◌, ◌∙◌, Some}
use Rattle.toml_edit_slots.specs.Seen.{seen}
use Rattle.toml_edit_slots.specs.Slots.{AreApart, place}
use Rattle.toml_edit_slots.proofs.RenameLaws.{free-new, free-own, left-absent, left-done, left-taken, taken, told-absent, told-done}
use Rattle.toml_edit_slots.proofs.RenameLaws.{told-taken}
use Rattle.toml_edit_slots.proofs.slots.Slots.rename.Goals as goal

pub returns-in_default-clause-told : goal.returns-in_default-clause-told
returns-in_default-clause-told g c = told-absent c.args.from.now c.args.to.now c.args.self.now (sym c.in_default.ensures.place)

pub returns-in_default-clause-slots : goal.returns-in_default-clause-slots
returns-in_default-clause-slots g c = left-absent c.args.from.now c.args.to.now c.args.self.now (sym c.in_default.ensures.place)

pub returns-then-other-at-clause-told : goal.returns-then-other-at-clause-told
returns-then-other-at-clause-told g c =
    let t = c.args.from.now in
    let u = c.args.to.now in
    let es = c.args.self.now in
    told-taken t u es c.in-Some.at (sym c.in-Some.ensures.place)
    (taken t u es c.in-Some.at c.in-Some-find.other (sym c.in-Some.ensures.place) (sym c.in-Some-find.ensures.place) c.if-other-at.true)

pub returns-then-other-at-clause-slots : goal.returns-then-other-at-clause-slots
returns-then-other-at-clause-slots g c =
    let t = c.args.from.now in
    let u = c.args.to.now in
    let es = c.args.self.now in
    left-taken t u es
    (taken t u es c.in-Some.at c.in-Some-find.other (sym c.in-Some.ensures.place) (sym c.in-Some-find.ensures.place) c.if-other-at.true)

pub returns-in_ok-respell_at-in-Some-find-clause-told :
    goal.returns-in_ok-respell_at-in-Some-find-clause-told
returns-in_ok-respell_at-in-Some-find-clause-told g c =
    let t = c.args.from.now in
    let u = c.args.to.now in
    let es = c.args.self.now in
    let at : place t es ≡ Some c.in-Some.at = sym c.in-Some.ensures.place in
    told-done t u es c.in-Some.at at (free-own t u es c.in-Some.at at (sym c.in-Some-find.ensures.place ∙ ap Some c.if-other-at.false))

pub returns-in_ok-respell_at-in-Some-find-clause-slots :
    goal.returns-in_ok-respell_at-in-Some-find-clause-slots
returns-in_ok-respell_at-in-Some-find-clause-slots g c =
    let t = c.args.from.now in
    let u = c.args.to.now in
    let es = c.args.self.now in
    let at : place t es ≡ Some c.in-Some.at = sym c.in-Some.ensures.place in
    ap seen c.in_ok-respell_at-in-Some-find.ensures.ok
    ∙ left-done t u es c.in-Some.at (subst AreApart c.self.view_is c.self.invariant.0) at
    (free-own t u es c.in-Some.at at (sym c.in-Some-find.ensures.place ∙ ap Some c.if-other-at.false))

pub returns-in_ok-rename_at-in-None-clause-told : goal.returns-in_ok-rename_at-in-None-clause-told
returns-in_ok-rename_at-in-None-clause-told g c =
    let t = c.args.from.now in
    let u = c.args.to.now in
    let es = c.args.self.now in
    told-done t u es c.in-Some.at (sym c.in-Some.ensures.place) (free-new t u es (sym c.in-None.ensures.place))

pub returns-in_ok-rename_at-in-None-clause-slots : goal.returns-in_ok-rename_at-in-None-clause-slots
returns-in_ok-rename_at-in-None-clause-slots g c =
    let t = c.args.from.now in
    let u = c.args.to.now in
    let es = c.args.self.now in
    ap seen c.in_ok-rename_at-in-None.ensures.ok
    ∙ left-done t u es c.in-Some.at (subst AreApart c.self.view_is c.self.invariant.0) (sym c.in-Some.ensures.place)
    (free-new t u es (sym c.in-None.ensures.place))
