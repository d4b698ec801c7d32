-- An item under a name.
use Rattle.std.proofs.Common.{◌≡◌, rules, sym, ap, subst, ◌∙◌, set}
use Rattle.toml_edit_slots.specs.Slots.{AreApart, put}
use Rattle.toml_edit_slots.specs.Seen.{seen}
use Rattle.toml_edit_slots.specs.SlotIndex.{IsIndexed}
use Rattle.toml_edit_slots.proofs.SlotLaws.{lookup_slot-absent, lookup_slot-present, put-absent, put-present, names-put, apart-put}
use Rattle.toml_edit_slots.proofs.SeenLaws.{inserted-seen}
use Rattle.toml_edit_slots.proofs.slots.Slots.insert.Goals as goal

pub invariant_of-self : goal.invariant_of-self
invariant_of-self g c =
    let t = c.args.text.now in
    let es = c.self.inside.entries.items in
    let done : set es c.in-Some.at (record { key = c.fmt.new.self; item = c.replace.new.dest }) ≡ put t c.args.item es =
    rw (put-present t es c.in-Some.at c.index_mut-slot.result.now c.args.item (rw c.self.view_is (sym c.in-Some.ensures.place)))
    (search rules) in
    rw done (
      apart-put t es c.args.item c.self.invariant.0,
      subst (IsIndexed c.self.inside.index) (sym (names-put t es c.in-Some.at c.args.item
          (rw c.self.view_is (sym c.in-Some.ensures.place)))) c.self.invariant.1,
    )

pub returns-in-Some-clause-old : goal.returns-in-Some-clause-old
returns-in-Some-clause-old g c =
    rw (lookup_slot-present c.args.text.now c.args.self.now c.in-Some.at c.index_mut-slot.result.now (sym c.in-Some.ensures.place))
    (search rules)

pub returns-in-Some-clause-slots : goal.returns-in-Some-clause-slots
returns-in-Some-clause-slots g c =
    rw (put-present c.args.text.now c.args.self.now c.in-Some.at c.index_mut-slot.result.now c.args.item (sym c.in-Some.ensures.place))
    (search rules)

pub returns-in-Ok-push-clause-old : goal.returns-in-Ok-push-clause-old
returns-in-Ok-push-clause-old g c = rw (lookup_slot-absent c.args.text.now c.args.self.now (sym c.in-None.ensures.place)) (search rules)

pub returns-in-Ok-push-clause-slots : goal.returns-in-Ok-push-clause-slots
returns-in-Ok-push-clause-slots g c =
    rw (put-absent c.args.text.now c.args.self.now c.args.item (sym c.in-None.ensures.place)) (search rules)

pub returns-in-Some-clause-seen : goal.returns-in-Some-clause-seen
returns-in-Some-clause-seen g c =
    ap seen (returns-in-Some-clause-slots g c) ∙ inserted-seen c.args.text.now c.args.item c.args.self.now
    (subst AreApart c.self.view_is c.self.invariant.0)

pub returns-in-Ok-push-clause-seen : goal.returns-in-Ok-push-clause-seen
returns-in-Ok-push-clause-seen g c =
    ap seen (returns-in-Ok-push-clause-slots g c) ∙ inserted-seen c.args.text.now c.args.item c.args.self.now
    (subst AreApart c.self.view_is c.self.invariant.0)
