-- An item under a copy of a key.
use Rattle.std.proofs.Common.{◌≡◌, Some, None, rules, sym, ap, subst, ◌∙◌, refl, get_or}
use Rattle.toml_edit_model.specs.Slots as model
use Rattle.toml_edit_slots.specs.declared.slots.Slot.{Slot}
use Rattle.toml_edit_slots.specs.Seen.{seen}
use Rattle.toml_edit_slots.specs.SlotIndex.{IsIndexed}
use Rattle.toml_edit_slots.specs.Slots.{place}
use Rattle.toml_edit_slots.proofs.SeenLaws.{lookup-seen, one_seen, put-new-seen, put-seen}
use Rattle.toml_edit_slots.proofs.SlotLaws.{apart-set, lookup_slot-absent, lookup_slot-present, named-at, names-set}
use Rattle.toml_edit_slots.proofs.slots.Slots.insert_formatted.Goals as goal

pub invariant_of-self : goal.invariant_of-self
invariant_of-self g c =
    let es = c.self.inside.entries.items in
    let at = c.in-Some.at in
    let d = c.index_mut-present.result.now in
    let here : place c.get.result.now es ≡ Some at = ap (λ l. place c.get.result.now l) c.self.view_is ∙ sym c.in-Some.ensures.place in
    let same : c.replace.new.dest.key.name ≡ (get_or es at d).key.name =
    ap (λ (s : Slot g.row.T.Denot). s.key.name) c.replace.ensures.after ∙ sym c.get.ensures.name
    ∙ sym (named-at c.get.result.now es at d here) in (
      apart-set es at d c.replace.new.dest same c.self.invariant.0,
      subst (IsIndexed c.self.inside.index) (sym (names-set es at d c.replace.new.dest same)) c.self.invariant.1,
    )

pub returns-in-Some-clause-old : goal.returns-in-Some-clause-old
returns-in-Some-clause-old g c =
    let t = c.args.key.now.name in
    let es = c.args.self.now in
    let named : c.get.result.now ≡ t = c.get.ensures.name ∙ ap (λ k. k.name) c.in-Ok.ensures in
    let here : place t es ≡ Some c.in-Some.at = ap (λ u. place u es) (sym named) ∙ sym c.in-Some.ensures.place in
    rw (lookup-seen t es, lookup_slot-present t es c.in-Some.at c.index_mut-present.result.now here) (search rules)

pub returns-in-Some-clause-slots : goal.returns-in-Some-clause-slots
returns-in-Some-clause-slots g c =
    let t = c.args.key.now.name in
    let es = c.self.inside.entries.items in
    let x = c.args.item in
    let at = c.in-Some.at in
    let named : c.get.result.now ≡ t = c.get.ensures.name ∙ ap (λ k. k.name) c.in-Ok.ensures in
    let here : place t es ≡ Some at = ap (λ l. place t l) c.self.view_is ∙ ap (λ u. place u c.args.self.now) (sym named)
    ∙ sym c.in-Some.ensures.place in
    let new : model.Slot g.row.T.Denot = record { key = c.args.key.now; item = x } in
    let same : new ≡ one_seen c.replace.new.dest =
    sym (ap one_seen c.replace.ensures.after ∙ ap (λ k. record { key = k; item = x }) c.in-Ok.ensures) in
    put-seen t (λ _. new) new es at c.index_mut-present.result.now c.replace.new.dest refl c.self.invariant.0 here same
    ∙ ap (λ l. model.inserted_formatted c.args.key.now x (seen l)) c.self.view_is

pub returns-in-Ok-push-clause-old : goal.returns-in-Ok-push-clause-old
returns-in-Ok-push-clause-old g c =
    let t = c.args.key.now.name in
    let es = c.args.self.now in
    let named : c.get.result.now ≡ t = c.get.ensures.name ∙ ap (λ k. k.name) c.in-Ok.ensures in
    let none : place t es ≡ None = ap (λ u. place u es) (sym named) ∙ sym c.in-None.ensures.place in
    rw (lookup-seen t es, lookup_slot-absent t es none) (search rules)

pub returns-in-Ok-push-clause-slots : goal.returns-in-Ok-push-clause-slots
returns-in-Ok-push-clause-slots g c =
    let es = c.args.self.now in
    let x = c.args.item in
    let k = c.in-Ok.key in
    let none : place k.name es ≡ None = ap (λ u. place u es) (sym c.get.ensures.name) ∙ sym c.in-None.ensures.place in
    ap seen c.in-Ok-push.ensures.slots
    ∙ put-new-seen k.name (λ _. record { key = k; item = x }) (record { key = k; item = x }) es refl none
    ∙ ap (λ y. model.inserted_formatted y x (seen es)) c.in-Ok.ensures
