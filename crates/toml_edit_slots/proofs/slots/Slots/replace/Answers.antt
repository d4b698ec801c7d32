-- A slot in the place of another.
use Rattle.std.proofs.Common.{◌≡◌, Some, sym, ap, subst, ◌∙◌, rules, arith, length, slice_get, vec_len}
use Rattle.std.proofs.lemmas.Option.{slice_get-get_or}
use Rattle.toml_edit_slots.specs.Slots.{place}
use Rattle.toml_edit_slots.specs.SlotIndex.{IsIndexed}
use Rattle.toml_edit_slots.proofs.SlotLaws.{place-within, names-set, apart-set}
use Rattle.toml_edit_slots.proofs.OrderLaws.{name-at, replaced-set}
use Rattle.toml_edit_slots.proofs.slots.Slots.replace.Goals as goal

pub index_mut-requires : goal.index_mut-requires
index_mut-requires g c =
    let within = place-within c.args.slot.key.name c.self.inside.entries.items c.args.at (ap (place c.args.slot.key.name) c.self.view_is
    ∙ c.requires) in
    let v = c.self.inside.entries in
    let len : vec_len v ≡ length v.items = omega (arith, v.ok.0) in
    omega (arith, within, len)

pub invariant_of-self : goal.invariant_of-self
invariant_of-self g c =
    let es = c.self.inside.entries.items in
    let d = c.args.slot in
    let same = name-at c.args.slot.key.name es c.args.at d (ap (place c.args.slot.key.name) c.self.view_is ∙ c.requires) in
    rw c.replace.ensures.after (
      apart-set es c.args.at d c.args.slot same c.self.invariant.0,
      subst (IsIndexed c.self.inside.index) (sym (names-set es c.args.at d c.args.slot same)) c.self.invariant.1,
    )

pub returns-clause-slot : goal.returns-clause-slot
returns-clause-slot g c =
    let es = c.self.inside.entries.items in
    let within = place-within c.args.slot.key.name es c.args.at (ap (place c.args.slot.key.name) c.self.view_is ∙ c.requires) in
    ap Some (c.replace.ensures.value ∙ c.index_mut.ensures.value)
    ∙ sym (slice_get-get_or es c.args.at c.index_mut.result.now within)
    ∙ ap (λ l. slice_get l c.args.at) c.self.view_is

pub returns-clause-slots : goal.returns-clause-slots
returns-clause-slots g c = rw (replaced-set c.args.slot c.args.self.now c.args.at c.requires) (search rules)
