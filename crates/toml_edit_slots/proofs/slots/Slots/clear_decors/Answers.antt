-- A key without decors.
use Rattle.std.proofs.Common.{sym, ap, subst, ◌∙◌}
use Rattle.toml_edit_model.specs.Keys.{cleared_key}
use Rattle.toml_edit_slots.specs.Slots.{on_key}
use Rattle.toml_edit_slots.specs.SlotIndex.{IsIndexed}
use Rattle.toml_edit_slots.proofs.SlotLaws.{on_key-is, names-set, apart-set}
use Rattle.toml_edit_slots.proofs.slots.Slots.clear_decors.Goals as goal

pub invariant_of-self : goal.invariant_of-self
invariant_of-self g c =
    let d = c.index_mut-slot.result.now in
    let es = c.self.inside.entries.items in
    let same = ap (λ k. k.name) c.clear_key.ensures ∙ ap (λ s. s.key.name) c.index_mut-slot.ensures.value in (
      apart-set es c.args.at d (record { key = c.clear_key.new.key; item = d.item }) same c.self.invariant.0,
      subst (IsIndexed c.self.inside.index) (sym (names-set es c.args.at d (record { key = c.clear_key.new.key; item = d.item }) same))
          c.self.invariant.1,
    )

pub returns : goal.returns
returns g c =
    let d = c.index_mut-slot.result.now in
    on_key-is cleared_key c.self.inside.entries.items c.args.at d c.clear_key.new.key c.index_mut-slot.ensures.value c.clear_key.ensures
    ∙ ap (on_key c.args.at cleared_key) c.self.view_is
