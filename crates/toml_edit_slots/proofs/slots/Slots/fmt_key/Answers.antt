-- A key with its default spelling.
use Rattle.std.proofs.Common.{◌≡◌, rules, refl, sym, subst, set}
use Rattle.toml_edit_model.specs.Keys.{reset_key}
use Rattle.toml_edit_slots.specs.Slots.{on_key}
use Rattle.toml_edit_slots.specs.SlotIndex.{IsIndexed}
use Rattle.toml_edit_slots.proofs.SlotLaws.{on_key-set, names-on_key, apart-on_key}
use Rattle.toml_edit_slots.proofs.slots.Slots.fmt_key.Goals as goal

pub invariant_of-self : goal.invariant_of-self
invariant_of-self g c =
    let es = c.self.inside.entries.items in
    let done : set es c.args.at (record { key = c.fmt.new.self; item = c.index_mut-slot.result.now.item }) ≡ on_key c.args.at reset_key es =
    rw (on_key-set reset_key es c.args.at c.index_mut-slot.result.now) (search rules) in
    rw done (
      apart-on_key reset_key (λ k. refl) es c.args.at c.self.invariant.0,
      subst (IsIndexed c.self.inside.index) (sym (names-on_key reset_key (λ k. refl) es c.args.at)) c.self.invariant.1,
    )

pub returns : goal.returns
returns g c = rw (on_key-set reset_key c.args.self.now c.args.at c.index_mut-slot.result.now) (search rules)
