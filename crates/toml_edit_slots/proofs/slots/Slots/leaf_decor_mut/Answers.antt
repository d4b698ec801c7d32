-- A decor of the key at a place, to be changed.
use Rattle.std.proofs.Common.{◌≡◌, rules, refl, sym, subst, set}
use Rattle.toml_edit_model.specs.Tree.{Key}
use Rattle.toml_edit_slots.specs.Slots.{on_key}
use Rattle.toml_edit_slots.specs.SlotIndex.{IsIndexed}
use Rattle.toml_edit_slots.proofs.SlotLaws.{on_key-set, names-on_key, apart-on_key, read-at}
use Rattle.toml_edit_slots.proofs.slots.Slots.leaf_decor_mut.Goals as goal

pub invariant_of-self-lent : goal.invariant_of-self-lent
invariant_of-self-lent g c w =
    let es = c.self.inside.entries.items in
    let h : Key → Key = λ k. record k { leaf = w } in
    let done : set es c.args.at (record { key = h c.index_mut-slot.result.now.key; item = c.index_mut-slot.result.now.item })
    ≡ on_key c.args.at h es =
    rw (on_key-set h es c.args.at c.index_mut-slot.result.now) (search rules) in
    rw done (
      apart-on_key h (λ k. refl) es c.args.at c.self.invariant.0,
      subst (IsIndexed c.self.inside.index) (sym (names-on_key h (λ k. refl) es c.args.at)) c.self.invariant.1,
    )

pub returns : goal.returns
returns g c = (
  (refl, λ w. rw (on_key-set (λ k. record k { leaf = w }) c.args.self.now c.args.at c.index_mut-slot.result.now) (search rules)),
  record {
    writes_back = tt;
    decor = rw (read-at (λ s. s.key.leaf) c.args.self.now c.args.at c.index_mut-slot.result.now c.requires)
        (search rules);
  },
)
