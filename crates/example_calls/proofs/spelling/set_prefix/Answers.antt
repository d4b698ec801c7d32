-- The decor is that of the key in the slot.
use Rattle.std.proofs.Common.{ap, ◌∙◌}
use Rattle.toml_edit.specs.model.Slots.{changed_at, on_key}
use Rattle.toml_edit.specs.model.Tree.{Decor}
use Rattle.toml_edit.specs.tree.SlotsOf.{slots_of}
use Rattle.example_calls.proofs.SlotLaws.{prefix-at}
use Rattle.example_calls.proofs.spelling.set_prefix.Goals as goal

pub returns-clause-slots : goal.returns-clause-slots
returns-clause-slots c =
    let o = c.args.slot.now in
    c.leaf_decor_mut.ensures.leaves (λ k. record k { leaf = c.set_prefix.new.self })
    ∙ ap (λ (d : Decor). changed_at o.at (on_key (λ k. record k { leaf = d })) (slots_of o.table.now)) c.set_prefix.ensures
    ∙ prefix-at o.table.now o.at c.args.prefix c.leaf_decor_mut.result.now c.leaf_decor_mut.ensures.decor
