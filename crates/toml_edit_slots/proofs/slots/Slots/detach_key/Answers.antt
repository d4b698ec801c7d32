-- A key that does not keep the source.
use Rattle.std.proofs.Common.{◌≡◌, ℕ, List, get_or, set, sym, ap, subst, ◌∙◌}
use Rattle.std.proofs.lemmas.List.{set-get_or}
use Rattle.toml_edit_model.specs.Tree.{Key}
use Rattle.toml_edit_slots.specs.declared.slots.Slot.{Slot}
use Rattle.toml_edit_slots.specs.Slots.{AreApart, names}
use Rattle.toml_edit_slots.specs.SlotIndex.{IsIndexed}
use Rattle.toml_edit_slots.proofs.slots.Slots.detach_key.Goals as goal

kept : {T : Type 0} (es : List (Slot T)) (at : ℕ) (s : Slot T) (key : Key) → key ≡ s.key → s ≡ get_or es at s
    → set es at (record { key = key; item = s.item }) ≡ es
kept es at s key same is = ap (λ k. set es at (record { key = k; item = s.item })) same ∙ ap (set es at) is ∙ set-get_or es at s

pub invariant_of-self : goal.invariant_of-self
invariant_of-self g c =
    let es = c.self.inside.entries.items in
    let same = kept es c.args.at c.index_mut-slot.result.now c.detach.new.self c.detach.ensures c.index_mut-slot.ensures.value in
    subst (λ l. AreApart l × IsIndexed c.self.inside.index (names l)) (sym same) c.self.invariant

pub returns : goal.returns
returns g c =
    kept c.self.inside.entries.items c.args.at c.index_mut-slot.result.now c.detach.new.self c.detach.ensures c.index_mut-slot.ensures.value
    ∙ c.self.view_is
