-- Slots in order of place.
use Rattle.std.proofs.Common.{sym, ap, subst, ◌∙◌}
use Rattle.toml_edit_model.specs.Order.{is_sorted_by}
use Rattle.toml_edit_slots.specs.Slots.{AreApart, names}
use Rattle.toml_edit_slots.specs.SlotIndex.{MayIndex, IsIndexed}
use Rattle.toml_edit_slots.specs.InPlace.{by_place}
use Rattle.toml_edit_slots.proofs.OrderLaws.{sorted-stays, apart-sorted, texts-sorted}
use Rattle.toml_edit_slots.proofs.slots.Slots.sort_by_place.Goals as goal

pub returns-then-is_in_order-clause-ok : goal.returns-then-is_in_order-clause-ok
returns-then-is_in_order-clause-ok g c =
    sym (sorted-stays c.args.self.now
    (ap (is_sorted_by by_place) (sym (c.deref.ensures.value ∙ c.self.view_is)) ∙ sym c.is_in_order.ensures ∙ c.if-is_in_order.true))

pub index_those-requires-clause-apart : goal.index_those-requires-clause-apart
index_those-requires-clause-apart g c =
    subst AreApart (sym (c.deref-2.ensures.value ∙ c.in_ok-sort_entries.ensures.ok))
    (apart-sorted c.self.inside.entries.items c.self.invariant.0)

pub index_those-requires-clause-named : goal.index_those-requires-clause-named
index_those-requires-clause-named g c =
    subst (λ l. MayIndex c.self.inside.index (names l)) (sym (c.deref-2.ensures.value ∙ c.in_ok-sort_entries.ensures.ok))
    (texts-sorted c.self.inside.index c.self.inside.entries.items c.self.invariant.1)

pub invariant_of-self-2 : goal.invariant_of-self-2
invariant_of-self-2 g c = (
  subst AreApart (sym c.in_ok-sort_entries.ensures.ok) (apart-sorted c.self.inside.entries.items c.self.invariant.0),
  subst (λ l. IsIndexed c.index_those.new.index (names l)) c.deref-2.ensures.value c.index_those.ensures,
)
