-- The slots in another order.
use Rattle.std.proofs.Common.{arith, sym, subst, ◌∙◌, IsPermutation}
use Rattle.std.proofs.lemmas.List.Sorted.{IsPermutation-map}
use Rattle.toml_edit_laws.proofs.slots.Sorts.{sorts-seen}
use Rattle.toml_edit_slots.specs.Seen.{seen, slot_seen}
use Rattle.toml_edit_slots.specs.Closures.{SortsAs}
use Rattle.toml_edit_slots.specs.SlotIndex.{IsIndexed, MayIndex}
use Rattle.toml_edit_slots.specs.Slots.{AreApart, names}
use Rattle.toml_edit_slots.proofs.IndexLaws.{length-names}
use Rattle.toml_edit_slots.proofs.KeptLaws.{apart-permuted, length-permuted, may_index, place-permuted}
use Rattle.toml_edit_slots.proofs.SlotLaws.{on_ok}
use Rattle.toml_edit_slots.proofs.slots.Slots.sort_by.Goals as goal

pub index_those-requires-clause-apart : goal.index_those-requires-clause-apart
index_those-requires-clause-apart g c =
    subst AreApart (sym c.deref.ensures.value) (apart-permuted c.self.inside.entries.items c.sort_by-sorted.new.self.items
    c.sort_by-sorted.ensures.permutation c.self.invariant.0)

pub index_those-requires-clause-named : goal.index_those-requires-clause-named
index_those-requires-clause-named g c =
    let es = c.self.inside.entries.items in
    let fs = c.sort_by-sorted.new.self.items in
    let same = c.sort_by-sorted.ensures.permutation in
    subst (λ l. MayIndex c.self.inside.index (names l)) (sym c.deref.ensures.value)
    (may_index c.self.inside.index (names es) (names fs) c.self.invariant.1
    (omega (arith, length-names es, length-names fs, length-permuted es fs same))
    (λ t there. sym (place-permuted es fs same t) ∙ there))

pub invariant_of-self : goal.invariant_of-self
invariant_of-self g c = (
  apart-permuted c.self.inside.entries.items c.sort_by-sorted.new.self.items c.sort_by-sorted.ensures.permutation c.self.invariant.0,
  subst (λ l. IsIndexed c.index_those.new.index (names l)) c.deref.ensures.value c.index_those.ensures,
)

pub returns-clause-permutation : goal.returns-clause-permutation
returns-clause-permutation g c =
    subst (λ l. IsPermutation (seen l) (seen c.sort_by-sorted.new.self.items)) c.self.view_is
    (IsPermutation-map (slot_seen (λ x. x)) c.self.inside.entries.items c.sort_by-sorted.new.self.items
    c.sort_by-sorted.ensures.permutation)

pub returns-clause-sorted : goal.returns-clause-sorted
returns-clause-sorted g c =
    let es = c.self.inside.entries.items in
    let fs = c.sort_by-sorted.new.self.items in
    on_ok c.sort_by-sorted.result
    (λ p. subst (λ l. SortsAs g.F.FnMut c.args.compare (seen l) (seen fs)) c.self.view_is
    (λ lt by. sorts-seen (slot_seen (λ x. x)) lt es fs (record {
      permutation = c.sort_by-sorted.ensures.permutation;
      stable = λ o. c.sort_by-sorted.ensures.stable _ o by;
      sorted = λ o. p _ o by;
    })))
    c.sort_by-sorted.ensures.sorted
