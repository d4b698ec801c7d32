-- The slots that are kept.
use Rattle.std.proofs.Common.{arith, sym, subst}
use Rattle.toml_edit_laws.proofs.slots.Retains.{retains-seen}
use Rattle.toml_edit_model.specs.Retaining.{RetainsBy}
use Rattle.toml_edit_slots.specs.declared.slots.Slot.{Slot}
use Rattle.toml_edit_slots.specs.Closures.{SaysOfSlot}
use Rattle.toml_edit_slots.specs.Seen.{seen, slot_seen}
use Rattle.toml_edit_slots.specs.SlotIndex.{IsIndexed, MayIndex}
use Rattle.toml_edit_slots.specs.Slots.{AreApart, names}
use Rattle.toml_edit_slots.proofs.IndexLaws.{length-names}
use Rattle.toml_edit_slots.proofs.KeptLaws.{apart-kept, length-kept, may_index, place-kept}
use Rattle.toml_edit_slots.proofs.slots.Slots.retain.Goals as goal

pub index_those-requires-clause-apart : goal.index_those-requires-clause-apart
index_those-requires-clause-apart g c =
    subst AreApart (sym c.deref.ensures.value) (apart-kept (λ s. SaysOfSlot g.F.Fn c.args.keep (slot_seen (λ x. x) s))
    c.self.inside.entries.items c.retain_entries.new.entries.items c.retain_entries.ensures c.self.invariant.0)

pub index_those-requires-clause-named : goal.index_those-requires-clause-named
index_those-requires-clause-named g c =
    let es = c.self.inside.entries.items in
    let fs = c.retain_entries.new.entries.items in
    let says = λ (s : Slot g.row.T.Denot). SaysOfSlot g.F.Fn c.args.keep (slot_seen (λ x. x) s) in
    subst (λ l. MayIndex c.self.inside.index (names l)) (sym c.deref.ensures.value)
    (may_index c.self.inside.index (names es) (names fs) c.self.invariant.1
    (omega (arith, length-names es, length-names fs, length-kept says es fs c.retain_entries.ensures))
    (λ t. place-kept says t es fs c.retain_entries.ensures))

pub invariant_of-self : goal.invariant_of-self
invariant_of-self g c = (
  apart-kept (λ s. SaysOfSlot g.F.Fn c.args.keep (slot_seen (λ x. x) s)) c.self.inside.entries.items c.retain_entries.new.entries.items
      c.retain_entries.ensures c.self.invariant.0,
  subst (λ l. IsIndexed c.index_those.new.index (names l)) c.deref.ensures.value c.index_those.ensures,
)

pub returns : goal.returns
returns g c =
    subst (λ l. RetainsBy (SaysOfSlot g.F.Fn c.args.keep) (seen l) (seen c.retain_entries.new.entries.items)) c.self.view_is
    (retains-seen (slot_seen (λ x. x)) (SaysOfSlot g.F.Fn c.args.keep) c.self.inside.entries.items c.retain_entries.new.entries.items
    c.retain_entries.ensures)
