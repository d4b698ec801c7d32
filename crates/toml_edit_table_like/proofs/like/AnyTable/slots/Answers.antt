-- How many slots there are, and their keys, apart.
use Rattle.std.proofs.Common.{length, sym, ap, subst, ◌∙◌}
use Rattle.toml_edit_model.specs.Slots.{AreApart}
use Rattle.toml_edit_table_like.specs.Shown.{shown}
use Rattle.toml_edit_table_like.proofs.ShownLaws.{apart-first, length-shown}
use Rattle.toml_edit_table_like.proofs.like.AnyTable.slots.Goals as goal

pub returns-clause-count : goal.returns-clause-count
returns-clause-count g c =
    let t = c.args.self.now in
    c.len.ensures ∙ ap length c.as_slots-slots.ensures
    ∙ sym (ap length (g.Self.HasSlots.shows t) ∙ length-shown (g.Self.HasSlots.entries t))

pub returns-clause-apart : goal.returns-clause-apart
returns-clause-apart g c =
    let t = c.args.self.now in
    subst AreApart (ap shown c.as_slots-slots.ensures ∙ sym (g.Self.HasSlots.shows t))
    (apart-first c.as_slots-slots.result.now c.as_slice.ensures.apart)
