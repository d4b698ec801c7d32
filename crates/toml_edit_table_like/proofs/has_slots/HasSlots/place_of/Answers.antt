-- The place of a key, and the keys of a table, apart.
use Rattle.std.proofs.Common.{sym, ap, subst, ◌∙◌}
use Rattle.toml_edit_model.specs.Slots as model
use Rattle.toml_edit_slots.specs.Slots.{place}
use Rattle.toml_edit_table_like.specs.Shown.{shown}
use Rattle.toml_edit_table_like.proofs.ShownLaws.{apart-first, place-shown}
use Rattle.toml_edit_table_like.proofs.has_slots.HasSlots.place_of.Goals as goal

pub returns-clause-there : goal.returns-clause-there
returns-clause-there g c =
    let t = c.args.self.now in
    let k = c.args.key.now in
    c.find.ensures.place ∙ ap (place k) c.as_slots-slots.ensures
    ∙ sym (ap (model.place k) (g.Self.HasSlots.shows t) ∙ place-shown k (g.Self.HasSlots.entries t))

pub returns-clause-apart : goal.returns-clause-apart
returns-clause-apart g c =
    let t = c.args.self.now in
    subst model.AreApart (ap shown c.as_slots-slots.ensures
    ∙ sym (g.Self.HasSlots.shows t)) (apart-first c.as_slots-slots.result.now c.as_slice.ensures.apart)
