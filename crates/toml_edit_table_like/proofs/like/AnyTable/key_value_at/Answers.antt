-- The slot at a place.
use Rattle.std.proofs.Common.{slice_get, sym, ap, ◌∙◌}
use Rattle.toml_edit_table_like.specs.Shown.{shown}
use Rattle.toml_edit_table_like.proofs.FoundLaws.{slot-read}
use Rattle.toml_edit_table_like.proofs.like.AnyTable.key_value_at.Goals as goal

pub returns : goal.returns
returns g c =
    let t = c.args.self.now in
    slot-read c.as_slots.result.now c.args.at c.key_value_at.result c.key_value_at.ensures
    ∙ ap (λ l. slice_get l c.args.at) (ap shown c.as_slots.ensures ∙ sym (g.Self.HasSlots.shows t))
