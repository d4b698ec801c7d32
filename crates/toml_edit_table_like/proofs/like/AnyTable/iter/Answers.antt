-- The items of a table as a list of pairs.
use Rattle.std.proofs.Common.{sym, ap, ◌∙◌}
use Rattle.toml_edit_model.specs.Iterating.{filled_pairs}
use Rattle.toml_edit_table_like.specs.Shown.{shown}
use Rattle.toml_edit_table_like.proofs.like.AnyTable.iter.Goals as goal

pub returns : goal.returns
returns g c =
    let t = c.args.self.now in
    c.from_slots.ensures ∙ ap (λ es. filled_pairs (shown es)) (c.as_slice.ensures.slots ∙ c.as_slots.ensures)
    ∙ sym (ap filled_pairs (g.Self.HasSlots.shows t))
