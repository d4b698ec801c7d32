-- A place among the slots.
use Rattle.std.proofs.Common.{length, nat_lt, sym, ap, ◌∙◌}
use Rattle.toml_edit_table_like.proofs.ShownLaws.{length-shown}
use Rattle.toml_edit_table_like.proofs.has_slots.HasSlots.has_place.Goals as goal

pub returns-clause-there : goal.returns-clause-there
returns-clause-there g c =
    let t = c.args.self.now in
    ap (nat_lt c.args.at) (c.len.ensures ∙ ap length c.as_slots.ensures
    ∙ sym (ap length (g.Self.HasSlots.shows t) ∙ length-shown (g.Self.HasSlots.entries t)))
