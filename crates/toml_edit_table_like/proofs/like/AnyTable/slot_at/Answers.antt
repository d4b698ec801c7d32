-- The slot at a place.
use Rattle.std.proofs.Common.{length, refl, ap, subst, ◌∙◌, ◌<◌}
use Rattle.toml_edit_table_like.proofs.ShownLaws.{length-shown}
use Rattle.toml_edit_table_like.proofs.SlotLaws.{slot_of}
use Rattle.toml_edit_table_like.proofs.like.AnyTable.slot_at.Goals as goal

pub invariant_of-result : goal.invariant_of-result
invariant_of-result g c =
    let t = c.args.self.now in
    record {
      within = subst (λ n. c.args.at < n) (ap length (g.Self.HasSlots.shows t)
          ∙ length-shown (g.Self.HasSlots.entries t)) c.requires;
    }

pub returns : goal.returns
returns g c = record { same_table = refl; slot = slot_of _; place = refl }
