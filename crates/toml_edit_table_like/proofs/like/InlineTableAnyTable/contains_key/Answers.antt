-- A value is found where the slot of the key holds one.
use Rattle.std.proofs.Common.{is_some, option_map, sym, ap, ◌∙◌}
use Rattle.toml_edit_model.specs.Slots as model
use Rattle.toml_edit_model.specs.Tree.{Node}
use Rattle.toml_edit_tree.specs.SlotsOf.{inline_slots_of}
use Rattle.toml_edit_table_like.proofs.FoundLaws.{value-filled}
use Rattle.toml_edit_table_like.proofs.like.InlineTableAnyTable.contains_key.Goals as goal

pub returns-in-Some : goal.returns-in-Some
returns-in-Some c =
    record {
      found = c.is_value.ensures ∙ sym (value-filled c.args.key.now (inline_slots_of c.args.self.now) _ c.in-Some.ensures.apart
          c.in-Some.ensures.slot);
      there = λ _. ap (λ o. is_some (option_map (λ (s : model.Slot Node). s.item) o)) (sym c.in-Some.ensures.slot);
    }

pub returns-in-None : goal.returns-in-None
returns-in-None c =
    record {
      found = sym (value-filled c.args.key.now (inline_slots_of c.args.self.now) _ c.in-None.ensures.apart c.in-None.ensures.slot);
      there = λ yes. absurd (let f = yes in cc);
    }
