-- One slot more is said.
use Rattle.std.proofs.Common.{arith, refl, map}
use Rattle.toml_edit_settings.proofs.SaidLaws.{slot_turn}
use Rattle.toml_edit_model.specs.Text.{one}
use Rattle.toml_edit_settings.specs.SaidView.{sayings}
use Rattle.toml_edit_settings.specs.SettingsText.{rule_said}
use Rattle.toml_edit_settings.proofs.keys.add_rules.Goals as goal

pub slots-preserved : goal.slots-preserved
slots-preserved c =
    slot_turn (map (rule_said c.args.pattern.now)) (λ s. one (rule_said c.args.pattern.now s)) (λ x xs. refl) c.as_slice-entries.result.now c.slots.slot-index c.slot-item.result (omega arith) c.slot-item.is (sayings c.slots.said) _ _ c.in_ok-add_rule.ensures c.slots.invariant
