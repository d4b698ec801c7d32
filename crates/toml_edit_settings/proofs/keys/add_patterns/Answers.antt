-- One slot more is said.
use Rattle.std.proofs.Common.{arith, refl}
use Rattle.std.specs.Prelude.{flat_map}
use Rattle.toml_edit_settings.proofs.SaidLaws.{slot_turn}
use Rattle.toml_edit_settings.specs.SaidView.{sayings}
use Rattle.toml_edit_settings.specs.SettingsText.{rules_said}
use Rattle.toml_edit_settings.proofs.keys.add_patterns.Goals as goal

pub slots-preserved : goal.slots-preserved
slots-preserved c =
    slot_turn (flat_map rules_said) rules_said (λ x xs. refl) c.as_slice-entries.result.now c.slots.slot-index c.slot-item.result (omega arith) c.slot-item.is (sayings c.slots.said) _ _ c.in_ok-add_pattern.ensures c.slots.invariant
