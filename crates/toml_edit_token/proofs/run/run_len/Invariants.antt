use Rattle.std.proofs.Common.{◌+◌, ◌-◌, ◌≤◌, length}
use Rattle.toml_edit_token.specs.Classes.{class_test}
use Rattle.toml_edit_token.specs.Lanes.{PassBetween}
use Rattle.toml_edit_token.proofs.run.run_len.Given as goal

abbrev pub invariant-lanes : goal.invariant-lanes
invariant-lanes l = (l.run ≤ 16) × (l.at ≤ length l.bytes) × PassBetween (class_test l.class) l.bytes 0 l.at

abbrev pub decreases-lanes : goal.decreases-lanes
decreases-lanes l = (length l.bytes - l.at) + l.run

abbrev pub invariant-loop-at : goal.invariant-loop-at
invariant-loop-at l = (l.at ≤ length l.bytes) × PassBetween (class_test l.class) l.bytes 0 l.at

abbrev pub decreases-loop-at : goal.decreases-loop-at
decreases-loop-at l = length l.bytes - l.at
