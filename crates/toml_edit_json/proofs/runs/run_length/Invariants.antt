use Rattle.std.proofs.Common.{◌≡◌, ◌-◌, ◌<◌, ◌≤◌, ℕ, true, get_or, length}
use Rattle.toml_edit_json.specs.Texts as spec
use Rattle.toml_edit_json.proofs.runs.run_length.Given as goal

abbrev pub invariant-loop-at : goal.invariant-loop-at
invariant-loop-at l =
    (l.at ≤ length l.bytes) × ((k : ℕ) → k < l.at → spec.is_kept l.form (get_or l.bytes k 0) ≡ true)

abbrev pub decreases-loop-at : goal.decreases-loop-at
decreases-loop-at l = length l.bytes - l.at
