-- The items up to here are counted.
use Rattle.std.proofs.Common.{◌≡◌, ◌≤◌, ◌+◌, drop, length}
use Rattle.toml_edit_model.specs.Iterating.{filled}
use Rattle.toml_edit_table_like.specs.Shown.{shown}
use Rattle.toml_edit_table_like.proofs.find.filled_len.Given as goal

abbrev pub invariant-loop-slot : goal.invariant-loop-slot
invariant-loop-slot l =
    record {
      below : l.count ≤ l.slot-index;
      counted : l.count + length (filled (shown (drop l.slot-index l.slot-items))) ≡ length (filled (shown l.slot-items));
    }
