-- The items up to here are counted.
use Rattle.std.proofs.Common.{◌≡◌, ◌≤◌, ◌+◌, drop, length}
use Rattle.toml_edit_model.specs.Iterating.{filled}
use Rattle.toml_edit_model.specs.Lists.{slot_list}
use Rattle.toml_edit_tree.specs.View.{slots_view}
use Rattle.toml_edit_tree.proofs.table.Table.len.Given as goal

abbrev pub invariant-loop-slot : goal.invariant-loop-slot
invariant-loop-slot l =
    record {
      below : l.count ≤ l.slot-index;
      counted : l.count + length (filled (slot_list (slots_view (drop l.slot-index l.slot-items))))
          ≡ length (filled (slot_list (slots_view l.slot-items)));
    }
