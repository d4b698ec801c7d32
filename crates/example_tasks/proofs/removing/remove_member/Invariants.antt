-- Nothing is removed until the string is found.
use Rattle.std.proofs.Common.{◌≡◌}
use Rattle.toml_edit.specs.tree.View.{array_view}
use Rattle.example_tasks.proofs.removing.remove_member.Given as goal

abbrev pub invariant-loop-at : goal.invariant-loop-at
invariant-loop-at l = array_view l.array ≡ array_view l.fn.array
