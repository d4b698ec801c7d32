-- They are in order where those that are left are, from the place of the last one on.
use Rattle.std.proofs.Common.{◌≡◌, drop}
use Rattle.toml_edit_model.specs.Order.{is_sorted_by}
use Rattle.toml_edit_slots.specs.InPlace.{by_place}
use Rattle.toml_edit_slots.proofs.OrderLaws.{starts_from}
use Rattle.toml_edit_slots.proofs.order.is_in_order.Given as goal

abbrev pub invariant-loop-slot : goal.invariant-loop-slot
invariant-loop-slot g l = is_sorted_by by_place l.fn.entries ≡ starts_from l.last (drop l.slot-index l.entries)
