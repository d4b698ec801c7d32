-- A stable sort by place.
use Rattle.std.proofs.Common.{rules}
use Rattle.toml_edit_laws.specs.PlaceOrder.{key_place}
use Rattle.toml_edit_laws.proofs.building.PlaceSorts.{sorted_by_number}
use Rattle.toml_edit_slots.proofs.order.sort_entries.Goals as goal

pub returns-clause-ok : goal.returns-clause-ok
returns-clause-ok g c =
    sorted_by_number (λ s. key_place s.key) _ _ c.in_ok-sort_by_key.ensures.sorted c.in_ok-sort_by_key.ensures.stable
    (λ a r f k. search rules)
