-- The pairs up to here are in the table.
use Rattle.std.proofs.Common.{◌≡◌, map}
use Rattle.toml_edit_model.specs.Conversions.{new_inline}
use Rattle.toml_edit_tree.specs.InlineSlots.{inline_fields, slots_of_pairs}
use Rattle.toml_edit_tree.specs.SlotsOf.{inline_slots_of}
use Rattle.toml_edit_tree.specs.View.{value_view}
use Rattle.toml_edit_tree.proofs.value.Value.pairs.Given as goal

abbrev pub invariant-loop-name : goal.invariant-loop-name
invariant-loop-name l =
    (inline_slots_of l.table ≡ slots_of_pairs (map (λ p. (p.0.now, value_view p.1)) l.yielded)) × (inline_fields l.table ≡ new_inline)
