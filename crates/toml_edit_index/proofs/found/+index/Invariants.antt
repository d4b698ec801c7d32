-- What adds the entries to come to what is here, adds all of them to what was there.
use Rattle.std.proofs.Common.{◌≡◌, drop, length}
use Rattle.toml_edit_tree.specs.View.{items_view, slots_view}
use Rattle.toml_edit_index.specs.Indexed.{entries_of_elements, entries_of_slots}
use Rattle.toml_edit_index.specs.IndexSteps.{Adds}
use Rattle.toml_edit_index.specs.declared.found.Found.{Found}
use Rattle.toml_edit_index.proofs.found.+index.Given as goal

abbrev pub invariant-put_slots-slots : goal.invariant-put_slots-slots
invariant-put_slots-slots l = record {
  lines : l.index.lines ≡ l.initial.index.lines;
  rest : (final : Found)
      → Adds (entries_of_slots l.parent (length l.index.nodes.items) (slots_view (drop l.slot-index l.entries))) l.index final
      → Adds (entries_of_slots l.parent (length l.initial.index.nodes.items) (slots_view l.entries)) l.initial.index final;
}

abbrev pub invariant-put_elements-items : goal.invariant-put_elements-items
invariant-put_elements-items l = record {
  lines : l.index.lines ≡ l.initial.index.lines;
  rest : (final : Found)
      → Adds (entries_of_elements l.parent (length l.index.nodes.items) (items_view (drop l.item-index l.item-items))) l.index final
      → Adds (entries_of_elements l.parent (length l.initial.index.nodes.items) (items_view l.item-items)) l.initial.index final;
}
