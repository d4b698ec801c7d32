-- The items or slots are those of what is done, and the events those of what is left. Each call has fewer events, or does less with them.
use Rattle.std.proofs.Common.{ℕ, ◌+◌, ◌*◌, ◌≤◌, List, length}
use Rattle.toml_edit_model.specs.Syntax.{Elements, Pairs}
use Rattle.toml_edit_syntax.specs.declared.event.Event.{Event}
use Rattle.toml_edit_parser.specs.ValueRead.{AreIn}
use Rattle.toml_edit_tree.specs.View.{items_view, slots_view}
use Rattle.toml_edit_parser.proofs.ElementsLaws as elements
use Rattle.toml_edit_parser.proofs.PairsLaws as pairs
use Rattle.toml_edit_parser.proofs.+read.Given as goal
use Rattle.toml_edit_model.specs.OwnedForm.{ItemsFit, SlotsFit}

abbrev pub invariant-array::read_elements-elements : goal.invariant-array::read_elements-elements
invariant-array::read_elements-elements l =
    record {
      spans : AreIn l.reader.source.now l.rest;
      fits : ItemsFit l.reader.source.now (items_view l.values.items);
      fewer : length l.rest ≤ length l.fn.events;
      progress : (es : Elements) (start level : ℕ) (more : List Event) → elements.AreBefore l.reader.source.now es start level more l.events
          → elements.Left l.reader.source.now es start level more l.rest l.values.items;
    }

abbrev pub decreases-array::read_elements-elements : goal.decreases-array::read_elements-elements
decreases-array::read_elements-elements l = length l.rest

abbrev pub decreases-value::read_value : goal.decreases-value::read_value
decreases-value::read_value l = 4 * length l.events.now

abbrev pub decreases-value::read_item : goal.decreases-value::read_item
decreases-value::read_item l = 4 * length l.events.now + 2

abbrev pub decreases-value::read_list : goal.decreases-value::read_list
decreases-value::read_list l = 4 * length l.events.now + 1

abbrev pub decreases-array::read_array : goal.decreases-array::read_array
decreases-array::read_array l = 4 * length l.events.now + 3

abbrev pub decreases-array::read_elements : goal.decreases-array::read_elements
decreases-array::read_elements l = 4 * length l.events.now + 2

abbrev pub decreases-array::read_element : goal.decreases-array::read_element
decreases-array::read_element l = 4 * length l.events.now + 1

abbrev pub invariant-inline_table::read_pairs-pairs : goal.invariant-inline_table::read_pairs-pairs
invariant-inline_table::read_pairs-pairs l =
    record {
      spans : AreIn l.reader.source.now l.rest;
      fits : SlotsFit l.reader.source.now (slots_view l.slots);
      fewer : length l.rest ≤ length l.fn.events;
      progress : (ps : Pairs) (start level : ℕ) (more : List Event) → pairs.AreBefore l.reader.source.now ps start level more l.events
          → pairs.Left l.reader.source.now ps start level more l.rest (slots_view l.slots);
    }

abbrev pub decreases-inline_table::read_pairs-pairs : goal.decreases-inline_table::read_pairs-pairs
decreases-inline_table::read_pairs-pairs l = length l.rest

abbrev pub decreases-inline_table::read_inline : goal.decreases-inline_table::read_inline
decreases-inline_table::read_inline l = 4 * length l.events.now + 3

abbrev pub decreases-inline_table::read_pairs : goal.decreases-inline_table::read_pairs
decreases-inline_table::read_pairs l = 4 * length l.events.now + 2

abbrev pub decreases-inline_table::read_pair : goal.decreases-inline_table::read_pair
decreases-inline_table::read_pair l = 4 * length l.events.now + 1
