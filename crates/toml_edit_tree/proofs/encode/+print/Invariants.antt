-- The text up to here, and that of the items or pairs to come, are the whole text.
use Rattle.std.proofs.Common.{◌≡◌, List, ℕ, true, ◌++◌, drop}
use Rattle.std.specs.Fmt.{WritesInCalls}
use Rattle.std.specs.Option.{option_copied}
use Rattle.toml_edit_model.specs.Print.{inside_lines}
use Rattle.toml_edit_repr.specs.Modes.{mode_of}
use Rattle.toml_edit_tree.specs.Printing.{keys_on}
use Rattle.toml_edit_tree.specs.View.{items_view, slots_view}
use Rattle.toml_edit_tree.proofs.encode.+print.Given as goal
use Rattle.toml_edit_laws.specs.PrintByVisits.{last_shown, pairs_shown, written_items}

abbrev pub invariant-put_items-items : goal.invariant-put_items-items
invariant-put_items-items g l =
    (done : List ℕ) × WritesInCalls g.S.Sink.puts l.initial.out done l.out
    × (done ++ written_items (mode_of l.mode) l.comma l.is_first (items_view (drop l.item-index l.item-items))
    ≡ written_items (mode_of l.mode) l.comma true (items_view l.item-items))

abbrev pub invariant-put_pairs-slots : goal.invariant-put_pairs-slots
invariant-put_pairs-slots g l =
    record {
      last : last_shown (option_copied l.last) (inside_lines (mode_of l.mode) (slots_view (drop l.slot-index l.entries)) (keys_on l.path))
          ≡ last_shown (option_copied l.initial.last) (inside_lines (mode_of l.mode) (slots_view l.entries) (keys_on l.path));
      puts : (done : List ℕ) × WritesInCalls g.S.Sink.puts l.initial.out done l.out
          × (done ++ pairs_shown (mode_of l.mode) (option_copied l.last)
          (inside_lines (mode_of l.mode) (slots_view (drop l.slot-index l.entries)) (keys_on l.path))
          ≡ pairs_shown (mode_of l.mode) (option_copied l.initial.last)
          (inside_lines (mode_of l.mode) (slots_view l.entries) (keys_on l.path)));
    }
