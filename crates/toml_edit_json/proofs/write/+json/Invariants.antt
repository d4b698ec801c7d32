-- The text up to here, and that of the items or slots to come, are the whole text.
use Rattle.std.proofs.Common.{◌≡◌, List, ℕ, false, ◌++◌, drop}
use Rattle.std.specs.Fmt.{WritesInCalls}
use Rattle.toml_edit_json.specs.Parts.{items_text, slots_text}
use Rattle.toml_edit_tree.specs.View.{items_view, slots_view}
use Rattle.toml_edit_json.proofs.write.+json.Given as goal

abbrev pub invariant-put_items-items : goal.invariant-put_items-items
invariant-put_items-items g l =
    (done : List ℕ) × WritesInCalls g.S.Sink.puts l.initial.out done l.out
    × (done ++ items_text l.after_value (items_view (drop l.item-index l.item-items))
    ≡ items_text false (items_view l.item-items))

abbrev pub invariant-put_slots-slots : goal.invariant-put_slots-slots
invariant-put_slots-slots g l =
    (done : List ℕ) × WritesInCalls g.S.Sink.puts l.initial.out done l.out
    × (done ++ slots_text l.after_value (slots_view (drop l.slot-index l.entries))
    ≡ slots_text false (slots_view l.entries))
