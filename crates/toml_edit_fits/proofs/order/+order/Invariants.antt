-- The marks up to here lead over what is to come to the same end.
use Rattle.std.proofs.Common.{◌≡◌, drop}
use Rattle.std.specs.Prelude.{slice_get}
use Rattle.toml_edit_tree.specs.View.{items_view, slots_view}
use Rattle.toml_edit_fits.specs.EarlyTests.{early_items, early_slots, past_items, past_slots}
use Rattle.toml_edit_fits.proofs.order.+order.Given as goal

abbrev pub invariant-order_slots-slots : goal.invariant-order_slots-slots
invariant-order_slots-slots g l =
    record {
      first : slice_get (early_slots l.low l.last (slots_view (drop l.slot-index l.entries))) 0
          ≡ slice_get (early_slots l.low l.initial.last (slots_view l.entries)) 0;
      end : past_slots l.last (slots_view (drop l.slot-index l.entries)) ≡ past_slots l.initial.last (slots_view l.entries);
    }

abbrev pub invariant-order_items-items : goal.invariant-order_items-items
invariant-order_items-items g l =
    record {
      first : slice_get (early_items l.low l.last l.number (items_view (drop l.number l.item-items))) 0
          ≡ slice_get (early_items l.low l.initial.last 0 (items_view l.item-items)) 0;
      end : past_items l.last (items_view (drop l.number l.item-items)) ≡ past_items l.initial.last (items_view l.item-items);
    }
