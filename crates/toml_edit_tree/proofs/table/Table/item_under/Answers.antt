-- The item of a key's slot, by the slots of its name that pass a test.
use Rattle.std.proofs.Common.{◌≡◌, Bool, false, Option, None, Some, option_map, refl, sym, ap, ◌∙◌}
use Rattle.std.specs.Borrow.{Bor}
use Rattle.std.specs.Option.{option_map_or}
use Rattle.toml_edit_model.specs.Slots.{Slot, has_slot, lookup_slot, on_item, those}
use Rattle.toml_edit_model.specs.Slots as model
use Rattle.toml_edit_model.specs.Text.{Text}
use Rattle.toml_edit_model.specs.Tree.{Key, Node}
use Rattle.toml_edit_slots.specs.Seen.{pair_read, seen}
use Rattle.toml_edit_tree.specs.SlotsOf.{slot_read, slots_of}
use Rattle.toml_edit_tree.specs.View.{item_view}
use Rattle.toml_edit_tree.specs.declared.item.Item.{Item}
use Rattle.toml_edit_tree.specs.declared.table.Table.{Table, out-Table}
use Rattle.toml_edit_tree.specs.Indexed.{shown_slots}
use Rattle.toml_edit_tree.proofs.SlotsLaws.{apart-shown, has_slot-those, lookup_slot-of, table-shown}
use Rattle.toml_edit_tree.proofs.table.Table.item_under.Goals as goal

-- the slot that is found
slot : (k : Text) (t : Table) (o : Option (Bor Key × Bor Item)) → option_map pair_read o ≡ lookup_slot k (seen (out-Table t).slots)
    → lookup_slot k (shown_slots (out-Table t).slots) ≡ option_map slot_read o
slot k t o is = lookup_slot-of k (out-Table t).slots ∙ ap (option_map (on_item item_view)) (sym is) ∙ read o
  where
    read : (o : Option (Bor Key × Bor Item)) → option_map (on_item item_view) (option_map pair_read o) ≡ option_map slot_read o
    read None = refl
    read (Some p) = refl

passes : (k : Text) (t : Table) (o : Option (Bor Key × Bor Item)) → model.AreApart (seen (out-Table t).slots) → option_map pair_read o
    ≡ lookup_slot k (seen (out-Table t).slots)
    → (test : Node → Bool) → has_slot k (those test (slots_of t))
    ≡ option_map_or (λ (s : Slot Node). test s.item) (option_map slot_read o) false
passes k t o apart is test =
    ap (λ l. has_slot k (those test l)) (table-shown t)
    ∙ has_slot-those test k (shown_slots (out-Table t).slots) (apart-shown (out-Table t).slots apart)
    ∙ ap (λ p. option_map_or (λ (s : Slot Node). test s.item) p false) (slot k t o is)

pub returns-in_err-item : goal.returns-in_err-item
returns-in_err-item c test =
    ap (λ o. option_map_or (λ (x : Bor Item). test (item_view x.now)) o false) c.from_residual.ensures
    ∙ sym (passes c.args.key.now c.args.self.now c.get_key_value.result c.get_key_value.ensures.apart c.get_key_value.ensures.slot test
    ∙ ap (λ o. option_map_or (λ (s : Slot Node). test s.item) (option_map slot_read o) false) c.in_err-item.was)

pub returns : goal.returns
returns c test =
    sym (passes c.args.key.now c.args.self.now c.get_key_value.result c.get_key_value.ensures.apart c.get_key_value.ensures.slot test
    ∙ ap (λ o. option_map_or (λ (s : Slot Node). test s.item) (option_map slot_read o) false) c.in_ok-item.was)
