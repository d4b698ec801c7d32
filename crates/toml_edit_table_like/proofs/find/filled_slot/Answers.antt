-- The slot of a key, unless it is a placeholder.
use Rattle.std.proofs.Common.{◌≡◌, not, Option, None, Some, List, cond, option_and_then, option_map, refl, sym, ap, ◌∙◌}
use Rattle.std.specs.Borrow.{Bor}
use Rattle.toml_edit_model.specs.Lists.{is_item}
use Rattle.toml_edit_model.specs.Slots as model
use Rattle.toml_edit_model.specs.TableCalls.{get_slot}
use Rattle.toml_edit_model.specs.Text.{Text}
use Rattle.toml_edit_model.specs.Tree.{Key}
use Rattle.toml_edit_slots.specs.Seen.{pair_read, seen}
use Rattle.toml_edit_slots.specs.declared.slots.Slot.{Slot}
use Rattle.toml_edit_table_like.specs.Shown.{shown}
use Rattle.toml_edit_tree.specs.SlotsOf.{slot_read}
use Rattle.toml_edit_tree.specs.View.{item_view}
use Rattle.toml_edit_tree.specs.declared.item.Item.{Item}
use Rattle.toml_edit_table_like.proofs.ShownLaws.{apart-shown, lookup_slot-of}
use Rattle.toml_edit_table_like.proofs.find.filled_slot.Goals as goal
use Rattle.toml_edit_laws.proofs.slots.Those.{is_item-not, passing, found-those}

-- by the slot of any kind
found : (k : Text) (es : List (Slot Item)) (o : Option (Bor Key × Bor Item)) → model.AreApart (seen es) → option_map pair_read o
    ≡ model.lookup_slot k (seen es)
    → get_slot k (shown es) ≡ option_and_then (passing is_item k) (option_map slot_read o)
found k es o apart is =
    found-those is_item k (shown es) (apart-shown es apart)
    ∙ ap (option_and_then (passing is_item k)) (lookup_slot-of k es ∙ ap (option_map (model.on_item item_view)) (sym is) ∙ read o)
  where
    read : (o : Option (Bor Key × Bor Item)) → option_map (model.on_item item_view) (option_map pair_read o) ≡ option_map slot_read o
    read None = refl
    read (Some p) = refl

pub returns-in_err-key : goal.returns-in_err-key
returns-in_err-key c =
    ap (option_map slot_read) c.from_residual.ensures
    ∙ sym (found c.args.key.now c.args.slots.now c.get_key_value.result c.get_key_value.ensures.apart c.get_key_value.ensures.slot
    ∙ ap (λ o. option_and_then (passing is_item c.args.key.now) (option_map slot_read o)) c.in_err-key.was)

pub returns-then-is_none : goal.returns-then-is_none
returns-then-is_none c =
    sym (found c.args.key.now c.args.slots.now c.get_key_value.result c.get_key_value.ensures.apart c.get_key_value.ensures.slot
    ∙ ap (λ o. option_and_then (passing is_item c.args.key.now) (option_map slot_read o)) c.in_ok-key.was
    ∙ ap (λ b. cond b (Some (slot_read (c.in_ok-key.key, c.in_ok-key.item))) None) (sym (is_item-not _ _ c.is_none.ensures)
    ∙ ap not c.if-is_none.true))

pub returns-else-is_none : goal.returns-else-is_none
returns-else-is_none c =
    sym (found c.args.key.now c.args.slots.now c.get_key_value.result c.get_key_value.ensures.apart c.get_key_value.ensures.slot
    ∙ ap (λ o. option_and_then (passing is_item c.args.key.now) (option_map slot_read o)) c.in_ok-key.was
    ∙ ap (λ b. cond b (Some (slot_read (c.in_ok-key.key, c.in_ok-key.item))) None) (sym (is_item-not _ _ c.is_none.ensures)
    ∙ ap not c.if-is_none.false))
